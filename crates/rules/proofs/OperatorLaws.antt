-- What operators answer by the numbers of their operands' types, one law for each way through the code.
use mathlib.Core.Option.{none, some}
use mathlib.Core.Path.{◌≡◌, refl, sym, ap, subst, ◌∙◌}
use Rattle.std.specs.Prelude.{Ok, Err}
use mathlib.Core.Bool.{true, false}
use lib.Dec.{eqb}
use borrow.Author.Tests.{eqb-true, eqb-false}
use Prim.Native.Nat.{ℕ, ◌+◌, ◌-◌, ◌≤◌, ◌<◌}
use native.Mathlib.Decide.{dec_lt}
use native.Mathlib.Omega.{arith}
use Rattle.language.specs.Sizes.{REFS}
use Rattle.language.specs.Tokens.{BECOMES}
use Rattle.language.specs.Trees.{Ty, int, bool, unit, float, ref, refs, TyDiscrete, Unary, minus, not}
use Rattle.language.specs.Trees.{fetch, new, Binary, add, sub, mul, div, less, equal, and, or, assign}
use Rattle.language.specs.Faults.{unsuited, wrong_operands}
use Rattle.language.specs.Meaning.{type_number}
use Rattle.language.proofs.Types.TypeNumbers.{one_number, number_refs}
use Rattle.language.proofs.Executable.Checks.{ok, bad, told, told_some, told_none}
use Rattle.language.proofs.Executable.Operators.{if_yes, arithmetic, both, unop, binop}
use Rattle.layout.specs.Types.{REF, FULL}
use Rattle.layout.specs.Rows.{unary_kind, binary_kind}
use Rattle.rules.specs.Asked.{Typing, Tells, Prefixed, Between, as_arithmetic, operand, result, Operand, Result}
use Rattle.numbers.specs.declared.Reason.TheVariants.{WrongOperands}
use Rattle.rules.proofs.TellLaws.{type_is, fault_is, tells_as}

-- ---- types by their numbers

module _ (t u : Ty) {m n : ℕ} (p : m ≡ type_number t) (q : n ≡ type_number u) where
  -- equal numbers are equal types
  pub is_type : eqb m n ≡ true → t ≡ u
  is_type e = one_number t u (sym p ∙ eqb-true _ _ e ∙ q)

  -- and different numbers different types
  pub isnt_type : eqb m n ≡ false → t ≡ u → ⊥
  isnt_type h e = eqb-false _ _ h (p ∙ ap type_number e ∙ sym q)

-- ---- what is asked holds or does not

-- where a statement holds its type is given
pub if_is : {A : Type 0} (d : Dec A) (t : Ty) → A → if_yes d t ≡ some t
unfolding if_yes
if_is (yes p) t a = refl
if_is (no p) t a = absurd (p a)

-- and else none
pub if_not : {A : Type 0} (d : Dec A) (t : Ty) → (A → ⊥) → if_yes d t ≡ none
unfolding if_yes
if_not (yes p) t h = absurd (h p)
if_not (no p) t h = refl

-- where both hold their type is given
pub both_are : {A B : Type 0} (d : Dec A) (e : Dec B) (t : Ty) → A → B → both d e t ≡ some t
unfolding both
both_are (yes p) e t a b = if_is e t b
both_are (no p) e t a b = absurd (p a)

-- and else none
pub both_not : {A B : Type 0} (d : Dec A) (e : Dec B) (t : Ty) → (A → B → ⊥) → both d e t ≡ none
unfolding both
both_not (yes p) e t h = if_not e t (h p)
both_not (no p) e t h = refl

-- ---- before an operand

module _ {n : ℕ} (i : ℕ) (t : Ty) (p : n ≡ type_number t) where
  -- what a reference holds
  pub fetch_some : REF < n → Tells (Ok (n - REF)) (told (unop fetch t) (unsuited fetch) i)
  unfolding unop type_number told
  fetch_some = go t p
    where
      go : (t : Ty) → n ≡ type_number t → REF < n → Tells (Ok (n - REF)) (told (unop fetch t) (unsuited fetch) i)
      go int p h = absurd (omega arith)
      go bool p h = absurd (omega arith)
      go unit p h = absurd (omega arith)
      go float p h = absurd (omega arith)
      go (ref u) p h = type_is u refl (omega arith)

  -- and nothing else holds anything
  pub fetch_none : n ≤ REF → told (unop fetch t) (unsuited fetch) i ≡ bad (unsuited fetch) i
  unfolding unop type_number told
  fetch_none = go t p
    where
      go : (t : Ty) → n ≡ type_number t → n ≤ REF → told (unop fetch t) (unsuited fetch) i ≡ bad (unsuited fetch) i
      go int p h = refl
      go bool p h = refl
      go unit p h = refl
      go float p h = refl
      go (ref u) p h = let k = number_refs u in absurd (omega (arith, k.0))

  -- one `ref` more, where there is room for it
  pub new_some : n < FULL → Tells (Ok (n + REF)) (told (unop new t) (unsuited new) i)
  unfolding unop type_number
  new_some h =
      let k = number_refs t in
      type_is (ref t) (told_some _ _ (if_is (dec_lt (refs t) REFS) (ref t) (omega (arith, k.0)))) (omega arith)

  -- and else too many
  pub new_none : FULL ≤ n → told (unop new t) (unsuited new) i ≡ bad (unsuited new) i
  unfolding unop
  new_none h = let k = number_refs t in told_none _ _ (if_not (dec_lt (refs t) REFS) (ref t) (λ l. omega (arith, k.1)))

unary_one : (o q : Unary) → unary_kind o ≡ unary_kind q → o ≡ q
unfolding unary_kind
unary_one minus minus e = refl
unary_one minus not e = absurd (omega arith)
unary_one minus fetch e = absurd (omega arith)
unary_one minus new e = absurd (omega arith)
unary_one not minus e = absurd (omega arith)
unary_one not not e = refl
unary_one not fetch e = absurd (omega arith)
unary_one not new e = absurd (omega arith)
unary_one fetch minus e = absurd (omega arith)
unary_one fetch not e = absurd (omega arith)
unary_one fetch fetch e = refl
unary_one fetch new e = absurd (omega arith)
unary_one new minus e = absurd (omega arith)
unary_one new not e = absurd (omega arith)
unary_one new fetch e = absurd (omega arith)
unary_one new new e = refl

module _ {k n : ℕ} (i : ℕ) {r : Typing} where
  -- a kind that is one operator's
  pub prefixed : (q : Unary) → k ≡ unary_kind q → ((t : Ty) → n ≡ type_number t → Tells r (told (unop q t) (unsuited q) i))
      → Prefixed k n i r
  prefixed q e h o t d p =
      subst (λ (o : Unary). Tells r (told (unop o t) (unsuited o) i)) (unary_one q o (sym e ∙ d)) (h t p)

  -- a kind that is no other's is that of `ref`
  pub prefixed_new : (k ≡ unary_kind minus → ⊥) → (k ≡ unary_kind not → ⊥) → (k ≡ unary_kind fetch → ⊥)
      → ((t : Ty) → n ≡ type_number t → Tells r (told (unop new t) (unsuited new) i)) → Prefixed k n i r
  prefixed_new a b c h minus t d p = absurd (a d)
  prefixed_new a b c h not t d p = absurd (b d)
  prefixed_new a b c h fetch t d p = absurd (c d)
  prefixed_new a b c h new t d p = h t p

-- ---- between two operands

module _ {m n : ℕ} (i : ℕ) (t u : Ty) (p : m ≡ type_number t) (q : n ≡ type_number u) where
  -- a reference to what is assigned
  pub assign_some : REF < m → m - REF ≡ n → told (binop assign t u) wrong_operands i ≡ ok unit
  unfolding binop type_number
  assign_some = go t p
    where
      go : (t : Ty) → m ≡ type_number t → REF < m → m - REF ≡ n → told (binop assign t u) wrong_operands i ≡ ok unit
      go int p h e = absurd (omega arith)
      go bool p h e = absurd (omega arith)
      go unit p h e = absurd (omega arith)
      go float p h e = absurd (omega arith)
      go (ref v) p h e = told_some _ _ (if_is (TyDiscrete v u) unit (one_number v u (omega arith)))

  -- and nothing else can be assigned to
  pub assign_none : (REF < m → m - REF ≡ n → ⊥) → told (binop assign t u) wrong_operands i ≡ bad wrong_operands i
  unfolding binop type_number
  assign_none = go t p
    where
      go : (t : Ty) → m ≡ type_number t → (REF < m → m - REF ≡ n → ⊥) → told (binop assign t u) wrong_operands i ≡ bad wrong_operands i
      go int p h = told_none _ _ refl
      go bool p h = told_none _ _ refl
      go unit p h = told_none _ _ refl
      go float p h = told_none _ _ refl
      go (ref v) p h =
          let k = number_refs v in
          told_none _ _ (if_not (TyDiscrete v u) unit (λ e. h (omega (arith, k.0)) (omega (arith, ap type_number e))))

-- arithmetic wants one type of both, which the first tells
arithmetic_both : (t u v : Ty)
    → both (arithmetic t) (TyDiscrete u t) v ≡ both (TyDiscrete t (as_arithmetic t)) (TyDiscrete u (as_arithmetic t)) v
unfolding arithmetic both
arithmetic_both int u v = refl
arithmetic_both bool u v = refl
arithmetic_both unit u v = refl
arithmetic_both float u v = refl
arithmetic_both (ref t) u v = refl

-- so does every other operator but `:=`
pub binop_both : (o : Binary) → (o ≡ assign → ⊥) → (t u : Ty)
    → binop o t u ≡ both (TyDiscrete t (operand o t)) (TyDiscrete u (operand o t)) (result o t)
unfolding binop
binop_both add h t u = arithmetic_both t u t
binop_both sub h t u = arithmetic_both t u t
binop_both mul h t u = arithmetic_both t u t
binop_both div h t u = arithmetic_both t u t
binop_both less h t u = arithmetic_both t u bool
binop_both equal h t u = refl
binop_both and h t u = refl
binop_both or h t u = refl
binop_both assign h t u = absurd (h refl)

not_assign : (k : ℕ) → (k ≡ BECOMES → ⊥) → (o : Binary) → k ≡ binary_kind o → o ≡ assign → ⊥
unfolding binary_kind
not_assign k other o d e = other (d ∙ ap binary_kind e)

module _ {k m n : ℕ} (i : ℕ) {r : Typing} where
  -- a kind that is that of `:=`
  pub between_assign : k ≡ BECOMES → ((t u : Ty) → m ≡ type_number t → n ≡ type_number u
      → Tells r (told (binop assign t u) wrong_operands i))
      → Between k m n i r
  unfolding binary_kind
  between_assign e h add t u d p q = absurd (omega arith)
  between_assign e h sub t u d p q = absurd (omega arith)
  between_assign e h mul t u d p q = absurd (omega arith)
  between_assign e h div t u d p q = absurd (omega arith)
  between_assign e h less t u d p q = absurd (omega arith)
  between_assign e h equal t u d p q = absurd (omega arith)
  between_assign e h and t u d p q = absurd (omega arith)
  between_assign e h or t u d p q = absurd (omega arith)
  between_assign e h assign t u d p q = h t u p q

module _ {k m n : ℕ} (i : ℕ) (other : k ≡ BECOMES → ⊥) {v : ℕ} (wants : Operand k m v) where
  -- both operands of the type that the operator wants
  pub between_fine : {x : ℕ} → Result k m x → m ≡ v → n ≡ v
      → Between k m n i (Ok x)
  between_fine gives a b o t u d p q =
      let h = not_assign k other o d in
      let w = wants o t h d p in
      type_is (result o t) (told_some _ _ (binop_both o h t u
      ∙ both_are _ _ _ (one_number t (operand o t) (sym p ∙ a ∙ w)) (one_number u (operand o t) (sym q ∙ b ∙ w)))) (gives o t h d p)

  -- or not both
  pub between_other : (m ≡ v → n ≡ v → ⊥) → {r : Typing} → r ≡ Err record { why = WrongOperands; place = i } → Between k m n i r
  between_other a e o t u d p q =
      let h = not_assign k other o d in
      let w = wants o t h d p in
      tells_as (sym e) (fault_is (told_none _ _ (binop_both o h t u ∙ both_not _ _ _ λ x y. a (p ∙ ap type_number x ∙ sym w) (q ∙ ap type_number y ∙ sym w))))
