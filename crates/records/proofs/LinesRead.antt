-- Lines of a name and a value each, one below the other: a value is found by its name.
use lib.Dec.{eqb}
use lib.ListN.{length}
use lib.Seq.{drop-append_seam}
use mathlib.Core.Bool.{Bool, true, false, cond, ◌&&◌}
use mathlib.Core.List.{List, [], ◌∷◌, ◌++◌, append_assoc, reverse-append}
use mathlib.Core.Logic.{⊎_elim}
use mathlib.Core.Option.{Option, none, some}
use mathlib.Core.Path.{◌≡◌, refl, sym, ap, subst, ◌∙◌}
use borrow.Author.Tests.{eq-eqb, eqb-true}
use native.Mathlib.Omega.{arith}
use Prim.Native.Nat.{ℕ, suc, ◌+◌}
use Rattle.language.proofs.Text.Choices.{outcome, clash, and_both}
use Rattle.page.specs.Fields.{starts_with, to_end, value_from, value_named}
use Rattle.page.specs.Lines.{feeds, ahead, behind}

-- the name has the blank behind it
pub record Line : Type 0 where
  pub name : List ℕ
  pub value : List ℕ

abbrev pub line : List ℕ → List ℕ → Line
line n v = record { name = n; value = v }

unfoldable pub text_of : List Line → List ℕ
text_of [] = []
text_of (l ∷ ls) = l.name ++ (l.value ++ (10 ∷ text_of ls))

-- no line feed in a name or a value
abbrev pub Clean : List Line → Type 0
Clean [] = Unit {0}
Clean (l ∷ ls) = (feeds l.name ≡ 0) × (feeds l.value ≡ 0) × Clean ls

-- ---- line feeds

quiet : (b : ℕ) (v : List ℕ) → feeds (b ∷ v) ≡ 0 → (eqb b 10 ≡ false) × (feeds v ≡ 0)
unfolding feeds
quiet b v h = ⊎_elim (λ e. absurd (loud e)) (λ e. (e, rw e at h)) (outcome (eqb b 10))
  where
    loud : eqb b 10 ≡ true → ⊥
    loud e = let z : suc (feeds v) ≡ 0 = rw e at h in omega arith

pub feeds_append : (a b : List ℕ) → feeds (a ++ b) ≡ feeds a + feeds b
unfolding feeds
feeds_append [] b = omega arith
feeds_append (x ∷ a) b = go (eqb x 10) (feeds (a ++ b)) (feeds a) (feeds b) (feeds_append a b)
  where
    go : (q : Bool) (m n k : ℕ) → m ≡ n + k → cond q (suc m) m ≡ cond q (suc n) n + k
    go true m n k e = omega arith
    go false m n k e = e

pub both_quiet : (a b : List ℕ) → feeds a ≡ 0 → feeds b ≡ 0 → feeds (a ++ b) ≡ 0
both_quiet a b h k = omega (arith, feeds_append a b)

pub as_many : (ls : List Line) → Clean ls → feeds (text_of ls) ≡ length ls
unfolding text_of feeds
as_many [] c = refl
as_many (l ∷ ls) c =
    let t = text_of ls in
    omega (arith, feeds_append l.name (l.value ++ (10 ∷ t)), feeds_append l.value (10 ∷ t), c.0, c.1, as_many ls c.2)

-- the last line has its end
record Ended (t : List ℕ) : Type 0 where
  front : List ℕ
  is : t ≡ front ++ (10 ∷ [])

ended : (l : Line) (ls : List Line) → Ended (text_of (l ∷ ls))
unfolding text_of
ended l [] = record { front = l.name ++ l.value; is = sym (append_assoc l.name l.value (10 ∷ [])) }
ended l (m ∷ ls) =
    let e = ended m ls in
    record {
      front = l.name ++ (l.value ++ (10 ∷ e.front));
      is = ap (λ (t : List ℕ). l.name ++ (l.value ++ (10 ∷ t))) e.is ∙ sym (again l.name l.value e.front);
    }
  where
    again : (a b f : List ℕ) → (a ++ (b ++ (10 ∷ f))) ++ (10 ∷ []) ≡ a ++ (b ++ (10 ∷ (f ++ (10 ∷ []))))
    again a b f = append_assoc a (b ++ (10 ∷ f)) (10 ∷ []) ∙ ap (λ (t : List ℕ). a ++ t) (append_assoc b (10 ∷ f) (10 ∷ []))

pub none_behind : (l : Line) (ls : List Line) → behind (text_of (l ∷ ls)) ≡ 0
unfolding behind ahead
none_behind l ls =
    let e = ended l ls in
    ap behind e.is ∙ ap ahead (reverse-append e.front (10 ∷ []))

-- ---- a line that has another name

passed : (name v rest : List ℕ) → feeds v ≡ 0 → value_from name false (v ++ (10 ∷ rest)) ≡ value_named name rest
unfolding value_from
passed name [] rest h = refl
passed name (b ∷ v) rest h = rw (quiet b v h).0 (passed name v rest (quiet b v h).1)

skipped : (name l rest : List ℕ) → feeds l ≡ 0 → starts_with name (l ++ (10 ∷ rest)) ≡ false
    → value_named name (l ++ (10 ∷ rest)) ≡ value_named name rest
unfolding value_from
skipped name [] rest h e = rw e refl
skipped name (b ∷ l) rest h e = rw (e, (quiet b l h).0) (passed name l rest (quiet b l h).1)

-- they differ at a place that both have
unfoldable pub apart : List ℕ → List ℕ → Bool
apart [] n = false
apart (b ∷ m) [] = false
apart (b ∷ m) (c ∷ n) = cond (eqb c b) (apart m n) true

apart_starts : (m n t : List ℕ) → apart m n ≡ true → starts_with m (n ++ t) ≡ false
unfolding apart starts_with
apart_starts [] n t h = absurd (clash h refl)
apart_starts (b ∷ m) [] t h = absurd (clash h refl)
apart_starts (b ∷ m) (c ∷ n) t h = go (eqb c b) (apart_starts m n t) h
  where
    go : (q : Bool) {x y : Bool} → (x ≡ true → y ≡ false) → cond q x true ≡ true → (q && y) ≡ false
    go true f h = f h
    go false f h = refl

-- ---- the line that has it

starts_self : (n t : List ℕ) → starts_with n (n ++ t) ≡ true
unfolding starts_with
starts_self [] t = refl
starts_self (b ∷ n) t = rw (eq-eqb b b refl) (starts_self n t)

up_to : (v rest : List ℕ) → feeds v ≡ 0 → to_end (v ++ (10 ∷ rest)) ≡ v
unfolding ahead
up_to [] rest h = refl
up_to (b ∷ v) rest h = rw (quiet b v h).0 (ap (λ (t : List ℕ). b ∷ t) (up_to v rest (quiet b v h).1))

hit : (name v rest : List ℕ) → feeds v ≡ 0 → value_named name (name ++ (v ++ (10 ∷ rest))) ≡ some v
unfolding value_from starts_with ahead
hit [] [] rest h = refl
hit [] (c ∷ v) rest h = ap some (up_to (c ∷ v) rest h)
hit (b ∷ n) v rest h =
    let t = v ++ (10 ∷ rest) in
    rw (eq-eqb b b refl, starts_self n t, drop-append_seam n t, up_to v rest h) refl

-- ---- among all

unfoldable pub same : List ℕ → List ℕ → Bool
same [] [] = true
same [] (c ∷ n) = false
same (b ∷ m) [] = false
same (b ∷ m) (c ∷ n) = eqb b c && same m n

same_is : (m n : List ℕ) → same m n ≡ true → m ≡ n
unfolding same
same_is [] [] h = refl
same_is [] (c ∷ n) h = absurd (clash h refl)
same_is (b ∷ m) [] h = absurd (clash h refl)
same_is (b ∷ m) (c ∷ n) h =
    let p = and_both (eqb b c) (same m n) h in
    λ i. eqb-true b c p.0 i ∷ same_is m n p.1 i

-- the value of the first line of a name, where no line before it could be taken for it
unfoldable pub look : List ℕ → List Line → Option (List ℕ)
look name [] = none
look name (l ∷ ls) = cond (apart name l.name) (look name ls) (cond (same name l.name) (some l.value) none)

never : {A B : Type 0} {x : A} → ◌≡◌ {A = Option A} none (some x) → B
never {A} e = absurd (subst is_none e tt)
  where
    is_none : Option A → Type 0
    is_none none = Unit {0}
    is_none (some x) = ⊥

module _ (name : List ℕ) where
  other : (l : Line) (rest : List ℕ) → feeds l.name ≡ 0 → feeds l.value ≡ 0 → apart name l.name ≡ true
      → value_named name (l.name ++ (l.value ++ (10 ∷ rest))) ≡ value_named name rest
  other l rest c d h =
      let whole = l.name ++ l.value in
      let join : l.name ++ (l.value ++ (10 ∷ rest)) ≡ whole ++ (10 ∷ rest) = sym (append_assoc l.name l.value (10 ∷ rest)) in
      let none_here : starts_with name (whole ++ (10 ∷ rest)) ≡ false =
      ap (starts_with name) (sym join) ∙ apart_starts name l.name (l.value ++ (10 ∷ rest)) h in
      ap (value_named name) join ∙ skipped name whole rest (both_quiet l.name l.value c d) none_here

  this : (l : Line) (rest : List ℕ) → feeds l.value ≡ 0 → same name l.name ≡ true
      → value_named name (l.name ++ (l.value ++ (10 ∷ rest))) ≡ some l.value
  this l rest d k =
      ap (λ (m : List ℕ). value_named name (m ++ (l.value ++ (10 ∷ rest)))) (sym (same_is name l.name k))
      ∙ hit name l.value rest d

  pub found : (ls : List Line) {v : List ℕ} → Clean ls → look name ls ≡ some v → value_named name (text_of ls) ≡ some v
  unfolding look text_of
  found [] c e = never e
  found (l ∷ ls) {v} c e =
      ⊎_elim
      (λ (h : apart name l.name ≡ true).
      let further : look name ls ≡ some v = rw h at e in
      other l (text_of ls) c.0 c.1 h ∙ found ls c.2 further)
      (λ (h : apart name l.name ≡ false).
      let here : cond (same name l.name) (some l.value) none ≡ some v = rw h at e in
      ⊎_elim
      (λ (k : same name l.name ≡ true).
      let value : ◌≡◌ {A = Option (List ℕ)} (some l.value) (some v) = rw k at here in
      this l (text_of ls) c.1 k ∙ value)
      (λ (k : same name l.name ≡ false).
      let strange : ◌≡◌ {A = Option (List ℕ)} none (some v) = rw k at here in
      never strange)
      (outcome (same name l.name)))
      (outcome (apart name l.name))
