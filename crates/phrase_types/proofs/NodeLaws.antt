-- A node's answer from its children's, one law for each way through the code: a fault of a child is the node's, and when
-- all children have types the node asks.
use mathlib.Core.Bool.{true}
use mathlib.Core.List.{List}
use mathlib.Core.Option.{some}
use mathlib.Core.Path.{◌≡◌, refl, sym, ap, subst, subst₂, ◌∙◌}
use Rattle.rules.specs.Asked.{Fault}
use Rattle.std.specs.Prelude.{Ok, Err}
use Prim.Native.Nat.{ℕ, zero, suc, ◌≤◌}
use native.Mathlib.Omega.{arith}
use Rattle.language.specs.Tokens.{Token, entry, NAME, LET, spelling_at}
use Rattle.language.specs.Trees.{Ty, Exp, Exps, Scope}
use Rattle.language.specs.Types.{Sig}
use Rattle.language.specs.Meaning.{type_number}
use Rattle.language.proofs.Executable.Checks.{ok, after_ok, after_bad}
use Rattle.language.proofs.Executable.Checker.{infer}
use Rattle.layout.specs.Table.{KIND, OWN, FIRST, SECOND, THIRD, token_value, row_word}
use Rattle.layout.specs.Rows.{CALL}
use Rattle.layout.specs.Decode.{Shape, a_name, a_follow, a_group, a_block, a_call, a_let, an_if, a_while, a_unary}
use Rattle.layout.specs.Decode.{a_binary, shape_of, children, counts, build, build_if, tree_at, args_at, Node, Right, RightArgs}
use Rattle.layout.specs.Names.{Named}
use Rattle.layout.proofs.NameLaws.{named_at}
use Rattle.layout.proofs.Shapes.{shape_kind, kind_of_shape, Parted, is_follow, is_while, is_let, is_binary, is_if, parted}
use Rattle.rules.specs.Sight.{find_variable}
use Rattle.rules.specs.Asked.{Tells, Children, Constant, AsksOne, AsksTwo, AsksIf}
use Rattle.phrase_types.specs.Inferred.{Stands, looked, Told}
use Rattle.rules.specs.Asked.{Typing}
use Rattle.rules.proofs.TellLaws.{type_is, fault_is, type_told, fault_told}
use Rattle.phrase_types.proofs.ScopeLaws.{look_tells, sight_few}

-- ---- a row as a node

-- what a whole row is: its parts, by its shape
module _ (f : ℕ) (ts : List Token) (p : List ℕ) (i : ℕ) (s : Shape) (known : shape_of (row_word p i KIND) ≡ some s) where
  -- a row's tree is its shape's node over the trees of its parts
  pub tree_is : tree_at (suc f) ts p i
      ≡ build ts s (row_word p i OWN) (tree_at f ts p (row_word p i FIRST)) (tree_at f ts p (row_word p i SECOND)) (tree_at f ts p
      (row_word p i THIRD)) (args_at f ts p (row_word p i FIRST))
  unfolding tree_at build_if
  tree_is = rw known refl

-- a kind that is one shape's
shape_one : (k : ℕ) (s q : Shape) → shape_of k ≡ some s → shape_of k ≡ some q → s ≡ q
shape_one k s q e d = cc

-- only an `if` has three children
if_is : (s : Shape) → Parted s 3 → s ≡ an_if
if_is s is_if = refl

-- a row that is no `let`
not_let : (k : ℕ) → (k ≡ LET → ⊥) → (s : Shape) → shape_of k ≡ some s → s ≡ a_let → ⊥
unfolding shape_kind
not_let k other s e d = other (kind_of_shape k s e ∙ ap shape_kind d)

-- ---- faults of children

module _ (ts : List Token) (Δ : Scope Sig) (Γ : Scope Ty) (i : ℕ) (a b c : Exp) (es : Exps) {fault : Fault} where
  -- the first child's is the node's
  first_wrong : (s : Shape) → 1 ≤ children s → Tells (Err fault) (infer Δ a Γ)
      → Tells (Err fault) (infer Δ (build ts s i a b c es) Γ)
  unfolding infer build
  first_wrong a_name l h = absurd (omega arith)
  first_wrong Shape.a_number l h = absurd (omega arith)
  first_wrong Shape.a_float l h = absurd (omega arith)
  first_wrong a_follow l h = fault_is (after_bad _ (fault_told h))
  first_wrong a_group l h = h
  first_wrong a_block l h = h
  first_wrong a_call l h = absurd (omega arith)
  first_wrong a_let l h = fault_is (after_bad _ (fault_told h))
  first_wrong an_if l h = fault_is (after_bad _ (fault_told h))
  first_wrong a_while l h = fault_is (after_bad _ (fault_told h))
  first_wrong (Shape.a_constant q) l h = absurd (omega arith)
  first_wrong (Shape.a_for m) l h = absurd (omega arith)
  first_wrong (a_unary o) l h = fault_is (after_bad _ (fault_told h))
  first_wrong (a_binary o) l h = fault_is (after_bad _ (fault_told h))

  -- and the second's, of a node whose children see the same
  second_wrong : (s : Shape) → Parted s 2 → (s ≡ a_let → ⊥) → {t : Ty} → infer Δ a Γ ≡ ok t → Tells (Err fault) (infer Δ b Γ)
      → Tells (Err fault) (infer Δ (build ts s i a b c es) Γ)
  unfolding infer build
  second_wrong s is_follow n e h = fault_is (after_ok _ e (after_bad _ (fault_told h)))
  second_wrong s is_while n e h = fault_is (after_ok _ e (after_bad _ (fault_told h)))
  second_wrong s is_let n e h = absurd (n refl)
  second_wrong s is_binary n e h = fault_is (after_ok _ e (after_bad _ (fault_told h)))

-- ---- what stands for a node stands for its children

-- a part stands in the same sight
pub stands_child : {p w : List ℕ} {node seen binds : ℕ} {ts : List Token} {Δ : Scope Sig} {Γ : Scope Ty} {f j k : ℕ}
    → Stands Right p w node seen binds ts k Δ Γ → Right f ts p j → Stands Right p w j seen binds ts f Δ Γ
stands_child st h = record { depth = st.depth; sight = st.sight; whole = h; scope = st.scope }

-- a node over its parts, as the words have them
abbrev pub over : ℕ → List Token → List ℕ → ℕ → Shape → Exp
over f ts p i s =
    build ts s (row_word p i OWN) (tree_at f ts p (row_word p i FIRST)) (tree_at f ts p (row_word p i SECOND)) (tree_at f ts p (row_word p i THIRD))
    (args_at f ts p (row_word p i FIRST))

module _ {p w : List ℕ} {node seen binds : ℕ} where
  -- it is enough to tell of a row with its parts
  told_node : {r : Typing}
      → ((ts : List Token) (f : ℕ) (Δ : Scope Sig) (Γ : Scope Ty) → Stands Right p w node seen binds ts (suc f) Δ Γ
      → (n : Node (λ j. Right f ts p j) (λ j. RightArgs f ts p j) ts p node) → Tells r (infer Δ (over f ts p node n.shape) Γ))
      → Told p w node seen binds r
  unfolding Right tree_at build_if
  told_node h ts zero Δ Γ st = absurd st.whole
  told_node h ts (suc f) Δ Γ st = rw st.whole.known (h ts f Δ Γ st st.whole)

  -- of a known shape
  pub told_shape : {r : Typing} (s : Shape) → shape_of (row_word p node KIND) ≡ some s
      → ((ts : List Token) (f : ℕ) (Δ : Scope Sig) (Γ : Scope Ty) → Stands Right p w node seen binds ts (suc f) Δ Γ
      → Node (λ j. Right f ts p j) (λ j. RightArgs f ts p j) ts p node → Tells r (infer Δ (over f ts p node s) Γ))
      → Told p w node seen binds r
  told_shape {r} s e h =
      told_node λ ts f Δ Γ st n.
      subst (λ (q : Shape). Tells r (infer Δ (over f ts p node q) Γ)) (shape_one (row_word p node KIND) s n.shape e n.known)
      (h ts f Δ Γ st n)

  module _ {m : ℕ} (has : Children (row_word p node KIND) m) where
    -- a fault of the first child
    pub first_stops : {fault : Fault} → 1 ≤ m → Told p w (row_word p node FIRST) seen binds (Err fault)
        → Told p w node seen binds (Err fault)
    first_stops l h =
        told_node λ ts f Δ Γ st n.
        let a : 1 ≤ children n.shape = let e = has n.shape n.known in omega arith in
        first_wrong ts Δ Γ _ _ _ _ _ n.shape a (h ts f Δ Γ (stands_child st (n.first a).1))

  -- ---- one child

  -- a node with one child asks
  pub one_goes : {k i n : ℕ} {r : Typing} → Children (row_word p node KIND) 1 → k ≡ row_word p node KIND → i ≡ row_word p node OWN
      → Told p w (row_word p node FIRST) seen binds (Ok n) → AsksOne k n i r → Told p w node seen binds r
  one_goes {n = n} {r = r} has ek ei h asks =
      told_node λ ts f Δ Γ st nd.
      let a = has nd.shape nd.known in
      let q = type_told (h ts f Δ Γ (stands_child st (nd.first (omega arith)).1)) in
      subst₂ (λ (k i : ℕ). AsksOne k n i r) ek ei asks ts nd.shape Δ Γ _ _ _ _ q.0 nd.known (sym a) q.1 q.2

  -- ---- two children

  module _ (has : Children (row_word p node KIND) 2) (other : row_word p node KIND ≡ LET
      → ⊥) {m : ℕ} (h : Told p w (row_word p node FIRST) seen binds (Ok m)) where
    -- a fault of the second
    pub second_stops : {fault : Fault} → Told p w (row_word p node SECOND) seen binds (Err fault)
        → Told p w node seen binds (Err fault)
    second_stops g =
        told_node λ ts f Δ Γ st nd.
        let a = has nd.shape nd.known in
        let q = type_told (h ts f Δ Γ (stands_child st (nd.first (omega arith)).1)) in
        second_wrong ts Δ Γ _ _ _ _ _ nd.shape (parted nd.shape (sym a)) (not_let _ other nd.shape nd.known) q.1
        (g ts f Δ Γ (stands_child st (nd.second (omega arith)).1))

    -- both have types: the node asks
    pub two_goes : {k i n : ℕ} {r : Typing} → k ≡ row_word p node KIND → i ≡ row_word p node OWN
        → Told p w (row_word p node SECOND) seen binds (Ok n) → AsksTwo k m n i r → Told p w node seen binds r
    two_goes {n = n} {r = r} ek ei g asks =
        told_node λ ts f Δ Γ st nd.
        let a = has nd.shape nd.known in
        let q = type_told (h ts f Δ Γ (stands_child st (nd.first (omega arith)).1)) in
        let u = type_told (g ts f Δ Γ (stands_child st (nd.second (omega arith)).1)) in
        subst₂ (λ (k i : ℕ). AsksTwo k m n i r) ek ei asks ts nd.shape Δ Γ _ _ _ _ q.0 u.0 nd.known (sym a) other q.1
        q.2 u.1 u.2

  -- ---- three children

  module _ (has : Children (row_word p node KIND) 3) {m : ℕ} (h : Told p w (row_word p node FIRST) seen binds (Ok m)) where
    if_shape : {r : Typing}
        → ((ts : List Token) (f : ℕ) (Δ : Scope Sig) (Γ : Scope Ty) → Stands Right p w node seen binds ts (suc f) Δ Γ
        → (b : Ty) → infer Δ (tree_at f ts p (row_word p node FIRST)) Γ ≡ ok b → m ≡ type_number b
        → Right f ts p (row_word p node SECOND) → Right f ts p (row_word p node THIRD) → Tells r (infer Δ (over f ts p node an_if) Γ))
        → Told p w node seen binds r
    if_shape {r} g =
        told_node λ ts f Δ Γ st nd.
        let a = has nd.shape nd.known in
        let q = type_told (h ts f Δ Γ (stands_child st (nd.first (omega arith)).1)) in
        subst (λ (s : Shape). Tells r (infer Δ (over f ts p node s) Γ)) (sym (if_is nd.shape (parted nd.shape (sym a))))
        (g ts f Δ Γ st q.0 q.1 q.2 (nd.second (omega arith)).1 (nd.third (omega arith)).1)

    -- a fault of the first branch
    pub then_stops : {fault : Fault} → Told p w (row_word p node SECOND) seen binds (Err fault)
        → Told p w node seen binds (Err fault)
    unfolding infer build
    then_stops g = if_shape λ ts f Δ Γ st b e k x y. fault_is (after_ok _ e (after_bad _ (fault_told (g ts f Δ Γ (stands_child st x)))))

    module _ {n : ℕ} (g : Told p w (row_word p node SECOND) seen binds (Ok n)) where
      -- of the second
      pub else_stops : {fault : Fault} → Told p w (row_word p node THIRD) seen binds (Err fault)
          → Told p w node seen binds (Err fault)
      unfolding infer build
      else_stops d =
          if_shape λ ts f Δ Γ st b e k x y.
          let q = type_told (g ts f Δ Γ (stands_child st x)) in
          fault_is (after_ok _ e (after_ok _ q.1 (after_bad _ (fault_told (d ts f Δ Γ (stands_child st y))))))

      -- all three have types: the `if` asks
      pub if_goes : {l i : ℕ} {r : Typing} → i ≡ row_word p node OWN → Told p w (row_word p node THIRD) seen binds (Ok l)
          → AsksIf m n l i r
          → Told p w node seen binds r
      unfolding build
      if_goes {l} {r = r} ei d asks =
          if_shape λ ts f Δ Γ st b e k x y.
          let q = type_told (g ts f Δ Γ (stands_child st x)) in
          let u = type_told (d ts f Δ Γ (stands_child st y)) in
          subst (λ (i : ℕ). AsksIf m n l i r) ei asks Δ Γ (tree_at f ts p (row_word p node FIRST)) (tree_at f ts p (row_word p node SECOND))
          (tree_at f ts p (row_word p node THIRD)) b q.0 u.0 e k q.1 q.2 u.1 u.2

  -- ---- a name, a constant

  -- a name is looked up
  pub name_goes : {x i : ℕ} → row_word p node KIND ≡ NAME → i ≡ row_word p node OWN → x ≡ token_value p (row_word p node OWN)
      → Told p w node seen binds (looked (find_variable w x binds) i)
  unfolding infer build shape_of entry
  name_goes k ei ex =
      told_shape a_name (ap shape_of k) λ ts f Δ Γ st nd.
      let h = named_at st.sight.stand (row_word p node OWN) (nd.named k) in
      rw ei (look_tells (sight_few st.sight) (subst (λ (z : ℕ). Named ts z (spelling_at ts (row_word p node OWN))) (sym ex) h)
      (row_word p node OWN) st.scope)

  -- a constant has its type
  pub constant_goes : {k n : ℕ} → k ≡ row_word p node KIND → Children (row_word p node KIND) 0 → (row_word p node KIND ≡ NAME → ⊥)
      → (row_word p node KIND ≡ CALL → ⊥) → (counts (row_word p node KIND) ≡ true → ⊥)
      → Constant k n → Told p w node seen binds (Ok n)
  constant_goes {n = n} ek has nn nc nf c =
      told_node λ ts f Δ Γ st nd.
      let q = subst (λ (k : ℕ). Constant k n) ek c ts nd.shape Δ Γ (row_word p node OWN) _ _ _ _ nd.known (sym (has nd.shape
      nd.known)) nn nc nf in
      type_is q.0 q.1 q.2
