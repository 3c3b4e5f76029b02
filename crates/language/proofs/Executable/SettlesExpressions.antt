-- What settles each production of an expression, by what settles its parts; and what makes it fail. Each law
-- says what stands there; of a part "or none" the answer is handed on, whether it was got or failed.
use mathlib.Core.Path.{◌≡◌, refl, sym, ◌∙◌}
use mathlib.Core.Bool.{Bool, true, false}
use mathlib.Core.List.{List}
use mathlib.Core.Option.{none}
use Prim.Native.Nat.{ℕ, zero, suc, ◌+◌, ◌≤◌}
use native.Mathlib.Omega.{arith}
use borrow.Author.Tests.{eq-eqb}
use Rattle.language.specs.Tokens.{Token, At, Means, entry, kind_at, value_at, spelling_at, NAME, NUMBER, FLOAT_NUMBER, LET}
use Rattle.language.specs.Tokens.{IN, WHILE, IF, THEN, ELSE, BECOMES, IS, SEMI, COMMA, LPAR, RPAR, LBRACE, RBRACE, FOR}
use Rattle.language.specs.Decimals.{float_of}
use Rattle.language.specs.Trees.{Literal, whole, decimal, Unary, Binary, Exp, name, literal, unary}
use Rattle.language.specs.Trees.{binary, follow, group, block, call, bind, branch, loop, Exps, last, more}
use Rattle.language.specs.Grammar.{or, un, chain, tier, seq, bound, assign, atom, actuals, args, prefixes, constants, counting}
use Rattle.language.proofs.Executable.Parses.{Result, failed, got, made, made_past, then, test, look, need}
use Rattle.language.proofs.Executable.Parser.{read, clause, until, closed, is, step, parse}
use Rattle.language.proofs.Executable.Settles.{Settles, other, settle₀, settle₁, settle₂, settle₃}

-- to add an argument in front before `)` is looked for, or behind it, is one
add_first : (ts : List Token) (x : Exp) (r : Result Exps) → then (made r (more x)) (λ es k. need (is ts k RPAR) k λ _. got es (k + 1)) ≡
    made (then r λ es k. need (is ts k RPAR) k λ _. got es (k + 1)) (more x)
unfolding then need
add_first ts x (failed e) = refl
add_first ts x (got es k) = go (is ts k RPAR)
  where
    go : (b : Bool) → need b k (λ _. got (more x es) (k + 1)) ≡ made (need b k λ _. got es (k + 1)) (more x)
    go true = refl
    go false = refl

module _ {ts : List Token} where
  -- ---- a Seq and the token behind it

  -- no Seq
  pub until_failed : {i k e : ℕ} → Settles ts (read seq) i (failed e) → Settles ts (until k) i (failed e)
  unfolding step then
  until_failed x = settle₁ x λ f p. rw p

  -- a Seq, and the token
  pub until_got : {i k m : ℕ} {x : Exp} → Settles ts (read seq) i (got x m) → At ts m k → Settles ts (until k) i (got x m)
  unfolding step then need
  until_got {k = k} x a = settle₁ x λ f p. rw (p, a, eq-eqb k k refl)

  -- a Seq, and another token
  pub until_other : {i k m : ℕ} {x : Exp} → Settles ts (read seq) i (got x m) → (At ts m k → ⊥) → Settles ts (until k) i (failed m)
  unfolding step then need
  until_other {k = k} {m = m} x a = settle₁ x λ f p. rw (p, other ts m k a)

  -- ---- Seq

  -- no clause
  pub seq_failed : {i e : ℕ} → Settles ts clause i (failed e) → Settles ts (read seq) i (failed e)
  unfolding step then
  seq_failed x = settle₁ x λ f p. rw p

  -- a clause, and no `;`
  pub seq_one : {i m : ℕ} {x : Exp} → Settles ts clause i (got x m) → (At ts m SEMI → ⊥) → Settles ts (read seq) i (got x m)
  unfolding step test then
  seq_one {m = m} x b = settle₁ x λ f p. rw (p, other ts m SEMI b)

  -- a clause, `;`, and another Seq or none
  pub seq_more : {i m : ℕ} {x : Exp} {r : Result Exp} → Settles ts clause i (got x m) → At ts m SEMI
      → Settles ts (read seq) (m + 1) r → Settles ts (read seq) i (made r (follow m x))
  unfolding step test then
  seq_more x b y = settle₂ x y λ f p q. rw (p, b, q)

  -- ---- Let

  -- no `let`
  pub let_other : {i : ℕ} → (At ts i LET → ⊥) → Settles ts (read bound) i (failed i)
  unfolding step need
  let_other {i} a = settle₀ λ f. rw (other ts i LET a)

  module _ {i : ℕ} (a : At ts i LET) where
    -- no name behind `let`
    pub let_name : (At ts (i + 1) NAME → ⊥) → Settles ts (read bound) i (failed (i + 1))
    unfolding step need
    let_name b = settle₀ λ f. rw (a, other ts (i + 1) NAME b)

    module _ (b : At ts (i + 1) NAME) where
      -- no `=` behind the name
      pub let_is : (At ts (i + 2) IS → ⊥) → Settles ts (read bound) i (failed (i + 2))
      unfolding step need
      let_is c = settle₀ λ f. rw (a, b, other ts (i + 2) IS c)

      module _ (c : At ts (i + 2) IS) where
        -- no Seq, or no `in` behind it
        pub let_failed : {e : ℕ} → Settles ts (until IN) (i + 3) (failed e) → Settles ts (read bound) i (failed e)
        unfolding step need then
        let_failed x = settle₁ x λ f p. rw (a, b, c, p)

        -- all up to `in`, and another Seq or none
        pub let_in : {m : ℕ} {x : Exp} {r : Result Exp} → Settles ts (until IN) (i + 3) (got x m)
            → Settles ts (read seq) (m + 1) r → Settles ts (read bound) i (made r (bind i (spelling_at ts (i + 1)) x))
        unfolding step need then
        let_in x y = settle₂ x y λ f p q. rw (a, b, c, p, q)

  -- ---- Tail and Item

  -- a Let or none
  pub clause_let : {i : ℕ} {r : Result Exp} → At ts i LET → Settles ts (read bound) i r → Settles ts clause i r
  unfolding step test
  clause_let a x = settle₁ x λ f p. rw (a, p)

  module _ {i : ℕ} (a : At ts i IF) where
    -- no Seq, or no `then` behind it
    pub if_failed : {e : ℕ} → Settles ts (until THEN) (i + 1) (failed e) → Settles ts clause i (failed e)
    unfolding step test then
    if_failed x = settle₁ x λ f p. rw (a, p)

    module _ {m : ℕ} {c : Exp} (x : Settles ts (until THEN) (i + 1) (got c m)) where
      -- no second Seq, or no `else` behind it
      pub then_failed : {e : ℕ} → Settles ts (until ELSE) (m + 1) (failed e) → Settles ts clause i (failed e)
      unfolding step test then
      then_failed y = settle₂ x y λ f p q. rw (a, p, q)

      -- all up to `else`, and another clause or none
      pub if_else : {k : ℕ} {t : Exp} {r : Result Exp} → Settles ts (until ELSE) (m + 1) (got t k)
          → Settles ts clause (k + 1) r → Settles ts clause i (made r (branch i c t))
      unfolding step test then
      if_else y z = settle₃ x y z λ f p q s. rw (a, p, q, s)

  module _ {i : ℕ} (a : At ts i WHILE) where
    -- no Seq, or no `{` behind it
    pub while_failed : {e : ℕ} → Settles ts (until LBRACE) (i + 1) (failed e) → Settles ts clause i (failed e)
    unfolding step test then
    while_failed x = settle₁ x λ f p. rw (a, p)

    -- all up to `{`, and a Seq with `}` or none
    pub while_block : {m : ℕ} {c : Exp} {r : Result Exp} → Settles ts (until LBRACE) (i + 1) (got c m)
        → Settles ts (until RBRACE) (m + 1) r → Settles ts clause i (made_past r λ x. loop i c (block m x))
    unfolding step test then
    while_block x y = settle₂ x y λ f p q. rw (a, p, q)

  -- a For or none
  pub clause_for : {i : ℕ} {r : Result Exp} → At ts i FOR → Settles ts (read counting) i r → Settles ts clause i r
  unfolding step test
  clause_for a x = settle₁ x λ f p. rw (a, p)

  -- an Assign or none
  pub clause_assign : {i : ℕ} {r : Result Exp} → (At ts i LET → ⊥) → (At ts i IF → ⊥) → (At ts i WHILE → ⊥) → (At ts i FOR → ⊥)
      → Settles ts (read assign) i r → Settles ts clause i r
  unfolding step test
  clause_assign {i} a b c d x = settle₁ x λ f p. rw (other ts i LET a, other ts i IF b, other ts i WHILE c, other ts i FOR d, p)

  -- ---- Assign

  -- no Or
  pub assign_failed : {i e : ℕ} → Settles ts (read (tier (chain or))) i (failed e) → Settles ts (read assign) i (failed e)
  unfolding step then
  assign_failed x = settle₁ x λ f p. rw p

  -- an Or, and no `:=`
  pub assign_one : {i m : ℕ} {x : Exp} → Settles ts (read (tier (chain or))) i (got x m) → (At ts m BECOMES → ⊥)
      → Settles ts (read assign) i (got x m)
  unfolding step then test
  assign_one {m = m} x a = settle₁ x λ f p. rw (p, other ts m BECOMES a)

  -- an Or, `:=`, and another Or or none
  pub assign_to : {i m : ℕ} {x : Exp} {r : Result Exp} → Settles ts (read (tier (chain or))) i (got x m) → At ts m BECOMES
      → Settles ts (read (tier (chain or))) (m + 1) r → Settles ts (read assign) i (made r (binary m Binary.assign x))
  unfolding step then test
  assign_to x a y = settle₂ x y λ f p q. rw (p, a, q)

  -- ---- Un

  -- a prefix, and another Un or none
  pub un_prefix : {i : ℕ} {o : Unary} {r : Result Exp} → Means ts i prefixes o
      → Settles ts (read (tier un)) (i + 1) r → Settles ts (read (tier un)) i (made r (unary i o))
  unfolding step look
  un_prefix a x = settle₁ x λ f p. rw (a, p)

  -- no prefix, and an Atom or none
  pub un_atom : {i : ℕ} {r : Result Exp} → entry prefixes (kind_at ts i) ≡ none
      → Settles ts (read atom) i r → Settles ts (read (tier un)) i r
  unfolding step look
  un_atom a x = settle₁ x λ f p. rw (a, p)

  -- ---- Atom

  -- a constant
  pub atom_constant : {i : ℕ} {l : Literal} → Means ts i constants l → Settles ts (read atom) i (got (literal i l) (i + 1))
  unfolding step look
  atom_constant a = settle₀ λ f. rw a

  -- a number
  pub atom_number : {i : ℕ} → At ts i NUMBER → Settles ts (read atom) i (got (literal i (whole (value_at ts i))) (i + 1))
  unfolding step look test entry
  atom_number a = settle₀ λ f. rw a

  -- a float number
  pub atom_float : {i : ℕ} → At ts i FLOAT_NUMBER → Settles ts (read atom) i (got (literal i (decimal (float_of (spelling_at ts i)))) (i + 1))
  unfolding step look test entry
  atom_float a = settle₀ λ f. rw a

  -- a name, and no `(`
  pub atom_name : {i : ℕ} → At ts i NAME → (At ts (i + 1) LPAR → ⊥) → Settles ts (read atom) i (got (name i (spelling_at ts i)) (i + 1))
  unfolding step look test entry
  atom_name {i} a b = settle₀ λ f. rw (a, other ts (i + 1) LPAR b)

  -- a name, `(`, and Actuals or none
  pub atom_call : {i : ℕ} {r : Result Exps} → At ts i NAME → At ts (i + 1) LPAR
      → Settles ts (read actuals) (i + 2) r → Settles ts (read atom) i (made r (call i (spelling_at ts i)))
  unfolding step look test entry
  atom_call a b x = settle₁ x λ f p. rw (a, b, p)

  -- `(`, and a Seq with `)` or none
  pub atom_group : {i : ℕ} {r : Result Exp} → At ts i LPAR → Settles ts (until RPAR) (i + 1) r
      → Settles ts (read atom) i (made_past r (group i))
  unfolding step look test entry
  atom_group a x = settle₁ x λ f p. rw (a, p)

  -- `{`, and a Seq with `}` or none
  pub atom_block : {i : ℕ} {r : Result Exp} → At ts i LBRACE → Settles ts (until RBRACE) (i + 1) r
      → Settles ts (read atom) i (made_past r (block i))
  unfolding step look test need entry
  atom_block a x = settle₁ x λ f p. rw (a, p)

  -- no token that an Atom begins with
  pub atom_other : {i : ℕ} → entry constants (kind_at ts i) ≡ none → (At ts i NUMBER → ⊥) → (At ts i FLOAT_NUMBER → ⊥) → (At ts i NAME → ⊥) → (At ts i LPAR → ⊥)
      → (At ts i LBRACE → ⊥) → Settles ts (read atom) i (failed i)
  unfolding step look test need
  atom_other {i} a b n c d e = settle₀ λ f. rw (a, other ts i NUMBER b, other ts i FLOAT_NUMBER n, other ts i NAME c, other ts i LPAR d, other ts i LBRACE e)

  -- ---- the arguments of a call

  -- `)` at once
  pub actuals_none : {i : ℕ} → At ts i RPAR → Settles ts (read actuals) i (got last (i + 1))
  unfolding step test
  actuals_none a = settle₀ λ f. rw a

  -- no `)`, and Args with `)` or none
  pub actuals_some : {i : ℕ} {r : Result Exps} → (At ts i RPAR → ⊥) → Settles ts closed i r → Settles ts (read actuals) i r
  unfolding step test
  actuals_some {i} a x = settle₁ x λ f p. rw (other ts i RPAR a, p)

  args_failed : {i e : ℕ} → Settles ts (read seq) i (failed e) → Settles ts (read args) i (failed e)
  unfolding step then
  args_failed x = settle₁ x λ f p. rw p

  args_one : {i m : ℕ} {x : Exp} → Settles ts (read seq) i (got x m) → (At ts m COMMA → ⊥) → Settles ts (read args) i (got (more x last) m)
  unfolding step then test
  args_one {m = m} x a = settle₁ x λ f p. rw (p, other ts m COMMA a)

  -- Args and `)`: the first argument decides, and the token behind it
  -- no Seq
  pub closed_failed : {i e : ℕ} → Settles ts (read seq) i (failed e) → Settles ts closed i (failed e)
  unfolding step then
  closed_failed x = settle₁ (args_failed x) λ f p. rw p

  -- a Seq, and `)`
  pub closed_one : {i m : ℕ} {x : Exp} → Settles ts (read seq) i (got x m) → At ts m RPAR → Settles ts closed i (got (more x last) (m + 1))
  unfolding step then need
  closed_one x a = settle₁ (args_one x λ e. let z = sym a ∙ e in omega arith) λ f p. rw (p, a)

  -- a Seq, and neither `,` nor `)`
  pub closed_other : {i m : ℕ} {x : Exp} → Settles ts (read seq) i (got x m) → (At ts m COMMA → ⊥) → (At ts m RPAR → ⊥)
      → Settles ts closed i (failed m)
  unfolding step then need
  closed_other {m = m} x a b = settle₁ (args_one x a) λ f p. rw (p, other ts m RPAR b)

  -- a Seq, `,`, and Args with `)` or none
  pub closed_more : {i m : ℕ} {x : Exp} {r : Result Exps} → Settles ts (read seq) i (got x m) → At ts m COMMA
      → Settles ts closed (m + 1) r → Settles ts closed i (made r (more x))
  unfolding parse step then test
  closed_more {i} {m} {x} {r} p a q = record { enough = p.enough + q.enough + 2; holds = from }
    where
      from : (f : ℕ) → p.enough + q.enough + 2 ≤ f → parse ts f closed i ≡ made r (more x)
      from zero h = absurd (omega arith)
      from (suc zero) h = absurd (omega arith)
      from (suc (suc n)) h =
          rw (p.holds n (omega arith), a) (rw (← q.holds (suc n) (omega arith)) (add_first ts x (parse ts n (read args) (m + 1))))
