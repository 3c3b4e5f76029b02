-- What settles a type, parameters, a function and a program, by what settles their parts; and what makes them fail. Each law
-- says what stands there; of a part "or none" the answer is handed on, whether it was got or failed.
use mathlib.Core.Path.{◌≡◌}
use mathlib.Core.List.{List, [], ◌∷◌}
use mathlib.Core.Option.{none}
use Prim.Native.Nat.{ℕ, ◌+◌}
use lib.ListN.{length}
use borrow.Author.Tests.{ne_eqb, eq-eqb}
use Rattle.language.specs.Tokens.{Token, At, Means, entry, kind_at, NAME, DEF, REF, COMMA, COLON, LPAR, RPAR, LBRACE, RBRACE}
use Rattle.language.specs.Trees.{Ty, ref, Exp, block, Param, Def, Program}
use Rattle.language.specs.Grammar.{program, def, formals, params, type, seq, basics, param, define, before}
use Rattle.language.proofs.Executable.Parses.{Result, failed, got, made, made_past, then, test, look, need}
use Rattle.language.proofs.Executable.Parser.{read, refs, until, result, entire, step}
use Rattle.language.proofs.Executable.Settles.{Settles, other, settle₀, settle₁, settle₂, settle₃}

module _ {ts : List Token} where
  -- ---- Type

  -- no first word of a type
  pub type_other : {i : ℕ} → entry basics (kind_at ts i) ≡ none → Settles ts (read type) i (failed i)
  unfolding step look
  type_other a = settle₀ λ f. rw a

  -- a first word, and what is behind it
  pub type_basic : {i : ℕ} {t : Ty} {r : Result Ty} → Means ts i basics t → Settles ts (refs t) (i + 1) r → Settles ts (read type) i r
  unfolding step look
  type_basic a x = settle₁ x λ f p. rw (a, p)

  -- no `ref`
  pub refs_end : {i : ℕ} {t : Ty} → (At ts i REF → ⊥) → Settles ts (refs t) i (got t i)
  unfolding step test
  refs_end {i} a = settle₀ λ f. rw (other ts i REF a)

  -- `ref`, and what is behind it
  pub refs_more : {i : ℕ} {t : Ty} {r : Result Ty} → At ts i REF → Settles ts (refs (ref t)) (i + 1) r → Settles ts (refs t) i r
  unfolding step test
  refs_more a x = settle₁ x λ f p. rw (a, p)

  -- ---- Params

  -- no name
  pub params_name : {i : ℕ} → (At ts i NAME → ⊥) → Settles ts (read params) i (failed i)
  unfolding step need
  params_name {i} a = settle₀ λ f. rw (other ts i NAME a)

  module _ {i : ℕ} (a : At ts i NAME) where
    -- no `:` behind the name
    pub params_colon : (At ts (i + 1) COLON → ⊥) → Settles ts (read params) i (failed (i + 1))
    unfolding step need
    params_colon b = settle₀ λ f. rw (a, other ts (i + 1) COLON b)

    module _ (b : At ts (i + 1) COLON) where
      -- no Type
      pub params_failed : {e : ℕ} → Settles ts (read type) (i + 2) (failed e) → Settles ts (read params) i (failed e)
      unfolding step need then
      params_failed x = settle₁ x λ f p. rw (a, b, p)

      module _ {m : ℕ} {t : Ty} (x : Settles ts (read type) (i + 2) (got t m)) where
        -- a Type, and no `,`
        pub params_one : (At ts m COMMA → ⊥) → Settles ts (read params) i (got (param ts i t ∷ []) m)
        unfolding step need then test
        params_one c = settle₁ x λ f p. rw (a, b, p, other ts m COMMA c)

        -- a Type, `,`, and other Params or none
        pub params_more : {r : Result (List Param)} → At ts m COMMA → Settles ts (read params) (m + 1) r
            → Settles ts (read params) i (made r (◌∷◌ (param ts i t)))
        unfolding step need then test
        params_more c y = settle₂ x y λ f p q. rw (a, b, p, c, q)

  -- ---- Formals

  -- `)` at once
  pub formals_none : {i : ℕ} → At ts i RPAR → Settles ts (read formals) i (got [] (i + 1))
  unfolding step test
  formals_none a = settle₀ λ f. rw a

  module _ {i : ℕ} (a : At ts i RPAR → ⊥) where
    -- no Params
    pub formals_failed : {e : ℕ} → Settles ts (read params) i (failed e) → Settles ts (read formals) i (failed e)
    unfolding step test then
    formals_failed x = settle₁ x λ f p. rw (other ts i RPAR a, p)

    module _ {m : ℕ} {ps : List Param} (x : Settles ts (read params) i (got ps m)) where
      -- Params, and no `)`
      pub formals_other : (At ts m RPAR → ⊥) → Settles ts (read formals) i (failed m)
      unfolding step test then need
      formals_other b = settle₁ x λ f p. rw (other ts i RPAR a, p, other ts m RPAR b)

      -- Params, and `)`
      pub formals_some : At ts m RPAR → Settles ts (read formals) i (got ps (m + 1))
      unfolding step test then need
      formals_some b = settle₁ x λ f p. rw (other ts i RPAR a, p, b)

  -- ---- the result of a function, and the `{` of its body

  -- no `:`
  pub result_colon : {i : ℕ} → (At ts i COLON → ⊥) → Settles ts result i (failed i)
  unfolding step need
  result_colon {i} a = settle₀ λ f. rw (other ts i COLON a)

  module _ {i : ℕ} (a : At ts i COLON) where
    -- no Type
    pub result_failed : {e : ℕ} → Settles ts (read type) (i + 1) (failed e) → Settles ts result i (failed e)
    unfolding step need then
    result_failed x = settle₁ x λ f p. rw (a, p)

    module _ {m : ℕ} {t : Ty} (x : Settles ts (read type) (i + 1) (got t m)) where
      -- a Type, and no `{`
      pub result_other : (At ts m LBRACE → ⊥) → Settles ts result i (failed m)
      unfolding step need then
      result_other b = settle₁ x λ f p. rw (a, p, other ts m LBRACE b)

      -- a Type, and `{`
      pub result_got : At ts m LBRACE → Settles ts result i (got t m)
      unfolding step need then
      result_got b = settle₁ x λ f p. rw (a, p, b)

  -- ---- Def

  -- no `def`
  pub def_other : {i : ℕ} → (At ts i DEF → ⊥) → Settles ts (read def) i (failed i)
  unfolding step need
  def_other {i} a = settle₀ λ f. rw (other ts i DEF a)

  module _ {i : ℕ} (a : At ts i DEF) where
    -- no name behind `def`
    pub def_name : (At ts (i + 1) NAME → ⊥) → Settles ts (read def) i (failed (i + 1))
    unfolding step need
    def_name b = settle₀ λ f. rw (a, other ts (i + 1) NAME b)

    module _ (b : At ts (i + 1) NAME) where
      -- no `(` behind the name
      pub def_open : (At ts (i + 2) LPAR → ⊥) → Settles ts (read def) i (failed (i + 2))
      unfolding step need
      def_open c = settle₀ λ f. rw (a, b, other ts (i + 2) LPAR c)

      module _ (c : At ts (i + 2) LPAR) where
        -- no Formals
        pub def_formals : {e : ℕ} → Settles ts (read formals) (i + 3) (failed e) → Settles ts (read def) i (failed e)
        unfolding step need then
        def_formals x = settle₁ x λ f p. rw (a, b, c, p)

        module _ {m : ℕ} {ps : List Param} (x : Settles ts (read formals) (i + 3) (got ps m)) where
          -- no `:`, no Type, or no `{`
          pub def_result : {e : ℕ} → Settles ts result m (failed e) → Settles ts (read def) i (failed e)
          unfolding step need then
          def_result y = settle₂ x y λ f p q. rw (a, b, c, p, q)

          -- all up to `{`, and a Seq with `}` or none
          pub def_is : {k : ℕ} {t : Ty} {r : Result Exp} → Settles ts result m (got t k) → Settles ts (until RBRACE) (k + 1) r
              → Settles ts (read def) i (made_past r λ e. define ts i ps t (block k e))
          unfolding step need then
          def_is y z = settle₃ x y z λ f p q s. rw (a, b, c, p, q, s)

  -- ---- Program

  module _ {i : ℕ} (a : At ts i DEF) where
    -- `def`, and no Def
    pub program_failed : {e : ℕ} → Settles ts (read def) i (failed e) → Settles ts (read program) i (failed e)
    unfolding step test then
    program_failed x = settle₁ x λ f p. rw (a, p)

    -- a Def, and another Program or none
    pub program_def : {m : ℕ} {d : Def} {r : Result Program} → Settles ts (read def) i (got d m) → Settles ts (read program) m r
        → Settles ts (read program) i (made r (before d))
    unfolding step test then
    program_def x y = settle₂ x y λ f p q. rw (a, p, q)

  -- no `def`, and a Seq or none
  pub program_seq : {i : ℕ} {r : Result Exp} → (At ts i DEF → ⊥) → Settles ts (read seq) i r
      → Settles ts (read program) i (made r λ e. record { defs = []; main = e })
  unfolding step test
  program_seq {i} a x = settle₁ x λ f p. rw (other ts i DEF a, p)

  -- ---- the whole list

  -- no Program
  pub entire_failed : {i e : ℕ} → Settles ts (read program) i (failed e) → Settles ts entire i (failed e)
  unfolding step then
  entire_failed x = settle₁ x λ f p. rw p

  module _ {i j : ℕ} {p : Program} (x : Settles ts (read program) i (got p j)) where
    -- a Program that ends before the last token
    pub entire_short : (j ≡ length ts → ⊥) → Settles ts entire i (failed j)
    unfolding step then need
    entire_short h = settle₁ x λ f e. rw (e, ne_eqb j (length ts) h)

    -- a Program that ends with the last token
    pub entire_got : j ≡ length ts → Settles ts entire i (got p j)
    unfolding step then need
    entire_got h = settle₁ x λ f e. rw (e, eq-eqb j (length ts) h)
