-- What settles a For and its Bounds, by what settles their parts; and what makes them fail. Each law says what stands there; of a
-- part "or none" the answer is handed on, whether it was got or failed.
use mathlib.Core.Path.{◌≡◌}
use mathlib.Core.Bool.{Bool}
use mathlib.Core.List.{List}
use mathlib.Core.Option.{none}
use Prim.Native.Nat.{ℕ, ◌+◌}
use Rattle.language.specs.Tokens.{Token, At, Means, entry, kind_at, spelling_at, NAME, IN, LBRACE, RBRACE, FOR, BY}
use Rattle.language.specs.Trees.{Exp, block, counted}
use Rattle.language.specs.Grammar.{or, chain, tier, counting, bounds, ranges, Span, two_parts, three_parts}
use Rattle.language.proofs.Executable.Parses.{Result, failed, got, made, made_past, then, test, look, need}
use Rattle.language.proofs.Executable.Parser.{read, until, step}
use Rattle.language.proofs.Executable.Settles.{Settles, other, settle₀, settle₁, settle₂, settle₃}

module _ {ts : List Token} where
  -- ---- Bounds

  -- no start
  pub bounds_failed : {i e : ℕ} → Settles ts (read (tier (chain or))) i (failed e) → Settles ts (read bounds) i (failed e)
  unfolding step then
  bounds_failed x = settle₁ x λ f p. rw p

  module _ {i m : ℕ} {x : Exp} (start : Settles ts (read (tier (chain or))) i (got x m)) where
    -- a start, and neither `..` nor `..=`
    pub bounds_other : entry ranges (kind_at ts m) ≡ none → Settles ts (read bounds) i (failed m)
    unfolding step then look
    bounds_other a = settle₁ start λ f p. rw (p, a)

    module _ {b : Bool} (a : Means ts m ranges b) where
      -- no end
      pub end_failed : {e : ℕ} → Settles ts (read (tier (chain or))) (m + 1) (failed e) → Settles ts (read bounds) i (failed e)
      unfolding step then look
      end_failed y = settle₂ start y λ f p q. rw (p, a, q)

      module _ {y : Exp} {k : ℕ} (end : Settles ts (read (tier (chain or))) (m + 1) (got y k)) where
        -- an end, and no `by`
        pub bounds_two : (At ts k BY → ⊥) → Settles ts (read bounds) i (got (two_parts b x y) k)
        unfolding step then look test
        bounds_two c = settle₂ start end λ f p q. rw (p, a, q, other ts k BY c)

        -- an end, `by`, and a step or none
        pub bounds_three : {r : Result Exp} → At ts k BY → Settles ts (read (tier (chain or))) (k + 1) r
            → Settles ts (read bounds) i (made r (three_parts b x y))
        unfolding step then look test
        bounds_three c z = settle₃ start end z λ f p q s. rw (p, a, q, c, s)

  -- ---- For

  module _ {i : ℕ} (a : At ts i FOR) where
    -- no name behind `for`
    pub for_name : (At ts (i + 1) NAME → ⊥) → Settles ts (read counting) i (failed (i + 1))
    unfolding step need
    for_name b = settle₀ λ f. rw (a, other ts (i + 1) NAME b)

    module _ (b : At ts (i + 1) NAME) where
      -- no `in` behind the name
      pub for_in : (At ts (i + 2) IN → ⊥) → Settles ts (read counting) i (failed (i + 2))
      unfolding step need
      for_in c = settle₀ λ f. rw (a, b, other ts (i + 2) IN c)

      module _ (c : At ts (i + 2) IN) where
        -- no Bounds
        pub for_failed : {e : ℕ} → Settles ts (read bounds) (i + 3) (failed e) → Settles ts (read counting) i (failed e)
        unfolding step need then
        for_failed x = settle₁ x λ f p. rw (a, b, c, p)

        module _ {s : Span} {m : ℕ} (x : Settles ts (read bounds) (i + 3) (got s m)) where
          -- no `{` behind them
          pub for_open : (At ts m LBRACE → ⊥) → Settles ts (read counting) i (failed m)
          unfolding step need then
          for_open d = settle₁ x λ f p. rw (a, b, c, p, other ts m LBRACE d)

          -- all up to `{`, and a Seq with `}` or none
          pub for_block : {r : Result Exp} → At ts m LBRACE → Settles ts (until RBRACE) (m + 1) r
              → Settles ts (read counting) i (made_past r λ e. counted i (spelling_at ts (i + 1)) s.through s.parts (block m e))
          unfolding step need then
          for_block d y = settle₂ x y λ f p q. rw (a, b, c, p, d, q)
