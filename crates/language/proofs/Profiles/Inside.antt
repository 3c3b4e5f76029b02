-- An endless node's own token is one that was read.
use mathlib.Core.Bool.{Bool, true, false, cond}
use mathlib.Core.List.{List, [], ◌∷◌}
use mathlib.Core.Option.{Option, none, some}
use mathlib.Core.Path.{◌≡◌, subst}
use Prim.Native.Nat.{ℕ, ◌<◌}
use lib.ListN.{length}
use Rattle.language.specs.Tokens.{Token}
use Rattle.language.specs.Trees.{Name, Exp, name, literal, unary, binary, follow, group, block, call, bind, branch, loop, counted}
use Rattle.language.specs.Trees.{Exps, last, more, Def, Program}
use Rattle.language.specs.Grammar.{Reading}
use Rattle.language.specs.Profile.{or_else, endless, any_endless, endless_from, first_endless}
use Rattle.language.proofs.Grammar.OwnTokens.{Own, owns, all_owns, def_owns, program_owns, All, first, rest, front, back, all_same}
use Rattle.language.proofs.Grammar.OwnOnce.{own_inside}

module _ (P : ℕ → Type 0) where
  -- what is so of whatever node there may be
  abbrev Of : Option ℕ → Type 0
  Of none = Unit {0}
  Of (some i) = P i

  either : (x y : Option ℕ) → Of x → Of y → Of (or_else x y)
  unfolding or_else
  either none y a b = b
  either (some i) y a b = a

  picked : (b : Bool) (i : ℕ) → P i → Of (cond b (some i) none)
  picked true i p = p
  picked false i p = tt

  abbrev Owned : List Own → Type 0
  Owned os = All (λ o. P o.at) os

  module _ (self : Name → Bool) where
    mutual
      unfolding endless owns

      tree_inside : (e : Exp) → Owned (owns e) → Of (endless self e)
      tree_inside (name i x) h = tt
      tree_inside (literal i l) h = tt
      tree_inside (unary i o e) h = tree_inside e (rest h)
      tree_inside (binary i o e f) h = either _ _ (tree_inside e (front (owns e) _ h)) (tree_inside f (rest (back (owns e) _ h)))
      tree_inside (follow i e f) h = either _ _ (tree_inside e (front (owns e) _ h)) (tree_inside f (rest (back (owns e) _ h)))
      tree_inside (group i e) h = tree_inside e (rest h)
      tree_inside (block i e) h = tree_inside e (rest h)
      tree_inside (call i f es) h = either _ _ (list_inside es (rest h)) (picked (self f) i (first h))
      tree_inside (bind i x e f) h = either _ _ (tree_inside e (front (owns e) _ (rest h))) (tree_inside f (back (owns e) _ (rest h)))
      tree_inside (branch i c e f) h =
          let k = back (owns c) _ (rest h) in
          either _ _ (tree_inside c (front (owns c) _ (rest h)))
          (either _ _ (tree_inside e (front (owns e) _ k)) (tree_inside f (back (owns e) _ k)))
      tree_inside (loop i c e) h =
          either _ _ (tree_inside c (front (owns c) _ (rest h))) (either _ _ (tree_inside e (back (owns c) _ (rest h))) (first h))
      tree_inside (counted i x b es e) h =
          either _ _ (list_inside es (front (all_owns es) _ (rest h))) (either _ _ (tree_inside e (back (all_owns es) _ (rest h))) (first h))

      list_inside : (es : Exps) → Owned (all_owns es) → Of (any_endless self es)
      list_inside last h = tt
      list_inside (more e es) h = either _ _ (tree_inside e (front (owns e) _ h)) (list_inside es (back (owns e) _ h))

  program_inside : (ds : List Def) (e : Exp) → Owned (def_owns ds (owns e)) → Of (endless_from ds e)
  unfolding endless_from def_owns
  program_inside [] e h = tree_inside _ e h
  program_inside (d ∷ ds) e h =
      either _ _ (tree_inside _ d.body (front (owns d.body) _ h)) (program_inside ds e (back (owns d.body) _ h))

pub endless_inside : (ts : List Token) (p : Program) (i : ℕ) → Reading ts p → first_endless p ≡ some i → i < length ts
unfolding program_owns
endless_inside ts p i r e =
    subst (Of (λ k. k < length ts)) e (program_inside (λ k. k < length ts) p.defs p.main (all_same (λ o h. h.0) (own_inside ts p r)))
