-- What each node of a tree takes from the text: its own token (S042) and, of a number, what it is worth, be it an int or a float.
use mathlib.Core.Path.{◌≡◌, refl}
use mathlib.Core.List.{List, [], ◌∷◌, ◌++◌}
use Prim.Native.Nat.{ℕ, ◌+◌}
use native.Mathlib.Omega.{arith}
use lib.ListN.{length, length-append}
use lib.Ieee.{Float, nan}
use Rattle.language.specs.Trees.{Literal, whole, truth, trivial, decimal, Exp, name, literal, unary, binary, follow, group, block, call, bind}
use Rattle.language.specs.Trees.{branch, loop, Exps, last, more, own, Def, Program, nodes, all_nodes, def_nodes, program_nodes, counted}

-- ---- what a node takes

-- the ordinal of its own token; of a number its worth, else 0; and of a float number its, else none
pub record Own : Type 0 where
  pub at : ℕ
  pub worth : ℕ
  pub fraction : Float

abbrev pub plain : ℕ → Own
plain i = record { at = i; worth = 0; fraction = nan }

abbrev pub worth_of : Literal → ℕ
worth_of (whole n) = n
worth_of (truth b) = 0
worth_of trivial = 0
worth_of (decimal x) = 0

abbrev pub fraction_of : Literal → Float
fraction_of (whole n) = nan
fraction_of (truth b) = nan
fraction_of trivial = nan
fraction_of (decimal x) = x

-- of all nodes of a tree, in the order of the text
unfoldable mutual
  pub owns : Exp → List Own
  owns (name i x) = plain i ∷ []
  owns (literal i l) = record { at = i; worth = worth_of l; fraction = fraction_of l } ∷ []
  owns (unary i o e) = plain i ∷ owns e
  owns (binary i o e f) = owns e ++ (plain i ∷ owns f)
  owns (follow i e f) = owns e ++ (plain i ∷ owns f)
  owns (group i e) = plain i ∷ owns e
  owns (block i e) = plain i ∷ owns e
  owns (call i f es) = plain i ∷ all_owns es
  owns (bind i x e f) = plain i ∷ (owns e ++ owns f)
  owns (branch i c e f) = plain i ∷ (owns c ++ (owns e ++ owns f))
  owns (loop i c e) = plain i ∷ (owns c ++ owns e)
  owns (counted i x b es e) = plain i ∷ (all_owns es ++ owns e)

  pub all_owns : Exps → List Own
  all_owns last = []
  all_owns (more e es) = owns e ++ all_owns es

-- of the bodies of functions, before others
unfoldable pub def_owns : List Def → List Own → List Own
def_owns [] os = os
def_owns (d ∷ ds) os = owns d.body ++ def_owns ds os

unfoldable pub program_owns : Program → List Own
program_owns p = def_owns p.defs (owns p.main)

-- ---- what holds of each

pub data All (P : Own → Type 0) : List Own → Type 0 where
  all_none : All P []
  all_more : {o : Own} {os : List Own} → P o → All P os → All P (o ∷ os)

module _ {P : Own → Type 0} where
  pub first : {o : Own} {os : List Own} → All P (o ∷ os) → P o
  first (all_more p h) = p

  pub rest : {o : Own} {os : List Own} → All P (o ∷ os) → All P os
  rest (all_more p h) = h

  pub front : (xs ys : List Own) → All P (xs ++ ys) → All P xs
  front [] ys h = all_none
  front (x ∷ xs) ys (all_more p h) = all_more p (front xs ys h)

  pub back : (xs ys : List Own) → All P (xs ++ ys) → All P ys
  back [] ys h = h
  back (x ∷ xs) ys (all_more p h) = back xs ys h

  pub everywhere : (os : List Own) → ((o : Own) → P o) → All P os
  everywhere [] f = all_none
  everywhere (o ∷ os) f = all_more (f o) (everywhere os f)

  -- of the last expression, if of all
  pub main_owned : (ds : List Def) (os : List Own) → All P (def_owns ds os) → All P os
  unfolding def_owns
  main_owned [] os h = h
  main_owned (d ∷ ds) os h = main_owned ds os (back (owns d.body) _ h)

pub all_same : {P Q : Own → Type 0} {os : List Own} → ((o : Own) → P o → Q o) → All P os → All Q os
all_same f all_none = all_none
all_same f (all_more {o} p h) = all_more (f o p) (all_same f h)

-- a node's own token is one of them
pub own_of : (P : ℕ → Type 0) (e : Exp) → All (λ o. P o.at) (owns e) → P (own e)
unfolding owns own
own_of P (name i x) h = first h
own_of P (literal i l) h = first h
own_of P (unary i o e) h = first h
own_of P (binary i o e f) h = first (back (owns e) _ h)
own_of P (follow i e f) h = first (back (owns e) _ h)
own_of P (group i e) h = first h
own_of P (block i e) h = first h
own_of P (call i f es) h = first h
own_of P (bind i x e f) h = first h
own_of P (branch i c e f) h = first h
own_of P (loop i c e) h = first h
own_of P (counted i x b es e) h = first h

-- ---- as many as there are nodes

mutual
  unfolding owns nodes

  own_each : (e : Exp) → length (owns e) ≡ nodes e
  own_each (name i x) = refl
  own_each (literal i l) = refl
  own_each (unary i o e) = omega (arith, own_each e)
  own_each (binary i o e f) = omega (arith, length-append (owns e) (plain i ∷ owns f), own_each e, own_each f)
  own_each (follow i e f) = omega (arith, length-append (owns e) (plain i ∷ owns f), own_each e, own_each f)
  own_each (group i e) = omega (arith, own_each e)
  own_each (block i e) = omega (arith, own_each e)
  own_each (call i f es) = omega (arith, own_all es)
  own_each (bind i x e f) = omega (arith, length-append (owns e) (owns f), own_each e, own_each f)
  own_each (branch i c e f) =
      omega (
        arith,
        length-append (owns c) (owns e ++ owns f),
        length-append (owns e) (owns f),
        own_each c,
        own_each e,
        own_each f,
      )
  own_each (loop i c e) = omega (arith, length-append (owns c) (owns e), own_each c, own_each e)
  own_each (counted i x b es e) = omega (arith, length-append (all_owns es) (owns e), own_all es, own_each e)

  own_all : (es : Exps) → length (all_owns es) ≡ all_nodes es
  own_all last = refl
  own_all (more e es) = omega (arith, length-append (owns e) (all_owns es), own_each e, own_all es)

own_defs : (ds : List Def) (os : List Own) → length (def_owns ds os) ≡ def_nodes ds + length os
unfolding def_owns def_nodes
own_defs [] os = omega arith
own_defs (d ∷ ds) os = omega (arith, length-append (owns d.body) (def_owns ds os), own_each d.body, own_defs ds os)

-- each node has its own token among them
pub owns_length : (p : Program) → length (program_owns p) ≡ program_nodes p
unfolding program_owns program_nodes
owns_length p = omega (arith, own_defs p.defs (owns p.main), own_each p.main)
