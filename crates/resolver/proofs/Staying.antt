-- What is noted of a tree stays while other tokens are noted.
use mathlib.Core.List.{List, ◌∷◌}
use mathlib.Core.Path.{◌≡◌, ◌∙◌}
use Prim.Native.Nat.{ℕ, ◌+◌, ◌≤◌, ◌<◌}
use native.Mathlib.Omega.{arith}
use Rattle.language.specs.Sizes.{TOKENS}
use Rattle.language.specs.Trees.{Exp, name, literal, unary, binary, follow, group, block, call, bind, branch, loop}
use Rattle.language.specs.Trees.{counted, Exps, last, more}
use Rattle.layout.specs.Table.{token_value}
use Rattle.layout.specs.Slots.{HELD}
use Rattle.layout.specs.Notes.{noted}
use Rattle.layout.specs.Resolved.{counting, Placed, PlacedAll}
use Rattle.resolver.specs.Spans.{Spans, SpansAll}
use Rattle.resolver.specs.Resolves.{Wrote}
use Rattle.resolver.proofs.Spanning.{nonempty, ordered}

module _ (w t u : List ℕ) (defs : ℕ) where
  -- the notes of tokens from a up to b are the same
  abbrev Same : ℕ → ℕ → Type 0
  Same a b = (i : ℕ) → a ≤ i → i < b → noted u i ≡ noted t i

  same_part : {a b c d : ℕ} → Same a b → a ≤ c → d ≤ b → Same c d
  same_part s l m i p q = s i (omega arith) (omega arith)

  mutual
    unfolding Spans Placed

    stays : (e : Exp) (L : List ℕ) {a b : ℕ} → Spans a e b → Same a b → Placed w t defs L e → Placed w u defs L e
    stays (name i x) L h s p = s i h.0 h.1 ∙ p
    stays (literal i l) L h s p = tt
    stays (unary i o e) L h s p = stays e L h.1 (same_part s (omega (arith, h.0)) (omega arith)) p
    stays (binary i o e f) L h s p =
        let l = nonempty e h.0 in
        let m = nonempty f h.1 in
        (stays e L h.0 (same_part s (omega arith) (omega arith)) p.0, stays f (HELD ∷ L) h.1 (same_part s (omega arith) (omega arith)) p.1)
    stays (follow i e f) L h s p =
        let l = nonempty e h.0 in
        let m = nonempty f h.1 in
        (stays e L h.0 (same_part s (omega arith) (omega arith)) p.0, stays f L h.1 (same_part s (omega arith) (omega arith)) p.1)
    stays (group i e) L h s p = stays e L h.1 (same_part s (omega (arith, h.0)) (omega arith)) p
    stays (block i e) L h s p = stays e L h.1 (same_part s (omega (arith, h.0)) (omega arith)) p
    stays (call i x es) L h s p =
        let l = ordered es h.1 in
        (s i h.0 (omega arith) ∙ p.0, stays_all es L h.1 (same_part s (omega (arith, h.0)) (omega arith)) p.1)
    stays (bind i x e f) L h s p =
        let g = h.1 in
        let l = nonempty e g.1 in
        let m = nonempty f g.2 in (
          stays e L g.1 (same_part s (omega (arith, h.0)) (omega arith)) p.0,
          stays f (token_value w (i + 1) ∷ L) g.2 (same_part s (omega (arith, h.0)) (omega arith)) p.1,
        )
    stays (branch i c e f) L h s p =
        let g = h.1.1 in
        let k = nonempty c g.1 in
        let l = nonempty e g.2 in
        let m = nonempty f g.3 in (
          stays c L g.1 (same_part s (omega (arith, h.0)) (omega arith)) p.0,
          stays e L g.2 (same_part s (omega (arith, h.0)) (omega arith)) p.1,
          stays f L g.3 (same_part s (omega (arith, h.0)) (omega arith)) p.2,
        )
    stays (loop i c e) L h s p =
        let g = h.1 in
        let l = nonempty c g.1 in
        let m = nonempty e g.2 in (
          stays c L g.1 (same_part s (omega (arith, h.0)) (omega arith)) p.0,
          stays e L g.2 (same_part s (omega (arith, h.0)) (omega arith)) p.1,
        )
    stays (counted i x r es e) L h s p =
        let g = h.1 in
        let l = g.1 in
        let m = nonempty e g.3 in (
          stays_all es L g.2 (same_part s (omega (arith, h.0)) (omega arith)) p.0,
          stays e (counting (token_value w (i + 1)) L) g.3 (same_part s (omega (arith, h.0)) (omega arith)) p.1,
        )

    stays_all : (es : Exps) (L : List ℕ) {a b : ℕ} → SpansAll a es b → Same a b → PlacedAll w t defs L es → PlacedAll w u defs L es
    stays_all last L h s p = tt
    stays_all (more e es) L h s p =
        let l = nonempty e h.1 in
        let m = ordered es h.2 in (
          stays e L h.1 (same_part s (omega arith) (omega arith)) p.0,
          stays_all es (HELD ∷ L) h.2 (same_part s (omega arith) (omega arith)) p.1,
        )

-- while tokens from c up to d are noted, which are none of its own
module _ (w : List ℕ) (defs a b : ℕ) {t u : List ℕ} {c d n : ℕ} (r : Wrote t u c d n) (high : b ≤ TOKENS)
    (apart : (i : ℕ) → a ≤ i → i < b → c ≤ i → i < d → ⊥) (L : List ℕ) where
  same_notes : (i : ℕ) → a ≤ i → i < b → noted u i ≡ noted t i
  same_notes i p q = r.notes i (omega arith) (apart i p q)

  pub placed_stays : (e : Exp) → Spans a e b → Placed w t defs L e → Placed w u defs L e
  placed_stays e h p = stays w t u defs e L h same_notes p

  pub all_stays : (es : Exps) → SpansAll a es b → PlacedAll w t defs L es → PlacedAll w u defs L es
  all_stays es h p = stays_all w t u defs es L h same_notes p
