-- Stretches of own tokens: none is empty, and one lies in every wider one.
use Prim.Native.Nat.{ℕ, ◌≤◌, ◌<◌}
use native.Mathlib.Omega.{arith}
use Rattle.language.specs.Trees.{Exp, name, literal, unary, binary, follow, group, block, call, bind, branch, loop}
use Rattle.language.specs.Trees.{counted, Exps, last, more}
use Rattle.resolver.specs.Spans.{Spans, SpansAll}

mutual
  unfolding Spans

  pub nonempty : (e : Exp) {a b : ℕ} → Spans a e b → a < b
  nonempty (name i x) h = omega (arith, h.0, h.1)
  nonempty (literal i l) h = omega (arith, h.0, h.1)
  nonempty (unary i o e) h = omega (arith, h.0, nonempty e h.1)
  nonempty (binary i o e f) h = omega (arith, nonempty e h.0, nonempty f h.1)
  nonempty (follow i e f) h = omega (arith, nonempty e h.0, nonempty f h.1)
  nonempty (group i e) h = omega (arith, h.0, nonempty e h.1)
  nonempty (block i e) h = omega (arith, h.0, nonempty e h.1)
  nonempty (call i x es) h = omega (arith, h.0, ordered es h.1)
  nonempty (bind i x e f) h = let p = h.1 in omega (arith, h.0, nonempty e p.1, nonempty f p.2)
  nonempty (branch i c e f) h =
      let p = h.1.1 in omega (arith, h.0, nonempty c p.1, nonempty e p.2, nonempty f p.3)
  nonempty (loop i c e) h = let p = h.1 in omega (arith, h.0, nonempty c p.1, nonempty e p.2)
  nonempty (counted i x r es e) h = let p = h.1 in omega (arith, h.0, p.1, nonempty e p.3)

  pub ordered : (es : Exps) {a b : ℕ} → SpansAll a es b → a ≤ b
  ordered last h = h
  ordered (more e es) h = omega (arith, nonempty e h.1, ordered es h.2)

mutual
  unfolding Spans

  pub widen : (e : Exp) {a b c d : ℕ} → Spans a e b → c ≤ a → b ≤ d → Spans c e d
  widen (name i x) h l m = (omega (arith, h.0), omega (arith, h.1))
  widen (literal i x) h l m = (omega (arith, h.0), omega (arith, h.1))
  widen (unary i o e) h l m = (omega (arith, h.0), widen e h.1 (omega arith) m)
  widen (binary i o e f) h l m = (widen e h.0 l (omega arith), widen f h.1 (omega arith) m)
  widen (follow i e f) h l m = (widen e h.0 l (omega arith), widen f h.1 (omega arith) m)
  widen (group i e) h l m = (omega (arith, h.0), widen e h.1 (omega arith) m)
  widen (block i e) h l m = (omega (arith, h.0), widen e h.1 (omega arith) m)
  widen (call i x es) h l m = (omega (arith, h.0), widen_all es h.1 (omega arith) m)
  widen (bind i x e f) h l m =
      let p = h.1 in (omega (arith, h.0), (p.0, p.1, widen f p.2 (omega arith) m))
  widen (branch i c e f) h l m =
      let p = h.1.1 in (omega (arith, h.0), (h.1.0, (p.0, p.1, p.2, widen f p.3 (omega arith) m)))
  widen (loop i c e) h l m = let p = h.1 in (omega (arith, h.0), (p.0, p.1, widen e p.2 (omega arith) m))
  widen (counted i x r es e) h l m =
      let p = h.1 in (omega (arith, h.0), (p.0, p.1, p.2, widen e p.3 (omega arith) m))

  pub widen_all : (es : Exps) {a b c d : ℕ} → SpansAll a es b → c ≤ a → b ≤ d → SpansAll c es d
  widen_all last h l m = omega (arith, h)
  widen_all (more e es) h l m = (h.0, widen e h.1 l (omega arith), widen_all es h.2 (omega arith) m)
