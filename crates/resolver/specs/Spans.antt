-- Where the own tokens of a tree lie: `Spans a e b` says that those of e lie from a on, before b, and those of each
-- part in a stretch of its own. So no two nodes share one, and what is noted of one part is not of another.
use Rattle.std.specs.Prelude.{List, [], ◌∷◌, ℕ, ◌+◌, ◌≤◌, ◌<◌, length}
use Rattle.language.specs.Trees.{Exp, name, literal, unary, binary, follow, group, block, call, bind, branch, loop}
use Rattle.language.specs.Trees.{counted, Exps, last, more, Def}

unfoldable mutual
  pub Spans : ℕ → Exp → ℕ → Type 0
  Spans a (name i x) b = (a ≤ i) × (i < b)
  Spans a (literal i l) b = (a ≤ i) × (i < b)
  Spans a (unary i o e) b = (a ≤ i) × Spans (i + 1) e b
  Spans a (binary i o e f) b = Spans a e i × Spans (i + 1) f b
  Spans a (follow i e f) b = Spans a e i × Spans (i + 1) f b
  Spans a (group i e) b = (a ≤ i) × Spans (i + 1) e b
  Spans a (block i e) b = (a ≤ i) × Spans (i + 1) e b
  Spans a (call i x es) b = (a ≤ i) × SpansAll (i + 1) es b
  Spans a (bind i x e f) b = (a ≤ i) × ((m : ℕ) × Spans (i + 1) e m × Spans m f b)
  Spans a (branch i c e f) b =
      (a ≤ i) × ((m : ℕ) × ((n : ℕ) × Spans (i + 1) c m × Spans m e n × Spans n f b))
  Spans a (loop i c e) b = (a ≤ i) × ((m : ℕ) × Spans (i + 1) c m × Spans m e b)
  -- three tokens at least stand before its body, as it has three slots above those in sight
  Spans a (counted i x r es e) b = (a ≤ i) × ((m : ℕ) × (i + 3 ≤ m) × SpansAll (i + 1) es m × Spans m e b)

  pub SpansAll : ℕ → Exps → ℕ → Type 0
  SpansAll a last b = a ≤ b
  SpansAll a (more e es) b = (m : ℕ) × Spans a e m × SpansAll m es b

-- the bodies of functions one behind the other, each behind as many tokens as it has parameters at least, and an
-- expression behind them
unfoldable pub SpansDefs : ℕ → List Def → Exp → ℕ → Type 0
SpansDefs a [] e b = Spans a e b
SpansDefs a (d ∷ ds) e b =
    (m : ℕ) × ((n : ℕ) × (a ≤ m) × (length d.params ≤ m) × Spans m d.body n × SpansDefs n ds e b)
