-- The bytes of a part of a text.
use Rattle.std.specs.Prelude.{List, ℕ}
use Rattle.std.proofs.Math.Seq.{slice}
use Rattle.tokens.specs.Shown.{text_of}
use Rattle.tokens.specs.declared.view.Part as part

abbrev pub part_of : part.Part → List ℕ
part_of x = slice x.from x.to (text_of x.text.now)
