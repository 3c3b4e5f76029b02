-- What the answer of an outline says in the written language.
use Rattle.std.specs.Prelude.{List, ℕ, Result, Ok, Err}
use Rattle.language.specs.Numbers.{passed}
use Rattle.language.specs.Outline.{Wanted, OutlineReport, outline_refusal}
use Rattle.numbers.specs.Meanings.{refusal_meant}
use Rattle.numbers.specs.declared.Refusal.{Refusal}
use Rattle.outlines.specs.declared.Found.{Found}
use Rattle.outlines.specs.declared.Sought.{Sought}

abbrev pub wanted : List ℕ → List ℕ → ℕ → Wanted
wanted name takes gives = record { called = name; takes = takes; gives = gives }

abbrev pub wanted_by : Sought → Wanted
wanted_by s = wanted s.name.now s.takes.now s.gives

abbrev pub outlined_report : Result Found Refusal → OutlineReport
outlined_report (Ok x) = record { told = passed; alone = x.alone; there = x.there }
outlined_report (Err y) = outline_refusal (refusal_meant y)
