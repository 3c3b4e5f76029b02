-- The contract determines the answer and every word of the table.
use mathlib.Core.List.{List}
use mathlib.Core.Path.{◌≡◌, sym, ap, ap₂, ◌∙◌}
use Rattle.std.specs.Prelude.{Ok, Err}
use Prim.Native.Nat.{ℕ}
use Rattle.language.specs.Trees.{Program}
use Rattle.language.specs.Meaning.{type_number}
use Rattle.language.proofs.Types.OneType.{program_one_type, one_fault, never_both}
use Rattle.numbers.specs.Meanings.{reason_meant}
use Rattle.numbers.proofs.Apart.{same_reason}
use Rattle.layout.specs.declared.Held.{Held}
use Rattle.checker.specs.Checked.{Checkable, Answers, Checked}
use Rattle.rules.specs.Asked.{Typing}
use Rattle.numbers.specs.declared.Reason.{Reason}

one_answer : (p : Program) (r q : Typing) → Answers r p → Answers q p → r ≡ q
one_answer p (Ok m) (Ok n) (t, a, e) (u, b, d) = ap Ok (e ∙ ap type_number (program_one_type p t u a b) ∙ sym d)
one_answer p (Ok m) (Err d) (t, a, e) b = absurd (never_both p t (reason_meant d.why) d.place a b)
one_answer p (Err e) (Ok n) a (u, b, d) = absurd (never_both p u (reason_meant e.why) e.place b a)
one_answer p (Err e) (Err d) a b =
    let h = one_fault p (reason_meant e.why) (reason_meant d.why) e.place d.place a b in
    ap Err (ap₂ (λ (r : Reason) (i : ℕ). record { why = r; place = i }) (same_reason e.why d.why h.0) h.1)

-- no two answers satisfy the contract, nor do two tables
pub checked_once : {w v u : List ℕ} {P : Held} {r q : Typing} → Checkable w P
    → Checked w v P r → Checked w u P q → (r ≡ q) × (v ≡ u)
checked_once {r = r} {q = q} c a b = (
  one_answer c.program r q (a.right c.tokens c.program c.holds) (b.right c.tokens c.program
      c.holds),
  a.table ∙ sym b.table,
)
