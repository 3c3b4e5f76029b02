-- What becomes of tokens, worked out: the parser and the type checker one after the other. It is proof vocabulary and no
-- definition of the language; it is shown to say exactly what the written Proper and Denied say.
use mathlib.Core.List.{List}
use mathlib.Core.Path.{◌≡◌, ap, ◌∙◌}
use Prim.Native.Nat.{◌+◌, ◌*◌}
use lib.ListN.{length}
use Rattle.language.specs.Sizes.{Sizes}
use Rattle.language.specs.Tokens.{Token}
use Rattle.language.specs.Trees.{Ty, Program}
use Rattle.language.specs.Grammar.{Reading}
use Rattle.language.specs.Types.{HasTypeUnder}
use Rattle.language.specs.Faults.{HasFaultUnder}
use Rattle.language.specs.Numbers.{Refusal, no_reading, types}
use Rattle.language.specs.Answers.{Spot, at, ProperUnder, DeniedUnder, unread, faulty}
use Rattle.language.proofs.Executable.Parses as Parses
use Rattle.language.proofs.Executable.Parses.{failed, got}
use Rattle.language.proofs.Executable.Parser.{entire}
use Rattle.language.proofs.Executable.Settles.{Settles, settles_once, settled_reading}
use Rattle.language.proofs.Grammar.OneReading.{finds}
use Rattle.language.proofs.Grammar.FirstWrong.{comes_to, settled, place, place_settles}
use Rattle.language.proofs.Executable.Checks as Types
use Rattle.language.proofs.Executable.Checks.{ok, bad, says, faults}
use Rattle.language.proofs.Executable.Checker.{check_under}
use Rattle.language.proofs.Executable.CheckerSound.{check_says}
use Rattle.language.proofs.Executable.CheckerComplete.{check_complete, check_fault}

pub data Verdict : Type 0 where
  denied : Refusal → Spot → Verdict
  proper : Program → Ty → Verdict

unfoldable by_type : Program → Types.Res Ty → Verdict
by_type p (ok t) = proper p t
by_type p (bad r i) = denied (types r) (at i)

unfoldable by_reading : Sizes → Parses.Result Program → Verdict
by_reading σ (failed k) = denied no_reading (at k)
by_reading σ (got p j) = by_type p (check_under σ p)

unfoldable pub verdict : Sizes → List Token → Verdict
unfolding by_type by_reading check_under
verdict σ ts = by_reading σ (comes_to ts)

-- it is settled by what the parser comes to
pub by_comes : (σ : Sizes) (ts us : List Token) → comes_to ts ≡ comes_to us → verdict σ ts ≡ verdict σ us
unfolding verdict
by_comes σ ts us e = ap (by_reading σ) e

module _ (σ : Sizes) (ts : List Token) where
  abbrev pub Says : Verdict → Type 0
  Says (denied r s) = DeniedUnder σ ts r s
  Says (proper p t) = ProperUnder σ ts p t

  -- ---- what it says is so

  type_says : (p : Program) → Reading ts p → (c : Types.Res Ty) → Types.Says (HasTypeUnder σ p) (HasFaultUnder σ p) c → Says (by_type p c)
  unfolding by_type
  type_says p a (ok t) (says h) = record { reads = a; typed = h }
  type_says p a (bad r i) (faults h) = faulty a h

  reading_says : (r : Parses.Result Program) → Settles ts entire 0 r → Says (by_reading σ r)
  unfolding by_reading
  reading_says (failed k) x = unread (place ts x)
  reading_says (got p j) x = type_says p (settled_reading x) (check_under σ p) (check_says p)

  pub verdict_says : Says (verdict σ ts)
  unfolding verdict
  verdict_says = reading_says (comes_to ts) (settled ts)

  -- ---- what is so it says

  reads_is : {p : Program} → Reading ts p → verdict σ ts ≡ by_type p (check_under σ p)
  unfolding verdict by_reading
  reads_is {p} a =
      let x : Settles ts entire 0 (got p (length ts)) = record { enough = 16 * length ts + 16; holds = λ f h. finds ts p a f h } in
      ap (by_reading σ) (settles_once (settled ts) x)

  pub proper_is : {p : Program} {t : Ty} → ProperUnder σ ts p t → verdict σ ts ≡ proper p t
  unfolding by_type
  proper_is {p} {t} h = reads_is h.reads ∙ ap (by_type p) (check_complete p t h.typed)

  pub denied_is : {r : Refusal} {s : Spot} → DeniedUnder σ ts r s → verdict σ ts ≡ denied r s
  unfolding verdict by_type by_reading
  denied_is (unread w) = ap (by_reading σ) (settles_once (settled ts) (place_settles ts w))
  denied_is (faulty {p} {r} {i} a f) = reads_is a ∙ ap (by_type p) (check_fault p r i f)
