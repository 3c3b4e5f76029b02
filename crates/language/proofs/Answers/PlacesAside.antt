-- Nothing but an origin looks at places: tokens that are the same but for their places have the same reading, the same type
-- and the same run, or are denied for the same reason at the same token.
use mathlib.Core.List.{List, [], ◌∷◌}
use mathlib.Core.Path.{◌≡◌, refl, sym, ap, subst, ◌∙◌}
use Prim.Native.Nat.{ℕ, zero, suc}
use native.Mathlib.Omega.{arith}
use lib.ListN.{length, get_or}
use Rattle.language.specs.Sizes.{Sizes}
use Rattle.language.specs.Tokens.{Token, past, SameToken, SameButPlaces, same_none, same_more}
use Rattle.language.specs.Trees.{Ty, Program}
use Rattle.language.specs.Grammar.{program, Reading}
use Rattle.language.specs.Numbers.{Refusal}
use Rattle.language.specs.Answers.{Origin, Spot, nowhere, place_in, ProperUnder, DeniedUnder, PassesUnder, by_origin, by_tokens}
use Rattle.language.specs.Answers.{Lent, RunReport, RanUnder, run_short, run_large, run_refused, run_ended}
use Rattle.language.proofs.Executable.Parses.{got}
use Rattle.language.proofs.Executable.Parser.{read, entire, parse}
use Rattle.language.proofs.Executable.Settles.{Settles, settles_once, reading_settles, settled_reading}
use Rattle.language.proofs.Executable.Locality.{one_token}
use Rattle.language.proofs.Executable.Agreement.{agrees}
use Rattle.language.proofs.Grammar.FirstWrong.{whole, plenty, comes_to, settled}
use Rattle.language.proofs.Answers.Origins.{LawfulUnder}
use Rattle.language.proofs.Answers.Verdict.{verdict, by_comes, Says, verdict_says, proper_is, denied_is}

-- ---- token by token

pub same_long : {ts us : List Token} → SameButPlaces ts us → length ts ≡ length us
same_long same_none = refl
same_long (same_more x s) = ap suc (same_long s)

pub same_here : {ts us : List Token} → SameButPlaces ts us → (i : ℕ) → SameToken (get_or ts i past) (get_or us i past)
same_here same_none i = one_token refl
same_here (same_more x s) zero = x
same_here (same_more x s) (suc i) = same_here s i

pub same_self : (ts : List Token) → SameButPlaces ts ts
same_self [] = same_none
same_self (t ∷ ts) = same_more (one_token refl) (same_self ts)

pub same_back : {ts us : List Token} → SameButPlaces ts us → SameButPlaces us ts
same_back same_none = same_none
same_back (same_more x s) = same_more record { kind = sym x.kind; value = sym x.value; spelling = sym x.spelling } (same_back s)

-- ---- what becomes of them

module _ {ts us : List Token} (same : SameButPlaces ts us) where
  same_parse : parse ts (plenty ts) (read program) 0 ≡ parse us (plenty ts) (read program) 0
  same_parse =
      let c = agrees ts us (plenty ts) (plenty ts) (omega arith) (read program) tt 0 (omega arith) (omega arith) in
      c.one record { same = λ k l. same_here same k }

  same_comes : comes_to ts ≡ comes_to us
  same_comes = ap (whole ts) same_parse ∙ rw (same_long same) refl

  -- the same reading
  pub same_reading : {p : Program} → Reading ts p → Reading us p
  same_reading {p} r =
      let e : comes_to us ≡ got p (length ts) = sym same_comes ∙ settles_once (settled ts) (reading_settles r) in
      settled_reading (subst (Settles us entire 0) e (settled us))

  -- the same verdict
  pub same_verdict : (σ : Sizes) → verdict σ ts ≡ verdict σ us
  same_verdict σ = by_comes σ ts us same_comes

  -- the same program of the same type
  pub same_proper : {σ : Sizes} {p : Program} {t : Ty} → ProperUnder σ ts p t → ProperUnder σ us p t
  same_proper {σ} h = subst (Says σ us) (sym (same_verdict σ) ∙ proper_is σ ts h) (verdict_says σ us)

  -- or the same denial at the same token
  pub same_denied : {σ : Sizes} {r : Refusal} {s : Spot} → DeniedUnder σ ts r s → DeniedUnder σ us r s
  same_denied {σ} h = subst (Says σ us) (sym (same_verdict σ) ∙ denied_is σ ts h) (verdict_says σ us)

-- ---- what a run answers

-- two reports that differ in the place alone, which is that of the same token, or of none
pub record SameRun {P Q : Type 0} (o : Origin P) (q : Origin Q) (ts us : List Token) (r : RunReport P) (r' : RunReport Q) : Type 0 where
  pub told : r.told ≡ r'.told
  pub type : r.type ≡ r'.type
  pub value : r.value ≡ r'.value
  pub units : r.units ≡ r'.units
  pub printed : r.printed ≡ r'.printed
  pub spot : Spot
  pub here : r.place ≡ place_in o ts spot
  pub there : r'.place ≡ place_in q us spot

-- an origin with the same tokens answers the same to every run, with the same bytes printed
module _ {σ : Sizes} {P Q : Type 0} {o : Origin P} {q : Origin Q} (law : LawfulUnder σ o) {ts us : List Token} (given : o.gives ts) (there : q.gives us)
    (same : SameButPlaces ts us) where
  -- the same program of the same type
  pub same_passes : {xs : List Token} {p : Program} {t : Ty} → PassesUnder σ o xs p t → PassesUnder σ q us p t
  same_passes {xs} {p} {t} a = record {
    given = there;
    proper = same_proper same (subst (λ (ts : List Token). ProperUnder σ ts p t) (law.one_list xs ts a.given given) a.proper);
  }

  pub same_run : {l : Lent} {r : RunReport P} {bs : List ℕ} → RanUnder σ o l r bs → (r' : RunReport Q) × RanUnder σ q l r' bs × SameRun o q ts us r r'
  same_run (run_short h) =
      (_, run_short h, record { told = refl; type = refl; value = refl; units = refl; printed = refl; spot = nowhere; here = refl; there = refl })
  same_run (run_large e h) =
      (_, run_large e h, record { told = refl; type = refl; value = refl; units = refl; printed = refl; spot = nowhere; here = refl; there = refl })
  same_run (run_refused {r} {x} e h (by_origin d)) = absurd (law.never_both ts r x given d)
  same_run (run_refused e h (by_tokens {ts = xs} {r} {s} g d)) =
      let z = law.one_list xs ts g given in (
        _,
        run_refused e h (by_tokens there (same_denied same (subst (λ (ts : List Token). DeniedUnder σ ts r s) z d))),
        record {
          told = refl;
          type = refl;
          value = refl;
          units = refl;
          printed = refl;
          spot = s;
          here = ap (λ (ts : List Token). place_in o ts s) z;
          there = refl;
        },
      )
  same_run (run_ended {ts = xs} {t = t} {e = end} e h a x) = (
    _,
    run_ended e h (same_passes a) x,
    record {
      told = refl;
      type = refl;
      value = refl;
      units = refl;
      printed = refl;
      spot = end.spot;
      here = ap (λ (ts : List Token). place_in o ts end.spot) (law.one_list xs ts a.given given);
      there = refl;
    },
  )
