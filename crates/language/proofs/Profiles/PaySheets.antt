-- Profile tells 43, 45 and that a sheet passed exactly where they are to be told (R10.2, R10.4, R10.5), and a run of a sheet
-- that passed it uses no more units than it counts and does not end in 50 (R10.6). All is under any sizes (R13.5).
use mathlib.Core.Bool.{true, cond}
use mathlib.Core.List.{List}
use mathlib.Core.Logic.{◌↔◌}
use mathlib.Core.Option.{none, some}
use mathlib.Core.Path.{◌≡◌, refl, sym, ap, subst, ◌∙◌}
use Prim.Native.Nat.{ℕ, ◌≤◌, ◌<◌}
use native.Mathlib.Omega.{arith}
use Rattle.language.specs.Sizes.{Sizes, BOX, PAY_COUNT}
use Rattle.language.specs.Tokens.{Token}
use Rattle.language.specs.Trees.{Ty, Program}
use Rattle.language.specs.State.{Stop, no_unit, too_deep, out_of_range, zero_divisor, cell_freed, cells_full, not_a_byte, output_full, zero_step}
use Rattle.language.specs.State.{Outcome, value, stop, stuck}
use Rattle.language.specs.Meaning.{run, type_number}
use Rattle.language.specs.Numbers.{Refusal, endless_node, many_units, Told, passed, refused, stopped, refusal_number, stop_number, number}
use Rattle.language.specs.Answers.{Origin, PassesUnder, RefusedUnder, CheckReport, CheckedUnder, check_refused, check_passed}
use Rattle.language.specs.Answers.{Ending, ending, Lent, RunReport, RanUnder, run_short, run_large, run_refused, run_ended, RunUnder, after_run}
use Rattle.language.specs.Profile.{first_endless, units_most, ProfileReport, ProfiledUnder, profile_short}
use Rattle.language.specs.Profile.{profile_refused, profile_endless, profile_many, profile_passed, ProfileUnder}
use Rattle.language.proofs.Types.TypeNumbers.{one_number}
use Rattle.language.proofs.Meaning.CellTypes.{none_some, some_one}
use Rattle.language.proofs.Meaning.Profiled.{value_in_count, stop_in_count, never_50}
use Rattle.language.proofs.Answers.Origins.{LawfulUnder, passes_is, not_both, of_profile, refused_not_profiled}
use Rattle.language.proofs.Answers.OneAnswer.{one_checked}
use Rattle.language.proofs.Profiles.OneProfile.{one_profiled}

-- ---- what 43 and 45 describe

-- it passes, and its first endless node is at the place x
pub record EndlessSheetUnder (σ : Sizes) {P : Type 0} (o : Origin P) (x : P) : Type 0 where
  pub tokens : List Token
  pub program : Program
  pub type : Ty
  pub node : ℕ
  pub passes : PassesUnder σ o tokens program type
  pub first : first_endless program ≡ some node
  pub place : x ≡ o.at tokens node

-- it passes without such a node, and counts too many units
pub record DearSheetUnder (σ : Sizes) {P : Type 0} (o : Origin P) : Type 0 where
  pub tokens : List Token
  pub program : Program
  pub type : Ty
  pub passes : PassesUnder σ o tokens program type
  pub ends : first_endless program ≡ none
  pub dear : PAY_COUNT < units_most program

-- it passes with the type t, ends, and counts n units, not too many
pub record PaySheetUnder (σ : Sizes) {P : Type 0} (o : Origin P) (t : Ty) (n : ℕ) : Type 0 where
  pub tokens : List Token
  pub program : Program
  pub passes : PassesUnder σ o tokens program t
  pub ends : first_endless program ≡ none
  pub count : n ≡ units_most program
  pub few : n ≤ PAY_COUNT

-- under the box's sizes
abbrev pub EndlessSheet : {P : Type 0} → Origin P → P → Type 0
EndlessSheet o = EndlessSheetUnder BOX o

abbrev pub DearSheet : {P : Type 0} → Origin P → Type 0
DearSheet o = DearSheetUnder BOX o

abbrev pub PaySheet : {P : Type 0} → Origin P → Ty → ℕ → Type 0
PaySheet o = PaySheetUnder BOX o

abbrev own_tag : Told → ℕ
own_tag passed = 1
own_tag (refused r) = cond (of_profile r) 0 1
own_tag (stopped w) = 1

-- no two of what is told at once
abbrev tag : Told → ℕ
tag passed = 0
tag (refused r) = cond (of_profile r) (refusal_number r) 1
tag (stopped w) = 2

module _ {σ : Sizes} {P : Type 0} {o : Origin P} (law : LawfulUnder σ o) {table : ℕ} (room : σ.table ≤ table) where
  own_refused : {r : Refusal} {x : P} (q : Refusal) → of_profile q ≡ true → RefusedUnder σ o r x → refused r ≡ refused q → ⊥
  own_refused q h a e =
      let z = refused_not_profiled law a in
      let w : ◌≡◌ {A = ℕ} 0 1 = sym (ap (λ b. cond b 0 1) h) ∙ sym (ap own_tag e) ∙ ap (λ b. cond b 0 1) z in
      omega arith

  of_endless : {r : ProfileReport P} → ProfiledUnder σ o table r → r.told ≡ refused endless_node → EndlessSheetUnder σ o r.place
  of_endless (profile_short k) e = absurd (omega arith)
  of_endless (profile_refused k a) e = absurd (own_refused endless_node refl a e)
  of_endless (profile_endless {ts} {p} {t} {i} k a f) e =
      record { tokens = ts; program = p; type = t; node = i; passes = a; first = f; place = refl }
  of_endless (profile_many k a f m) e = let z : ◌≡◌ {A = ℕ} 45 43 = ap tag e in absurd (omega arith)
  of_endless (profile_passed k a f m) e = let z : ◌≡◌ {A = ℕ} 0 43 = ap tag e in absurd (omega arith)

  of_dear : {r : ProfileReport P} → ProfiledUnder σ o table r → r.told ≡ refused many_units → DearSheetUnder σ o
  of_dear (profile_short k) e = absurd (omega arith)
  of_dear (profile_refused k a) e = absurd (own_refused many_units refl a e)
  of_dear (profile_endless k a f) e = let z : ◌≡◌ {A = ℕ} 43 45 = ap tag e in absurd (omega arith)
  of_dear (profile_many {ts} {p} {t} k a f m) e = record { tokens = ts; program = p; type = t; passes = a; ends = f; dear = m }
  of_dear (profile_passed k a f m) e = let z : ◌≡◌ {A = ℕ} 0 45 = ap tag e in absurd (omega arith)

  of_passed : {r : ProfileReport P} (t : Ty) → ProfiledUnder σ o table r → r.told ≡ passed → r.type ≡ type_number t → PaySheetUnder σ o t r.count
  of_passed t (profile_short k) e y = absurd (omega arith)
  of_passed t (profile_refused k a) e y = let z : ◌≡◌ {A = ℕ} 0 1 = cc in absurd (omega arith)
  of_passed t (profile_endless k a f) e y = let z : ◌≡◌ {A = ℕ} 43 0 = ap tag e in absurd (omega arith)
  of_passed t (profile_many k a f m) e y = let z : ◌≡◌ {A = ℕ} 45 0 = ap tag e in absurd (omega arith)
  of_passed t (profile_passed {ts} {p} {t = u} k a f m) e y = record {
    tokens = ts;
    program = p;
    passes = subst (PassesUnder σ o ts p) (one_number u t y) a;
    ends = f;
    count = refl;
    few = m;
  }

  module _ {r : ProfileReport P} (a : ProfiledUnder σ o table r) where
    pub endless_exactly : (x : P) → ((r.told ≡ refused endless_node) × (r.place ≡ x)) ↔ EndlessSheetUnder σ o x
    endless_exactly x = (
      λ e. subst (EndlessSheetUnder σ o) e.1 (of_endless a e.0),
      λ h.
          let e = one_profiled law table a (profile_endless room h.passes h.first) in
          (ap (λ (r : ProfileReport P). r.told) e, ap (λ (r : ProfileReport P). r.place) e ∙ sym h.place),
    )

    pub dear_exactly : (r.told ≡ refused many_units) ↔ DearSheetUnder σ o
    dear_exactly = (
      λ e. of_dear a e,
      λ h. ap (λ (r : ProfileReport P). r.told) (one_profiled law table a (profile_many room h.passes h.ends h.dear)),
    )

    pub pay_exactly : (t : Ty) (n : ℕ) → ((r.told ≡ passed) × (r.type ≡ type_number t) × (r.count ≡ n)) ↔ PaySheetUnder σ o t n
    pay_exactly t n = (
      λ e. subst (PaySheetUnder σ o t) e.2 (of_passed t a e.0 e.1),
      λ h.
          let k : units_most h.program ≤ PAY_COUNT = omega (arith, h.count, h.few) in
          let e = one_profiled law table a (profile_passed room h.passes h.ends k) in (
            ap (λ (r : ProfileReport P). r.told) e,
            ap (λ (r : ProfileReport P). r.type) e,
            ap (λ (r : ProfileReport P). r.count) e ∙ sym h.count,
          ),
    )

    -- R10.5: c is what check answers for the same sheet
    pub passed_exactly : {c : CheckReport P} → CheckedUnder σ o table c
        → (r.told ≡ passed) ↔ ((c.told ≡ passed) × ((x : P) → EndlessSheetUnder σ o x → ⊥) × (DearSheetUnder σ o → ⊥))
    passed_exactly {c} b = (λ e. forth a b e, λ h. back a b h.0 h.1 h.2)
      where
        forth : {r : ProfileReport P} {c : CheckReport P} → ProfiledUnder σ o table r → CheckedUnder σ o table c → r.told ≡ passed
            → (c.told ≡ passed) × ((x : P) → EndlessSheetUnder σ o x → ⊥) × (DearSheetUnder σ o → ⊥)
        forth (profile_short k) d e = absurd (omega arith)
        forth (profile_refused k q) d e = let z : ◌≡◌ {A = ℕ} 0 1 = cc in absurd (omega arith)
        forth (profile_endless k q f) d e = let z : ◌≡◌ {A = ℕ} 43 0 = ap tag e in absurd (omega arith)
        forth (profile_many k q f m) d e = let z : ◌≡◌ {A = ℕ} 45 0 = ap tag e in absurd (omega arith)
        forth (profile_passed k q f m) d e = (
          ap (λ (r : CheckReport P). r.told) (one_checked law table d (check_passed room q)),
          λ x h.
              let w = one_profiled law table (profile_passed k q f m) (profile_endless room h.passes h.first) in
              let z : ◌≡◌ {A = ℕ} 0 43 = ap (λ (r : ProfileReport P). tag r.told) w in
              omega arith,
          λ h.
              let w = one_profiled law table (profile_passed k q f m) (profile_many room h.passes h.ends h.dear) in
              let z : ◌≡◌ {A = ℕ} 0 45 = ap (λ (r : ProfileReport P). tag r.told) w in
              omega arith,
        )

        back : {r : ProfileReport P} {c : CheckReport P} → ProfiledUnder σ o table r → CheckedUnder σ o table c → c.told ≡ passed
            → ((x : P) → EndlessSheetUnder σ o x → ⊥) → (DearSheetUnder σ o → ⊥) → r.told ≡ passed
        back (profile_short k) d e g h = absurd (omega arith)
        back (profile_refused k q) d e g h =
            let w = ap (λ (r : CheckReport P). r.told) (one_checked law table d (check_refused room q)) in
            let z : ◌≡◌ {A = ℕ} 0 1 = cc in absurd (omega arith)
        back (profile_endless k q f) d e g h =
            absurd (g _ record { tokens = _; program = _; type = _; node = _; passes = q; first = f; place = refl })
        back (profile_many k q f m) d e g h =
            absurd (h record { tokens = _; program = _; type = _; passes = q; ends = f; dear = m })
        back (profile_passed k q f m) d e g h = refl

-- ---- R10.6

is_50 : (w : Stop) → stop_number w ≡ 50 → w ≡ no_unit
is_50 no_unit e = refl
is_50 too_deep e = absurd (omega arith)
is_50 out_of_range e = absurd (omega arith)
is_50 zero_divisor e = absurd (omega arith)
is_50 cell_freed e = absurd (omega arith)
is_50 cells_full e = absurd (omega arith)
is_50 not_a_byte e = absurd (omega arith)
is_50 output_full e = absurd (omega arith)
is_50 zero_step e = absurd (omega arith)

-- what a run reports is within n units, and not 50
pub record WithinCount {P : Type 0} (n : ℕ) (r : RunReport P) : Type 0 where
  pub units : r.units ≤ n
  pub told : number r.told ≡ 50 → ⊥

module _ {σ : Sizes} {P : Type 0} {o : Origin P} {ts : List Token} {p : Program} {t : Ty} (a : PassesUnder σ o ts p t) (ends : first_endless p ≡ none) where
  ended_within : (allowance room : ℕ) {e : Ending} → units_most p ≤ allowance → (m : Outcome) → run p allowance room ≡ m
      → ending allowance m ≡ some e → WithinCount (units_most p) (after_run o ts t e)
  unfolding ending
  ended_within allowance room k (value v s) x y =
      let z = value_in_count p t allowance room a.proper.typed ends k v s x in
      subst (λ (e : Ending). WithinCount (units_most p) (after_run o ts t e)) (some_one y) record { units = z; told = λ q. omega arith }
  ended_within allowance room k (stop w i s) x y =
      let z = stop_in_count p t allowance room a.proper.typed ends k w i s x in
      subst (λ (e : Ending). WithinCount (units_most p) (after_run o ts t e)) (some_one y) record {
        units = z;
        told = λ q. never_50 p t allowance room a.proper.typed ends k i s (x ∙ ap (λ w. stop w i s) (is_50 w q));
      }
  ended_within allowance room k stuck x y = absurd (none_some y)

module _ {σ : Sizes} {P : Type 0} {o : Origin P} (law : LawfulUnder σ o) where
  -- the program that profile counted is the one that is run
  counted_run : {ts us : List Token} {p s : Program} {t u : Ty} → PassesUnder σ o ts p t → PassesUnder σ o us s u → p ≡ s
  counted_run a b = let e = sym (passes_is law a) ∙ passes_is law b in cc

  ran_within : {ts : List Token} {p : Program} {t : Ty} {l : Lent} {r : RunReport P} {bs : List ℕ} → PassesUnder σ o ts p t
      → first_endless p ≡ none → units_most p ≤ l.allowance → RanUnder σ o l r bs → WithinCount (units_most p) r
  ran_within a f k (run_short h) = record { units = omega arith; told = λ e. omega arith }
  ran_within a f k (run_large g h) = record { units = omega arith; told = λ e. omega arith }
  ran_within a f k (run_refused g h b) = absurd (not_both law b a)
  ran_within {p = p} {l = l} a f k (run_ended {ts = us} {p = s} {t = u} {e = e} g h b x) =
      let z = counted_run a b in
      let ends = subst (λ (p : Program). first_endless p ≡ none) z f in
      let enough = subst (λ (p : Program). units_most p ≤ l.allowance) z k in
      subst (λ (p : Program). WithinCount (units_most p) (after_run o us u e)) (sym z)
      (ended_within b ends l.allowance l.output enough (run s l.allowance l.output) refl x)

  -- of everything that a run can be lent, with an allowance of at least the count
  pub within_count : {table : ℕ} {q : ProfileReport P} {l : Lent} {r : RunReport P} {bs : List ℕ} → ProfiledUnder σ o table q
      → q.told ≡ passed → RanUnder σ o l r bs → q.count ≤ l.allowance → WithinCount q.count r
  within_count (profile_short h) e b k = let z : ◌≡◌ {A = ℕ} 1 0 = ap tag e in absurd (omega arith)
  within_count (profile_refused h a) e b k = let z : ◌≡◌ {A = ℕ} 0 1 = cc in absurd (omega arith)
  within_count (profile_endless h a f) e b k = let z : ◌≡◌ {A = ℕ} 43 0 = ap tag e in absurd (omega arith)
  within_count (profile_many h a f m) e b k = let z : ◌≡◌ {A = ℕ} 45 0 = ap tag e in absurd (omega arith)
  within_count (profile_passed h a f m) e b k = ran_within a f k b

  -- the same of the two services
  pub pay_sheet_finishes : {table table' : List ℕ} {q : ProfileReport P} {words work output : List ℕ} {allowance : ℕ} {r : RunReport P}
      {words' work' output' : List ℕ} → ProfileUnder σ o table q table' → q.told ≡ passed
      → RunUnder σ o words work output allowance r words' work' output' → q.count ≤ allowance → WithinCount q.count r
  pay_sheet_finishes a e b k = within_count a.answer e b.answer k
