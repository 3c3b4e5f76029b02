-- What head office asks before it buys (Req 11), of any lawful origin: a text, and whatever else tokens may come from.
use mathlib.Core.List.{List}
use mathlib.Core.Option.{some}
use mathlib.Core.Path.{◌≡◌, refl, sym, ap, subst, ◌∙◌}
use Prim.Native.Nat.{ℕ, ◌+◌, ◌-◌, ◌≤◌, ◌<◌}
use native.Mathlib.Omega.{arith}
use lib.ListN.{length}
use Rattle.language.specs.Sizes.{Sizes, BOX, ALLOWANCE, WORK}
use Rattle.language.specs.Tokens.{Token}
use Rattle.language.specs.Trees.{Ty, Program}
use Rattle.language.specs.Grammar.{Reading}
use Rattle.language.specs.Types.{HasTypeUnder}
use Rattle.language.specs.State.{Stop, no_unit, Value, State, Outcome, value, stop, stuck}
use Rattle.language.specs.Meaning.{run, type_number}
use Rattle.language.specs.Numbers.{passed, stopped, number, stop_number}
use Rattle.language.specs.Answers.{Origin, nowhere, at, PassesUnder, Ending, ended, ending, CheckReport, CheckedUnder, check_short, check_refused}
use Rattle.language.specs.Answers.{check_passed, CheckUnder, Lent, EnoughUnder, RunReport, after_run, RanUnder, run_short, run_large}
use Rattle.language.specs.Answers.{run_refused, run_ended, RunUnder}
use Rattle.language.proofs.Meaning.CellTypes.{none_some, some_one}
use Rattle.language.proofs.Meaning.NeverStuck as NeverStuck
use Rattle.language.proofs.Meaning.Strict.{strict_run, strict_same}
use Rattle.language.proofs.Meaning.ValueTypes.{OfType, value_of_type}
use Rattle.language.proofs.Meaning.StopPlaces.{stop_inside}
use Rattle.language.proofs.Meaning.MoreUnits.{same_value, same_stop}
use Rattle.language.proofs.Answers.Endings.{some_ending}
use Rattle.language.proofs.Answers.Origins.{LawfulUnder}
use Rattle.language.proofs.Answers.OneAnswer.{one_ran, one_run}

-- ---- R11.2: never stuck

-- How the run of the program p, which has the type t and was read from the tokens ts, ended, and that it is reported so.
pub data Ends {P : Type 0} (o : Origin P) (ts : List Token) (p : Program) (t : Ty) (allowance room : ℕ) (r : RunReport P) : Type 0 where
  -- with a value of the type
  with_value : {v : Value} {s : State} → run p allowance room ≡ value v s → OfType s t v → r.told ≡ passed → r.value ≡ v
      → Ends o ts p t allowance room r
  -- or with one of the listed stops, at a token of the sheet
  with_stop : {w : Stop} {i : ℕ} {s : State} → run p allowance room ≡ stop w i s → i < length ts → r.told ≡ stopped w → r.place ≡ o.at ts i
      → 50 ≤ stop_number w → stop_number w ≤ 58 → Ends o ts p t allowance room r

-- What is so of a sheet for which check gave the report c.
pub record SoundUnder (σ : Sizes) {P : Type 0} (o : Origin P) (c : CheckReport P) : Type 0 where
  -- the sheet's tokens, their reading and its type, which is the one that check told
  pub tokens : List Token
  pub program : Program
  pub type : Ty
  pub given : o.gives tokens
  pub reads : Reading tokens program
  pub typed : HasTypeUnder σ program type
  pub type_told : c.type ≡ type_number type
  -- whatever is allowed and however long the output is, its meaning meets no operand of a wrong kind, no name without a
  -- binding and no argument that is missing: each of these is `stuck`, and what is stuck stays so to the end of the run
  pub never_stuck : (allowance room : ℕ) → run program allowance room ≡ stuck → ⊥
  -- nor is one of these there without being met: a meaning that asks each operand, bound and argument as soon as it is worked out,
  -- and a call for its function and for the number of its arguments before the first of them, is the same
  pub none_unmet : (allowance room : ℕ) → strict_run program allowance room ≡ run program allowance room
  -- with the memory asked for and an allowance up to the limit, run answers with the same type, and a value or a stop
  pub ends : {table work output : List ℕ} {allowance : ℕ} {r : RunReport P} {table' work' output' : List ℕ}
      → σ.table ≤ length table → WORK ≤ length work → allowance ≤ ALLOWANCE → RunUnder σ o table work output allowance r table' work' output'
      → (r.type ≡ c.type) × Ends o tokens program type allowance (length output) r

-- under the box's sizes
abbrev pub Sound : {P : Type 0} → Origin P → CheckReport P → Type 0
Sound o = SoundUnder BOX o

stop_first : (w : Stop) → 50 ≤ stop_number w
stop_first Stop.no_unit = omega arith
stop_first Stop.too_deep = omega arith
stop_first Stop.out_of_range = omega arith
stop_first Stop.zero_divisor = omega arith
stop_first Stop.cell_freed = omega arith
stop_first Stop.cells_full = omega arith
stop_first Stop.not_a_byte = omega arith
stop_first Stop.output_full = omega arith
stop_first Stop.zero_step = omega arith

stop_last : (w : Stop) → stop_number w ≤ 58
stop_last Stop.no_unit = omega arith
stop_last Stop.too_deep = omega arith
stop_last Stop.out_of_range = omega arith
stop_last Stop.zero_divisor = omega arith
stop_last Stop.cell_freed = omega arith
stop_last Stop.cells_full = omega arith
stop_last Stop.not_a_byte = omega arith
stop_last Stop.output_full = omega arith
stop_last Stop.zero_step = omega arith

module _ {σ : Sizes} {P : Type 0} {o : Origin P} (law : LawfulUnder σ o) {ts : List Token} {p : Program} {t : Ty} (a : PassesUnder σ o ts p t) where
  -- a program that passed is run to the end of its meaning
  passed_ends : (allowance room : ℕ) {e : Ending} (m : Outcome) → run p allowance room ≡ m → ending allowance m ≡ some e
      → Ends o ts p t allowance room (after_run o ts t e)
  unfolding ending
  passed_ends allowance room (value v s) x y =
      let z = some_one y in
      let k = value_of_type ts p t allowance room v s a.proper.reads (law.small ts a.given) a.proper.typed x in
      with_value x k (sym (ap (λ (e : Ending). e.told) z)) (sym (ap (λ (e : Ending). e.value) z))
  passed_ends allowance room (stop w i s) x y =
      let z = some_one y in
      let k = stop_inside ts p allowance room w i s a.proper.reads x in
      with_stop x k (sym (ap (λ (e : Ending). e.told) z)) (sym (ap (λ (e : Ending). (after_run o ts t e).place) z)) (stop_first w) (stop_last w)
  passed_ends allowance room stuck x y = absurd (none_some y)

  ran_ends : {l : Lent} {r : RunReport P} {bs : List ℕ} → EnoughUnder σ l → l.allowance ≤ ALLOWANCE → RanUnder σ o l r bs
      → (r.type ≡ type_number t) × Ends o ts p t l.allowance l.output r
  ran_ends {l} {r} {bs} enough fair x =
      let z = some_ending p t l.allowance l.output a.proper.typed in
      let e = one_ran law l x (run_ended enough fair a z.1) in
      let k = passed_ends l.allowance l.output (run p l.allowance l.output) refl z.1 in
      (ap (λ (r : RunReport P). r.type) e.0, subst (Ends o ts p t l.allowance l.output) (sym e.0) k)

  sound : (c : CheckReport P) → c.type ≡ type_number t → SoundUnder σ o c
  sound c told = record {
    tokens = ts;
    program = p;
    type = t;
    given = a.given;
    reads = a.proper.reads;
    typed = a.proper.typed;
    type_told = told;
    never_stuck = λ allowance room. NeverStuck.never_stuck p t allowance room a.proper.typed;
    none_unmet = λ allowance room. strict_same p t allowance room a.proper.typed;
    ends = λ long wide fair x.
        let k = ran_ends record { table = long; work = wide } fair x.answer in
        (k.0 ∙ sym told, k.1);
  }

module _ {σ : Sizes} {P : Type 0} {o : Origin P} (law : LawfulUnder σ o) where
  checked_sound : {table : ℕ} {c : CheckReport P} → CheckedUnder σ o table c → c.told ≡ passed → SoundUnder σ o c
  checked_sound (check_short h) e = let z : ◌≡◌ {A = ℕ} 0 1 = cc in absurd (omega arith)
  checked_sound (check_refused h a) e = let z : ◌≡◌ {A = ℕ} 0 1 = cc in absurd (omega arith)
  checked_sound (check_passed h a) e = sound law a _ refl

  -- Of every sheet that passed.
  pub passed_sound : {table table' : List ℕ} {c : CheckReport P} → CheckUnder σ o table c table' → c.told ≡ passed → SoundUnder σ o c
  passed_sound a e = checked_sound a.answer e

-- ---- R11.3: more units change nothing

-- an end, with another number of units
abbrev with_used : Ending → ℕ → Ending
with_used e u = record { told = e.told; spot = e.spot; value = e.value; units = u; printed = e.printed }

-- of k units more, k more are left, so as many are used
same_ended : (few k : ℕ) (e : Ending) (u : ℕ) → (few + k) - (u + k) ≡ few - u → with_used e ((few + k) - (u + k)) ≡ with_used e (few - u)
same_ended few k e u h = ap (with_used e) h

module _ (p : Program) (few room k : ℕ) where
  more_ending : {e : Ending} (m : Outcome) → run p few room ≡ m → ending few m ≡ some e → (number e.told ≡ 50 → ⊥)
      → ending (few + k) (run p (few + k) room) ≡ some e
  unfolding ending
  more_ending (value v s) x y h =
      ap (ending (few + k)) (same_value p few room k v s x)
      ∙ ap some (same_ended few k (ended few passed nowhere v s) s.units (omega arith)) ∙ y
  more_ending (stop w i s) x y h =
      let n : w ≡ no_unit → ⊥ = λ q. h (sym (ap (λ (e : Ending). number e.told) (some_one y)) ∙ ap stop_number q) in
      ap (ending (few + k)) (same_stop p few room k w i s x n)
      ∙ ap some (same_ended few k (ended few (stopped w) (at i) _ s) s.units (omega arith)) ∙ y
  more_ending stuck x y h = absurd (none_some y)

-- the same lent memory and output, with another allowance
abbrev with_allowance : ℕ → Lent → Lent
with_allowance n l = record { table = l.table; work = l.work; output = l.output; allowance = n }

module _ {P : Type 0} {o : Origin P} where
  more_ran : {σ : Sizes} {l : Lent} {r : RunReport P} {bs : List ℕ} (many : ℕ) → l.allowance ≤ many → many ≤ ALLOWANCE → RanUnder σ o l r bs
      → (number r.told ≡ 50 → ⊥) → RanUnder σ o (with_allowance many l) r bs
  more_ran many h k (run_short a) n = run_short a
  more_ran many h k (run_large e a) n = absurd (omega arith)
  more_ran many h k (run_refused e a x) n = run_refused record { table = e.table; work = e.work } k x
  more_ran {l} many h k (run_ended {p = p} {e = e} g a x y) n =
      let z : l.allowance + (many - l.allowance) ≡ many = omega arith in
      let w = more_ending p l.allowance l.output (many - l.allowance) (run p l.allowance l.output) refl y n in
      run_ended record { table = g.table; work = g.work } k x (subst (λ (m : ℕ). ending m (run p m l.output) ≡ some e) z w)

  -- An answer other than 50 is right for any larger allowance up to the limit, and so is all that was left.
  pub right_for_more : {σ : Sizes} {table work output : List ℕ} {few many : ℕ} {r : RunReport P} {t' w' o' : List ℕ} → few ≤ many → many ≤ ALLOWANCE
      → RunUnder σ o table work output few r t' w' o' → (number r.told ≡ 50 → ⊥) → RunUnder σ o table work output many r t' w' o'
  right_for_more h k a n = record {
    printed = a.printed;
    answer = more_ran _ h k a.answer n;
    table_left = a.table_left;
    work_left = a.work_left;
    output_left = a.output_left;
  }

-- Of two runs that are lent the same, of which the one with the smaller allowance did not end in 50: one report (number,
-- place, type, value, units and how many bytes were printed), every byte of the output, and both memories as they are left.
pub more_units : {σ : Sizes} {P : Type 0} {o : Origin P} → LawfulUnder σ o → {table work output : List ℕ} {few many : ℕ} {r q : RunReport P}
    {t' w' o' t'' w'' o'' : List ℕ} → few ≤ many → many ≤ ALLOWANCE
    → RunUnder σ o table work output few r t' w' o' → RunUnder σ o table work output many q t'' w'' o'' → (number r.told ≡ 50 → ⊥)
    → (r ≡ q) × (o' ≡ o'') × (t' ≡ t'') × (w' ≡ w'')
more_units law h k a b n = let e = one_run law (right_for_more h k a n) b in (e.0, e.3, e.1, e.2)
