-- A piece that is fed: what is lent to its lines, once the book was asked for again, and what comes of both.
use Rattle.std.specs.Prelude.{Ok, Err}
use lib.ListN.{length}
use mathlib.Core.List.{List}
use mathlib.Core.Option.{Option, none, some}
use mathlib.Core.Path.{◌≡◌, refl, sym, ap, subst, ◌∙◌}
use native.Mathlib.Omega.{arith}
use Prim.Native.Nat.{ℕ}
use Rattle.language.specs.Sizes.{TABLE, WORK}
use Rattle.language.specs.Answers.{Lent, Enough, cleared}
use Rattle.language.specs.Shift.{ShiftRefusal, Admits, admit_short, admit_large, admit_refused, admit_no_book, admit_no_room, admit}
use Rattle.language.specs.Shift as Shift
use Rattle.pairs.specs.declared.Spot.{Spot}
use Rattle.shift.specs.declared.State.{State}
use Rattle.shift.specs.declared.Why.{Why}
use Rattle.shift.specs.Meanings.{Admission}
use Rattle.shift.specs.Meanings.{granted, lent, left_by}
use Rattle.shift.specs.Admitting.{Asked}
use Rattle.shift.specs.Feeding.{Lends, Goes}
use Rattle.shift.specs.Promises.{Feed, feeds, turned}
use Rattle.shift.proofs.Admitting.{cleared_again}
use Rattle.shift.proofs.Learnt.{cleared_length}

some_told : {r : ShiftRefusal} → ◌≡◌ {A = Option ShiftRefusal} (some r) none → ⊥
some_told e = let z : ◌≡◌ {A = ℕ} 0 1 = cc in omega arith

-- what is admitted has its memory
enough : {n : ℕ} {book : List ℕ} {l : Lent} {a : Shift.Admission} → Admits n book l a → a.told ≡ none → Enough l
enough (admit_short h) e = absurd (some_told e)
enough (admit_large g h) e = g
enough (admit_refused g h x) e = g
enough (admit_no_book g h x b) e = g
enough (admit_no_room g h x b d) e = g
enough (admit g h x b y) e = g

module _ (ed : ℕ) (book table work table₁ work₁ out : List ℕ) (state : State) where
  abbrev Asks : Admission → Type 0
  Asks r = Asked ed book table work state.allowance r table₁ work₁

  module _ (q : Asks (Ok tt)) where
    held : Enough (lent table work (length out) state.allowance)
    held = enough (q.told (length out)) refl

    table_is : table₁ ≡ cleared TABLE table
    unfolding left_by
    table_is = q.table_left

    work_is : work₁ ≡ cleared WORK work
    unfolding left_by
    work_is = q.work_left

    -- as long as before
    lent_is : lent table₁ work₁ (length out) state.allowance ≡ lent table work (length out) state.allowance
    lent_is =
        let t : length table₁ ≡ length table = ap length table_is ∙ cleared_length TABLE table held.table in
        let w : length work₁ ≡ length work = ap length work_is ∙ cleared_length WORK work held.work in
        cc

    granted_lends : Lends ed book table₁ work₁ out state.allowance
    granted_lends = record {
      admits = subst (λ (l : Lent). Admits ed book l granted) (sym lent_is) (q.told (length out));
      table_clear = ap (cleared TABLE) table_is ∙ cleared_again TABLE table ∙ sym table_is;
      work_clear = ap (cleared WORK) work_is ∙ cleared_again WORK work ∙ sym work_is;
    }

  -- ---- by what the code finds

  pub lends : (r : Admission) → Asks r → r ≡ (Ok tt) → Lends ed book table₁ work₁ out state.allowance
  lends r q e = granted_lends (subst Asks e q)

  module _ (piece : List ℕ) (r : Admission) (q : Asks r) where
    pub feed_granted : (after : State) (table' work' out' : List ℕ) → r ≡ (Ok tt)
        → Goes ed book piece table₁ work₁ out state after table' work' out'
        → Feed ed book piece table work out state record { told = (Ok tt); state = after } table' work' out'
    feed_granted after table' work' out' e g =
        let x = subst Asks e q in
        record {
          admits = x.told (length out);
          tells = feeds g.takes g.output;
          table_left = g.table_same ∙ x.table_left;
          work_left = g.work_same ∙ x.work_left;
        }

    pub feed_refused : (w : Why) (x : Spot) → r ≡ Err (record { why = w; spot = x })
        → Feed ed book piece table work out state record { told = Err (record { why = w; spot = x }); state = state } table₁ work₁ out
    feed_refused w x e =
        let y = subst Asks e q in
        record { admits = y.told (length out); tells = turned refl; table_left = y.table_left; work_left = y.work_left }
