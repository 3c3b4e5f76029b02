-- What one byte more, and bytes one after the other, promise: one law for each way through the code.
use lib.ListN.{length, take, get_or}
use lib.Seq.{take-suc, take-length}
use mathlib.Core.Bool.{true, false, not}
use mathlib.Core.List.{List, [], ◌∷◌, ◌++◌}
use mathlib.Core.Option.{Option, none, some}
use mathlib.Core.Path.{◌≡◌, refl, sym, ap, subst, ◌∙◌}
use borrow.Author.Tests.{ne_eqb}
use native.Mathlib.Omega.{arith}
use Prim.Native.Nat.{ℕ, suc, ◌+◌, ◌≤◌, ◌<◌}
use Rattle.language.specs.Sizes.{LINES, TABLE}
use Rattle.language.specs.Text.{is_in_line}
use Rattle.language.specs.Answers.{Lent}
use Rattle.language.specs.Shift.{Admission, Admits, admit_short, admit_large, admit_refused, admit_no_book, admit_no_room, admit}
use Rattle.language.proofs.Meaning.CellTypes.{none_some}
use Rattle.language.proofs.Shift.LineOutcomes.{Admitted, admitted}
use Rattle.layout.specs.Table.{zeros}
use Rattle.layout.specs.declared.Held.{Held}
use Rattle.layout.proofs.Wiped.{zeros_cleared}
use Rattle.grumpy.specs.Calls.{Admissible, Prepared, Preparable, Prepares}
use Rattle.tally.specs.Parts.{no_part}
use Rattle.tally.specs.Sums.{added}
use Rattle.tally.specs.declared.lines.Part.{Part}
use Rattle.tally.specs.declared.sums.Sums.{Sums}
use Rattle.tally.specs.declared.sums.Outcome.{Outcome}
use Rattle.shift.specs.declared.State.{State}
use Rattle.shift.specs.Meanings.{lent}
use Rattle.shift.specs.Feeding.{Lends, Ready, CameForAny, GoesOn, GoesForAny, Goes}
use Rattle.shift.specs.Taking.{printed_over, with_byte, overfull, Going, EndsNone, past, full, inside, Takes, takes_none}
use Rattle.shift.specs.Taking.{takes_byte, takes_line}
use Rattle.shift.proofs.Taken.{over_joined, takes_joined, takes_allowance}

other_byte : (b : ℕ) → (b ≡ 10 → ⊥) → is_in_line b ≡ true
unfolding is_in_line
other_byte b h = ap not (ne_eqb b 10 h)

some_none : {A : Type 0} {a : A} → ◌≡◌ {A = Option A} (some a) none → ⊥
some_none e = none_some (sym e)

line_feed : is_in_line 10 ≡ false
unfolding is_in_line
line_feed = refl

module _ (P : Held) (table work out : List ℕ) (s : State) where
  -- no line ends
  still : (b : ℕ) (r e : State) → EndsNone s b e → r ≡ e → GoesForAny P (b ∷ []) table work out s r table work out
  unfolding printed_over
  still b r e g f ed book x =
      subst (λ (r : State). GoesOn ed book P (b ∷ []) table work out s r table work out) (sym f)
      record {
        lines = [];
        takes = takes_byte g takes_none;
        output = refl;
        prepared = x.prepared;
        table_rest = refl;
        work_same = refl;
      }

  pub goes_past : (b : ℕ) → s.over ≡ true → GoesForAny P (b ∷ []) table work out s s table work out
  goes_past b h = still b s s (past h) refl

  pub goes_full : (b : ℕ) (r : State) → s.over ≡ false → LINES ≤ s.sums.lines → r ≡ overfull s
      → GoesForAny P (b ∷ []) table work out s r table work out
  goes_full b r h n e = still b r (overfull s) (full h n) e

  pub goes_byte : (b : ℕ) (r : State) → s.over ≡ false → s.sums.lines < LINES → (b ≡ 10 → ⊥) → r ≡ with_byte s b
      → GoesForAny P (b ∷ []) table work out s r table work out
  goes_byte b r h n o e = still b r (with_byte s b) (inside (record { going = h; few = n }) (other_byte b o)) e

  pub goes_line : (o : Outcome) (part : Part) (sums : Sums) (table' work' out' : List ℕ) → Going s
      → CameForAny P s.part table work out s.allowance o table' work' out' → part ≡ no_part → sums ≡ added s.sums o
      → GoesForAny P (10 ∷ []) table work out s record { allowance = s.allowance; part = part; sums = sums; over = s.over } table' work' out'
  unfolding printed_over
  goes_line o part sums table' work' out' going came e f ed book ready =
      let y = came ed book ready in
      let x = y.leaves in
      rw (e, f)
      (record {
        lines = record { outcome = o; printed = y.printed } ∷ [];
        takes = takes_line going line_feed y.ends takes_none;
        output = x.output;
        prepared = x.prepared;
        table_rest = x.table_rest;
        work_same = x.work_same;
      })

  pub goes_feed : (b : ℕ) (r : State) (table' work' out' : List ℕ) → b ≡ 10 → GoesForAny P (10 ∷ []) table work out s r table' work' out'
      → GoesForAny P (b ∷ []) table work out s r table' work' out'
  goes_feed b r table' work' out' e g ed book x =
      subst (λ (b : ℕ). GoesOn ed book P (b ∷ []) table work out s r table' work' out') (sym e) (g ed book x)

module _ (ed : ℕ) (book : List ℕ) (P : Held) (table work out : List ℕ) (s : State) where
  pub goes_none : Prepared ed book table P → GoesOn ed book P [] table work out s s table work out
  unfolding printed_over
  goes_none p = record { lines = []; takes = takes_none; output = refl; prepared = p; table_rest = refl; work_same = refl }

  -- ---- one piece after the other

  pub goes_more : (x y : List ℕ) (m e : State) (t₁ w₁ o₁ t₂ w₂ o₂ : List ℕ) → length o₁ ≡ length out
      → GoesOn ed book P x table work out s m t₁ w₁ o₁ → GoesOn ed book P y t₁ w₁ o₁ m e t₂ w₂ o₂
      → GoesOn ed book P (x ++ y) table work out s e t₂ w₂ o₂
  goes_more x y m e t₁ w₁ o₁ t₂ w₂ o₂ long a b = record {
    lines = a.lines ++ b.lines;
    takes = takes_joined a.takes (subst (λ (n : ℕ). Takes ed book n m y b.lines e) long b.takes);
    output = b.output ∙ ap (λ (o : List ℕ). printed_over o b.lines) a.output ∙ sym (over_joined out a.lines b.lines);
    prepared = b.prepared;
    table_rest = b.table_rest ∙ a.table_rest;
    work_same = b.work_same ∙ a.work_same;
  }

  -- what is ready is ready for the next byte too
  pub ready_on : (x : List ℕ) (m : State) (t₁ w₁ o₁ : List ℕ) → Ready ed book P table work s.allowance
      → GoesOn ed book P x table work out s m t₁ w₁ o₁ → Ready ed book P t₁ w₁ m.allowance
  ready_on x m t₁ w₁ o₁ h a = record {
    prepared = a.prepared;
    long = rw a.work_same h.long;
    work_clear = rw a.work_same h.work_clear;
    fair = rw (takes_allowance a.takes) h.fair;
  }

-- ---- a book that was admitted

admissible_by : {n : ℕ} {book : List ℕ} {l : Lent} {a : Admission} → Admits n book l a → a.told ≡ none → Admissible n book
admissible_by (admit_short h) e = absurd (some_none e)
admissible_by (admit_large a h) e = absurd (some_none e)
admissible_by (admit_refused a h x) e = absurd (some_none e)
admissible_by (admit_no_book a h x n) e = absurd (some_none e)
admissible_by (admit_no_room a h x b d) e = absurd (some_none e)
admissible_by (admit a h x b g) e =
    record { tokens = _; program = _; type = _; passes = x; is_book = b; most = _; room = g }

module _ (ed : ℕ) (book table work out : List ℕ) (allowance : ℕ) (lends : Lends ed book table work out allowance) where
  held : Admitted ed book (lent table work (length out) allowance)
  held = admitted lends.admits refl

  pub lends_preparable : Preparable ed book table
  lends_preparable = record { long = held.enough.table; admissible = admissible_by lends.admits refl }

  pub lends_ready : (P : Held) (t₁ : List ℕ) → Prepares ed book table t₁ P → Ready ed book P t₁ work allowance
  lends_ready P t₁ x =
      record { prepared = x.prepared; long = held.enough.work; work_clear = lends.work_clear; fair = held.fair }

  -- the table is cleared at the end, and was clear before
  pub lends_same : {P : Held} {t₁ t₂ bytes w o w₂ o₂ : List ℕ} {s m : State} (t₃ : List ℕ) → Prepares ed book table t₁ P
      → GoesOn ed book P bytes t₁ w o s m t₂ w₂ o₂ → t₃ ≡ zeros t₂ 0 TABLE → t₃ ≡ table
  lends_same t₃ x g f = f ∙ g.table_rest ∙ x.rest ∙ zeros_cleared TABLE table held.enough.table ∙ lends.table_clear

-- ---- a piece, so far

take_more : (piece : List ℕ) (i : ℕ) → i < length piece → take (i + 1) piece ≡ take i piece ++ (get_or piece i 0 ∷ [])
take_more piece i h = let e : i + 1 ≡ suc i = omega arith in ap (λ (n : ℕ). take n piece) e ∙ take-suc piece i 0 h

pub record SoFar (ed : ℕ) (book piece : List ℕ) (P : Held) (table work out : List ℕ) (s : State) (table' work' out' : List ℕ) (m : State) (i : ℕ)
    : Type 0 where
  pub goes : GoesOn ed book P (take i piece) table work out s m table' work' out'
  pub inside : i ≤ length piece
  pub long : length out' ≡ length out

module _ (ed : ℕ) (book piece : List ℕ) (P : Held) (table work out : List ℕ) (s : State) where
  pub so_far_none : Prepared ed book table P → SoFar ed book piece P table work out s table work out s 0
  so_far_none p = record { goes = goes_none ed book P table work out s p; inside = omega arith; long = refl }

  pub so_far_more : (t₁ w₁ o₁ t₂ w₂ o₂ : List ℕ) (m e : State) (i b : ℕ) → Ready ed book P table work s.allowance
      → SoFar ed book piece P table work out s t₁ w₁ o₁ m i → i < length piece
      → b ≡ get_or piece i 0 → length o₂ ≡ length o₁ → GoesForAny P (b ∷ []) t₁ w₁ o₁ m e t₂ w₂ o₂
      → SoFar ed book piece P table work out s t₂ w₂ o₂ e (i + 1)
  so_far_more t₁ w₁ o₁ t₂ w₂ o₂ m e i b ready h k f g a = record {
    goes = subst (λ (x : List ℕ). GoesOn ed book P x table work out s e t₂ w₂ o₂)
        (ap (λ (b : ℕ). take i piece ++ (b ∷ [])) f ∙ sym (take_more piece i k))
        (goes_more ed book P table work out s (take i piece) (b ∷ []) m e t₁ w₁ o₁ t₂ w₂ o₂ h.long h.goes
        (a ed book (ready_on ed book P table work out s (take i piece) m t₁ w₁ o₁ ready h.goes)));
    inside = omega arith;
    long = g ∙ h.long;
  }

  pub so_far_all : (table₀ t₁ w₁ o₁ t₂ : List ℕ) (m : State) (i : ℕ) → SoFar ed book piece P table work out s t₁ w₁ o₁ m i → length piece ≤ i
      → t₂ ≡ table₀ → Goes ed book piece table₀ work out s m t₂ w₁ o₁
  so_far_all table₀ t₁ w₁ o₁ t₂ m i h k same =
      let e : i ≡ length piece = omega (arith, h.inside) in
      let g = h.goes in
      record {
        lines = g.lines;
        takes = subst (λ (x : List ℕ). Takes ed book (length out) s x g.lines m) (ap (λ (n : ℕ). take n piece) e ∙ take-length piece) g.takes;
        output = g.output;
        table_same = same;
        work_same = g.work_same;
      }
