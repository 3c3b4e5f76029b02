-- A shift that was begun, fed piece by piece and finished tells the written report of the whole input, however it was cut, and
-- whatever was lent to each piece: any memory that is enough, and an output of the same length with anything in it (R14.5, R14.8).
use Rattle.std.specs.Prelude.{Ok}
use lib.ListN.{length}
use mathlib.Core.Bool.{Bool}
use mathlib.Core.List.{List, [], ◌∷◌, ◌++◌}
use mathlib.Core.Path.{◌≡◌, refl, sym, ap, subst, ◌∙◌}
use Prim.Native.Nat.{ℕ}
use native.Mathlib.Omega.{arith}
use Rattle.tally.specs.declared.sums.Sums.{Sums}
use Rattle.shift.specs.Meanings.{Admission}
use Rattle.shift.specs.declared.Answer.{Answer}
use Rattle.shift.specs.Meanings.{Ending}
use Rattle.shift.specs.declared.State.{State}
use Rattle.shift.specs.Meanings.{new_state}
use Rattle.shift.specs.After.{After, Reports}
use Rattle.shift.specs.Promises.{Begin, Feeds, feeds, turned, Feed, Finish, finished, no_edition}
use Rattle.shift.specs.Taking.{EndedLine, printed_over, Takes, takes_none}
use Rattle.shift.proofs.Determined.{finish_determined}
use Rattle.shift.proofs.Finishing.{reports}
use Rattle.shift.proofs.Taken.{over_joined, takes_joined, takes_allowance, one_taking}

-- pieces put one behind the other
unfoldable pub whole : List (List ℕ) → List ℕ
whole [] = []
whole (piece ∷ pieces) = piece ++ whole pieces

-- one piece that was not refused, whatever was lent to it; the output is so long
pub record Fed (edition : ℕ) (book : List ℕ) (room : ℕ) (piece : List ℕ) (s e : State) : Type 0 where
  pub table : List ℕ
  pub work : List ℕ
  pub out : List ℕ
  pub table_left : List ℕ
  pub work_left : List ℕ
  pub out_left : List ℕ
  pub long : length out ≡ room
  pub fed : Feed edition book piece table work out s record { told = (Ok tt); state = e } table_left work_left out_left

-- one after the other
pub data Pieces (edition : ℕ) (book : List ℕ) (room : ℕ) : State → List (List ℕ) → State → Type 0 where
  no_piece : {s : State} → Pieces edition book room s [] s
  one_piece : {s m e : State} {piece : List ℕ} {pieces : List (List ℕ)} → Fed edition book room piece s m
      → Pieces edition book room m pieces e → Pieces edition book room s (piece ∷ pieces) e

granted : {edition : ℕ} {book piece out out' : List ℕ} {s e : State} {a : Admission} → Feeds edition book piece out s out' a e → a ≡ (Ok tt)
    → (lines : List EndedLine) × Takes edition book (length out) s piece lines e × (out' ≡ printed_over out lines)
granted (feeds t e) g = (_, t, e)
granted (turned e) g = let z : ◌≡◌ {A = ℕ} 0 1 = cc in absurd (omega arith)

module _ {edition : ℕ} {book : List ℕ} {room : ℕ} where
  piece_taken : {piece : List ℕ} {s e : State} → Fed edition book room piece s e → (lines : List EndedLine) × Takes edition book room s piece lines e
  piece_taken {piece} {s} {e} f =
      let z = granted f.fed.tells refl in
      (z.0, subst (λ (n : ℕ). Takes edition book n s piece z.0 e) f.long z.1)

  pub pieces_taken : {pieces : List (List ℕ)} {s e : State} → Pieces edition book room s pieces e
      → (lines : List EndedLine) × Takes edition book room s (whole pieces) lines e
  unfolding whole
  pieces_taken no_piece = ([], takes_none)
  pieces_taken (one_piece f fs) =
      let z = piece_taken f in
      let y = pieces_taken fs in
      (z.0 ++ y.0, takes_joined z.1 y.1)

  -- Whatever the state is: cut otherwise, and with other memory and other bytes in the output for each piece, it comes to the
  -- same state, and so to the same report.
  pub same_state : {xs ys : List (List ℕ)} {s e f : State} → Pieces edition book room s xs e → Pieces edition book room s ys f → whole xs ≡ whole ys
      → e ≡ f
  same_state {s = s} {f = f} p q h =
      let z = pieces_taken p in
      let y = pieces_taken q in
      (one_taking z.1 (subst (λ (input : List ℕ). Takes edition book room s input y.0 f) (sym h) y.1)).1

  pub same_report : {xs ys : List (List ℕ)} {s e f : State} {n : ℕ} {a b : Ending} {u v : Sums} → Pieces edition book room s xs e
      → Pieces edition book room s ys f → whole xs ≡ whole ys → Finish n e a u → Finish n f b v → (a ≡ b) × (u ≡ v)
  same_report {e = e} {n = n} {b = b} {v = v} p q h x y =
      finish_determined x (subst (λ (s : State). Finish n s b v) (sym (same_state p q h)) y)

-- ---- from begin to finish

finish_reports : {ed : ℕ} {book : List ℕ} {room : ℕ} {input : List ℕ} {n : ℕ} {s : State} {a : Ending} {sums : Sums} {over : Bool} → Finish n s a sums
    → a ≡ Ok over → After ed book room input s → Reports ed book room s.allowance input over sums
finish_reports {ed} {book} {room} {input} {s = s} {sums = sums} {over} (finished v) e x =
    let z : s.over ≡ over = cc in
    subst (λ (over : Bool). Reports ed book room s.allowance input over sums) z (reports x)
finish_reports (no_edition v) e x = let z : ◌≡◌ {A = ℕ} 0 1 = cc in absurd (omega arith)

-- Begun, fed and finished by whatever meets the three contracts: a report that is told is the written one.
pub in_pieces : {edition : ℕ} {book table work t' w' : List ℕ} {allowance room : ℕ} {b : Answer} {pieces : List (List ℕ)} {e : State} {n : ℕ} {over : Bool}
    {sums : Sums} → Begin edition book table work allowance b t' w' → Pieces edition book room b.state pieces e
    → Finish n e (Ok over) sums → Reports edition book room allowance (whole pieces) over sums
in_pieces {edition} {book} {allowance = allowance} {room} {b} {pieces} {e} {over = over} {sums} x p y =
    let z = pieces_taken p in
    let t = subst (λ (s : State). Takes edition book room s (whole pieces) z.0 e) x.state z.1 in
    let same : e.allowance ≡ allowance = takes_allowance t in
    let a : After edition book room (whole pieces) e = record {
      lines = z.0;
      taken = subst (λ (n : ℕ). Takes edition book room (new_state n) (whole pieces) z.0 e) (sym same) t;
    } in
    subst (λ (n : ℕ). Reports edition book room n (whole pieces) over sums) same (finish_reports y refl a)

-- ---- what lies in the output

-- each piece is lent the output as the one before it left it
pub data Through (edition : ℕ) (book : List ℕ) : State → List ℕ → List (List ℕ) → State → List ℕ → Type 0 where
  no_more : {s : State} {out : List ℕ} → Through edition book s out [] s out
  one_more : {s m e : State} {table work table' work' out out₁ out₂ piece : List ℕ} {pieces : List (List ℕ)} → length out₁ ≡ length out
      → Feed edition book piece table work out s record { told = (Ok tt); state = m } table' work' out₁
      → Through edition book m out₁ pieces e out₂ → Through edition book s out (piece ∷ pieces) e out₂

-- then in the end lies what the lines of the whole input printed
pub through : {edition : ℕ} {book : List ℕ} {pieces : List (List ℕ)} {s e : State} {out out' : List ℕ} → Through edition book s out pieces e out'
    → (lines : List EndedLine) × Takes edition book (length out) s (whole pieces) lines e × (out' ≡ printed_over out lines)
unfolding whole printed_over
through no_more = ([], takes_none, refl)
through {edition} {book} {e = e} {out = out} (one_more {m = m} {pieces = pieces} long f t) =
    let z = granted f.tells refl in
    let y = through t in
    let k = subst (λ (n : ℕ). Takes edition book n m (whole pieces) y.0 e) long y.1 in (
      z.0 ++ y.0,
      takes_joined z.1 k,
      y.2 ∙ ap (λ (o : List ℕ). printed_over o y.0) z.2 ∙ sym (over_joined out z.0 y.0),
    )
