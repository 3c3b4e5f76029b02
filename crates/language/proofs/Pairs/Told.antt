-- Whatever check or run tell of two sheets, in whatever edition, the part that is shown lies in the sheet that is named: it is a part of that sheet.
use mathlib.Core.Bool.{Bool, true, false, cond}
use mathlib.Core.List.{List, [], ◌∷◌, ◌++◌}
use native.Mathlib.Omega.{arith}
use Prim.Native.Nat.{ℕ, zero, suc, ◌≤◌}
use lib.Dec.{ltb}
use lib.ListN.{length, get_or}
use Rattle.language.specs.Sizes.{Sizes}
use Rattle.language.specs.Tokens.{Vocabulary, Token, past, place_at}
use Rattle.language.specs.Text.{Reaches, start, skip, next, token_of}
use Rattle.language.specs.Text.Content.{token}
use Rattle.language.specs.Numbers.{Refusal}
use Rattle.language.specs.Answers.{Spot, nowhere, at, place_in, unread, faulty, RefusedUnder, by_origin, by_tokens, CheckReport, CheckedUnder}
use Rattle.language.specs.Answers.{check_short, check_refused, check_passed, RunReport, Lent, RanUnder, run_short, run_large, run_refused, run_ended}
use Rattle.language.specs.Edition.{unknown, known, pair_in_under}
use Rattle.language.specs.Pairs.{joined, Place, place_of, too_long, flawed}
use Rattle.language.proofs.Text.OnePiece.{form_bounds}
use Rattle.language.proofs.Text.OneSplit.{reached_inside}
use Rattle.language.proofs.Pairs.Places.{Inside, place_inside, front_inside}

-- ---- a token begins in its text

placed : (n : ℕ) (ts : List Token) (u : Token) (i : ℕ) → ((i : ℕ) → (get_or ts i past).place ≤ n) → u.place ≤ n
    → (get_or (ts ++ (u ∷ [])) i past).place ≤ n
placed n [] u zero h k = k
placed n [] u (suc i) h k = omega arith
placed n (t ∷ ts) u zero h k = h zero
placed n (t ∷ ts) u (suc i) h k = placed n ts u i (λ j. h (suc j)) k

reached_places : {voc : Vocabulary} {t : List ℕ} {p : ℕ} {ts : List Token} → Reaches voc t p ts → (i : ℕ) → (get_or ts i past).place ≤ length t
reached_places start zero = omega arith
reached_places start (suc i) = omega arith
reached_places (skip r s) i = reached_places r i
reached_places {t = t} (next {p = p} {q = q} {k = k} {v = v} {ts = ts} r s h e) i =
    let b = form_bounds t p q (token k v) s.form in
    rw e (placed (length t) ts (token_of t p q k v) i (reached_places r) (omega (arith, b.0, b.1)))

-- ---- what is shown

either_way : (P : ℕ → Type 0) (b : Bool) {x y : ℕ} → P x → P y → P (cond b x y)
either_way P true p q = p
either_way P false p q = q

module _ (n : ℕ) (first second : List ℕ) where
  at_inside : {σ : Sizes} {ts : List Token} → (pair_in_under σ n first second).gives ts → (i : ℕ)
      → Inside first second ((pair_in_under σ n first second).at ts i)
  unfolding place_at
  at_inside {ts} g i =
      either_way (λ (p : ℕ). Inside first second (place_of first second p)) (ltb i (length ts))
      (place_inside first second (get_or ts i past).place (reached_places g.given.splits.whole i))
      (place_inside first second (length (joined first second)) (omega arith))

  refused_inside : {σ : Sizes} {r : Refusal} {x : Place} → RefusedUnder σ (pair_in_under σ n first second) r x → Inside first second x
  refused_inside (by_origin (unknown e)) = front_inside first second
  refused_inside (by_origin (known e (too_long h))) = front_inside first second
  refused_inside (by_origin (known e (flawed {p = p} h a))) = place_inside first second p (reached_inside a.before)
  refused_inside (by_tokens g (unread {i} w)) = at_inside g i
  refused_inside (by_tokens g (faulty {i = i} a f)) = at_inside g i

  -- by check
  pub checked_inside : {σ : Sizes} {table : ℕ} {r : CheckReport Place} → CheckedUnder σ (pair_in_under σ n first second) table r
      → Inside first second r.place
  checked_inside (check_short h) = front_inside first second
  checked_inside (check_refused h x) = refused_inside x
  checked_inside (check_passed h x) = front_inside first second

  spot_inside : {σ : Sizes} {ts : List Token} → (pair_in_under σ n first second).gives ts → (s : Spot)
      → Inside first second (place_in (pair_in_under σ n first second) ts s)
  spot_inside g nowhere = front_inside first second
  spot_inside g (at i) = at_inside g i

  -- and by run
  pub ran_inside : {σ : Sizes} {l : Lent} {r : RunReport Place} {printed : List ℕ} → RanUnder σ (pair_in_under σ n first second) l r printed
      → Inside first second r.place
  ran_inside (run_short h) = front_inside first second
  ran_inside (run_large h a) = front_inside first second
  ran_inside (run_refused h a x) = refused_inside x
  ran_inside (run_ended {e = e} h a x z) = spot_inside x.given e.spot
