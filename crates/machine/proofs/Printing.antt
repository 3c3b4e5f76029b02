-- `putchar`: a byte is printed, or it is no byte, or there is no room.
use mathlib.Core.Path.{◌≡◌, refl, sym, ap, subst, ◌∙◌}
use mathlib.Core.Bool.{true, false}
use mathlib.Core.List.{List, ◌∷◌}
use mathlib.Core.Option.{none, some}
use Prim.Native.Nat.{ℕ, zero, suc, ◌+◌, ◌-◌, ◌≤◌, ◌<◌}
use native.Mathlib.Omega.{arith}
use native.Mathlib.Numerals.{add-one}
use lib.ListN.{length, get_or, set, length-set}
use lib.Seq.{get_or-set_same, get_or-set_other}
use lib.Dec.{T}
use lib.IntN.{ℤ, pos, negsuc, nat_abs}
use lib.Signed.{lt_z, non_neg}
use borrow.Author.Tests.{le-leb, lt-leb, ltb-true, ltb-false}
use Rattle.language.specs.Sizes.{BYTE}
use Rattle.language.specs.State as M
use Rattle.language.specs.State.{number, value, stop, not_a_byte, output_full, as_int, choose, want, with_byte}
use Rattle.language.specs.Meaning.{emit, put}
use Rattle.layout.specs.declared.values.Value.TheVariants.{Int}
use Rattle.machine.specs.Outcomes.{Tells, bytes, memory, byte_more, Printed}
use Rattle.numbers.specs.Meanings.{stop_meant}
use Rattle.numbers.specs.declared.Stop.{Stop}
use Rattle.machine.specs.declared.state.Tally.{Tally}
use Rattle.machine.specs.Outcomes.{Outcome}
use Rattle.std.specs.Prelude.{Ok, Err}
use Rattle.machine.proofs.Telling.{tells_same, want_some, want_none}

-- nothing is printed
printed_still : (v : M.Value) {o : List ℕ} {s : Tally} (y : Stop) → s.printed ≤ length o
    → ((i : ℕ) (w : List ℕ) → Tells (stop (stop_meant y) i (memory w o s)) (want (as_int v) λ z. put i z (memory w o s))) → Printed v o o s (Err y)
printed_still v y p h = record { wide = refl; rest = λ k l. refl; fits = p; right = h }

-- ---- no byte

-- a number below 0
pub put_low : (z : ℤ) → lt_z z (pos 0) ≡ true → (i : ℕ) (σ : M.State) → put i z σ ≡ stop not_a_byte i σ
unfolding put
put_low (pos n) e i σ = let l = ltb-true n 0 e in absurd (omega arith)
put_low (negsuc n) e i σ = refl

-- a number above the largest byte
pub put_high : (z : ℤ) → lt_z (pos BYTE) z ≡ true → (i : ℕ) (σ : M.State) → put i z σ ≡ stop not_a_byte i σ
unfolding put choose
put_high (pos n) e i σ = let l = ltb-true BYTE n e in rw (lt-leb n BYTE l) refl
put_high (negsuc n) e i σ = absurd (subst T (sym e) tt)

module _ (v : M.Value) {o : List ℕ} {s : Tally} (p : s.printed ≤ length o) where
  -- either of these
  pub put_out : (z : ℤ) → some z ≡ as_int v → ((i : ℕ) (σ : M.State) → put i z σ ≡ stop not_a_byte i σ) → Printed v o o s (Err Stop.NotAByte)
  put_out z e h = printed_still v Stop.NotAByte p (λ i w. want_some (as_int v) _ e (tells_same (sym (h i (memory w o s)))))

  -- no number
  pub put_other_kind : none ≡ as_int v → (y : Stop) {r : Outcome} → r ≡ Err y → Printed v o o s r
  put_other_kind e y f =
      subst (λ (x : Outcome). Printed v o o s x) (sym f) (printed_still v y p (λ i w. want_none (as_int v) _ e))

-- ---- a byte

emit_none : (r i n : ℕ) (σ : M.State) → r ≡ 0 → emit r i n σ ≡ stop output_full i σ
unfolding emit
emit_none zero i n σ e = refl
emit_none (suc r) i n σ e = absurd (omega arith)

emit_some : (r i n : ℕ) (σ : M.State) → 0 < r → emit r i n σ ≡ value (number (pos n)) (with_byte n (r - 1) σ)
unfolding emit
emit_some zero i n σ e = absurd (omega arith)
emit_some (suc r) i n σ e = let q : suc r - 1 ≡ r = omega arith in rw q refl

bytes_same : (o p : List ℕ) (n : ℕ) → ((k : ℕ) → k < n → get_or p k 0 ≡ get_or o k 0) → bytes p n ≡ bytes o n
unfolding bytes
bytes_same o p zero h = refl
bytes_same o p (suc n) h = rw (h n (omega arith), bytes_same o p n (λ k l. h k (omega arith))) refl

module _ (z : ℤ) (lo : lt_z z (pos 0) ≡ false) (hi : lt_z (pos BYTE) z ≡ false) where
  -- it fits a byte
  pub byte_fits : T (non_neg z) × (nat_abs z < 256)
  byte_fits = by z lo hi
    where
      by : (y : ℤ) → lt_z y (pos 0) ≡ false → lt_z (pos BYTE) y ≡ false → T (non_neg y) × (nat_abs y < 256)
      by (pos n) a b = let l = ltb-false BYTE n b in (tt, omega arith)
      by (negsuc n) a b = absurd (subst T a tt)

  is_positive : z ≡ pos (nat_abs z)
  is_positive = by z lo
    where
      by : (y : ℤ) → lt_z y (pos 0) ≡ false → y ≡ pos (nat_abs y)
      by (pos n) a = refl
      by (negsuc n) a = absurd (subst T a tt)

  put_is : (i : ℕ) (σ : M.State) → put i z σ ≡ emit σ.room i (nat_abs z) σ
  unfolding put choose
  put_is i σ =
      let l = byte_fits.1 in
      ap (λ (y : ℤ). put i y σ) is_positive ∙ rw (le-leb (nat_abs z) BYTE (omega arith)) refl

  module _ (o : List ℕ) (s : Tally) where
    -- no room
    pub put_full : (v : M.Value) → some z ≡ as_int v → s.printed ≤ length o → length o ≤ s.printed → Printed v o o s (Err Stop.OutputFull)
    put_full v e p h =
        printed_still v Stop.OutputFull p
        (λ i w.
        want_some (as_int v) _ e
        (tells_same (sym (put_is i (memory w o s) ∙ emit_none (length o - s.printed) i (nat_abs z) (memory w o s) (omega arith)))))

    module _ (h : s.printed < length o) (o1 : List ℕ) (eo : o1 ≡ set o s.printed (nat_abs z)) where
      others : (k : ℕ) → (k ≡ s.printed → ⊥) → get_or o1 k 0 ≡ get_or o k 0
      others k d = ap (λ (x : List ℕ). get_or x k 0) eo ∙ get_or-set_other o s.printed k (nat_abs z) 0 d

      newest : get_or o1 s.printed 0 ≡ nat_abs z
      newest = ap (λ (x : List ℕ). get_or x s.printed 0) eo ∙ get_or-set_same o s.printed (nat_abs z) 0 h

      long : length o1 ≡ length o
      long = ap (λ (x : List ℕ). length x) eo ∙ simp length-set refl

      bytes_are : bytes o1 (s.printed + 1) ≡ nat_abs z ∷ bytes o s.printed
      unfolding bytes
      bytes_are = rw (add-one s.printed, newest, bytes_same o o1 s.printed (λ k l. others k (λ q. omega arith))) refl

      printed_right : (v : M.Value) → some z ≡ as_int v → (i : ℕ) (w : List ℕ)
          → Tells (value (number z) (memory w o1 (byte_more s))) (want (as_int v) λ z. put i z (memory w o s))
      printed_right v e i w =
          let r : length o - s.printed - 1 ≡ length o1 - (s.printed + 1) = omega (arith, long) in
          want_some (as_int v) _ e
          (tells_same (sym (put_is i (memory w o s) ∙ emit_some (length o - s.printed) i (nat_abs z) (memory w o s) (omega arith)
          ∙ rw (r, ← bytes_are, ← is_positive) refl)))

      -- it is printed
      pub put_done : (v : M.Value) → some z ≡ as_int v → Printed v o o1 s (Ok (Int z))
      put_done v e = record {
        wide = long;
        rest = λ k u. others k (λ q. omega arith);
        fits = omega arith;
        right = printed_right v e;
      }
