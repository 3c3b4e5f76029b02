-- The line around a byte of a sheet: what the written functions find is a line, the only one there, and how a program finds it
-- byte for byte.
use lib.ListN.{length, drop, length-drop}
use lib.Seq.{drop-cons}
use mathlib.Core.Bool.{true, false}
use mathlib.Core.List.{List, [], ◌∷◌}
use mathlib.Core.Logic.{⊎_elim}
use mathlib.Core.Path.{◌≡◌, refl}
use native.Mathlib.Nat.{add-zero}
use native.Mathlib.Omega.{arith}
use Prim.Native.Nat.{ℕ, zero, suc, ◌+◌, ◌-◌, ◌≤◌, ◌<◌}
use Rattle.language.proofs.Text.Choices.{either, outcome, clash}
use Rattle.language.specs.Pairs.{line_begin, before_feed, line_end}
use Rattle.language.specs.Text.{byte, is_in_line, Each}

-- ---- byte for byte

module _ (sheet : List ℕ) where
  -- behind an LF a line begins
  pub begin_here : (p : ℕ) → is_in_line (byte sheet p) ≡ false → line_begin sheet (suc p) ≡ suc p
  unfolding line_begin
  begin_here p e = rw e

  -- behind any other byte it goes on
  pub begin_on : (p : ℕ) → is_in_line (byte sheet p) ≡ true → line_begin sheet (suc p) ≡ line_begin sheet p
  unfolding line_begin
  begin_on p e = rw e

  feed_at : (p : ℕ) → p < length sheet → drop p sheet ≡ byte sheet p ∷ drop (suc p) sheet
  feed_at p h = drop-cons sheet p 0 h

  -- at an LF a line ends
  pub end_here : (p : ℕ) → p < length sheet → is_in_line (byte sheet p) ≡ false → line_end sheet p ≡ p
  unfolding line_end before_feed
  end_here p h e = rw (feed_at p h, e) (add-zero p)

  -- at any other byte it goes on
  pub end_on : (p : ℕ) → p < length sheet → is_in_line (byte sheet p) ≡ true → line_end sheet p ≡ line_end sheet (suc p)
  unfolding line_end before_feed
  end_on p h e = rw (feed_at p h, e) (omega arith)

  drop_past : (p : ℕ) → length sheet ≤ p → drop p sheet ≡ []
  drop_past p h = go (drop p sheet) (omega (arith, length-drop p sheet))
    where
      go : (t : List ℕ) → length t ≡ 0 → t ≡ []
      go [] x = refl
      go (b ∷ t) x = absurd (omega arith)

  -- and it ends with the sheet
  pub end_past : (p : ℕ) → length sheet ≤ p → line_end sheet p ≡ p
  unfolding line_end before_feed
  end_past p h = rw (drop_past p h) (add-zero p)

-- ---- a line

-- from a up to e: it has no LF in it, one before it unless it begins the sheet, and one behind it unless it ends the sheet
pub record Line (sheet : List ℕ) (p a e : ℕ) : Type 0 where
  pub begins : a ≤ p
  pub ends : p ≤ e
  pub inside : e ≤ length sheet
  pub whole : Each is_in_line sheet a e
  pub front : (k : ℕ) → a ≡ suc k → is_in_line (byte sheet k) ≡ false
  pub back : e < length sheet → is_in_line (byte sheet e) ≡ false

module _ (sheet : List ℕ) where
  -- the part before p
  record Front (p a : ℕ) : Type 0 where
    low : a ≤ p
    none : Each is_in_line sheet a p
    behind : (k : ℕ) → a ≡ suc k → is_in_line (byte sheet k) ≡ false

  fronted : (p : ℕ) → Front p (line_begin sheet p)
  unfolding line_begin
  fronted zero = record { low = omega arith; none = λ k h l. absurd (omega arith); behind = λ k e. absurd (omega arith) }
  fronted (suc p) = ⊎_elim (λ e. rw (begin_on sheet p e) (on e (fronted p))) (λ e. rw (begin_here sheet p e) (at e)) (outcome (is_in_line (byte sheet p)))
    where
      at : is_in_line (byte sheet p) ≡ false → Front (suc p) (suc p)
      at e =
          record {
            low = omega arith;
            none = λ k h l. absurd (omega arith);
            behind = λ k z. let y : k ≡ p = omega arith in rw y e;
          }

      on : is_in_line (byte sheet p) ≡ true → Front p (line_begin sheet p) → Front (suc p) (line_begin sheet p)
      on e f =
          record {
            low = omega (arith, f.low);
            none = λ k h l. ⊎_elim (λ x. f.none k x l) (λ x. let y : k ≡ p = omega arith in rw y e) (either k p);
            behind = f.behind;
          }

  -- the part from p on
  record Back (p e : ℕ) : Type 0 where
    high : p ≤ e
    inside : e ≤ length sheet
    none : Each is_in_line sheet p e
    behind : e < length sheet → is_in_line (byte sheet e) ≡ false

  backed : (n p : ℕ) → p + n ≡ length sheet → Back p (line_end sheet p)
  backed zero p h =
      rw (end_past sheet p (omega arith)) (record {
        high = omega arith;
        inside = omega arith;
        none = λ k a b. absurd (omega arith);
        behind = λ l. absurd (omega arith);
      })
  backed (suc n) p h =
      ⊎_elim (λ e. rw (end_on sheet p (omega arith) e) (on e (backed n (suc p) (omega arith))))
      (λ e. rw (end_here sheet p (omega arith) e) (at e)) (outcome (is_in_line (byte sheet p)))
    where
      at : is_in_line (byte sheet p) ≡ false → Back p p
      at e = record { high = omega arith; inside = omega arith; none = λ k a b. absurd (omega arith); behind = λ l. e }

      on : is_in_line (byte sheet p) ≡ true → Back (suc p) (line_end sheet (suc p)) → Back p (line_end sheet (suc p))
      on e f =
          record {
            high = omega (arith, f.high);
            inside = f.inside;
            none = λ k a b. ⊎_elim (λ x. f.none k a x) (λ x. let y : k ≡ p = omega arith in rw y e) (either p k);
            behind = f.behind;
          }

  -- what is found is a line
  pub line_is : (p : ℕ) → p ≤ length sheet → Line sheet p (line_begin sheet p) (line_end sheet p)
  line_is p h =
      let f = fronted p in
      let b = backed (length sheet - p) p (omega arith) in
      record {
        begins = f.low;
        ends = b.high;
        inside = b.inside;
        whole = λ k x y. ⊎_elim (λ z. f.none k z y) (λ z. b.none k x z) (either k p);
        front = f.behind;
        back = b.behind;
      }

-- and no other line is around that byte
pub one_line : {sheet : List ℕ} {p a e c d : ℕ} → Line sheet p a e → Line sheet p c d → (a ≡ c) × (e ≡ d)
one_line {sheet} {p} {a} {e} {c} {d} x y = (omega (arith, begun x y, begun y x), omega (arith, ended x y, ended y x))
  where
    begun : {a e c d : ℕ} → Line sheet p a e → Line sheet p c d → a ≤ c
    begun {a} {e} {c} {d} x y =
        ⊎_elim (λ h. absurd (clash (y.whole (a - 1) (omega (arith, x.begins, y.ends)) (omega arith)) (x.front (a - 1) (omega arith)))) (λ h. h) (either c a)

    ended : {a e c d : ℕ} → Line sheet p a e → Line sheet p c d → d ≤ e
    ended {a} {e} {c} {d} x y =
        ⊎_elim (λ h. absurd (clash (y.whole e h (omega (arith, x.ends, y.begins))) (x.back (omega (arith, y.inside))))) (λ h. h) (either e d)
