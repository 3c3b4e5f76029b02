-- Line feeds counted, and the bytes before the next and behind the last, as a text grows or shrinks by a byte.
use borrow.Author.Tests.{eq-eqb, ne_eqb, eqb-true, eqb-false}
use lib.Dec.{eqb}
use lib.ListN.{length, get_or, take, drop, length-drop}
use lib.Seq.{take-suc}
use mathlib.Core.Bool.{Bool, true, false, cond, not}
use mathlib.Core.List.{List, [], ◌∷◌, ◌++◌, reverse-append}
use mathlib.Core.Path.{◌≡◌, refl, ◌∙◌, ap, subst}
use native.Mathlib.Numerals.{add-one}
use native.Mathlib.Omega.{arith}
use Prim.Native.Nat.{ℕ, zero, suc, ◌+◌, ◌-◌, ◌≤◌, ◌<◌}
use Rattle.language.proofs.Pairs.Lines.{begin_here, begin_on}
use Rattle.language.specs.Pairs.{line_begin, before_feed, line_end}
use Rattle.language.specs.Text.{byte, is_in_line}
use Rattle.pairs.proofs.Spans.{feed, no_feed}
use Rattle.page.specs.Characters.{is_readable}
use Rattle.page.specs.Lines.{feeds, ahead, behind, columns_of, Spotted}

-- ---- a byte at the end

one_more : (q : Bool) (m : ℕ) → cond q (suc (m + 1)) (m + 1) ≡ cond q (suc m) m + 1
one_more true m = omega arith
one_more false m = refl

feeds_feed : (t : List ℕ) (b : ℕ) → eqb b 10 ≡ true → feeds (t ++ (b ∷ [])) ≡ feeds t + 1
unfolding feeds
feeds_feed [] b h = rw h
feeds_feed (x ∷ t) b h = rw (feeds_feed t b h) (one_more (eqb x 10) (feeds t))

feeds_other : (t : List ℕ) (b : ℕ) → eqb b 10 ≡ false → feeds (t ++ (b ∷ [])) ≡ feeds t
unfolding feeds
feeds_other [] b h = rw h
feeds_other (x ∷ t) b h = rw (feeds_other t b h)

behind_end : (t : List ℕ) (b : ℕ) → behind (t ++ (b ∷ [])) ≡ cond (eqb b 10) zero (suc (behind t))
unfolding behind ahead
behind_end t b = rw (reverse-append t (b ∷ []))

-- ---- the same of a text up to a place

module _ (t : List ℕ) (i : ℕ) (h : i < length t) where
  longer : take (i + 1) t ≡ take i t ++ (get_or t i 0 ∷ [])
  longer = rw (add-one i) (take-suc t i 0 h)

  -- a line feed more
  pub feeds_more : get_or t i 0 ≡ 10 → feeds (take (i + 1) t) ≡ feeds (take i t) + 1
  feeds_more e = ap feeds longer ∙ feeds_feed (take i t) (get_or t i 0) (eq-eqb _ _ e)

  -- another byte more
  pub feeds_same : (get_or t i 0 ≡ 10 → ⊥) → feeds (take (i + 1) t) ≡ feeds (take i t)
  feeds_same e = ap feeds longer ∙ feeds_other (take i t) (get_or t i 0) (ne_eqb _ _ e)

  -- behind a line feed a line begins
  pub behind_none : get_or t i 0 ≡ 10 → behind (take (i + 1) t) ≡ 0
  behind_none e = ap behind longer ∙ behind_end (take i t) (get_or t i 0) ∙ rw (eq-eqb (get_or t i 0) 10 e)

  -- and another byte makes it longer
  pub behind_more : (get_or t i 0 ≡ 10 → ⊥) → behind (take (i + 1) t) ≡ behind (take i t) + 1
  behind_more e = ap behind longer ∙ behind_end (take i t) (get_or t i 0) ∙ rw (ne_eqb (get_or t i 0) 10 e) (omega arith)

-- nothing stands behind in no text
pub behind_nil : (t : List ℕ) → behind (take 0 t) ≡ 0
unfolding behind ahead
behind_nil t = refl

-- nothing is counted in no text
pub feeds_nil : (t : List ℕ) → feeds (take 0 t) ≡ 0
unfolding feeds
feeds_nil t = refl

at_most : (q : Bool) (m n : ℕ) → m ≤ n → cond q (suc m) m ≤ suc n
at_most true m n h = omega arith
at_most false m n h = omega arith

-- there are no more line feeds than bytes
pub feeds_few : (t : List ℕ) (i : ℕ) → feeds (take i t) ≤ i
unfolding feeds
feeds_few t zero = omega arith
feeds_few [] (suc i) = omega arith
feeds_few (x ∷ t) (suc i) = at_most (eqb x 10) (feeds (take i t)) i (feeds_few t i)

-- counted up to a place that is the end
pub feeds_up_to : (t : List ℕ) (i at n : ℕ) → i ≤ at → at ≤ i → n ≡ feeds (take i t) → n ≡ feeds (take at t)
feeds_up_to t i at n a b e = let x : i ≡ at = omega arith in rw x at e

-- ---- where a line begins and ends, as `pairs` finds it

module _ (t : List ℕ) (p : ℕ) (h : suc p ≤ length t) where
  begin_more : (q : Bool) → eqb (byte t p) 10 ≡ q → line_begin t p + behind (take p t) ≡ p
      → line_begin t (suc p) + behind (take (suc p) t) ≡ suc p
  begin_more true e g =
      let x = eqb-true (byte t p) 10 e in
      let b : behind (take (suc p) t) ≡ 0 = rw (add-one p) at (behind_none t p (omega arith) x) in
      omega (arith, begin_here t p (feed (byte t p) x), b)
  begin_more false e g =
      let x = eqb-false (byte t p) 10 e in
      let b : behind (take (suc p) t) ≡ behind (take p t) + 1 = rw (add-one p) at (behind_more t p (omega arith) x) in
      omega (arith, begin_on t p (no_feed (byte t p) x), b, g)

begin_behind : (t : List ℕ) (p : ℕ) → p ≤ length t → line_begin t p + behind (take p t) ≡ p
unfolding line_begin behind
begin_behind t zero h = behind_nil t
begin_behind t (suc p) h = begin_more t p h (eqb (byte t p) 10) refl (begin_behind t p (omega arith))

-- what stands behind the last line feed goes from where the line begins
pub starts_behind : (t : List ℕ) (p r : ℕ) → p ≤ length t → r ≡ line_begin t p → r + behind (take p t) ≡ p
starts_behind t p r h e = ap (λ (z : ℕ). z + behind (take p t)) e ∙ begin_behind t p h

turned : (q : Bool) (n : ℕ) → cond (not q) (suc n) zero ≡ cond q zero (suc n)
turned true n = refl
turned false n = refl

before_ahead : (t : List ℕ) → before_feed t ≡ ahead t
unfolding before_feed ahead is_in_line
before_ahead [] = refl
before_ahead (b ∷ t) = rw (before_ahead t) (turned (eqb b 10) (ahead t))

-- what stands before the next one goes up to where it ends
pub ends_ahead : (t : List ℕ) (p r : ℕ) → r ≡ line_end t p → r ≡ p + ahead (drop p t)
unfolding line_end
ends_ahead t p r e = e ∙ ap (λ (z : ℕ). p + z) (before_ahead (drop p t))

-- no more stands ahead than there is
ahead_short : (q : Bool) (m n : ℕ) → m ≤ n → cond q zero (suc m) ≤ suc n
ahead_short true m n h = omega arith
ahead_short false m n h = omega arith

ahead_length : (t : List ℕ) → ahead t ≤ length t
unfolding ahead
ahead_length [] = omega arith
ahead_length (x ∷ t) = ahead_short (eqb x 10) (ahead t) (length t) (ahead_length t)

-- a line ends with the text at the latest
pub ahead_few : (t : List ℕ) (i : ℕ) → ahead (drop i t) ≤ length t - i
ahead_few t i = omega (arith, ahead_length (drop i t), length-drop i t)

-- ---- what the searches found, put together

-- the place is no further than the end
pub spotted : (t : List ℕ) {p at n from to k : ℕ} {q : Bool} → at ≡ p → p ≤ length t → n ≡ feeds (take at t) → from + behind (take at t) ≡ at
    → to ≡ at + ahead (drop at t) → q ≡ is_readable (take (to - from) (drop from t)) → k ≡ columns_of q (take (at - from) (drop from t))
    → Spotted t p (record { line = n + 1; column = k + 1; from = from; here = at; to = to; plain = q })
spotted t {at = at} {n} {from} {to} {k} {q} e l a b d r j =
    subst (λ (p : ℕ). Spotted t p (record { line = n + 1; column = k + 1; from = from; here = at; to = to; plain = q })) e
    (record {
      line = omega arith;
      from = b;
      here = refl;
      to = d;
      plain = r;
      column = omega arith;
      before = omega arith;
      ordered = omega arith;
      within = omega (arith, ahead_few t at);
    })
