-- Text put behind text: one part into lent bytes, and parts one behind the other.
use borrow.Rule.Slice.PartMut.{put_mid}
use lib.ListN.{length, take, drop, set, length-append, length-take, length-drop, drop_of_length-le, take-append-drop}
use lib.Seq.{take_all, take-length, take-append-add, take-append_seam, set_split, take_at, drop-append-add, drop-drop, length-take-le}
use mathlib.Core.List.{List, [], ◌∷◌, ◌++◌, append_assoc, append-nil}
use mathlib.Core.Logic.{◌⊎◌, inl, inr, ⊎_elim}
use mathlib.Core.Path.{◌≡◌, refl, sym, ◌∙◌, ap, subst}
use native.Mathlib.Nat.{add-zero, add_assoc}
use native.Mathlib.Numerals.{add-one}
use native.Mathlib.Omega.{arith}
use Prim.Native.Nat.{ℕ, zero, suc, ◌+◌, ◌-◌, ◌≤◌, ◌<◌, zero-le, suc-le-suc, min}
use Rattle.page.specs.Text.{Adds, Writes}
use Rattle.page.specs.declared.pages.Page.{Page}

-- ---- as many bytes as have room

pub le_or_lt : (a b : ℕ) → (a ≤ b) ⊎ (b < a)
le_or_lt zero b = inl zero-le
le_or_lt (suc a) zero = inr (suc-le-suc zero-le)
le_or_lt (suc a) (suc b) = ⊎_elim (λ p. inl (suc-le-suc p)) (λ q. inr (suc-le-suc q)) (le_or_lt a b)

module _ (d s : List ℕ) (at : ℕ) (h : at ≤ length d) where
  -- the bytes that stand first
  front : take (length d) (take at d ++ s) ≡ take at d ++ take (length d - at) s
  front =
      let e : length d ≡ length (take at d) + (length d - at) = omega (arith, length-take-le at d h) in
      ap (λ (k : ℕ). take k (take at d ++ s)) e ∙ take-append-add (take at d) s (length d - at)

  module _ {n : ℕ} (m : n ≡ min (length s) (length d - at)) where
    same_part : take n s ≡ take (length d - at) s
    same_part =
        ⊎_elim
        (λ (l : length s ≤ length d - at). let e : n ≡ length s = omega arith in rw (e, take-length s) (sym (take_all _ s l)))
        (λ (l : length d - at < length s). let e : n ≡ length d - at = omega arith in rw e)
        (le_or_lt (length s) (length d - at))

    same_rest : drop (at + n) d ≡ drop (at + length s) d
    same_rest =
        ⊎_elim
        (λ (l : length s ≤ length d - at). let e : n ≡ length s = omega arith in rw e)
        (λ (l : length d - at < length s).
        drop_of_length-le d {i = at + n} (omega arith) ∙ sym (drop_of_length-le d {i = at + length s} (omega arith)))
        (le_or_lt (length s) (length d - at))

    -- the first n bytes of the part are copied
    pub put_part : {k : ℕ} {ys : List ℕ} → k ≡ n → ys ≡ take n s → Adds s d (put_mid at k d ys) at (at + n)
    put_part {k} {ys} e f =
        record {
          text = rw (e, f, same_part, drop-drop n at d, same_rest, front, append_assoc (take at d) _ _);
          ends = omega arith;
        }

-- ---- one byte

pub put_one : (d : List ℕ) (b at : ℕ) → at < length d → Adds (b ∷ []) d (set d at b) at (at + 1)
put_one d b at h =
    let short : length (take at d ++ b ∷ []) ≤ length d = omega (arith, length-append (take at d) (b ∷ []), length-take at d) in
    record {
      text =
          set_split d at b h
          ∙ rw (add-one at) (sym (rw (take_all (length d) (take at d ++ b ∷ []) short) (append_assoc (take at d) (b ∷ []) (drop (suc at) d))));
      ends = omega arith;
    }

-- a part that has no room
pub put_nowhere : (d s : List ℕ) (at : ℕ) → length d ≤ at → at ≤ length d → Adds s d d at at
put_nowhere d s at h k =
    let all : take at d ≡ d = take_all at d h in
    let past : length d ≤ at + length s = omega arith in
    record {
      text = sym (rw (all, take-append_seam d s, drop_of_length-le d past) (append-nil d));
      ends = omega arith;
    }

-- ---- parts one behind the other

-- nothing
pub adds_none : (d : List ℕ) {at r : ℕ} → r ≡ min at (length d) → Adds [] d d at r
adds_none d {at} {r} e =
    let short : length (take at d) ≤ length d = omega (arith, length-take at d) in
    record {
      text = sym (rw (append-nil (take at d), take_all (length d) (take at d) short, add-zero at) (take-append-drop at d));
      ends = omega arith;
    }

-- cut twice is cut once
cut : (k : ℕ) (x b : List ℕ) → take k (take k x ++ b) ≡ take k (x ++ b)
cut zero x b = refl
cut (suc k) [] b = refl
cut (suc k) (y ∷ x) b = ap (λ (r : List ℕ). y ∷ r) (cut k x b)

module _ {a d0 d1 : List ℕ} {n0 n1 : ℕ} (p : Adds a d0 d1 n0 n1) where
  first : List ℕ
  first = take (length d0) (take n0 d0 ++ a)

  rest : List ℕ
  rest = drop (n0 + length a) d0

  first_long : length first ≡ n1
  unfolding first
  first_long =
      omega (arith, length-take (length d0) (take n0 d0 ++ a), length-append (take n0 d0) a, length-take n0 d0, p.ends)

  -- there are as many bytes as before
  pub adds_long : length d1 ≡ length d0
  unfolding first rest
  adds_long =
      rw p.text (omega (arith, length-append first rest, first_long, p.ends, length-drop (n0 + length a) d0))

  head : take n1 d1 ≡ first
  unfolding first rest
  head = rw p.text (take_at first rest n1 first_long)

  module _ {b d2 : List ℕ} {n2 : ℕ} (q : Adds b d1 d2 n1 n2) where
    tail : drop (n1 + length b) d1 ≡ drop (n0 + (length a + length b)) d0
    unfolding first rest
    tail =
        rw p.text (ap (λ (k : ℕ). drop (k + length b) (first ++ rest)) (sym first_long)
        ∙ drop-append-add first rest (length b)
        ∙ drop-drop (length b) (n0 + length a) d0
        ∙ ap (λ (k : ℕ). drop k d0) (add_assoc n0 (length a) (length b)))

    pub adds_both : Adds (a ++ b) d0 d2 n0 n2
    unfolding first
    adds_both =
        record {
          text = q.text ∙ rw (adds_long, head, tail, cut, append_assoc, length-append a b);
          ends = omega (arith, q.ends, adds_long, p.ends, length-append a b);
        }

-- one behind the other on a page, read from what is told of each
infixl 40 ◌▸◌
pub ◌▸◌ : {a b : List ℕ} {p q r : Page} → Writes a p q → Writes b q r → Writes (a ++ b) p r
f ▸ g = record { same = g.same ∙ f.same; adds = adds_both f.adds g.adds }

-- nothing
pub nothing : {p : Page} → Writes [] p p
nothing {p} = record { same = refl; adds = adds_none p.out.now (omega (arith, p.within)) }

-- a part that is the same text
pub being : {a b : List ℕ} {p q : Page} → a ≡ b → Writes a p q → Writes b p q
being {p = p} {q} e w = subst (λ (t : List ℕ). Writes t p q) e w

-- on a page that is the same
pub onto : {b : List ℕ} {q s r : Page} → q ≡ s → Writes b q r → Writes b s r
onto {b} {r = r} e w = subst (λ (q : Page). Writes b q r) e w
