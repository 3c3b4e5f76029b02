-- Comments within comments: what a scan that counts the open ones shows of the comment at a place, and that a comment has
-- one end.
use lib.ListN.{length}
use mathlib.Core.List.{List}
use mathlib.Core.Path.{◌≡◌, refl, sym, ◌∙◌}
use native.Mathlib.Omega.{arith}
use Prim.Native.Nat.{ℕ, zero, suc, ◌+◌, ◌≤◌, ◌<◌}
use Rattle.language.proofs.Text.Spellings.{two_inside}
use Rattle.language.specs.Text.{Opens, Closes, Inside, Comment}
use Rattle.language.specs.Text.Inside.{ended, any_byte, nested}

-- the marks `/*` and `*/` do not stand at one place
pub open_close : (t : List ℕ) (p : ℕ) → Opens t p → Closes t p → ⊥
open_close t p o s = let e = o.0 in let f = s.0 in omega arith

-- both bytes of `/*` lie in the text
pub open_inside : (t : List ℕ) (p : ℕ) → Opens t p → p + 2 ≤ length t
open_inside t p o = two_inside t p 47 42 o (omega arith)

-- both bytes of `*/` lie in the text
pub close_inside : (t : List ℕ) (p : ℕ) → Closes t p → p + 2 ≤ length t
close_inside t p s = two_inside t p 42 47 s (omega arith)

-- from i on: the inside of a comment, its closing mark, and behind that what K says
abbrev Upto : List ℕ → (ℕ → Type 0) → ℕ → Type 0
Upto t K i = (m : ℕ) × Inside t i m × Closes t m × K (m + 2)

module _ (t : List ℕ) (K : ℕ → Type 0) where
  open_in : (i : ℕ) → Opens t i → Upto t (Upto t K) (i + 2) → Upto t K i
  open_in i o u = (u.3.0, nested o u.1 u.2 u.3.1, u.3.2, u.3.3)

  close_in : (i : ℕ) → Closes t i → K (i + 2) → Upto t K i
  close_in i s k = (i, ended, s, k)

  byte_in : (i : ℕ) → i < length t → (Opens t i → ⊥) → (Closes t i → ⊥) → Upto t K (i + 1) → Upto t K i
  byte_in i h o s u = (u.0, any_byte h o s u.1, u.2, u.3)

  open_out : (i : ℕ) → Opens t i → Upto t K i → Upto t (Upto t K) (i + 2)
  open_out i o u = go i u.0 u.1 o u.2 u.3
    where
      go : (i m : ℕ) → Inside t i m → Opens t i → Closes t m → K (m + 2) → Upto t (Upto t K) (i + 2)
      go i m ended o s k = absurd (open_close t m o s)
      go i m (any_byte h a b n) o s k = absurd (a o)
      go i m (nested {m = e} o' n s' n') o s k = (e, n, s', (m, n', s, k))

  close_out : (i : ℕ) → Closes t i → Upto t K i → K (i + 2)
  close_out i c u = go i u.0 u.1 c u.2 u.3
    where
      go : (i m : ℕ) → Inside t i m → Closes t i → Closes t m → K (m + 2) → K (i + 2)
      go i m ended c s k = k
      go i m (any_byte h a b n) c s k = absurd (b c)
      go i m (nested o' n s' n') c s k = absurd (open_close t i o' c)

  byte_out : (i : ℕ) → (Opens t i → ⊥) → (Closes t i → ⊥) → Upto t K i → Upto t K (i + 1)
  byte_out i na nc u = go i u.0 u.1 na nc u.2 u.3
    where
      go : (i m : ℕ) → Inside t i m → (Opens t i → ⊥) → (Closes t i → ⊥) → Closes t m → K (m + 2) → Upto t K (i + 1)
      go i m ended na nc s k = absurd (nc s)
      go i m (any_byte h a b n) na nc s k = (m, n, s, k)
      go i m (nested o' n s' n') na nc s k = absurd (na o')

  end_out : (i : ℕ) → length t ≤ i → Upto t K i → ⊥
  end_out i h u = go i u.0 u.1 u.2 h
    where
      go : (i m : ℕ) → Inside t i m → Closes t m → length t ≤ i → ⊥
      go i m ended s h = omega (arith, close_inside t m s)
      go i m (any_byte l a b n) s h = omega arith
      go i m (nested o' n s' n') s h = omega (arith, open_inside t i o')

-- d comments are open at i, and the outermost ends at q
abbrev Open : List ℕ → ℕ → ℕ → ℕ → Type 0
Open t q zero i = q ≡ i
Open t q (suc d) i = Upto t (Open t q d) i

-- what the scan keeps: the comment at p ends where d comments that are open at i end
pub record Depth (t : List ℕ) (p d i : ℕ) : Type 0 where
  pub to : (q : ℕ) → Open t q d i → Comment t p q
  pub from : (q : ℕ) → Comment t p q → Open t q d i

module _ (t : List ℕ) (p : ℕ) where
  -- behind the opening mark one comment is open
  pub depth_start : Opens t p → Depth t p 1 (p + 2)
  depth_start o =
      record {
        to = λ q u. record { at = u.0; opens = o; inside = u.1; closes = u.2; ends = u.3 };
        from = λ q c. (c.at, c.inside, c.closes, c.ends);
      }

  -- behind another opening mark one more is
  pub depth_open : (d i : ℕ) → Opens t i → Depth t p (suc d) i → Depth t p (suc (suc d)) (i + 2)
  depth_open d i o n =
      record { to = λ q u. n.to q (open_in t (Open t q d) i o u); from = λ q c. open_out t (Open t q d) i o (n.from q c) }

  -- behind a closing mark one less is
  pub depth_close : (d i : ℕ) → Closes t i → Depth t p (suc d) i → Depth t p d (i + 2)
  depth_close d i s n =
      record { to = λ q u. n.to q (close_in t (Open t q d) i s u); from = λ q c. close_out t (Open t q d) i s (n.from q c) }

  -- behind any other byte as many are
  pub depth_byte : (d i : ℕ) → i < length t → (Opens t i → ⊥) → (Closes t i → ⊥) → Depth t p (suc d) i → Depth t p (suc d) (i + 1)
  depth_byte d i h na nc n =
      record {
        to = λ q u. n.to q (byte_in t (Open t q d) i h na nc u);
        from = λ q c. byte_out t (Open t q d) i na nc (n.from q c);
      }

  -- where the text ends with one open, the comment at p has no end
  pub depth_end : (d i : ℕ) → length t ≤ i → Depth t p (suc d) i → (q : ℕ) → Comment t p q → ⊥
  depth_end d i h n q c = end_out t (Open t q d) i h (n.from q c)

  -- where none is open, the comment at p ends
  pub depth_done : (i : ℕ) → Depth t p 0 i → Comment t p i
  depth_done i n = n.to i refl

-- ---- the end of a comment

inside_end : (t : List ℕ) {i m : ℕ} → Inside t i m → Closes t m → (K : ℕ → Type 0) → Upto t K i → K (m + 2)
inside_end t {i} ended s K u = close_out t K i s u
inside_end t {i} (any_byte h a b n) s K u = inside_end t n s K (byte_out t K i a b u)
inside_end t {i} (nested o n s' n') s K u = inside_end t n' s K (inside_end t n s' (Upto t K) (open_out t K i o u))

-- a comment ends at one place
pub one_end : (t : List ℕ) (p q e : ℕ) → Comment t p q → Comment t p e → e ≡ q
one_end t p q e c d = inside_end t c.inside c.closes (λ x. e ≡ x) (d.at, d.inside, d.closes, d.ends) ∙ sym c.ends

inside_forward : (t : List ℕ) {i m : ℕ} → Inside t i m → i ≤ m
inside_forward t ended = omega arith
inside_forward t (any_byte h a b n) = omega (arith, inside_forward t n)
inside_forward t (nested o n s n') = omega (arith, inside_forward t n, inside_forward t n')

-- a comment has four bytes at least, and they lie in the text
pub comment_bounds : (t : List ℕ) (p q : ℕ) → Comment t p q → (p + 4 ≤ q) × (q ≤ length t)
comment_bounds t p q c = omega (arith, inside_forward t c.inside, close_inside t c.at c.closes, c.ends)
