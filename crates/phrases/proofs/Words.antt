-- A part made a word is that part again, and what a word stands for by the row and the token in it.
use mathlib.Core.Path.{◌≡◌, refl, ap, ◌∙◌}
use Prim.Native.Nat.{ℕ, zero, suc, ◌+◌, ◌*◌, ◌-◌, ◌/◌, ◌%◌, ◌<◌}
use native.Mathlib.Nat.{div-eq_of_lt, mod-eq_of_lt}
use native.Mathlib.Omega.{arith}
use Rattle.layout.proofs.Packed.{packed_high, packed_low}
use Rattle.phrases.specs.Words.{REACH, tree_at, none_at, parted, part_of}

-- by the first free row
parted_tree : (k r m : ℕ) → k ≡ r + 1 → parted k m ≡ tree_at r m k
unfolding parted
parted_tree zero r m e = absurd (omega arith)
parted_tree (suc j) r m e = let q : j ≡ r = omega arith in ap (λ (n : ℕ). tree_at n m (suc j)) q

parted_none : (k m : ℕ) → k ≡ 0 → parted k m ≡ none_at m
unfolding parted
parted_none zero m e = refl
parted_none (suc j) m e = absurd (omega arith)

-- the word of a tree
pub tree_word : (r m : ℕ) → m < REACH → part_of (REACH * (r + 1) + m) ≡ tree_at r m (r + 1)
unfolding part_of
tree_word r m h = rw (packed_high REACH (omega arith) (r + 1) m h, packed_low REACH (omega arith) (r + 1) m h) (parted_tree (r + 1) r m refl)

-- the word of a failure
pub none_word : (e : ℕ) → e < REACH → part_of e ≡ none_at e
unfolding part_of
none_word e h = parted_none (e / REACH) (e % REACH) (div-eq_of_lt h) ∙ ap (λ (n : ℕ). none_at n) (mod-eq_of_lt h)

-- a word with no row in it
pub word_none : (w : ℕ) → w / REACH ≡ 0 → part_of w ≡ none_at (w % REACH)
unfolding part_of
word_none w e = parted_none (w / REACH) (w % REACH) e

-- a word with one
pub word_tree : (w : ℕ) → (w / REACH ≡ 0 → ⊥) → part_of w ≡ tree_at (w / REACH - 1) (w % REACH) (w / REACH)
unfolding part_of
word_tree w e = parted_tree (w / REACH) (w / REACH - 1) (w % REACH) (one_more (w / REACH) e)
  where
    one_more : (k : ℕ) → (k ≡ 0 → ⊥) → k ≡ k - 1 + 1
    one_more zero h = absurd (h refl)
    one_more (suc j) h = omega arith
