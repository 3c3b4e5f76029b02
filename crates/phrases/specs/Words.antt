-- What a reader answers, as the one word in which it goes from reader to reader.
use Rattle.std.specs.Prelude.{◌≡◌, ℕ, zero, suc, ◌+◌, ◌*◌, ◌/◌, ◌%◌, Result, Ok, Err, refl}
use Rattle.std.proofs.Common.{sym, ◌∙◌, zero-add}
use Rattle.std.proofs.Math.Nat.{div-add-mod}
use Rattle.phrases.specs.declared.parts.Tree.{Tree}
use Rattle.phrases.specs.declared.parts.Failed.{Failed}

abbrev pub Part : Type 0
Part = Result Tree Failed

-- a tree whose root is row r, up to token m and row k
abbrev pub tree_at : ℕ → ℕ → ℕ → Part
tree_at r m k = Ok (record { root = r; next = m; free = k })

-- reading failed at token e
abbrev pub none_at : {T : Type 0} → ℕ → Result T Failed
none_at e = Err (record { at = e })

-- The word is REACH times the first free row, and the token. No tree is without a row, so where that is 0 reading
-- failed; and a tree's root is the row before the first free one.
abbrev pub REACH : ℕ
REACH = 65536

unfoldable pub parted : ℕ → ℕ → Part
parted zero m = none_at m
parted (suc r) m = tree_at r m (suc r)

unfoldable pub part_of : ℕ → Part
part_of word = parted (word / REACH) (word % REACH)

unfoldable pub word_of : Part → ℕ
word_of (Ok t) = REACH * t.free + t.next
word_of (Err e) = e.at

word_of_parted : (k m : ℕ) → word_of (parted k m) ≡ REACH * k + m
unfolding parted word_of
word_of_parted zero m = sym (zero-add m)
word_of_parted (suc j) m = refl

-- a word tells all of its part, and no more
pub same_word : (w : ℕ) → word_of (part_of w) ≡ w
unfolding part_of
same_word w = word_of_parted (w / REACH) (w % REACH) ∙ div-add-mod w REACH
