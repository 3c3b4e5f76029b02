-- What bytes come to when they are shown: a byte, and all of them one behind the other.
use borrow.Author.Tests.{eq-eqb, ne_eqb}
use lib.ListN.{length, get_or, take}
use lib.Seq.{take-suc}
use mathlib.Core.Bool.{Bool, true, false}
use mathlib.Core.List.{List, [], ◌∷◌, ◌++◌, append_assoc, append-nil}
use mathlib.Core.Path.{◌≡◌, sym}
use native.Mathlib.Numerals.{add-one}
use Prim.Native.Nat.{ℕ, ◌+◌, ◌/◌, ◌%◌, ◌<◌}
use Rattle.io.specs.Digits.{hex_digit_ascii}
use Rattle.language.specs.Tokens.{spell}
use Rattle.page.proofs.Adding.{◌▸◌, being}
use Rattle.page.specs.Characters.{inner}
use Rattle.page.specs.Text.{Writes, each, is_hidden, byte_shown, byte_blank}
use Rattle.page.specs.declared.pages.Page.{Page}

-- ---- a byte

module _ (plain : Bool) (b : ℕ) where
  pub shown_hidden : {x y : ℕ} → is_hidden plain b ≡ true → x ≡ hex_digit_ascii (b / 16) → y ≡ hex_digit_ascii (b % 16)
      → (92 ∷ 120 ∷ x ∷ y ∷ []) ≡ byte_shown plain b
  unfolding byte_shown
  shown_hidden h e f = rw (h, e, f)

  pub shown_plain : is_hidden plain b ≡ false → (b ∷ []) ≡ byte_shown plain b
  unfolding byte_shown
  shown_plain h = rw h

  pub blank_hidden : is_hidden plain b ≡ true → spell "    " ≡ byte_blank plain b
  unfolding byte_blank
  blank_hidden h = rw h

  pub blank_tab : is_hidden plain b ≡ false → b ≡ 9 → spell "\t" ≡ byte_blank plain b
  unfolding byte_blank
  blank_tab h e = rw (h, eq-eqb b 9 e)

  pub blank_inner : is_hidden plain b ≡ false → (b ≡ 9 → ⊥) → inner b ≡ true → [] ≡ byte_blank plain b
  unfolding byte_blank
  blank_inner h e i = rw (h, ne_eqb b 9 e, i)

  pub blank_one : is_hidden plain b ≡ false → (b ≡ 9 → ⊥) → inner b ≡ false → spell " " ≡ byte_blank plain b
  unfolding byte_blank
  blank_one h e i = rw (h, ne_eqb b 9 e, i)

-- ---- all of them

module _ (f : ℕ → List ℕ) where
  each_end : (t : List ℕ) (b : ℕ) → each f (t ++ (b ∷ [])) ≡ each f t ++ f b
  unfolding each
  each_end [] b = append-nil (f b)
  each_end (x ∷ t) b = rw (each_end t b) (sym (append_assoc (f x) (each f t) (f b)))

  -- one more is put
  pub put_more : (t : List ℕ) (i : ℕ) {p q r : Page} → i < length t → Writes (each f (take i t)) p q
      → Writes (f (get_or t i 0)) q r → Writes (each f (take (i + 1) t)) p r
  put_more t i h g w =
      being (sym (rw (add-one i, take-suc t i 0 h) (each_end (take i t) (get_or t i 0)))) (g ▸ w)
