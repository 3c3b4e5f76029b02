-- A stored sheet worked out, line by line. It is proof vocabulary and no definition of the language; what it answers is what the
-- written origin says, and whatever that says it answers.
use lib.Dec.{eqb, leb, ltb}
use lib.ListN.{length}
use mathlib.Core.Bool.{Bool, true, false}
use mathlib.Core.List.{List, [], ◌∷◌, ◌++◌}
use mathlib.Core.Option.{Option, none, some}
use mathlib.Core.Path.{◌≡◌, refl, sym, ap, subst, ◌∙◌}
use borrow.Author.Tests.{eqb-true, eqb-false, leb-true, leb-false, ltb-true, ltb-false}
use native.Mathlib.Omega.{arith}
use Prim.Native.Nat.{ℕ, zero, suc, ◌+◌, ◌*◌, ◌/◌, ◌%◌, ◌≤◌}
use Rattle.language.specs.Sizes.{Sizes}
use Rattle.language.specs.Tokens.{Vocabulary, Token}
use Rattle.language.specs.Text.{many_tokens}
use Rattle.language.specs.Numbers.{Refusal, text, long_source, not_hexadecimal, wrong_count, not_one_token}
use Rattle.language.specs.Stored.{spelled_bytes, FirstLine, FirstCount}
use Rattle.language.specs.Stored.{StoredGivesUnder, GoodLinesUnder, StoredDeniesUnder, no_count, large_count, no_line, no_token, miscounted, overlong}
use Rattle.language.proofs.Text.Marks.{Laws}
use Rattle.language.proofs.Stored.Hex.{Taken, untaken, taken, take_line}
use Rattle.language.proofs.Stored.Lines.{taken_first, untaken_none, empty_none, count_taken, taken_count, line_long}
use Rattle.language.proofs.Stored.GoodLines.{good_start, good_next, good_gives}
use Rattle.language.proofs.Stored.Lone.{lone, lone_is, is_lone}

-- ---- line by line

pub data Answer : Type 0 where
  given : List Token → Answer
  denied : Refusal → ℕ → Answer

-- where every line is good: by whether the count is right, and by whether there are not too many bytes
unfoldable pub by_size : Bool → Bool → List Token → Answer
by_size false x ts = denied wrong_count 1
by_size true false ts = denied long_source 0
by_size true true ts = given ts

unfoldable pub finish : Sizes → ℕ → List Token → Answer
unfolding by_size spelled_bytes
finish σ n ts = by_size (eqb n (length ts)) (leb (spelled_bytes ts) σ.source) ts

-- the line behind those of ts is a token, or is none
unfoldable pub by_token : List Token → (List Token → Answer) → Option Token → Answer
by_token ts go none = denied not_one_token (length ts + 2)
by_token ts go (some t) = go (ts ++ (t ∷ []))

module _ (voc : Vocabulary) where
  unfoldable pub by_line : List Token → (List Token → List ℕ → Answer) → Taken → Answer
  unfolding by_token lone
  by_line ts go untaken = denied not_hexadecimal (length ts + 2)
  by_line ts go (taken [] r) = denied not_hexadecimal (length ts + 2)
  by_line ts go (taken (b ∷ s) r) = by_token ts (λ us. go us r) (lone voc (b ∷ s))

module _ (σ : Sizes) (voc : Vocabulary) where
  -- at most k lines more, behind those of ts
  unfoldable pub walk : ℕ → ℕ → List Token → List ℕ → Answer
  unfolding by_line finish take_line
  walk zero n ts [] = finish σ n ts
  walk zero n ts (b ∷ r) = denied not_hexadecimal (length ts + 2)
  walk (suc k) n ts [] = finish σ n ts
  walk (suc k) n ts (b ∷ r) = by_line voc ts (λ us u. walk k n us u) (take_line (b ∷ r))

  -- by whether the count is too large
  unfoldable pub by_limit : Bool → ℕ → List ℕ → Answer
  unfolding walk
  by_limit true n r = denied (text many_tokens) 1
  by_limit false n r = walk (length r) n [] r

  unfoldable pub by_count : Taken → Answer
  unfolding by_limit
  by_count untaken = denied not_hexadecimal 1
  by_count (taken [] r) = denied not_hexadecimal 1
  by_count (taken (a ∷ []) r) = denied not_hexadecimal 1
  by_count (taken (a ∷ b ∷ []) r) = by_limit (ltb σ.tokens (a * 256 + b)) (a * 256 + b) r
  by_count (taken (a ∷ b ∷ c ∷ s) r) = denied not_hexadecimal 1

  unfoldable pub read_stored : List ℕ → Answer
  unfolding by_count take_line
  read_stored input = by_count (take_line input)

  -- what such an answer says
  abbrev pub Says : List ℕ → Answer → Type 0
  Says input (given ts) = StoredGivesUnder σ voc input ts
  Says input (denied r x) = StoredDeniesUnder σ voc input r x

-- ---- what it answers is so

module _ (σ : Sizes) {voc : Vocabulary} (laws : Laws voc) (input : List ℕ) where
  size_says : (n : ℕ) (ts : List Token) → GoodLinesUnder σ voc input n ts [] → (x y : Bool) → eqb n (length ts) ≡ x → leb (spelled_bytes ts) σ.source ≡ y
      → Says σ voc input (by_size x y ts)
  unfolding by_size
  size_says n ts g false y e f = miscounted g (eqb-false n (length ts) e)
  size_says n ts g true y e f = counted y f (subst (λ (n : ℕ). GoodLinesUnder σ voc input n ts []) (eqb-true n (length ts) e) g)
    where
      counted : (y : Bool) → leb (spelled_bytes ts) σ.source ≡ y → GoodLinesUnder σ voc input (length ts) ts [] → Says σ voc input (by_size true y ts)
      counted false f g = overlong g (leb-false (spelled_bytes ts) σ.source f)
      counted true f g = good_gives g (leb-true (spelled_bytes ts) σ.source f)

  finish_says : (n : ℕ) (ts : List Token) → GoodLinesUnder σ voc input n ts [] → Says σ voc input (finish σ n ts)
  unfolding finish
  finish_says n ts g = size_says n ts g (eqb n (length ts)) (leb (spelled_bytes ts) σ.source) refl refl

  module _ (n : ℕ) (ts : List Token) (b : ℕ) (r : List ℕ) (g : GoodLinesUnder σ voc input n ts (b ∷ r)) where
    token_says : (s u : List ℕ) → FirstLine (b ∷ r) s u → (go : List Token → Answer)
        → ((us : List Token) → GoodLinesUnder σ voc input n us u → Says σ voc input (go us))
        → (x : Option Token) → lone voc s ≡ x → Says σ voc input (by_token ts go x)
    unfolding by_token
    token_says s u f go h none e = no_token g f (λ t k l. none_some t (is_lone laws t l.splits) (rw k e))
      where
        none_some : (t : Token) → lone voc t.spelling ≡ some t → lone voc t.spelling ≡ none → ⊥
        none_some t x y = let z : ◌≡◌ {A = ℕ} 0 1 = cc in omega arith
    token_says s u f go h (some t) e =
        let z = lone_is laws s t e in
        let f : FirstLine (b ∷ r) t.spelling u = subst (λ (s : List ℕ). FirstLine (b ∷ r) s u) (sym z.0) f in
        h (ts ++ (t ∷ [])) (good_next t g f record { bytes = f.bytes; splits = z.1 })

    line_says : (go : List Token → List ℕ → Answer)
        → ((us : List Token) (u : List ℕ) → GoodLinesUnder σ voc input n us u → length u ≤ length r → Says σ voc input (go us u))
        → (x : Taken) → take_line (b ∷ r) ≡ x → Says σ voc input (by_line voc ts go x)
    unfolding by_line
    line_says go h untaken e = no_line g (λ s more f. untaken_none e f)
    line_says go h (taken [] u) e = no_line g (λ s more f. empty_none e f)
    line_says go h (taken (c ∷ s) u) e =
        let f = taken_first (b ∷ r) c s u e in
        token_says (c ∷ s) u f (λ us. go us u) (λ us k. h us u k (omega (arith, line_long (c ∷ s) u, ap length f.begins)))
        (lone voc (c ∷ s)) refl

  walk_says : (k n : ℕ) (ts : List Token) (r : List ℕ) → length r ≤ k → GoodLinesUnder σ voc input n ts r → Says σ voc input (walk σ voc k n ts r)
  unfolding walk
  walk_says zero n ts [] h g = finish_says n ts g
  walk_says zero n ts (b ∷ r) h g = absurd (omega arith)
  walk_says (suc k) n ts [] h g = finish_says n ts g
  walk_says (suc k) n ts (b ∷ r) h g =
      line_says n ts b r g (λ us u. walk σ voc k n us u) (λ us u z l. walk_says k n us u (omega arith) z) (take_line (b ∷ r)) refl

  limit_says : (n : ℕ) (r : List ℕ) → FirstCount input n r → (x : Bool) → ltb σ.tokens n ≡ x → Says σ voc input (by_limit σ voc x n r)
  unfolding by_limit
  limit_says n r f true e = large_count f (ltb-true σ.tokens n e)
  limit_says n r f false e = walk_says (length r) n [] r (omega arith) (good_start f (ltb-false σ.tokens n e))

  -- an input with another number of bytes on its first line has no count
  not_two : (s r : List ℕ) → (length s ≡ 2 → ⊥) → take_line input ≡ taken s r → StoredDeniesUnder σ voc input not_hexadecimal 1
  not_two s r h e = no_count (λ n u f. h (two n u s r (sym (count_taken f) ∙ e)))
    where
      two : (n : ℕ) (u s r : List ℕ) → taken (n / 256 ∷ n % 256 ∷ []) u ≡ taken s r → length s ≡ 2
      two n u s r x = let z : s ≡ n / 256 ∷ n % 256 ∷ [] = cc in ap length z

  count_says : (x : Taken) → take_line input ≡ x → Says σ voc input (by_count σ voc x)
  unfolding by_count
  count_says untaken e = no_count (λ n u f. let g = count_taken f in let z : ◌≡◌ {A = ℕ} 0 1 = cc in omega arith)
  count_says (taken [] r) e = not_two [] r (λ h. omega arith) e
  count_says (taken (a ∷ []) r) e = not_two (a ∷ []) r (λ h. omega arith) e
  count_says (taken (a ∷ b ∷ []) r) e = limit_says (a * 256 + b) r (taken_count input a b r e) (ltb σ.tokens (a * 256 + b)) refl
  count_says (taken (a ∷ b ∷ c ∷ s) r) e = not_two (a ∷ b ∷ c ∷ s) r (λ h. omega arith) e

  pub read_says : Says σ voc input (read_stored σ voc input)
  unfolding read_stored
  read_says = count_says (take_line input) refl
