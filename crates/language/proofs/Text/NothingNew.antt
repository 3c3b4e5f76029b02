-- A text that has none of the words and marks of counted loops splits the same in both editions, or has the same flaw.
use lib.ListN.{length}
use lib.Seq.{slice}
use mathlib.Core.Bool.{true}
use mathlib.Core.List.{List, [], ◌∷◌, ◌++◌, append-nil, append_assoc}
use mathlib.Core.Logic.{◌⊎◌, inl, inr}
use mathlib.Core.Path.{◌≡◌, sym, ◌∙◌, ap, subst}
use native.Mathlib.Omega.{arith}
use Prim.Native.Nat.{ℕ, ◌+◌, ◌≤◌}
use Rattle.language.proofs.Text.BothEditions.{Kin, alike, for_word, by_word, Pair, no_point, at_points, piece_up, piece_down, none_up}
use Rattle.language.proofs.Text.Marks.{Laws, laws_1, laws_2}
use Rattle.language.proofs.Text.OnePiece.{form_bounds}
use Rattle.language.proofs.Text.OneSplit.{over, put, Later, here, step, onward, reached_inside, not_both}
use Rattle.language.proofs.Text.Places.{View, view, sort_letter}
use Rattle.language.proofs.Text.Places.Sort.{letters}
use Rattle.language.proofs.Text.Spellings.{byte_inside, slice_stands}
use Rattle.language.specs.Sizes.{Sizes}
use Rattle.language.specs.Text.{byte, Stands, between, is_letter, Content, Form, Piece, word_kind, token_of, Reaches, SplitsUnder, Flaw}
use Rattle.language.specs.Text.{WrongUnder, FlawedUnder}
use Rattle.language.specs.Text.Content.{space, unclosed, overlong, token}
use Rattle.language.specs.Text.Reaches.{start, skip, next}
use Rattle.language.specs.Text.WrongUnder.{strange, opened, long, large, many}
use Rattle.language.specs.Tokens.{Spelling, spell, same, spelled, Vocabulary, EDITION_1, EDITION_2, Token, FOR, BY, UPTO, THROUGH}

-- ---- tokens that are older

-- each token is so
pub data Every (P : Token → Type 0) : List Token → Type 0 where
  every_none : Every P []
  every_more : {t : Token} {ts : List Token} → P t → Every P ts → Every P (t ∷ ts)

every_front : {P : Token → Type 0} (ts us : List Token) → Every P (ts ++ us) → Every P ts
every_front [] us h = every_none
every_front (t ∷ ts) us (every_more x h) = every_more x (every_front ts us h)

every_last : {P : Token → Type 0} (ts : List Token) (u : Token) → Every P (ts ++ (u ∷ [])) → P u
every_last [] u (every_more x h) = x
every_last (t ∷ ts) u (every_more x h) = every_last ts u h

every_with : {P : Token → Type 0} {ts : List Token} {u : Token} → Every P ts → P u → Every P (ts ++ (u ∷ []))
every_with every_none x = every_more x every_none
every_with (every_more y h) x = every_more y (every_with h x)

-- spelled as none of the new words
pub record OldWord (t : Token) : Type 0 where
  pub not_for : t.spelling ≡ spell "for" → ⊥
  pub not_by : t.spelling ≡ spell "by" → ⊥

-- of none of the new kinds
pub record OldKind (t : Token) : Type 0 where
  pub not_for : t.kind ≡ FOR → ⊥
  pub not_by : t.kind ≡ BY → ⊥
  pub not_upto : t.kind ≡ UPTO → ⊥
  pub not_through : t.kind ≡ THROUGH → ⊥

-- ---- from edition 1 to edition 2

kin_space : {s : Spelling} {d : Content} → Kin s space d → d ≡ space
kin_space (alike e) = e
kin_space (for_word a e f) = absurd (let z : ◌≡◌ {A = ℕ} 0 1 = cc in omega arith)
kin_space (by_word a e f) = absurd (let z : ◌≡◌ {A = ℕ} 0 1 = cc in omega arith)

kin_open : {s : Spelling} {d : Content} → Kin s unclosed d → d ≡ unclosed
kin_open (alike e) = e
kin_open (for_word a e f) = absurd (let z : ◌≡◌ {A = ℕ} 0 1 = cc in omega arith)
kin_open (by_word a e f) = absurd (let z : ◌≡◌ {A = ℕ} 0 1 = cc in omega arith)

kin_long : {s : Spelling} {d : Content} → Kin s overlong d → d ≡ overlong
kin_long (alike e) = e
kin_long (for_word a e f) = absurd (let z : ◌≡◌ {A = ℕ} 0 1 = cc in omega arith)
kin_long (by_word a e f) = absurd (let z : ◌≡◌ {A = ℕ} 0 1 = cc in omega arith)

-- a token is one of the same value, and of the same kind where it is no new word
kin_token : {s : Spelling} {k v : ℕ} {d : Content} → Kin s (token k v) d → (j : ℕ) × (d ≡ token j v)
kin_token (alike e) = (_, e)
kin_token {v = v} (for_word a e f) = (FOR, f ∙ let z : 0 ≡ v = cc in ap (token FOR) z)
kin_token {v = v} (by_word a e f) = (BY, f ∙ let z : 0 ≡ v = cc in ap (token BY) z)

kin_old : {s : Spelling} {c d : Content} → Kin s c d → (s ≡ spell "for" → ⊥) → (s ≡ spell "by" → ⊥) → d ≡ c
kin_old (alike e) a b = e
kin_old (for_word z e f) a b = absurd (a z)
kin_old (by_word z e f) a b = absurd (b z)

module _ {t : List ℕ} where
  -- a piece begins at no point, so none ends there between two
  begins_clear : {p q : ℕ} {c : Content} → Piece EDITION_1 t p q c → (m : ℕ) → m + 1 ≡ p → Pair t m → ⊥
  begins_clear x m e z = no_point t x.form (subst (λ n. byte t n ≡ 46) e z.1)

  -- what is reached by edition 1 is reached by edition 2, unless between two points
  reaches_up : {q : ℕ} {us : List Token} → ((m : ℕ) → m + 1 ≡ q → Pair t m → ⊥) → Every OldWord us
      → Reaches EDITION_1 t q us → Reaches EDITION_2 t q us
  reaches_up clear old start = start
  reaches_up {q} clear old (skip {p = p} r x) =
      let y = piece_up t clear x in
      skip (reaches_up (begins_clear x) old r) (subst (Piece EDITION_2 t p q) (kin_space y.2) y.1)
  reaches_up {q} clear old (next {p = p} {k = k} {v = v} {ts = ts} r x h e) =
      let all = subst (Every OldWord) e old in
      let w = every_last ts (token_of t p q k v) all in
      let y = piece_up t clear x in
      next (reaches_up (begins_clear x) (every_front ts _ all) r)
      (subst (Piece EDITION_2 t p q) (kin_old y.2 w.not_for w.not_by) y.1) h e

  -- a text that splits by edition 1, with none of the new words, splits so by edition 2
  pub splits_up : {σ : Sizes} {ts : List Token} → Every OldWord ts → SplitsUnder σ EDITION_1 t ts → SplitsUnder σ EDITION_2 t ts
  splits_up old s = record { whole = reaches_up (λ m e z. omega (arith, byte_inside t (m + 1) 46 z.1 (omega arith))) old s.whole; few = s.few }

  ends_clear : {p q : ℕ} {c : Content} → ((m : ℕ) → p ≤ m + 1 → Pair t m → ⊥) → Piece EDITION_1 t p q c → (m : ℕ) → m + 1 ≡ q → Pair t m → ⊥
  ends_clear {p} {q} {c} bare x m e z = bare m (omega (arith, form_bounds t p q c x.form)) z

  wrong_up : {σ : Sizes} {f : Flaw} {p : ℕ} {ts : List Token} → ((m : ℕ) → p ≤ m + 1 → Pair t m → ⊥) → WrongUnder σ EDITION_1 t p ts f
      → WrongUnder σ EDITION_2 t p ts f
  wrong_up {p = p} bare (strange h n) = strange h (none_up t n (bare p (omega arith)))
  wrong_up {p = p} bare (opened {q = q} x) =
      let y = piece_up t (ends_clear bare x) x in opened (subst (Piece EDITION_2 t p q) (kin_open y.2) y.1)
  wrong_up {p = p} bare (long {q = q} x) =
      let y = piece_up t (ends_clear bare x) x in long (subst (Piece EDITION_2 t p q) (kin_long y.2) y.1)
  wrong_up {p = p} bare (large {q = q} x h) =
      let y = piece_up t (ends_clear bare x) x in
      let z = kin_token y.2 in
      large (subst (Piece EDITION_2 t p q) z.1 y.1) h
  wrong_up {p = p} bare (many {q = q} x h e) =
      let y = piece_up t (ends_clear bare x) x in
      let z = kin_token y.2 in
      many (subst (Piece EDITION_2 t p q) z.1 y.1) h e

-- ---- from edition 2 to edition 1

-- what begins with a letter is a word or a name
letter_kind : {voc : Vocabulary} → Laws voc → (t : List ℕ) (p q : ℕ) {k v : ℕ} → is_letter (byte t p) ≡ true → Form voc t p q (token k v)
    → k ≡ word_kind voc (slice p q t)
letter_kind {voc} laws t p q {k} {v} l f =
    let x : View voc t p q (token k v) letters = rw (sort_letter t p l) at (view laws t p q (token k v) f) in
    let e = x.1 in
    cc

kin_back : {s : Spelling} {k v : ℕ} {c : Content} → (k ≡ FOR → ⊥) → (k ≡ BY → ⊥) → Kin s c (token k v) → c ≡ token k v
kin_back a b (alike e) = sym e
kin_back a b (for_word z e f) = absurd (a (cc))
kin_back a b (by_word z e f) = absurd (b (cc))

kin_gap : {s : Spelling} {c : Content} → Kin s c space → c ≡ space
kin_gap (alike e) = sym e
kin_gap (for_word z e f) = absurd (let z : ◌≡◌ {A = ℕ} 0 1 = cc in omega arith)
kin_gap (by_word z e f) = absurd (let z : ◌≡◌ {A = ℕ} 0 1 = cc in omega arith)

module _ {t : List ℕ} where
  -- a token spelled as a new word is that word
  for_kind : {p q k v : ℕ} → Form EDITION_2 t p q (token k v) → slice p q t ≡ spell "for" → k ≡ FOR
  unfolding is_letter between word_kind spelled same
  for_kind {p} {q} {k} {v} f e =
      let z = form_bounds t p q (token k v) f in
      let b : byte t p ≡ 102 = (slice_stands t p (spell "for") q (omega (arith, z.0)) z.1 e).0 in
      letter_kind laws_2 t p q (rw b) f ∙ ap (word_kind EDITION_2) e

  by_kind : {p q k v : ℕ} → Form EDITION_2 t p q (token k v) → slice p q t ≡ spell "by" → k ≡ BY
  unfolding is_letter between word_kind spelled same
  by_kind {p} {q} {k} {v} f e =
      let z = form_bounds t p q (token k v) f in
      let b : byte t p ≡ 98 = (slice_stands t p (spell "by") q (omega (arith, z.0)) z.1 e).0 in
      letter_kind laws_2 t p q (rw b) f ∙ ap (word_kind EDITION_2) e

  space_clear : {p q : ℕ} → Piece EDITION_2 t p q space → Pair t p → ⊥
  space_clear x z = by (at_points t x.form z.0).1
    where
      by : (space ≡ token UPTO 0) ⊎ (space ≡ token THROUGH 0) → ⊥
      by (inl e) = let z : ◌≡◌ {A = ℕ} 0 1 = cc in omega arith
      by (inr e) = let z : ◌≡◌ {A = ℕ} 0 1 = cc in omega arith

  token_clear : {p q k v : ℕ} → OldKind (token_of t p q k v) → Piece EDITION_2 t p q (token k v) → Pair t p → ⊥
  token_clear {k = k} {v} old x z = by (at_points t x.form z.0).1
    where
      by : (token k v ≡ token UPTO 0) ⊎ (token k v ≡ token THROUGH 0) → ⊥
      by (inl e) = old.not_upto (cc)
      by (inr e) = old.not_through (cc)

  reaches_down : {q : ℕ} {us : List Token} → (Pair t q → ⊥) → Every OldKind us → Reaches EDITION_2 t q us
      → Reaches EDITION_1 t q us × Every OldWord us
  reaches_down clear old start = (start, every_none)
  reaches_down {q} clear old (skip {p = p} r x) =
      let y = piece_down t (space_clear x) clear x in
      let z = reaches_down (space_clear x) old r in
      (skip z.0 (subst (Piece EDITION_1 t p q) (kin_gap y.2) y.1), z.1)
  reaches_down {q} clear old (next {p = p} {k = k} {v = v} {ts = ts} r x h e) =
      let all = subst (Every OldKind) e old in
      let w = every_last ts (token_of t p q k v) all in
      let y = piece_down t (token_clear w x) clear x in
      let z = reaches_down (token_clear w x) (every_front ts _ all) r in
      let n : OldWord (token_of t p q k v) = record { not_for = λ s. w.not_for (for_kind x.form s); not_by = λ s. w.not_by (by_kind x.form s) } in (
        next z.0 (subst (Piece EDITION_1 t p q) (kin_back w.not_for w.not_by y.2) y.1) h e,
        subst (Every OldWord) (sym e) (every_with z.1 n),
      )

  -- a text that splits by edition 2, with no token of a new kind, splits so by edition 1, with none of the new words
  pub splits_down : {σ : Sizes} {ts : List Token} → Every OldKind ts → SplitsUnder σ EDITION_2 t ts → SplitsUnder σ EDITION_1 t ts × Every OldWord ts
  splits_down old s =
      let z = reaches_down (λ z. omega (arith, byte_inside t (length t) 46 z.0 (omega arith))) old s.whole in
      (record { whole = z.0; few = s.few }, z.1)

-- ---- a text with nothing new

-- As far as it splits by edition 1 no token is spelled as a new word; and if it has a flaw there, no two points stand side by
-- side from there on.
pub record NothingNew (σ : Sizes) (t : List ℕ) : Type 0 where
  pub words : {p : ℕ} {ts : List Token} → Reaches EDITION_1 t p ts → Every OldWord ts
  pub marks : {f : Flaw} {p : ℕ} → FlawedUnder σ EDITION_1 t f p → (m : ℕ) → p ≤ m + 1 → Pair t m → ⊥

module _ {σ : Sizes} {t : List ℕ} (old : NothingNew σ t) where
  pub same_split : {ts : List Token} → SplitsUnder σ EDITION_1 t ts → SplitsUnder σ EDITION_2 t ts
  same_split s = splits_up (old.words s.whole) s

  pub same_flaw : {f : Flaw} {p : ℕ} → FlawedUnder σ EDITION_1 t f p → FlawedUnder σ EDITION_2 t f p
  same_flaw {p = p} x =
      let bare = old.marks x in
      record {
        tokens = x.tokens;
        before = reaches_up (λ m e z. bare m (omega arith) z) (old.words x.before) x.before;
        few = x.few;
        here = wrong_up bare x.here;
      }

-- it is so of a text in whose bytes they do not occur
module _ {t : List ℕ} (no_for : (m : ℕ) → Stands t m (spell "for") → ⊥) (no_by : (m : ℕ) → Stands t m (spell "by") → ⊥) where
  bytes_words : {p : ℕ} {ts : List Token} → Reaches EDITION_1 t p ts → Every OldWord ts
  bytes_words start = every_none
  bytes_words (skip r x) = bytes_words r
  bytes_words (next {p = p} {q = q} {k = k} {v = v} {ts = ts} r x h e) =
      let b = form_bounds t p q (token k v) x.form in
      let stands : (w : Spelling) → slice p q t ≡ w → Stands t p w = λ w s. slice_stands t p w q (omega (arith, b.0)) b.1 s in
      let n : OldWord (token_of t p q k v) = record { not_for = λ s. no_for p (stands (spell "for") s); not_by = λ s. no_by p (stands (spell "by") s) } in
      subst (Every OldWord) (sym e) (every_with (bytes_words r) n)

  pub nothing_in_bytes : {σ : Sizes} → ((m : ℕ) → Stands t m (spell "..") → ⊥) → NothingNew σ t
  nothing_in_bytes no_points = record { words = bytes_words; marks = λ x m h z. no_points m (z.0, (z.1, tt)) }

-- of one that splits by edition 1 into tokens without the new words
later_front : {voc : Vocabulary} {t : List ℕ} {q : ℕ} {us : List Token} {p : ℕ} {ts : List Token} → Later voc t q us p ts → (vs : List Token) × (us ≡ ts ++ vs)
later_front {us = us} here = ([], sym (append-nil us))
later_front (step (over a x) l) = let z = later_front l in (z.0, z.1 ∙ ap (λ (ts : List Token). ts ++ z.0) x)
later_front (step {ts = ts} (put a h x) l) =
    let z = later_front l in (_, z.1 ∙ ap (λ (ts : List Token). ts ++ z.0) x ∙ append_assoc ts _ z.0)

pub nothing_in_tokens : {σ : Sizes} {t : List ℕ} {ts : List Token} → SplitsUnder σ EDITION_1 t ts → Every OldWord ts → NothingNew σ t
nothing_in_tokens {t} {ts} s old = record { words = λ r. words r; marks = λ x. absurd (not_both laws_1 s x) }
  where
    words : {p : ℕ} {us : List Token} → Reaches EDITION_1 t p us → Every OldWord us
    words {us = us} r = let z = later_front (onward laws_1 r s.whole (reached_inside r)) in every_front us _ (subst (Every OldWord) z.1 old)

-- and of one that splits by edition 2 into tokens of none of the new kinds
pub nothing_in_kinds : {σ : Sizes} {t : List ℕ} {ts : List Token} → SplitsUnder σ EDITION_2 t ts → Every OldKind ts → NothingNew σ t
nothing_in_kinds s old = let z = splits_down old s in nothing_in_tokens z.0 z.1
