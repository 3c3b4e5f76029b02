-- The ways through `refs`, `type_at` and `result`.
use mathlib.Core.List.{List}
use mathlib.Core.Option.{Option, none, some}
use mathlib.Core.Path.{◌≡◌, refl, sym, ap, subst, ◌∙◌}
use Rattle.std.specs.Prelude.{Ok, Some, None}
use Prim.Native.Nat.{ℕ, zero, suc, ◌+◌, ◌*◌, ◌≤◌, ◌<◌}
use native.Mathlib.Omega.{arith}
use lib.Dec.{leb, leb→le}
use Rattle.language.specs.Tokens.{entry, REF, COLON, LBRACE}
use Rattle.language.specs.Trees.{Ty, ref}
use Rattle.language.specs.Grammar.{basics}
use Rattle.language.specs.Meaning.{type_number}
use Rattle.language.proofs.Grammar.Entries.{every, entry_passes}
use Rattle.language.proofs.Executable.SettlesPrograms as S
use Rattle.layout.specs.Types as Types
use Rattle.layout.specs.Table.{kind_of}
use Rattle.layout.proofs.TableLaws.{kind_within}
use Rattle.phrases.specs.Parts.{Told}
use Rattle.phrases.specs.Words.{none_at}
use Rattle.reader.specs.Definitions.{Typing, named_at, Typeful, Resulting, number_if, basic_number, TypeAnswer, RefsAnswer}
use Rattle.reader.specs.declared.types.Named.{Named}
use Rattle.phrases.proofs.Standing.{at, not_at, within}

-- an answer that is known
pub known_type : {T : Told Ty} {count lo hi : ℕ} {w : List ℕ} {g h : Typing} → TypeAnswer T count w lo hi g → g ≡ h
    → TypeAnswer T count w lo hi h
known_type {T} {count} {lo} {hi} {w} a e = subst (TypeAnswer T count w lo hi) e a

-- ---- refs

module _ {count n number : ℕ} {w : List ℕ} where
  -- no `ref`
  pub refs_end : n ≤ count → number ≤ Types.REF * n + Types.PLAIN → (kind_of w count n ≡ REF → ⊥)
      → RefsAnswer count w n number record { number = number; next = n }
  refs_end i j h = record {
    told = λ ts s t e. record { type = t; told = S.refs_end (not_at n s h); numbered = e };
    ahead = record { least = omega arith; most = omega arith; small = j };
  }

  -- a `ref`, and what is behind it
  pub refs_more : {g : Named} → kind_of w count n ≡ REF → RefsAnswer count w (n + 1) (Types.REF + number) g → RefsAnswer count w n number g
  unfolding type_number
  refs_more h a = record {
    told = λ ts s t e.
        let y = a.told ts s (ref t) (omega arith) in
        record { type = y.type; told = S.refs_more (at n s h) y.told; numbered = y.numbered };
    ahead = let o = a.ahead in record { least = omega arith; most = o.most; small = o.small };
  }

-- ---- a type: its first word is of kind k

some_of : {x : ℕ} (o : Option Ty) → number_if o ≡ Some x → (t : Ty) × (o ≡ some t) × (x ≡ type_number t)
some_of none h = absurd (cc)
some_of (some t) h = (t, refl, cc)

none_of : (o : Option Ty) → number_if o ≡ None → o ≡ none
none_of none h = refl
none_of (some t) h = absurd (cc)

-- a word that stands for a type has a small number, and stands before the end
word_small : (k : ℕ) {t : Ty} → entry basics k ≡ some t → type_number t ≤ Types.PLAIN
unfolding type_number every
word_small k {t} e = leb→le (type_number t) Types.PLAIN (entry_passes (λ c x. leb (type_number x) Types.PLAIN) basics k tt e)

word_kind : (k : ℕ) {t : Ty} → entry basics k ≡ some t → 0 < k
unfolding entry
word_kind zero h = absurd (cc)
word_kind (suc k) h = omega arith

module _ (count n : ℕ) (w : List ℕ) (k : ℕ) (hk : k ≡ kind_of w count n) where
  -- no word of a type
  pub type_none : basic_number k ≡ None → TypeAnswer (Typeful n) count w (n + 1) (count + 1) (none_at n)
  type_none e = record {
    told = λ ts s. S.type_other (ap (entry basics) (at n s (sym hk)) ∙ none_of (entry basics k) e);
    ahead = tt;
  }

  module _ {b : ℕ} (h : basic_number k ≡ Some b) where
    word : (t : Ty) × (entry basics k ≡ some t) × (b ≡ type_number t)
    word = some_of (entry basics k) h

    -- there is room for what is behind it
    pub type_room : (n < count) × (b ≤ Types.PLAIN)
    type_room = (kind_within w count n (omega (arith, word_kind k word.1, hk)), omega (arith, word.2, word_small k word.1))

    -- a word, and what is behind it
    pub type_some : {g : Named} → RefsAnswer count w (n + 1) b g → TypeAnswer (Typeful n) count w (n + 1) (count + 1) (Ok g)
    type_some a = record {
      told = λ ts s.
          let y = a.told ts s word.0 word.2 in
          record { type = y.type; told = S.type_basic (ap (entry basics) (at n s (sym hk)) ∙ word.1) y.told; numbered = y.numbered };
      ahead = a.ahead;
    }

-- ---- the result of a function

-- no `:`
pub result_colon : {count n : ℕ} {w : List ℕ} → (kind_of w count n ≡ COLON → ⊥) → TypeAnswer (Resulting n) count w (n + 2) count (none_at n)
result_colon {n = n} h = record { told = λ ts s. S.result_colon (not_at n s h); ahead = tt }

module _ {count n : ℕ} {w : List ℕ} (h : kind_of w count n ≡ COLON) where
  -- no Type
  pub result_none : {e : ℕ} → TypeAnswer (Typeful (n + 1)) count w (n + 1 + 1) (count + 1) (none_at e)
      → TypeAnswer (Resulting n) count w (n + 2) count (none_at e)
  result_none a = record { told = λ ts s. S.result_failed (at n s h) (a.told ts s); ahead = tt }

  module _ {x m : ℕ} (a : TypeAnswer (Typeful (n + 1)) count w (n + 1 + 1) (count + 1) (named_at x m)) where
    -- no `{` behind it
    pub result_other : (kind_of w count m ≡ LBRACE → ⊥) → TypeAnswer (Resulting n) count w (n + 2) count (none_at m)
    result_other i = record { told = λ ts s. S.result_other (at n s h) (a.told ts s).told (not_at m s i); ahead = tt }

    -- a Type, and `{`
    pub result_all : kind_of w count m ≡ LBRACE → TypeAnswer (Resulting n) count w (n + 2) count (named_at x m)
    result_all i = record {
      told = λ ts s.
          let y = a.told ts s in
          record { type = y.type; told = S.result_got (at n s h) y.told (at m s i); numbered = y.numbered };
      ahead = let o = a.ahead in record { least = omega arith; most = within w count m LBRACE i (omega arith); small = o.small };
    }
