-- What stands behind the words of tokens while lines are read: the names can be found, and where each line begins is told.
use lib.ListN.{length, get_or, take, set, get_or-append}
use lib.Seq.{get_or_at, get_or-set_same, get_or-set_other, take-append-le, take-append_seam}
use mathlib.Core.List.{List, [], ◌∷◌, ◌++◌}
use mathlib.Core.Logic.{⊎_elim}
use mathlib.Core.Path.{◌≡◌, sym, ap, subst, ◌∙◌}
use native.Mathlib.Omega.{arith}
use Prim.Native.Nat.{ℕ, ◌+◌, ◌*◌, ◌≤◌, ◌<◌}
use Rattle.language.proofs.Text.Choices.{either}
use Rattle.language.specs.Sizes.{TOKENS, TABLE}
use Rattle.language.specs.Stored.{hex, spelled_bytes}
use Rattle.language.specs.Tokens.{Spelling, Token, past}
use Rattle.layout.specs.Table.{put_token}
use Rattle.tokens.proofs.Agreeing.{put_above, forks_token, forks_start, forks_next}
use Rattle.tokens.proofs.Indexing.{named_in, Indexed, indexed_none, foretold_starts, indexed_next}
use Rattle.tokens.specs.Forks.{STARTS_AT, SameForks, Shape, Foretold}

-- the digits of the line of a token, and where it begins
abbrev pub digits_in : List Token → ℕ → Spelling
digits_in ts i = hex (get_or ts i past).spelling

abbrev pub start_of : List Token → ℕ → ℕ
start_of ts i = 5 + (spelled_bytes (take i ts) * 2 + i)

pub record Listed (w : List ℕ) (ts : List Token) (n : ℕ) : Type 0 where
  pub index : Indexed (digits_in ts) (named_in ts) w n
  pub starts : (j : ℕ) → j < n → get_or w (STARTS_AT + j) 0 ≡ start_of ts j

pub listed_none : {w : List ℕ} → Shape w 0 → Listed w [] 0
listed_none g = record { index = indexed_none g; starts = λ j h. absurd (omega arith) }

module _ {w : List ℕ} {ts : List Token} {n : ℕ} (x : Listed w ts n) (long : n ≡ length ts) (small : n < TOKENS) {sp : ℕ → Spelling}
    (like : (j : ℕ) → j < n → sp j ≡ digits_in ts j) {v : List ℕ} {kind : ℕ} {s : Spelling} (o : Foretold sp w v n kind s)
    (room : TABLE ≤ length v) {p : ℕ} (here : p ≡ 5 + (spelled_bytes ts * 2 + n)) {w' : List ℕ} (a b h l : ℕ)
    (e : w' ≡ put_token (set v (STARTS_AT + n) p) n kind a b h l) (u : Token) (same : hex u.spelling ≡ s) (of : u.kind ≡ kind) where
  us : List Token
  us = ts ++ (u ∷ [])

  old : (j : ℕ) → j < n → get_or us j past ≡ get_or ts j past
  unfolding us
  old j c = get_or-append ts (u ∷ []) past j (omega arith)

  new : get_or us n past ≡ u
  unfolding us
  new = get_or_at ts u [] past n (sym long)

  forks : SameForks w' v
  forks =
      subst (λ (z : List ℕ). SameForks z v) (sym e)
      (forks_next (forks_token (set v (STARTS_AT + n) p) n kind a b h l small) (forks_start v n p small))

  next_index : Indexed (digits_in us) (named_in us) w' (n + 1)
  next_index =
      indexed_next x.index like small o forks (λ j c. ap (λ (z : Token). hex z.spelling) (old j c))
      (ap (λ (z : Token). hex z.spelling) new ∙ same) (λ j c d. sym (ap (λ (z : Token). z.kind) (old j c)) ∙ d)
      (λ d. sym of ∙ sym (ap (λ (z : Token). z.kind) new) ∙ d)

  word : (j : ℕ) → get_or w' (STARTS_AT + j) 0 ≡ get_or (set v (STARTS_AT + n) p) (STARTS_AT + j) 0
  word j = ap (λ (z : List ℕ). get_or z (STARTS_AT + j) 0) e ∙ put_above (set v (STARTS_AT + n) p) n kind a b h l (STARTS_AT + j) (omega arith)

  old_start : (j : ℕ) → j < n → get_or w' (STARTS_AT + j) 0 ≡ start_of us j
  unfolding us
  old_start j c =
      let z = take-append-le j ts (u ∷ []) (omega arith) in
      word j ∙ get_or-set_other v (STARTS_AT + n) (STARTS_AT + j) p 0 (omega arith)
      ∙ foretold_starts o (STARTS_AT + j) (omega arith) (omega arith) ∙ x.starts j c
      ∙ ap (λ (k : List Token). 5 + (spelled_bytes k * 2 + j)) (sym z)

  new_start : get_or w' (STARTS_AT + n) 0 ≡ start_of us n
  unfolding us
  new_start =
      let z : take n (ts ++ (u ∷ [])) ≡ ts = ap (λ (k : ℕ). take k (ts ++ (u ∷ []))) long ∙ take-append_seam ts (u ∷ []) in
      word n ∙ get_or-set_same v (STARTS_AT + n) p 0 (omega arith) ∙ here ∙ ap (λ (k : List Token). 5 + (spelled_bytes k * 2 + n)) (sym z)

  pub listed_next : Listed w' (ts ++ (u ∷ [])) (n + 1)
  unfolding us
  listed_next = record {
    index = next_index;
    starts = λ j c. ⊎_elim (λ d. old_start j d)
        (λ d. let z : j ≡ n = omega arith in subst (λ (k : ℕ). get_or w' (STARTS_AT + k) 0 ≡ start_of us k) (sym z) new_start) (either j n);
  }
