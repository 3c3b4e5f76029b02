-- What the loop of `split` keeps: the tokens that are reached lie in the table, and the names among them can be found.
use lib.ListN.{length, get_or, length-append, get_or-append}
use lib.Seq.{slice, get_or_at}
use mathlib.Core.List.{List, [], ◌∷◌, ◌++◌}
use mathlib.Core.Path.{◌≡◌, refl, sym, ◌∙◌, ap, subst}
use native.Mathlib.Omega.{arith}
use Prim.Native.Nat.{ℕ, zero, suc, ◌+◌, ◌-◌, ◌*◌, ◌/◌, ◌%◌, ◌≤◌, ◌<◌}
use Rattle.language.proofs.Text.Marks.{Laws}
use Rattle.language.proofs.Text.OnePiece.{form_bounds}
use Rattle.language.proofs.Text.Pieces.{blank_piece}
use Rattle.language.proofs.Text.Runs.{Run}
use Rattle.language.proofs.Text.Spots.{token_end}
use Rattle.language.specs.Sizes.{SOURCE, TOKENS, TABLE}
use Rattle.language.specs.Text as Text
use Rattle.language.specs.Text.{Piece, Reaches, Wrong, token_of, is_blank}
use Rattle.language.specs.Text.Content.{space, token}
use Rattle.language.specs.Text.Reaches.{start, skip, next}
use Rattle.language.specs.Tokens.{Vocabulary, Token, NAME, past}
use Rattle.layout.proofs.TokenLaws.{lay_length, lay_more}
use Rattle.layout.specs.Names.{lay_tokens, Near}
use Rattle.layout.specs.Table.{put_token}
use Rattle.layout.specs.Values.{HALF}
use Rattle.tokens.proofs.Agreeing.{but_self, but_next, but_token, but_tokens, forks_token}
use Rattle.tokens.proofs.Indexing.{spelling_of, named_in, Indexed, indexed_none, foretold_rest, indexed_sought, indexed_next}
use Rattle.tokens.proofs.OneKind.{kind_reached}
use Rattle.tokens.proofs.Written.{reached_near, read_back, table_spans, words_found}
use Rattle.tokens.specs.Answer.{Laid, Whole, Broken}
use Rattle.tokens.specs.Forks.{ButRows, SameForks, Shape, Sought, Foretold}
use Rattle.tokens.specs.Found.{Spans, bytes_of, IsToken, Searchable, TableWorth}

-- by a vocabulary the split comes as far as p with n tokens, which lie in the table: w₀ before, w now; and its names
-- can be found
pub record Reached (voc : Vocabulary) (t w₀ w : List ℕ) (p n : ℕ) : Type 0 where
  pub room : TABLE ≤ length w₀
  pub tokens : List Token
  pub reaches : Reaches voc t p tokens
  pub count : n ≡ length tokens
  pub few : n ≤ TOKENS
  pub laid : Laid tokens w₀ w
  pub index : Indexed (spelling_of tokens) (named_in tokens) w n

-- at first no token is reached
pub reached_none : {voc : Vocabulary} (t w : List ℕ) → TABLE ≤ length w → Shape w 0 → Reached voc t w w 0 0
unfolding lay_tokens
reached_none t w room g = record {
  room = room;
  tokens = [];
  reaches = start;
  count = refl;
  few = omega arith;
  laid = but_self w;
  index = indexed_none g;
}

module _ {voc : Vocabulary} {t w₀ w : List ℕ} {p n : ℕ} (r : Reached voc t w₀ w p n) where
  -- the table keeps its length
  pub reached_length : length w ≡ length w₀
  reached_length = r.laid.long ∙ lay_length r.tokens w₀ 0 r.tokens

  -- a piece that is no token is passed over
  pub reached_skip : {q : ℕ} → Piece voc t p q space → Reached voc t w₀ w q n
  reached_skip x = record {
    room = r.room;
    tokens = r.tokens;
    reaches = skip r.reaches x;
    count = r.count;
    few = r.few;
    laid = r.laid;
    index = r.index;
  }

  -- the flaw at p stops the split
  pub reached_broken : {u : List ℕ} → ButRows w₀ u → (f : Text.Flaw) → length t ≤ SOURCE
      → ((ts : List Token) → n ≡ length ts → Wrong voc t p ts f) → Broken voc t u w f p
  reached_broken b f l x =
      record {
        short = l;
        flawed =
            record { tokens = r.tokens; before = r.reaches; few = omega (arith, r.count, r.few); here = x r.tokens r.count };
        laid = but_next r.laid (but_tokens r.tokens 0 r.tokens b);
      }

  -- the end of the text ends it
  pub reached_whole : {u : List ℕ} → ButRows w₀ u → length t ≤ SOURCE → p ≡ length t → Whole voc t u w n
  reached_whole b l e =
      record {
        short = l;
        tokens = r.tokens;
        splits = record { whole = subst (λ q. Reaches voc t q r.tokens) e r.reaches; few = omega (arith, r.count, r.few) };
        count = r.count;
        laid = but_next r.laid (but_tokens r.tokens 0 r.tokens b);
      }

  module _ (short : length t ≤ SOURCE) where
    ts : List Token
    ts = r.tokens

    fits : 4 * length ts ≤ length w₀
    unfolding ts
    fits = omega (arith, r.count, r.few, r.room)

    few : length ts ≤ TOKENS
    unfolding ts
    few = omega (arith, r.count, r.few)

    near : Near ts
    unfolding ts
    near = reached_near r.reaches short

    back : (i : ℕ) → i < n → bytes_of t w i ≡ spelling_of ts i
    unfolding ts
    back i h = read_back t w₀ w ts r.reaches fits near few r.laid i (omega (arith, r.count))

    -- the bytes of each token in the table lie in the text
    reached_spans : Spans t w n
    unfolding ts
    reached_spans = subst (Spans t w) (sym r.count) (table_spans t w₀ w ts r.reaches fits near few r.laid)

    module _ {q k x : ℕ} (small : n < TOKENS) (y : IsToken voc t p k q x) where
      -- a name that is next can be sought
      reached_sought : Laws voc → k ≡ NAME → Sought (bytes_of t w) w n (slice p q t)
      unfolding ts
      reached_sought laws e =
          indexed_sought r.index back small
          (λ j h d. kind_reached laws r.reaches y.piece y.small j (omega (arith, r.count)) d ∙ e)

      pub reached_searchable : Laws voc → k ≡ NAME → Searchable t w n (slice p q t)
      reached_searchable laws e =
          record {
            bytes = record {
              room = omega (arith, reached_length, r.room);
              few = r.few;
              spans = reached_spans;
            };
            sought = reached_sought laws e;
          }

      u : Token
      u = token_of t p q k y.value

      more : List Token
      unfolding ts u
      more = ts ++ (u ∷ [])

      old_there : (j : ℕ) → j < n → get_or more j past ≡ get_or ts j past
      unfolding more ts
      old_there j h = get_or-append r.tokens (u ∷ []) past j (omega (arith, r.count))

      new_there : get_or more n past ≡ u
      unfolding more ts
      new_there = get_or_at r.tokens u [] past n (sym r.count)

      -- a token is written behind the others
      module _ {m high low : ℕ} {v w' : List ℕ} (z : TableWorth t w n k (slice p q t) x m) (o : Foretold (bytes_of t w) w v n k (slice p q t))
          (g : high ≡ m / HALF) (h : low ≡ m % HALF) (e : w' ≡ put_token v n k p q high low) where
        next_laid : Laid more w₀ w'
        unfolding more u ts
        next_laid =
            let b = form_bounds t p q (token k y.value) y.piece.form in
            let c = r.count in
            let ends : p + length (slice p q t) ≡ q = token_end t p q (omega (arith, b.0)) b.1 in
            let z' = subst (λ (i : ℕ). TableWorth t w i k (slice p q t) x m) c z in
            let f = words_found t w₀ w ts r.reaches fits near few r.laid y z' in
            let a = but_token n k p q high low (but_next (foretold_rest o) r.laid) in
            rw (e, lay_more ts u w₀, ends, f.0 ∙ sym h, f.1 ∙ sym g, ← c) a

        next_index : Indexed (spelling_of more) (named_in more) w' (n + 1)
        unfolding u ts
        next_index =
            indexed_next r.index back small o (subst (λ (s : List ℕ). SameForks s v) (sym e) (forks_token v n k p q high low small))
            (λ j l. ap (λ (s : Token). s.spelling) (old_there j l)) (ap (λ (s : Token). s.spelling) new_there)
            (λ j l d. sym (ap (λ (s : Token). s.kind) (old_there j l)) ∙ d) (λ d. sym (ap (λ (s : Token). s.kind) new_there) ∙ d)

        pub reached_next : Reached voc t w₀ w' q (n + 1)
        unfolding more u ts
        reached_next = record {
          room = r.room;
          tokens = more;
          reaches = next r.reaches y.piece y.small refl;
          count = simp length-append (omega (arith, r.count));
          few = omega arith;
          laid = next_laid;
          index = next_index;
        }

-- ---- blanks

-- all that stand there are passed over
module _ {voc : Vocabulary} (laws : Laws voc) {t w₀ w : List ℕ} {p q n : ℕ} (r : Reached voc t w₀ w p n) (b : Run is_blank t p q) where
  passed : (d : ℕ) → p + d ≤ q → Reached voc t w₀ w (p + d) n
  passed zero l = let e : p ≡ p + 0 = omega arith in subst (λ (i : ℕ). Reached voc t w₀ w i n) e r
  passed (suc d) l =
      let e : p + d + 1 ≡ p + suc d = omega arith in
      let here : p + d < length t = omega (arith, b.within) in
      subst (λ (i : ℕ). Reached voc t w₀ w i n) e
      (reached_skip (passed d (omega arith)) (blank_piece laws t (p + d) here (b.each (p + d) (omega arith) (omega arith))))

  pub reached_blanks : Reached voc t w₀ w q n
  reached_blanks =
      let e : p + (q - p) ≡ q = omega (arith, b.order) in
      subst (λ (i : ℕ). Reached voc t w₀ w i n) e (passed (q - p) (omega (arith, b.order)))
