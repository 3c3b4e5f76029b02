-- What the loop over the lines keeps, and what comes of each way out of it.
use lib.ListN.{length, get_or, set, drop, length-append, length-drop}
use lib.Seq.{slice, drop-cons}
use mathlib.Core.List.{List, [], ◌∷◌, ◌++◌}
use mathlib.Core.Logic.{inl, inr, ⊎_elim}
use mathlib.Core.Path.{◌≡◌, refl, sym, ap, subst, ◌∙◌}
use native.Mathlib.Nat.{zero-add}
use native.Mathlib.Omega.{arith}
use Prim.Native.Nat.{ℕ, suc, ◌+◌, ◌-◌, ◌*◌, ◌/◌, ◌≤◌, ◌<◌}
use Rattle.language.proofs.Stored.GoodLines.{good_start, good_next, good_gives}
use Rattle.language.proofs.Stored.Lone.{lone_token, piece_lone, one_lone}
use Rattle.language.proofs.Text.Choices.{either}
use Rattle.language.proofs.Text.Marks.{Laws}
use Rattle.language.specs.Numbers.{Refusal, not_hexadecimal, wrong_count, long_source, text}
use Rattle.language.specs.Sizes.{SOURCE, TOKENS, TABLE}
use Rattle.language.specs.Stored.{spelled_bytes, FirstCount, GoodLines, Lone, StoredDenies}
use Rattle.language.specs.Stored as Stored
use Rattle.language.specs.Text.{byte, many_tokens}
use Rattle.language.specs.Tokens.{Vocabulary, Token, NAME, past}
use Rattle.layout.proofs.TokenLaws.{lay_length, lay_more}
use Rattle.layout.specs.Names.{lay_tokens}
use Rattle.tokens.proofs.Agreeing.{but_self, but_next, but_inside, but_token, but_tokens}
use Rattle.tokens.proofs.Indexing.{foretold_rest, indexed_sought}
use Rattle.tokens.specs.Answer.{Laid}
use Rattle.tokens.specs.Forks.{ButRows, STARTS_AT, Begun}
use Rattle.stored.proofs.Laid.{good_length, spelled_snoc, lone_at, from_is, from_end, digits_are}
use Rattle.stored.proofs.LineLaws.{line_digits}
use Rattle.stored.proofs.Starts.{digits_in, Listed, listed_none, listed_next}
use Rattle.stored.proofs.Words.{one_hex, words_found}
use Rattle.stored.specs.Answer.{Counted, Whole, Broken}
use Rattle.stored.specs.Entries.{OnLine, Amiss, no_digits, no_token}
use Rattle.stored.specs.Lines.{CountTo}
use Rattle.stored.specs.Names.{Searchable, TableWorth, digits_of}
use Rattle.stored.specs.Rows.{Keepable, Written, Kept}
use Rattle.tokens.specs.Shown.{told}

-- Tokens ts, so many and of so many bytes, lie in the table, w₀ before and w now, as long as there is room for them and they are
-- not too long; else some of them do.
pub record Lying (w₀ w : List ℕ) (ts : List Token) (count bytes : ℕ) : Type 0 where
  pub written : List Token
  pub few : length written ≤ TOKENS
  pub laid : Laid written w₀ w
  pub all : count ≤ TOKENS → bytes ≤ SOURCE → written ≡ ts
  pub listed : count ≤ TOKENS → bytes ≤ SOURCE → Listed w ts count

-- The lines before `at` are good: n is counted, and there are so many tokens of so many bytes.
pub record Reached (voc : Vocabulary) (t w₀ w : List ℕ) (n at count bytes : ℕ) : Type 0 where
  pub room : TABLE ≤ length w₀
  pub tokens : List Token
  pub good : GoodLines voc t n tokens (drop at t)
  pub counted : count ≡ length tokens
  pub spelled : bytes ≡ spelled_bytes tokens
  pub here : at ≡ 5 + (bytes * 2 + count)
  pub inside : at ≤ length t
  pub table : Lying w₀ w tokens count bytes

module _ {voc : Vocabulary} {t u w : List ℕ} {n : ℕ} where
  -- at first there is the count
  pub reached_none : Counted t u n → Begun u w → Reached voc t w w n 5 0 0
  unfolding lay_tokens spelled_bytes
  reached_none c b = record {
    room = omega (arith, c.room, b.rest.long);
    tokens = [];
    good = good_start c.count.count c.few;
    counted = refl;
    spelled = refl;
    here = refl;
    inside = c.count.inside;
    table = record { written = []; few = omega arith; laid = but_self w; all = λ i j. refl; listed = λ i j. listed_none b.shape };
  }

module _ {voc : Vocabulary} {t u w₀ w : List ℕ} {n at count bytes : ℕ} (b : ButRows w₀ u) (r : Reached voc t w₀ w n at count bytes) where
  pub reached_length : length w ≡ length u
  reached_length = r.table.laid.long ∙ lay_length r.table.written w₀ 0 r.table.written ∙ b.long

  broken : {y : Refusal} {line : ℕ} → StoredDenies voc t y line → Broken voc t u w y line
  broken d = record {
    denies = d;
    tokens = r.table.written;
    few = r.table.few;
    laid = but_next r.table.laid (but_tokens r.table.written 0 r.table.written b);
  }

  -- ---- a faulty line

  rest_is : at < length t → drop at t ≡ byte t at ∷ drop (suc at) t
  rest_is h = drop-cons t at 0 h

  amiss_denies : at < length t → (y : Refusal) → Amiss voc t at y → StoredDenies voc t y (length r.tokens + 2)
  amiss_denies h y (no_digits x) =
      Stored.no_line (subst (GoodLines voc t n r.tokens) (rest_is h) r.good)
      (λ s more f. x s more (subst (λ (l : List ℕ). Stored.FirstLine l s more) (sym (rest_is h)) f))
  amiss_denies h y (no_token f x) = Stored.no_token r.good f x

  pub reached_amiss : {y : Refusal} → at < length t → Amiss voc t at y → Broken voc t u w y (count + 2)
  reached_amiss {y} h x = broken (subst (λ (k : ℕ). StoredDenies voc t y (k + 2)) (sym r.counted) (amiss_denies h y x))

  -- ---- the end

  module _ (h : length t ≤ at) where
    ended : GoodLines voc t n r.tokens []
    ended = subst (GoodLines voc t n r.tokens) (none (drop at t) (omega (arith, length-drop at t))) r.good
      where
        none : (l : List ℕ) → length l ≡ 0 → l ≡ []
        none [] e = refl
        none (b ∷ l) e = absurd (omega arith)

    pub reached_miscounted : (count ≡ n → ⊥) → Broken voc t u w wrong_count 1
    reached_miscounted x = broken (Stored.miscounted ended (λ e. x (r.counted ∙ sym e)))

    module _ (e : count ≡ n) where
      whole : GoodLines voc t (length r.tokens) r.tokens []
      whole = subst (λ (k : ℕ). GoodLines voc t k r.tokens []) (sym e ∙ r.counted) ended

      pub reached_long : SOURCE < bytes → Broken voc t u w long_source 0
      reached_long x = broken (Stored.overlong whole (omega (arith, r.spelled)))

      pub reached_whole : bytes ≤ SOURCE → Whole voc t u w count
      reached_whole x =
          let z = r.table.all (omega (arith, e, r.good.few)) x in
          record {
            tokens = r.tokens;
            gives = good_gives whole (omega (arith, r.spelled));
            count = r.counted;
            laid = but_next (subst (λ (ts : List Token). Laid ts w₀ w) z r.table.laid) (but_tokens r.tokens 0 r.tokens b);
          }

-- ---- a good line

module _ {voc : Vocabulary} {t w₀ w : List ℕ} {n at count bytes : ℕ} (r : Reached voc t w₀ w n at count bytes) where
  -- bytes and tokens are fewer than the input has bytes, with it, too
  pub reached_room : {k x e : ℕ} → OnLine voc t at k x e → bytes + (e - at) / 2 + (count + 1) ≤ length t
  reached_room {e = e} o = omega (arith, r.here, o.line.inside, o.line.some)

  module _ (laws : Laws voc) {k x e : ℕ} (o : OnLine voc t at k x e) where
    size : ℕ
    size = length (told (slice at e t))

    half : (e - at) / 2 ≡ size
    unfolding size
    half = omega (arith, line_digits o.line)

    next_token : Token
    next_token = lone_token (told (slice at e t)) k o.token.value

    lone_next : Lone voc next_token
    unfolding next_token
    lone_next = record {
      bytes = o.line.line.bytes;
      splits = piece_lone (told (slice at e t)) k o.token.value o.token.piece o.token.small;
    }

    -- ---- there is room for it

    module _ (a : count < TOKENS) (b : bytes ≤ SOURCE) where
      fits : 4 * length r.tokens ≤ length w₀
      fits = omega (arith, r.counted, r.room)

      few : length r.tokens ≤ TOKENS
      few = omega (arith, r.counted)

      laid_now : Laid r.tokens w₀ w
      laid_now = subst (λ (ts : List Token). Laid ts w₀ w) (r.table.all (omega arith) b) r.table.laid

      long_now : TABLE ≤ length w
      long_now = omega (arith, laid_now.long, lay_length r.tokens w₀ 0 r.tokens, r.room)

      listed_now : Listed w r.tokens count
      listed_now = r.table.listed (omega arith) b

      digits_now : (j : ℕ) → j < count → digits_of t w j ≡ digits_in r.tokens j
      digits_now j h = digits_are laws r.good w₀ fits few laid_now j (omega (arith, r.counted))

      -- a token with these digits is this one
      same_kind : (j : ℕ) → j < count → digits_in r.tokens j ≡ slice at e t → (get_or r.tokens j past).kind ≡ k
      unfolding next_token
      same_kind j h d =
          let y = lone_at laws r.good.tokens j (omega (arith, r.counted)) in
          ap (λ (z : Token). z.kind) (one_lone laws y.splits lone_next.splits (one_hex y.bytes lone_next.bytes (d ∙ sym o.line.digits)))

      searchable : k ≡ NAME → Searchable t w count at e
      searchable is =
          let here = rw (← r.counted) at (from_end laws r.good w₀ fits few laid_now) in
          let inside = good_length r.good in
          record {
            bytes = record {
              room = long_now;
              few = omega arith;
              order = omega (arith, o.line.some);
              inside = omega (arith, o.line.inside);
              lines = omega (arith, here, inside, r.counted);
            };
            near = omega (arith, here, r.spelled);
            starts = λ j h. listed_now.starts j h ∙ sym (from_is laws r.good w₀ fits few laid_now j (omega (arith, r.counted)));
            sought = indexed_sought listed_now.index digits_now a (λ j h d. same_kind j h d ∙ is);
          }

      module _ {w' : List ℕ} (y : Written t w w' count k x at e) where
        start_laid : ButRows (set y.grown (STARTS_AT + count) at) (lay_tokens r.tokens w₀ 0 r.tokens)
        start_laid = but_inside (STARTS_AT + count) at (omega arith) (omega arith) (but_next (foretold_rest y.forks) laid_now)

        next_laid : Laid (r.tokens ++ (next_token ∷ [])) w₀ w'
        unfolding next_token size
        next_laid =
            let ts = r.tokens in
            let f = words_found laws r.good w₀ fits few laid_now o.line o.token
            (subst (λ (i : ℕ). TableWorth t w i k at e x y.worth_there) r.counted y.is) in
            rw (y.table, lay_more ts (lone_token (told (slice at e t)) k o.token.value) w₀, f.0, f.1, ← r.counted, ← half, zero-add ((e - at) / 2))
            (but_token count k 0 ((e - at) / 2) _ _ start_laid)

        next_listed : Listed w' (r.tokens ++ (next_token ∷ [])) (count + 1)
        unfolding next_token
        next_listed =
            listed_next listed_now r.counted a digits_now y.forks (omega (arith, (foretold_rest y.forks).long, long_now))
            (omega (arith, r.here, r.spelled)) 0 ((e - at) / 2) _ _ y.table next_token o.line.digits refl

    -- it can be written
    pub reached_keepable : Keepable t w count (bytes + (e - at) / 2) k at e
    reached_keepable = record {
      room = omega (arith, r.table.laid.long, lay_length r.table.written w₀ 0 r.table.written, r.room);
      order = omega (arith, o.line.some);
      some = omega arith;
      near = λ a b. omega (arith, r.here);
      names = λ a b is. searchable a (omega arith) is;
    }

    module _ {w' : List ℕ} (y : Kept t w w' count (bytes + (e - at) / 2) k x at e) where
      more : List Token
      more = r.tokens ++ (next_token ∷ [])

      skips : w' ≡ w → (count + 1 ≤ TOKENS → bytes + (e - at) / 2 ≤ SOURCE → ⊥) → Lying w₀ w' more (count + 1) (bytes + (e - at) / 2)
      skips z n = record {
        written = r.table.written;
        few = r.table.few;
        laid = rw z r.table.laid;
        all = λ a b. absurd (n a b);
        listed = λ a b. absurd (n a b);
      }

      adds : count < TOKENS → bytes + (e - at) / 2 ≤ SOURCE → Lying w₀ w' more (count + 1) (bytes + (e - at) / 2)
      unfolding more
      adds a b = record {
        written = r.tokens ++ (next_token ∷ []);
        few = simp length-append (omega (arith, r.counted));
        laid = next_laid a (omega arith) (y.written a b);
        all = λ i j. refl;
        listed = λ i j. next_listed a (omega arith) (y.written a b);
      }

      keeps : Lying w₀ w' more (count + 1) (bytes + (e - at) / 2)
      keeps = ⊎_elim
          (λ a. ⊎_elim (λ b. skips (y.skipped (inr b)) (λ i j. omega arith)) (λ b. adds a b) (either SOURCE (bytes + (e - at) / 2)))
          (λ a. skips (y.skipped (inl a)) (λ i j. omega arith)) (either count TOKENS)

      pub reached_next : Reached voc t w₀ w' n (e + 1) (count + 1) (bytes + (e - at) / 2)
      unfolding next_token size more
      reached_next = record {
        room = r.room;
        tokens = r.tokens ++ (next_token ∷ []);
        good = good_next next_token r.good o.line.line lone_next;
        counted = simp length-append (omega (arith, r.counted));
        spelled = omega (arith, spelled_snoc r.tokens next_token, half, r.spelled);
        here = omega (arith, r.here, line_digits o.line, o.line.some);
        inside = omega (arith, o.line.inside);
        table = keeps;
      }

-- ---- the first line

module _ {voc : Vocabulary} {t w : List ℕ} where
  untouched : {y : Refusal} {line : ℕ} → StoredDenies voc t y line → Broken voc t w w y line
  unfolding lay_tokens
  untouched d = record { denies = d; tokens = []; few = omega arith; laid = but_self w }

  -- it tells no count
  pub uncounted : ((n : ℕ) (rest : List ℕ) → FirstCount t n rest → ⊥) → Broken voc t w w not_hexadecimal 1
  uncounted h = untouched (Stored.no_count h)

  -- or one that is too large
  pub large : {n : ℕ} → CountTo t n → TOKENS < n → Broken voc t w w (text many_tokens) 1
  large c h = untouched (Stored.large_count c.count h)
