-- What the layers say of a sheet, put together: one law for each way through the code.
use mathlib.Core.Bool.{Bool, true, false, cond}
use mathlib.Core.List.{List}
use mathlib.Core.Path.{◌≡◌, refl, sym, ap, subst, ◌∙◌}
use Prim.Native.Nat.{ℕ, ◌≤◌, ◌<◌}
use native.Mathlib.Omega.{arith}
use lib.Dec.{ltb}
use lib.ListN.{length}
use borrow.Author.Tests.{ltb-true, lt-ltb, le-ltb}
use Rattle.language.specs.Sizes.{TOKENS, TABLE}
use Rattle.language.specs.Tokens.{Vocabulary, Token, place_at}
use Rattle.language.specs.Trees.{Program}
use Rattle.language.specs.Answers.{at, too_long, flawed, TextGives, from_text, Denied, unread, faulty, Refused, by_origin, by_tokens}
use Rattle.language.proofs.Text.Marks.{Laws}
use Rattle.numbers.specs.Meanings.{reason_meant, refusal_meant}
use Rattle.numbers.specs.declared.Flaw.{Flaw}
use Rattle.numbers.specs.declared.Refusal.{Refusal}
use Rattle.layout.specs.Table.{token_place, without_rows, without_variables}
use Rattle.layout.specs.Names.{Stand}
use Rattle.layout.specs.Decode.{Holds}
use Rattle.layout.specs.declared.Held.{Held}
use Rattle.layout.proofs.HeldPrograms.{held}
use Rattle.layout.proofs.FewRows.{few_rows, few_defs}
use Rattle.layout.proofs.LayLaws.{length_lay_program}
use Rattle.layout.proofs.TokenLaws.{stand_same, lay_length}
use Rattle.layout.proofs.VariablesWords.{length_zeros, length_without, zeros_before}
use Rattle.layout.proofs.VariablesTrees.{holds_without}
use Rattle.layout.proofs.Wiped.{wiped_tokens, wiped_program, wiped_without_rows, wiped_without_variables}
use Rattle.tokens.proofs.Agreeing.{but_cleared}
use Rattle.tokens.specs.Answer as Tokens
use Rattle.tokens.proofs.OneAnswer.{split_stands}
use Rattle.std.specs.Prelude.{Result, Ok, Err}
use Rattle.tokens.specs.declared.answer.Unsplit as unsplit
use Rattle.reader.specs.Findings as Reader
use Rattle.reader.specs.Findings.{Standing}
use Rattle.checker.specs.Checked as Checker
use Rattle.rules.specs.Asked.{Typing}
use Rattle.rules.specs.Asked.{Fault}
use Rattle.std.specs.Prelude.{Ok, Err}
use Rattle.sheets.specs.Sheets.{Seen, wiped, byte_of, OfProgram, Typed, OfTokens, Read, told_at, OfSource, Examined}

-- ---- places

-- an ordinal's byte, read from the words, is the one that the text gives it
pub byte_stands : (voc : Vocabulary) {w : List ℕ} {count : ℕ} {ts : List Token} (source : List ℕ) → Stand w count ts → (i : ℕ)
    → byte_of w count (length source) i ≡ (from_text voc source).at ts i
unfolding byte_of
byte_stands voc {w} {count} {ts} source s i =
    go (ltb i count) refl ∙ ap (λ (n : ℕ). cond (ltb i n) (place_at ts i) (length source)) (sym s.long)
  where
    go : (b : Bool) → ltb i count ≡ b → cond b (token_place w i) (length source) ≡ cond (ltb i count) (place_at ts i) (length source)
    go true e = rw e (s.places i (ltb-true i count e))
    go false e = rw e refl

pub byte_inside : (w : List ℕ) (count end i x : ℕ) → i < count → x ≡ token_place w i → x ≡ byte_of w count end i
unfolding byte_of
byte_inside w count end i x h e = rw (lt-ltb i count h) e

pub byte_past : (w : List ℕ) (count end i : ℕ) → count ≤ i → end ≡ byte_of w count end i
unfolding byte_of
byte_past w count end i h = rw (le-ltb i count h) refl

-- ---- the type of a program that is held

module _ (w w' : List ℕ) (P : Held) where
  checked_holds : (e : w' ≡ without_variables w) (ts : List Token) (p : Program) → Holds ts w P p → Holds ts w' P p
  checked_holds e ts p h = rw e (holds_without h)

  checked_rest : w' ≡ without_variables w → wiped w' ≡ wiped w
  checked_rest e = ap wiped e ∙ wiped_without_variables w

  checked_long : w' ≡ without_variables w → length w' ≡ length w
  checked_long e = ap length e ∙ length_without w

  pub typed_type : (r : Typing) (n : ℕ) → Checker.Checked w w' P r → r ≡ Ok n
      → Typed w w' P (Ok (record { program = P; type_number = n }))
  typed_type r n c q = record {
    told = λ ts p h. (refl, subst (λ (r : Typing). Checker.Answers r p) q (c.right ts p h));
    holds = checked_holds c.table;
    rest = checked_rest c.table;
    long = checked_long c.table;
  }

  pub typed_fault : (r : Typing) (e : Fault) → Checker.Checked w w' P r → r ≡ Err e
      → Typed w w' P (Err (record { why = Refusal.Types e.why; place = e.place }))
  typed_fault r e c q = record {
    told = λ ts p h. (reason_meant e.why, subst (λ (r : Typing). Checker.Answers r p) q (c.right ts p h), refl);
    holds = checked_holds c.table;
    rest = checked_rest c.table;
    long = checked_long c.table;
  }

-- ---- the reading of tokens

module _ (w w₁ : List ℕ) (count : ℕ) (st : Standing w count) where
  -- the tokens are read as the program that P says
  abbrev Reads : Held → Type 0
  Reads P = (ts : List Token) → Stand w count ts → Reader.Read ts w P w₁

  program_holds : {P : Held} {ts : List Token} → Stand w count ts → (r : Reader.Read ts w P w₁) → Holds ts w₁ P r.program
  program_holds {ts = ts} s r = rw (r.laid, r.held) (held ts r.program w st.long s r.reading)

  -- by as many tokens as there are
  program_count : {P : Held} {ts : List Token} → Stand w count ts → Reader.Read ts w P w₁ → P.count ≡ count
  program_count s r = ap (λ (P : Held). P.count) r.held ∙ s.long

  -- the reader's table can be given to the checker
  pub program_held : (P : Held) → Reads P → Checker.Checkable w₁ P
  program_held P g =
      let r = g st.tokens st.stand in
      record { tokens = st.tokens; program = r.program; holds = program_holds st.stand r }

  program_rest : {P : Held} → Reader.Read st.tokens w P w₁ → wiped w₁ ≡ wiped w
  program_rest r =
      let n = few_rows st.tokens r.program r.reading in
      let k = few_defs r.program.defs in
      ap wiped r.laid ∙ wiped_program r.program w (omega (arith, st.stand.few, st.stand.long)) (omega (arith, st.stand.few, st.stand.long))

  of_program : {P : Held} {ts : List Token} {w₂ : List ℕ} (v : Seen) (r : Reader.Read ts w P w₁)
      → OfProgram r.program P v → Holds ts w₂ P r.program → OfTokens ts w₂ v
  of_program (Ok Q) r (e, x) h = record {
    program = r.program;
    type = x.0;
    proper = record { reads = r.reading; typed = x.1 };
    numbered = x.2;
    holds = rw e h;
  }
  of_program (Err y) r (v, f, e) h = rw e (faulty r.reading f)

  pub read_program : (w₂ : List ℕ) (P : Held) (v : Seen) → Reads P → Typed w₁ w₂ P v → Read w w₂ count v
  read_program w₂ P v g t = record {
    told = λ ts x.
        let r = g ts x in
        let h = program_holds x r in
        of_program v r (t.told ts r.program h) (t.holds ts r.program h);
    stands = λ ts x.
        let r = g ts x in
        subst (λ (n : ℕ). Stand w₂ n ts) (program_count x r) (t.holds ts r.program (program_holds x r)).stand;
    rest = t.rest ∙ program_rest (g st.tokens st.stand);
    long = t.long ∙ ap length (g st.tokens st.stand).laid ∙ length_lay_program (g st.tokens st.stand).program w;
  }

  -- where there is no program the rows are cleared
  read_denied : (y : Refusal) (i : ℕ) → w₁ ≡ without_rows w → ((ts : List Token) → Stand w count ts → Denied ts (refusal_meant y) (at i))
      → Read w w₁ count (Err (record { why = y; place = i }))
  read_denied y i e d = record {
    told = d;
    stands = λ ts x. rw e (stand_same (without_rows w) w count ts (λ j h. zeros_before _ w _ j h) x);
    rest = ap wiped e ∙ wiped_without_rows w;
    long = ap length e ∙ length_zeros _ w _;
  }

  pub read_none : (i : ℕ) → ((ts : List Token) → Stand w count ts → Reader.Unread ts w i w₁)
      → Read w w₁ count (Err (record { why = Refusal.NoReading; place = i }))
  read_none i g = read_denied Refusal.NoReading i (g st.tokens st.stand).clear λ ts x. unread (g ts x).at

-- ---- a source

module _ {voc : Vocabulary} (laws : Laws voc) (source w w₁ : List ℕ) (long : TABLE ≤ length w) where
  whole_stands : {n : ℕ} (x : Tokens.Whole voc source w w₁ n) → Stand w₁ n x.tokens
  whole_stands {n} x = split_stands laws source w w₁ n x.tokens long x x.splits

  laid_long : (ts : List Token) → Tokens.Laid ts w w₁ → length w₁ ≡ length w
  laid_long ts e = e.long ∙ lay_length ts w 0 ts

  laid_rest : (ts : List Token) → length ts ≤ TOKENS → Tokens.Laid ts w w₁ → wiped w₁ ≡ wiped w
  laid_rest ts h e = but_cleared e ∙ wiped_tokens ts ts w 0 (omega arith)

  -- the scanner's table can be given to the reader
  pub whole_standing : (r : Result ℕ unsplit.Unsplit) (n : ℕ) → Tokens.IsSplit voc source w w₁ r → r ≡ Ok n → Standing w₁ n
  whole_standing r n y e =
      let x = subst (Tokens.IsSplit voc source w w₁) e y in
      record { tokens = x.tokens; stand = whole_stands x; long = rw (laid_long x.tokens x.laid) long }

  -- and what the reader leaves can be read for a place
  pub whole_read : (r : Result ℕ unsplit.Unsplit) (n : ℕ) (w₂ : List ℕ) (v : Seen) → Tokens.IsSplit voc source w w₁ r → r ≡ Ok n
      → Read w₁ w₂ n v → (TABLE ≤ length w₂) × (n ≤ TOKENS)
  whole_read r n w₂ v y e z = let s = whole_standing r n y e in (rw z.long s.long, s.stand.few)

  given : {n : ℕ} (x : Tokens.Whole voc source w w₁ n) → TextGives voc source x.tokens
  given x = record { short = x.short; splits = x.splits }

  of_tokens : {n : ℕ} (x : Tokens.Whole voc source w w₁ n) (w₂ : List ℕ) → Stand w₂ n x.tokens → (v : Seen) (s : Seen) → OfTokens x.tokens w₂ v
      → s ≡ told_at (byte_of w₂ n (length source)) v → OfSource (from_text voc source) w₂ s
  of_tokens {n} x w₂ st (Ok p) s a e = subst (OfSource (from_text voc source) w₂) (sym e) record {
    tokens = x.tokens;
    program = a.program;
    type = a.type;
    passes = record { given = given x; proper = a.proper };
    numbered = a.numbered;
    holds = a.holds;
  }
  of_tokens x w₂ st (Err y) s a e =
      subst (OfSource (from_text voc source) w₂) (sym e)
      (subst (Refused (from_text voc source) (refusal_meant y.why)) (sym (byte_stands voc source st y.place)) (by_tokens (given x) a))

  pub examined_tokens : (r : Result ℕ unsplit.Unsplit) (n end : ℕ) (w₂ : List ℕ) (v : Seen) (s : Seen) → Tokens.IsSplit voc source w w₁ r
      → r ≡ Ok n → Read w₁ w₂ n v → end ≡ length source → s ≡ told_at (byte_of w₂ n end) v → Examined (from_text voc source) w w₂ s
  examined_tokens q n end w₂ v s y e r l z = let x = subst (Tokens.IsSplit voc source w w₁) e y in record {
    told =
        of_tokens x w₂ (r.stands x.tokens (whole_stands x)) v s (r.told x.tokens (whole_stands x))
        (subst (λ (k : ℕ). s ≡ told_at (byte_of w₂ n k) v) l z);
    rest = r.rest ∙ laid_rest x.tokens x.splits.few x.laid;
    long = r.long ∙ laid_long x.tokens x.laid;
  }

  pub examined_flaw : (r : Result ℕ unsplit.Unsplit) (f : Flaw) (i : ℕ) → Tokens.IsSplit voc source w w₁ r → r ≡ Err (unsplit.TheVariants.Stopped f i)
      → Examined (from_text voc source) w w₁ (Err (record { why = Refusal.Text f; place = i }))
  examined_flaw r f i y e = let x = subst (Tokens.IsSplit voc source w w₁) e y in record {
    told = by_origin (flawed x.short x.flawed);
    rest = laid_rest x.flawed.tokens x.flawed.few x.laid;
    long = laid_long x.flawed.tokens x.laid;
  }

  pub examined_long : (r : Result ℕ unsplit.Unsplit) → Tokens.IsSplit voc source w w₁ r → r ≡ Err unsplit.TheVariants.TooLong
      → Examined (from_text voc source) w w₁ (Err (record { why = Refusal.LongSource; place = 0 }))
  examined_long r y e =
      let x = subst (Tokens.IsSplit voc source w w₁) e y in
      record { told = by_origin (too_long x.long); rest = ap wiped x.kept; long = ap length x.kept }
