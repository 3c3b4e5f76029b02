-- What the layers say of a stored sheet, put together.
use mathlib.Core.List.{List}
use mathlib.Core.Path.{◌≡◌, sym, subst, ◌∙◌}
use Prim.Native.Nat.{ℕ, ◌≤◌}
use native.Mathlib.Omega.{arith}
use Rattle.std.proofs.Common.{Ok, Err}
use lib.ListN.{length}
use Rattle.language.specs.Sizes.{TOKENS, TABLE}
use Rattle.language.specs.Tokens.{Vocabulary, Token}
use Rattle.language.specs.Answers.{at, Denied, unread, faulty, by_origin, by_tokens}
use Rattle.language.specs.Numbers as Numbers
use Rattle.language.specs.Starts.{wrong_token, wrong_end}
use Rattle.language.specs.Stored.{from_stored}
use Rattle.language.proofs.Text.Marks.{Laws}
use Rattle.language.proofs.Types.FaultPlaces.{fault_inside}
use Rattle.numbers.specs.declared.Refusal.{Refusal}
use Rattle.layout.specs.Names.{Stand}
use Rattle.layout.proofs.TokenLaws.{lay_length}
use Rattle.layout.proofs.Wiped.{wiped_tokens}
use Rattle.stored.specs.Answer as Stored
use Rattle.stored.proofs.Stands.{stored_stands}
use Rattle.std.specs.Prelude.{Result, Ok, Err}
use Rattle.stored.specs.declared.Denied as denied
use Rattle.tokens.proofs.Agreeing.{but_cleared}
use Rattle.tokens.specs.Answer.{Laid}
use Rattle.sheets.specs.Sheets.{wiped, OfTokens, Read, Near, told_at, line_of, OfSource, Examined}
use Rattle.reader.specs.Findings.{Standing}
use Rattle.sheets.specs.Sheets.{Seen}

-- ---- places

-- what is told of tokens is told at one of them, or at the end
denied_near : {ts : List Token} {r : Numbers.Refusal} {i : ℕ} → Denied ts r (at i) → i ≤ length ts
denied_near (unread (wrong_token h a b)) = omega arith
denied_near (unread (wrong_end a b)) = omega arith
denied_near {ts} (faulty {p = p} {r = r} {i = i} a f) = omega (arith, fault_inside ts p r i a f)

tokens_near : (ts : List Token) (w : List ℕ) (v : Seen) → length ts ≤ TOKENS → OfTokens ts w v → Near v
tokens_near ts w (Ok p) h a = tt
tokens_near ts w (Err e) h a = omega (arith, denied_near a)

-- ---- a stored sheet

module _ {voc : Vocabulary} (laws : Laws voc) (input w w₁ : List ℕ) (long : TABLE ≤ length w) where
  laid_long : (ts : List Token) → Laid ts w w₁ → length w₁ ≡ length w
  laid_long ts e = e.long ∙ lay_length ts w 0 ts

  laid_rest : (ts : List Token) → length ts ≤ TOKENS → Laid ts w w₁ → wiped w₁ ≡ wiped w
  laid_rest ts h e = but_cleared e ∙ wiped_tokens ts ts w 0 (omega arith)

  module _ (r : Result ℕ denied.Denied) (n : ℕ) (y : Stored.IsStored voc input w w₁ r) (e : r ≡ Ok n) where
    whole : Stored.Whole voc input w w₁ n
    whole = subst (Stored.IsStored voc input w w₁) e y

    stands : Stand w₁ n whole.tokens
    stands = stored_stands laws input w w₁ n long whole

    -- its table can be given to the reader
    pub stored_standing : Standing w₁ n
    stored_standing = record { tokens = whole.tokens; stand = stands; long = rw (laid_long whole.tokens whole.laid) long }

    module _ (w₂ : List ℕ) (v : Seen) (x : Read w₁ w₂ n v) where
      -- and what the reader tells has a line
      pub stored_near : Near v
      stored_near = tokens_near whole.tokens w₂ v whole.gives.few (x.told whole.tokens stands)

      of_lines : (v : Seen) → OfTokens whole.tokens w₂ v → OfSource (from_stored voc input) w₂ (told_at line_of v)
      of_lines (Ok p) a = record {
        tokens = whole.tokens;
        program = a.program;
        type = a.type;
        passes = record { given = whole.gives; proper = a.proper };
        numbered = a.numbered;
        holds = a.holds;
      }
      of_lines (Err e) a = by_tokens whole.gives a

      pub examined_lines : (s : Seen) → s ≡ told_at line_of v → Examined (from_stored voc input) w w₂ s
      examined_lines s z = record {
        told = subst (OfSource (from_stored voc input) w₂) (sym z) (of_lines v (x.told whole.tokens stands));
        rest = x.rest ∙ laid_rest whole.tokens whole.gives.few whole.laid;
        long = x.long ∙ laid_long whole.tokens whole.laid;
      }

  pub examined_denied : (r : Result ℕ denied.Denied) (z : Refusal) (i : ℕ) → Stored.IsStored voc input w w₁ r → r ≡ Err (record { why = z; line = i })
      → Examined (from_stored voc input) w w₁ (Err (record { why = z; place = i }))
  examined_denied r z i y e = let x = subst (Stored.IsStored voc input w w₁) e y in record {
    told = by_origin x.denies;
    rest = laid_rest x.tokens x.few x.laid;
    long = laid_long x.tokens x.laid;
  }
