-- What `write` tells of a text: one law for each way through it.
use lib.ListN.{length}
use mathlib.Core.List.{List}
use mathlib.Core.Logic.{inl, inr}
use mathlib.Core.Path.{◌≡◌, refl, sym, ap, subst, ◌∙◌}
use native.Mathlib.Omega.{arith}
use Rattle.std.proofs.Common.{Some, None}
use Prim.Native.Nat.{ℕ, ◌≤◌, ◌<◌}
use Rattle.language.specs.Sizes.{SOURCE}
use Rattle.language.specs.Tokens.{Vocabulary, Token}
use Rattle.language.specs.Text.{Splits}
use Rattle.language.specs.Writing.{written_out}
use Rattle.layout.specs.Names.{Stand}
use Rattle.writer.specs.Texts.{Front, text_from, text_long, Writable, WritesOut}
use Rattle.writer.proofs.Words.{text_length, text_written, writable_spans}

-- a length that was measured is within what it was found to be within
pub measured_within : (n m room : ℕ) → n ≡ m → n ≤ room → m ≤ room
measured_within n m room e h = omega arith

module _ {source w : List ℕ} {count : ℕ} (x : Writable source w count) (n : ℕ) (e : n ≡ text_long w 0 count) where
  -- the text by the words is that of the tokens that they stand for
  long_is : {voc : Vocabulary} (ts : List Token) → Stand w count ts → Splits voc source ts → n ≡ length (written_out ts)
  long_is ts d s = e ∙ sym (text_length source (writable_spans x) count 0 (omega arith)) ∙ ap length (text_written d s)

  pub over_source : (out : List ℕ) → SOURCE < n → WritesOut source w count out out None
  over_source out h = record { told = λ ts d s. (inr (omega (arith, long_is ts d s)), refl) }

  pub over_output : (out : List ℕ) → length out < n → WritesOut source w count out out None
  over_output out h = record { told = λ ts d s. (inl (omega (arith, long_is ts d s)), refl) }

  pub all_written : (out out' : List ℕ) → n ≤ SOURCE → n ≤ length out → Front (text_from source w 0 count) out out'
      → WritesOut source w count out out' (Some n)
  all_written out out' h k f = record {
    told = λ ts d s.
        let l = long_is ts d s in
        (record { output = omega arith; source = omega arith }, l, subst (λ (s : List ℕ). Front s out out') (text_written d s) f);
  }
