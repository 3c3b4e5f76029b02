-- No two answers of `split`, nor two tables but for the words of rows and functions, meet its contract for the same edition, text and
-- table.
use lib.ListN.{length}
use mathlib.Core.List.{List}
use mathlib.Core.Path.{◌≡◌, refl, sym, ◌∙◌, ap, ap₂, subst}
use native.Mathlib.Omega.{arith}
use Prim.Native.Nat.{ℕ, ◌≤◌}
use Rattle.language.proofs.Text.Marks.{Laws}
use Rattle.language.proofs.Text.SmallNumbers.{split_small}
use Rattle.language.proofs.Text.OneSplit.{one_list, one_split, one_flaw, not_both}
use Rattle.language.specs.Sizes.{TABLE}
use Rattle.language.specs.Text.{Reaches, Splits}
use Rattle.language.specs.Tokens as Language
use Rattle.numbers.proofs.Apart.{same_flaw}
use Rattle.layout.proofs.TokenLaws.{lay_stands, stand_same}
use Rattle.layout.specs.Names.{lay_tokens, Stand}
use Rattle.tokens.proofs.Agreeing.{but_self, but_next, but_back}
use Rattle.tokens.proofs.Written.{reached_near}
use Rattle.tokens.specs.Answer.{Laid, IsSplit}
use Rattle.tokens.specs.Forks.{ButRows}
use Rattle.std.specs.Prelude.{Result, Ok, Err}
use Rattle.tokens.specs.declared.answer.Unsplit.{Unsplit}
use Rattle.tokens.specs.declared.answer.Unsplit.TheVariants.{Stopped, TooLong}

-- ---- one answer

module _ {voc : Language.Vocabulary} (laws : Laws voc) (t w v v' : List ℕ) where
  one_table : {ts us : List Language.Token} → ts ≡ us → Laid ts w v → Laid us w v' → ButRows v v'
  one_table e a b = but_next a (but_back (rw e b))

  -- the answer and the table are determined by the text and the table before
  pub one_answer : (r r' : Result ℕ Unsplit) → IsSplit voc t w v r → IsSplit voc t w v' r' → (r ≡ r') × ButRows v v'
  one_answer (Ok n) (Ok m) a b =
      let e = one_split laws a.splits b.splits in
      (ap Ok (a.count ∙ ap length e ∙ sym b.count), one_table e a.laid b.laid)
  one_answer (Ok n) (Err (Stopped f p)) a b = absurd (not_both laws a.splits b.flawed)
  one_answer (Ok n) (Err TooLong) a b = absurd (omega (arith, a.short, b.long))
  one_answer (Err (Stopped f p)) (Ok n) a b = absurd (not_both laws b.splits a.flawed)
  one_answer (Err (Stopped f p)) (Err (Stopped g q)) a b =
      let z = one_flaw laws a.flawed b.flawed in
      let x : Reaches voc t q a.flawed.tokens = subst (λ i. Reaches voc t i a.flawed.tokens) z.1 a.flawed.before in
      (ap₂ (λ h i. Err (Stopped h i)) (same_flaw f g z.0) z.1, one_table (one_list laws x b.flawed.before) a.laid b.laid)
  one_answer (Err (Stopped f p)) (Err TooLong) a b = absurd (omega (arith, a.short, b.long))
  one_answer (Err TooLong) (Ok n) a b = absurd (omega (arith, b.short, a.long))
  one_answer (Err TooLong) (Err (Stopped f p)) a b = absurd (omega (arith, b.short, a.long))
  one_answer (Err TooLong) (Err TooLong) a b = (refl, rw (a.kept, b.kept) (but_self w))

-- ---- what the next layer gets

-- the table of a text that splits stands for its tokens
pub split_stands : {voc : Language.Vocabulary} → Laws voc → (t w v : List ℕ) (n : ℕ) (ts : List Language.Token)
    → TABLE ≤ length w → IsSplit voc t w v (Ok n) → Splits voc t ts → Stand v n ts
split_stands laws t w v n ts room a s =
    let e : a.tokens ≡ ts = one_split laws a.splits s in
    let y : n ≡ length ts = a.count ∙ ap length e in
    let x : Stand (lay_tokens ts w 0 ts) n ts =
    rw y (lay_stands ts w s.few (λ i _. split_small s i) (reached_near s.whole a.short) room) in
    stand_same v (lay_tokens ts w 0 ts) n ts (λ j h. (rw e at a.laid).words j (λ k l. omega arith)) x
