-- The two services for a book that is called for many jobs: from what was examined to a table that is prepared, and from that
-- to the written run of a call.
use mathlib.Core.List.{List}
use mathlib.Core.Path.{◌≡◌, refl, sym, ap, subst, ◌∙◌}
use Prim.Native.Nat.{ℕ, ◌+◌, ◌-◌, ◌*◌, ◌≤◌}
use native.Mathlib.Omega.{arith}
use Rattle.std.proofs.Common.{Result, Ok, Err}
use lib.ListN.{length, set, length-set}
use lib.Seq.{get_or-set_other, set-set, set_comm}
use Rattle.language.specs.Sizes.{TOKENS, TABLE, ALLOWANCE}
use Rattle.language.specs.Tokens.{Token, spell}
use Rattle.language.specs.Trees.{int, Program}
use Rattle.language.specs.Meaning.{run}
use Rattle.language.specs.Answers as Answers
use Rattle.language.specs.Answers.{Passes, Lent, Enough, after_run, run_ended}
use Rattle.language.specs.Edition.{text_in, pair_in}
use Rattle.language.specs.Pairs.{joined}
use Rattle.language.specs.Shift.{Job, call_of, decimal_with}
use Rattle.language.proofs.Answers.Origins.{Fate, passes, passes_is, not_both}
use Rattle.language.proofs.Answers.Editions.{text_in_lawful}
use Rattle.numbers.specs.declared.Refusal.{Refusal}
use Rattle.numbers.specs.declared.Stop.{Stop}
use Rattle.layout.specs.declared.values.Value.{Value}
use Rattle.layout.specs.Table.{zeros}
use Rattle.layout.specs.Decode.{Holds}
use Rattle.layout.specs.declared.Held.{Held}
use Rattle.layout.proofs.Clearing.{zeros_same}
use Rattle.resolver.specs.Resolves.{Resolvable, Resolves}
use Rattle.runner.specs.Contract.{Loaded}
use Rattle.sheets.specs.Sheets.{OfSource, Passing, Examined}
use Rattle.numbers.specs.declared.Located.{Located}
use Rattle.sheets.specs.declared.Passed.{Passed}
use Rattle.sheets.specs.Sheets.{Seen}
use Rattle.grumpy.specs.Outcomes.{end_meant, ending_meant, Told, Executed}
use Rattle.grumpy.specs.Calls.{Admissible, laid, HoldsCall, Prepared, Prepares, Callable, CallRan, Called}
use Rattle.grumpy.specs.declared.answers.Ending.{Ending}
use Rattle.grumpy.proofs.Resolving.{resolved_rest}
use Rattle.grumpy.proofs.BookCalls as book_calls
use Rattle.grumpy.proofs.BookCalls.{tokens_of, program_of, calling}
use Rattle.grumpy.proofs.Preparing.{NOUGHTS, prepared}

-- ---- a book that is prepared

-- the call that it is read with, as the code writes it
abbrev pub WRITTEN : List ℕ
WRITTEN = spell "pay(0,0)"

noughts_written : WRITTEN ≡ call_of NOUGHTS
unfolding call_of decimal_with
noughts_written = refl

module _ (n : ℕ) (book : List ℕ) (x : Admissible n book) where
  abbrev y : book_calls.Calling n book
  y = calling n book x

  abbrev ts₀ : List Token
  ts₀ = tokens_of book y.front NOUGHTS

  abbrev p₀ : Program
  p₀ = program_of y.front y.defs ts₀

  paired : Passes (pair_in n book (call_of NOUGHTS)) ts₀ p₀ int
  paired = y.calls NOUGHTS (omega arith) (omega arith)

  -- as one text
  read_so : Passes (text_in n (joined book WRITTEN)) ts₀ p₀ int
  read_so =
      subst (λ (c : List ℕ). Passes (text_in n (joined book c)) ts₀ p₀ int) (sym noughts_written)
      record {
        given = record { words = paired.given.words; named = paired.given.named; given = paired.given.given };
        proper = paired.proper;
      }

  module _ (w w₁ : List ℕ) (s : Seen) (e : Examined (text_in n (joined book WRITTEN)) w w₁ s) where
    pub never_refused : (r : Located Refusal ℕ) → s ≡ Err r → ⊥
    never_refused r q =
        not_both (text_in_lawful n (joined book WRITTEN)) (subst (OfSource (text_in n (joined book WRITTEN)) w₁) q e.told) read_so

    module _ (P : Passed) (q : s ≡ Ok P) where
      passing : Passing (text_in n (joined book WRITTEN)) w₁ P.program P.type_number
      passing = subst (OfSource (text_in n (joined book WRITTEN)) w₁) q e.told

      pub seen_resolvable : Resolvable w₁ P.program
      seen_resolvable =
          record { ts = passing.tokens; program = passing.program; holds = passing.holds; reading = passing.passes.proper.reads }

      one : ◌≡◌ {A = Fate ℕ} (passes passing.tokens passing.program passing.type) (passes ts₀ p₀ int)
      one = sym (passes_is (text_in_lawful n (joined book WRITTEN)) passing.passes) ∙ passes_is (text_in_lawful n (joined book WRITTEN)) read_so

      one_tokens : passing.tokens ≡ ts₀
      one_tokens = let z = one in cc

      one_program : passing.program ≡ p₀
      one_program = let z = one in cc

      held : Holds ts₀ w₁ P.program p₀
      held =
          subst (λ (p : Program). Holds ts₀ w₁ P.program p) one_program
          (subst (λ (ts : List Token). Holds ts w₁ P.program passing.program) one_tokens passing.holds)

      pub seen_prepared : (w₂ : List ℕ) → Resolves w₁ w₂ P.program → Prepares n book w w₂ P.program
      seen_prepared w₂ r = record {
        prepared = prepared y w₂ P.program (r.holds ts₀ p₀ held) (r.resolved ts₀ p₀ held read_so.proper.reads);
        rest = resolved_rest r ∙ e.rest;
      }

-- ---- numbers laid in its table

module _ (P : Held) (j : Job) (w : List ℕ) where
  laid_length : length (laid P j w) ≡ length w
  laid_length = length-set (set w (4 * (P.count - 4) + 3) j.picks) (4 * (P.count - 2) + 3) j.rate ∙ length-set w (4 * (P.count - 4) + 3) j.picks

  -- words that are not required are as they were
  pub laid_rest : 6 ≤ P.count → P.count ≤ TOKENS → zeros (laid P j w) 0 TABLE ≡ zeros w 0 TABLE
  laid_rest six few =
      zeros_same TABLE 0 (laid P j w) w laid_length
      (λ k out.
      get_or-set_other (set w (4 * (P.count - 4) + 3) j.picks) (4 * (P.count - 2) + 3) k j.rate 0 (λ e. out (omega arith) (omega arith))
      ∙ get_or-set_other w (4 * (P.count - 4) + 3) k j.picks 0 (λ e. out (omega arith) (omega arith)))

  -- those of the job before are written over
  laid_again : (k : Job) → 6 ≤ P.count → laid P k (laid P j w) ≡ laid P k w
  laid_again k six =
      let a = 4 * (P.count - 4) + 3 in
      let b = 4 * (P.count - 2) + 3 in
      ap (λ (l : List ℕ). set l b k.rate)
      (set_comm (set w a j.picks) b a j.rate k.picks (λ e. omega arith) ∙ ap (λ (l : List ℕ). set l b j.rate) (set-set w a j.picks k.picks))
      ∙ set-set (set w a k.picks) b j.rate k.rate

  pub prepared_on : {n : ℕ} {book : List ℕ} → Prepared n book w P → Prepared n book (laid P j w) P
  prepared_on {n} {book} x = record {
    long = omega (arith, x.long, laid_length);
    six = x.six;
    few = x.few;
    calls = λ k p q. subst (HoldsCall n book P k) (sym (laid_again k x.six)) (x.calls k p q);
  }

-- ---- a call

-- the first number, then the second
pub laid_twice : (P : Held) (j : Job) (w w₁ w₂ : List ℕ) → w₁ ≡ set w (4 * (P.count - 4) + 3) j.picks
    → w₂ ≡ set w₁ (4 * (P.count - 2) + 3) j.rate → w₂ ≡ laid P j w
laid_twice P j w w₁ w₂ e f = f ∙ ap (λ (l : List ℕ). set l (4 * (P.count - 2) + 3) j.rate) e

module _ {w work : List ℕ} {P : Held} {j : Job} {allowance : ℕ} (x : Callable w work P j allowance) where
  pub call_loaded : (w₂ : List ℕ) → w₂ ≡ laid P j w → Loaded w₂ work P allowance
  call_loaded w₂ e =
      let h = x.prepared.calls j x.picks x.rate in
      subst (λ (w : List ℕ). Loaded w work P allowance) (sym e)
      record {
        ts = h.standing;
        program = h.program;
        type = int;
        holds = h.holds;
        typed = h.passes.proper.typed;
        resolved = h.resolved;
        long = x.long;
        allowed = x.allowed;
      }

printed_meant : (e : Result Value (Located Stop ℕ)) (u : ℕ) (bs : List ℕ) → (end_meant e u bs).printed ≡ bs
printed_meant (Ok v) u bs = refl
printed_meant (Err s) u bs = refl

ran_told : {n : ℕ} {book out out' : List ℕ} {j : Job} {ts : List Token} {p : Program} (l : Lent) (r : Ending ℕ) → Enough l → l.allowance ≤ ALLOWANCE
    → Passes (pair_in n book (call_of j)) ts p int → Told (run p l.allowance l.output) l.allowance out out' r → CallRan n book j l out out' r
ran_told {n} {book} {j = j} {ts = ts} l r g h x z = record {
  tokens = ts;
  printed = z.printed;
  ran =
      subst (Answers.Ran (pair_in n book (call_of j)) l (after_run (pair_in n book (call_of j)) ts int (ending_meant r z.printed)))
      (printed_meant r.end r.units z.printed) (run_ended g h x z.ends);
  output = z.output;
}

pub called_so : {w work out work' out' : List ℕ} {P : Held} {j : Job} {allowance : ℕ} {r : Ending ℕ} (w₂ : List ℕ) → Callable w work P j allowance
    → w₂ ≡ laid P j w → Executed w₂ work out work' out' P allowance r → Called w work out w₂ work' out' P j allowance r
called_so {w} {work} {out} {work'} {out'} {P} {j} {allowance} {r} w₂ x e y = record {
  told = λ n book l p g o a.
      let h = p.calls j x.picks x.rate in
      let z = subst (λ (w : List ℕ). Executed w work out work' out' P allowance r) e y in
      let b = z.told h.standing h.program int h.holds h.passes.proper.typed h.resolved in
      ran_told l r g (omega (arith, x.allowed)) h.passes (rw (o, a) b);
  numbers = e;
  cleared = y.cleared;
}
