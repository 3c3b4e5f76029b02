-- Examples in either edition, by computation: a table, and one statement over the whole of it. Here the paper's fifteen marked
-- P, in edition 1.
use mathlib.Core.Bool.{Bool, true, ◌&&◌}
use mathlib.Core.List.{List, [], ◌∷◌, ◌++◌}
use mathlib.Core.Option.{Option, none, some}
use mathlib.Core.Path.{◌≡◌, refl, sym, ap, subst, ◌∙◌}
use Prim.Native.Nat.{ℕ, ◌≤◌}
use Prim.Native.String.{String}
use native.Mathlib.Decide.{dec_le, dec_lt, ℕ_discrete}
use native.Mathlib.Omega.{arith}
use lib.Dec.{leb}
use lib.Ieee as Ieee
use lib.IntN.{ℤ, pos, negsuc}
use lib.ListN.{length, drop}
use borrow.Author.Tests.{leb-true}
use Rattle.language.specs.Sizes.{BOX, ALLOWANCE, TABLE, WORK}
use Rattle.language.specs.Tokens.{spell, same, spelled, entry, kind_at, value_at, spelling_at, place_at, Token}
use Rattle.language.specs.Decimals.{digits_from, behind_point, float_of}
use Rattle.language.specs.Trees.{Ty, refs, size, nearest, own}
use Rattle.language.specs.State.{count, held, store, keep, then, choose, when_some, alike, only}
use Rattle.language.specs.Meaning.{charge, begin, in_range, fit, is_zero, same_int, create, apply_unary, quotient, apply_binary, settles, emit}
use Rattle.language.specs.Meaning.{put, literal_value, enter, arguments, invoke, passes, towards, with_bounds, due, turns}
use Rattle.language.specs.Meaning.{step, eval, functions, run, value_number, type_number}
use Rattle.language.specs.Faults.{unsuited}
use Rattle.language.specs.Numbers.{short_memory, number}
use Rattle.language.specs.Answers.{Ending, ending, RunReport, Lent, Enough, refusal, after_run, Ran, run_refused, run_ended, Run}
use Rattle.language.proofs.Executable.Parses as Parses
use Rattle.language.proofs.Executable.Parser as Parser
use Rattle.language.proofs.Executable.Checks as Types
use Rattle.language.proofs.Executable.Operators.{arithmetic, unop, binop, if_yes, both}
use Rattle.language.proofs.Executable.Checker.{check, check_from, check_def, take_params, infer, literal_type, unbound, same_types, join}
use Rattle.language.proofs.Executable.Checker.{bounds, bounds_two, bounds_three}
use Rattle.language.specs.Edition.{edition, text_in}
use Rattle.language.proofs.Answers.Editions.{text_in_lawful}
use Rattle.language.proofs.Answers.Origins.{Fate, fails, Comes, fate, fate_comes}
use Rattle.language.proofs.Answers.Origins as Origins
use Rattle.language.proofs.Answers.Endings.{some_ending}
use Rattle.language.proofs.Answers.LentLonger.{ran_longer}
use Rattle.language.proofs.Answers.OneAnswer.{one_ran}
use Rattle.language.proofs.Meaning.NeverStuck.{and_left, and_right}

-- ---- the answer, worked out, with memory enough

record Answer : Type 0 where
  report : RunReport ℕ
  printed : List ℕ

module _ (n allowance output : ℕ) where
  abbrev lent : Lent
  lent = record { table = TABLE; work = WORK; output = output; allowance = allowance }

  module _ (s : List ℕ) where
    -- where there is no end anything is said
    unfoldable at_end : List Token → Ty → Option Ending → Answer
    at_end ts t none = record { report = refusal short_memory 0; printed = [] }
    at_end ts t (some e) = record { report = after_run (text_in n s) ts t e; printed = e.printed }

    unfoldable answered : Fate ℕ → Answer
    answered (fails r x) = record { report = refusal r x; printed = [] }
    answered (Origins.passes ts p t) = at_end ts t (ending allowance (run p allowance output))

    abbrev Right : Answer → Type 0
    Right a = Ran (text_in n s) lent a.report a.printed

    answered_right : allowance ≤ ALLOWANCE → (f : Fate ℕ) → Comes BOX (text_in n s) f → Right (answered f)
    unfolding answered at_end
    answered_right fair (fails r x) a = run_refused record { table = omega arith; work = omega arith } fair a
    answered_right fair (Origins.passes ts p t) a =
        let z = some_ending p t allowance output a.proper.typed in
        subst (λ (e : Option Ending). Right (at_end ts t e)) (sym z.1)
        (run_ended record { table = omega arith; work = omega arith } fair a z.1)

-- ---- the table

-- a report in numbers
pub record Figures : Type 0 where
  pub number : ℕ
  pub place : ℕ
  pub type : ℕ
  pub value : ℤ
  pub units : ℕ
  pub printed : ℕ

abbrev pub figures : RunReport ℕ → Figures
figures r = record {
  number = number r.told;
  place = r.place;
  type = r.type;
  value = value_number r.value;
  units = r.units;
  printed = r.printed;
}

pub record Example : Type 0 where
  pub edition : ℕ
  pub source : String
  pub allowance : ℕ
  pub report : Figures
  pub printed : List ℕ

abbrev pub example_in : ℕ → String → ℕ → ℕ → ℕ → ℕ → ℤ → ℕ → List ℕ → Example
example_in edition s allowance n i t v u bs = record {
  edition = edition;
  source = s;
  allowance = allowance;
  report = record { number = n; place = i; type = t; value = v; units = u; printed = length bs };
  printed = bs;
}

abbrev pub example : String → ℕ → ℕ → ℕ → ℕ → ℤ → ℕ → List ℕ → Example
example = example_in 1

-- source, allowance; number, place, type, value, units; bytes printed
abbrev pub examples : List Example
examples =
    example "1+2" 100 0 0 1 (pos 3) 3 []
    ∷ example "-2147483647-1" 100 0 0 1 (negsuc 2147483647) 4 []
    ∷ example "65535+1" 100 0 0 1 (pos 65536) 3 []
    ∷ example "2147483647+1" 100 52 10 1 (pos 0) 3 []
    ∷ example "2147483648" 100 13 0 0 (pos 0) 0 []
    ∷ example "-7/2" 100 0 0 1 (negsuc 2) 4 []
    ∷ example "1<2<3" 100 20 3 0 (pos 0) 0 []
    ∷ example "" 100 20 0 0 (pos 0) 0 []
    ∷ example "let x=1 in x;2" 100 33 12 0 (pos 0) 0 []
    ∷ example "/*/*/" 100 12 0 0 (pos 0) 0 []
    ∷ example "/* /* */ */1" 100 0 0 1 (pos 1) 1 []
    ∷ example "putchar(65)" 100 0 0 1 (pos 65) 2 (65 ∷ [])
    ∷ example "while true{tt}" 10 50 6 3 (pos 0) 10 []
    ∷ example "def h():int ref{let x=ref 1 in x}!h()+1" 100 54 33 1 (pos 0) 8 []
    ∷ example "{ref 1}" 100 0 0 9 (pos 1) 3 []
    ∷ []

-- ---- the statement

-- an output of n bytes has room for those that are printed, and where it is told to be full for no more
pub record Roomy (e : Example) (n : ℕ) : Type 0 where
  pub long : length e.printed ≤ n
  pub full : e.report.number ≡ 57 → n ≡ length e.printed

-- Whatever meets the contract of run on this sheet, lent any memories and any output that are long enough, tells these figures and
-- leaves these bytes in the output. That there is such an answer is `OneAnswer.some_run`.
pub record Answered (e : Example) : Type 0 where
  pub right : {table work output : List ℕ} {r : RunReport ℕ} {t' w' o' : List ℕ} → TABLE ≤ length table → WORK ≤ length work → Roomy e (length output)
      → Run (text_in e.edition (spell e.source)) table work output e.allowance r t' w' o'
      → (figures r ≡ e.report) × (o' ≡ e.printed ++ drop (length e.printed) output)

abbrev pub All : List Example → Type 0
All [] = Unit {0}
All (e ∷ es) = Answered e × All es

-- what is worked out, and what the table has: report and bytes
pub record Said : Type 0 where
  pub report : Figures
  pub printed : List ℕ

unfoldable worked : Example → Answer
worked e =
    answered e.edition e.allowance (length e.printed) (spell e.source) (fate (text_in_lawful e.edition (spell e.source)))

unfoldable pub worked_out : List Example → List Said
unfolding worked answered at_end ending fate text_in_lawful edition dec_le dec_lt ℕ_discrete Parser.parse Parser.step
    Parses.then Parses.test Parses.look Parses.need kind_at value_at spelling_at place_at entry same spelled check
    check_from check_def take_params infer literal_type unbound same_types join bounds bounds_two bounds_three unop
    binop if_yes both nearest size refs Types.after Types.told Types.need type_number unsuited run eval begin charge
    functions step then choose settles alike quotient arithmetic apply_binary apply_unary only when_some literal_value
    in_range fit create held store keep count put emit enter arguments invoke passes towards with_bounds due turns
    is_zero same_int own value_number float_of digits_from behind_point Ieee.add Ieee.sub Ieee.mul Ieee.div Ieee.lt
    Ieee.of_int Ieee.to_bits
worked_out [] = []
worked_out (e ∷ es) = record { report = figures (worked e).report; printed = (worked e).printed } ∷ worked_out es

abbrev pub written_down : List Example → List Said
written_down [] = []
written_down (e ∷ es) = record { report = e.report; printed = e.printed } ∷ written_down es

-- no allowance is too large
abbrev pub fair : List Example → Bool
fair [] = true
fair (e ∷ es) = leb e.allowance ALLOWANCE && fair es

first : {x y : Said} {xs ys : List Said} → (x ∷ xs) ≡ (y ∷ ys) → x ≡ y
first e = cc

later : {x y : Said} {xs ys : List Said} → (x ∷ xs) ≡ (y ∷ ys) → xs ≡ ys
later e = cc

worked_right : (e : Example) → e.allowance ≤ ALLOWANCE
    → Right e.edition e.allowance (length e.printed) (spell e.source) (worked e)
unfolding worked
worked_right e low =
    let law = text_in_lawful e.edition (spell e.source) in
    answered_right e.edition e.allowance (length e.printed) (spell e.source) low (fate law) (fate_comes law)

-- what is worked out with just the memories that are asked for is what run answers with any that are long enough
run_is : (e : Example) → e.allowance ≤ ALLOWANCE → figures (worked e).report ≡ e.report → (worked e).printed ≡ e.printed → Answered e
run_is e low same_figures same_bytes = record {
  right = λ {table} {work} {output} long wide roomy a.
      let full : number (worked e).report.told ≡ 57 → length output ≡ length e.printed =
      λ q. roomy.full (sym (ap (λ (x : Figures). x.number) same_figures) ∙ q) in
      let enough : Enough (lent e.edition e.allowance (length e.printed)) = record { table = omega arith; work = omega arith } in
      let x = ran_longer enough long wide roomy.long full (worked_right e low) in
      let z = one_ran (text_in_lawful e.edition (spell e.source)) _ a.answer x in
      (ap figures z.0 ∙ same_figures, a.output_left ∙ ap (λ (bs : List ℕ). bs ++ drop (length bs) output) (z.1 ∙ same_bytes));
}

-- where the two are the same, the table is right
pub by_computation : (es : List Example) → worked_out es ≡ written_down es → fair es ≡ true → All es
unfolding worked_out
by_computation [] h f = tt
by_computation (e ∷ es) h f =
    let low = leb-true e.allowance ALLOWANCE (and_left (leb e.allowance ALLOWANCE) (fair es) f) in (
      run_is e low (ap (λ (x : Said). x.report) (first h)) (ap (λ (x : Said). x.printed) (first h)),
      by_computation es (later h) (and_right (leb e.allowance ALLOWANCE) (fair es) f),
    )

-- all fifteen
pub all_answered : All examples
unfolding worked_out
all_answered = by_computation examples refl refl
