-- The calls under a book that is admitted: the tokens in front of them and the functions are the same for every job, and the
-- last expression differs in two numbers.
use lib.Dec.{eqb}
use lib.ListN.{length, get_or, length-append}
use lib.Seq.{get_or-append-add}
use mathlib.Core.Bool.{Bool, true, false, cond}
use mathlib.Core.List.{List, [], ◌∷◌, ◌++◌}
use mathlib.Core.Logic.{inl}
use mathlib.Core.Option.{none, some}
use mathlib.Core.Path.{◌≡◌, refl, sym, ap, subst, ◌∙◌}
use native.Mathlib.Omega.{arith}
use Prim.Native.Nat.{ℕ, ◌+◌, ◌≤◌}
use Rattle.language.specs.Sizes.{SOURCE, TOKENS, LARGEST}
use Rattle.language.specs.Tokens.{Vocabulary, EDITION_1, EDITION_2, Token, past, spelling_at, value_at, edition}
use Rattle.language.specs.Trees.{Name, int, literal, whole, call, last, more, Def, Program}
use Rattle.language.specs.Grammar.{Reading}
use Rattle.language.specs.Types.{HasType}
use Rattle.language.specs.Answers.{Passes}
use Rattle.language.specs.Pairs.{joined, from_pair}
use Rattle.language.specs.Edition.{pair_in}
use Rattle.language.specs.Shift.{Job, PAY, call_of, LARGEST_CALL}
use Rattle.language.proofs.Pairs.Joined.{joined_length}
use Rattle.language.proofs.Text.Marks.{Laws}
use Rattle.language.proofs.Text.OneSplit.{one_list}
use Rattle.language.proofs.Answers.Editions.{none_some, one_edition, named_laws, pair_alike, passes_in}
use Rattle.language.proofs.Shift.CallText.{Callable, callable_1, callable_2, call_tokens}
use Rattle.language.proofs.Shift.BookText.{led, Fronted, zero_token, with_zero, with_call}
use Rattle.language.proofs.Shift.CallReads.{Calls, call_reads, is_literal}
use Rattle.language.proofs.Shift.CallTypes.{call_typed}
use Rattle.language.proofs.Shift.NeverRefused.{LARGEST_JOB, no_longer}
use Rattle.grumpy.specs.Calls.{Admissible}

-- every edition can call
named_able : (n : ℕ) {v : Vocabulary} → edition n ≡ some v → Callable v
unfolding edition
named_able n {v} e = by (eqb n 1) (eqb n 2) e
  where
    by : (a b : Bool) → cond a (some EDITION_1) (cond b (some EDITION_2) none) ≡ some v → Callable v
    by true b h = subst Callable (cc) callable_1
    by false true h = subst Callable (cc) callable_2
    by false false h = absurd (none_some h)

-- the tokens of a book with the call of a job, and the program that they are
abbrev pub tokens_of : List ℕ → List Token → Job → List Token
tokens_of book front j = front ++ call_tokens (led book) j

abbrev called_by : List Token → List Def → List Token → Name → Program
called_by front defs ts x = record {
  defs = defs;
  main = call (length front) x
      (more (literal (length front + 2) (whole (value_at ts (length front + 2))))
      (more (literal (length front + 2 + 1 + 1) (whole (value_at ts (length front + 2 + 1 + 1)))) last));
}

abbrev pub program_of : List Token → List Def → List Token → Program
program_of front defs ts = called_by front defs ts PAY

pub record Calling (n : ℕ) (book : List ℕ) : Type 0 where
  pub front : List Token
  pub defs : List Def
  pub calls : (j : Job) → j.picks ≤ LARGEST → j.rate ≤ LARGEST
      → Passes (pair_in n book (call_of j)) (tokens_of book front j) (program_of front defs (tokens_of book front j)) int

module _ (n : ℕ) (book : List ℕ) (x : Admissible n book) where
  abbrev voc : Vocabulary
  voc = x.passes.given.words

  named : edition n ≡ some voc
  named = x.passes.given.named

  laws : Laws voc
  laws = named_laws n named

  zero_split : (us : List Token) × Fronted book laws us × (x.tokens ≡ us ++ (zero_token book laws ∷ []))
  zero_split = with_zero book laws x.passes.given.given.splits

  abbrev front : List Token
  front = zero_split.0

  module _ (j : Job) (pw : j.picks ≤ LARGEST) (rr : j.rate ≤ LARGEST) where
    abbrev cs : List Token
    cs = call_tokens (led book) j

    is_call : Calls cs
    is_call = record { name = refl; opening = refl; first = refl; comma = refl; second = refl; closing = refl; long = refl }

    spelled_pay : spelling_at (front ++ cs) (length front) ≡ PAY
    unfolding spelling_at
    spelled_pay =
        let z : length front + 0 ≡ length front = omega arith in
        ap (λ (i : ℕ). (get_or (front ++ cs) i past).spelling) (sym z) ∙ ap (λ (u : Token). u.spelling) (get_or-append-add front cs 0 past)

    reading : Reading (front ++ cs) (program_of front x.program.defs (front ++ cs))
    reading =
        let r = subst (λ (l : List Token). Reading l x.program) zero_split.2 x.passes.proper.reads in
        subst (λ (z : Name). Reading (front ++ cs) (called_by front x.program.defs (front ++ cs) z)) spelled_pay
        (call_reads front cs is_call _ r (is_literal x.program.main x.is_book.rest))

    typed : HasType (program_of front x.program.defs (front ++ cs)) int
    typed = call_typed x.is_book.pay x.is_book.called x.is_book.typed _ _ _ _ _ x.passes.proper.typed (inl x.is_book.among)

    call_passes : length (joined book (call_of j)) ≤ SOURCE → length (front ++ cs) ≤ TOKENS
        → Passes (from_pair voc book (call_of j)) (front ++ cs) (program_of front x.program.defs (front ++ cs)) int
    call_passes short few = record {
      given = record {
        short = short;
        splits = record { whole = with_call book laws (named_able n named) zero_split.1 j pw rr; few = few };
      };
      proper = record { reads = reading; typed = typed };
    }

  most : (from_pair voc book LARGEST_CALL).gives x.most
  most = subst (λ (v : Vocabulary). (from_pair v book LARGEST_CALL).gives x.most) (one_edition n x.room.named named) x.room.given

  abbrev fullest : List Token
  fullest = front ++ cs LARGEST_JOB (omega arith) (omega arith)

  most_is : x.most ≡ fullest
  most_is =
      one_list laws most.splits.whole (with_call book laws (named_able n named) zero_split.1 LARGEST_JOB (omega arith) (omega arith))

  every_call : (j : Job) → j.picks ≤ LARGEST → j.rate ≤ LARGEST
      → Passes (pair_in n book (call_of j)) (tokens_of book front j) (program_of front x.program.defs (tokens_of book front j)) int
  every_call j pw rr =
      let short : length (joined book (call_of j)) ≤ SOURCE =
      omega (arith, joined_length book (call_of j), joined_length book LARGEST_CALL, no_longer j, most.short)
      in
      let few : length (front ++ cs j pw rr) ≤ TOKENS =
      omega (
        arith,
        most.splits.few,
        ap length most_is,
        length-append front (cs j pw rr),
        length-append front (cs LARGEST_JOB (omega arith) (omega arith)),
      )
      in
      passes_in n (pair_alike book (call_of j)) named (call_passes j pw rr short few)

  pub calling : Calling n book
  calling = record { front = front; defs = x.program.defs; calls = every_call }
