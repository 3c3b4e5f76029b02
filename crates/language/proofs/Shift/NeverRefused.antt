-- No line is refused once a book was admitted (R14.5, R14.7): with any call under it, it passes, and the call is an int.
use lib.Dec.{eqb}
use lib.ListN.{length, get_or, length-append}
use lib.Seq.{get_or-append-add}
use mathlib.Core.Bool.{Bool, true, false, cond}
use mathlib.Core.List.{List, [], ◌∷◌, ◌++◌}
use mathlib.Core.Logic.{◌⊎◌, inl, inr}
use mathlib.Core.Option.{none, some}
use mathlib.Core.Path.{◌≡◌, refl, sym, ap, subst, ◌∙◌}
use native.Mathlib.Decide.{dec_le}
use native.Mathlib.Omega.{arith}
use Prim.Native.Nat.{ℕ, ◌+◌, ◌≤◌}
use Rattle.language.specs.Sizes.{SOURCE, TOKENS, LARGEST}
use Rattle.language.specs.Tokens.{Vocabulary, EDITION_1, EDITION_2, Token, past, spelling_at, value_at, spell}
use Rattle.language.specs.Trees.{Name, Ty, int, literal, whole, call, last, more, Program}
use Rattle.language.specs.Grammar.{Reading}
use Rattle.language.specs.Types.{HasType}
use Rattle.language.specs.Text.{many_tokens, Reaches}
use Rattle.language.specs.Numbers.{Refusal, long_source, text}
use Rattle.language.specs.Answers.{Passes, Refused, by_origin, by_tokens}
use Rattle.language.specs.Pairs.{joined, Place, too_long, flawed, from_pair}
use Rattle.language.specs.Edition.{edition, known, pair_in}
use Rattle.language.specs.Shift.{Job, decimal, PAY, call_of, Book, ZERO, LARGEST_CALL}
use Rattle.language.proofs.Pairs.Joined.{joined_length}
use Rattle.language.proofs.Text.Marks.{Laws}
use Rattle.language.proofs.Text.OneSplit.{one_list, one_flaw}
use Rattle.language.proofs.Text.OneSplit as OneSplit
use Rattle.language.proofs.Answers.Origins.{not_both}
use Rattle.language.proofs.Answers.Pairs.{pair_lawful}
use Rattle.language.proofs.Answers.Follow.{refused_follow}
use Rattle.language.proofs.Answers.Editions.{none_some, one_edition, named_laws, pair_alike, passes_in, named_back}
use Rattle.language.proofs.Shift.Decimals.{few_digits, largest_digits}
use Rattle.language.proofs.Shift.CallText.{Callable, callable_1, callable_2, call_tokens}
use Rattle.language.proofs.Shift.BookText.{led, Fronted, zero_token, with_zero, with_call, many_flaw}
use Rattle.language.proofs.Shift.CallReads.{Calls, call_reads, is_literal}
use Rattle.language.proofs.Shift.CallTypes.{call_typed}

-- ---- the length of a call

call_long : (j : Job) → length (call_of j) ≡ 6 + length (decimal j.picks) + length (decimal j.rate)
unfolding call_of
call_long j =
    omega (arith, length-append (decimal j.picks) (spell "," ++ (decimal j.rate ++ spell ")")), length-append (decimal j.rate) (spell ")"))

abbrev pub LARGEST_JOB : Job
LARGEST_JOB = record { picks = LARGEST; rate = LARGEST }

largest_long : length LARGEST_CALL ≡ 26
largest_long = omega (arith, call_long LARGEST_JOB, largest_digits)

pub no_longer : (j : Job) → length (call_of j) ≤ length LARGEST_CALL
no_longer j = omega (arith, call_long j, few_digits 9 j.picks, few_digits 9 j.rate, largest_long)

-- ---- a book that was admitted

module _ {voc : Vocabulary} (laws : Laws voc) (able : Callable voc) (book : List ℕ) {ts : List Token} {p : Program} {t : Ty}
    (passes : Passes (from_pair voc book ZERO) ts p t) (fit : Book p) where
  zero_split : (us : List Token) × Fronted book laws us × (ts ≡ us ++ (zero_token book laws ∷ []))
  zero_split = with_zero book laws passes.given.splits

  abbrev front : List Token
  front = zero_split.0

  module _ (j : Job) (pw : j.picks ≤ LARGEST) (rr : j.rate ≤ LARGEST) where
    abbrev cs : List Token
    cs = call_tokens (led book) j

    calls : Calls cs
    calls = record { name = refl; opening = refl; first = refl; comma = refl; second = refl; closing = refl; long = refl }

    spelled_pay : spelling_at (front ++ cs) (length front) ≡ PAY
    unfolding spelling_at
    spelled_pay =
        let z : length front + 0 ≡ length front = omega arith in
        ap (λ (i : ℕ). (get_or (front ++ cs) i past).spelling) (sym z) ∙ ap (λ (u : Token). u.spelling) (get_or-append-add front cs 0 past)

    abbrev called_by : Name → Program
    called_by x = record {
      defs = p.defs;
      main = call (length front) x
          (more (literal (length front + 2) (whole (value_at (front ++ cs) (length front + 2))))
          (more (literal (length front + 2 + 1 + 1) (whole (value_at (front ++ cs) (length front + 2 + 1 + 1)))) last));
    }

    reading : Reading (front ++ cs) (called_by PAY)
    reading =
        let r = subst (λ (l : List Token). Reading l p) zero_split.2 passes.proper.reads in
        subst (λ (x : Name). Reading (front ++ cs) (called_by x)) spelled_pay (call_reads front cs calls _ r (is_literal p.main fit.rest))

    typed : HasType (called_by PAY) int
    typed = call_typed fit.pay fit.called fit.typed _ _ _ _ _ passes.proper.typed (inl fit.among)

    -- with so many bytes and tokens it passes
    call_passes : length (joined book (call_of j)) ≤ SOURCE → length (front ++ cs) ≤ TOKENS
        → Passes (from_pair voc book (call_of j)) (front ++ cs) (called_by PAY) int
    call_passes short few = record {
      given = record {
        short = short;
        splits = record { whole = with_call book laws able zero_split.1 j pw rr; few = few };
      };
      proper = record { reads = reading; typed = typed };
    }

  -- ---- the largest call

  abbrev most : List Token
  most = front ++ cs LARGEST_JOB (omega arith) (omega arith)

  most_reached : Reaches voc (joined book LARGEST_CALL) (length (joined book LARGEST_CALL)) most
  most_reached = with_call book laws able zero_split.1 LARGEST_JOB (omega arith) (omega arith)

  -- where it fits, so does every other
  every_call : {us : List Token} → (from_pair voc book LARGEST_CALL).gives us → (j : Job) → j.picks ≤ LARGEST → j.rate ≤ LARGEST
      → (vs : List Token) × (q : Program) × Passes (from_pair voc book (call_of j)) vs q int
  every_call {us} g j pw rr =
      let e : us ≡ most = one_list laws g.splits.whole most_reached in
      let short : length (joined book (call_of j)) ≤ SOURCE =
      omega (arith, joined_length book (call_of j), joined_length book LARGEST_CALL, no_longer j, g.short)
      in
      let few : length (front ++ cs j pw rr) ≤ TOKENS =
      omega (arith, g.splits.few, ap length e, length-append front (cs j pw rr), length-append front (cs LARGEST_JOB (omega arith) (omega arith)))
      in
      (front ++ cs j pw rr, called_by j pw rr PAY, call_passes j pw rr short few)

  -- what can be wrong with it is that it does not fit: 10 or 14
  only_no_room : {r : Refusal} {x : Place} → Refused (from_pair voc book LARGEST_CALL) r x
      → (from_pair voc book LARGEST_CALL).denies r x × ((r ≡ long_source) ⊎ (r ≡ text many_tokens))
  only_no_room (by_origin (too_long h)) = (too_long h, inl refl)
  only_no_room (by_origin (flawed {f = f} h a)) = (flawed h a, inr (ap text (by_few (dec_le (length most) TOKENS))))
    where
      by_few : Dec (length most ≤ TOKENS) → f ≡ many_tokens
      by_few (yes few) = absurd (OneSplit.not_both laws record { whole = most_reached; few = few } a)
      by_few (no many) = (one_flaw laws a (many_flaw most_reached (omega (arith, many))).1).0
  only_no_room (by_tokens g d) =
      let z = every_call g LARGEST_JOB (omega arith) (omega arith) in
      absurd (not_both (pair_lawful laws book LARGEST_CALL) (by_tokens g d) z.2)

-- ---- in the caller's edition

named_able : (n : ℕ) {v : Vocabulary} → edition n ≡ some v → Callable v
unfolding edition
named_able n {v} e = by (eqb n 1) (eqb n 2) e
  where
    by : (a b : Bool) → cond a (some EDITION_1) (cond b (some EDITION_2) none) ≡ some v → Callable v
    by true b h = subst Callable (cc) callable_1
    by false true h = subst Callable (cc) callable_2
    by false false h = absurd (none_some h)

-- a book that passed in it, by its vocabulary
module _ (n : ℕ) (book : List ℕ) {ts : List Token} {p : Program} {t : Ty} (passes : Passes (pair_in n book ZERO) ts p t) (fit : Book p) where
  abbrev voc : Vocabulary
  voc = passes.given.words

  named : edition n ≡ some voc
  named = passes.given.named

  by_it : Passes (from_pair voc book ZERO) ts p t
  by_it = record { given = passes.given.given; proper = passes.proper }

  pub every_call_in : {us : List Token} → (pair_in n book LARGEST_CALL).gives us → (j : Job) → j.picks ≤ LARGEST → j.rate ≤ LARGEST
      → (vs : List Token) × (q : Program) × Passes (pair_in n book (call_of j)) vs q int
  every_call_in {us} g j a b =
      let e = one_edition n g.named named in
      let z = every_call (named_laws n named) (named_able n named) book by_it fit
      (subst (λ (v : Vocabulary). (from_pair v book LARGEST_CALL).gives us) e g.given) j a b
      in
      (z.0, z.1, passes_in n (pair_alike book (call_of j)) named z.2)

  pub only_no_room_in : {r : Refusal} {x : Place} → Refused (pair_in n book LARGEST_CALL) r x
      → (pair_in n book LARGEST_CALL).denies r x × ((r ≡ long_source) ⊎ (r ≡ text many_tokens))
  only_no_room_in {r} {x} y =
      let back = named_back n (pair_alike book LARGEST_CALL) (λ v laws. pair_lawful laws book LARGEST_CALL) named in
      let z = only_no_room (named_laws n named) (named_able n named) book by_it fit (refused_follow back y) in
      (known named z.0, z.1)
