-- A book that was read with the call of two noughts under it: whatever numbers are laid in its table then, it holds the book
-- with their call.
use mathlib.Core.List.{List, [], ◌∷◌, ◌++◌}
use mathlib.Core.Path.{◌≡◌, refl, sym, ap, subst, ◌∙◌}
use Prim.Native.Nat.{ℕ, zero, suc, ◌+◌, ◌-◌, ◌*◌, ◌≤◌, ◌<◌}
use native.Mathlib.Omega.{arith}
use lib.ListN.{length, get_or, set, length-append}
use lib.Seq.{get_or-append-add}
use Rattle.language.specs.Sizes.{NODES, LARGEST}
use Rattle.language.specs.Tokens.{Token, past, At, kind_at, value_at}
use Rattle.language.specs.Trees.{Program}
use Rattle.language.specs.Shift.{Job}
use Rattle.language.proofs.Shift.BookText.{led}
use Rattle.language.proofs.Shift.CallText.{call_tokens}
use Rattle.layout.specs.Rows.{below}
use Rattle.layout.specs.Decode.{Holds}
use Rattle.layout.specs.Resolved.{Resolved}
use Rattle.layout.specs.declared.Held.{Held}
use Rattle.layout.proofs.Owned.{reading_owned}
use Rattle.grumpy.specs.Calls.{laid, HoldsCall, Prepared}
use Rattle.grumpy.proofs.Revalued.{anew, worth_anew}
use Rattle.grumpy.proofs.Laying.{put, put_behind, Laid, laid_then, number_laid}
use Rattle.grumpy.proofs.Relaid.{holds_anew, resolved_anew}
use Rattle.grumpy.proofs.BookCalls.{tokens_of, program_of, Calling}

abbrev pub NOUGHTS : Job
NOUGHTS = record { picks = 0; rate = 0 }

-- ---- what the tokens of a call are worth

values_behind : (us ts vs : List Token) → ((i : ℕ) → value_at ts i ≡ value_at vs i) → (i : ℕ) → value_at (us ++ ts) i ≡ value_at (us ++ vs) i
unfolding value_at
values_behind [] ts vs h i = h i
values_behind (u ∷ us) ts vs h zero = refl
values_behind (u ∷ us) ts vs h (suc i) = values_behind us ts vs h i

values_laid : (a : List ℕ) (j : Job) (i : ℕ)
    → value_at (put (put (call_tokens a NOUGHTS) 2 j.picks) 4 j.rate) i ≡ value_at (call_tokens a j) i
unfolding value_at put
values_laid a j zero = refl
values_laid a j (suc zero) = refl
values_laid a j (suc (suc zero)) = refl
values_laid a j (suc (suc (suc zero))) = refl
values_laid a j (suc (suc (suc (suc zero)))) = refl
values_laid a j (suc (suc (suc (suc (suc zero))))) = refl
values_laid a j (suc (suc (suc (suc (suc (suc i)))))) = refl

-- ---- one job

module _ {n : ℕ} {book : List ℕ} (x : Calling n book) where
  abbrev front : List Token
  front = x.front

  abbrev m : ℕ
  m = length front

  abbrev ts₀ : List Token
  ts₀ = tokens_of book front NOUGHTS

  abbrev p₀ : Program
  p₀ = program_of front x.defs ts₀

  kind_behind : (i : ℕ) → At ts₀ (m + i) (get_or (call_tokens (led book) NOUGHTS) i past).kind
  unfolding kind_at
  kind_behind i = ap (λ (t : Token). t.kind) (get_or-append-add front (call_tokens (led book) NOUGHTS) i past)

  module _ (w : List ℕ) (P : Held) (h : Holds ts₀ w P p₀) (r : Resolved w p₀) where
    count_is : P.count ≡ m + 6
    count_is = sym h.stand.long ∙ length-append front (call_tokens (led book) NOUGHTS)

    module _ (j : Job) (pw : j.picks ≤ LARGEST) (rr : j.rate ≤ LARGEST) where
      abbrev w₁ : List ℕ
      w₁ = set w (4 * (m + 2) + 3) j.picks

      abbrev w₂ : List ℕ
      w₂ = set w₁ (4 * (m + 4) + 3) j.rate

      abbrev ts₁ : List Token
      ts₁ = put ts₀ (m + 2) j.picks

      abbrev ts₂ : List Token
      ts₂ = put ts₁ (m + 4) j.rate

      first : Laid P.count ts₀ ts₁ w w₁
      first = number_laid w P.count ts₀ (m + 2) j.picks h.stand h.long (omega (arith, count_is)) (kind_behind 2) pw

      second : Laid P.count ts₁ ts₂ w₁ w₂
      second =
          number_laid w₁ P.count ts₁ (m + 4) j.rate first.stand (omega (arith, h.long, first.long)) (omega (arith, count_is))
          (first.kinds (m + 4) ∙ kind_behind 4) rr

      both : Laid P.count ts₀ ts₂ w w₂
      both = laid_then first second

      abbrev vs : List Token
      vs = tokens_of book front j

      worth : (i : ℕ) → value_at ts₂ i ≡ value_at vs i
      worth i =
          let cs = call_tokens (led book) NOUGHTS in
          let e : ts₂ ≡ front ++ put (put cs 2 j.picks) 4 j.rate =
          ap (λ (l : List Token). put l (m + 4) j.rate) (put_behind front cs 2 j.picks) ∙ put_behind front (put cs 2 j.picks) 4 j.rate
          in
          ap (λ (l : List Token). value_at l i) e ∙ values_behind front _ _ (values_laid (led book) j) i

      room : below (anew (value_at vs) p₀.main) < NODES
      unfolding below anew
      room = h.room

      laid_is : w₂ ≡ laid P j w
      laid_is =
          let a : m + 2 ≡ P.count - 4 = omega (arith, count_is) in
          let b : m + 4 ≡ P.count - 2 = omega (arith, count_is) in
          ap (λ (k : ℕ). set (set w (4 * k + 3) j.picks) (4 * (m + 4) + 3) j.rate) a
          ∙ ap (λ (k : ℕ). set (set w (4 * (P.count - 4) + 3) j.picks) (4 * k + 3) j.rate) b

      pub call_held : HoldsCall n book P j (laid P j w)
      unfolding anew worth_anew
      call_held =
          let known = x.calls j pw rr in
          let known₀ = x.calls NOUGHTS (omega arith) (omega arith) in
          let own = reading_owned vs (program_of front x.defs vs) known.proper.reads in
          let own₀ = reading_owned ts₀ p₀ known₀.proper.reads in
          subst (HoldsCall n book P j) laid_is
          record {
            tokens = vs;
            program = program_of front x.defs vs;
            passes = known;
            standing = ts₂;
            holds = holds_anew both vs worth refl own.defs room h;
            resolved = resolved_anew both vs worth h own₀ own.defs r;
          }

    pub prepared : Prepared n book w P
    prepared = record {
      long = h.long;
      six = omega (arith, count_is);
      few = h.stand.few;
      calls = call_held;
    }
