-- What is read from a table is read from it without variables: rows, names and what a callee wants lie before these.
use mathlib.Core.Bool.{Bool, true, false, cond, ◌&&◌}
use mathlib.Core.List.{List, [], ◌∷◌}
use mathlib.Core.Option.{Option}
use mathlib.Core.Path.{◌≡◌, refl, sym, ap, ap₂, ◌∙◌}
use Prim.Native.Nat.{ℕ, zero, suc, ◌+◌, ◌<◌}
use native.Mathlib.Omega.{arith}
use lib.Dec.{eqb, ltb}
use borrow.Author.Tests.{ltb-true}
use Rattle.language.specs.Sizes.{NODES}
use Rattle.language.specs.Tokens.{Token}
use Rattle.language.specs.Trees.{Ty}
use Rattle.language.specs.Types.{Sig}
use Rattle.language.specs.Meaning.{type_number}
use Rattle.layout.specs.Table.{OWN, TYPE, ARITY, token_value, row_word, function_row, without_variables}
use Rattle.layout.proofs.VariablesWords.{without_before, row_without, function_without, token_without}
use Rattle.layout.proofs.VariablesTrees.{function_alike}
use Rattle.layout.specs.Functions.{Headed, function_name, find_function}
use Rattle.rules.specs.Sight.{callee_by, callee_in, Means, Rowed, wanted_in, Readable, expected_in}
use Rattle.rules.specs.Asked.{Typing, suits, AsksCall}
use Rattle.rules.specs.declared.sight.Callee.{Callee}
use Rattle.rules.specs.declared.sight.Taker.{Taker}

module _ (w : List ℕ) where
  abbrev p : List ℕ
  p = without_variables w

  -- ---- functions

  module _ {k : ℕ} (h : Headed p k) where
    row_plain : row_word p (function_row p k) OWN ≡ row_word w (function_row w k) OWN
    row_plain = row_without w (function_row p k) 1 h.row (omega arith) ∙ ap (λ (i : ℕ). row_word w i OWN) (function_without w k h.few)

    -- a function's name has the same number
    pub name_plain : function_name p k ≡ function_name w k
    name_plain = token_without w (row_word p (function_row p k) OWN + 1) 3 h.name (omega arith)
        ∙ ap (λ (i : ℕ). token_value w (i + 1)) row_plain

    -- and its head lies in the same place
    pub headed_plain : Headed w k
    headed_plain =
        let e = function_without w k h.few in
        let d = row_plain in
        record { few = h.few; row = omega (arith, h.row); name = omega (arith, h.name) }

  find_plain : (x n : ℕ) → ((k : ℕ) → k < n → Headed p k) → find_function p x n ≡ find_function w x n
  unfolding find_function
  find_plain x zero h = refl
  find_plain x (suc n) h =
      let l = h n (omega arith) in
      rw (name_plain l, function_without w n l.few, find_plain x n (λ k m. h k (omega arith))) refl

  -- whom a call means
  pub callee_plain : (x n : ℕ) → ((k : ℕ) → k < n → Headed p k) → callee_in p x n ≡ callee_in w x n
  unfolding callee_in
  callee_plain x n h = ap (callee_by x) (find_plain x n h)

  -- ---- callees

  -- the rows of its parameters
  pub rowed_plain : (c : Callee) → Rowed p c → Rowed w c
  rowed_plain (Callee.Function r) h = let e = row_without w r 2 (omega arith) (omega arith) in omega arith
  rowed_plain Callee.Putchar h = tt
  rowed_plain Callee.Nobody h = tt

  wanted_function : (r k n : ℕ) → r + n < NODES → (b : Bool) → ltb k n ≡ b
      → cond b (row_word p (r + k + 1) TYPE) 0 ≡ cond b (row_word w (r + k + 1) TYPE) 0
  wanted_function r k n h true e = row_without w (r + k + 1) 2 (omega (arith, ltb-true k n e)) (omega arith)
  wanted_function r k n h false e = refl

  -- and their types
  pub wanted_plain : (c : Callee) (k : ℕ) → Rowed p c → wanted_in p c k ≡ wanted_in w c k
  wanted_plain (Callee.Function r) k h =
      let e = row_without w r 2 (omega arith) (omega arith) in
      rw e (wanted_function r k (row_word w r ARITY) (omega arith) (ltb k (row_word w r ARITY)) refl)
  wanted_plain Callee.Putchar k h = refl
  wanted_plain Callee.Nobody k h = refl

  -- ---- lists

  -- what is wanted of a list
  pub readable_plain : (c : Taker) → Readable p c → Readable w c
  readable_plain (Taker.Call c) h = rowed_plain c h
  readable_plain Taker.For h = tt

  -- of each expression
  pub expected_plain : (c : Taker) (k : ℕ) → Readable p c → expected_in p c k ≡ expected_in w c k
  expected_plain (Taker.Call c) k h = wanted_plain c k h
  expected_plain Taker.For k h = refl

  suits_plain : (c : Taker) (k : ℕ) (us : List Ty) → Readable p c → suits p c k us ≡ suits w c k us
  unfolding suits
  suits_plain c k [] h = refl
  suits_plain c k (u ∷ us) h = ap₂ (λ (n : ℕ) (b : Bool). eqb (type_number u) n && b) (expected_plain c k h) (suits_plain c (suc k) us h)

  means_plain : (f : ℕ) (ts : List Token) (c : Callee) (o : Option Sig) → Means f ts p c o → Means f ts w c o
  means_plain f ts (Callee.Function r) o (d, a, e) = (d, function_alike w p (λ j l. sym (without_before w j l)) a, e)
  means_plain f ts Callee.Putchar o h = h
  means_plain f ts Callee.Nobody o h = h

  -- and what it answers
  pub asks_plain : (c : Callee) {n : ℕ} {b : Bool} (i : ℕ) {r : Typing} → Rowed p c → AsksCall w c n b i r → AsksCall p c n b i r
  asks_plain c i h q ts f Δ Γ x es us m e l s = q ts f Δ Γ x es us (means_plain f ts c _ m) e l (s ∙ suits_plain (Taker.Call c) 0 us h)
