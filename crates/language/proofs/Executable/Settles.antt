-- What the parser answers once the fuel is enough: the bridge from the grammar to code, in which no fuel is named. What is
-- settled is settled once, is a reading where something was got, and rules out any reading where it failed.
use mathlib.Core.Path.{◌≡◌, subst}
use mathlib.Core.Bool.{false}
use mathlib.Core.List.{List}
use Prim.Native.Nat.{ℕ, ◌+◌, ◌*◌, ◌≤◌, ◌<◌}
use native.Mathlib.Omega.{arith}
use lib.ListN.{length}
use borrow.Author.Tests.{ne_eqb}
use Rattle.language.specs.Tokens.{Token, At, kind_at}
use Rattle.language.specs.Trees.{Program}
use Rattle.language.specs.Grammar.{Of, Sym, Reads, Reading}
use Rattle.language.proofs.Executable.Parses.{Result, failed, got, All, all_got}
use Rattle.language.proofs.Executable.Parser.{Goal, Answer, read, entire, is, step, parse}
use Rattle.language.proofs.Grammar.FirstTokens.{pull, ends}
use Rattle.language.proofs.Executable.ParserSound.{Right, sound}
use Rattle.language.proofs.Executable.ParserClaims.{rank, run}
use Rattle.language.proofs.Executable.ParserComplete.{found}
use Rattle.language.proofs.Grammar.OneReading.{finds}

-- the answer to g from token i on is r
pub record Settles (ts : List Token) (g : Goal) (i : ℕ) (r : Result (Answer g)) : Type 0 where
  pub enough : ℕ
  pub holds : (f : ℕ) → enough ≤ f → parse ts f g i ≡ r

-- token i is not of kind k: so says the parser's test
pub other : (ts : List Token) (i k : ℕ) → (At ts i k → ⊥) → is ts i k ≡ false
other ts i k h = ne_eqb (kind_at ts i) k h

module _ {ts : List Token} where
  -- ---- what is settled

  -- there is one answer
  pub settles_once : {g : Goal} {i : ℕ} {r s : Result (Answer g)} → Settles ts g i r → Settles ts g i s → r ≡ s
  settles_once x y =
      let a = x.holds (x.enough + y.enough) (omega arith) in
      let b = y.holds (x.enough + y.enough) (omega arith) in
      cc

  -- what was got is right
  pub settled_right : {g : Goal} {i j : ℕ} {a : Answer g} → Settles ts g i (got a j) → Right ts g i a j
  settled_right {g} {i} x = all_got (subst (All (Right ts g i)) (x.holds x.enough (omega arith)) (sound ts x.enough g i))

  -- a reading, behind which no token goes on with it, is settled
  pub reads_settles : {s : Sym} {i j : ℕ} {x : Of s} → Reads ts s i j x → pull (kind_at ts j) < ends s → Settles ts (read s) i (got x j)
  reads_settles {s} {i} {j} p stop = record { enough = 16 * j + rank s; holds = λ f h. found ts p stop f (omega arith) }

  -- and so is the reading of the whole list
  pub reading_settles : {p : Program} → Reading ts p → Settles ts entire 0 (got p (length ts))
  reading_settles {p} r = record { enough = 16 * length ts + 16; holds = λ f h. finds ts p r f h }

  -- the whole list is read as what was got of it
  pub settled_reading : {p : Program} {j : ℕ} → Settles ts entire 0 (got p j) → Reading ts p
  settled_reading x = settled_right x

  -- where it failed there is no reading
  pub settled_none : {k : ℕ} → Settles ts entire 0 (failed k) → (p : Program) → Reading ts p → ⊥
  settled_none x p r = let e = settles_once x (reading_settles r) in let z : ◌≡◌ {A = ℕ} 0 1 = cc in omega arith

  -- ---- one step: from the answers of the parts to the answer of the whole

  module _ {g : Goal} {i : ℕ} {r : Result (Answer g)} where
    -- a step that needs no part
    pub settle₀ : ((f : ℕ) → step ts (parse ts f) g i ≡ r) → Settles ts g i r
    settle₀ k = record { enough = 1; holds = λ f h. run ts g i f r h λ n _. k n }

    -- one part
    pub settle₁ : {g₁ : Goal} {i₁ : ℕ} {r₁ : Result (Answer g₁)} → Settles ts g₁ i₁ r₁
        → ((f : ℕ) → parse ts f g₁ i₁ ≡ r₁ → step ts (parse ts f) g i ≡ r) → Settles ts g i r
    settle₁ x k = record {
      enough = x.enough + 1;
      holds = λ f h. run ts g i f r (omega arith) λ n e. k n (x.holds n (omega arith));
    }

    -- two
    pub settle₂ : {g₁ g₂ : Goal} {i₁ i₂ : ℕ} {r₁ : Result (Answer g₁)} {r₂ : Result (Answer g₂)}
        → Settles ts g₁ i₁ r₁ → Settles ts g₂ i₂ r₂
        → ((f : ℕ) → parse ts f g₁ i₁ ≡ r₁ → parse ts f g₂ i₂ ≡ r₂ → step ts (parse ts f) g i ≡ r) → Settles ts g i r
    settle₂ x y k = record {
      enough = x.enough + y.enough + 1;
      holds = λ f h. run ts g i f r (omega arith) λ n e. k n (x.holds n (omega arith)) (y.holds n (omega arith));
    }

    -- three
    pub settle₃ : {g₁ g₂ g₃ : Goal} {i₁ i₂ i₃ : ℕ} {r₁ : Result (Answer g₁)} {r₂ : Result (Answer g₂)} {r₃ : Result (Answer g₃)}
        → Settles ts g₁ i₁ r₁ → Settles ts g₂ i₂ r₂ → Settles ts g₃ i₃ r₃
        → ((f : ℕ) → parse ts f g₁ i₁ ≡ r₁ → parse ts f g₂ i₂ ≡ r₂ → parse ts f g₃ i₃ ≡ r₃ → step ts (parse ts f) g i ≡ r)
        → Settles ts g i r
    settle₃ x y z k = record {
      enough = x.enough + y.enough + z.enough + 1;
      holds = λ f h. run ts g i f r (omega arith) λ n e.
          k n (x.holds n (omega arith)) (y.holds n (omega arith)) (z.holds n (omega arith));
    }
