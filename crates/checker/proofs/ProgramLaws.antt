-- The loop over a program's functions, its last expression, and what the answer then says of the program.
use mathlib.Core.List.{List, [], ◌∷◌}
use mathlib.Core.Path.{◌≡◌, refl, sym, subst, ◌∙◌}
use Rattle.std.specs.Prelude.{Ok, Err}
use Prim.Native.Nat.{ℕ, ◌+◌, ◌≤◌, ◌<◌}
use native.Mathlib.Numerals.{add-one}
use native.Mathlib.Omega.{arith}
use lib.ListN.{length}
use Rattle.language.specs.Sizes.{NODES}
use Rattle.language.specs.Tokens.{Token}
use Rattle.language.specs.Trees.{Ty, Exp, Def, Program, Scope, empty}
use Rattle.language.specs.Types.{Sig, with_def, given, HasType}
use Rattle.language.specs.Faults as Faults
use Rattle.language.specs.Faults.{HasFault}
use Rattle.language.proofs.Executable.Checks.{Res, after_ok, after_bad, Says, says, faults}
use Rattle.language.proofs.Executable.Checker.{infer, check_def, check_from, check}
use Rattle.language.proofs.Executable.CheckerSound.{check_sound}
use Rattle.layout.specs.Table.{without_variables}
use Rattle.layout.specs.Rows.{below}
use Rattle.layout.specs.Decode.{tree_at, Right, FunctionsAt, functions_more, Holds}
use Rattle.layout.specs.declared.Held.{Held}
use Rattle.layout.proofs.VariablesTrees.{holds_without}
use Rattle.checker.specs.Checked.{Checkable, Answers}
use Rattle.rules.specs.Sight.{variables_none, Functions, functions_given, InSight}
use Rattle.rules.specs.Sight as Sight
use Rattle.rules.specs.Asked.{Tells, tells_type, tells_fault}
use Rattle.phrase_types.specs.Inferred.{Kept, Ready, Inferred}
use Rattle.checker.specs.Ruled.{Verdict, Rules, Next, Listed, Ruled, Concluded}
use Rattle.rules.specs.Asked.{Fault}
use Rattle.rules.specs.Asked.{Typing}
use Rattle.rules.proofs.TellLaws.{fault_is, tells_from}
use Rattle.phrase_types.proofs.KeptLaws.{kept_self, kept_then}

-- ---- halfway

-- k of the program's functions are checked and in sight, and the rest are still to be
pub record Progress (ts : List Token) (f : ℕ) (p : List ℕ) (defs k : ℕ) (program : Program) : Type 0 where
  pub rest : List Def
  pub scope : Scope Sig
  pub before : Functions f ts p k scope
  pub later : FunctionsAt f ts p k rest
  pub long : k + length rest ≡ defs
  pub same : check program ≡ check_from rest scope program.main

-- what the loop keeps: of every program that the table held at first
pub record Underway (w₀ w : List ℕ) (P : Held) (k : ℕ) : Type 0 where
  pub kept : Kept w₀ w 0
  pub few : k ≤ P.functions
  pub told : (ts : List Token) (program : Program) (h : Holds ts (without_variables w₀) P program)
      → Progress ts h.depth (without_variables w₀) P.functions k program

-- none is checked yet
pub underway_starts : {w : List ℕ} {P : Held} {k : ℕ} → k ≡ 0 → Underway w w P k
unfolding check
underway_starts {w} {P} e = subst (λ (k : ℕ). Underway w w P k) (sym e) record {
  kept = kept_self w 0;
  few = omega arith;
  told = λ ts program h.
      let d = h.defined in
      record {
        rest = program.defs;
        scope = given;
        before = functions_given;
        later = h.functions;
        long = omega arith;
        same = refl;
      };
}

module _ {w₀ w : List ℕ} {P : Held} {k : ℕ} (u : Underway w₀ w P k) where
  module _ (l : k < P.functions) where
    -- the next function
    next_is : {A : Type 0} (ts : List Token) (program : Program) (h : Holds ts (without_variables w₀) P program)
        → ((d : Def) (ds : List Def) (Δ : Scope Sig) → Next ts h.depth (without_variables w₀) k Δ d
        → FunctionsAt h.depth ts (without_variables w₀) (k + 1) ds
        → k + length (d ∷ ds) ≡ P.functions → check program ≡ check_from (d ∷ ds) Δ program.main → A)
        → A
    next_is {A} ts program h use-it = go s.rest s.later s.long s.same
      where
        s : Progress ts h.depth (without_variables w₀) P.functions k program
        s = u.told ts program h

        go : (rest : List Def) → FunctionsAt h.depth ts (without_variables w₀) k rest → k + length rest ≡ P.functions
            → check program ≡ check_from rest s.scope program.main → A
        go [] a m e = absurd (omega arith)
        go (d ∷ ds) (functions_more a q) m e =
            use-it d ds s.scope record {
              count = P.count;
              stand = h.stand;
              few = omega
                  (arith, h.few);
              before = s.before;
              here = a;
            } q m e

    -- it can be checked
    pub underway_listed : Checkable w₀ P → Listed w k
    underway_listed c =
        let g = holds_without c.holds in
        next_is c.tokens c.program g λ d ds Δ n q m e.
        record {
          tokens = c.tokens;
          f = g.depth;
          functions = Δ;
          def = d;
          long = omega (arith, c.holds.long, u.kept.long);
          next = subst (λ (p : List ℕ). Next c.tokens g.depth p k Δ d) (sym u.kept.rest) n;
        }

    module _ {w₁ : List ℕ} {v : Verdict} (g : Ruled w w₁ k v) where
      ruled : (ts : List Token) (f : ℕ) (Δ : Scope Sig) (d : Def) {q : Verdict} → v ≡ q → Next ts f (without_variables w₀) k Δ d
          → Rules q (check_def Δ d) λ _. Unit {0}
      ruled ts f Δ d e n =
          subst (λ (v : Verdict). Rules v (check_def Δ d) λ _. Unit {0}) e
          (g.right ts f Δ d (subst (λ (p : List ℕ). Next ts f p k Δ d) (sym u.kept.rest) n))

      -- it is wrong
      pub underway_stops : {fault : Fault} → v ≡ Err fault → Concluded w₀ w₁ P (Err fault)
      unfolding check_from
      underway_stops e = record {
        kept = kept_then u.kept g.kept;
        right = λ ts program h.
            let g' = holds_without h in
            next_is ts program g' λ d ds Δ n q m x. fault_is (x ∙ after_bad _ (ruled ts g'.depth Δ d e n));
      }

      -- it is fine
      pub underway_goes : v ≡ Ok tt → Underway w₀ w₁ P (k + 1)
      unfolding check_from
      underway_goes e = record {
        kept = kept_then u.kept g.kept;
        few = omega arith;
        told = λ ts program h.
            next_is ts program h λ d ds Δ n q m x.
            record {
              rest = ds;
              scope = with_def Δ d;
              before = Sight.functions_more (add-one k) n.here n.before;
              later = q;
              long = omega arith;
              same = x ∙ after_ok _ (ruled ts h.depth Δ d e n).1 refl;
            };
      }

  module _ (l : P.functions ≤ k) where
    -- all are checked
    all_in : (ts : List Token) (program : Program) (h : Holds ts (without_variables w₀) P program)
        → (Δ : Scope Sig) × InSight ts h.depth (without_variables w₀) P.functions Δ × (check program ≡ infer Δ program.main empty)
    unfolding check_from
    all_in ts program h = go s.rest s.long s.same
      where
        s : Progress ts h.depth (without_variables w₀) P.functions k program
        s = u.told ts program h

        go : (rest : List Def) → k + length rest ≡ P.functions → check program ≡ check_from rest s.scope program.main
            → (Δ : Scope Sig) × InSight ts h.depth (without_variables w₀) P.functions Δ × (check program ≡ infer Δ program.main empty)
        go [] m e = (
          s.scope,
          record {
            count = P.count;
            stand = h.stand;
            few = h.few;
            functions = subst (λ (n : ℕ). Functions h.depth ts (without_variables w₀) n s.scope) (omega arith) s.before;
          },
          e,
        )
        go (d ∷ ds) m e = absurd (omega arith)

    -- the last expression can be checked, with no variable
    pub underway_ready : Checkable w₀ P → Ready w P.root P.functions 0
    underway_ready c =
        let h = holds_without c.holds in
        let a = all_in c.tokens c.program h in
        record {
          tokens = c.tokens;
          depth = h.depth;
          functions = a.0;
          variables = empty;
          long = omega (arith, c.holds.long, u.kept.long);
          stands = record {
            depth = h.depth;
            sight = subst (λ (p : List ℕ). InSight c.tokens h.depth p P.functions a.0) (sym u.kept.rest) a.1;
            whole = subst (λ (p : List ℕ). Right h.depth c.tokens p P.root) (sym u.kept.rest) h.right;
            scope = variables_none;
          };
          room = subst (λ (p : List ℕ). 0 + below (tree_at h.depth c.tokens p P.root) < NODES) (sym u.kept.rest)
              (subst (λ (x : Exp). 0 + below x < NODES) (sym h.main) (omega (arith, h.room)));
        }

    -- and its answer is the program's
    pub underway_ends : {w₁ : List ℕ} {q : Typing} → Inferred w w₁ P.root P.functions 0 q → Concluded w₀ w₁ P q
    underway_ends {q = q} j = record {
      kept = kept_then u.kept j.kept;
      right = λ ts program h.
          let g = holds_without h in
          let a = all_in ts program g in
          tells_from a.2
          (subst (λ (x : Exp). Tells q (infer a.0 x empty)) g.main
          (subst (λ (p : List ℕ). Tells q (infer a.0 (tree_at g.depth ts p P.root) empty)) u.kept.rest
          (j.right ts g.depth a.0 empty record {
            depth = g.depth;
            sight = subst (λ (p : List ℕ). InSight ts g.depth p P.functions a.0) (sym u.kept.rest) a.1;
            whole = subst (λ (p : List ℕ). Right g.depth ts p P.root) (sym u.kept.rest) g.right;
            scope = variables_none;
          })));
    }

-- ---- the written judgements

-- what the executable checker answers is the written type or fault
told_answer : {p : Program} {r : Typing} {x : Res Ty} → Tells r x → Says (HasType p) (HasFault p) x → Answers r p
told_answer (tells_type {t = t} e) (says h) = (t, h, e)
told_answer {p} (tells_fault {e = fault} e) (faults h) = subst (λ (q : Faults.Reason). HasFault p q fault.place) (sym e) h

-- so an answer that tells what it answers is right
pub answers : (p : Program) {r : Typing} → Tells r (check p) → Answers r p
answers p h = told_answer h (check_sound p)
