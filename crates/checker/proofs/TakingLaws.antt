-- The loop over a function's parameters: what is told halfway, how one more goes, and how it ends.
use mathlib.Core.List.{List, [], ◌∷◌}
use mathlib.Core.Path.{◌≡◌, refl, sym, subst, ◌∙◌}
use Rattle.std.specs.Prelude.{Ok, Err}
use Prim.Native.Nat.{ℕ, ◌+◌, ◌≤◌, ◌<◌}
use native.Mathlib.Omega.{arith}
use lib.ListN.{length}
use Rattle.language.specs.Tokens.{Token}
use Rattle.language.specs.Trees.{Ty, Param, Def, Scope, empty, push}
use Rattle.language.proofs.Executable.Checks.{ok}
use Rattle.language.proofs.Executable.Checker.{take_params}
use Rattle.layout.specs.Table.{ARITY, row_word, without_variables}
use Rattle.layout.specs.Names.{Stand}
use Rattle.layout.specs.Decode.{ParamsAt, params_more, FunctionAt}
use Rattle.layout.proofs.VariablesWords.{row_without}
use Rattle.rules.specs.Sight.{Variables, variables_none}
use Rattle.phrase_types.specs.Inferred.{Kept}
use Rattle.checker.specs.Ruled.{Verdict, ParameterAt, BoundIs, Bound, Headings, Taken}
use Rattle.rules.specs.Asked.{Fault}
use Rattle.phrase_types.proofs.KeptLaws.{kept_self, kept_then, kept_fewer, kept_row}

-- k of d's parameters are the variables, and the rest are still to be taken
pub record Halfway (p w : List ℕ) (row k : ℕ) (ts : List Token) (d : Def) : Type 0 where
  pub rest : List Param
  pub scope : Scope Ty
  pub params : ParamsAt ts p (row + k + 1) rest
  pub long : k + length rest ≡ length d.params
  pub variables : Variables ts w k scope
  pub same : take_params d.params empty ≡ take_params rest scope

-- what the loop keeps: of every function that the row is
pub record Taking (w₀ w : List ℕ) (row count k : ℕ) : Type 0 where
  pub kept : Kept w₀ w 0
  pub few : k ≤ count
  pub told : (ts : List Token) (n f : ℕ) (d : Def) → Stand (without_variables w₀) n ts → FunctionAt f ts (without_variables w₀) row d
      → Halfway (without_variables w₀) w row k ts d

-- none is taken yet
pub taking_starts : {w : List ℕ} {row count k : ℕ} → k ≡ 0 → Taking w w row count k
taking_starts {w} {row} {count} {k} e = subst (λ (k : ℕ). Taking w w row count k) (sym e) record {
  kept = kept_self w 0;
  few = omega arith;
  told = λ ts n f d st a.
      record {
        rest = d.params;
        scope = empty;
        params = subst (λ (r : ℕ). ParamsAt ts (without_variables w) r d.params) (omega arith) a.params;
        long = omega arith;
        variables = variables_none;
        same = refl;
      };
}

tail_params : {ts : List Token} {p : List ℕ} {r : ℕ} {q : Param} {qs : List Param} → ParamsAt ts p r (q ∷ qs) → ParamsAt ts p (r + 1) qs
tail_params (params_more a b c d h) = h

module _ {w₀ w : List ℕ} {row count k : ℕ} (h : Headings w₀ row) (ec : count ≡ row_word w₀ row ARITY) (t : Taking w₀ w row count k) where
  -- as many as the function has parameters
  counted : {ts : List Token} {f : ℕ} {d : Def} → FunctionAt f ts (without_variables w₀) row d → count ≡ length d.params
  counted a = let l = h.last in ec ∙ sym (row_without w₀ row 2 (omega arith) (omega arith)) ∙ a.count

  -- those that are all taken
  pub taking_ends : count ≤ k → Taken w₀ w row (Ok tt)
  unfolding take_params
  taking_ends l = record {
    kept = t.kept;
    right = λ ts n f d st a.
        let e = counted a in
        let v = t.told ts n f d st a in
        go ts d v.rest v.scope (omega (arith, v.long, t.few)) (subst (λ (j : ℕ). Variables ts w j v.scope) (omega
        (arith, t.few)) v.variables) v.same;
  }
    where
      go : (ts : List Token) (d : Def) (rest : List Param) (Γ : Scope Ty) → length rest ≡ 0 → Variables ts w (length d.params) Γ
          → take_params d.params empty ≡ take_params rest Γ
          → (Γ : Scope Ty) × (take_params d.params empty ≡ ok Γ) × Variables ts w (length d.params) Γ
      go ts d [] Γ l vs e = (Γ, e, vs)
      go ts d (q ∷ qs) Γ l vs e = absurd (omega arith)

  module _ (l : k < count) where
    -- the next one's row
    pub taking_row : ParameterAt w (row + k + 1)
    taking_row =
        let b = h.last in
        let e = kept_row t.kept (row + k + 1) 1 (omega arith) (omega arith) in
        let n = h.names k (omega arith) in
        record { long = omega (arith, h.long, t.kept.long); inside = omega arith; name = omega arith }

    module _ {w' : List ℕ} {v : Verdict} (g : Bound w w' (row + k + 1) k v) where
      -- what all steps leave
      pub bound_kept : Kept w₀ w' 0
      bound_kept = kept_then t.kept (kept_fewer (omega arith) g.kept)

      -- what is told of the next one
      next_is : {A : Type 0} (ts : List Token) (n f : ℕ) (d : Def) → Stand (without_variables w₀) n ts
          → FunctionAt f ts (without_variables w₀) row d
          → ((q : Param) (qs : List Param) (Γ : Scope Ty) → ParamsAt ts (without_variables w₀) (row + k + 1) (q ∷ qs)
          → k + length (q ∷ qs) ≡ length d.params
          → take_params d.params empty ≡ take_params (q ∷ qs) Γ → BoundIs ts w' k Γ q qs v → A)
          → A
      next_is {A} ts n f d st a use-it = go s.rest s.params s.long s.same
        where
          s : Halfway (without_variables w₀) w row k ts d
          s = t.told ts n f d st a

          go : (rest : List Param) → ParamsAt ts (without_variables w₀) (row + k + 1) rest → k + length rest ≡ length d.params
              → take_params d.params empty ≡ take_params rest s.scope → A
          go [] ps m e = absurd (let z = counted a in omega arith)
          go (q ∷ qs) ps m e =
              use-it q qs s.scope ps m e
              (g.right ts n s.scope q qs (subst (λ (p : List ℕ). Stand p n ts) (sym t.kept.rest) st)
              (subst (λ (p : List ℕ). ParamsAt ts p (row + k + 1) (q ∷ qs)) (sym t.kept.rest) ps) s.variables)

      -- it is wrong
      pub taking_stops : {fault : Fault} → v ≡ Err fault → Taken w₀ w' row (Err fault)
      taking_stops e = record {
        kept = bound_kept;
        right = λ ts n f d st a. next_is ts n f d st a λ q qs Γ ps m x b. x ∙ subst (λ (v : Verdict). BoundIs ts w' k Γ q qs v) e b;
      }

      -- it is taken
      pub taking_goes : v ≡ Ok tt → Taking w₀ w' row count (k + 1)
      taking_goes e = record {
        kept = bound_kept;
        few = omega arith;
        told = λ ts n f d st a.
            next_is ts n f d st a λ q qs Γ ps m x b.
            let c = subst (λ (v : Verdict). BoundIs ts w' k Γ q qs v) e b in
            record {
              rest = qs;
              scope = push q.called q.type Γ;
              params = subst (λ (r : ℕ). ParamsAt ts (without_variables w₀) r qs) (omega arith) (tail_params ps);
              long = omega arith;
              variables = c.0;
              same = x ∙ c.1;
            };
      }
