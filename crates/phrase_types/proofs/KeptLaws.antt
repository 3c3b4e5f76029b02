-- What a step leaves as it was, one step after another, and that what the words stand for stays with it.
use mathlib.Core.Bool.{Bool}
use mathlib.Core.List.{List}
use mathlib.Core.Path.{◌≡◌, refl, sym, ap, subst, ◌∙◌}
use Prim.Native.Nat.{ℕ, ◌+◌, ◌*◌, ◌≤◌, ◌<◌}
use native.Mathlib.Numerals.{add-one}
use native.Mathlib.Omega.{arith}
use lib.ListN.{length}
use Rattle.language.specs.Sizes.{TOKENS, NODES, TABLE}
use Rattle.language.specs.Tokens.{Token}
use Rattle.language.specs.Trees.{Name, Ty, Scope, push}
use Rattle.language.specs.Types.{Sig}
use Rattle.language.specs.Meaning.{type_number}
use Rattle.language.proofs.Executable.Checker.{infer, infers}
use Rattle.layout.specs.Table.{VARIABLES_AT, row_word, put_variable, without_variables}
use Rattle.layout.specs.Decode.{tree_at, args_at}
use Rattle.layout.specs.Names.{Named}
use Rattle.layout.proofs.VariablesWords.{row_without, length_put_variable, without_put_variable, put_variable_name, put_variable_type, put_variable_before}
use Rattle.rules.specs.Sight.{Variables, variables_none, variables_more}
use Rattle.rules.specs.Asked.{Tells}
use Rattle.phrase_types.specs.Inferred.{Kept, Stands, Told, ToldAll, TellsAll}
use Rattle.rules.specs.Asked.{Typing}
use Rattle.rules.specs.declared.sight.Taker.{Taker}
use Rattle.phrase_types.specs.Inferred.{Passing}

-- nothing done
pub kept_self : (w : List ℕ) (binds : ℕ) → Kept w w binds
kept_self w binds = record { long = refl; rest = refl; names = λ i h. refl; types = λ i h. refl }

-- one after another
pub kept_then : {u v w : List ℕ} {binds : ℕ} → Kept u v binds → Kept v w binds → Kept u w binds
kept_then h k = record {
  long = k.long ∙ h.long;
  rest = k.rest ∙ h.rest;
  names = λ i l. k.names i l ∙ h.names i l;
  types = λ i l. k.types i l ∙ h.types i l;
}

-- what leaves more leaves less
pub kept_fewer : {v w : List ℕ} {m n : ℕ} → n ≤ m → Kept v w m → Kept v w n
kept_fewer l h = record { long = h.long; rest = h.rest; names = λ i k. h.names i (omega arith); types = λ i k. h.types i (omega arith) }

-- a variable that is written leaves those before it
pub kept_put : (w : List ℕ) (i x t : ℕ) → i < TOKENS → Kept w (put_variable w i x t) i
kept_put w i x t h = record {
  long = length_put_variable w i x t;
  rest = without_put_variable w i x t h;
  names = λ j l. put_variable_before w i x t (VARIABLES_AT + 2 * j) (omega arith);
  types = λ j l. put_variable_before w i x t (VARIABLES_AT + 2 * j + 1) (omega arith);
}

-- rows are the same
pub kept_row : {v w : List ℕ} {binds : ℕ} → Kept v w binds → (i k : ℕ) → i < NODES → k < 5 → row_word w i k ≡ row_word v i k
kept_row {v} {w} h i k l m = sym (row_without w i k l m) ∙ ap (λ (p : List ℕ). row_word p i k) h.rest ∙ row_without v i k l m

-- variables that are kept are the same variables
variables_same : {ts : List Token} {v w : List ℕ} {n : ℕ} {Γ : Scope Ty} {binds : ℕ} → n ≤ binds → Kept v w binds → Variables ts v n Γ
    → Variables ts w n Γ
variables_same l k variables_none = variables_none
variables_same {ts} l k (variables_more {n = n} {x = x} e a b r) =
    variables_more e (subst (λ (y : ℕ). Named ts y x) (sym (k.names n (omega arith))) a) (k.types n (omega arith)
    ∙ b) (variables_same (omega arith) k r)

-- all of them
pub variables_kept : {ts : List Token} {v w : List ℕ} {binds : ℕ} {Γ : Scope Ty} → Kept v w binds → Variables ts v binds Γ
    → Variables ts w binds Γ
variables_kept k r = variables_same (omega arith) k r

-- one more variable
pub variables_put : {ts : List Token} {w : List ℕ} {n : ℕ} {Γ : Scope Ty} {x : ℕ} {y : Name} {k : ℕ} {t : Ty}
    → TABLE ≤ length w → n < TOKENS → Named ts x y → k ≡ type_number t → Variables ts w n Γ
    → Variables ts (put_variable w n x k) (n + 1) (push y t Γ)
variables_put {ts} {w} {n} {x = x} {y = y} {k = k} l h a b r =
    variables_more (add-one n) (subst (λ (z : ℕ). Named ts z y) (sym (put_variable_name w n x k l h)) a) (put_variable_type w n x k l h ∙ b)
    (variables_kept (kept_put w n x k h) r)

-- the words go on to stand for what they stood for
pub stands_kept : {Whole : ℕ → List Token → List ℕ → ℕ
    → Type 0} {v w : List ℕ} {i seen binds : ℕ} {ts : List Token} {f : ℕ} {Δ : Scope Sig} {Γ : Scope Ty}
    → Kept v w binds → Stands Whole (without_variables v) v i seen binds ts f Δ Γ
    → Stands Whole (without_variables w) w i seen binds ts f Δ Γ
stands_kept {Whole} {w = w} {i = i} {seen = seen} {binds = binds} {ts = ts} {f = f} {Δ = Δ} {Γ = Γ} k s =
    subst (λ (p : List ℕ). Stands Whole p w i seen binds ts f Δ Γ) (sym k.rest)
    (record { depth = s.depth; sight = s.sight; whole = s.whole; scope = variables_kept k s.scope })

-- what was told after a step was so before it
module _ {v w : List ℕ} {binds : ℕ} (k : Kept v w binds) where
  -- of a node
  pub told_before : {node seen : ℕ} {r : Typing} → Told (without_variables w) w node seen binds r
      → Told (without_variables v) v node seen binds r
  told_before {node} {r = r} h ts f Δ Γ st =
      subst (λ (p : List ℕ). Tells r (infer Δ (tree_at f ts p node) Γ)) k.rest (h ts f Δ Γ (stands_kept k st))

  -- of a list
  pub told_all_before : {row seen n : ℕ} {c : Taker} {b : Bool} {r : Passing} → ToldAll (without_variables w) w row seen binds c n b r
      → ToldAll (without_variables v) v row seen binds c n b r
  told_all_before {row} {n = n} {c = c} {b = b} {r = r} h ts f Δ Γ st =
      subst (λ (p : List ℕ). TellsAll p c n b r (infers Δ (args_at f ts p row) Γ)) k.rest (h ts f Δ Γ (stands_kept k st))
