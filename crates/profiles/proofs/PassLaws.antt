-- A pass over the rows on its way, and what it leaves as it was.
use mathlib.Core.List.{List}
use mathlib.Core.Path.{◌≡◌, refl, ap, subst, subst₂, ◌∙◌}
use Prim.Native.Nat.{ℕ, ◌+◌, ◌*◌, ◌≤◌, ◌<◌}
use native.Mathlib.Omega.{arith}
use lib.ListN.{length, get_or, length-set}
use lib.Seq.{get_or-set_other}
use Rattle.language.specs.Sizes.{NODES, TABLE}
use Rattle.layout.specs.Table.{ROWS_AT, FUNCTIONS_AT, VARIABLES_AT, OWN, BODY, row_word, function_row}
use Rattle.layout.specs.Functions.{function_name, Headed}
use Rattle.profiles.specs.Shares.{share_word, body_word, put_share}
use Rattle.profiles.specs.Passes.{RowShare, Passed, pass_none, pass_more, Heads, AtRow, PassedTo}
use Rattle.profiles.specs.Profiled.{Bodied, BodyPassed}

-- ---- what is the same in two tables: all words before the variables, and the shares of bodies

pub record Kept (w v : List ℕ) : Type 0 where
  pub before : (j : ℕ) → j < VARIABLES_AT → get_or v j 0 ≡ get_or w j 0
  pub bodies : (k : ℕ) → body_word v k ≡ body_word w k
  pub long : length v ≡ length w

pub kept_self : (w : List ℕ) → Kept w w
kept_self w = record { before = λ j h. refl; bodies = λ k. refl; long = refl }

pub kept_put : {w v : List ℕ} (i s : ℕ) → i < NODES → Kept w v → Kept w (put_share v i s)
kept_put {w} {v} i s l h = record {
  before = λ j k. get_or-set_other v (VARIABLES_AT + i) j s 0 (λ e. omega arith) ∙ h.before j k;
  bodies = λ k. get_or-set_other v (VARIABLES_AT + i) (VARIABLES_AT + (NODES + k)) s 0 (λ e. omega arith) ∙ h.bodies k;
  long = length-set v (VARIABLES_AT + i) s ∙ h.long;
}

pub passed_kept : {x n : ℕ} {w : List ℕ} {i : ℕ} {v : List ℕ} → Passed x n w i v → i ≤ NODES → Kept w v
passed_kept {w = w} pass_none l = kept_self w
passed_kept (pass_more {i} {s} p q) l = kept_put i s (omega arith) (passed_kept p (omega arith))

-- functions keep their names
module _ (w v : List ℕ) (before : (j : ℕ) → j < VARIABLES_AT → get_or v j 0 ≡ get_or w j 0) {k : ℕ} (h : Headed w k) where
  row_kept : function_row v k ≡ function_row w k
  row_kept = before (FUNCTIONS_AT + k) (omega (arith, h.few))

  own_kept : row_word v (function_row v k) OWN ≡ row_word w (function_row w k) OWN
  own_kept =
      ap (λ (r : ℕ). row_word v r OWN) row_kept ∙ before (ROWS_AT + 5 * function_row w k + OWN) (omega (arith, h.row))

  pub headed_kept : Headed v k
  headed_kept = record { few = h.few; row = omega (arith, row_kept, h.row); name = omega (arith, own_kept, h.name) }

  pub name_kept : function_name v k ≡ function_name w k
  name_kept =
      ap (λ (o : ℕ). get_or v (4 * (o + 1) + 3) 0) own_kept
      ∙ before (4 * (row_word w (function_row w k) OWN + 1) + 3) (omega (arith, h.name))

pub heads_kept : {w v : List ℕ} {n : ℕ} → Kept w v → Heads w n → Heads v n
heads_kept {w} {v} q h = record { long = omega (arith, q.long, h.long); few = h.few; heads = λ k l. headed_kept w v q.before (h.heads k l) }

-- ---- on the way

pub record Passing (w v : List ℕ) (last x n i : ℕ) : Type 0 where
  pub reached : i ≤ last + 1
  pub passed : Passed x n w i v
  pub heads : Heads v n
  pub long : length v ≡ length w

module _ {w : List ℕ} {last n : ℕ} (start : AtRow w last n) where
  pub passing_starts : (x : ℕ) → Passing w w last x n 0
  passing_starts x = record { reached = omega arith; passed = pass_none; heads = start.heads; long = refl }

  module _ {v : List ℕ} {x i : ℕ} (h : Passing w v last x n i) where
    pub passing_row : i ≤ last → AtRow v i n
    passing_row l = record { inside = omega (arith, start.inside); heads = h.heads }

    pub passing_goes : {u : List ℕ} {s : ℕ} → i ≤ last → RowShare v i x n s → u ≡ put_share v i s → Passing w u last x n (i + 1)
    passing_goes {s = s} l q e = rw e record {
      reached = omega arith;
      passed = pass_more h.passed q;
      heads = heads_kept (kept_put i s (omega (arith, start.inside)) (kept_self v)) h.heads;
      long = length-set v (VARIABLES_AT + i) s ∙ h.long;
    }

    pub passing_ends : {s : ℕ} → last < i → s ≡ share_word v last → PassedTo w v last x n s
    passing_ends l e = record {
      passed = subst (λ (j : ℕ). Passed x n w j v) (omega (arith, h.reached)) h.passed;
      share = e;
      long = h.long;
    }

-- ---- a body

module _ {w : List ℕ} {k : ℕ} (b : Bodied w k) where
  pub body_head : (TABLE ≤ length w) × Headed w k
  body_head = (b.heads.long, b.heads.heads k (omega arith))

  pub body_row : {r : ℕ} → r ≡ function_row w k → (TABLE ≤ length w) × (r < NODES) × (BODY < 5)
  body_row e = (b.heads.long, omega (arith, e, body_head.1.row), omega arith)

  module _ {r l : ℕ} (row : r ≡ function_row w k) (root : l ≡ row_word w r BODY) where
    root_is : l ≡ row_word w (function_row w k) BODY
    root_is = root ∙ ap (λ (j : ℕ). row_word w j BODY) row

    pub body_ready : AtRow w l k
    body_ready = record {
      inside = omega (arith, root_is, b.root);
      heads = record {
        long = b.heads.long;
        few = omega (arith, b.heads.few);
        heads = λ j h. b.heads.heads j (omega arith);
      };
    }

    pub body_passed : {w' : List ℕ} {x s : ℕ} → x ≡ function_name w k → PassedTo w w' l x k s → BodyPassed w w' k s
    body_passed {w'} {x} {s} e q = subst₂ (λ (l x : ℕ). PassedTo w w' l x k s) root_is e q
