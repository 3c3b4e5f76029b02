-- What a call on an expression of a list, and on those behind it, asks, from what the list was given.
use mathlib.Core.List.{List}
use mathlib.Core.Path.{◌≡◌, sym, ap, subst, ◌∙◌}
use Prim.Native.Nat.{ℕ, zero, suc, ◌+◌, ◌<◌}
use native.Mathlib.Omega.{arith}
use Rattle.language.specs.Sizes.{NODES}
use Rattle.language.specs.Tokens.{Token}
use Rattle.layout.specs.Table.{EXPRESSION, NEXT, row_word, without_variables}
use Rattle.layout.specs.Rows.{below, under}
use Rattle.layout.specs.Decode.{tree_at, args_at, Argument, Right, RightArgs}
use Rattle.layout.proofs.VariablesWords.{row_without}
use Rattle.rules.specs.Sight.{Readable}
use Rattle.rules.specs.declared.sight.Taker.{Taker}
use Rattle.rules.proofs.PlainLaws.{readable_plain}
use Rattle.phrase_types.specs.Inferred.{Kept, Ready, ReadyAll}
use Rattle.phrase_types.proofs.KeptLaws.{stands_kept}
use Rattle.phrase_types.proofs.BindLaws.{an_argument}
use Rattle.phrase_types.proofs.CoveredLaws.{covered, covered_all, fewer_exp, fewer_next, covered_all_same}

-- an argument that is ready, by its row
record Argued (ts : List Token) (p : List ℕ) (row binds : ℕ) : Type 0 where
  f : ℕ
  here : Argument (λ j. Right f ts p j) (λ j. RightArgs f ts p j) p row
  first : binds + below (tree_at f ts p (row_word p row EXPRESSION)) < NODES
  later : binds + under (args_at f ts p (row_word p row NEXT)) < NODES

argued : (ts : List Token) (p : List ℕ) (row binds f : ℕ) → (row ≡ 0 → ⊥) → RightArgs f ts p row
    → binds + under (args_at f ts p row) < NODES → Argued ts p row binds
unfolding RightArgs under
argued ts p row binds zero n h l = absurd (n h)
argued ts p row binds (suc f) n h l =
    let e = ap under (an_argument f ts p row n) in
    record { f = f; here = h n; first = omega arith; later = omega arith }

module _ {w : List ℕ} {row seen binds : ℕ} {c : Taker} {k : ℕ} (r : ReadyAll w row seen binds c k) (n : row ≡ 0 → ⊥) where
  abbrev pa : List ℕ
  pa = without_variables w

  ready_argued : Argued r.tokens pa row binds
  ready_argued = argued r.tokens pa row binds r.depth n r.stands.whole r.room

  -- its row is one of the rows
  pub args_inside : row < NODES
  args_inside = ready_argued.here.inside

  -- what is wanted of it can be read
  pub args_readable : Readable w c
  args_readable = readable_plain w c r.readable

  -- its row's words
  pub args_row : (i : ℕ) → i < 5 → row_word pa row i ≡ row_word w row i
  args_row i l = row_without w row i args_inside l

  -- its expression can be checked
  pub args_first : {j : ℕ} → j ≡ row_word w row EXPRESSION → (covered w j < covered_all w row) × Ready w j seen binds
  args_first e =
      subst (λ (j : ℕ). (covered w j < covered_all w row) × Ready w j seen binds) (args_row 2 (omega arith) ∙ sym e) (
        fewer_exp w ready_argued.f r.tokens n ready_argued.here,
        record {
          tokens = r.tokens;
          depth = ready_argued.f;
          functions = r.functions;
          variables = r.variables;
          long = r.long;
          stands = record { depth = r.stands.depth; sight = r.stands.sight; whole = ready_argued.here.exp.1; scope = r.stands.scope };
          room = ready_argued.first;
        },
      )

  -- and then the arguments behind it
  pub args_next : {j : ℕ} {w' : List ℕ} → Kept w w' binds → j ≡ row_word w row NEXT
      → (covered_all w' j < covered_all w row) × ReadyAll w' j seen binds c (k + 1)
  args_next {w' = w'} h e =
      let a = ready_argued.here.next in
      subst (λ (j : ℕ). (covered_all w' j < covered_all w row) × ReadyAll w' j seen binds c (k + 1)) (args_row 3 (omega arith) ∙ sym e) (
        rw (covered_all_same w' w h.rest) (fewer_next w ready_argued.f r.tokens n ready_argued.here),
        record {
          tokens = r.tokens;
          depth = ready_argued.f;
          functions = r.functions;
          variables = r.variables;
          long = omega (arith, r.long, h.long);
          stands = stands_kept h record { depth = r.stands.depth; sight = r.stands.sight; whole = a.1; scope = r.stands.scope };
          room = subst (λ (v : List ℕ). binds + under (args_at ready_argued.f r.tokens v (row_word pa row NEXT)) < NODES) (sym
              h.rest) ready_argued.later;
          readable = subst (λ (v : List ℕ). Readable v c) (sym h.rest) r.readable;
          few = omega (arith, r.few, a.0);
        },
      )
