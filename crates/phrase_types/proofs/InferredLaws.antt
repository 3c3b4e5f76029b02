-- What a member of the cycle promises, one law for each way through it, from what it was given and what its calls ensured.
use mathlib.Core.Bool.{Bool, true, ◌&&◌}
use mathlib.Core.List.{List}
use mathlib.Core.Path.{◌≡◌, sym, ap, subst, subst₂, ◌∙◌}
use Rattle.rules.specs.Asked.{Fault}
use Rattle.std.specs.Prelude.{Ok, Err}
use Prim.Native.Nat.{ℕ, ◌+◌, ◌≤◌, ◌<◌}
use native.Mathlib.Omega.{arith}
use lib.Dec.{eqb}
use lib.ListN.{length}
use Rattle.language.specs.Sizes.{TABLE}
use Rattle.language.specs.Tokens.{NAME, LET}
use Rattle.layout.specs.Table.{KIND, OWN, FIRST, SECOND, THIRD, EXPRESSION, NEXT, token_value, row_word, put_variable, without_variables}
use Rattle.layout.specs.Rows.{CALL}
use Rattle.layout.proofs.VariablesWords.{token_without}
use Rattle.layout.specs.Decode.{counts}
use Rattle.rules.specs.Sight.{find_variable, callee_in, Rowed, expected_in}
use Rattle.rules.specs.Asked.{Children, Constant, AsksOne, AsksTwo, AsksIf, AsksCall}
use Rattle.phrase_types.specs.Inferred.{looked, Ready, Told, Inferred, ReadyAll, ToldAll, InferredAll}
use Rattle.rules.specs.Asked.{Typing}
use Rattle.rules.specs.declared.sight.Callee.{Callee}
use Rattle.rules.specs.declared.sight.Taker.{Taker}
use Rattle.phrase_types.specs.Inferred.{Passing}
use Rattle.phrase_types.proofs.KeptLaws.{kept_self, kept_then, kept_fewer, kept_put, told_before, told_all_before}
use Rattle.phrase_types.proofs.ScopeLaws.{sight_headed}
use Rattle.rules.proofs.PlainLaws.{callee_plain, rowed_plain, expected_plain, asks_plain}
use Rattle.phrase_types.proofs.NodeLaws.{first_stops, one_goes, second_stops, two_goes, then_stops, else_stops, if_goes, name_goes, constant_goes}
use Rattle.phrase_types.proofs.BindLaws.{let_goes, args_end, args_stop, args_go, call_stops, call_goes}
use Rattle.phrase_types.proofs.ReadyLaws.{ready_row, ready_binds, ready_name, ready_called, ready_bound, ready_args}
use Rattle.phrase_types.proofs.ReadyArguments.{args_row}

-- the same words after a call
pub inferred_as : {w w' : List ℕ} {node seen binds : ℕ} {r q : Typing} → r ≡ q → Inferred w w' node seen binds r → Inferred w w' node seen binds q
inferred_as {w} {w'} {node} {seen} {binds} e h = subst (λ (r : Typing). Inferred w w' node seen binds r) e h

module _ {w : List ℕ} {node seen binds : ℕ} (r : Ready w node seen binds) where
  abbrev p : List ℕ
  p = without_variables w

  -- a word of its row
  pub plain : (k : ℕ) {x : ℕ} → k < 5 → x ≡ row_word w node k → x ≡ row_word p node k
  plain k l e = e ∙ sym (ready_row r k l)

  children_plain : {m : ℕ} → Children (row_word w node KIND) m → Children (row_word p node KIND) m
  children_plain {m} h = subst (λ (k : ℕ). Children k m) (sym (ready_row r 0 (omega arith))) h

  -- what was told of a part, by its row
  told_at : (k : ℕ) {j : ℕ} {q : Typing} → k < 5 → j ≡ row_word w node k → Told p w j seen binds q
      → Told p w (row_word p node k) seen binds q
  told_at k {q = q} l e h = subst (λ (j : ℕ). Told p w j seen binds q) (plain k l e) h

  -- ---- no child

  -- a name
  pub name_inferred : {q : Typing} → row_word w node KIND ≡ NAME
      → q ≡ looked (find_variable w (token_value w (row_word w node OWN)) binds) (row_word w node OWN) → Inferred w w node seen binds q
  name_inferred k e =
      let l = ready_name r k in
      let d = ready_row r 1 (omega arith) in
      inferred_as (sym e) record {
        kept = kept_self w binds;
        right = name_goes (ready_row r 0 (omega arith) ∙ k) (sym d)
            (sym (ap (λ (i : ℕ). token_value p i) d ∙ token_without w (row_word w node OWN) 3 l (omega arith)));
      }

  -- a constant
  pub constant_inferred : {k m n : ℕ} → k ≡ row_word w node KIND → (k ≡ NAME → ⊥) → (k ≡ CALL → ⊥) → (counts k ≡ true → ⊥)
      → Children k m → m ≡ 0 → Constant k n
      → Inferred w w node seen binds (Ok n)
  constant_inferred {k} {n = n} ek nn nc nf has z c =
      let e = plain 0 (omega arith) ek in
      record {
        kept = kept_self w binds;
        right = constant_goes e (subst₂ (λ (k m : ℕ). Children k m) e z has) (λ d. nn (e ∙ d)) (λ d. nc (e ∙ d))
            (λ d. nf (ap counts e ∙ d)) c;
      }

  -- ---- children

  module _ {w₁ : List ℕ} {j : ℕ} {s : Typing} (ej : j ≡ row_word w node FIRST) (h : Inferred w w₁ j seen binds s) where
    -- a fault of the first child
    pub first_inferred : {m : ℕ} → Children (row_word w node KIND) m → 1 ≤ m → {fault : Fault} → s ≡ Err fault
        → Inferred w w₁ node seen binds (Err fault)
    first_inferred has l e = record {
      kept = h.kept;
      right = first_stops (children_plain has) l (told_at 2 (omega arith) ej (inferred_as e h).right);
    }

    module _ {m : ℕ} (es : s ≡ Ok m) where
      -- what is told of the first child
      pub first_told : Told p w (row_word p node FIRST) seen binds (Ok m)
      first_told = told_at 2 (omega arith) ej (inferred_as es h).right

      -- a node with one child asks
      pub one_inferred : {k i : ℕ} {q : Typing} → Children (row_word w node KIND) 1 → k ≡ row_word w node KIND → i ≡ row_word w node OWN
          → AsksOne k m i q
          → Inferred w w₁ node seen binds q
      one_inferred has ek ei asks =
          record {
            kept = h.kept;
            right = one_goes (children_plain has) (plain 0 (omega arith) ek) (plain 1
                (omega arith) ei) first_told asks;
          }

      module _ {w₂ : List ℕ} {j₂ : ℕ} {t : Typing} (ej₂ : j₂ ≡ row_word w node SECOND) (g : Inferred w₁ w₂ j₂ seen binds t) where
        second_told : {q : Typing} → t ≡ q → Told p w (row_word p node SECOND) seen binds q
        second_told e = told_at 3 (omega arith) ej₂ (told_before h.kept (inferred_as e g).right)

        module _ (has : Children (row_word w node KIND) 2) (other : row_word w node KIND ≡ LET → ⊥) where
          other_plain : row_word p node KIND ≡ LET → ⊥
          other_plain e = other (sym (ready_row r 0 (omega arith)) ∙ e)

          -- a fault of the second of two
          pub second_inferred : {fault : Fault} → t ≡ Err fault → Inferred w w₂ node seen binds (Err fault)
          second_inferred e = record {
            kept = kept_then h.kept g.kept;
            right = second_stops (children_plain has) other_plain first_told (second_told e);
          }

          -- a node with two children asks
          pub two_inferred : {k i n : ℕ} {q : Typing} → t ≡ Ok n → k ≡ row_word w node KIND → i ≡ row_word w node OWN
              → AsksTwo k m n i q
              → Inferred w w₂ node seen binds q
          two_inferred e ek ei asks = record {
            kept = kept_then h.kept g.kept;
            right = two_goes (children_plain has) other_plain first_told (plain 0 (omega arith) ek) (plain 1 (omega arith) ei)
                (second_told e) asks;
          }

        module _ (has : Children (row_word w node KIND) 3) where
          -- a fault of the first branch of an `if`
          pub then_inferred : {fault : Fault} → t ≡ Err fault → Inferred w w₂ node seen binds (Err fault)
          then_inferred e = record {
            kept = kept_then h.kept g.kept;
            right = then_stops (children_plain has) first_told (second_told e);
          }

          module _ {n : ℕ} (et : t ≡ Ok n) {w₃ : List ℕ} {j₃ : ℕ} {u : Typing} (ej₃ : j₃ ≡ row_word w node THIRD)
              (f : Inferred w₂ w₃ j₃ seen binds u) where
            third_told : {q : Typing} → u ≡ q → Told p w (row_word p node THIRD) seen binds q
            third_told e = told_at 4 (omega arith) ej₃ (told_before (kept_then h.kept g.kept) (inferred_as e f).right)

            -- a fault of its second branch
            pub else_inferred : {fault : Fault} → u ≡ Err fault → Inferred w w₃ node seen binds (Err fault)
            else_inferred e = record {
              kept = kept_then (kept_then h.kept g.kept) f.kept;
              right = else_stops (children_plain has) first_told (second_told et) (third_told e);
            }

            -- an `if` asks
            pub if_inferred : {l i : ℕ} {q : Typing} → u ≡ Ok l → i ≡ row_word w node OWN → AsksIf m n l i q
                → Inferred w w₃ node seen binds q
            if_inferred e ei asks = record {
              kept = kept_then (kept_then h.kept g.kept) f.kept;
              right = if_goes (children_plain has) first_told (second_told et) (plain 1 (omega arith) ei) (third_told e) asks;
            }

      -- ---- let

      -- a `let` has its body's answer
      pub let_inferred : {x j₂ : ℕ} {v w₂ : List ℕ} {q : Typing} → row_word w node KIND ≡ LET → x ≡ token_value w (row_word w node OWN + 1)
          → v ≡ put_variable w₁ binds x m → j₂ ≡ row_word w node SECOND → Inferred v w₂ j₂ seen (binds + 1) q → Inferred w w₂ node seen binds q
      let_inferred {x} {v = v} {w₂ = w₂} {q = q} kind ex ev ej₂ g =
          let l = ready_bound r kind in
          let d = ready_row r 1 (omega arith) in
          let a = subst₂ (λ (v : List ℕ) (j : ℕ). Inferred v w₂ j seen (binds + 1) q) ev (plain 3 (omega arith) ej₂) g in
          record {
            kept = kept_then h.kept (kept_then (kept_put w₁ binds x m (ready_binds r)) (kept_fewer (omega arith) a.kept));
            right = let_goes (sym h.kept.rest) h.kept (omega (arith, r.long, h.kept.long)) (ready_binds r) (ready_row r 0
                (omega arith) ∙ kind)
                (ex ∙ sym (ap (λ (i : ℕ). token_value p (i + 1)) d
                ∙ token_without w (row_word w node OWN + 1) 3 l (omega arith))) first_told a.right;
          }

  -- ---- a call

  module _ (kind : row_word w node KIND ≡ CALL) {x row : ℕ} {c : Callee} (ex : x ≡ token_value w (row_word w node OWN))
      (ec : c ≡ callee_in w x seen)
      (er : row ≡ row_word w node FIRST) {w₁ : List ℕ} {s : Passing} (h : InferredAll w w₁ row seen binds (Taker.Call c) 0 true s) where
    kind_plain : row_word p node KIND ≡ CALL
    kind_plain = ready_row r 0 (omega arith) ∙ kind

    args_told : {q : Passing} → s ≡ q → ToldAll p w (row_word p node FIRST) seen binds (Taker.Call c) 0 true q
    args_told e = subst₂ (λ (s : Passing) (j : ℕ). ToldAll p w j seen binds (Taker.Call c) 0 true s) e (plain 2 (omega arith) er) h.right

    -- a fault of an argument
    pub arguments_inferred : {fault : Fault} → s ≡ Err fault → Inferred w w₁ node seen binds (Err fault)
    arguments_inferred e = record { kept = h.kept; right = call_stops kind_plain (args_told e) }

    rowed : Rowed (without_variables w₁) c
    rowed = subst (λ (v : List ℕ). Rowed v c) (sym h.kept.rest) (ready_args r kind ex ec er).1.readable

    -- what the callee wants can still be read
    pub callee_ready : (TABLE ≤ length w₁) × Rowed w₁ c
    callee_ready = (omega (arith, r.long, h.kept.long), rowed_plain w₁ c rowed)

    -- a call asks
    pub call_inferred : {n i : ℕ} {b : Bool} {q : Typing} → s ≡ Ok record { count = n; suited = b } → i ≡ row_word w node OWN → AsksCall w₁ c n b i q
        → Inferred w w₁ node seen binds q
    call_inferred {n} {i} {b} {q} e ei asks =
        let l = ready_called r kind in
        let d = ready_row r 1 (omega arith) in
        record {
          kept = h.kept;
          right = call_goes kind_plain (ex ∙ sym (ap (λ (i : ℕ). token_value p i) d
              ∙ token_without w (row_word w node OWN) 3 l (omega arith)))
              (ec ∙ sym (callee_plain w x seen (sight_headed r.stands.sight))) (plain 1 (omega arith) ei) (args_told e)
              (subst (λ (v : List ℕ). AsksCall v c n b i q) h.kept.rest (asks_plain w₁ c i rowed asks));
        }

-- ---- lists

-- the same flag
pub inferred_all_as : {w w' : List ℕ} {row seen binds : ℕ} {c : Taker} {k : ℕ} {b d : Bool} {q : Passing} → b ≡ d
    → InferredAll w w' row seen binds c k b q
    → InferredAll w w' row seen binds c k d q
inferred_all_as {w} {w'} {row} {seen} {binds} {c} {k} {q = q} e h = subst (λ (b : Bool). InferredAll w w' row seen binds c k b q) e h

-- the same answer
pub inferred_all_on : {w w' : List ℕ} {row seen binds : ℕ} {c : Taker} {k : ℕ} {b : Bool} {r q : Passing} → r ≡ q
    → InferredAll w w' row seen binds c k b r
    → InferredAll w w' row seen binds c k b q
inferred_all_on {w} {w'} {row} {seen} {binds} {c} {k} {b} e h = subst (λ (r : Passing). InferredAll w w' row seen binds c k b r) e h

-- no expression is left
pub end_inferred : {w : List ℕ} {row seen binds : ℕ} {c : Taker} {k : ℕ} {b : Bool} → row ≡ 0
    → InferredAll w w row seen binds c k b (Ok record { count = k; suited = b })
end_inferred {w} {binds = binds} e = record { kept = kept_self w binds; right = args_end e }

module _ {w : List ℕ} {row seen binds : ℕ} {c : Taker} {k : ℕ} (r : ReadyAll w row seen binds c k) (some_row : row ≡ 0 → ⊥)
    {w₁ : List ℕ} {j : ℕ} {s : Typing} (ej : j ≡ row_word w row EXPRESSION) (h : Inferred w w₁ j seen binds s) where
  argument_told : {q : Typing} → s ≡ q → Told (without_variables w) w (row_word (without_variables w) row EXPRESSION) seen binds q
  argument_told {q} e =
      subst (λ (j : ℕ). Told (without_variables w) w j seen binds q) (ej ∙ sym (args_row r some_row 2 (omega arith))) (inferred_as e h).right

  -- a fault of the first argument
  pub stop_inferred : {b : Bool} {fault : Fault} → s ≡ Err fault → InferredAll w w₁ row seen binds c k b (Err fault)
  stop_inferred e = record { kept = h.kept; right = args_stop some_row (argument_told e) }

  -- the later arguments answer, with the first
  pub more_inferred : {n v j₂ : ℕ} {w₂ : List ℕ} {b d : Bool} {q : Passing} → s ≡ Ok n → v ≡ expected_in w c k
      → j₂ ≡ row_word w row NEXT → d ≡ (b && eqb n v)
      → InferredAll w₁ w₂ j₂ seen binds c (k + 1) d q → InferredAll w w₂ row seen binds c k b q
  more_inferred {n} {v} {b = b} {q = q} e ev ej₂ ed g =
      let a = told_all_before h.kept (inferred_all_as ed g).right in
      record {
        kept = kept_then h.kept g.kept;
        right = args_go some_row (ev ∙ sym (expected_plain w c k r.readable)) (argument_told e)
            (subst (λ (j : ℕ). ToldAll (without_variables w) w j seen binds c (k + 1) (b && eqb n v) q) (ej₂
            ∙ sym (args_row r some_row 3 (omega arith))) a);
      }
