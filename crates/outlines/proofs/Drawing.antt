-- What the words of a table and the bytes of a text tell is what is so of the sheet.
use lib.Dec.{T, eqb}
use lib.ListN.{length, get_or}
use lib.Seq.{slice}
use mathlib.Core.Bool.{Bool, true, false, cond, ◌&&◌, ◌||◌, not}
use mathlib.Core.List.{List, [], ◌∷◌}
use mathlib.Core.Option.{some}
use mathlib.Core.Path.{◌≡◌, refl, sym, ap, ap₂, subst, ◌∙◌}
use borrow.Author.Tests.{le-ltb}
use native.Mathlib.Decide.{dec_le}
use native.Mathlib.Omega.{arith}
use Prim.Native.Nat.{ℕ, zero, suc, ◌+◌, ◌-◌, ◌≤◌, ◌<◌}
use Rattle.language.specs.Sizes.{NODES}
use Rattle.language.specs.Tokens.{Token, same, past, place_at, spelling_at, NUMBER}
use Rattle.language.specs.Text.{Stands}
use Rattle.language.specs.Trees.{Exp, Exps, Param, Def, Program, Ty}
use Rattle.language.specs.Meaning.{type_number}
use Rattle.language.specs.Answers.{Passes}
use Rattle.language.specs.Edition.{text_in}
use Rattle.language.specs.Outline.{is_whole, is_number, Wanted, type_numbers, suits, has_function}
use Rattle.language.proofs.Text.Spots.{Spot, reached_spot}
use Rattle.language.proofs.Text.Spellings.{slice_stands}
use Rattle.language.proofs.Grammar.Entries.{every, entry_passes}
use Rattle.layout.specs.Table.{KIND, OWN, ARITY, row_word, function_row, token_place, token_end}
use Rattle.layout.specs.Names.{Stand}
use Rattle.layout.specs.Decode.{Shape, a_name, a_number, a_float, a_follow, a_group, a_block, a_call, a_let, an_if, a_while, a_constant, a_unary}
use Rattle.layout.specs.Decode.{a_for, a_binary, shapes, shape_of, build, build_if, tree_at, Right, ParamsAt, params_none, params_more, FunctionAt, FunctionsAt}
use Rattle.layout.specs.Decode.{functions_none, functions_more, Holds}
use Rattle.layout.specs.declared.Held.{Held}
use Rattle.layout.proofs.FunctionLaws.{function_headed}
use Rattle.layout.proofs.NameLaws.{name_inside}
use Rattle.outlines.specs.Words.{byte_of, type_of, spelled_in, takes_in, suits_at, suits_in, any_from, alone_in, Rows}
use Rattle.outlines.proofs.Matched.{Found, found_none, found_more, found_same}

-- ---- names

stands_found : (t : List ℕ) (p : ℕ) (s : List ℕ) → Stands t p s → Found (byte_of t) p s
stands_found t p [] x = found_none
stands_found t p (b ∷ s) x = found_more x.0 (stands_found t (p + 1) s x.1)

spelled_told : (t : List ℕ) (p e : ℕ) (s name : List ℕ) → e ≡ p + length s → e ≤ length t → slice p e t ≡ s → spelled_in t p e name ≡ same s name
unfolding spelled_in
spelled_told t p e s name q h x =
    let z : e - p ≡ length s = omega arith in
    rw (le-ltb e p (omega arith), z) (found_same (stands_found t p s (slice_stands t p s e (omega arith) h x)) name)

-- ---- parameters

params_found : {ts : List Token} {w : List ℕ} {r : ℕ} {ps : List Param} → ParamsAt ts w r ps → Found (type_of w) r (type_numbers ps)
unfolding type_numbers
params_found params_none = found_none
params_found (params_more a b c d r) = found_more d (params_found r)

numbers_long : (ps : List Param) → length (type_numbers ps) ≡ length ps
unfolding type_numbers
numbers_long [] = refl
numbers_long (p ∷ ps) = ap suc (numbers_long ps)

takes_told : {ts : List Token} {w : List ℕ} (r : ℕ) (ps : List Param) (takes : List ℕ) → row_word w r ARITY ≡ length ps → ParamsAt ts w (r + 1) ps
    → takes_in w r takes ≡ same (type_numbers ps) takes
unfolding takes_in
takes_told r ps takes e p = rw (e ∙ sym (numbers_long ps)) (found_same (params_found p) takes)

-- ---- functions

in_turn : (a b c : Bool) → cond a (cond b c false) false ≡ (a && (b && c))
in_turn true true c = refl
in_turn true false c = refl
in_turn false b c = refl

either_way : (a b : Bool) → cond a true b ≡ (a || b)
either_way true b = refl
either_way false b = refl

module _ {t : List ℕ} {ts : List Token} {w : List ℕ} {count : ℕ} (stand : Stand w count ts) (spots : (i : ℕ) → i < length ts → Spot t (get_or ts i past)) where
  function_told : {f : ℕ} (r : ℕ) (d : Def) (x : Wanted) → FunctionAt f ts w r d → suits_at t w r x ≡ suits x d
  unfolding suits_at suits spelling_at place_at
  function_told r d x a =
      let n : row_word w r OWN + 1 ≡ d.at + 1 = ap (λ (i : ℕ). i + 1) a.at in
      let h = name_inside ts (d.at + 1) a.name in
      let s = spots (d.at + 1) h in
      let place = stand.places (d.at + 1) (omega (arith, stand.long)) in
      let end = stand.ends (d.at + 1) (omega (arith, stand.long)) in
      let name : spelled_in t (token_place w (row_word w r OWN + 1)) (token_end w (row_word w r OWN + 1)) x.called ≡ same d.called x.called =
      rw (n, place, end, a.called)
      (spelled_told t _ _ (get_or ts (d.at + 1) past).spelling x.called refl s.inside s.spells)
      in
      rw (name, takes_told r d.params x.takes a.count a.params, a.result)
      (in_turn (same d.called x.called) (same (type_numbers d.params) x.takes) (eqb (type_number d.result) x.gives))

  any_told : {f k : ℕ} {ds : List Def} (x : Wanted) → FunctionsAt f ts w k ds → any_from t w x k (length ds) ≡ has_function x ds
  unfolding any_from has_function
  any_told x functions_none = refl
  any_told {k = k} x (functions_more {d = d} {ds = ds} a r) =
      either_way (suits_in t w k x) (any_from t w x (k + 1) (length ds))
      ∙ ap₂ (λ (a b : Bool). a || b) (function_told (function_row w k) d x a) (any_told x r)

-- ---- the last expression

shape_number : Shape → Bool
shape_number a_name = false
shape_number a_number = true
shape_number a_float = false
shape_number a_follow = false
shape_number a_group = false
shape_number a_block = false
shape_number a_call = false
shape_number a_let = false
shape_number an_if = false
shape_number a_while = false
shape_number (a_constant l) = is_whole l
shape_number (a_for r) = false
shape_number (a_unary o) = false
shape_number (a_binary o) = false

alike : Bool → Bool → Bool
alike a b = cond a b (not b)

alike_same : (a b : Bool) → T (alike a b) → a ≡ b
unfolding alike
alike_same true true t = refl
alike_same true false t = absurd t
alike_same false true t = absurd t
alike_same false false t = refl

all_alike : T (every (λ c s. alike (eqb c NUMBER) (shape_number s)) shapes)
unfolding every alike shape_number
all_alike = tt

number_shape : (k : ℕ) (s : Shape) → shape_of k ≡ some s → eqb k NUMBER ≡ shape_number s
unfolding shape_of
number_shape k s e =
    alike_same (eqb k NUMBER) (shape_number s) (entry_passes (λ c s. alike (eqb c NUMBER) (shape_number s)) shapes k all_alike e)

built : (ts : List Token) (s : Shape) (i : ℕ) (a b c : Exp) (es : Exps) → is_number (build ts s i a b c es) ≡ shape_number s
unfolding build is_number shape_number
built ts a_name i a b c es = refl
built ts a_number i a b c es = refl
built ts a_float i a b c es = refl
built ts a_follow i a b c es = refl
built ts a_group i a b c es = refl
built ts a_block i a b c es = refl
built ts a_call i a b c es = refl
built ts a_let i a b c es = refl
built ts an_if i a b c es = refl
built ts a_while i a b c es = refl
built ts (a_constant l) i a b c es = refl
built ts (a_for r) i a b c es = refl
built ts (a_unary o) i a b c es = refl
built ts (a_binary o) i a b c es = refl

tree_number : (f : ℕ) (ts : List Token) (w : List ℕ) (i : ℕ) (s : Shape) → shape_of (row_word w i KIND) ≡ some s
    → is_number (tree_at (suc f) ts w i) ≡ shape_number s
unfolding tree_at build_if
tree_number f ts w i s e = rw e (built ts s (row_word w i OWN) _ _ _ _)

alone_told : (f : ℕ) (ts : List Token) (w : List ℕ) (i : ℕ) → Right f ts w i → alone_in w i ≡ is_number (tree_at f ts w i)
unfolding Right
alone_told zero ts w i r = absurd r
alone_told (suc f) ts w i r =
    number_shape (row_word w i KIND) r.shape r.known ∙ sym (tree_number f ts w i r.shape r.known)

-- ---- a sheet that passes

nth : {f : ℕ} {ts : List Token} {w : List ℕ} {k : ℕ} {ds : List Def} → FunctionsAt f ts w k ds → (n : ℕ) → k ≤ n → n < k + length ds
    → (d : Def) × FunctionAt f ts w (function_row w n) d
nth functions_none n a b = absurd (omega arith)
nth {f} {ts} {w} {k} (functions_more {d = d} x xs) n a b = by_place (dec_le n k) (λ h. nth xs n h (omega arith))
  where
    by_place : Dec (n ≤ k) → (k + 1 ≤ n → (d : Def) × FunctionAt f ts w (function_row w n) d) → (d : Def) × FunctionAt f ts w (function_row w n) d
    by_place (yes h) later = let e : k ≡ n = omega arith in (d, subst (λ (i : ℕ). FunctionAt f ts w (function_row w i) d) e x)
    by_place (no h) later = later (omega (arith, h))

root_inside : (f : ℕ) (ts : List Token) (w : List ℕ) (i : ℕ) → Right f ts w i → i < NODES
unfolding Right
root_inside zero ts w i r = absurd r
root_inside (suc f) ts w i r = r.inside

pub held_rows : {ts : List Token} {w : List ℕ} {P : Held} {p : Program} → Holds ts w P p → Rows w P.root P.functions
held_rows {ts} {w} {P} h = record {
  long = h.long;
  main = root_inside h.depth ts w P.root h.right;
  all = λ k l.
      let a = (nth h.functions k (omega arith) (omega (arith, h.defined))).1 in
      record {
        headed = function_headed h.stand k a (omega (arith, h.few, h.stand.few));
        params = omega (arith, a.count, a.last_param);
      };
}

pub held_told : (edition : ℕ) (t : List ℕ) (x : Wanted) {ts : List Token} {w : List ℕ} {P : Held} {p : Program} {ty : Ty}
    → Passes (text_in edition t) ts p ty → Holds ts w P p
    → (alone_in w P.root ≡ is_number p.main) × (any_from t w x 0 P.functions ≡ has_function x p.defs)
held_told edition t x {ts} {w} {P} {p} a h = (
  alone_told h.depth ts w P.root h.right ∙ ap is_number h.main,
  ap (any_from t w x 0) h.defined ∙ any_told h.stand (reached_spot a.given.given.splits.whole) x h.functions,
)
