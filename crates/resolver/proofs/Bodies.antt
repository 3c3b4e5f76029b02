-- A function: its parameters, its body, and what stands behind it.
use mathlib.Core.List.{List, [], ◌∷◌}
use mathlib.Core.Path.{◌≡◌, refl, sym, ap, ap₂, subst, ◌∙◌}
use Prim.Native.Nat.{ℕ, zero, suc, ◌+◌, ◌≤◌, ◌<◌}
use native.Mathlib.Decide.{dec_lt}
use native.Mathlib.Omega.{arith}
use lib.ListN.{length}
use Rattle.language.specs.Sizes.{TOKENS, NODES}
use Rattle.language.specs.Tokens.{Token}
use Rattle.language.specs.Trees.{Exp, Param, Def}
use Rattle.layout.specs.Table.{OWN, ARITY, BODY, token_value, row_word, function_row}
use Rattle.layout.specs.Names.{Stand}
use Rattle.layout.specs.Functions.{Headed}
use Rattle.layout.specs.Decode.{tree_at, ParamsAt, params_none, params_more, FunctionAt, FunctionsAt, functions_none, functions_more}
use Rattle.layout.specs.Notes.{names_in}
use Rattle.layout.specs.Resolved.{parameters_in, Placed, PlacedDefs}
use Rattle.layout.proofs.FunctionLaws.{function_headed}
use Rattle.layout.proofs.NameLaws.{name_inside}
use Rattle.resolver.specs.Spans.{Spans, SpansDefs}
use Rattle.resolver.specs.Resolves.{Alike, Wrote, Job, Done, Binding, Bound, Suite, SuiteDone}
use Rattle.resolver.proofs.Spanning.{nonempty}
use Rattle.resolver.proofs.Writing.{wrote_then, row_alike, token_alike, function_alike, scene_after}
use Rattle.resolver.proofs.Staying.{placed_stays}

-- ---- heads and parameters

pub heads_at : {f : ℕ} {ts : List Token} {w : List ℕ} {count k : ℕ} {ds : List Def} → Stand w count ts → FunctionsAt f ts w k ds
    → k + length ds ≤ TOKENS → (i : ℕ) → k ≤ i → i < k + length ds → Headed w i
heads_at st functions_none l i p q = absurd (omega arith)
heads_at {f} {ts} {w} {count} {k} st (functions_more {d = d} {ds = ds} a h) l i p q =
    go (dec_lt k i) (λ m. heads_at st h (omega arith) i (omega arith) (omega arith))
  where
    go : Dec (k < i) → (k < i → Headed w i) → Headed w i
    go (yes m) before = before m
    go (no m) before =
        let e : k ≡ i = omega (arith, m) in
        subst (Headed w) e (function_headed st k a (omega arith))

params_own : {ts : List Token} {w : List ℕ} {r : ℕ} {ps : List Param} → ParamsAt ts w r ps → (i : ℕ) → i < length ps
    → row_word w (r + i) OWN < length ts
params_own params_none i l = absurd (omega arith)
params_own {ts} {w} {r} (params_more {p = p} o n c y q) zero l =
    let h = name_inside ts p.at n in
    let e : r + 0 ≡ r = omega arith in
    omega (arith, ap (λ (k : ℕ). row_word w k OWN) e ∙ o)
params_own {ts} {w} {r} (params_more o n c y q) (suc i) l =
    let e : r + suc i ≡ r + 1 + i = omega arith in
    omega (arith, ap (λ (k : ℕ). row_word w k OWN) e, params_own q i (omega arith))

-- the parameters of a function are the same in tables that are alike
params_alike : {w t : List ℕ} → Alike w t → (row n : ℕ) → row + n < NODES → ((i : ℕ) → i < n → row_word w (row + 1 + i) OWN < TOKENS)
    → parameters_in t row n ≡ parameters_in w row n
unfolding parameters_in
params_alike s row zero l h = refl
params_alike {w} {t} s row (suc n) l h =
    ap₂ ◌∷◌
    (ap (λ (k : ℕ). token_value t k) (row_alike s (row + 1 + n) OWN (omega arith) (omega arith)) ∙ token_alike s _ (h n (omega arith)))
    (params_alike s row n (omega arith) (λ i m. h i (omega arith)))

defs_ordered : (ds : List Def) (e : Exp) {a b : ℕ} → SpansDefs a ds e b → a ≤ b
unfolding SpansDefs
defs_ordered [] e h = let l = nonempty e h in omega arith
defs_ordered (d ∷ ds) e h =
    let p = h.1 in omega (arith, p.1, nonempty d.body p.3, defs_ordered ds e p.4)

-- ---- a function

module _ {w : List ℕ} {ts : List Token} {f a b : ℕ} {d : Def} {ds : List Def} {e : Exp} {t : List ℕ} {k defs root : ℕ}
    (s : Suite w ts f a b (d ∷ ds) e t k defs root) where
  this : FunctionAt f ts w (function_row w k) d
  this = first s.functions
    where
      first : FunctionsAt f ts w k (d ∷ ds) → FunctionAt f ts w (function_row w k) d
      first (functions_more x y) = x

  rest : FunctionsAt f ts w (k + 1) ds
  rest = others s.functions
    where
      others : FunctionsAt f ts w k (d ∷ ds) → FunctionsAt f ts w (k + 1) ds
      others (functions_more x y) = y

  pub few : k < TOKENS
  few = (s.scene.heads k (omega (arith, s.few))).few

  row_is : function_row t k ≡ function_row w k
  row_is = function_alike s.scene.alike k few

  pub cut : (m : ℕ) × ((n : ℕ) × (a ≤ m) × (length d.params ≤ m) × Spans m d.body n × SpansDefs n ds e b)
  unfolding SpansDefs
  cut = s.spans

  abbrev pub from : ℕ
  from = cut.0

  abbrev pub upto : ℕ
  upto = cut.1.0

  low : a ≤ from
  low = cut.1.1

  roomy : length d.params ≤ from
  roomy = cut.1.2

  body_spans : Spans from d.body upto
  body_spans = cut.1.3

  rest_spans : SpansDefs upto ds e b
  rest_spans = cut.1.4

  within : upto ≤ b
  within = defs_ordered ds e rest_spans

  over : from < upto
  over = nonempty d.body body_spans

  names_w : (i : ℕ) → i < length d.params → row_word w (function_row w k + 1 + i) OWN < TOKENS
  names_w i l = omega (arith, params_own this.params i l, s.tokens)

  module _ {row count body : ℕ} (is_row : row ≡ function_row t k) (is_count : count ≡ row_word t row ARITY) (is_body : body ≡ row_word t row BODY) where
    row_w : row ≡ function_row w k
    row_w = is_row ∙ row_is

    pub row_inside : row < NODES
    row_inside = omega (arith, row_w, this.inside)

    word_w : (i : ℕ) → i < 5 → row_word t row i ≡ row_word w (function_row w k) i
    word_w i l = row_alike s.scene.alike row i row_inside l ∙ ap (λ (r : ℕ). row_word w r i) row_w

    count_w : count ≡ length d.params
    count_w = is_count ∙ word_w ARITY (omega arith) ∙ this.count

    body_w : body ≡ row_word w (function_row w k) BODY
    body_w = is_body ∙ word_w BODY (omega arith)

    names_t : (i : ℕ) → i < count → row_word t (row + 1 + i) OWN < TOKENS
    names_t i l =
        let h : i < length d.params = omega (arith, count_w) in
        let g = names_w i h in
        omega (
          arith,
          row_alike s.scene.alike (row + 1 + i) OWN (omega (arith, this.last_param, row_w)) (omega arith)
              ∙ ap (λ (r : ℕ). row_word w (r + 1 + i) OWN) row_w,
        )

    pub binding : Binding t row count
    binding = record {
      long = s.scene.long;
      inside = omega (arith, this.last_param, row_w, count_w);
      names = names_t;
    }

    parameters_w : parameters_in t row count ≡ parameters_in w (function_row w k) (length d.params)
    parameters_w =
        ap₂ (λ (r n : ℕ). parameters_in t r n) row_w count_w
        ∙ params_alike s.scene.alike (function_row w k) (length d.params) this.last_param names_w

    module _ {u : List ℕ} (bound : Bound t u row count) where
      pub body_job : Job w ts f from upto u body defs count
      body_job =
          subst (λ (r : ℕ). Job w ts f from upto u r defs count) (sym body_w)
          (record {
            scene = scene_after s.scene bound.wrote;
            right = this.right;
            spans = subst (λ (x : Exp). Spans from x upto) (sym this.body) body_spans;
            room = omega (arith, count_w, roomy);
            high = omega (arith, within, s.high);
          })

      module _ {v : List ℕ} (done : Done w ts f from upto u v body defs count) where
        both : Wrote t v a b 0
        both =
            let l = low in
            let h = within in
            wrote_then bound.wrote done.wrote (omega arith) (λ i x y. absurd (omega arith)) (λ i x y. (omega arith, omega arith))

        pub rest_suite : Suite w ts f upto b ds e v (k + 1) defs root
        rest_suite = record {
          scene = scene_after s.scene both;
          few = omega (arith, s.few);
          tokens = s.tokens;
          functions = rest;
          main = s.main;
          right = s.right;
          spans = rest_spans;
          high = s.high;
        }

        body_placed : Placed w v defs (parameters_in w (function_row w k) (length d.params)) d.body
        body_placed =
            subst (λ (L : List ℕ). Placed w v defs L d.body) (bound.names ∙ parameters_w)
            (subst (λ (x : Exp). Placed w v defs (names_in u count) x)
            (ap (λ (r : ℕ). tree_at f ts w r) body_w ∙ this.body) done.placed)

        module _ {x : List ℕ} (others : SuiteDone w upto b ds e v x (k + 1) defs) where
          here : PlacedDefs w x defs k (d ∷ ds)
          unfolding PlacedDefs
          here =
              let l = within in
              let h = s.high in (
                placed_stays w defs from upto others.wrote (omega arith) (λ i y z o q. omega arith)
                    (parameters_in w (function_row w k) (length d.params)) d.body body_spans body_placed,
                others.bodies,
              )

          pub all : SuiteDone w a b (d ∷ ds) e t x k defs
          all =
              let l = low in
              let h = over in
              record {
                bodies = here;
                main = others.main;
                wrote = wrote_then both others.wrote (omega arith) (λ i y z. (y, z)) (λ i y z. (omega arith, z));
              }
