-- A program's profile on its way: functions in their order, then the last expression.
use mathlib.Core.Bool.{false}
use mathlib.Core.List.{List, [], ◌∷◌}
use mathlib.Core.Option.{some}
use mathlib.Core.Path.{◌≡◌, refl, sym, ap, ap₂, subst, ◌∙◌}
use Rattle.std.specs.Prelude.{Ok, Err}
use Prim.Native.Nat.{ℕ, ◌+◌, ◌*◌, ◌-◌, ◌≤◌, ◌<◌}
use native.Mathlib.Decide.{dec_lt, ℕ_discrete}
use native.Mathlib.Numerals.{add-one}
use native.Mathlib.Omega.{arith}
use lib.ListN.{length, get_or, length-set}
use lib.Seq.{get_or-set_same, get_or-set_other}
use borrow.Author.Tests.{lt-ltb, le-ltb, eq-eqb, ne_eqb}
use Rattle.language.specs.Sizes.{TOKENS, NODES, TABLE}
use Rattle.language.specs.Tokens.{Token, same}
use Rattle.language.specs.Trees.{Def, Program, Scope, empty, push, PUTCHAR}
use Rattle.language.specs.Grammar.{Reading}
use Rattle.language.specs.Profile.{or_else, endless, endless_from, first_endless, cost, body_costs, units_most}
use Rattle.language.proofs.Profiles.Inside.{endless_inside}
use Rattle.layout.specs.Table.{VARIABLES_AT, BODY, row_word, function_row}
use Rattle.layout.specs.Names.{Stand, Named}
use Rattle.layout.specs.Functions.{function_name, Headed}
use Rattle.layout.specs.Decode.{FunctionAt, FunctionsAt, functions_none, functions_more, Holds}
use Rattle.layout.specs.declared.Held.{Held}
use Rattle.layout.proofs.Clearing.{zeros_set}
use Rattle.layout.proofs.NameLaws.{named_same}
use Rattle.layout.proofs.FunctionLaws.{function_named, function_headed}
use Rattle.layout.proofs.VariablesTrees.{right_inside, function_alike, holds_alike}
use Rattle.profiles.specs.Shares.{FULL, going_on, share, body_word, put_share}
use Rattle.profiles.specs.Passes.{Passed, pass_none, pass_more, Heads, AtRow, PassedTo}
use Rattle.profiles.specs.Profiled.{Countable, Counted, Answers, Beyond, Reckoned, told, Bodied, BodyPassed}
use Rattle.profiles.specs.declared.Uncounted.TheVariants.{EndlessNode, ManyUnits}
use Rattle.profiles.proofs.ShareLaws.{going_inside, share_endless, share_ends, count_many, count_few}
use Rattle.profiles.proofs.PassLaws.{passed_kept, name_kept, heads_kept}
use Rattle.profiles.proofs.TreeLaws.{tree_share}
use Rattle.profiles.proofs.SightLaws.{Prices, priced_none, priced_more, prices_kept, Selfish, nobody, pass_share}

-- ---- answers

module _ (s : ℕ) where
  pub told_endless : FULL < s → told s ≡ Err (EndlessNode (s - FULL - 1))
  unfolding told
  told_endless h = rw (lt-ltb FULL s h) refl

  pub told_many : s ≤ FULL → s ≡ FULL → told s ≡ Err ManyUnits
  unfolding told
  told_many h e = rw (le-ltb FULL s h, eq-eqb s FULL e) refl

  pub told_units : s ≤ FULL → (s ≡ FULL → ⊥) → told s ≡ Ok s
  unfolding told
  told_units h e = rw (le-ltb FULL s h, ne_eqb s FULL e) refl

module _ (ts : List Token) (p : Program) (few : length ts ≤ TOKENS) (reading : Reading ts p) where
  -- an endless node of a reading has one of its tokens
  endless_told : (i s : ℕ) → first_endless p ≡ some i → s ≡ going_on i → FULL < s → Answers (told s) p
  endless_told i s e f h =
      let l = endless_inside ts p i reading e in
      let g = going_inside i (omega arith) in
      let d : i ≡ s - FULL - 1 = omega (arith, f, g) in
      subst (λ (a : Counted). Answers a p) (sym (told_endless s h)) (e ∙ ap some d)

  share_told : (s : ℕ) → s ≡ share (first_endless p) (units_most p) → Answers (told s) p
  share_told s e = go (dec_lt FULL s) (ℕ_discrete s FULL)
    where
      go : Dec (FULL < s) → Dec (s ≡ FULL) → Answers (told s) p
      go (yes h) d = let z = share_endless (first_endless p) (units_most p) s e h in endless_told z.0 s z.1 z.2 h
      go (no h) (yes d) =
          let z = share_ends (first_endless p) (units_most p) s e (omega (arith, h)) in
          subst (λ (a : Counted). Answers a p) (sym (told_many s (omega (arith, h)) d)) (z.0, count_many (units_most p) s z.1 d)
      go (no h) (no d) =
          let z = share_ends (first_endless p) (units_most p) s e (omega (arith, h)) in
          let k = count_few (units_most p) s z.1 (omega (arith, h)) d in
          subst (λ (a : Counted). Answers a p) (sym (told_units s (omega (arith, h)) d)) (z.0, k.0, k.1)

-- ---- what stays

pub beyond_self : (w : List ℕ) → Beyond w w
beyond_self w = record { before = λ j h. refl; rest = refl; long = refl }

beyond_put : {w v : List ℕ} (i s : ℕ) → i < NODES + TOKENS → Beyond w v → Beyond w (put_share v i s)
beyond_put {v = v} i s l h = record {
  before = λ j k. get_or-set_other v (VARIABLES_AT + i) j s 0 (λ e. omega arith) ∙ h.before j k;
  rest = zeros_set (2 * TOKENS) v VARIABLES_AT (VARIABLES_AT + i) s (omega arith) (omega arith) ∙ h.rest;
  long = length-set v (VARIABLES_AT + i) s ∙ h.long;
}

passed_beyond : {x n : ℕ} {u w : List ℕ} {i : ℕ} {v : List ℕ} → Beyond u w → Passed x n w i v → i ≤ NODES → Beyond u v
passed_beyond b pass_none l = b
passed_beyond b (pass_more {i} {s} p q) l = beyond_put i s (omega arith) (passed_beyond b p (omega arith))

-- ---- functions

headed_all : {ts : List Token} {w : List ℕ} {count f k : ℕ} {ds : List Def} → Stand w count ts → FunctionsAt f ts w k ds → k + length ds ≤ TOKENS
    → (j : ℕ) → k ≤ j → j < k + length ds → Headed w j
headed_all st functions_none l j a b = absurd (omega arith)
headed_all {w = w} st (functions_more {k = k} a q) l j x y =
    go (ℕ_discrete j k) (λ z. headed_all st q (omega arith) j z (omega arith))
  where
    go : Dec (j ≡ k) → (k + 1 ≤ j → Headed w j) → Headed w j
    go (yes e) ih = subst (Headed w) (sym e) (function_headed st k a (omega arith))
    go (no e) ih = ih (omega (arith, e))

-- a table that holds a program has the names of its functions
holds_heads : {ts : List Token} {w : List ℕ} {P : Held} {p : Program} (n : ℕ) → Holds ts w P p → n ≤ P.functions → Heads w n
holds_heads n h l = record {
  long = h.long;
  few = omega (arith, l, h.few, h.stand.few);
  heads = λ k a.
      headed_all h.stand h.functions (omega (arith, h.defined, h.few, h.stand.few)) k (omega arith) (omega (arith, h.defined, l));
}

prices_put : {ts : List Token} {w : List ℕ} {n k : ℕ} {costs : Scope ℕ} (m s : ℕ) → Heads w n → k ≤ n → k ≤ m → Prices ts w k costs
    → Prices ts (put_share w (NODES + m) s) k costs
prices_put m s h l a priced_none = priced_none
prices_put {ts} {w} m s h l a (priced_more {k = k} {f = f} p q e) =
    let v = put_share w (NODES + m) s in
    let same_before : (j : ℕ) → j < VARIABLES_AT → get_or v j 0 ≡ get_or w j 0 =
    λ j b. get_or-set_other w (VARIABLES_AT + (NODES + m)) j s 0 (λ z. omega arith) in
    priced_more (prices_put m s h (omega arith) (omega arith) p)
    (subst (λ (y : ℕ). Named ts y f) (sym (name_kept w v same_before (h.heads k (omega arith)))) q)
    (get_or-set_other w (VARIABLES_AT + (NODES + m)) (VARIABLES_AT + (NODES + k)) s 0 (λ z. omega arith) ∙ e)

-- ---- on the way

-- before function k, which is the first of `rest`; u is the table as it was lent
pub record Going (ts : List Token) (u w : List ℕ) (P : Held) (p : Program) (k : ℕ) : Type 0 where
  pub depth : ℕ
  pub rest : List Def
  pub costs : Scope ℕ
  pub functions : FunctionsAt depth ts u k rest
  pub left : k + length rest ≡ P.functions
  pub endless : first_endless p ≡ endless_from rest p.main
  pub counts : body_costs p.defs (push PUTCHAR 0 empty) ≡ body_costs rest costs
  pub prices : Prices ts w k costs

pub record Counting (u w : List ℕ) (P : Held) (k : ℕ) : Type 0 where
  pub reached : k ≤ P.functions
  pub beyond : Beyond u w
  pub going : (ts : List Token) (p : Program) → Holds ts u P p → Going ts u w P p k

pub counting_starts : {u : List ℕ} {P : Held} → Counting u u P 0
counting_starts {u} = record {
  reached = omega arith;
  beyond = beyond_self u;
  going = λ ts p h. record {
    depth = h.depth;
    rest = p.defs;
    costs = push PUTCHAR 0 empty;
    functions = h.functions;
    left = omega (arith, h.defined);
    endless = refl;
    counts = refl;
    prices = priced_none;
  };
}

module _ {u w : List ℕ} {P : Held} {k : ℕ} (lent : Countable u P) (h : Counting u w P k) where
  still : {ts : List Token} {p : Program} → Holds ts u P p → Holds ts w P p
  still a = holds_alike w u h.beyond.before h.beyond.long a

  pub counting_long : TABLE ≤ length w
  counting_long = (still lent.holds).long

  pub counting_few : k ≤ TOKENS
  counting_few = omega (arith, h.reached, lent.holds.few, lent.holds.stand.few)

  module _ (more : k < P.functions) where
    row_still : function_row w k ≡ function_row u k
    row_still = h.beyond.before _ (omega (arith, counting_few))

    root_of : {ts : List Token} {f : ℕ} (ds : List Def) → FunctionsAt f ts u k ds → 0 < length ds → row_word w (function_row w k) BODY < NODES
    root_of [] a l = absurd (omega arith)
    root_of {ts} {f} (d ∷ ds) (functions_more a q) l =
        subst (λ (r : ℕ). row_word w r BODY < NODES) (sym row_still) (right_inside f ts w _ (function_alike w u h.beyond.before a).right)

    pub counting_body : Bodied w k
    counting_body =
        let g = h.going lent.tokens lent.program lent.holds in
        record {
          heads = holds_heads (k + 1) (still lent.holds) (omega arith);
          root = root_of g.rest g.functions (omega (arith, g.left));
        }

    module _ {w' : List ℕ} {s : ℕ} (q : BodyPassed w w' k s) where
      body_beyond : Beyond u w'
      body_beyond = passed_beyond h.beyond q.passed (omega (arith, counting_body.root))

      module _ (ts : List Token) (p : Program) (a : Holds ts u P p) where
        -- what was worked out for the body
        body_share : {f : ℕ} {d : Def} {costs : Scope ℕ} → FunctionAt f ts u (function_row u k) d → Prices ts w k costs
            → s ≡ share (endless (λ x. same x d.called) d.body) (cost costs d.body)
        unfolding tree_share
        body_share {f} {d} {costs} b prices =
            let H = still a in
            let c = subst (λ (r : ℕ). FunctionAt f ts w r d) (sym row_still) (function_alike w u h.beyond.before b) in
            let few : length ts ≤ TOKENS = omega (arith, H.stand.long, H.stand.few) in
            let own : Selfish ts (function_name w k) (λ x. same x d.called) = λ y x n. named_same few n (function_named H.stand c) in
            pass_share ts (function_name w k) k (λ x. same x d.called) costs own (holds_heads k H h.reached) H.stand prices f
            (right_inside f ts w _ c.right) c.right q
            ∙ ap (tree_share (λ x. same x d.called) costs) c.body

        stopped : {f : ℕ} {costs : Scope ℕ} (rest : List Def) → Reading ts p → FULL < s → FunctionsAt f ts u k rest → k + length rest ≡ P.functions
            → first_endless p ≡ endless_from rest p.main → Prices ts w k costs → Answers (told s) p
        unfolding endless_from or_else
        stopped [] rd far fs e first prices = absurd (omega arith)
        stopped (d ∷ ds) rd far (functions_more b fs) e first prices =
            let z = share_endless _ _ s (body_share b prices) far in
            endless_told ts p (omega (arith, a.stand.long, a.stand.few)) rd z.0 s
            (first ∙ ap (λ x. or_else x (endless_from ds p.main)) z.1) z.2 far

        went : (g : Going ts u w P p k) → s ≤ FULL → {v : List ℕ} → Beyond u v → v ≡ put_share w' (NODES + k) s → Going ts u v P p (k + 1)
        unfolding endless_from or_else body_costs
        went g near {v} beyond e = go g.rest g.functions g.left g.endless g.counts
          where
            go : (rest : List Def) → FunctionsAt g.depth ts u k rest → k + length rest ≡ P.functions → first_endless p ≡ endless_from rest p.main
                → body_costs p.defs (push PUTCHAR 0 empty) ≡ body_costs rest g.costs → Going ts u v P p (k + 1)
            go [] fs l first cnt = absurd (omega arith)
            go (d ∷ ds) (functions_more b fs) l first cnt =
                let z = share_ends _ _ s (body_share b g.prices) near in
                let heads = holds_heads k (still a) h.reached in
                let kept = passed_kept q.passed (omega (arith, counting_body.root)) in
                let long : TABLE ≤ length w' = omega (arith, kept.long, counting_long) in
                let prices = prices_put k s (heads_kept kept heads) (omega arith) (omega arith) (prices_kept heads kept (omega arith) g.prices) in
                let row : function_row v k ≡ function_row u k = beyond.before _ (omega (arith, h.reached, a.few, a.stand.few)) in
                let c = subst (λ (r : ℕ). FunctionAt g.depth ts v r d) (sym row) (function_alike v u beyond.before b) in
                let named = function_named (holds_alike v u beyond.before beyond.long a).stand c in
                let put : body_word v k ≡ s = ap (λ (x : List ℕ). body_word x k) e
                ∙ get_or-set_same w' (VARIABLES_AT + (NODES + k)) s 0 (omega (arith, counting_few)) in
                record {
                  depth = g.depth;
                  rest = ds;
                  costs = push d.called (cost g.costs d.body) g.costs;
                  functions = fs;
                  left = omega (arith, l);
                  endless = first ∙ ap (λ x. or_else x (endless_from ds p.main)) z.0;
                  counts = cnt;
                  prices = subst (λ (n : ℕ). Prices ts v n (push d.called (cost g.costs d.body) g.costs)) (sym (add-one k))
                      (priced_more (subst (λ (x : List ℕ). Prices ts x k g.costs) (sym e) prices) named (put ∙ z.1));
                }

      pub counting_stops : {r : Counted} → FULL < s → r ≡ told s → Reckoned u w' P r
      counting_stops far e = record {
        right = λ ts p a rd.
            let g = h.going ts p a in
            subst (λ (r : Counted). Answers r p) (sym e) (stopped ts p a g.rest rd far g.functions g.left g.endless g.prices);
        table = body_beyond;
      }

      pub counting_goes : {v : List ℕ} → s ≤ FULL → v ≡ put_share w' (NODES + k) s → Counting u v P (k + 1)
      counting_goes {v} near e =
          let beyond : Beyond u v = rw e (beyond_put (NODES + k) s (omega (arith, h.reached, lent.holds.few, lent.holds.stand.few)) body_beyond) in
          record { reached = omega arith; beyond = beyond; going = λ ts p a. went ts p a (h.going ts p a) near beyond e }

      pub counting_room : TABLE ≤ length w'
      counting_room = omega (arith, q.long, counting_long)

  -- ---- the last expression

  module _ (over : P.functions ≤ k) where
    pub counting_main : AtRow w P.root P.functions
    counting_main =
        let H = still lent.holds in
        record { inside = right_inside H.depth _ w P.root H.right; heads = holds_heads P.functions H (omega arith) }

    module _ {w' : List ℕ} {s : ℕ} (q : PassedTo w w' P.root (TOKENS + 1) P.functions s) where
      main_share : (ts : List Token) (p : Program) → Holds ts u P p → s ≡ share (first_endless p) (units_most p)
      unfolding tree_share endless_from body_costs units_most
      main_share ts p a = go g.rest g.left g.endless g.counts
        where
          g : Going ts u w P p k
          g = h.going ts p a

          go : (rest : List Def) → k + length rest ≡ P.functions → first_endless p ≡ endless_from rest p.main
              → body_costs p.defs (push PUTCHAR 0 empty) ≡ body_costs rest g.costs → s ≡ share (first_endless p) (units_most p)
          go [] l first cnt =
              let H = still a in
              let few : length ts ≤ TOKENS = omega (arith, H.stand.long, H.stand.few) in
              let z : k ≡ P.functions = omega (arith, l) in
              let prices = subst (λ (n : ℕ). Prices ts w n g.costs) z g.prices in
              pass_share ts (TOKENS + 1) P.functions (λ _. false) g.costs (nobody ts few) (holds_heads P.functions H (omega arith)) H.stand
              prices H.depth (right_inside H.depth ts w P.root H.right) H.right q
              ∙ ap (tree_share (λ _. false) g.costs) H.main
              ∙ ap₂ share (sym first) (ap (λ (x : Scope ℕ). cost x p.main) (sym cnt))
          go (d ∷ ds) l first cnt = absurd (omega arith)

      pub counting_ends : {r : Counted} → r ≡ told s → Reckoned u w' P r
      counting_ends e = record {
        right = λ ts p a rd.
            subst (λ (r : Counted). Answers r p) (sym e)
            (share_told ts p (omega (arith, a.stand.long, a.stand.few)) rd s (main_share ts p a));
        table = passed_beyond h.beyond q.passed (omega (arith, counting_main.inside));
      }
