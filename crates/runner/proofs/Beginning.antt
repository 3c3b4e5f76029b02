-- What beginning a node does: units and depth, names and literals.
use mathlib.Core.Path.{◌≡◌, refl, sym, ap, subst, ◌∙◌}
use mathlib.Core.Bool.{false}
use mathlib.Core.List.{List}
use mathlib.Core.Option.{Option, none, some}
use Prim.Native.Nat.{ℕ, zero, suc, ◌+◌, ◌*◌, ◌-◌, ◌≤◌, ◌<◌}
use native.Mathlib.Omega.{arith}
use lib.ListN.{length}
use Rattle.language.specs.Sizes.{TOKENS, NODES, ACTIVE}
use Rattle.language.specs.Tokens.{Token, NAME}
use Rattle.language.specs.Trees.{Name, Exp, name, literal, unary, binary, follow, group, block, call, bind, branch, loop, counted, Scope, own, nearest}
use Rattle.language.specs.State as M
use Rattle.language.specs.State.{value, stop, stuck, no_unit, too_deep, then, when_some, with_units}
use Rattle.language.specs.Meaning.{Fun, Env, charge, begin, literal_value, step, eval}
use Rattle.layout.specs.Table.{KIND, OWN, row_word, token_value}
use Rattle.layout.specs.Slots.{WAITING, SLOTS, value_at}
use Rattle.layout.specs.Notes.{noted}
use Rattle.layout.specs.Resolved.{slot_of}
use Rattle.layout.specs.Values.{meant}
use Rattle.layout.specs.declared.values.Value.{Value}
use Rattle.machine.specs.Rows.{literal_of, LiteralRow}
use Rattle.machine.specs.Outcomes.{memory}
use Rattle.numbers.specs.declared.Stop.{Stop}
use Rattle.machine.specs.declared.state.Tally.{Tally}
use Rattle.runner.specs.Phases.{waits}
use Rattle.runner.specs.Trees.{NameAt, At, at_name, at_literal, at_unary, at_binary, at_follow, at_group}
use Rattle.runner.specs.Trees.{at_block, at_call, at_bind, at_branch, at_loop, at_counted, slack, Scene}
use Rattle.runner.specs.Waiting.{Run, Then, Binds, Stack}
use Rattle.runner.specs.Standing.{Fair, Begins, Starts, Gives, Good, charged, over}
use Rattle.runner.specs.declared.state.Spot.{Spot}
use Rattle.runner.specs.Standing.{Ending}
use Rattle.layout.proofs.Shapes.{unary_high, binary_between}
use Rattle.runner.proofs.RowKinds.{literal_range, range_between, range_waits, unary_waits, binary_waits, semi_waits}
use Rattle.runner.proofs.RowKinds.{group_waits, block_waits, call_waits, let_waits, if_waits, while_waits, clash, clash_waits}
use Rattle.runner.proofs.Finding.{noted_holds}
use Rattle.runner.proofs.Entering.{fair_low}

-- ---- rows

module _ {ts : List Token} {t : List ℕ} {defs : ℕ} {L : List ℕ} {row : ℕ} where
  pub own_at : {e : Exp} → At ts t defs L row e → own e ≡ row_word t row OWN
  unfolding own
  own_at (at_name h x m) = sym h.own_is
  own_at (at_literal h x y) = sym h.own_is
  own_at (at_unary h x) = sym h.own_is
  own_at (at_binary h x y) = sym h.own_is
  own_at (at_follow h x y) = sym h.own_is
  own_at (at_group h x) = sym h.own_is
  own_at (at_block h x) = sym h.own_is
  own_at (at_call h x y z m) = sym h.own_is
  own_at (at_bind h x y z) = sym h.own_is
  own_at (at_branch h x y z) = sym h.own_is
  own_at (at_loop h x y) = sym h.own_is
  own_at (at_counted h x y z u) = sym h.own_is

  pub inside_at : {e : Exp} → At ts t defs L row e → row < NODES
  inside_at (at_name h x m) = h.inside
  inside_at (at_literal h x y) = h.inside
  inside_at (at_unary h x) = h.inside
  inside_at (at_binary h x y) = h.inside
  inside_at (at_follow h x y) = h.inside
  inside_at (at_group h x) = h.inside
  inside_at (at_block h x) = h.inside
  inside_at (at_call h x y z m) = h.inside
  inside_at (at_bind h x y z) = h.inside
  inside_at (at_branch h x y z) = h.inside
  inside_at (at_loop h x y) = h.inside
  inside_at (at_counted h x y z u) = h.inside

-- a Block has one slot more at most
pub slack_one : (e : Exp) → slack e ≤ 1
unfolding slack
slack_one (name i x) = omega arith
slack_one (literal i l) = omega arith
slack_one (unary i o e) = omega arith
slack_one (binary i o e f) = omega arith
slack_one (follow i e f) = omega arith
slack_one (group i e) = omega arith
slack_one (block i e) = omega arith
slack_one (call i f es) = omega arith
slack_one (bind i x e f) = omega arith
slack_one (branch i c e f) = omega arith
slack_one (loop i c e) = omega arith
slack_one (counted i x b es e) = omega arith

-- ---- a unit is used

charge_none : (u i : ℕ) (s : M.State) (k : M.State → M.Outcome) → u ≡ 0 → charge u i s k ≡ stop no_unit i s
unfolding charge
charge_none u i s k e = rw e refl

charge_some : (u i : ℕ) (s : M.State) (k : M.State → M.Outcome) → (u ≡ 0 → ⊥) → charge u i s k ≡ k (with_units (u - 1) s)
unfolding charge
charge_some zero i s k n = absurd (n refl)
charge_some (suc u) i s k n = ap (λ (x : ℕ). k (with_units x s)) (omega arith)

module _ (fs : Scope Fun) (e : Exp) (env : Env) (s : M.State) where
  eval_none : (d : ℕ) → s.units ≡ 0 → eval fs d e env s ≡ stop no_unit (own e) s
  unfolding eval begin
  eval_none zero z = charge_none s.units (own e) s _ z
  eval_none (suc d) z = charge_none s.units (own e) s _ z

  eval_deep : (d : ℕ) → (s.units ≡ 0 → ⊥) → d ≡ 0 → eval fs d e env s ≡ stop too_deep (own e) (with_units (s.units - 1) s)
  unfolding eval begin
  eval_deep d n z = rw z (charge_some s.units (own e) s _ n)

  eval_begun : (d : ℕ) → (s.units ≡ 0 → ⊥) → eval fs (suc d) e env s ≡ step fs (eval fs d) e env (with_units (s.units - 1) s)
  unfolding eval begin
  eval_begun d n = charge_some s.units (own e) s _ n

-- the unit pays for what the node does
fair_charged : {q : Run} {w o : List ℕ} {s : Tally} {h : ℕ} → (s.units ≡ 0 → ⊥) → Fair q w o s h → Fair q w o (charged s) (suc h)
fair_charged n f = record {
  room = record { long = f.room.long; few = f.room.few; low = f.room.low; rising = f.room.rising };
  paid = omega (arith, f.paid);
  printed = f.printed;
  long = f.long;
  beyond = f.beyond;
  wide = f.wide;
  rest = f.rest;
}

starts : {q : Run} {t w o : List ℕ} {node : ℕ} {p : Spot} {s : Tally} (d : ℕ) (e : Exp) (L : List ℕ) (env : Env) (κ : Then)
    → Scene q.ts t q.defs q.fs → Fair q w o s p.height → d + p.height ≡ ACTIVE + 1 → 1 ≤ p.height
    → At q.ts t q.defs L node e → p.size ≡ length L → Binds q.ts w p.base L env → p.base + length L + WAITING * d ≤ WAITING * ACTIVE + slack e
    → Stack q t w d p.height (p.base + length L) s.cells s.births κ → then (eval q.fs d e env (memory w o s)) κ ≡ q.whole
    → (s.units ≡ 0 → ⊥) → (p.height ≡ ACTIVE + 1 → ⊥) → Starts q t w o node p (charged s)
starts zero e L env κ scene fair deep high at sized binds room stack means n l = absurd (l (omega arith))
starts {q} {w = w} {o = o} {s = s} (suc d) e L env κ scene fair deep high at sized binds room stack means n l = record {
  scene = scene;
  fair = fair_charged n fair;
  d = d;
  e = e;
  L = L;
  env = env;
  κ = κ;
  deep = deep;
  high = high;
  at = at;
  sized = sized;
  binds = binds;
  room = room;
  stack = stack;
  means = ap (λ (x : M.Outcome). then x κ) (sym (eval_begun q.fs e env (memory w o s) d n)) ∙ means;
}

module _ {q : Run} {t w o : List ℕ} {node : ℕ} {p : Spot} {s : Tally} (b : Begins q t w o node p s) where
  pub begin_none : s.units ≡ 0 → (place : ℕ) → place ≡ row_word t node OWN → (v : Value)
      → Good q t w o (over (Ending.stopped Stop.NoUnit place) v p s)
  unfolding then
  begin_none z place e v = record {
    fair = fair_low 0 (omega arith) b.fair;
    tells = ap (λ (x : ℕ). stop no_unit x (memory w o s)) (e ∙ sym (own_at b.at))
        ∙ ap (λ (x : M.Outcome). then x b.κ) (sym (eval_none q.fs b.e b.env (memory w o s) b.d z)) ∙ b.means;
  }

  pub begin_deep : (s.units ≡ 0 → ⊥) → p.height ≡ ACTIVE + 1 → (place : ℕ) → place ≡ row_word t node OWN → (v : Value)
      → Good q t w o (over (Ending.stopped Stop.TooDeep place) v p (charged s))
  unfolding then
  begin_deep n l place e v = record {
    fair = fair_low 0 (omega arith) (fair_charged n b.fair);
    tells = ap (λ (x : ℕ). stop too_deep x (memory w o (charged s))) (e ∙ sym (own_at b.at))
        ∙ ap (λ (x : M.Outcome). then x b.κ) (sym (eval_deep q.fs b.e b.env (memory w o s) b.d n (omega (arith, b.deep)))) ∙ b.means;
  }

  pub begin_starts : (s.units ≡ 0 → ⊥) → (p.height ≡ ACTIVE + 1 → ⊥) → Starts q t w o node p (charged s)
  begin_starts n l =
      starts b.d b.e b.L b.env b.κ b.scene b.fair b.deep b.high b.at b.sized b.binds b.room b.stack b.means n l

-- ---- leaves

module _ {q : Run} {t w o : List ℕ} {node : ℕ} {p : Spot} {s : Tally} (b : Starts q t w o node p s) where
  abbrev σ : M.State
  σ = memory w o s

  -- the node has a value
  leaf : (v : Value) → step q.fs (eval q.fs b.d) b.e b.env σ ≡ value (meant v) σ → Gives q t w o v p s
  unfolding then
  leaf v e = record {
    scene = b.scene;
    fair = fair_low p.height (omega arith) b.fair;
    d = suc b.d;
    a = p.base + length b.L;
    κ = b.κ;
    deep = b.deep;
    high = b.high;
    stack = b.stack;
    means = ap (λ (x : M.Outcome). then x b.κ) (sym e) ∙ b.means;
  }

-- ---- names

-- where the run is not stuck a name is bound
bound : (q : Run) (s : M.State) (κ : Then) (m : Option M.Value) → then (when_some m (λ u. value u s) λ _. stuck) κ ≡ q.whole
    → (u : M.Value) × (m ≡ some u)
unfolding then when_some
bound q s κ none f = absurd (q.safe (sym f))
bound q s κ (some u) f = (u, refl)

-- the name at a row, and what it is bound to
record Looked (q : Run) (t w : List ℕ) (node base : ℕ) (L : List ℕ) (m : M.Outcome) (s : M.State) : Type 0 where
  x : Name
  named : NameAt q.ts t (row_word t node OWN) x
  v : M.Value
  inside : noted t (row_word t node OWN) < length L
  held : value_at w 0 (base + noted t (row_word t node OWN)) ≡ v
  is : m ≡ value v s

module _ (q : Run) {t w : List ℕ} {node base : ℕ} {L : List ℕ} {env : Env} (s : M.State) (κ : Then) (go : Exp → Env → M.State → M.Outcome)
    (few : length q.ts ≤ TOKENS) (binds : Binds q.ts w base L env) where
  looked : {e : Exp} → At q.ts t q.defs L node e → then (step q.fs go e env s) κ ≡ q.whole → row_word t node KIND ≡ NAME
      → Looked q t w node base L (step q.fs go e env s) s
  unfolding step when_some
  looked (at_name {i = i} {x = x} h n y) means k =
      let u = bound q s κ (nearest x env) means in
      let m : NameAt q.ts t (row_word t node OWN) x = subst (λ (j : ℕ). NameAt q.ts t j x) (sym h.own_is) n in
      let z : noted t (row_word t node OWN) ≡ slot_of (token_value t (row_word t node OWN)) L =
      subst (λ (j : ℕ). noted t j ≡ slot_of (token_value t j) L) (sym h.own_is) y in
      let r = noted_holds few m binds z u.0 u.1 in
      record {
        x = x;
        named = m;
        v = u.0;
        inside = r.0;
        held = r.1;
        is = ap (λ (m : Option M.Value). when_some m (λ y. value y s) λ _. stuck) u.1;
      }
  looked (at_literal {l = l} h x y) means k = clash h.kind_is k (λ z. omega (arith, literal_range l))
  looked (at_unary {o = o} h x) means k = clash h.kind_is k (λ z. omega (arith, unary_high o))
  looked (at_binary {o = o} h x y) means k = clash h.kind_is k (λ z. omega (arith, binary_between o))
  looked (at_follow h x y) means k = clash h.kind_is k (λ z. omega arith)
  looked (at_group h x) means k = clash h.kind_is k (λ z. omega arith)
  looked (at_block h x) means k = clash h.kind_is k (λ z. omega arith)
  looked (at_call h x y z m) means k = clash h.kind_is k (λ z. omega arith)
  looked (at_bind h x y z) means k = clash h.kind_is k (λ z. omega arith)
  looked (at_branch h x y z) means k = clash h.kind_is k (λ z. omega arith)
  looked (at_loop h x y) means k = clash h.kind_is k (λ z. omega arith)
  looked (at_counted {b = b} h x y z u) means k = clash h.kind_is k (λ e. omega (arith, range_between b))

-- ---- literals

module _ (q : Run) {t : List ℕ} {node : ℕ} (go : Exp → Env → M.State → M.Outcome) (env : Env) (s : M.State) where
  literal_row : {L : List ℕ} {e : Exp} → At q.ts t q.defs L node e → (row_word t node KIND ≡ NAME → ⊥) → waits (row_word t node KIND) ≡ false
      → LiteralRow t node × (step q.fs go e env s ≡ value (literal_value (literal_of t node)) s)
  unfolding step
  literal_row (at_literal h x y) n f = (y, rw x refl)
  literal_row (at_name h x m) n f = absurd (n h.kind_is)
  literal_row (at_unary {o = o} h x) n f = clash_waits h.kind_is f (unary_waits o)
  literal_row (at_binary {o = o} h x y) n f = clash_waits h.kind_is f (binary_waits o)
  literal_row (at_follow h x y) n f = clash_waits h.kind_is f semi_waits
  literal_row (at_group h x) n f = clash_waits h.kind_is f group_waits
  literal_row (at_block h x) n f = clash_waits h.kind_is f block_waits
  literal_row (at_call h x y z m) n f = clash_waits h.kind_is f call_waits
  literal_row (at_bind h x y z) n f = clash_waits h.kind_is f let_waits
  literal_row (at_branch h x y z) n f = clash_waits h.kind_is f if_waits
  literal_row (at_loop h x y) n f = clash_waits h.kind_is f while_waits
  literal_row (at_counted {b = b} h x y z u) n f = clash_waits h.kind_is f (range_waits b)

module _ {q : Run} {t w o : List ℕ} {node : ℕ} {p : Spot} {s : Tally} (b : Starts q t w o node p s) where
  found : row_word t node KIND ≡ NAME
      → Looked q t w node p.base b.L (step q.fs (eval q.fs b.d) b.e b.env (memory w o s)) (memory w o s)
  found k = looked q (memory w o s) b.κ (eval q.fs b.d) b.scene.stand.few b.binds b.at b.means k

  -- its name is a token's
  pub name_token : row_word t node KIND ≡ NAME → row_word t node OWN < TOKENS
  name_token k = (found k).named.inside

  -- the slot that is noted of it is in use
  pub name_slot : row_word t node KIND ≡ NAME → p.base + noted t (row_word t node OWN) < SLOTS
  name_slot k = omega (arith, (found k).inside, b.room, slack_one b.e)

  pub start_name : row_word t node KIND ≡ NAME → (v : Value) → meant v ≡ value_at w 0 (p.base + noted t (row_word t node OWN)) → Gives q t w o v p s
  start_name k v h =
      let f = found k in
      leaf b v (f.is ∙ ap (λ (x : M.Value). value x (memory w o s)) (sym (h ∙ f.held)))

  pub literal_is : (row_word t node KIND ≡ NAME → ⊥) → waits (row_word t node KIND) ≡ false → LiteralRow t node
  literal_is n f = (literal_row q (eval q.fs b.d) b.env (memory w o s) b.at n f).0

  pub start_literal : (row_word t node KIND ≡ NAME → ⊥) → waits (row_word t node KIND) ≡ false → (v : Value)
      → meant v ≡ literal_value (literal_of t node) → Gives q t w o v p s
  start_literal n f v e =
      leaf b v ((literal_row q (eval q.fs b.d) b.env (memory w o s) b.at n f).1
      ∙ ap (λ (x : M.Value). value x (memory w o s)) (sym e))
