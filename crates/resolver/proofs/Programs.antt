-- Programs: the bodies of functions one after another, then the last expression.
use mathlib.Core.List.{List, [], ◌∷◌}
use mathlib.Core.Path.{◌≡◌, refl, sym, subst}
use Prim.Native.Nat.{ℕ, ◌+◌, ◌≤◌, ◌<◌}
use native.Mathlib.Omega.{arith}
use lib.ListN.{length}
use Rattle.language.specs.Sizes.{TOKENS, NODES, TABLE}
use Rattle.language.specs.Tokens.{Token}
use Rattle.language.specs.Trees.{Exp, Def, Program}
use Rattle.language.specs.Grammar.{Reading}
use Rattle.layout.specs.Table.{ARITY, BODY, row_word, function_row}
use Rattle.layout.specs.Functions.{Headed}
use Rattle.layout.specs.Decode.{Holds}
use Rattle.layout.specs.Notes.{names_in}
use Rattle.layout.specs.Resolved.{Placed, PlacedDefs, Resolved}
use Rattle.layout.specs.declared.Held.{Held}
use Rattle.layout.proofs.VariablesTrees.{holds_alike}
use Rattle.resolver.specs.Spans.{Spans, SpansDefs}
use Rattle.resolver.specs.Resolves.{Alike, Wrote, Job, Done, Placing, Places, Binding, Bound, Suite, SuiteDone, Resolving, Programs}
use Rattle.resolver.specs.Resolves.{Resolvable, Resolves}
use Rattle.resolver.proofs.Rising.{program_spans}
use Rattle.resolver.proofs.Bodies.{heads_at, few, row_inside, from, upto, binding, body_job, rest_suite, all}

-- ---- the last expression

module _ {w : List ℕ} {ts : List Token} {f a b : ℕ} {e : Exp} {t : List ℕ} {k defs root : ℕ} (s : Suite w ts f a b [] e t k defs root) where
  main_job : Job w ts f a b t root defs 0
  unfolding SpansDefs
  main_job = record {
    scene = s.scene;
    right = s.right;
    spans = subst (λ (x : Exp). Spans a x b) (sym s.main) s.spans;
    room = omega arith;
    high = s.high;
  }

  main_done : {u : List ℕ} → Done w ts f a b t u root defs 0 → SuiteDone w a b [] e t u k defs
  unfolding PlacedDefs names_in
  main_done {u} d = record {
    bodies = tt;
    main = subst (λ (x : Exp). Placed w u defs [] x) s.main d.placed;
    wrote = d.wrote;
  }

no_more : {w : List ℕ} {ts : List Token} {f a b : ℕ} {d : Def} {ds : List Def} {e : Exp} {t : List ℕ} {k defs root : ℕ}
    → Suite w ts f a b (d ∷ ds) e t k defs root → defs ≤ k → ⊥
no_more s l = omega (arith, s.few)

pub main_ready : {t : List ℕ} {k defs root : ℕ} → Resolving t k defs root → defs ≤ k → Placing t root defs 0
main_ready {t} {k} {defs} {root} p l = go p.ds p.suite
  where
    go : (ds : List Def) → Suite p.w p.ts p.f p.a p.b ds p.e t k defs root → Placing t root defs 0
    go [] s = record { w = _; ts = _; f = _; a = _; b = _; job = main_job s }
    go (d ∷ ds) s = absurd (no_more s l)

pub ended : {t u : List ℕ} {k defs root : ℕ} → defs ≤ k → Places t u root defs 0 → Programs t u k defs root
ended l p w ts f a b [] e s = main_done s (p w ts f a b (main_job s))
ended l p w ts f a b (d ∷ ds) e s = absurd (no_more s l)

no_end : {w : List ℕ} {ts : List Token} {f a b : ℕ} {e : Exp} {t : List ℕ} {k defs root : ℕ} → Suite w ts f a b [] e t k defs root → k < defs → ⊥
no_end s l = omega (arith, s.few)

unroll : {t : List ℕ} {k defs root : ℕ} {P : Type 0} → Resolving t k defs root → k < defs
    → ((w : List ℕ) (ts : List Token) (f a b : ℕ) (d : Def) (ds : List Def) (e : Exp) → Suite w ts f a b (d ∷ ds) e t k defs root → P) → P
unroll {t} {k} {defs} {root} {P} p l g = go p.ds p.suite
  where
    go : (ds : List Def) → Suite p.w p.ts p.f p.a p.b ds p.e t k defs root → P
    go [] s = absurd (no_end s l)
    go (d ∷ ds) s = g p.w p.ts p.f p.a p.b d ds p.e s

-- ---- what the calls for a function ask

module _ {t : List ℕ} {k defs root : ℕ} (p : Resolving t k defs root) (l : k < defs) where
  pub function_ready : k < TOKENS
  function_ready = unroll p l λ w ts f a b d ds e s. few s

  pub row_ready : {row : ℕ} → row ≡ function_row t k → row < NODES
  row_ready q = unroll p l λ w ts f a b d ds e s. row_inside s q refl refl

  module _ {row count body : ℕ} (is_row : row ≡ function_row t k) (is_count : count ≡ row_word t row ARITY) (is_body : body ≡ row_word t row BODY) where
    pub parameters_ready : Binding t row count
    parameters_ready = unroll p l λ w ts f a b d ds e s. binding s is_row is_count is_body

    pub body_ready : {u : List ℕ} → Bound t u row count → Placing u body defs count
    body_ready h = unroll p l λ w ts f a b d ds e s.
        record { w = w; ts = ts; f = f; a = _; b = _; job = body_job s is_row is_count is_body h }

    pub rest_ready : {u v : List ℕ} → Bound t u row count → Places u v body defs count → Resolving v (k + 1) defs root
    rest_ready h q = unroll p l λ w ts f a b d ds e s.
        record {
          w = w;
          ts = ts;
          f = f;
          a = _;
          b = _;
          ds = ds;
          e = e;
          suite = rest_suite s is_row is_count is_body h (q w ts f _ _ (body_job s is_row is_count is_body h));
        }

pub function_done : {t u v x : List ℕ} {k defs root row count body : ℕ} → k < defs → row ≡ function_row t k → count ≡ row_word t row ARITY
    → body ≡ row_word t row BODY → Bound t u row count → Places u v body defs count → Programs v x (k + 1) defs root → Programs t x k defs root
function_done l i c o h q r w ts f a b [] e s = absurd (no_end s l)
function_done l i c o h q r w ts f a b (d ∷ ds) e s =
    let y = q w ts f (from s) (upto s) (body_job s i c o h) in
    all s i c o h y (r w ts f (upto s) b ds e (rest_suite s i c o h y))

-- ---- the whole

module _ {ts : List Token} {w t : List ℕ} {P : Held} {p : Program} (h : Holds ts w P p) (r : Reading ts p) (s : Alike w t) (long : TABLE ≤ length t)
  where
    heads : (k : ℕ) → k < P.functions → Headed w k
    heads k l =
        heads_at h.stand h.functions (omega (arith, h.defined, h.few, h.stand.few)) k (omega arith) (omega (arith, h.defined))

    suite : Suite w ts h.depth 0 (length ts) p.defs p.main t 0 P.functions P.root
    suite = record {
      scene = record { long = long; alike = s; heads = heads };
      few = omega (arith, h.defined);
      tokens = omega (arith, h.stand.long, h.stand.few);
      functions = h.functions;
      main = h.main;
      right = h.right;
      spans = program_spans ts r;
      high = omega (arith, h.stand.long, h.stand.few);
    }

alike_self : (t : List ℕ) → Alike t t
alike_self t = record { same = λ j l. refl }

pub resolvable_ready : {t : List ℕ} {P : Held} → Resolvable t P → Resolving t 0 P.functions P.root
resolvable_ready {t} q = record {
  w = t;
  ts = q.ts;
  f = _;
  a = _;
  b = _;
  ds = _;
  e = _;
  suite = suite q.holds q.reading (alike_self t) q.holds.long;
}

module _ {t u : List ℕ} {P : Held} (q : Resolvable t P) (done : Programs t u 0 P.functions P.root) where
  wrote : Wrote t u 0 (length q.ts) 0
  wrote = (done t q.ts _ _ _ _ _ (suite q.holds q.reading (alike_self t) q.holds.long)).wrote

  back : Alike u t
  back = record { same = λ j l. sym (wrote.alike.same j l) }

  module _ (ts : List Token) (p : Program) (h : Holds ts t P p) where
    holds : Holds ts u P p
    holds = holds_alike u t wrote.alike.same wrote.long h

    resolved : Reading ts p → Resolved u p
    resolved r =
        let d = done u ts _ _ _ _ _ (suite holds r back q.holds.long) in
        record {
          bodies = subst (λ (n : ℕ). PlacedDefs u u n 0 p.defs) h.defined d.bodies;
          main = subst (λ (n : ℕ). Placed u u n [] p.main) h.defined d.main;
        }

  pub resolves : Resolves t u P
  resolves = record {
    long = wrote.long;
    alike = wrote.alike;
    beyond = wrote.beyond;
    holds = holds;
    resolved = resolved;
  }
