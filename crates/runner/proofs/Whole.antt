-- The whole run: the table stands for the program, whose meaning is never stuck, so what the loop ends with is what is meant.
use mathlib.Core.Path.{◌≡◌, refl, sym, ap, subst, ◌∙◌}
use mathlib.Core.Bool.{false}
use mathlib.Core.List.{List, [], ◌∷◌}
use Prim.Native.Nat.{ℕ, zero, suc, ◌+◌, ◌-◌, ◌≤◌, ◌<◌}
use native.Mathlib.Omega.{arith}
use native.Mathlib.Numerals.{add-one}
use lib.ListN.{length}
use Rattle.language.specs.Sizes.{TOKENS, PARAMETERS, ACTIVE, ALLOWANCE, TABLE, WORK}
use Rattle.language.specs.Tokens.{Token, entry, LBRACE}
use Rattle.language.specs.Trees.{Exp, Ty, Def, Program, Scope, empty, push, PUTCHAR}
use Rattle.language.specs.Types.{Sig, TypedFrom, typed_main, typed_def, HasType}
use Rattle.language.specs.State as M
use Rattle.language.specs.State.{value, stop, stuck, then}
use Rattle.language.specs.Meaning.{Fun, putchar, defined, eval, functions, start, run}
use Rattle.language.proofs.Meaning.NeverStuck.{never_stuck}
use Rattle.layout.specs.Table.{KIND, BODY, token_value, row_word, function_row, zeros}
use Rattle.layout.specs.Names.{Stand, Named}
use Rattle.layout.specs.Functions.{function_name, Headed}
use Rattle.layout.specs.Decode.{shape_of, build, build_if, tree_at, Right, FunctionAt, FunctionsAt, functions_none, functions_more, Holds}
use Rattle.layout.specs.Resolved.{parameters_in, Placed, PlacedDefs, Resolved}
use Rattle.layout.specs.Frames.{put_frame}
use Rattle.layout.specs.declared.Held.{Held}
use Rattle.layout.specs.declared.values.Value.{Value}
use Rattle.layout.proofs.NameLaws.{name_inside, named_at}
use Rattle.machine.specs.Slots.{slots, cells_of}
use Rattle.machine.specs.Outcomes.{bytes, memory}
use Rattle.machine.specs.declared.state.Tally.{Tally}
use Rattle.runner.specs.Phases.{WHOLE}
use Rattle.runner.specs.Trees.{At, slack, Function, Defines, defines_none, defines_more, Scene}
use Rattle.runner.specs.Waiting.{Run, binds_none, which, Waits, Stack, ground, frame}
use Rattle.runner.specs.Standing.{Fair, Begins, Ends, Good, GoodBy, begun, running_by, running, ending_of, Any, Ran}
use Rattle.runner.specs.Contract.{Loaded, reported, EndsAs, RunsTo}
use Rattle.runner.specs.declared.Done.{Done}
use Rattle.runner.specs.declared.state.Mode.{Mode}
use Rattle.runner.specs.declared.state.Next.{Next}
use Rattle.runner.proofs.Few.{Few, Small, typed_few, given_small, params_few, def_small, body_few}
use Rattle.runner.proofs.Reading.{at_of}
use Rattle.runner.proofs.Memory.{stored_frame, frame_pushed}
use Rattle.runner.proofs.Entering.{spot}
use Rattle.runner.proofs.Waiting.{later_now}
use Rattle.runner.proofs.Ending.{cleared_same, ends_as}

-- ---- the functions of a program that has a type

-- a row of a Block's kind is a Block
block_slack : (f : ℕ) (ts : List Token) (w : List ℕ) (i : ℕ) → Right f ts w i → row_word w i KIND ≡ LBRACE → slack (tree_at f ts w i) ≡ 1
unfolding Right tree_at build_if build shape_of entry slack
block_slack zero ts w i r e = absurd r
block_slack (suc f) ts w i r e = rw e refl

-- of every tree of a body or of the last expression
pub some_slack : (e : Exp) → 0 ≤ slack e
some_slack e = omega arith

module _ {ts : List Token} {t : List ℕ} (long : TABLE ≤ length t) (stand : Stand t (length ts) ts) (all : ℕ) where
  -- row r is the function d
  function_of : {h r : ℕ} {d : Def} → FunctionAt h ts t r d → Few d.body → length d.params ≤ PARAMETERS
      → Placed t t all (parameters_in t r (length d.params)) d.body → Function ts t all r d
  function_of {h} {r} {d} a few l p =
      let L = parameters_in t r (length d.params) in
      let at = at_of ts t all long stand h L (row_word t r BODY) a.right
      (subst (λ (e : Exp). Few e × Placed t t all L e) (sym a.body) (few, p)) in
      record {
        inside = a.inside;
        few = l;
        arity = a.count;
        last_param = a.last_param;
        params = a.params;
        block = subst (λ (e : Exp). slack e ≡ 1) a.body (block_slack h ts t (row_word t r BODY) a.right a.block);
        at = subst (λ (e : Exp). At ts t all L (row_word t r BODY) e) a.body at;
      }

  -- its name
  name_of : {h : ℕ} (k : ℕ) {d : Def} → FunctionAt h ts t (function_row t k) d → Named ts (function_name t k) d.called
  name_of k {d = d} a =
      subst (λ (n : ℕ). Named ts (token_value t (n + 1)) d.called) (sym a.at)
      (subst (λ (x : List ℕ). Named ts (token_value t (d.at + 1)) x) (sym a.called) (named_at stand (d.at + 1) a.name))

  head_of : {h k : ℕ} {d : Def} → k < TOKENS → FunctionAt h ts t (function_row t k) d → Headed t k
  head_of {d = d} l a = let i = name_inside ts (d.at + 1) a.name in record { few = l; row = a.inside; name = omega (arith, a.at, stand.few) }

  -- the table's functions are those of the meaning
  defines : {h : ℕ} {k : ℕ} {ds : List Def} {fs : Scope Fun} {Δ : Scope Sig} {e : Exp} {y : Ty} → k + length ds ≤ TOKENS
      → FunctionsAt h ts t k ds → TypedFrom Δ ds e y → Small Δ → PlacedDefs t t all k ds → Defines ts t all k fs
      → Defines ts t all (k + length ds) (functions ds fs)
  unfolding functions PlacedDefs
  defines {k = k} {fs = fs} few functions_none (typed_main x) small p def =
      let q : k + 0 ≡ k = omega arith in
      subst (λ (n : ℕ). Defines ts t all n fs) (sym q) def
  defines {k = k} {ds = f ∷ ds} {fs = fs} {Δ = Δ} few (functions_more at rest) (typed_def ok typed) small p def =
      let q : k + 1 + length ds ≡ k + suc (length ds) = omega arith in
      let l = params_few ok in
      let fs1 = push f.called (defined f.params f.body) fs in
      let one = defines_more (head_of (omega arith) at) (name_of k at) (function_of at (body_few small ok) l p.0) def in
      subst (λ (n : ℕ). Defines ts t all n (functions ds fs1)) q
      (defines {fs = fs1} (omega arith) rest typed (def_small Δ f l small) p.1 (subst (λ (n : ℕ). Defines ts t all n fs1) (sym (add-one k)) one))

-- the last expression has few arguments in its calls, too
main_few : {Δ : Scope Sig} {ds : List Def} {e : Exp} {y : Ty} → TypedFrom Δ ds e y → Small Δ → Few e
main_few (typed_main x) small = typed_few small x
main_few {Δ} (typed_def {d = d} ok rest) small = main_few rest (def_small Δ d (params_few ok) small)

-- ---- the runs of a sheet

abbrev pub in_sight : Program → Scope Fun
in_sight p = functions p.defs (push PUTCHAR putchar empty)

abbrev pub first_tally : ℕ → Tally
first_tally allowance = record { units = allowance; births = 0; cells = 0; printed = 0 }

memory_first : (w o : List ℕ) (allowance : ℕ) → memory w o (first_tally allowance) ≡ start allowance (length o)
unfolding slots cells_of bytes
memory_first w o allowance = let e : length o - 0 ≡ length o = omega arith in rw e refl

then_value : (m : M.Outcome) → then m (λ v s. value v s) ≡ m
unfolding then
then_value (value v s) = refl
then_value (stop y i s) = refl
then_value stuck = refl

module _ (table w o : List ℕ) (P : Held) (allowance : ℕ) where
  abbrev pub run_of : (ts : List Token) (p : Program) (t : Ty) → HasType p t → Run
  run_of ts p t h = record {
    ts = ts;
    defs = P.functions;
    fs = in_sight p;
    whole = run p allowance (length o);
    safe = never_stuck p t allowance (length o) h;
    work = w;
    out = o;
  }

  -- whatever program the table holds, the loop stands where its meaning does
  abbrev pub Stands : List ℕ → List ℕ → Next → Type 0
  Stands w1 o1 n = (ts : List Token) (p : Program) (t : Ty) → Holds ts table P p → (h : HasType p t) → Resolved table p
      → Good (run_of ts p t h) table w1 o1 n

-- ---- the begin

module _ (table w o : List ℕ) (P : Held) (allowance : ℕ) (long : WORK ≤ length w) (allowed : allowance ≤ ALLOWANCE)
    (ts : List Token) (p : Program) (t : Ty) (h : Holds ts table P p) (typed : HasType p t) (res : Resolved table p) where
  abbrev q : Run
  q = run_of table w o P allowance ts p t typed

  abbrev bottom : List ℕ
  bottom = put_frame w 0 0 WHOLE 0 0 0

  stand_all : Stand table (length ts) ts
  stand_all = subst (λ (n : ℕ). Stand table n ts) (sym h.stand.long) h.stand

  defs_are : length p.defs ≡ P.functions
  defs_are = omega (arith, h.defined)

  scene_first : Scene ts table P.functions (in_sight p)
  scene_first =
      let e : 0 + length p.defs ≡ P.functions = omega (arith, h.defined) in
      record {
        long = h.long;
        stand = stand_all;
        functions = subst (λ (n : ℕ). Defines ts table P.functions n (in_sight p)) e
            (defines h.long stand_all P.functions (omega (arith, e, h.few, h.stand.few)) h.functions typed given_small
            (subst (λ (n : ℕ). PlacedDefs table table n 0 p.defs) defs_are res.bodies) defines_none);
      }

  at_first : At ts table P.functions [] P.root p.main
  at_first =
      subst (λ (e : Exp). At ts table P.functions [] P.root e) h.main
      (at_of ts table P.functions h.long stand_all h.depth [] P.root h.right
      (subst (λ (e : Exp). Few e × Placed table table P.functions [] e) (sym h.main)
      (main_few typed given_small, subst (λ (n : ℕ). Placed table table n [] p.main) defs_are res.main)))

  fair_first : Fair q bottom o (first_tally allowance) 1
  fair_first =
      let s = stored_frame w 0 0 WHOLE 0 0 0 0 (omega arith) (omega arith) in
      record {
        room = record {
          long = omega (arith, s.long);
          few = omega arith;
          low = λ i l. absurd (omega arith);
          rising = λ i j l m. absurd (omega arith);
        };
        paid = omega arith;
        printed = omega arith;
        long = s.long;
        beyond = λ k l. s.cells k (omega arith);
        wide = refl;
        rest = λ k l. refl;
      }

  stack_first : Stack q table bottom ACTIVE 1 0 0 0 (λ v s. value v s)
  unfolding Waits which
  stack_first =
      frame {d = ACTIVE} {a = 0} {c = 0} {m = 0} {n = 0} {b = 0} {κ = λ v s. value v s} {κ' = λ v s. value v s} 0
      (frame_pushed w 0 0 WHOLE 0 0 0 (omega arith) (omega arith)) binds_none (omega arith) (later_now bottom 0 0)
      record { goes = λ v s. refl } ground

  means_first : then (eval (in_sight p) ACTIVE p.main empty (memory bottom o (first_tally allowance))) (λ v s. value v s) ≡ run p allowance (length o)
  unfolding run
  means_first =
      then_value (eval (in_sight p) ACTIVE p.main empty (memory bottom o (first_tally allowance)))
      ∙ ap (λ (σ : M.State). eval (in_sight p) ACTIVE p.main empty σ) (memory_first bottom o allowance)

  begins_first : Begins q table bottom o P.root (spot 0 0 1) (first_tally allowance)
  begins_first = record {
    scene = scene_first;
    fair = fair_first;
    d = ACTIVE;
    e = p.main;
    L = [];
    env = empty;
    κ = λ v s. value v s;
    deep = omega arith;
    high = omega arith;
    at = at_first;
    sized = refl;
    binds = binds_none;
    room = omega (arith, some_slack p.main);
    stack = stack_first;
    means = means_first;
  }

module _ (table w o : List ℕ) (P : Held) (allowance : ℕ) where
  abbrev Loop : List ℕ → List ℕ → Next → Type 0
  Loop w1 o1 n = Stands table w o P allowance w1 o1 n

  stands_first : Loaded table w P allowance → (w1 : List ℕ) (n : Next) (v : Value) → w1 ≡ put_frame w 0 0 WHOLE 0 0 0
      → n ≡ begun P.root v (spot 0 0 1) (first_tally allowance) → Loop w1 o n
  stands_first sh w1 n v e f ts p t h typed res =
      let first = begins_first table w o P allowance sh.long sh.allowed ts p t h typed res in
      let q = run_of table w o P allowance ts p t typed in
      subst (λ (x : List ℕ). Good q table x o n) (sym e) (subst (λ (m : Next). Good q table (put_frame w 0 0 WHOLE 0 0 0) o m) (sym f) first)

  -- a turn
  stands_any : Loaded table w P allowance → (w1 o1 : List ℕ) (n : Next) → Loop w1 o1 n → Any (λ q. Good q table w1 o1 n)
  stands_any sh w1 o1 n x = record {
    q = run_of table w o P allowance sh.ts sh.program sh.type sh.typed;
    holds = x sh.ts sh.program sh.type sh.holds sh.typed sh.resolved;
  }

  stands_ran : (w1 o1 w2 o2 : List ℕ) (n r : Next) → Loop w1 o1 n → Ran table w1 o1 w2 o2 n r → Loop w2 o2 r
  stands_ran w1 o1 w2 o2 n r x s ts p t h typed res = s.right (run_of table w o P allowance ts p t typed) (x ts p t h typed res)

  -- ---- the end

  over_so : (q : Run) (w1 o1 : List ℕ) (n : Next) (m : Mode) → running_by m ≡ false → GoodBy q table w1 o1 m n
      → Ends q table w1 o1 (ending_of m) n.value n.tally
  over_so q w1 o1 n Mode.Begin e g = absurd (let z : ◌≡◌ {A = ℕ} 0 1 = cc in omega arith)
  over_so q w1 o1 n Mode.Give e g = absurd (let z : ◌≡◌ {A = ℕ} 0 1 = cc in omega arith)
  over_so q w1 o1 n Mode.Over e g = g
  over_so q w1 o1 n (Mode.Halt y i) e g = g

  ends_of : (ts : List Token) (p : Program) (t : Ty) (h : Holds ts table P p) (typed : HasType p t) → Resolved table p → (w1 o1 : List ℕ) (n : Next)
      → running n ≡ false → Loop w1 o1 n → Ends (run_of table w o P allowance ts p t typed) table w1 o1 (ending_of n.mode) n.value n.tally
  ends_of ts p t h typed res w1 o1 n e x =
      over_so (run_of table w o P allowance ts p t typed) w1 o1 n n.mode e (x ts p t h typed res)

  stands_few : Loaded table w P allowance → (w1 o1 : List ℕ) (n : Next) → running n ≡ false → Loop w1 o1 n
      → n.tally.units ≤ ALLOWANCE + 1
  stands_few sh w1 o1 n e x = omega (arith, (ends_of sh.ts sh.program sh.type sh.holds sh.typed sh.resolved w1 o1 n e x).fair.paid)

  stands_long : Loaded table w P allowance → (w1 o1 : List ℕ) (n : Next) → running n ≡ false → Loop w1 o1 n → WORK ≤ length w1
  stands_long sh w1 o1 n e x = (ends_of sh.ts sh.program sh.type sh.holds sh.typed sh.resolved w1 o1 n e x).fair.room.long

  -- the contract of the run
  whole : Loaded table w P allowance → (w1 o1 : List ℕ) (n : Next) → running n ≡ false → Loop w1 o1 n → (w2 : List ℕ)
      → w2 ≡ zeros w1 0 WORK → (r : Done) → r ≡ reported n → RunsTo table w o w2 o1 P allowance r
  whole sh w1 o1 n e x w2 ew r er =
      let fair = (ends_of sh.ts sh.program sh.type sh.holds sh.typed sh.resolved w1 o1 n e x).fair in
      record {
        answer = λ ts p t h typed res.
            subst (λ (y : Done). EndsAs (run p allowance (length o)) o o1 y) (sym er)
            (ends_as w1 o o1 n (ends_of ts p t h typed res w1 o1 n e x).tells fair.wide fair.printed fair.rest);
        cleared = ew ∙ cleared_same w w1 fair.long fair.beyond;
      }

-- ---- from the first frame to the report

module _ (table w o : List ℕ) (P : Held) (allowance : ℕ) (sh : Loaded table w P allowance) {w1 : List ℕ} {n : Next} {v : Value}
    (e : w1 ≡ put_frame w 0 0 WHOLE 0 0 0) (f : n ≡ begun P.root v (spot 0 0 1) (first_tally allowance)) where
  first : Stands table w o P allowance w1 o n
  first = stands_first table w o P allowance sh w1 n v e f

  -- what the loop is asked
  pub first_any : Any (λ q. Good q table w1 o n)
  first_any = stands_any table w o P allowance sh w1 o n first

  module _ {w2 o2 : List ℕ} {r : Next} (g : Ran table w1 o w2 o2 n r) where
    last : Stands table w o P allowance w2 o2 r
    last = stands_ran table w o P allowance w1 o w2 o2 n r first g

    pub last_long : WORK ≤ length w2
    last_long = stands_long table w o P allowance sh w2 o2 r g.over last

    pub last_few : r.tally.units ≤ ALLOWANCE + 1
    last_few = stands_few table w o P allowance sh w2 o2 r g.over last

    pub last_whole : (w3 : List ℕ) → w3 ≡ zeros w2 0 WORK → (d : Done) → d ≡ reported r → RunsTo table w o w3 o2 P allowance d
    last_whole w3 ew d ed = whole table w o P allowance sh w2 o2 r g.over last w3 ew d ed
