-- Arguments of a call, or bounds of a `for`: which are left, and the first one begins.
use mathlib.Core.Path.{◌≡◌, refl, sym, ap, subst, ◌∙◌}
use mathlib.Core.Bool.{true, false}
use mathlib.Core.List.{List, [], ◌∷◌}
use Prim.Native.Nat.{ℕ, suc, ◌+◌, ◌*◌, ◌≤◌, ◌<◌}
use native.Mathlib.Omega.{arith}
use lib.ListN.{length}
use Rattle.language.specs.Sizes.{NODES, ACTIVE, PARAMETERS}
use Rattle.language.specs.Trees.{Exp, Exps, last, more}
use Rattle.language.specs.State as M
use Rattle.language.specs.State.{value, stop, stuck, then}
use Rattle.language.specs.Meaning.{Env, arguments, eval}
use Rattle.layout.specs.Table.{KIND, FIRST, EXPRESSION, NEXT, row_word}
use Rattle.layout.specs.Decode.{counts}
use Rattle.layout.specs.Slots.{TAGS, HELD, WAITING}
use Rattle.layout.specs.Frames.{put_frame}
use Rattle.layout.proofs.Shapes.{range_counts}
use Rattle.machine.specs.Slots.{values_from}
use Rattle.machine.specs.Outcomes.{memory}
use Rattle.machine.specs.declared.state.Tally.{Tally}
use Rattle.runner.specs.Phases.{ARGUMENT}
use Rattle.runner.specs.Trees.{count, helds, At, Args, args_last, args_more}
use Rattle.runner.specs.Waiting.{Run, Then, which, CallDoes, ForDoes, Does, by_call, by_for, Waits}
use Rattle.runner.specs.Standing.{Begins, Starts}
use Rattle.runner.specs.declared.state.Spot.{Spot}
use Rattle.runner.proofs.RowKinds.{call_counts, clash_bool}
use Rattle.runner.proofs.Memory.{stored_frame}
use Rattle.runner.proofs.Stacks.{binds_kept}
use Rattle.runner.proofs.Entering.{spot}
use Rattle.runner.proofs.Waiting.{first_begins}

-- whose values they are, by the kind of its row
module _ {q : Run} {t : List ℕ} {d row : ℕ} {L : List ℕ} {env : Env} {done : List M.Value → M.State → M.Outcome} where
  pub does_inside : Does q t d row L env done → row < NODES
  does_inside (by_call c) = c.head.inside
  does_inside (by_for f) = f.loop.head.inside

  pub call_does : Does q t d row L env done → counts (row_word t row KIND) ≡ false → CallDoes q t d row L env done
  call_does (by_call c) k = c
  call_does (by_for f) k = clash_bool (ap counts f.loop.head.kind_is ∙ range_counts f.loop.through) k

  pub for_does : Does q t d row L env done → counts (row_word t row KIND) ≡ true → ForDoes q t d row L env done
  for_does (by_for f) k = f
  for_does (by_call c) k = clash_bool k (ap counts c.head.kind_is ∙ call_counts)

-- what is done with the values, by another name
module _ (q : Run) (d : ℕ) (env : Env) where
  abbrev All : Exps → M.State → (List M.Value → M.State → M.Outcome) → M.Outcome
  All es s f = arguments q.fs (eval q.fs d) es env s f

  then_same : (o : M.Outcome) (f g : Then) → ((v : M.Value) (s : M.State) → f v s ≡ g v s) → then o f ≡ then o g
  unfolding then
  then_same (value v s) f g h = h v s
  then_same (stop y i s) f g h = refl
  then_same stuck f g h = refl

  pub arguments_same : (es : Exps) (s : M.State) (f g : List M.Value → M.State → M.Outcome) → ((vs : List M.Value) (s : M.State) → f vs s ≡ g vs s)
      → All es s f ≡ All es s g
  unfolding arguments
  arguments_same last s f g h = h [] s
  arguments_same (more e es) s f g h =
      then_same (eval q.fs d e env s) (λ v s. All es s λ vs s. f (v ∷ vs) s) (λ v s. All es s λ vs s. g (v ∷ vs) s)
      (λ v s. arguments_same es s (λ vs s. f (v ∷ vs) s) (λ vs s. g (v ∷ vs) s) (λ vs s. h (v ∷ vs) s))

-- no argument
module _ (q : Run) {t : List ℕ} where
  pub none_left : {L : List ℕ} {r : ℕ} {es : Exps} → Args q.ts t q.defs L r es → r ≡ 0 → es ≡ last
  none_left (args_last e) z = refl
  none_left (args_more n l a m) z = absurd (n z)

-- an argument, and those behind it
pub record Argued (q : Run) (t L : List ℕ) (r : ℕ) (es : Exps) : Type 0 where
  pub e : Exp
  pub rest : Exps
  pub is : es ≡ more e rest
  pub inside : r < NODES
  pub at : At q.ts t q.defs L (row_word t r EXPRESSION) e
  pub args : Args q.ts t q.defs (HELD ∷ L) (row_word t r NEXT) rest

pub some_left : (q : Run) {t L : List ℕ} {r : ℕ} {es : Exps} → Args q.ts t q.defs L r es → (r ≡ 0 → ⊥) → Argued q t L r es
some_left q (args_last e) n = absurd (n e)
some_left q (args_more {e = e} {es = es} n l a m) z = record { e = e; rest = es; is = refl; inside = l; at = a; args = m }

-- ---- the first one

module _ {q : Run} {t w o : List ℕ} {node : ℕ} {p : Spot} {s : Tally} (b : Starts q t w o node p s) (done : List M.Value → M.State → M.Outcome)
    (does : Does q t b.d node b.L b.env done) {es : Exps} (args : Args q.ts t q.defs b.L (row_word t node FIRST) es)
    (few : count es ≤ PARAMETERS)
    (room : p.base + length b.L + WAITING * suc b.d ≤ WAITING * ACTIVE)
    (means : then (arguments q.fs (eval q.fs b.d) es b.env (memory w o s) done) b.κ ≡ q.whole)
    (row : ℕ) (is : row ≡ row_word t node FIRST) (some_there : row ≡ 0 → ⊥) where
  abbrev σ : M.State
  σ = memory w o s

  argued : Argued q t b.L row es
  argued = some_left q (subst (λ (r : ℕ). Args q.ts t q.defs b.L r es) (sym is) args) some_there

  pub first_inside : row < NODES
  first_inside = argued.inside

  argued_few : suc (count argued.rest) ≤ PARAMETERS
  unfolding count
  argued_few = subst (λ (xs : Exps). count xs ≤ PARAMETERS) argued.is few

  abbrev after : Then
  after v s = arguments q.fs (eval q.fs b.d) argued.rest b.env s λ ws s. done (v ∷ ws) s

  first_means : then (then (eval q.fs b.d argued.e b.env σ) after) b.κ ≡ q.whole
  unfolding arguments
  first_means =
      ap (λ (xs : Exps). then (arguments q.fs (eval q.fs b.d) xs b.env σ done) b.κ) (sym argued.is) ∙ means

  passes_at : (size : ℕ) → size ≡ length b.L
      → Begins q t (put_frame w p.height node ARGUMENT p.base (length b.L) (TAGS * row + 0)) o (row_word t row EXPRESSION)
      (spot p.base size (p.height + 1)) s
  unfolding Waits which values_from helds
  passes_at size sized =
      first_begins b.d p.height node ARGUMENT p.base (TAGS * row + 0) b.L b.env s b.κ b.scene b.fair b.deep b.binds
      (omega (arith, room)) b.stack after size sized argued.at
      (record {
        arg = row;
        k = 0;
        vs = [];
        es = argued.rest;
        done = done;
        by = does;
        marked = refl;
        inside = argued.inside;
        room = room;
        few = omega (arith, argued_few);
        used = refl;
        long = refl;
        held = refl;
        sees = binds_kept
            (stored_frame w p.height node ARGUMENT p.base (length b.L) (TAGS * row + 0) (p.base + length b.L) (omega (arith, b.deep))
            (omega (arith, room))).slots
            (omega arith) b.binds;
        rest = argued.args;
        goes = λ v s. refl;
      })
      first_means

  -- it begins
  pub first_begins_at : Begins q t (put_frame w p.height node ARGUMENT p.base p.size (TAGS * row + 0)) o (row_word t row EXPRESSION)
      (spot p.base (p.size + 0) (p.height + 1)) s
  first_begins_at =
      subst (λ (n : ℕ). Begins q t (put_frame w p.height node ARGUMENT p.base n (TAGS * row + 0)) o (row_word t row EXPRESSION)
      (spot p.base (p.size + 0) (p.height + 1)) s) (sym b.sized) (passes_at (p.size + 0) (omega (arith, b.sized)))
