-- Names, calls and `for`s: what they ask, and what follows when they are done.
use mathlib.Core.List.{List}
use mathlib.Core.Option.{some}
use mathlib.Core.Path.{◌≡◌, refl, sym, ap, subst, ◌∙◌}
use Prim.Native.Nat.{ℕ, zero, suc, ◌+◌, ◌≤◌, ◌<◌}
use native.Mathlib.Omega.{arith}
use Rattle.language.specs.Sizes.{TOKENS}
use Rattle.language.specs.Tokens.{Token, NAME, entry}
use Rattle.layout.specs.Table.{KIND, OWN, FIRST, token_value, row_word}
use Rattle.layout.specs.Rows.{CALL}
use Rattle.layout.specs.Decode.{a_name, a_call, shape_of, build, args_at}
use Rattle.layout.specs.Functions.{Headed}
use Rattle.layout.specs.Notes.{noted, put_note, names_in}
use Rattle.layout.specs.Resolved.{slot_of, callee_row, Placed, PlacedAll}
use Rattle.resolver.specs.Spans.{Spans, SpansAll}
use Rattle.resolver.specs.Resolves.{Wrote, Job, JobAll, DoneAll, Placing, PlacingAll, Places, PlacesAll}
use Rattle.resolver.proofs.Spanning.{ordered}
use Rattle.resolver.proofs.Writing.{wrote_then, wrote_note, note_put, names_same, token_alike, headed_alike}
use Rattle.resolver.proofs.Writing.{callee_alike, scene_after}
use Rattle.resolver.proofs.Nodes.{whole, word, list, own, spans_as, done_as}
use Rattle.resolver.proofs.Parts.{no_job, peel}

name_shape : shape_of NAME ≡ some a_name
unfolding shape_of entry
name_shape = refl

call_shape : shape_of CALL ≡ some a_call
unfolding shape_of entry
call_shape = refl

-- the functions of a scene have names
pub heads_ready : {t : List ℕ} {node defs size : ℕ} → Placing t node defs size → (k : ℕ) → k < defs → Headed t k
heads_ready p k l = headed_alike p.job.scene.alike k (p.job.scene.heads k l)

-- ---- the token of a name or a call

module _ {w : List ℕ} {ts : List Token} {f a b : ℕ} {t : List ℕ} {node defs size : ℕ} (j : Job w ts (suc f) a b t node defs size) where
  own_is : row_word t node OWN ≡ own j
  own_is = word j OWN (omega arith)

  module _ (name : row_word t node KIND ≡ NAME) where
    name_known : shape_of (row_word w node KIND) ≡ some a_name
    name_known = ap shape_of (sym (word j KIND (omega arith)) ∙ name) ∙ name_shape

    name_spans : (a ≤ own j) × (own j < b)
    unfolding Spans build
    name_spans = spans_as j a_name name_known

  module _ (call : row_word t node KIND ≡ CALL) where
    kind_call : row_word w node KIND ≡ CALL
    kind_call = sym (word j KIND (omega arith)) ∙ call

    call_known : shape_of (row_word w node KIND) ≡ some a_call
    call_known = ap shape_of kind_call ∙ call_shape

    call_spans : (a ≤ own j) × SpansAll (own j + 1) (list j) b
    unfolding Spans build
    call_spans = spans_as j a_call call_known

    call_inside : own j < b
    call_inside = omega (arith, ordered (list j) call_spans.1)

  -- the value of a token
  token_is : own j < TOKENS → token_value t (row_word t node OWN) ≡ token_value w (own j)
  token_is l =
      ap (λ (i : ℕ). token_value t i) own_is ∙ token_alike j.scene.alike (own j) l

-- ---- names

pub name_ready : {t : List ℕ} {node defs size : ℕ} → Placing t node defs size → row_word t node KIND ≡ NAME
    → (row_word t node OWN < TOKENS) × (size ≤ TOKENS)
name_ready p e = peel p λ w ts f a b j.
    let s = name_spans j e in
    (omega (arith, own_is j, s.1, j.high), omega (arith, s.0, s.1, j.room, j.high))

module _ {t u : List ℕ} {node defs size : ℕ} (e : row_word t node KIND ≡ NAME)
    (is : u ≡ put_note t (row_word t node OWN) (slot_of (token_value t (row_word t node OWN)) (names_in t size))) where
  name_placed : {w : List ℕ} {ts : List Token} {f a b : ℕ} (j : Job w ts (suc f) a b t node defs size)
      → noted u (own j) ≡ slot_of (token_value w (own j)) (names_in t size)
  name_placed j =
      let s = name_spans j e in
      let l : own j < TOKENS = omega (arith, s.1, j.high) in
      ap (λ (v : List ℕ). noted v (own j)) is
      ∙ ap (λ (i : ℕ). noted (put_note t (row_word t node OWN) (slot_of (token_value t (row_word t node OWN)) (names_in t size))) i) (sym (own_is j))
      ∙ note_put t (row_word t node OWN) _ j.scene.long (omega (arith, own_is j))
      ∙ ap (λ (x : ℕ). slot_of x (names_in t size)) (token_is j l)

  name_wrote : {w : List ℕ} {ts : List Token} {f a b : ℕ} (j : Job w ts (suc f) a b t node defs size) → Wrote t u a b size
  name_wrote {a = a} {b = b} j =
      let s = name_spans j e in
      let o = own_is j in
      subst (λ (v : List ℕ). Wrote t v a b size) (sym is)
      (wrote_note t (row_word t node OWN) _ a b size (omega (arith, s.1, j.high)) (omega (arith, s.0)) (omega (arith, s.1))
      (omega (arith, s.0, s.1, j.room, j.high)))

  pub name_done : Places t u node defs size
  unfolding Placed build
  name_done w ts zero a b j = absurd (no_job j)
  name_done w ts (suc f) a b j = done_as j a_name (name_known j e) (name_placed j) (name_wrote j)

-- ---- calls

pub call_ready : {t : List ℕ} {node defs size : ℕ} → Placing t node defs size → row_word t node KIND ≡ CALL → row_word t node OWN < TOKENS
call_ready p e = peel p λ w ts f a b j. omega (arith, own_is j, call_inside j e, j.high)

module _ (head : ℕ) {t u : List ℕ} {node defs size i row : ℕ} (e : row_word t node KIND ≡ CALL) (is_own : i ≡ row_word t node OWN)
    (is_row : row ≡ row_word t node FIRST) (is : u ≡ put_note t i head) where
  module _ {w : List ℕ} {ts : List Token} {f a b : ℕ} (j : Job w ts (suc f) a b t node defs size) where
    at_own : i ≡ own j
    at_own = is_own ∙ own_is j

    own_few : own j < TOKENS
    own_few = omega (arith, call_inside j e, j.high)

    note_wrote : Wrote t u a b size
    note_wrote =
        let o = at_own in
        let l = call_inside j e in
        subst (λ (v : List ℕ). Wrote t v a b size) (sym is)
        (wrote_note t i head a b size (omega (arith, own_few)) (omega (arith, (call_spans j e).0)) (omega arith)
        (omega (arith, (call_spans j e).0, own_few, j.room)))

    args_job : JobAll w ts f (own j + 1) b u row defs size
    args_job =
        subst (λ (r : ℕ). JobAll w ts f (own j + 1) b u r defs size) (sym (is_row ∙ word j FIRST (omega arith)))
        (record {
          scene = scene_after j.scene note_wrote;
          right = ((whole j).args (kind_call j e)).1;
          spans = (call_spans j e).1;
          room = omega (arith, (call_spans j e).0, j.room);
          high = j.high;
        })

  pub call_args : Placing t node defs size → (row ≤ node) × PlacingAll u row defs size
  call_args p = peel p λ w ts f a b j. (
    omega (arith, is_row, word j FIRST (omega arith), ((whole j).args (kind_call j e)).0),
    record { w = w; ts = ts; f = f; a = _; b = _; job = args_job j },
  )

  module _ {v : List ℕ} {x : ℕ} (name : x ≡ token_value t i) (found : head ≡ callee_row t defs x) (q : PlacesAll u v row defs size) where
    module _ {w : List ℕ} {ts : List Token} {f a b : ℕ} (j : Job w ts (suc f) a b t node defs size) where
      args_done : DoneAll w ts f (own j + 1) b u v row defs size
      args_done = q w ts f (own j + 1) b (args_job j)

      head_is : head ≡ callee_row w defs (token_value w (own j))
      head_is =
          found ∙ ap (callee_row t defs) (name ∙ ap (λ (k : ℕ). token_value t k) is_own ∙ token_is j (own_few j))
          ∙ callee_alike j.scene.alike defs _ j.scene.heads

      call_noted : noted v (own j) ≡ callee_row w defs (token_value w (own j))
      call_noted =
          args_done.wrote.notes (own j) (own_few j) (λ y z. omega arith)
          ∙ ap (λ (y : List ℕ). noted y (own j)) is
          ∙ ap (λ (k : ℕ). noted (put_note t i head) k) (sym (at_own j))
          ∙ note_put t i head j.scene.long (omega (arith, at_own j, own_few j)) ∙ head_is

      args_placed : PlacedAll w v defs (names_in t size) (list j)
      args_placed =
          subst (λ (M : List ℕ). PlacedAll w v defs M (list j)) (names_same t u size (note_wrote j).names)
          (subst (λ (r : ℕ). PlacedAll w v defs (names_in u size) (args_at f ts w r)) (is_row ∙ word j FIRST (omega arith)) args_done.placed)

    pub call_done : Places t v node defs size
    unfolding Placed build
    call_done w ts zero a b j = absurd (no_job j)
    call_done w ts (suc f) a b j =
        let l = (call_spans j e).0 in
        done_as j a_call (call_known j e) (call_noted j, args_placed j)
        (wrote_then (note_wrote j) (args_done j).wrote (omega arith) (λ i x y. (x, y)) (λ i x y. (omega arith, y)))
