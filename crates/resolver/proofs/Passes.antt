-- A `for`: what its bounds and its body ask, and what follows when they are done.
use mathlib.Core.Bool.{Bool, true}
use mathlib.Core.List.{List}
use mathlib.Core.Option.{some}
use mathlib.Core.Path.{◌≡◌, sym, ap, subst, ◌∙◌}
use Prim.Native.Nat.{ℕ, zero, suc, ◌+◌, ◌≤◌, ◌<◌}
use native.Mathlib.Omega.{arith}
use lib.ListN.{length}
use Rattle.language.specs.Sizes.{TOKENS, TABLE}
use Rattle.language.specs.Tokens.{Token}
use Rattle.layout.specs.Table.{KIND, OWN, SECOND, START, PASS, token_value, row_word}
use Rattle.layout.specs.Decode.{a_for, shape_of, counts, build, tree_at, args_at, Counts, Right, RightArgs}
use Rattle.layout.specs.Notes.{names_in}
use Rattle.layout.specs.Resolved.{counting, Placed, PlacedAll}
use Rattle.rules.proofs.ShapeLaws.{for_shape}
use Rattle.resolver.specs.Spans.{Spans, SpansAll}
use Rattle.resolver.specs.Resolves.{Wrote, Job, Done, JobAll, DoneAll, Placing, PlacingAll, Places, PlacesAll, Entered}
use Rattle.resolver.proofs.Spanning.{nonempty}
use Rattle.resolver.proofs.Writing.{wrote_then, names_same, alike_then, row_alike, token_alike, scene_after}
use Rattle.resolver.proofs.Staying.{all_stays}
use Rattle.resolver.proofs.Nodes.{whole, word, tree, list, own, spans_as, done_as}
use Rattle.resolver.proofs.Parts.{no_job, peel}

module _ {t : List ℕ} {node defs size : ℕ} (is_for : counts (row_word t node KIND) ≡ true) where
  module _ {w : List ℕ} {ts : List Token} {f a b : ℕ} (j : Job w ts (suc f) a b t node defs size) where
    kind_counts : counts (row_word w node KIND) ≡ true
    kind_counts = ap counts (sym (word j KIND (omega arith))) ∙ is_for

    loops : Counts (λ i. Right f ts w i) (λ i. RightArgs f ts w i) ts w node
    loops = (whole j).loops kind_counts

    abbrev through : Bool
    through = (for_shape (row_word w node KIND) kind_counts).0

    known : shape_of (row_word w node KIND) ≡ some (a_for through)
    known = (for_shape (row_word w node KIND) kind_counts).1

    cut : (a ≤ own j) × ((m : ℕ) × (own j + 3 ≤ m) × SpansAll (own j + 1) (list j) m × Spans m (tree j SECOND) b)
    unfolding Spans build
    cut = spans_as j (a_for through) known

    abbrev middle : ℕ
    middle = cut.1.0

    low : a ≤ own j
    low = cut.0

    behind : own j + 3 ≤ middle
    behind = cut.1.1

    list_spans : SpansAll (own j + 1) (list j) middle
    list_spans = cut.1.2

    body_spans : Spans middle (tree j SECOND) b
    body_spans = cut.1.3

    within : middle < b
    within = nonempty (tree j SECOND) body_spans

  -- ---- the bounds

  module _ {row : ℕ} (is_row : row ≡ row_word t node START) where
    bounds_job : {w : List ℕ} {ts : List Token} {f a b : ℕ} (j : Job w ts (suc f) a b t node defs size)
        → JobAll w ts f (own j + 1) (middle j) t row defs size
    bounds_job {w} {ts} {f} j =
        subst (λ (r : ℕ). JobAll w ts f (own j + 1) (middle j) t r defs size) (sym (is_row ∙ word j START (omega arith)))
        (record {
          scene = j.scene;
          right = (loops j).bounds.1;
          spans = list_spans j;
          room = omega (arith, low j, j.room);
          high = omega (arith, within j, j.high);
        })

    pub bounds_ready : Placing t node defs size → (row ≤ node) × PlacingAll t row defs size
    bounds_ready p = peel p λ w ts f a b j. (
      omega (arith, is_row, word j START (omega arith), (loops j).bounds.0),
      record { w = w; ts = ts; f = f; a = _; b = _; job = bounds_job j },
    )

    -- ---- the body

    module _ {u : List ℕ} (p : PlacesAll t u row defs size) where
      bounds_done : {w : List ℕ} {ts : List Token} {f a b : ℕ} (j : Job w ts (suc f) a b t node defs size)
          → DoneAll w ts f (own j + 1) (middle j) t u row defs size
      bounds_done {w} {ts} {f} j = p w ts f (own j + 1) (middle j) (bounds_job j)

      own_u : {w : List ℕ} {ts : List Token} {f a b : ℕ} (j : Job w ts (suc f) a b t node defs size) → row_word u node OWN ≡ own j
      own_u j = row_alike (alike_then j.scene.alike (bounds_done j).wrote.alike) node OWN (whole j).inside (omega arith)

      pub enter_ready : Placing t node defs size → (TABLE ≤ length u) × (size + 2 < TOKENS) × (row_word u node OWN + 1 < TOKENS)
      enter_ready q = peel q λ w ts f a b j. (
        omega (arith, j.scene.long, (bounds_done j).wrote.long),
        omega (arith, low j, behind j, within j, j.room, j.high),
        omega (arith, own_u j, behind j, within j, j.high),
      )

      module _ {v : List ℕ} {body : ℕ} (is_body : body ≡ row_word t node PASS) (entered : Entered u v node size) where
        entered_wrote : {w : List ℕ} {ts : List Token} {f a b : ℕ} (j : Job w ts (suc f) a b t node defs size) → Wrote t v a b size
        entered_wrote j =
            let l = low j in
            let h = within j in
            wrote_then (bounds_done j).wrote entered.wrote (omega arith) (λ i x y. (omega arith, omega arith)) (λ i x y. absurd (omega arith))

        body_job : {w : List ℕ} {ts : List Token} {f a b : ℕ} (j : Job w ts (suc f) a b t node defs size)
            → Job w ts f (middle j) b v body defs (size + 3)
        body_job {w} {ts} {f} {b = b} j =
            subst (λ (r : ℕ). Job w ts f (middle j) b v r defs (size + 3)) (sym (is_body ∙ word j PASS (omega arith)))
            (record {
              scene = scene_after j.scene (entered_wrote j);
              right = (loops j).body.1;
              spans = body_spans j;
              room = omega (arith, low j, behind j, j.room);
              high = j.high;
            })

        pub body_ready : Placing t node defs size → (body < node) × Placing v body defs (size + 3)
        body_ready q = peel q λ w ts f a b j. (
          omega (arith, is_body, word j PASS (omega arith), (loops j).body.0),
          record { w = w; ts = ts; f = f; a = _; b = _; job = body_job j },
        )

        module _ {x : List ℕ} (q : Places v x body defs (size + 3)) where
          module _ {w : List ℕ} {ts : List Token} {f a b : ℕ} (j : Job w ts (suc f) a b t node defs size) where
            body_done : Done w ts f (middle j) b v x body defs (size + 3)
            body_done = q w ts f (middle j) b (body_job j)

            list_placed : PlacedAll w x defs (names_in t size) (list j)
            list_placed =
                let l = within j in
                let h = j.high in
                all_stays w defs (own j + 1) (middle j) body_done.wrote (omega arith) (λ i y z o s. omega arith) (names_in t size) (list j)
                (list_spans j)
                (all_stays w defs (own j + 1) (middle j) entered.wrote (omega arith) (λ i y z o s. omega arith) (names_in t size) (list j)
                (list_spans j)
                (subst (λ (r : ℕ). PlacedAll w u defs (names_in t size) (args_at f ts w r)) (is_row ∙ word j START (omega arith))
                (bounds_done j).placed))

            seen : names_in v (size + 3) ≡ counting (token_value w (own j + 1)) (names_in t size)
            seen =
                let l = within j in
                let h = behind j in
                let m = j.high in
                entered.names
                ∙ ap (λ (k : ℕ). counting (token_value u (k + 1)) (names_in u size)) (own_u j)
                ∙ ap (λ (k : ℕ). counting k (names_in u size))
                (token_alike (alike_then j.scene.alike (bounds_done j).wrote.alike) (own j + 1) (omega arith))
                ∙ ap (counting (token_value w (own j + 1))) (names_same t u size (bounds_done j).wrote.names)

            body_placed : Placed w x defs (counting (token_value w (own j + 1)) (names_in t size)) (tree j SECOND)
            body_placed =
                subst (λ (M : List ℕ). Placed w x defs M (tree j SECOND)) seen
                (subst (λ (r : ℕ). Placed w x defs (names_in v (size + 3)) (tree_at f ts w r)) (is_body ∙ word j PASS (omega arith))
                body_done.placed)

            for_wrote : Wrote t x a b size
            for_wrote =
                let l = low j in
                let h = behind j in
                wrote_then (entered_wrote j) body_done.wrote (omega arith) (λ i y z. (y, z)) (λ i y z. (omega arith, z))

          pub for_done : Places t x node defs size
          unfolding Placed build
          for_done w ts zero a b j = absurd (no_job j)
          for_done w ts (suc f) a b j = done_as j (a_for (through j)) (known j) (list_placed j, body_placed j) (for_wrote j)
