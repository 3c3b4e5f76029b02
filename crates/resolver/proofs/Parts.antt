-- What follows when a node's parts are done, whatever the node is.
use mathlib.Core.Bool.{true}
use mathlib.Core.List.{List}
use mathlib.Core.Path.{◌≡◌, sym, ap, subst, ◌∙◌}
use Prim.Native.Nat.{ℕ, zero, suc, ◌+◌, ◌≤◌, ◌<◌}
use native.Mathlib.Omega.{arith}
use lib.ListN.{length}
use Rattle.language.specs.Sizes.{TOKENS, TABLE}
use Rattle.language.specs.Tokens.{Token, NAME}
use Rattle.layout.specs.Table.{KIND, OWN, FIRST, SECOND, THIRD, token_value, row_word}
use Rattle.layout.specs.Rows.{CALL}
use Rattle.layout.specs.Decode.{counts, tree_at, Right}
use Rattle.layout.specs.Notes.{names_in}
use Rattle.layout.specs.Resolved.{Placed}
use Rattle.layout.proofs.Shapes.{shape_kind, parted}
use Rattle.rules.specs.Asked.{Children}
use Rattle.resolver.specs.Resolves.{Wrote, Job, Done, Placing, Places, sees, Between}
use Rattle.resolver.proofs.Cutting.{leaf_placed, one_placed, two_placed, three_placed}
use Rattle.resolver.proofs.Writing.{wrote_none, wrote_then, names_same, alike_then, row_alike, token_alike}
use Rattle.resolver.proofs.Staying.{placed_stays}
use Rattle.resolver.proofs.Nodes.{whole, word, tree, list, own, done_as, kind_is, number, most, cut, past_first, first_below, first_job}
use Rattle.resolver.proofs.Nodes.{second_below, third_below, second_job, third_job, behind_own, has_room}

pub no_job : {w : List ℕ} {ts : List Token} {a b : ℕ} {t : List ℕ} {node defs size : ℕ} → Job w ts zero a b t node defs size → ⊥
unfolding Right
no_job j = j.right

-- some job at a node
pub peel : {t : List ℕ} {node defs size : ℕ} {P : Type 0} → Placing t node defs size
    → ((w : List ℕ) (ts : List Token) (f a b : ℕ) → Job w ts (suc f) a b t node defs size → P) → P
peel {t} {node} {defs} {size} {P} p g = go p.f p.job
  where
    go : (f : ℕ) → Job p.w p.ts f p.a p.b t node defs size → P
    go zero j = absurd (no_job j)
    go (suc f) j = g p.w p.ts f p.a p.b j

at_row : (w u : List ℕ) (ts : List Token) (f defs : ℕ) (L : List ℕ) {r o : ℕ} → r ≡ o → Placed w u defs L (tree_at f ts w r)
    → Placed w u defs L (tree_at f ts w o)
at_row w u ts f defs L e p = subst (λ (z : ℕ). Placed w u defs L (tree_at f ts w z)) e p

as_places : {t u : List ℕ} {r o defs size : ℕ} → r ≡ o → Places t u r defs size → Places t u o defs size
as_places {t} {u} {defs = defs} {size} e p = subst (λ (z : ℕ). Places t u z defs size) e p

module _ {t : List ℕ} {node defs size n : ℕ} (many : Children (row_word t node KIND) n) where
  -- ---- what the calls ask

  pub first_ready : {child : ℕ} → Placing t node defs size → 1 ≤ n → child ≡ row_word t node FIRST → (child < node) × Placing t child defs size
  first_ready p l e = peel p λ w ts f a b j. (
    omega (arith, first_below j many l),
    subst (λ (r : ℕ). Placing t r defs size) (sym e)
        (record { w = w; ts = ts; f = f; a = _; b = _; job = first_job j many l }),
  )

  -- no node has more than three
  pub at_most : Placing t node defs size → n ≤ 3
  at_most p = peel p λ w ts f a b j. most j many

  pub leaf_done : n ≡ 0 → (row_word t node KIND ≡ NAME → ⊥) → (row_word t node KIND ≡ CALL → ⊥) → (counts (row_word t node KIND) ≡ true → ⊥)
      → Places t t node defs size
  leaf_done e p q r w ts zero a b j = absurd (no_job j)
  leaf_done e p q r w ts (suc f) a b j =
      let s = (whole j).shape in
      done_as j s (whole j).known
      (leaf_placed ts w t defs (own j) (tree j FIRST) (tree j SECOND) (tree j THIRD) (list j) (names_in t size) s
      (parted s (sym (number j many) ∙ e)) (λ z. p (kind_is j ∙ z)) (λ z. q (kind_is j ∙ z)) (λ z. r (ap counts (kind_is j) ∙ z)))
      (wrote_none t a b size)

  -- ---- the first part is done

  module _ {u : List ℕ} {child : ℕ} (is_first : child ≡ row_word t node FIRST) (p : Places t u child defs size) where
    module _ {w : List ℕ} {ts : List Token} {f a b : ℕ} (j : Job w ts (suc f) a b t node defs size) (l : 1 ≤ n) where
      first_done : Done w ts f a (cut j many l).m t u (row_word t node FIRST) defs size
      first_done = as_places is_first p w ts f a (cut j many l).m (first_job j many l)

      first_placed : Placed w u defs (names_in t size) (tree j FIRST)
      first_placed = at_row w u ts f defs (names_in t size) (word j FIRST (omega arith)) first_done.placed

      first_wrote : Wrote t u a b size
      first_wrote =
          let c = cut j many l in
          let g = c.low in
          let h = c.high in
          wrote_then (wrote_none t a a size) first_done.wrote (omega arith) (λ i x y. absurd (omega arith)) (λ i x y. (x, omega arith))

    pub one_done : n ≡ 1 → Places t u node defs size
    one_done e w ts zero a b j = absurd (no_job j)
    one_done e w ts (suc f) a b j =
        let s = (whole j).shape in
        done_as j s (whole j).known
        (one_placed ts w u defs (own j) (tree j FIRST) (tree j SECOND) (tree j THIRD) (list j) (names_in t size) s
        (parted s (sym (number j many) ∙ e)) (first_placed j (omega arith)))
        (first_wrote j (omega arith))

    -- ---- and the second

    pub between_ready : Placing t node defs size → 2 ≤ n → (TABLE ≤ length u) × (size < TOKENS) × (row_word u node OWN + 1 < TOKENS)
    between_ready q l = peel q λ w ts f a b j.
        let k : 1 ≤ n = omega arith in
        let r = first_wrote j k in (
          omega (arith, j.scene.long, r.long),
          has_room j many k l,
          omega (
            arith,
            behind_own j many k l,
            word j OWN (omega arith),
            row_alike (alike_then j.scene.alike r.alike) node OWN (whole j).inside (omega arith),
          ),
        )

    module _ {v : List ℕ} {kind inner : ℕ} (is_kind : kind ≡ row_word t node KIND) (between : Between u v node kind size inner) where
      between_wrote : {w : List ℕ} {ts : List Token} {f a b : ℕ} (j : Job w ts (suc f) a b t node defs size) (l : 1 ≤ n) → Wrote t v a b size
      between_wrote j l =
          wrote_then (first_wrote j l) between.wrote (omega arith) (λ i x y. (x, y)) (λ i x y. absurd (omega arith))

      pub second_ready : {second : ℕ} → Placing t node defs size → 2 ≤ n → second ≡ row_word t node SECOND
          → (second < node) × Placing v second defs inner
      second_ready q l e = peel q λ w ts f a b j. (
        omega (arith, second_below j many (omega arith) l),
        subst (λ (r : ℕ). Placing v r defs inner) (sym e)
            (record { w = w; ts = ts; f = f; a = _; b = _; job = second_job j many (omega arith) l (between_wrote j (omega arith)) between.few }),
      )

      module _ {x : List ℕ} {second : ℕ} (is_second : second ≡ row_word t node SECOND) (q : Places v x second defs inner) where
        module _ {w : List ℕ} {ts : List Token} {f a b : ℕ} (j : Job w ts (suc f) a b t node defs size) (l : 2 ≤ n) where
          some_part : 1 ≤ n
          some_part = omega arith

          second_done : Done w ts f (cut j many some_part).m (cut j many some_part).n v x (row_word t node SECOND) defs inner
          second_done =
              as_places is_second q w ts f _ _ (second_job j many some_part l (between_wrote j some_part) between.few)

          second_wrote : Wrote t x a b size
          second_wrote =
              let c = cut j many some_part in
              let g = c.high in
              let h = past_first j many some_part in
              wrote_then (between_wrote j some_part) second_done.wrote between.more (λ i y z. (y, z)) (λ i y z. (omega arith, omega arith))

          -- what the second part saw
          own_in_u : row_word u node OWN ≡ own j
          own_in_u = row_alike (alike_then j.scene.alike (first_wrote j some_part).alike) node OWN (whole j).inside (omega arith)

          seen : names_in v inner ≡ sees (shape_kind (whole j).shape) (token_value w (own j + 1)) (names_in t size)
          seen =
              let e = own_in_u in
              let h = behind_own j many some_part l in
              let g = word j OWN (omega arith) in
              between.names
              ∙ ap (λ (k : ℕ). sees k (token_value u (row_word u node OWN + 1)) (names_in u size)) (is_kind ∙ kind_is j)
              ∙ ap (λ (k : ℕ). sees (shape_kind (whole j).shape) (token_value u (k + 1)) (names_in u size)) e
              ∙ ap (λ (k : ℕ). sees (shape_kind (whole j).shape) k (names_in u size))
              (token_alike (alike_then j.scene.alike (first_wrote j some_part).alike) (own j + 1) (omega arith))
              ∙ ap (λ (M : List ℕ). sees (shape_kind (whole j).shape) (token_value w (own j + 1)) M)
              (names_same t u size (first_wrote j some_part).names)

          second_placed : Placed w x defs (sees (shape_kind (whole j).shape) (token_value w (own j + 1)) (names_in t size)) (tree j SECOND)
          second_placed =
              subst (λ (M : List ℕ). Placed w x defs M (tree j SECOND)) seen
              (at_row w x ts f defs (names_in v inner) (word j SECOND (omega arith)) second_done.placed)

          first_then : Placed w x defs (names_in t size) (tree j FIRST)
          first_then =
              let c = cut j many some_part in
              let low = c.low in
              let high = c.high in
              let top = j.high in
              placed_stays w defs a c.m second_done.wrote (omega arith) (λ i y z o s. omega arith) (names_in t size) (tree j FIRST) c.first
              (placed_stays w defs a c.m between.wrote (omega arith) (λ i y z o s. omega arith) (names_in t size) (tree j FIRST) c.first
              (first_placed j some_part))

        pub two_done : n ≡ 2 → Places t x node defs size
        two_done e w ts zero a b j = absurd (no_job j)
        two_done e w ts (suc f) a b j =
            let s = (whole j).shape in
            done_as j s (whole j).known
            (two_placed ts w x defs (own j) (tree j FIRST) (tree j SECOND) (tree j THIRD) (list j) (names_in t size) s
            (parted s (sym (number j many) ∙ e)) (first_then j (omega arith)) (second_placed j (omega arith)))
            (second_wrote j (omega arith))

        -- ---- and the third

        pub third_ready : {third : ℕ} → Placing t node defs size → 3 ≤ n → third ≡ row_word t node THIRD
            → (third < node) × Placing x third defs size
        third_ready r l e = peel r λ w ts f a b j. (
          omega (arith, third_below j many (omega arith) l),
          subst (λ (o : ℕ). Placing x o defs size) (sym e)
              (record { w = w; ts = ts; f = f; a = _; b = _; job = third_job j many (omega arith) l (second_wrote j (omega arith)) }),
        )

        module _ {y : List ℕ} {third : ℕ} (is_third : third ≡ row_word t node THIRD) (r : Places x y third defs size) where
          module _ {w : List ℕ} {ts : List Token} {f a b : ℕ} (j : Job w ts (suc f) a b t node defs size) (l : 3 ≤ n) where
            pair : 2 ≤ n
            pair = omega arith

            third_done : Done w ts f (cut j many (some_part j pair)).n b x y (row_word t node THIRD) defs size
            third_done = as_places is_third r w ts f _ _ (third_job j many (some_part j pair) l (second_wrote j pair))

            third_wrote : Wrote t y a b size
            third_wrote =
                let c = cut j many (some_part j pair) in
                let g = c.low in
                let h = past_first j many (some_part j pair) in
                wrote_then (second_wrote j pair) third_done.wrote (omega arith) (λ i o z. (o, z)) (λ i o z. (omega arith, z))

            third_placed : Placed w y defs (names_in t size) (tree j THIRD)
            third_placed =
                subst (λ (M : List ℕ). Placed w y defs M (tree j THIRD)) (names_same t x size (second_wrote j pair).names)
                (at_row w y ts f defs (names_in x size) (word j THIRD (omega arith)) third_done.placed)

            both_then : Placed w y defs (names_in t size) (tree j FIRST)
                × Placed w y defs (sees (shape_kind (whole j).shape) (token_value w (own j + 1)) (names_in t size)) (tree j SECOND)
            both_then =
                let c = cut j many (some_part j pair) in
                let low = c.low in
                let high = c.high in
                let top = j.high in
                let e = number j many in (
                  placed_stays w defs a c.m third_done.wrote (omega arith) (λ i o z s q. omega arith) (names_in t size) (tree j FIRST) c.first
                      (first_then j pair),
                  placed_stays w defs c.m c.n third_done.wrote (omega arith) (λ i o z s q. omega arith)
                      (sees (shape_kind (whole j).shape) (token_value w (own j + 1)) (names_in t size)) (tree j SECOND) (c.second (omega arith))
                      (second_placed j pair),
                )

          pub three_done : n ≡ 3 → Places t y node defs size
          three_done e w ts zero a b j = absurd (no_job j)
          three_done e w ts (suc f) a b j =
              let s = (whole j).shape in
              let h = both_then j (omega arith) in
              done_as j s (whole j).known
              (three_placed ts w y defs (own j) (tree j FIRST) (tree j SECOND) (tree j THIRD) (list j) (names_in t size) s
              (parted s (sym (number j many) ∙ e)) h.0 h.1 (third_placed j (omega arith)))
              (third_wrote j (omega arith))
