-- Arguments and bounds: what the calls for them ask, and what follows when they are done.
use mathlib.Core.List.{List, ◌∷◌}
use mathlib.Core.Path.{◌≡◌, refl, sym, ap, subst, ◌∙◌}
use Prim.Native.Nat.{ℕ, zero, suc, ◌+◌, ◌≤◌, ◌<◌}
use native.Mathlib.Omega.{arith}
use borrow.Author.Tests.{eq-eqb, ne_eqb}
use Rattle.language.specs.Sizes.{TOKENS, NODES}
use Rattle.language.specs.Tokens.{Token}
use Rattle.language.specs.Trees.{Exp, Exps, last, more}
use Rattle.layout.specs.Table.{EXPRESSION, NEXT, row_word}
use Rattle.layout.specs.Decode.{tree_at, args_at, Argument, Right, RightArgs}
use Rattle.layout.specs.Slots.{HELD}
use Rattle.layout.specs.Notes.{put_name, names_in}
use Rattle.layout.specs.Resolved.{Placed, PlacedAll}
use Rattle.resolver.specs.Spans.{Spans, SpansAll}
use Rattle.resolver.specs.Resolves.{Wrote, Job, Done, JobAll, DoneAll, Placing, PlacingAll, Places, PlacesAll}
use Rattle.resolver.proofs.Spanning.{nonempty, ordered}
use Rattle.resolver.proofs.Writing.{wrote_none, wrote_then, wrote_name, names_put, names_same, row_alike, scene_after}
use Rattle.resolver.proofs.Staying.{placed_stays}

-- ---- none

none_is : (f : ℕ) (ts : List Token) (w : List ℕ) (row : ℕ) → row ≡ 0 → args_at f ts w row ≡ last
unfolding args_at
none_is zero ts w row e = refl
none_is (suc f) ts w row e = rw (eq-eqb row 0 e) refl

none_placed : (w u : List ℕ) (defs : ℕ) (L : List ℕ) → PlacedAll w u defs L last
unfolding Placed
none_placed w u defs L = tt

pub none_done : {t : List ℕ} {row defs size : ℕ} → row ≡ 0 → PlacesAll t t row defs size
none_done {t} {row} {defs} {size} e w ts f a b j = record {
  placed = subst (λ (es : Exps). PlacedAll w t defs (names_in t size) es) (sym (none_is f ts w row e)) (none_placed w t defs (names_in t size));
  wrote = wrote_none t a b size;
}

-- ---- one, and those behind it

module _ {w : List ℕ} {ts : List Token} {f a b : ℕ} {t : List ℕ} {row defs size : ℕ} (j : JobAll w ts (suc f) a b t row defs size) (some : row ≡ 0 → ⊥)
  where
    argument : Argument (λ i. Right f ts w i) (λ i. RightArgs f ts w i) w row
    unfolding RightArgs
    argument = j.right some

    word : (k : ℕ) → k < 5 → row_word t row k ≡ row_word w row k
    word k l = row_alike j.scene.alike row k argument.inside l

    abbrev part : Exp
    part = tree_at f ts w (row_word w row EXPRESSION)

    abbrev others : Exps
    others = args_at f ts w (row_word w row NEXT)

    args_is : args_at (suc f) ts w row ≡ more part others
    unfolding args_at
    args_is = rw (ne_eqb row 0 some) refl

    cut : (m : ℕ) × Spans a part m × SpansAll m others b
    unfolding Spans
    cut = subst (λ (es : Exps). SpansAll a es b) args_is j.spans

    past : a < cut.0
    past = nonempty part cut.1

    within : cut.0 ≤ b
    within = ordered others cut.2

    part_job : Job w ts f a cut.0 t (row_word t row EXPRESSION) defs size
    part_job =
        subst (λ (r : ℕ). Job w ts f a cut.0 t r defs size) (sym (word EXPRESSION (omega arith)))
        (record {
          scene = j.scene;
          right = argument.exp.1;
          spans = cut.1;
          room = j.room;
          high = omega (arith, within, j.high);
        })

    others_job : {u : List ℕ} {x y n : ℕ} → Wrote t u x y n → JobAll w ts f cut.0 b u (row_word t row NEXT) defs (size + 1)
    others_job {u} r =
        subst (λ (o : ℕ). JobAll w ts f cut.0 b u o defs (size + 1)) (sym (word NEXT (omega arith)))
        (record {
          scene = scene_after j.scene r;
          right = argument.next.1;
          spans = cut.2;
          room = omega (arith, past, j.room);
          high = j.high;
        })

no_list : {w : List ℕ} {ts : List Token} {a b : ℕ} {t : List ℕ} {row defs size : ℕ} → JobAll w ts zero a b t row defs size → row ≡ 0
unfolding RightArgs
no_list j = j.right

peel_all : {t : List ℕ} {row defs size : ℕ} {P : Type 0} → PlacingAll t row defs size → (row ≡ 0 → ⊥)
    → ((w : List ℕ) (ts : List Token) (f a b : ℕ) → JobAll w ts (suc f) a b t row defs size → P) → P
peel_all {t} {row} {defs} {size} {P} p n g = go p.f p.job
  where
    go : (f : ℕ) → JobAll p.w p.ts f p.a p.b t row defs size → P
    go zero j = absurd (n (no_list j))
    go (suc f) j = g p.w p.ts f p.a p.b j

pub list_inside : {t : List ℕ} {row defs size : ℕ} → PlacingAll t row defs size → (row ≡ 0 → ⊥) → row < NODES
list_inside p n = peel_all p n λ w ts f a b j. (argument j n).inside

pub list_room : {t : List ℕ} {row defs size : ℕ} → PlacingAll t row defs size → (row ≡ 0 → ⊥) → size < TOKENS
list_room p n = peel_all p n λ w ts f a b j. omega (arith, past j n, within j n, j.room, j.high)

pub part_ready : {t : List ℕ} {row defs size child : ℕ} → PlacingAll t row defs size → (row ≡ 0 → ⊥) → child ≡ row_word t row EXPRESSION
    → (child < row) × Placing t child defs size
part_ready {t} {row} {defs} {size} p n e = peel_all p n λ w ts f a b j. (
  omega (arith, (argument j n).exp.0, word j n EXPRESSION (omega arith)),
  subst (λ (r : ℕ). Placing t r defs size) (sym e) (record { w = w; ts = ts; f = f; a = _; b = _; job = part_job j n }),
)

module _ {t u v : List ℕ} {row defs size child : ℕ} (some : row ≡ 0 → ⊥) (is_part : child ≡ row_word t row EXPRESSION)
    (p : Places t u child defs size) (held : v ≡ put_name u size HELD) where
  module _ {w : List ℕ} {ts : List Token} {f a b : ℕ} (j : JobAll w ts (suc f) a b t row defs size) where
    part_done : Done w ts f a (cut j some).0 t u (row_word t row EXPRESSION) defs size
    part_done = subst (λ (r : ℕ). Places t u r defs size) is_part p w ts f _ _ (part_job j some)

    few : size < TOKENS
    few = omega (arith, past j some, within j some, j.room, j.high)

    held_wrote : Wrote u v 0 0 size
    held_wrote = subst (λ (x : List ℕ). Wrote u x 0 0 size) (sym held) (wrote_name u size HELD size (omega arith) few)

    both_wrote : Wrote t v a (cut j some).0 size
    both_wrote = wrote_then part_done.wrote held_wrote (omega arith) (λ i x y. (x, y)) (λ i x y. absurd (omega arith))

    seen : names_in v (size + 1) ≡ HELD ∷ names_in t size
    seen =
        ap (λ (x : List ℕ). names_in x (size + 1)) held
        ∙ names_put u size HELD (omega (arith, j.scene.long, part_done.wrote.long)) few
        ∙ ap (λ (M : List ℕ). HELD ∷ M) (names_same t u size part_done.wrote.names)

  pub next_ready : {next : ℕ} → PlacingAll t row defs size → next ≡ row_word t row NEXT → (next < row) × PlacingAll v next defs (size + 1)
  next_ready q e = peel_all q some λ w ts f a b j. (
    omega (arith, (argument j some).next.0, word j some NEXT (omega arith)),
    subst (λ (r : ℕ). PlacingAll v r defs (size + 1)) (sym e)
        (record { w = w; ts = ts; f = f; a = _; b = _; job = others_job j some (both_wrote j) }),
  )

  module _ {x : List ℕ} {next : ℕ} (is_next : next ≡ row_word t row NEXT) (q : PlacesAll v x next defs (size + 1)) where
    module _ {w : List ℕ} {ts : List Token} {f a b : ℕ} (j : JobAll w ts (suc f) a b t row defs size) where
      others_done : DoneAll w ts f (cut j some).0 b v x (row_word t row NEXT) defs (size + 1)
      others_done = subst (λ (r : ℕ). PlacesAll v x r defs (size + 1)) is_next q w ts f _ _ (others_job j some (both_wrote j))

      part_placed : Placed w x defs (names_in t size) (part j some)
      part_placed =
          let l = within j some in
          let h = j.high in
          placed_stays w defs a (cut j some).0 others_done.wrote (omega arith) (λ i y z o s. omega arith) (names_in t size) (part j some)
          (cut j some).1
          (placed_stays w defs a (cut j some).0 (held_wrote j) (omega arith) (λ i y z o s. omega arith) (names_in t size) (part j some)
          (cut j some).1
          (subst (λ (r : ℕ). Placed w u defs (names_in t size) (tree_at f ts w r)) (word j some EXPRESSION (omega arith)) (part_done j).placed))

      others_placed : PlacedAll w x defs (HELD ∷ names_in t size) (others j some)
      others_placed =
          subst (λ (M : List ℕ). PlacedAll w x defs M (others j some)) (seen j)
          (subst (λ (r : ℕ). PlacedAll w x defs (names_in v (size + 1)) (args_at f ts w r)) (word j some NEXT (omega arith)) others_done.placed)

      more_placed : PlacedAll w x defs (names_in t size) (more (part j some) (others j some))
      unfolding Placed
      more_placed = (part_placed, others_placed)

    pub more_done : PlacesAll t x row defs size
    more_done w ts zero a b j = absurd (some (no_list j))
    more_done w ts (suc f) a b j =
        let l = past j some in
        let h = within j some in
        record {
          placed = subst (λ (es : Exps). PlacedAll w x defs (names_in t size) es) (sym (args_is j some)) (more_placed j);
          wrote = wrote_then (both_wrote j) (others_done j).wrote (omega arith) (λ i y z. (y, omega arith)) (λ i y z. (omega arith, z));
        }
