-- Nodes with one, two or three parts: what the calls for them ask, and what follows when they are done.
use mathlib.Core.List.{List}
use mathlib.Core.Option.{some}
use mathlib.Core.Path.{◌≡◌, refl, sym, ap, subst, ◌∙◌}
use Prim.Native.Nat.{ℕ, suc, ◌+◌, ◌≤◌, ◌<◌}
use native.Mathlib.Omega.{arith}
use Rattle.language.specs.Sizes.{TOKENS, NODES}
use Rattle.language.specs.Tokens.{Token}
use Rattle.language.specs.Trees.{Exp, Exps}
use Rattle.layout.specs.Table.{KIND, OWN, FIRST, SECOND, THIRD, row_word}
use Rattle.layout.specs.Decode.{Shape, shape_of, children, build, build_if, tree_at, args_at, Node, Right, RightArgs}
use Rattle.layout.specs.Notes.{names_in}
use Rattle.layout.specs.Resolved.{Placed}
use Rattle.layout.proofs.Shapes.{shape_kind, kind_of_shape, children_most}
use Rattle.layout.proofs.VariablesTrees.{right_inside}
use Rattle.rules.specs.Asked.{Children}
use Rattle.resolver.specs.Spans.{Spans}
use Rattle.resolver.specs.Resolves.{Wrote, Job, Done, Placing}
use Rattle.resolver.proofs.Spanning.{nonempty}
use Rattle.resolver.proofs.Cutting.{Cuts, cuts}
use Rattle.resolver.proofs.Writing.{row_alike, scene_after}

pub job_inside : {w : List ℕ} {ts : List Token} {f a b : ℕ} {t : List ℕ} {node defs size : ℕ} → Job w ts f a b t node defs size → node < NODES
job_inside {w} {ts} {f} {node = node} j = right_inside f ts w node j.right

pub inside : {t : List ℕ} {node defs size : ℕ} → Placing t node defs size → node < NODES
inside p = job_inside p.job

-- ---- a node, and its parts as rows of t

module _ {w : List ℕ} {ts : List Token} {f a b : ℕ} {t : List ℕ} {node defs size : ℕ} (j : Job w ts (suc f) a b t node defs size) where
  pub whole : Node (λ i. Right f ts w i) (λ i. RightArgs f ts w i) ts w node
  unfolding Right
  whole = j.right

  pub word : (k : ℕ) → k < 5 → row_word t node k ≡ row_word w node k
  word k l = row_alike j.scene.alike node k whole.inside l

  abbrev pub tree : ℕ → Exp
  tree k = tree_at f ts w (row_word w node k)

  abbrev pub list : Exps
  list = args_at f ts w (row_word w node FIRST)

  abbrev pub own : ℕ
  own = row_word w node OWN

  pub tree_is : (s : Shape) → shape_of (row_word w node KIND) ≡ some s
      → tree_at (suc f) ts w node ≡ build ts s own (tree FIRST) (tree SECOND) (tree THIRD) list
  unfolding tree_at build_if
  tree_is s e = rw e refl

  pub spans_as : (s : Shape) → shape_of (row_word w node KIND) ≡ some s
      → Spans a (build ts s own (tree FIRST) (tree SECOND) (tree THIRD) list) b
  spans_as s e = subst (λ (x : Exp). Spans a x b) (tree_is s e) j.spans

  pub done_as : (s : Shape) → shape_of (row_word w node KIND) ≡ some s → {u : List ℕ}
      → Placed w u defs (names_in t size) (build ts s own (tree FIRST) (tree SECOND) (tree THIRD) list) → Wrote t u a b size
      → Done w ts (suc f) a b t u node defs size
  done_as s e {u} p r = record {
    placed = subst (λ (x : Exp). Placed w u defs (names_in t size) x) (sym (tree_is s e)) p;
    wrote = r;
  }

  -- the kind as t has it
  pub kind_is : row_word t node KIND ≡ shape_kind whole.shape
  kind_is = word KIND (omega arith) ∙ kind_of_shape _ _ whole.known

  known_in_t : shape_of (row_word t node KIND) ≡ some whole.shape
  known_in_t = ap shape_of (word KIND (omega arith)) ∙ whole.known

  -- ---- with parts

  module _ {n : ℕ} (many : Children (row_word t node KIND) n) where
    pub number : n ≡ children whole.shape
    number = many whole.shape known_in_t

    pub most : n ≤ 3
    most = let l = children_most (row_word t node KIND) known_in_t in omega (arith, number)

    module _ (some_part : 1 ≤ n) where
      pub cut : Cuts whole.shape a b own (tree FIRST) (tree SECOND) (tree THIRD)
      cut = cuts ts own (tree FIRST) (tree SECOND) (tree THIRD) list whole.shape (omega (arith, number)) (spans_as whole.shape whole.known)

      pub past_first : a < cut.m
      past_first = nonempty (tree FIRST) cut.first

      pub first_below : row_word t node FIRST < node
      first_below = omega (arith, word FIRST (omega arith), (whole.first (omega (arith, number))).0)

      pub first_job : Job w ts f a cut.m t (row_word t node FIRST) defs size
      first_job =
          subst (λ (r : ℕ). Job w ts f a cut.m t r defs size) (sym (word FIRST (omega arith)))
          (record {
            scene = j.scene;
            right = (whole.first (omega (arith, number))).1;
            spans = cut.first;
            room = j.room;
            high = omega (arith, cut.low, cut.high, j.high);
          })

      pub second_below : 2 ≤ n → row_word t node SECOND < node
      second_below l = omega (arith, word SECOND (omega arith), (whole.second (omega (arith, number))).0)

      pub third_below : 3 ≤ n → row_word t node THIRD < node
      third_below l = omega (arith, word THIRD (omega arith), (whole.third (omega (arith, number))).0)

      pub second_job : {u : List ℕ} {x y k inner : ℕ} → 2 ≤ n → Wrote t u x y k → inner ≤ size + 1
          → Job w ts f cut.m cut.n u (row_word t node SECOND) defs inner
      second_job {u} {inner = inner} l r few =
          subst (λ (o : ℕ). Job w ts f cut.m cut.n u o defs inner) (sym (word SECOND (omega arith)))
          (record {
            scene = scene_after j.scene r;
            right = (whole.second (omega (arith, number))).1;
            spans = cut.second (omega (arith, number));
            room = omega (arith, past_first, j.room);
            high = omega (arith, cut.high, j.high);
          })

      pub third_job : {u : List ℕ} {x y k : ℕ} → 3 ≤ n → Wrote t u x y k → Job w ts f cut.n b u (row_word t node THIRD) defs size
      third_job {u} l r =
          subst (λ (o : ℕ). Job w ts f cut.n b u o defs size) (sym (word THIRD (omega arith)))
          (record {
            scene = scene_after j.scene r;
            right = (whole.third (omega (arith, number))).1;
            spans = cut.third (omega (arith, number));
            room = omega (arith, past_first, cut.low, j.room);
            high = j.high;
          })

      -- the name behind its token can be read
      pub behind_own : 2 ≤ n → row_word t node OWN + 1 < TOKENS
      behind_own l = omega (arith, word OWN (omega arith), cut.behind (omega (arith, number)), j.high)

      pub has_room : 2 ≤ n → size < TOKENS
      has_room l = omega (arith, past_first, cut.low, cut.high, j.room, j.high)
