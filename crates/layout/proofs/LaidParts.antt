-- The parts of a tree that is laid down in rows that a table still has: once they are read back, so is the row above them.
use mathlib.Core.Bool.{Bool, true, false, ◌||◌}
use mathlib.Core.List.{List}
use mathlib.Core.Option.{some}
use mathlib.Core.Path.{◌≡◌, refl, sym, ap, subst, ◌∙◌}
use Prim.Native.Nat.{ℕ, suc, ◌+◌, ◌*◌, ◌≤◌, ◌<◌}
use native.Mathlib.Omega.{arith}
use lib.Dec.{eqb}
use lib.Ieee.{Float}
use lib.ListN.{length, get_or}
use Rattle.language.specs.Sizes.{NODES}
use Rattle.language.specs.Tokens.{Token, At, entry, spelling_at, NAME, NUMBER, FLOAT_NUMBER, TRUE, FALSE, TT, LET}
use Rattle.language.specs.Tokens.{UPTO, THROUGH}
use Rattle.language.specs.Trees.{Literal, whole, truth, trivial, decimal, Unary, minus, not, fetch, new, Binary, add, sub, mul, div, less, equal, and, or}
use Rattle.language.specs.Trees.{assign, Exp, literal, counted, Exps, last, more}
use Rattle.layout.specs.Table.{ROWS_AT, put_row}
use Rattle.layout.specs.Rows.{CALL, literal_kind, unary_kind, binary_kind, range_kind, below, under, head, lay}
use Rattle.layout.specs.Decode.{Shape, a_number, a_float}
use Rattle.layout.specs.Decode.{a_constant, a_unary, a_binary, shape_of, counts, children, build}
use Rattle.layout.proofs.Shapes.{binary_between}
use Rattle.layout.proofs.TableLaws.{Five, put_row_five, put_row_before}
use Rattle.layout.proofs.LayLaws.{length_lay, lay_before}
use Rattle.layout.proofs.Owned.{OwnedLiteral, owned_whole, owned_decimal}
use Rattle.layout.proofs.Listing.{lists, listless, asks, asked, range_high, binary_lists}
use Rattle.layout.proofs.Holding.{Listless, Back, BackAll, Tokens, no_tokens, leaf_back, one_back, two_back, three_back}
use Rattle.layout.proofs.Holding.{for_back}

-- ---- the kinds of operators

pub unary_shape : (o : Unary) → shape_of (unary_kind o) ≡ some (a_unary o)
unfolding shape_of entry unary_kind
unary_shape minus = refl
unary_shape not = refl
unary_shape fetch = refl
unary_shape new = refl

pub binary_shape : (o : Binary) → shape_of (binary_kind o) ≡ some (a_binary o)
unfolding shape_of entry binary_kind
binary_shape add = refl
binary_shape sub = refl
binary_shape mul = refl
binary_shape div = refl
binary_shape less = refl
binary_shape equal = refl
binary_shape and = refl
binary_shape or = refl
binary_shape assign = refl

-- ---- where a list of arguments begins

pub head_most : (es : Exps) (f : ℕ) → head f es ≤ f + under es
unfolding head below
head_most last f = omega arith
head_most (more e es) f = omega arith

pub head_less : (es : Exps) (f : ℕ) → 0 < f → head f es < f + under es
unfolding head below
head_less last f h = omega arith
head_less (more e es) f h = omega arith

-- ---- rows that a table still has

-- ls has the words of the rows from f up to g as w has them
abbrev pub Agree : List ℕ → List ℕ → ℕ → ℕ → Type 0
Agree ls w f g = (j : ℕ) → ROWS_AT + 5 * f ≤ j → j < ROWS_AT + 5 * g → get_or ls j 0 ≡ get_or w j 0

module _ (ts : List Token) (ls : List ℕ) where
  module _ (w : List ℕ) (i k t a b c f : ℕ) (h : ROWS_AT + 5 * i + 5 ≤ length w) (o : f ≤ i) (g : Agree ls (put_row w i k t a b c) f (i + 1)) where
    -- the row that was put last
    pub last_row : Five ls i k t a b c
    last_row =
        let v = put_row_five w i k t a b c h in
        record {
          kind = g _ (omega arith) (omega arith) ∙ v.kind;
          own = g _ (omega arith) (omega arith) ∙ v.own;
          first = g _ (omega arith) (omega arith) ∙ v.first;
          second = g _ (omega arith) (omega arith) ∙ v.second;
          third = g _ (omega arith) (omega arith) ∙ v.third;
        }

    -- and those before it
    pub rows_before : Agree ls w f i
    rows_before j p q = g j p (omega arith) ∙ put_row_before w i k t a b c j q

  pub to : {n i j : ℕ} {e : Exp} → i ≡ j → Back ts ls n j e → Back ts ls n i e
  to {n} {e = e} q x = subst (λ (z : ℕ). Back ts ls n z e) (sym q) x

  pub to_all : {n i j : ℕ} {es : Exps} → i ≡ j → BackAll ts ls n j es → BackAll ts ls n i es
  to_all {n} {es = es} q x = subst (λ (z : ℕ). BackAll ts ls n z es) (sym q) x

  -- ---- one, two and three parts, each laid behind the one before

  -- what is shown of a tree that is laid from row f on
  abbrev pub Laid : Exp → List ℕ → ℕ → ℕ → Type 0
  Laid e w f m = Agree ls (lay w f e) f (f + below e + 1) → Back ts ls m (f + below e) e

  module _ (k t : ℕ) (s : Shape) (z : Exp) (w : List ℕ) (f m : ℕ) (y : shape_of k ≡ some s) (x : Listless k) (o : Tokens ts ls k t)
      (l : ROWS_AT + 5 * NODES ≤ length w) where
    pub one_laid : (e : Exp) → children s ≡ 1
        → ((b c : Exp) (es : Exps) → build ts s t e b c es ≡ z) → f + below e + 1 < NODES → Laid e w f m
        → Agree ls (put_row (lay w f e) (f + below e + 1) k t (f + below e) 0 0) f (f + below e + 1 + 1) → Back ts ls (suc m) (f + below e + 1) z
    one_laid e n q h p g =
        let r : ROWS_AT + 5 * (f + below e + 1) + 5 ≤ length (lay w f e) = rw (length_lay e w f) (omega arith) in
        let v = last_row (lay w f e) (f + below e + 1) k t (f + below e) 0 0 f r (omega arith) g in
        let u = rows_before (lay w f e) (f + below e + 1) k t (f + below e) 0 0 f r (omega arith) g in
        one_back ts ls m _ k t _ _ _ s z e v h y n x o (omega arith) (p u) (q _ _ _)

    pub two_laid : (a b : Exp) (d i : ℕ) → d ≡ f + below a + 1 → i ≡ d + below b + 1 → children s ≡ 2
        → ((c : Exp) (es : Exps) → build ts s t a b c es ≡ z) → i < NODES → Laid a w f m → Laid b (lay w f a) d m
        → Agree ls (put_row (lay (lay w f a) d b) i k t (f + below a) (d + below b) 0) f (i + 1) → Back ts ls (suc m) i z
    two_laid a b d i e e' n q h p p' g =
        let r : ROWS_AT + 5 * i + 5 ≤ length (lay (lay w f a) d b) = rw (length_lay b (lay w f a) d, length_lay a w f) (omega arith) in
        let v = last_row (lay (lay w f a) d b) i k t (f + below a) (d + below b) 0 f r (omega arith) g in
        let u = rows_before (lay (lay w f a) d b) i k t (f + below a) (d + below b) 0 f r (omega arith) g in
        two_back ts ls m i k t _ _ _ s z a b v h y n x o (omega arith)
        (p (λ j α β. u j α (omega arith) ∙ lay_before b (lay w f a) d j (omega arith))) (omega arith)
        (p' (λ j α β. u j (omega arith) (omega arith))) (q _ _)

    pub three_laid : (a b c : Exp) (d g i : ℕ) → d ≡ f + below a + 1 → g ≡ d + below b + 1 → i ≡ g + below c + 1 → ((es : Exps) → build ts s t a b c es ≡ z)
        → i < NODES → Laid a w f m → Laid b (lay w f a) d m → Laid c (lay (lay w f a) d b) g m
        → Agree ls (put_row (lay (lay (lay w f a) d b) g c) i k t (f + below a) (d + below b) (g + below c)) f (i + 1) → Back ts ls (suc m) i z
    three_laid a b c d g i e e' e'' q h p p' p'' w' =
        let r : ROWS_AT + 5 * i + 5 ≤ length (lay (lay (lay w f a) d b) g c) =
        rw (length_lay c (lay (lay w f a) d b) g, length_lay b (lay w f a) d, length_lay a w f) (omega arith) in
        let v = last_row (lay (lay (lay w f a) d b) g c) i k t (f + below a) (d + below b) (g + below c) f r (omega arith) w' in
        let u = rows_before (lay (lay (lay w f a) d b) g c) i k t (f + below a) (d + below b) (g + below c) f r (omega arith) w' in
        three_back ts ls m i k t _ _ _ s z a b c v h y x o (omega arith)
        (p (λ j α β. u j α (omega arith) ∙ lay_before c (lay (lay w f a) d b) g j (omega arith) ∙ lay_before b (lay w f a) d j (omega arith))) (omega arith)
        (p' (λ j α β. u j (omega arith) (omega arith) ∙ lay_before c (lay (lay w f a) d b) g j (omega arith))) (omega arith)
        (p'' (λ j α β. u j (omega arith) (omega arith))) (q _)

    -- a row with no part
    pub none_laid : children s ≡ 0 → ((a b c : Exp) (es : Exps) → build ts s t a b c es ≡ z) → f < NODES
        → Agree ls (put_row w f k t 0 0 0) f (f + 1) → Back ts ls (suc m) f z
    none_laid n q h g = leaf_back ts ls m f k t 0 0 0 s z (last_row w f k t 0 0 0 f (omega arith) (omega arith) g) h y n x o (q _ _ _ _)

  -- a kind that asks nothing of the tokens
  pub plain : (k t : ℕ) → asks k ≡ false → lists k ≡ false → Tokens ts ls k t
  plain k t q r =
      no_tokens ts ls k t (asked k NAME q refl) (asked k NUMBER q refl) (asked k FLOAT_NUMBER q refl) (asked k CALL q refl) (asked k LET q refl)
      (listless k r).1

  pub constant_laid : (i : ℕ) (x : Literal) (w : List ℕ) (f m : ℕ) → OwnedLiteral ts i x → f < NODES → ROWS_AT + 5 * NODES ≤ length w
      → Agree ls (put_row w f (literal_kind x) i 0 0 0) f (f + 1) → Back ts ls (suc m) f (literal i x)
  unfolding build shape_of entry literal_kind lists counts
  constant_laid i (whole n) w f m (owned_whole a y) h l g =
      none_laid NUMBER i a_number _ w f m refl (listless NUMBER refl)
      record {
        named = λ e. absurd (omega arith);
        valued = λ _. a;
        pointed = λ e. absurd (omega arith);
        called = λ e. absurd (omega arith);
        bound = λ e. absurd (omega arith);
        loops = λ e. absurd ((listless NUMBER refl).1 e);
      }
      l refl (λ _ _ _ _. ap (λ (z : ℕ). literal i (whole z)) (sym y)) h g
  constant_laid i (truth true) w f m o h l g =
      none_laid TRUE i (a_constant (truth true)) _ w f m refl (listless TRUE refl)
      (plain _ _ refl refl) l refl (λ _ _ _ _. refl) h g
  constant_laid i (truth false) w f m o h l g =
      none_laid FALSE i (a_constant (truth false)) _ w f m refl (listless FALSE refl)
      (plain _ _ refl refl) l refl (λ _ _ _ _. refl) h g
  constant_laid i trivial w f m o h l g =
      none_laid TT i (a_constant trivial) _ w f m refl (listless TT refl)
      (plain _ _ refl refl) l refl (λ _ _ _ _. refl) h g
  constant_laid i (decimal n) w f m (owned_decimal a y) h l g =
      none_laid FLOAT_NUMBER i a_float _ w f m refl (listless FLOAT_NUMBER refl)
      record {
        named = λ e. absurd (omega arith);
        valued = λ e. absurd (omega arith);
        pointed = λ _. a;
        called = λ e. absurd (omega arith);
        bound = λ e. absurd (omega arith);
        loops = λ e. absurd ((listless FLOAT_NUMBER refl).1 e);
      }
      l refl (λ _ _ _ _. ap (λ (z : Float). literal i (decimal z)) (sym y)) h g

  pub unary_plain : (o : Unary) (t : ℕ) → Tokens ts ls (unary_kind o) t
  unfolding unary_kind lists counts
  unary_plain minus t = plain _ t refl refl
  unary_plain not t = plain _ t refl refl
  unary_plain fetch t = plain _ t refl refl
  unary_plain new t = plain _ t refl refl

  pub binary_plain : (o : Binary) (t : ℕ) → Tokens ts ls (binary_kind o) t
  binary_plain o t =
      let r = binary_between o in
      no_tokens ts ls _ t (λ e. omega arith) (λ e. omega arith) (λ e. omega arith) (λ e. omega arith) (λ e. omega arith)
      (listless _ (binary_lists o)).1

  pub for_token : {k t : ℕ} → At ts (t + 1) NAME → eqb k UPTO || eqb k THROUGH ≡ true → Tokens ts ls k t
  for_token {k} {t} a e =
      let z = range_high k e in
      record {
        named = λ e. absurd (omega arith);
        valued = λ e. absurd (omega arith);
        pointed = λ e. absurd (omega arith);
        called = λ e. absurd (omega arith);
        bound = λ e. absurd (omega arith);
        loops = λ _. a;
      }

  -- a `for` whose row ls has, over its bounds and its body
  pub for_laid : (r : Bool) (t j a b : ℕ) (es : Exps) (e : Exp) (m : ℕ) → At ts (t + 1) NAME → Five ls j (range_kind r) t a b 0 → j < NODES
      → a ≤ j → BackAll ts ls m a es → b < j → Back ts ls m b e → Back ts ls (suc m) j (counted t (spelling_at ts (t + 1)) r es e)
  unfolding range_kind shape_of entry build counts
  for_laid false t j a b es e m k v h l p o q =
      for_back ts ls m j UPTO t a b 0 false es e (λ e. omega arith) refl v h refl (for_token k refl) l p o q
  for_laid true t j a b es e m k v h l p o q =
      for_back ts ls m j THROUGH t a b 0 true es e (λ e. omega arith) refl v h refl (for_token k refl) l p o q
