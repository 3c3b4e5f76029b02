-- One fork more turns aside the new token alone: every token that had a way has one, and the new one has.
use borrow.Author.Tests.{eqb-true, eqb-false}
use lib.Dec.{eqb}
use lib.ListN.{length, get_or, set, length-set}
use lib.Seq.{get_or-set_same, get_or-set_other}
use mathlib.Core.List.{List}
use mathlib.Core.Logic.{⊎_elim}
use mathlib.Core.Path.{◌≡◌, sym, ◌∙◌, ap, subst}
use native.Mathlib.Nat.{mod-lt}
use native.Mathlib.Omega.{arith}
use Prim.Native.Nat.{ℕ, ◌+◌, ◌*◌, ◌-◌, ◌/◌, ◌%◌, ◌≤◌, ◌<◌}
use Rattle.language.proofs.Text.Choices.{either, outcome}
use Rattle.language.specs.Sizes.{TOKENS, TABLE}
use Rattle.language.specs.Tokens.{Spelling}
use Rattle.tokens.proofs.Agreeing.{but_self, but_inside}
use Rattle.tokens.proofs.ForkLaws.{leads_on, link_there, link_taken, start_there, leads_there}
use Rattle.tokens.specs.Forks.{ButRows, ROOTS, STARTS_AT, FORKS_AT, letter_at, turn, link, start, Leads, here, goes}
use Rattle.tokens.specs.Forks.{Finds, Link, LinkAt, Shape, put_fork}

-- a link that is a token's ordinal
pub token_link : {n m x : ℕ} (f : ℕ) → (x ≤ n - 1) × (x < TOKENS) → Link n m f x
token_link f h = record { leaf = λ y. h.0; above = λ y. absurd (omega arith); asks = λ y. absurd (omega arith); below = λ y. absurd (omega arith) }

module _ {w v : List ℕ} {n at : ℕ} (place bit t : ℕ) (room : TABLE ≤ length w) (g : Shape w n) (some : 0 < n) (few : n < TOKENS)
    (l : LinkAt (get_or w FORKS_AT 0) at) (leaf : get_or w at 0 < TOKENS) (two : t < 2) (is : v ≡ put_fork w at n place bit t) where
  m : ℕ
  m = get_or w FORKS_AT 0

  f : ℕ
  unfolding m
  f = TOKENS + m

  inside : f < 2 * TOKENS + ROOTS
  unfolding f m
  inside = omega (arith, g.few)

  before : at < 4 * f
  unfolding f m
  before = omega (arith, l.is, l.high, l.two)

  -- the table as it grows
  w₁ : List ℕ
  unfolding f
  w₁ = set w (4 * f) place

  w₂ : List ℕ
  unfolding w₁
  w₂ = set w₁ (4 * f + 1) bit

  w₃ : List ℕ
  unfolding w₂
  w₃ = set w₂ (4 * f + 2 + t) (get_or w at 0)

  w₄ : List ℕ
  unfolding w₃
  w₄ = set w₃ (4 * f + 3 - t) n

  w₅ : List ℕ
  unfolding w₄
  w₅ = set w₄ at f

  is_so : v ≡ set w₅ FORKS_AT (m + 1)
  unfolding w₅ w₄ w₃ w₂ w₁ f m put_fork
  is_so = is

  long₁ : length w₁ ≡ length w
  unfolding w₁
  long₁ = length-set w (4 * f) place

  long₂ : length w₂ ≡ length w
  unfolding w₂
  long₂ = length-set w₁ (4 * f + 1) bit ∙ long₁

  long₃ : length w₃ ≡ length w
  unfolding w₃
  long₃ = length-set w₂ (4 * f + 2 + t) (get_or w at 0) ∙ long₂

  long₄ : length w₄ ≡ length w
  unfolding w₄
  long₄ = length-set w₃ (4 * f + 3 - t) n ∙ long₃

  long₅ : length w₅ ≡ length w
  unfolding w₅
  long₅ = length-set w₄ at f ∙ long₄

  -- what is not among the words of the fork
  upper : (i : ℕ) → (i ≡ FORKS_AT → ⊥) → (i ≡ at → ⊥) → get_or v i 0 ≡ get_or w₄ i 0
  unfolding w₅
  upper i a b = ap (λ (z : List ℕ). get_or z i 0) is_so ∙ get_or-set_other w₅ FORKS_AT i (m + 1) 0 a ∙ get_or-set_other w₄ at i f 0 b

  kept : (i : ℕ) → i < 4 * f → (i ≡ at → ⊥) → get_or v i 0 ≡ get_or w i 0
  unfolding w₄ w₃ w₂ w₁
  kept i h b =
      upper i (λ e. omega (arith, inside)) b ∙ get_or-set_other w₃ (4 * f + 3 - t) i n 0 (λ e. omega arith)
      ∙ get_or-set_other w₂ (4 * f + 2 + t) i (get_or w at 0) 0 (λ e. omega arith) ∙ get_or-set_other w₁ (4 * f + 1) i bit 0 (λ e. omega arith)
      ∙ get_or-set_other w (4 * f) i place 0 (λ e. omega arith)

  pub fork_starts : (i : ℕ) → STARTS_AT ≤ i → i < FORKS_AT → get_or v i 0 ≡ get_or w i 0
  unfolding w₄ w₃ w₂ w₁
  fork_starts i h u =
      let z = inside in
      upper i (λ e. omega arith) (λ e. omega (arith, before)) ∙ get_or-set_other w₃ (4 * f + 3 - t) i n 0 (λ e. omega arith)
      ∙ get_or-set_other w₂ (4 * f + 2 + t) i (get_or w at 0) 0 (λ e. omega arith) ∙ get_or-set_other w₁ (4 * f + 1) i bit 0 (λ e. omega arith)
      ∙ get_or-set_other w (4 * f) i place 0 (λ e. omega arith)

  at_is : get_or v at 0 ≡ f
  unfolding w₅
  at_is =
      ap (λ (z : List ℕ). get_or z at 0) is_so ∙ get_or-set_other w₅ FORKS_AT at (m + 1) 0 (λ e. omega (arith, inside, before))
      ∙ get_or-set_same w₄ at f 0 (omega (arith, long₄, before, inside))

  forks_is : get_or v FORKS_AT 0 ≡ m + 1
  forks_is = ap (λ (z : List ℕ). get_or z FORKS_AT 0) is_so ∙ get_or-set_same w₅ FORKS_AT (m + 1) 0 (omega (arith, long₅))

  place_is : get_or v (4 * f) 0 ≡ place
  unfolding w₄ w₃ w₂ w₁
  place_is =
      upper (4 * f) (λ e. omega (arith, inside)) (λ e. omega (arith, before)) ∙ get_or-set_other w₃ (4 * f + 3 - t) (4 * f) n 0 (λ e. omega arith)
      ∙ get_or-set_other w₂ (4 * f + 2 + t) (4 * f) (get_or w at 0) 0 (λ e. omega arith)
      ∙ get_or-set_other w₁ (4 * f + 1) (4 * f) bit 0 (λ e. omega arith) ∙ get_or-set_same w (4 * f) place 0 (omega (arith, inside))

  bit_is : get_or v (4 * f + 1) 0 ≡ bit
  unfolding w₄ w₃ w₂
  bit_is =
      upper (4 * f + 1) (λ e. omega (arith, inside)) (λ e. omega (arith, before))
      ∙ get_or-set_other w₃ (4 * f + 3 - t) (4 * f + 1) n 0 (λ e. omega arith)
      ∙ get_or-set_other w₂ (4 * f + 2 + t) (4 * f + 1) (get_or w at 0) 0 (λ e. omega arith)
      ∙ get_or-set_same w₁ (4 * f + 1) bit 0 (omega (arith, inside, long₁))

  leaf_is : get_or v (4 * f + 2 + t) 0 ≡ get_or w at 0
  unfolding w₄ w₃
  leaf_is =
      upper (4 * f + 2 + t) (λ e. omega (arith, inside)) (λ e. omega (arith, before))
      ∙ get_or-set_other w₃ (4 * f + 3 - t) (4 * f + 2 + t) n 0 (λ e. omega arith)
      ∙ get_or-set_same w₂ (4 * f + 2 + t) (get_or w at 0) 0 (omega (arith, inside, long₂))

  new_is : get_or v (4 * f + 3 - t) 0 ≡ n
  unfolding w₄
  new_is =
      upper (4 * f + 3 - t) (λ e. omega (arith, inside)) (λ e. omega (arith, before))
      ∙ get_or-set_same w₃ (4 * f + 3 - t) n 0 (omega (arith, inside, long₃))

  pub fork_rest : ButRows v w
  unfolding w₅ w₄ w₃ w₂ w₁ f m
  fork_rest =
      let i = inside in
      let b = before in
      subst (λ (z : List ℕ). ButRows z w) (sym is_so)
      (but_inside _ _ (omega arith) (omega arith) (but_inside _ _ (omega (arith, l.is, l.low)) (omega arith)
      (but_inside _ _ (omega arith) (omega arith) (but_inside _ _ (omega arith) (omega arith)
      (but_inside _ _ (omega arith) (omega arith) (but_inside _ _ (omega arith) (omega arith) (but_self w)))))))

  -- ---- ways then

  link_kept : (s : Spelling) (x : ℕ) → TOKENS ≤ x → x < f → link v s x ≡ link w s x
  unfolding turn
  link_kept s x h u = rw (kept (4 * x) (omega arith) (λ e. omega (arith, l.is, l.two)), kept (4 * x + 1) (omega arith) (λ e. omega (arith, l.is, l.two)))

  leads_kept : {s : Spelling} {a e : ℕ} → LinkAt m a → Leads w s a e → Leads v s a e
  unfolding f m
  leads_kept k here = here
  leads_kept {s} {e = e} k (goes {a = a} x y) =
      let below = (link_there g k).below x in
      let z = kept a (omega (arith, k.is, k.high, k.two)) (λ d. omega (arith, ap (λ (i : ℕ). get_or w i 0) d)) in
      let q = ap (link v s) z ∙ link_kept s (get_or w a 0) x below in
      goes {a = a} (omega (arith, z)) (subst (λ (b : ℕ). Leads v s b e) (sym q) (leads_kept (link_taken w s (get_or w a 0) x below) y))

  from_start : {s : Spelling} {e : ℕ} → Leads w s (start s) e → Leads v s (start s) e
  unfolding m
  from_start {s} y = leads_kept (start_there g (length s)) y

  -- behind the new fork
  new_turn : (s : Spelling) → link v s (get_or v at 0) ≡ 4 * f + 2 + (letter_at s place / bit) % 2
  unfolding turn
  new_turn s = rw (at_is, place_is, bit_is)

  through : {s : Spelling} → Leads w s (start s) at → (i : ℕ) → 4 * f + 2 + (letter_at s place / bit) % 2 ≡ i
      → Leads v s (start s) i
  unfolding f
  through {s} y i e =
      subst (λ (b : ℕ). Leads v s (start s) b) (new_turn s ∙ e) (leads_on (from_start y) (omega (arith, at_is)))

  -- a token that had a way has one, if the fork turns it as its link's token
  pub finds_kept : {s : Spelling} {r : ℕ} → Finds w s r → (r ≡ get_or w at 0 → (letter_at s place / bit) % 2 ≡ t) → Finds v s r
  unfolding f m
  finds_kept {s} {r} a h = ⊎_elim (λ e. turned (eqb-true a.at at e)) (λ e. straight (eqb-false a.at at e)) (outcome (eqb a.at at))
    where
      turned : a.at ≡ at → Finds v s r
      turned e =
          let z = sym a.leaf ∙ ap (λ (i : ℕ). get_or w i 0) e in
          record {
            at = 4 * f + 2 + t;
            leads = through (subst (Leads w s (start s)) e a.leads) (4 * f + 2 + t) (ap (λ (i : ℕ). 4 * f + 2 + i) (h z));
            leaf = leaf_is ∙ sym z;
            small = a.small;
          }

      straight : (a.at ≡ at → ⊥) → Finds v s r
      straight d =
          let k = leads_there g (start_there g (length s)) a.leads in
          record {
            at = a.at;
            leads = from_start a.leads;
            leaf = kept a.at (omega (arith, k.is, k.high, k.two)) d ∙ a.leaf;
            small = a.small;
          }

  -- and the new token has one
  pub finds_new : {s : Spelling} → Leads w s (start s) at → ((letter_at s place / bit) % 2 ≡ t → ⊥) → Finds v s n
  finds_new {s} y d =
      let h : (letter_at s place / bit) % 2 < 2 = mod-lt (letter_at s place / bit) (omega arith) in
      record { at = 4 * f + 3 - t; leads = through y (4 * f + 3 - t) (omega arith); leaf = new_is; small = few }

  -- ---- the forks then

  pub shape_grown : 0 < bit → Shape v (n + 1)
  unfolding f m
  shape_grown b = record {
    some = omega (arith, forks_is, g.some);
    few = omega (arith, forks_is, g.few);
    bits = λ x h u.
        ⊎_elim (λ e. rw (kept (4 * x + 1) (omega arith) (λ d. omega (arith, l.is, l.two))) (g.bits x h e))
        (λ e. let z : x ≡ f = omega (arith, forks_is) in rw (z, bit_is) b) (either x f);
    links = λ x side h u s. subst (λ (k : ℕ). Link (n + 1) k x (get_or v (4 * x + 2 + side) 0)) (sym forks_is)
        (⊎_elim (λ e. old x side h e s) (λ e. new x side (omega (arith, forks_is)) s) (either x f));
  }
    where
      old : (x side : ℕ) → TOKENS ≤ x → x < f → side < 2 → Link (n + 1) (m + 1) x (get_or v (4 * x + 2 + side) 0)
      old x side h u s = ⊎_elim
          (λ e. let z = ap (λ (i : ℕ). get_or v i 0) (eqb-true (4 * x + 2 + side) at e) ∙ at_is in
          record { leaf = λ y. omega arith; above = λ y. omega arith; asks = λ y. omega (arith, g.some); below = λ y. omega arith })
          (λ e. let z = kept (4 * x + 2 + side) (omega arith) (eqb-false (4 * x + 2 + side) at e) in
          let k = g.links x side h u s in
          record {
            leaf = λ y. omega (arith, k.leaf (omega arith));
            above = λ y. omega (arith, k.above (omega arith));
            asks = λ y. omega (arith, k.asks (omega arith));
            below = λ y. omega (arith, k.below (omega arith));
          })
          (outcome (eqb (4 * x + 2 + side) at))

      new : (x side : ℕ) → x ≡ f → side < 2 → Link (n + 1) (m + 1) x (get_or v (4 * x + 2 + side) 0)
      new x side e s = ⊎_elim
          (λ d. let i : 4 * x + 2 + side ≡ 4 * f + 2 + t = omega (arith, eqb-true side t d) in
          let z = ap (λ (i : ℕ). get_or v i 0) i ∙ leaf_is in
          let k = (link_there g l).leaf leaf in
          token_link x (omega arith, omega arith))
          (λ d. let i : 4 * x + 2 + side ≡ 4 * f + 3 - t = omega (arith, eqb-false side t d) in
          let z = ap (λ (i : ℕ). get_or v i 0) i ∙ new_is in
          token_link x (omega arith, omega arith))
          (outcome (eqb side t))
