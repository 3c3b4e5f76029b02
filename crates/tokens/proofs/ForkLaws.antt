-- Forks: a spelling has one way, and it is the same where the words of forks are.
use borrow.Author.Tests.{ltb-true}
use lib.Dec.{ltb}
use lib.ListN.{length, get_or}
use mathlib.Core.List.{List}
use mathlib.Core.Logic.{⊎_elim}
use mathlib.Core.Path.{◌≡◌, refl, sym, ◌∙◌, ap, subst, subst₂}
use native.Mathlib.Nat.{mod-lt}
use native.Mathlib.Omega.{arith}
use Prim.Native.Nat.{ℕ, ◌+◌, ◌*◌, ◌-◌, ◌/◌, ◌≤◌, ◌<◌}
use Rattle.language.proofs.Text.Choices.{outcome}
use Rattle.language.specs.Sizes.{TOKENS}
use Rattle.language.specs.Tokens.{Spelling}
use Rattle.tokens.specs.Forks.{ROOTS, FORKS_AT, SameForks, letter_at, turn, link, root_of, start_at, start, Leads, here, goes}
use Rattle.tokens.specs.Forks.{Finds, Link, LinkAt, Shape}

-- ---- ways

pub turn_two : (w : List ℕ) (s : Spelling) (f : ℕ) → turn w s f < 2
unfolding turn
turn_two w s f = mod-lt (letter_at s (get_or w (4 * f) 0) / get_or w (4 * f + 1) 0) (omega arith)

module _ {w : List ℕ} {s : Spelling} where
  -- two ways from one link on end at one
  pub leads_one : {a d e : ℕ} → Leads w s a d → Leads w s a e → get_or w d 0 < TOKENS → get_or w e 0 < TOKENS → d ≡ e
  leads_one here here h l = refl
  leads_one here (goes x y) h l = absurd (omega arith)
  leads_one (goes x y) here h l = absurd (omega arith)
  leads_one (goes x y) (goes u v) h l = leads_one y v h l

  -- a way goes on
  pub leads_on : {a b : ℕ} → Leads w s a b → TOKENS ≤ get_or w b 0 → Leads w s a (link w s (get_or w b 0))
  leads_on here h = goes h here
  leads_on (goes x y) h = goes x (leads_on y h)

  pub finds_one : {r q : ℕ} → Finds w s r → Finds w s q → r ≡ q
  finds_one a b =
      let e = leads_one a.leads b.leads (omega (arith, a.leaf, a.small)) (omega (arith, b.leaf, b.small)) in
      sym a.leaf ∙ ap (λ (i : ℕ). get_or w i 0) e ∙ b.leaf

-- a link of a fork, by its word
pub link_there : {w : List ℕ} {n a : ℕ} → Shape w n → (l : LinkAt (get_or w FORKS_AT 0) a) → Link n (get_or w FORKS_AT 0) l.fork (get_or w a 0)
link_there {w} {n} g l =
    subst (λ (i : ℕ). Link n (get_or w FORKS_AT 0) l.fork (get_or w i 0)) (sym l.is) (g.links l.fork l.side l.low l.high l.two)

pub link_taken : {m : ℕ} (w : List ℕ) (s : Spelling) (f : ℕ) → TOKENS ≤ f → f < TOKENS + m → LinkAt m (link w s f)
link_taken w s f h l = record { fork = f; side = turn w s f; low = h; high = l; two = turn_two w s f; is = refl }

-- where a way begins
root_small : (n : ℕ) → root_of n < ROOTS
unfolding root_of
root_small n =
    ⊎_elim (λ e. rw e (omega (arith, ltb-true n (ROOTS - 1) e))) (λ e. rw e (omega arith)) (outcome (ltb n (ROOTS - 1)))

pub start_there : {w : List ℕ} {n : ℕ} → Shape w n → (k : ℕ) → LinkAt (get_or w FORKS_AT 0) (start_at k)
start_there g k = record {
  fork = TOKENS + root_of k;
  side = 0;
  low = omega arith;
  high = omega (arith, root_small k, g.some);
  two = omega arith;
  is = omega arith;
}

-- every link on a way is one
pub leads_there : {w : List ℕ} {s : Spelling} {n a e : ℕ} → Shape w n → LinkAt (get_or w FORKS_AT 0) a → Leads w s a e → LinkAt (get_or w FORKS_AT 0) e
leads_there g k here = k
leads_there {w} {s} g k (goes {a = a} x y) = leads_there g (link_taken w s (get_or w a 0) x ((link_there g k).below x)) y

-- ---- more tokens

link_more : {n m f x : ℕ} → Link n m f x → Link (n + 1) m f x
link_more l = record { leaf = λ h. omega (arith, l.leaf h); above = l.above; asks = l.asks; below = l.below }

pub shape_more : {w : List ℕ} {n : ℕ} → Shape w n → Shape w (n + 1)
shape_more g = record {
  some = g.some;
  few = omega (arith, g.few);
  bits = g.bits;
  links = λ f side h l t. link_more (g.links f side h l t);
}

-- ---- the same forks

module _ {w v : List ℕ} {n : ℕ} (g : Shape w n) (few : n ≤ TOKENS) (like : SameForks v w) where
  m_few : get_or w FORKS_AT 0 ≤ TOKENS + ROOTS
  m_few = omega (arith, g.few)

  link_like : (s : Spelling) (f : ℕ) → TOKENS ≤ f → f < TOKENS + get_or w FORKS_AT 0 → link v s f ≡ link w s f
  unfolding turn
  link_like s f h l =
      let x = m_few in
      rw (like.words (4 * f) (omega arith) (omega arith), like.words (4 * f + 1) (omega arith) (omega arith))

  word_like : {a : ℕ} → LinkAt (get_or w FORKS_AT 0) a → get_or v a 0 ≡ get_or w a 0
  word_like {a} k = like.words a (omega (arith, k.is, k.low)) (omega (arith, k.is, k.high, k.two, m_few))

  leads_like : {s : Spelling} {a e : ℕ} → LinkAt (get_or w FORKS_AT 0) a → Leads w s a e → Leads v s a e
  leads_like k here = here
  leads_like {s} {e = e} k (goes {a = a} x y) =
      let below = (link_there g k).below x in
      let z = word_like k in
      let q = ap (link v s) z ∙ link_like s (get_or w a 0) x below in
      goes {a = a} (omega (arith, z)) (subst (λ (b : ℕ). Leads v s b e) (sym q) (leads_like (link_taken w s (get_or w a 0) x below) y))

  -- lead to the same
  pub finds_like : {s : Spelling} {r : ℕ} → Finds w s r → Finds v s r
  finds_like {s} a =
      let k : LinkAt (get_or w FORKS_AT 0) (start s) = start_there g (length s) in
      record {
        at = a.at;
        leads = leads_like k a.leads;
        leaf = word_like (leads_there g k a.leads) ∙ a.leaf;
        small = a.small;
      }

  pub shape_like : Shape v n
  shape_like =
      let m = like.count in
      let x = m_few in
      record {
        some = omega (arith, m, g.some);
        few = omega (arith, m, g.few);
        bits = λ f h l. rw (like.words (4 * f + 1) (omega arith) (omega (arith, m))) (g.bits f h (omega (arith, m)));
        links = λ f side h l t.
            subst₂ (λ (k x : ℕ). Link n k f x) (sym m) (sym (like.words (4 * f + 2 + side) (omega arith) (omega (arith, m))))
            (g.links f side h (omega (arith, m)) t);
      }
