-- A spelling sought among tokens that can be found: the token at its way's end is the first that has it, or none has; and with the
-- fork that it gets then it can be found, too.
use lib.ListN.{length, get_or}
use mathlib.Core.List.{List}
use mathlib.Core.Logic.{⊎_elim}
use mathlib.Core.Path.{◌≡◌, refl, sym, ◌∙◌, ap, subst}
use native.Mathlib.Nat.{mod-lt}
use native.Mathlib.Omega.{arith}
use Prim.Native.Nat.{ℕ, ◌+◌, ◌*◌, ◌-◌, ◌/◌, ◌%◌, ◌≤◌, ◌<◌}
use Rattle.language.proofs.Text.Choices.{either}
use Rattle.language.specs.Sizes.{TOKENS, TABLE}
use Rattle.language.specs.Tokens.{Spelling}
use Rattle.tokens.proofs.Agreeing.{but_self}
use Rattle.tokens.proofs.ForkLaws.{leads_on, finds_one, link_there, link_taken, start_there, shape_more}
use Rattle.tokens.proofs.NewFork.{fork_rest, fork_starts, finds_kept, finds_new, shape_grown}
use Rattle.tokens.specs.Forks.{ROOTS, STARTS_AT, FORKS_AT, letter_at, link, start_at, start, Leads, here, Finds, Link, LinkAt, Shape}
use Rattle.tokens.specs.Forks.{Ends, Askable, Seekable, Forked, Sought, Planted}

-- ---- a way

-- the way of a spelling leads to the link at this word, which is x
pub record Way (w : List ℕ) (s : Spelling) (at x : ℕ) : Type 0 where
  pub leads : Leads w s (start s) at
  pub link_at : LinkAt (get_or w FORKS_AT 0) at
  pub is : x ≡ get_or w at 0

module _ {w : List ℕ} {n : ℕ} (k : Seekable w n) where
  fork_inside : (f : ℕ) → f < TOKENS + get_or w FORKS_AT 0 → f < 2 * TOKENS + ROOTS
  fork_inside f h = omega (arith, k.shape.few, k.few)

  -- it begins by the length
  pub way_first : {s : Spelling} {m at x : ℕ} → m ≡ length s → at ≡ start_at m → x ≡ get_or w at 0 → Way w s at x
  way_first {s} {m} {at} l e f =
      let z : at ≡ start s = e ∙ ap start_at l in
      record {
        leads = subst (Leads w s (start s)) (sym z) here;
        link_at = subst (LinkAt (get_or w FORKS_AT 0)) (sym e) (start_there k.shape m);
        is = f;
      }

  -- the word lies among those of forks
  pub link_inside : {at : ℕ} → LinkAt (get_or w FORKS_AT 0) at → at < STARTS_AT
  link_inside l = omega (arith, l.is, l.two, fork_inside l.fork l.high)

  pub first_inside : (m : ℕ) {at : ℕ} → at ≡ start_at m → at < STARTS_AT
  first_inside m e = link_inside (subst (LinkAt (get_or w FORKS_AT 0)) (sym e) (start_there k.shape m))

  module _ {s : Spelling} {at x : ℕ} (y : Way w s at x) where
    module _ (h : TOKENS ≤ x) where
      below : x < TOKENS + get_or w FORKS_AT 0
      below = omega (arith, y.is, (link_there k.shape y.link_at).below (omega (arith, y.is)))

      pub way_askable : Askable w x
      way_askable =
          let asks = (link_there k.shape y.link_at).asks (omega (arith, y.is)) in
          record {
            room = k.room;
            inside = fork_inside x below;
            bit = k.shape.bits x (omega (arith, asks, y.is)) below;
          }

      module _ {a : ℕ} (e : a ≡ link w s x) where
        pub next_link : LinkAt (get_or w FORKS_AT 0) a
        next_link = subst (LinkAt (get_or w FORKS_AT 0)) (sym e) (link_taken w s x h below)

        -- it goes on to words further on
        pub way_less : STARTS_AT - a < STARTS_AT - at
        way_less =
            let l = y.link_at in
            omega (arith, e, l.is, l.two, link_inside next_link, y.is, (link_there k.shape l).above (omega (arith, y.is)))

        pub way_on : {z : ℕ} → z ≡ get_or w a 0 → Way w s a z
        way_on f = record {
          leads = subst (Leads w s (start s)) (sym (e ∙ ap (link w s) y.is)) (leads_on y.leads (omega (arith, y.is)));
          link_at = next_link;
          is = f;
        }

    -- a token ends it
    pub way_ends : x < TOKENS → Ends w s at
    way_ends h = record { leads = y.leads; link_at = y.link_at; leaf = omega (arith, y.is) }

-- ---- the way's end

pub ends_finds : {w : List ℕ} {s : Spelling} {at r : ℕ} → Ends w s at → r ≡ get_or w at 0 → Finds w s r
ends_finds {at = at} x e = record { at = at; leads = x.leads; leaf = sym e; small = omega (arith, x.leaf) }

pub ends_inside : {w : List ℕ} {s : Spelling} {at n : ℕ} → Shape w n → 0 < n → Ends w s at → get_or w at 0 < n
ends_inside g h x = omega (arith, (link_there g x.link_at).leaf x.leaf)

module _ {sp : ℕ → Spelling} {w : List ℕ} {n : ℕ} {s : Spelling} (g : Sought sp w n s) {r : ℕ} (f : Finds w s r) where
  found_there : (i : ℕ) → i < n → sp i ≡ s → (r ≤ i) × (sp r ≡ s)
  found_there i h e =
      let x = g.found i h e in
      let z : x.first ≡ r = finds_one (subst (λ (y : Spelling). Finds w y x.first) e x.finds) f in
      (omega (arith, x.before), ap sp (sym z) ∙ x.alike ∙ e)

  -- no token before that one is spelled so
  pub none_before : (i : ℕ) → i < r → i < n → sp i ≡ s → ⊥
  none_before i h l e = omega (arith, (found_there i l e).0)

  -- and if it is not, none is
  pub none_alike : (sp r ≡ s → ⊥) → (i : ℕ) → i < n → sp i ≡ s → ⊥
  none_alike d i h e = d (found_there i h e).1

-- ---- what comes of it

module _ {sp : ℕ → Spelling} {w : List ℕ} {s : Spelling} where
  -- the first token of all
  pub planted_first : Shape w 0 → Planted sp w w 0 s
  planted_first g =
      let x : get_or w (start s) 0 ≡ 0 = none (link_there g (start_there g (length s))) in
      record {
        rest = but_self w;
        starts = λ i h l. refl;
        shape = shape_more g;
        kept = λ z i e f. f;
        first = 0;
        within = omega arith;
        alike = λ h. absurd (omega arith);
        finds = record { at = start s; leads = here; leaf = x; small = omega arith };
      }
    where
      none : {f x : ℕ} → Link 0 (get_or w FORKS_AT 0) f x → x ≡ 0
      none {x = x} k =
          ⊎_elim (λ h. omega (arith, k.leaf h)) (λ h. absurd (omega (arith, g.few, k.asks h, k.below h))) (either x TOKENS)

  module _ {n : ℕ} (g : Sought sp w n s) where
    -- one that is spelled like one before it
    pub planted_same : {r : ℕ} → Finds w s r → r < n → sp r ≡ s → Planted sp w w n s
    planted_same {r} f h e =
        record {
          rest = but_self w;
          starts = λ i h l. refl;
          shape = shape_more g.shape;
          kept = λ z i e f. f;
          first = r;
          within = omega arith;
          alike = λ l. e;
          finds = f;
        }

    -- one that is not
    pub planted_fork : {v : List ℕ} {at place : ℕ} {x : Spelling} → TABLE ≤ length w → 0 < n → Ends w s at → x ≡ sp (get_or w at 0)
        → Forked w v at n place (letter_at x place) (letter_at s place) → Planted sp w v n s
    planted_fork {v} {at} {place} {x} room some a e f =
        let b = f.bit in
        let t = (letter_at x place / b) % 2 in
        let two : t < 2 = mod-lt (letter_at x place / b) (omega arith) in
        let l = a.link_at in
        record {
          rest = fork_rest place b t room g.shape some g.small l a.leaf two f.table;
          starts = fork_starts place b t room g.shape some g.small l a.leaf two f.table;
          shape = shape_grown place b t room g.shape some g.small l a.leaf two f.table f.apart.some;
          kept = λ z i d y. finds_kept place b t room g.shape some g.small l a.leaf two f.table y
              (λ h. ap (λ (u : Spelling). (letter_at u place / b) % 2) (sym d ∙ ap sp h ∙ sym e));
          first = n;
          within = omega arith;
          alike = λ h. absurd (omega arith);
          finds = finds_new place b t room g.shape some g.small l a.leaf two f.table a.leads (λ h. f.apart.differ (sym h));
        }
