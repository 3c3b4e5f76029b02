-- The ways through `hang` and `first_alike`: the token at a way's end is compared, and gets a fork beside it or not.
use lib.ListN.{length, get_or}
use lib.Seq.{slice, length-slice}
use mathlib.Core.Bool.{Bool, true, false}
use mathlib.Core.List.{List}
use mathlib.Core.Path.{◌≡◌, refl, sym, ◌∙◌, ap, ap₂, subst, subst₂}
use native.Mathlib.Omega.{arith}
use Prim.Native.Nat.{ℕ, ◌≤◌, ◌<◌}
use Rattle.language.proofs.Text.Choices.{clash}
use Rattle.language.proofs.Text.Tables.{same_one}
use Rattle.language.specs.Tokens.{Spelling, same}
use Rattle.layout.specs.Table.{token_place, token_end}
use Rattle.tokens.proofs.Compared.{unlike, first_found, first_none, first_of_all}
use Rattle.tokens.proofs.Planting.{ends_finds, ends_inside, planted_first, planted_same, planted_fork}
use Rattle.std.specs.Prelude.{Some}
use Rattle.tokens.specs.Forks.{letter_at, IsParting, Forkable, Forked, Hangable, Hung, Shape, Ends, Seekable, Planted}
use Rattle.tokens.specs.Found.{bytes_of, First, Searchable}

-- ---- a fork or none

module _ {w : List ℕ} {at n i : ℕ} {x : Spelling} (s : Spelling) (k : Hangable w at n x) (y : IsParting x s (Some i)) where
  pub forkable : {old new : ℕ} → old ≡ letter_at x i → old ≤ 256 → new ≡ letter_at s i → new ≤ 256
      → Forkable w at n i old new
  forkable e h f l = record {
    room = k.room;
    some = k.some;
    few = k.few;
    shape = k.shape;
    link_at = k.link_at;
    near = omega (arith, y.0, k.near);
    small = (h, l);
    differ = λ z. y.1 (sym e ∙ z ∙ f);
  }

module _ {w : List ℕ} {at n : ℕ} {x s : Spelling} where
  pub hung_same : same x s ≡ true → Hung w w at n x s true
  hung_same e = record { told = sym e; kept = λ z. refl; place = 0; forked = λ z. absurd (clash refl z) }

  pub hung_fork : {v : List ℕ} {i old new : ℕ} → IsParting x s (Some i) → old ≡ letter_at x i → new ≡ letter_at s i
      → Forked w v at n i old new → Hung w v at n x s false
  hung_fork {v} {i} y e f z = record {
    told = sym (unlike x s (λ d. y.1 (ap (λ (u : Spelling). letter_at u i) d)));
    kept = λ d. absurd (clash d refl);
    place = i;
    forked = λ d. subst₂ (λ (g h : ℕ). Forked w v at n i g h) e f z;
  }

-- ---- the first token that is spelled so

pub seekable : {t w : List ℕ} {n : ℕ} {s : Spelling} → Searchable t w n s → Seekable w n
seekable k = record {
  room = k.bytes.room;
  few = k.bytes.few;
  shape = k.sought.shape;
}

pub first_start : {t w : List ℕ} {n : ℕ} {s : Spelling} → n ≡ 0 → Shape w n → First t w n s 0 × Planted (bytes_of t w) w w n s
first_start {t} {w} {n} {s} e g =
    subst (λ (m : ℕ). First t w m s 0 × Planted (bytes_of t w) w w m s) (sym e) (first_of_all, planted_first (subst (Shape w) e g))

module _ {t w : List ℕ} {n : ℕ} {s : Spelling} (k : Searchable t w n s) (some : 0 < n) {at r : ℕ} (x : Ends w s at)
    (e : r ≡ get_or w at 0) where
  pub leaf_inside : r < n
  leaf_inside = omega (arith, e, ends_inside k.sought.shape some x)

  module _ {a b : ℕ} (f : a ≡ token_place w r) (g : b ≡ token_end w r) where
    pub hangable : b < 4294967296 → Hangable w at n (slice a b t)
    hangable near =
        let z = k.bytes.spans r leaf_inside in
        record {
          room = k.bytes.room;
          some = some;
          few = k.sought.small;
          shape = k.sought.shape;
          link_at = x.link_at;
          near = omega (arith, length-slice a b t (omega arith));
        }

    -- it lies in the text
    pub old_order : a ≤ b
    old_order = let z = k.bytes.spans r leaf_inside in omega arith

    pub old_inside : b ≤ length t
    old_inside = let z = k.bytes.spans r leaf_inside in omega arith

    spelled_there : slice a b t ≡ bytes_of t w r
    spelled_there = ap₂ (λ (c d : ℕ). slice c d t) f g

    module _ {v : List ℕ} {y : Bool} (h : Hung w v at n (slice a b t) s y) where
      told_there : {z : Bool} → y ≡ z → same (bytes_of t w r) s ≡ z
      told_there d = ap (λ (u : Spelling). same u s) (sym spelled_there) ∙ sym h.told ∙ d

      pub hung_found : y ≡ true → First t w n s r × Planted (bytes_of t w) w v n s
      hung_found d =
          let f = ends_finds x e in
          let z = told_there d in (
            first_found k.sought f leaf_inside z,
            rw (h.kept d) (planted_same k.sought f leaf_inside (same_one (bytes_of t w r) s z)),
          )

      pub hung_none : y ≡ false → First t w n s n × Planted (bytes_of t w) w v n s
      hung_none d = (
        first_none k.sought (ends_finds x e) leaf_inside (told_there d),
        planted_fork k.sought k.bytes.room some x (spelled_there ∙ ap (bytes_of t w) e) (h.forked d),
      )
