-- Names compared by their lines: where lines begin, and the first that has the digits of another.
use lib.ListN.{length, get_or}
use lib.Seq.{slice, take-length, length-slice}
use mathlib.Core.Bool.{Bool, true, false}
use mathlib.Core.List.{List}
use mathlib.Core.Logic.{⊎_elim}
use mathlib.Core.Path.{◌≡◌, refl, sym, ap, ap₂, subst, ◌∙◌}
use native.Mathlib.Numerals.{add-one}
use native.Mathlib.Omega.{arith}
use Prim.Native.Nat.{ℕ, zero, suc, ◌+◌, ◌*◌, ◌≤◌, ◌<◌}
use Rattle.language.proofs.Text.Choices.{either, clash}
use Rattle.language.proofs.Text.Tables.{same_one}
use Rattle.language.specs.Sizes.{TOKENS}
use Rattle.language.specs.Tokens.{Spelling, same}
use Rattle.language.specs.Trees.{PUTCHAR}
use Rattle.layout.specs.Table.{token_end}
use Rattle.layout.proofs.TokenLaws.{same_self}
use Rattle.tokens.proofs.Compared.{same_swap, unlike}
use Rattle.tokens.proofs.Planting.{ends_finds, ends_inside, none_before, none_alike, planted_first, planted_same, planted_fork}
use Rattle.tokens.specs.Forks.{STARTS_AT, Finds, Shape, Ends, Seekable, Hangable, Hung, Planted}
use Rattle.tokens.specs.Shown.{told}
use Rattle.stored.specs.Names.{line_from, digits_of, Searchable, First, Numbered}

-- ---- where lines begin

module _ (w : List ℕ) where
  pub from_first : line_from w 0 ≡ 5
  unfolding line_from
  from_first = refl

  pub from_next : (i : ℕ) → line_from w (i + 1) ≡ line_from w i + token_end w i * 2 + 1
  unfolding line_from
  from_next i = rw (add-one i) refl

  -- the line of a token ends before those behind it begin
  pub from_before : (n i : ℕ) → i < n → line_from w i + token_end w i * 2 + 1 ≤ line_from w n
  unfolding line_from
  from_before zero i h = absurd (omega arith)
  from_before (suc n) i h =
      ⊎_elim (λ l. omega (arith, from_before n i l)) (λ l. let e : i ≡ n = omega arith in rw e (omega arith)) (either i n)

-- ---- the line at the way's end

module _ {t w : List ℕ} {n p q : ℕ} (k : Searchable t w n p q) {at r from end : ℕ} (x : Ends w (slice p q t) at) (some : 0 < n)
    (e : r ≡ get_or w at 0) (f : from ≡ get_or w (STARTS_AT + r) 0) (g : end ≡ token_end w r) where
  pub line_inside : r < n
  line_inside = omega (arith, e, ends_inside k.sought.shape some x)

  -- begins where it is told, and lies in the input
  starts_there : from ≡ line_from w r
  starts_there = f ∙ k.starts r line_inside

  pub line_near : from + end * 2 + 1 ≤ line_from w n
  line_near = omega (arith, starts_there, g, from_before w n r line_inside)

  finds : Finds w (slice p q t) r
  finds = ends_finds x e

  module _ {to : ℕ} (h : to ≡ from + end * 2) where
    digits_there : slice from to t ≡ digits_of t w r
    digits_there =
        let z : to ≡ line_from w r + token_end w r * 2 = omega (arith, h, starts_there, g) in
        ap₂ (λ (a b : ℕ). slice a b t) starts_there z

    pub hangable : Hangable w at n (slice from to t)
    hangable = record {
      room = k.bytes.room;
      some = some;
      few = k.sought.small;
      shape = k.sought.shape;
      link_at = x.link_at;
      near = omega (arith, h, line_near, k.near, length-slice from to t (omega (arith, h, line_near, k.bytes.lines)));
    }

    module _ {v : List ℕ} {y : Bool} (hung : Hung w v at n (slice from to t) (slice p q t) y) where
      told_there : {z : Bool} → y ≡ z → same (digits_of t w r) (slice p q t) ≡ z
      told_there d = ap (λ (u : List ℕ). same u (slice p q t)) (sym digits_there) ∙ sym hung.told ∙ d

      again : digits_of t w r ≡ slice p q t → same (digits_of t w r) (slice p q t) ≡ true
      again z = rw z (same_self (slice p q t))

      -- it has the digits
      pub hung_found : y ≡ true → First t w n (slice p q t) r × Planted (digits_of t w) w v n (slice p q t)
      hung_found d = (
        record {
          within = omega (arith, line_inside);
          before = λ i l. unlike (digits_of t w i) (slice p q t) (none_before k.sought finds i l (omega (arith, line_inside)));
          here = λ l. told_there d;
        },
        rw (hung.kept d) (planted_same k.sought finds line_inside (same_one (digits_of t w r) (slice p q t) (told_there d))),
      )

      -- it has not
      pub hung_none : y ≡ false → First t w n (slice p q t) n × Planted (digits_of t w) w v n (slice p q t)
      hung_none d = (
        record {
          within = omega arith;
          before = λ i l. unlike (digits_of t w i) (slice p q t) (none_alike k.sought finds (λ z. clash (again z) (told_there d)) i l);
          here = λ l. absurd (omega arith);
        },
        planted_fork k.sought k.bytes.room some x (digits_there ∙ ap (digits_of t w) e) (hung.forked d),
      )

pub seekable : {t w : List ℕ} {n p q : ℕ} → Searchable t w n p q → Seekable w n
seekable k = record {
  room = k.bytes.room;
  few = k.bytes.few;
  shape = k.sought.shape;
}

pub first_start : {t w : List ℕ} {n : ℕ} {s : List ℕ} → n ≡ 0 → Shape w n → First t w n s 0 × Planted (digits_of t w) w w n s
first_start {t} {w} {n} {s} e g =
    subst (λ (m : ℕ). First t w m s 0 × Planted (digits_of t w) w w m s) (sym e) (none, planted_first (subst (Shape w) e g))
  where
    none : First t w 0 s 0
    none = record { within = omega arith; before = λ i l. absurd (omega arith); here = λ l. absurd (omega arith) }

-- ---- the number of a name

-- whether the bytes s are `putchar`, asked of all of them
pub putchar_told : (s : Spelling) {n : ℕ} {r b : Bool} → n ≡ length s → r ≡ same PUTCHAR (slice 0 n s) → r ≡ b → same s PUTCHAR ≡ b
putchar_told s e f g =
    same_swap s PUTCHAR ∙ ap (same PUTCHAR) (sym (take-length s)) ∙ ap (λ (n : ℕ). same PUTCHAR (slice 0 n s)) (sym e) ∙ sym f ∙ g

module _ {t w : List ℕ} {count p q : ℕ} where
  pub numbered_putchar : same (told (slice p q t)) PUTCHAR ≡ true → Numbered t w count p q TOKENS
  numbered_putchar e = record { putchar = λ x. refl; first = λ x. absurd (clash e x) }

  pub numbered_first : {r : ℕ} → same (told (slice p q t)) PUTCHAR ≡ false → First t w count (slice p q t) r → Numbered t w count p q r
  numbered_first e f = record { putchar = λ x. absurd (clash x e); first = λ x. f }
