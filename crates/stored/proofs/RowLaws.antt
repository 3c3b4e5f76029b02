-- What `keep` does with a token, by whether there is room.
use lib.ListN.{length, set, length-set}
use lib.Seq.{slice}
use mathlib.Core.List.{List}
use mathlib.Core.Logic.{⊎_elim}
use mathlib.Core.Path.{◌≡◌, refl, ap, ap₂, ◌∙◌}
use native.Mathlib.Omega.{arith}
use Prim.Native.Nat.{ℕ, ◌+◌, ◌-◌, ◌/◌, ◌%◌, ◌≤◌, ◌<◌}
use Rattle.language.specs.Sizes.{SOURCE, TOKENS}
use Rattle.layout.specs.Table.{put_token}
use Rattle.layout.specs.Values.{HALF}
use Rattle.tokens.specs.Forks.{STARTS_AT, ButRows, Foretold}
use Rattle.stored.specs.Names.{TableWorth, digits_of}
use Rattle.stored.specs.Rows.{Kept}

module _ {t w : List ℕ} {count bytes kind worth p q : ℕ} where
  pub kept_full : TOKENS ≤ count → Kept t w w count bytes kind worth p q
  kept_full h = record { written = λ a b. absurd (omega arith); skipped = λ x. refl }

  pub kept_long : SOURCE < bytes → Kept t w w count bytes kind worth p q
  kept_long h = record { written = λ a b. absurd (omega arith); skipped = λ x. refl }

  pub kept_written : {u v : List ℕ} {m high low : ℕ} → count < TOKENS → bytes ≤ SOURCE → TableWorth t w count kind p q worth m
      → Foretold (digits_of t w) w u count kind (slice p q t) → high ≡ m / HALF → low ≡ m % HALF
      → v ≡ put_token (set u (STARTS_AT + count) p) count kind 0 ((q - p) / 2) high low → Kept t w v count bytes kind worth p q
  kept_written {u} {m = m} a b x f h l e = record {
    written = λ i j. record {
      worth_there = m;
      is = x;
      grown = u;
      forks = f;
      table = e ∙ ap₂ (λ (y z : ℕ). put_token (set u (STARTS_AT + count) p) count kind 0 ((q - p) / 2) y z) h l;
    };
    skipped = λ s. absurd (⊎_elim (λ y. omega arith) (λ y. omega arith) s);
  }

-- the table keeps its length
pub kept_long_table : {u v w : List ℕ} (i x n a b c d e : ℕ) → ButRows u w → v ≡ put_token (set u i x) n a b c d e → length v ≡ length w
unfolding put_token
kept_long_table i x n a b c d e r f = ap length f ∙ simp length-set r.long
