-- What write and store tell is lawful.
use Rattle.std.specs.Prelude.{List, ◌≡◌, refl, ℕ, ◌≤◌}
use native.Mathlib.Omega.{arith}
use Rattle.language.specs.Sizes.{TABLE}
use Rattle.language.specs.Numbers.{Refusal, refused}
use Rattle.language.specs.Answers.{Refused, left, cleared}
use Rattle.language.specs.Edition.{text_in}
use Rattle.language.specs.Writing as Writing
use Rattle.language.specs.Writing.{WriteReport, Wrote, write_short, write_refused, write_long, write_passed}
use Rattle.language.specs.Writing.{Stores, store_short, store_refused, store_long, store_passed}
use Rattle.language.proofs.Answers.Editions.{text_in_lawful}
use Rattle.language.proofs.Answers.Origins.{refused_clears}
use Rattle.grumpy.specs.Writings.{Lawful}

module _ {edition : ℕ} {source : List ℕ} where
  refused_left : {r : Refusal} {x : ℕ} → Refused (text_in edition source) r x → (n : ℕ) (words : List ℕ)
      → left (refused r) n words ≡ cleared n words
  unfolding left
  refused_left a n words = rw (refused_clears (text_in_lawful edition source) a) refl

  wrote_left : {table room : ℕ} {r : WriteReport ℕ} {bs : List ℕ} → TABLE ≤ table → Wrote (text_in edition source) table room r bs
      → (n : ℕ) (words : List ℕ) → left r.told n words ≡ cleared n words
  unfolding left
  wrote_left h (write_short k) n words = absurd (omega arith)
  wrote_left h (write_refused k a) n words = refused_left a n words
  wrote_left h (write_long k a f) n words = refl
  wrote_left h (write_passed k a f) n words = refl

  stores_left : {table room : ℕ} {r : WriteReport ℕ} {bs : List ℕ} → TABLE ≤ table → Stores (text_in edition source) table room r bs
      → (n : ℕ) (words : List ℕ) → left r.told n words ≡ cleared n words
  unfolding left
  stores_left h (store_short k) n words = absurd (omega arith)
  stores_left h (store_refused k a) n words = refused_left a n words
  stores_left h (store_long k a f) n words = refl
  stores_left h (store_passed k a f) n words = refl

pub write_lawful : Lawful Writing.Wrote
write_lawful = record {
  short = λ edition table room source h. write_short h;
  refuses = λ edition table room source y i h a. write_refused h a;
  leaves = λ edition table room source r bs h x words. wrote_left h x TABLE words;
}

pub store_lawful : Lawful Writing.Stores
store_lawful = record {
  short = λ edition table room source h. store_short h;
  refuses = λ edition table room source y i h a. store_refused h a;
  leaves = λ edition table room source r bs h x words. stores_left h x TABLE words;
}
