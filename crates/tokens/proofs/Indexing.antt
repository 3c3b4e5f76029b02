-- Tokens whose names can be found: the next name can be sought among them, and what comes of it can be found, too.
use borrow.Author.Tests.{eqb-true, eqb-false}
use lib.Dec.{eqb}
use lib.ListN.{get_or}
use mathlib.Core.List.{List}
use mathlib.Core.Logic.{⊎_elim}
use mathlib.Core.Path.{◌≡◌, sym, ◌∙◌, ap, subst}
use native.Mathlib.Omega.{arith}
use Prim.Native.Nat.{ℕ, ◌+◌, ◌≤◌, ◌<◌}
use Rattle.language.proofs.Text.Choices.{either, outcome}
use Rattle.language.specs.Sizes.{TOKENS}
use Rattle.language.specs.Tokens.{Spelling, Token, NAME, past}
use Rattle.tokens.proofs.Agreeing.{but_self}
use Rattle.tokens.proofs.ForkLaws.{finds_like, shape_like, shape_more}
use Rattle.tokens.specs.Forks.{ButRows, STARTS_AT, FORKS_AT, SameForks, Shape, Finds, Found, Sought, Foretold}

-- how the tokens of a list are spelled, and which are names
abbrev pub spelling_of : List Token → ℕ → Spelling
spelling_of ts i = (get_or ts i past).spelling

abbrev pub named_in : List Token → ℕ → Type 0
named_in ts i = (get_or ts i past).kind ≡ NAME

-- of n tokens, spelled sp, those that are names can be found
pub record Indexed (sp : ℕ → Spelling) (named : ℕ → Type 0) (w : List ℕ) (n : ℕ) : Type 0 where
  pub shape : Shape w n
  pub found : (j : ℕ) → j < n → named j → Found sp w j

pub indexed_none : {sp : ℕ → Spelling} {named : ℕ → Type 0} {w : List ℕ} → Shape w 0 → Indexed sp named w 0
indexed_none g = record { shape = g; found = λ j h e. absurd (omega arith) }

-- ---- what the search for a name leaves

module _ {sp : ℕ → Spelling} {w v : List ℕ} {n kind : ℕ} {s : Spelling} (o : Foretold sp w v n kind s) where
  pub foretold_rest : ButRows v w
  foretold_rest =
      ⊎_elim (λ c. (o.name (eqb-true kind NAME c)).rest) (λ c. rw (o.other (eqb-false kind NAME c)) (but_self w)) (outcome (eqb kind NAME))

  pub foretold_starts : (i : ℕ) → STARTS_AT ≤ i → i < FORKS_AT → get_or v i 0 ≡ get_or w i 0
  foretold_starts i h l =
      ⊎_elim (λ c. (o.name (eqb-true kind NAME c)).starts i h l) (λ c. ap (λ (z : List ℕ). get_or z i 0) (o.other (eqb-false kind NAME c)))
      (outcome (eqb kind NAME))

  shape_there : Shape w n → Shape v (n + 1)
  shape_there g =
      ⊎_elim (λ c. (o.name (eqb-true kind NAME c)).shape) (λ c. rw (o.other (eqb-false kind NAME c)) (shape_more g)) (outcome (eqb kind NAME))

  finds_there : (z : Spelling) (i : ℕ) → sp i ≡ z → Finds w z i → Finds v z i
  finds_there z i d f =
      ⊎_elim (λ c. (o.name (eqb-true kind NAME c)).kept z i d f) (λ c. rw (o.other (eqb-false kind NAME c)) f) (outcome (eqb kind NAME))

-- ---- the next token

module _ {sp : ℕ → Spelling} {named : ℕ → Type 0} {w : List ℕ} {n : ℕ} (x : Indexed sp named w n) {sp' : ℕ → Spelling}
    (like : (j : ℕ) → j < n → sp' j ≡ sp j) (small : n < TOKENS) where
  -- a name, where every token that is spelled so is one
  pub indexed_sought : {s : Spelling} → ((j : ℕ) → j < n → sp j ≡ s → named j) → Sought sp' w n s
  indexed_sought {s} only = record { small = small; shape = x.shape; found = among }
    where
      among : (j : ℕ) → j < n → sp' j ≡ s → Found sp' w j
      among j h d =
          let f = x.found j h (only j h (sym (like j h) ∙ d)) in
          record {
            first = f.first;
            finds = subst (λ (z : Spelling). Finds w z f.first) (sym (like j h)) f.finds;
            before = f.before;
            alike = like f.first (omega (arith, f.before)) ∙ f.alike ∙ sym (like j h);
          }

  module _ {v w' : List ℕ} {kind : ℕ} {s : Spelling} (o : Foretold sp' w v n kind s) (same : SameForks w' v) where
    shape_next : Shape w' (n + 1)
    shape_next = shape_like (shape_there o x.shape) (omega arith) same

    finds_next : {z : Spelling} {i : ℕ} → Finds v z i → Finds w' z i
    finds_next = finds_like (shape_there o x.shape) (omega arith) same

    module _ {sp⁺ : ℕ → Spelling} (old : (j : ℕ) → j < n → sp⁺ j ≡ sp j) (new : sp⁺ n ≡ s) where
      old_found : (j : ℕ) → j < n → named j → Found sp⁺ w' j
      old_found j l d =
          let f = x.found j l d in
          let i = f.first in
          let c : i < n = omega (arith, f.before) in
          record {
            first = i;
            finds = subst (λ (z : Spelling). Finds w' z i) (sym (old j l)) (finds_next (finds_there o (sp j) i (like i c ∙ f.alike) f.finds));
            before = f.before;
            alike = old i c ∙ f.alike ∙ sym (old j l);
          }

      new_found : kind ≡ NAME → Found sp⁺ w' n
      new_found d =
          let a = o.name d in
          record {
            first = a.first;
            finds = subst (λ (z : Spelling). Finds w' z a.first) (sym new) (finds_next a.finds);
            before = a.within;
            alike = ⊎_elim (λ c. old a.first c ∙ sym (like a.first c) ∙ a.alike c ∙ sym new)
                (λ c. let i : a.first ≡ n = omega (arith, a.within) in ap sp⁺ i) (either a.first n);
          }

      pub indexed_next : {named⁺ : ℕ → Type 0} → ((j : ℕ) → j < n → named⁺ j → named j) → (named⁺ n → kind ≡ NAME)
          → Indexed sp⁺ named⁺ w' (n + 1)
      indexed_next {named⁺} f g = record {
        shape = shape_next;
        found = λ j l d. ⊎_elim (λ c. old_found j c (f j c d))
            (λ c. let i : j ≡ n = omega arith in subst (Found sp⁺ w') (sym i) (new_found (g (subst named⁺ i d)))) (either j n);
      }
