-- In a reading no number is followed by a name: behind an atom comes a mark, a word or the end.
use mathlib.Core.Bool.{not}
use mathlib.Core.List.{List}
use mathlib.Core.Logic.{◌⊎◌, inl, inr}
use mathlib.Core.Option.{some}
use mathlib.Core.Path.{◌≡◌, refl, sym, ◌∙◌, subst}
use Prim.Native.Nat.{ℕ, ◌+◌, ◌≤◌, ◌<◌}
use native.Mathlib.Omega.{arith}
use lib.Dec.{T, eqb}
use borrow.Author.Tests.{eq-eqb}
use Rattle.language.specs.Tokens.{Token, Entry, At, kind_at, entry, NAME, NUMBER}
use Rattle.language.specs.Trees.{Program, Def, Binary}
use Rattle.language.specs.Grammar.{Of, Sym, def, Level, or, and, sum, prod, operators, comparisons, prefixes, Reading, Reads, program_seq}
use Rattle.language.specs.Grammar.{program_def, def_is, formals_none, formals_some, params_one, params_more, type_basic, type_ref, seq_tail}
use Rattle.language.specs.Grammar.{seq_item, seq_more, tail_let, tail_if, let_in, item_if, item_while, item_assign, assign_one, assign_to}
use Rattle.language.specs.Grammar.{chain_one, chain_more, cmp_one, cmp_two, un_prefix, un_atom, atom_name, atom_call, atom_number, atom_float}
use Rattle.language.specs.Grammar.{atom_constant, atom_group, atom_block, actuals_none, actuals_some, args_one, args_more, item_for, for_is}
use Rattle.language.specs.Grammar.{bounds_two, bounds_three, ranges}
use Rattle.language.proofs.Grammar.Entries.{every, entry_passes}
use Rattle.language.proofs.Grammar.Prefixes.{inside}
use Rattle.language.proofs.Text.Choices.{either}

-- neither a number nor a name
abbrev plain : ℕ → Type 0
plain k = T (not (eqb k NUMBER)) × T (not (eqb k NAME))

not_kind : (k l : ℕ) → T (not (eqb k l)) → k ≡ l → ⊥
not_kind k l t e = rw (eq-eqb k l e) at t

-- a kind of a table is neither, where that of each row is
of_table : {A : Type 0} (rows : List (Entry ℕ A)) (k : ℕ) {a : A} → T (every (λ c _. not (eqb c NUMBER)) rows)
    → T (every (λ c _. not (eqb c NAME)) rows) → entry rows k ≡ some a → plain k
of_table rows k t u h =
    (entry_passes (λ c _. not (eqb c NUMBER)) rows k t h, entry_passes (λ c _. not (eqb c NAME)) rows k u h)

operator : (l : Level) (k : ℕ) {o : Binary} → entry (operators l) k ≡ some o → plain k
unfolding every
operator or k h = of_table (operators or) k tt tt h
operator and k h = of_table (operators and) k tt tt h
operator sum k h = of_table (operators sum) k tt tt h
operator prod k h = of_table (operators prod) k tt tt h

-- no number is followed by a name from i up to j
record Apart (ts : List Token) (i j : ℕ) : Type 0 where
  none : (k : ℕ) → i ≤ k → k + 1 < j → At ts k NUMBER → At ts (k + 1) NAME → ⊥

module _ {ts : List Token} where
  -- one token alone, or none
  single : {i j : ℕ} → j ≤ i + 1 → Apart ts i j
  single h = record { none = λ k a b x y. omega arith }

  -- a token that is no number, and what is behind it
  lead : {i h j k : ℕ} → At ts i k → T (not (eqb k NUMBER)) → h ≡ i + 1 → Apart ts h j → Apart ts i j
  lead {i} {h} {j} {k} a t e s = record { none = λ m l u x y. go m l u x y (either i m) }
    where
      go : (m : ℕ) → i ≤ m → m + 1 < j → At ts m NUMBER → At ts (m + 1) NAME → (i < m) ⊎ (m ≤ i) → ⊥
      go m l u x y (inl b) = s.none m (omega arith) u x y
      go m l u x y (inr b) =
          let z : m ≡ i = omega arith in
          not_kind k NUMBER t (sym a ∙ subst (λ n. At ts n NUMBER) z x)

  -- two parts, of which the second begins with a token that is no name
  join : {i m j : ℕ} → Apart ts i m → (At ts m NAME → ⊥) → Apart ts m j → Apart ts i j
  join {i} {m} {j} s n u = record { none = λ k l h x y. go k l h x y (either (k + 1) m) (either k m) }
    where
      go : (k : ℕ) → i ≤ k → k + 1 < j → At ts k NUMBER → At ts (k + 1) NAME → (k + 1 < m) ⊎ (m ≤ k + 1) → (k < m) ⊎ (m ≤ k) → ⊥
      go k l h x y (inl a) b = s.none k l a x y
      go k l h x y (inr a) (inl b) = let z : k + 1 ≡ m = omega arith in n (subst (λ e. At ts e NAME) z y)
      go k l h x y (inr a) (inr b) = u.none k b h x y

  -- two parts with such a token between them
  mid : {i m j k : ℕ} → Apart ts i m → At ts m k → plain k → Apart ts (m + 1) j → Apart ts i j
  mid {k = k} s a t u = join s (λ e. not_kind k NAME t.1 (sym a ∙ e)) (lead a t.0 refl u)

  -- a part and such a token behind it
  tail : {i m k : ℕ} → Apart ts i m → At ts m k → plain k → Apart ts i (m + 1)
  tail s a t = mid s a t (single (omega arith))

  -- a definition ends with a brace, which is no number
  behind : {i m j : ℕ} {d : Def} → Reads ts def i m d → Apart ts i m → Apart ts m j → Apart ts i j
  behind {i} {j = j} (def_is {n = n} a b c p d q e r f) s u = record { none = λ k l h x y. go k l h x y (either k n) }
    where
      go : (k : ℕ) → i ≤ k → k + 1 < j → At ts k NUMBER → At ts (k + 1) NAME → (k < n) ⊎ (n ≤ k) → ⊥
      go k l h x y (inl v) = s.none k l (omega arith) x y
      go k l h x y (inr v) = (lead f tt refl u).none k v h x y

  apart : {s : Sym} {i j : ℕ} {x : Of s} → Reads ts s i j x → Apart ts i j
  unfolding every
  apart (program_seq p) = apart p
  apart (program_def p q) = behind p (apart p) (apart q)
  apart (def_is {i} a b c p d q e r f) =
      lead a tt refl
      (lead b tt (omega arith)
      (lead c tt (omega arith) (mid (apart p) d (tt, tt) (mid (apart q) e (tt, tt) (tail (apart r) f (tt, tt))))))
  apart (formals_none a) = single (omega arith)
  apart (formals_some p a) = tail (apart p) a (tt, tt)
  apart (params_one a b p) = lead a tt refl (lead b tt (omega arith) (apart p))
  apart (params_more a b p c q) = lead a tt refl (lead b tt (omega arith) (mid (apart p) c (tt, tt) (apart q)))
  apart (type_basic a) = single (omega arith)
  apart (type_ref p a) = tail (apart p) a (tt, tt)
  apart (seq_tail p) = apart p
  apart (seq_item p) = apart p
  apart (seq_more p a q) = mid (apart p) a (tt, tt) (apart q)
  apart (tail_let p) = apart p
  apart (tail_if a p b q c r) = lead a tt refl (mid (apart p) b (tt, tt) (mid (apart q) c (tt, tt) (apart r)))
  apart (let_in a b c p d q) =
      lead a tt refl (lead b tt (omega arith) (lead c tt (omega arith) (mid (apart p) d (tt, tt) (apart q))))
  apart (item_if a p b q c r) = lead a tt refl (mid (apart p) b (tt, tt) (mid (apart q) c (tt, tt) (apart r)))
  apart (item_while a p b q c) = lead a tt refl (mid (apart p) b (tt, tt) (tail (apart q) c (tt, tt)))
  apart (item_for p) = apart p
  apart (for_is a b c p d q e) =
      lead a tt refl (lead b tt (omega arith) (lead c tt (omega arith) (mid (apart p) d (tt, tt) (tail (apart q) e (tt, tt)))))
  apart (bounds_two {m = m} p a q) = mid (apart p) refl (of_table ranges (kind_at ts m) tt tt a) (apart q)
  apart (bounds_three {m = m} p a q b r) =
      mid (apart p) refl (of_table ranges (kind_at ts m) tt tt a) (mid (apart q) b (tt, tt) (apart r))
  apart (item_assign p) = apart p
  apart (assign_one p) = apart p
  apart (assign_to p a q) = mid (apart p) a (tt, tt) (apart q)
  apart (chain_one p) = apart p
  apart (chain_more {l} {m = m} p a q) = mid (apart p) refl (operator l (kind_at ts m) a) (apart q)
  apart (cmp_one p) = apart p
  apart (cmp_two {m = m} p a q) = mid (apart p) refl (of_table comparisons (kind_at ts m) tt tt a) (apart q)
  apart (un_prefix {i} a p) = lead refl (of_table prefixes (kind_at ts i) tt tt a).0 refl (apart p)
  apart (un_atom p) = apart p
  apart (atom_name a) = single (omega arith)
  apart (atom_call a b p) = lead a tt refl (lead b tt (omega arith) (apart p))
  apart (atom_number a) = single (omega arith)
  apart (atom_float a) = single (omega arith)
  apart (atom_constant a) = single (omega arith)
  apart (atom_group a p b) = lead a tt refl (tail (apart p) b (tt, tt))
  apart (atom_block a p b) = lead a tt refl (tail (apart p) b (tt, tt))
  apart (actuals_none a) = single (omega arith)
  apart (actuals_some p a) = tail (apart p) a (tt, tt)
  apart (args_one p) = apart p
  apart (args_more p a q) = mid (apart p) a (tt, tt) (apart q)

-- a number, and behind it a name, stand in no reading
pub number_then_name : {ts : List Token} {p : Program} → Reading ts p → (k : ℕ) → At ts k NUMBER → At ts (k + 1) NAME → ⊥
number_then_name {ts} r k a b = (apart r).none k (omega arith) (inside ts (k + 1) b (omega arith)) a b
