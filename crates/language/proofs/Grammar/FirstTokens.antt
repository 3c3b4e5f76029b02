-- Which token can begin a symbol, and which cannot follow it, by numbers: `opens k` grows with the symbols that a token of
-- kind k can begin, and `pull k` says what such a token goes on with when it follows.
use mathlib.Core.Path.{◌≡◌, refl, ap, subst, sym}
use mathlib.Core.Bool.{Bool, false}
use mathlib.Core.List.{List, [], ◌∷◌}
use mathlib.Core.Option.{Option, none, some, get_or}
use Prim.Native.Nat.{ℕ, ◌≤◌, ◌<◌}
use native.Mathlib.Omega.{arith}
use lib.Dec.{T, eqb, leb, leb→le, eqb→eq}
use borrow.Author.Tests.{ne_eqb}
use Rattle.language.specs.Tokens.{Token, Entry, ◌is◌, At, entry, kind_at, NAME, NUMBER, FLOAT_NUMBER, DEF, LET, WHILE, IF, REF, NOT, TRUE, FALSE}
use Rattle.language.specs.Tokens.{TT, PLUS, MINUS, STAR, SLASH, AND, OR, LESS, EQUAL, BECOMES, BANG, SEMI, COMMA, LPAR, LBRACE, BY, FOR}
use Rattle.language.specs.Trees.{Literal, Unary, Binary}
use Rattle.language.specs.Grammar.{Of, tier, Level, or, and, sum, prod, Sym, program, def, formals, params, type, seq, tail, bound, item, assign, cmp}
use Rattle.language.specs.Grammar.{un, atom, actuals, args, chain, part, operators, comparisons, prefixes, constants, Reads, program_seq, program_def}
use Rattle.language.specs.Grammar.{def_is, formals_none, formals_some, params_one, params_more, type_basic, type_ref, seq_tail, seq_item, seq_more}
use Rattle.language.specs.Grammar.{tail_let, tail_if, let_in, item_if, item_while, item_assign, assign_one, assign_to, chain_one, chain_more, cmp_one}
use Rattle.language.specs.Grammar.{cmp_two, un_prefix, un_atom, atom_name, atom_call, atom_number, atom_float, atom_constant, atom_group, atom_block}
use Rattle.language.specs.Grammar.{actuals_none, actuals_some, args_one, args_more, item_for, for_is, bounds_two, bounds_three, counting, bounds, ranges}
use Rattle.language.proofs.Grammar.Entries.{every, entry_passes, found_nothing}

-- ---- the numbers

-- what a token goes on with: `,` another of a list, `;` a Seq, `:=` an Assign, an operator its level, `(` a call, `ref` a Type
abbrev pub pulls : List (Entry ℕ ℕ)
pulls =
    COMMA is 1 ∷ SEMI is 2 ∷ BECOMES is 3 ∷ BY is 3 ∷ OR is 4 ∷ AND is 5 ∷ LESS is 6 ∷ EQUAL is 6 ∷ PLUS is 7 ∷ MINUS is 7 ∷
    STAR is 8 ∷ SLASH is 8 ∷ LPAR is 9 ∷ REF is 9 ∷ []

-- what a token begins: 1 a Program, 2 a Seq or a Tail, 3 an Item, 4 an Assign or a level of operators, 5 an Atom; each also all above it
abbrev pub openers : List (Entry ℕ ℕ)
openers =
    DEF is 1 ∷ LET is 2 ∷ IF is 3 ∷ WHILE is 3 ∷ FOR is 3 ∷ MINUS is 4 ∷ NOT is 4 ∷ BANG is 4 ∷ REF is 4 ∷ NAME is 5 ∷ NUMBER is 5 ∷ FLOAT_NUMBER is 5 ∷
    TRUE is 5 ∷ FALSE is 5 ∷ TT is 5 ∷ LPAR is 5 ∷ LBRACE is 5 ∷ []

-- 0 for any other token
unfoldable pub pull : ℕ → ℕ
pull k = get_or (entry pulls k) 0

-- 0 for any other token
unfoldable pub opens : ℕ → ℕ
opens k = get_or (entry openers k) 0

-- the pull of a level's operators
abbrev pub depth : Level → ℕ
depth or = 4
depth and = 5
depth sum = 7
depth prod = 8

-- a token whose pull is below this cannot go on with s
abbrev pub ends : Sym → ℕ
ends program = 2
ends def = 10
ends formals = 10
ends params = 1
ends type = 9
ends seq = 2
ends tail = 2
ends bound = 2
ends item = 3
ends counting = 10
ends bounds = 3
ends assign = 3
ends (tier (chain l)) = depth l
ends (tier cmp) = 6
ends (tier un) = 9
ends atom = 9
ends actuals = 10
ends args = 1

-- a token that s begins with opens at least this
abbrev pub begins : Sym → ℕ
begins program = 1
begins def = 1
begins formals = 0
begins params = 5
begins type = 0
begins seq = 2
begins tail = 2
begins bound = 2
begins item = 3
begins counting = 3
begins bounds = 4
begins assign = 4
begins (tier l) = 4
begins atom = 5
begins actuals = 0
begins args = 2

-- a level's own operators end its parts
pub ends_part : (l : Level) → depth l < ends (tier (part l))
ends_part or = omega arith
ends_part and = omega arith
ends_part sum = omega arith
ends_part prod = omega arith

-- no pull is over 9
pub pull_most : (k : ℕ) → pull k < 10
unfolding pull entry every
pull_most k = go (entry pulls k) λ n e. leb→le n 9 (entry_passes (λ c n. leb n 9) pulls k tt e)
  where
    go : (o : Option ℕ) → ((n : ℕ) → o ≡ some n → n ≤ 9) → get_or o 0 < 10
    go none h = omega arith
    go (some n) h = omega (arith, h n refl)

-- ---- tokens told apart by their numbers

module _ (g : ℕ → ℕ) where
  -- a kind of the table has the number that each row's kind has
  pub by_number : {A : Type 0} (n : ℕ) (rows : List (Entry ℕ A)) (k : ℕ) {a : A} → T (every (λ c _. eqb (g c) n) rows)
      → entry rows k ≡ some a → g k ≡ n
  by_number n rows k t e = eqb→eq (g k) n (entry_passes (λ c _. eqb (g c) n) rows k t e)

  -- a kind of another number is not in the table
  pub not_in : {A : Type 0} (n : ℕ) (rows : List (Entry ℕ A)) (k : ℕ) → T (every (λ c _. eqb (g c) n) rows)
      → (g k ≡ n → ⊥) → entry rows k ≡ none
  not_in n rows k t h = found_nothing (entry rows k) λ a e. h (by_number n rows k t e)

  -- two kinds of different numbers are two
  pub apart : (k c : ℕ) → (g k ≡ g c → ⊥) → eqb k c ≡ false
  apart k c h = ne_eqb k c λ e. h (ap g e)

-- an operator pulls by the depth of its level
pub operator_pulls : (l : Level) (k : ℕ) {o : Binary} → entry (operators l) k ≡ some o → pull k ≡ depth l
unfolding pull entry every
operator_pulls or k e = by_number pull 4 (operators or) k tt e
operator_pulls and k e = by_number pull 5 (operators and) k tt e
operator_pulls sum k e = by_number pull 7 (operators sum) k tt e
operator_pulls prod k e = by_number pull 8 (operators prod) k tt e

-- a token that pulls less is none
pub no_operator : (l : Level) (k : ℕ) → pull k < depth l → entry (operators l) k ≡ none
no_operator l k h = found_nothing (entry (operators l) k) λ o e. omega (arith, operator_pulls l k e)

-- the mark of Bounds pulls by nothing
pub range_pulls : (k : ℕ) {b : Bool} → entry ranges k ≡ some b → pull k ≡ 0
unfolding pull entry every
range_pulls k e = by_number pull 0 ranges k tt e

-- a comparison pulls by 6
pub comparison_pulls : (k : ℕ) {o : Binary} → entry comparisons k ≡ some o → pull k ≡ 6
unfolding pull entry every
comparison_pulls k e = by_number pull 6 comparisons k tt e

-- a token that pulls less is none
pub no_comparison : (k : ℕ) → pull k < 6 → entry comparisons k ≡ none
no_comparison k h = found_nothing (entry comparisons k) λ o e. omega (arith, comparison_pulls k e)

-- a prefix opens 4
pub prefix_opens : (k : ℕ) {o : Unary} → entry prefixes k ≡ some o → opens k ≡ 4
unfolding opens entry every
prefix_opens k e = by_number opens 4 prefixes k tt e

-- a token that opens more is none
pub no_prefix : (k : ℕ) → 5 ≤ opens k → entry prefixes k ≡ none
no_prefix k h = found_nothing (entry prefixes k) λ o e. omega (arith, prefix_opens k e)

-- a constant opens 5
pub constant_opens : (k : ℕ) {l : Literal} → entry constants k ≡ some l → opens k ≡ 5
unfolding opens entry every
constant_opens k e = by_number opens 5 constants k tt e

-- ---- readings

module _ (ts : List Token) where
  opens_at : (i k n : ℕ) → At ts i k → T (leb n (opens k)) → n ≤ opens (kind_at ts i)
  opens_at i k n e t = subst (λ (c : ℕ). n ≤ opens c) (sym e) (leb→le n (opens k) t)

  -- a reading is not empty
  pub grows : {s : Sym} {i j : ℕ} {x : Of s} → Reads ts s i j x → i < j
  grows (program_seq p) = grows p
  grows (program_def p q) = omega (arith, grows p, grows q)
  grows (def_is a b c p d q e r f) = omega (arith, grows p, grows q, grows r)
  grows (formals_none a) = omega arith
  grows (formals_some p a) = omega (arith, grows p)
  grows (params_one a b p) = omega (arith, grows p)
  grows (params_more a b p c q) = omega (arith, grows p, grows q)
  grows (type_basic a) = omega arith
  grows (type_ref p a) = omega (arith, grows p)
  grows (seq_tail p) = grows p
  grows (seq_item p) = grows p
  grows (seq_more p h q) = omega (arith, grows p, grows q)
  grows (tail_let p) = grows p
  grows (tail_if a p b q c r) = omega (arith, grows p, grows q, grows r)
  grows (let_in a b c p d q) = omega (arith, grows p, grows q)
  grows (item_if a p b q c r) = omega (arith, grows p, grows q, grows r)
  grows (item_while a p b q c) = omega (arith, grows p, grows q)
  grows (item_for p) = grows p
  grows (for_is a b c p d q e) = omega (arith, grows p, grows q)
  grows (bounds_two p a q) = omega (arith, grows p, grows q)
  grows (bounds_three p a q b r) = omega (arith, grows p, grows q, grows r)
  grows (item_assign p) = grows p
  grows (assign_one p) = grows p
  grows (assign_to p h q) = omega (arith, grows p, grows q)
  grows (chain_one p) = grows p
  grows (chain_more p h q) = omega (arith, grows p, grows q)
  grows (cmp_one p) = grows p
  grows (cmp_two p h q) = omega (arith, grows p, grows q)
  grows (un_prefix h p) = omega (arith, grows p)
  grows (un_atom p) = grows p
  grows (atom_name a) = omega arith
  grows (atom_call a b p) = omega (arith, grows p)
  grows (atom_number a) = omega arith
  grows (atom_float a) = omega arith
  grows (atom_constant a) = omega arith
  grows (atom_group a p b) = omega (arith, grows p)
  grows (atom_block a p b) = omega (arith, grows p)
  grows (actuals_none a) = omega arith
  grows (actuals_some p a) = omega (arith, grows p)
  grows (args_one p) = grows p
  grows (args_more p h q) = omega (arith, grows p, grows q)

  -- and begins with a token that can begin its symbol
  pub starts : {s : Sym} {i j : ℕ} {x : Of s} → Reads ts s i j x → begins s ≤ opens (kind_at ts i)
  unfolding opens entry
  starts (program_seq p) = omega (arith, starts p)
  starts (program_def p q) = starts p
  starts (def_is a b c p d q e r f) = opens_at _ _ _ a tt
  starts (formals_none a) = omega arith
  starts (formals_some p a) = omega arith
  starts (params_one a b p) = opens_at _ _ _ a tt
  starts (params_more a b p c q) = opens_at _ _ _ a tt
  starts (type_basic a) = omega arith
  starts (type_ref p a) = omega arith
  starts (seq_tail p) = starts p
  starts (seq_item p) = omega (arith, starts p)
  starts (seq_more p h q) = omega (arith, starts p)
  starts (tail_let p) = starts p
  starts (tail_if a p b q c r) = opens_at _ _ _ a tt
  starts (let_in a b c p d q) = opens_at _ _ _ a tt
  starts (item_if a p b q c r) = opens_at _ _ _ a tt
  starts (item_while a p b q c) = opens_at _ _ _ a tt
  starts (item_for p) = starts p
  starts (for_is a b c p d q e) = opens_at _ _ _ a tt
  starts (bounds_two p a q) = starts p
  starts (bounds_three p a q b r) = starts p
  starts (item_assign p) = omega (arith, starts p)
  starts (assign_one p) = starts p
  starts (assign_to p h q) = starts p
  starts (chain_one p) = starts p
  starts (chain_more p h q) = starts p
  starts (cmp_one p) = starts p
  starts (cmp_two p h q) = starts p
  starts (un_prefix {i} h p) = omega (arith, prefix_opens (kind_at ts i) h)
  starts (un_atom p) = omega (arith, starts p)
  starts (atom_name a) = opens_at _ _ _ a tt
  starts (atom_call a b p) = opens_at _ _ _ a tt
  starts (atom_number a) = opens_at _ _ _ a tt
  starts (atom_float a) = opens_at _ _ _ a tt
  starts (atom_constant {i} a) = omega (arith, constant_opens (kind_at ts i) a)
  starts (atom_group a p b) = opens_at _ _ _ a tt
  starts (atom_block a p b) = opens_at _ _ _ a tt
  starts (actuals_none a) = omega arith
  starts (actuals_some p a) = omega arith
  starts (args_one p) = starts p
  starts (args_more p h q) = starts p
