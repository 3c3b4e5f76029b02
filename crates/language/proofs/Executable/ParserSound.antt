-- What the parser answers is a reading.
use mathlib.Core.Path.{◌≡◌, subst}
use mathlib.Core.Bool.{true}
use mathlib.Core.List.{List}
use Prim.Native.Nat.{ℕ, zero, suc, ◌+◌}
use lib.ListN.{length}
use borrow.Author.Tests.{eqb-true, eqb-false}
use Rattle.language.specs.Tokens.{Token, At, kind_at, IN, IF, THEN, ELSE, SEMI, COLON, RPAR, LBRACE, RBRACE}
use Rattle.language.specs.Trees.{ref, Exp, binary, branch, Program}
use Rattle.language.specs.Grammar.{cmp, un, tier, or, sum, program, def, formals, params, type, seq, tail, bound, item, assign, atom}
use Rattle.language.specs.Grammar.{actuals, args, chain, part, Reads, program_seq, program_def, def_is, formals_none, formals_some}
use Rattle.language.specs.Grammar.{params_one, params_more, type_basic, type_ref, seq_tail, seq_item, seq_more, tail_let, tail_if, let_in}
use Rattle.language.specs.Grammar.{item_if, item_while, item_assign, assign_one, assign_to, chain_one, cmp_one, cmp_two, un_prefix, un_atom}
use Rattle.language.specs.Grammar.{atom_name, atom_call, atom_number, atom_float, atom_constant, atom_group, atom_block, actuals_none}
use Rattle.language.specs.Grammar.{actuals_some, args_one, args_more, Reading, item_for, for_is, bounds_two, bounds_three, counting, bounds}
use Rattle.language.proofs.Grammar.Association.{on_the_left}
use Rattle.language.proofs.Executable.Parses.{Result, got, All, nothing, this, all_got, all_same, all_made}
use Rattle.language.proofs.Executable.Parses.{all_made_past, all_then, all_test, all_look, all_need}
use Rattle.language.proofs.Executable.Parser.{Goal, Answer, read, rest, refs, clause, until, closed, result, entire, is, step, parse, answer}

module _ (ts : List Token) where
  -- the end of what reaches as far right as it can: no `;` is there, with which it would go on
  abbrev pub Full : ℕ → Type 0
  Full j = At ts j SEMI → ⊥

  -- a Tail or an Item; a Tail is full, so that a `;` can only be behind an Item (R05.2)
  pub data Clause (i : ℕ) (x : Exp) (j : ℕ) : Type 0 where
    as_tail : Reads ts tail i j x → Full j → Clause i x j
    as_item : Reads ts item i j x → Clause i x j

  clause_if : {i m k j : ℕ} {c e f : Exp} → At ts i IF → Reads ts seq (i + 1) m c → At ts m THEN → Reads ts seq (m + 1) k e
      → At ts k ELSE → Clause (k + 1) f j → Clause i (branch i c e f) j
  clause_if a p b q c (as_tail r full) = as_tail (tail_if a p b q c r) full
  clause_if a p b q c (as_item r) = as_item (item_if a p b q c r)

  pub clause_seq : {i j : ℕ} {x : Exp} → Clause i x j → Reads ts seq i j x
  clause_seq (as_tail p full) = seq_tail p
  clause_seq (as_item p) = seq_item p

  pub clause_item : {i j : ℕ} {x : Exp} → Clause i x j → At ts j SEMI → Reads ts item i j x
  clause_item (as_tail p full) h = absurd (full h)
  clause_item (as_item p) h = p

  -- x, read from i up to j, is what the goal asks for
  abbrev pub Right : (g : Goal) → ℕ → Answer g → ℕ → Type 0
  Right (read program) i x j = Reads ts program i j x
  Right (read def) i x j = Reads ts def i j x
  Right (read formals) i x j = Reads ts formals i j x
  Right (read params) i x j = Reads ts params i j x
  Right (read type) i x j = Reads ts type i j x
  Right (read seq) i x j = Reads ts seq i j x × Full j
  Right (read tail) i x j = Clause i x j
  Right (read bound) i x j = Reads ts bound i j x × Full j
  Right (read item) i x j = Clause i x j
  Right (read counting) i x j = Reads ts counting i j x
  Right (read bounds) i x j = Reads ts bounds i j x
  Right (read assign) i x j = Reads ts assign i j x
  Right (read atom) i x j = Reads ts atom i j x
  Right (read actuals) i x j = Reads ts actuals i j x
  Right (read args) i x j = Reads ts args i j x
  Right (read (tier l)) i x j = Reads ts (tier l) i j x
  Right (rest l e) i x j = (h : ℕ) → Reads ts (tier (chain l)) h i e → Reads ts (tier (chain l)) h j x
  Right (refs t) i x j = (h : ℕ) → Reads ts type h i t → Reads ts type h j x
  Right clause i x j = Clause i x j
  Right (until k) i x j = Reads ts seq i j x × At ts j k
  Right closed i x j = Reads ts actuals i j x
  Right result i x j = At ts i COLON × Reads ts type (i + 1) j x × At ts j LBRACE
  Right entire i x j = Reads ts program i (length ts) x

  -- the parser's test tells the kind
  pub at : (i k : ℕ) → is ts i k ≡ true → At ts i k
  at i k e = eqb-true (kind_at ts i) k e

  module _ (r : (g : Goal) → ℕ → Result (Answer g)) (ok : (g : Goal) (i : ℕ) → All (Right g i) (r g i)) where
    step_sound : (g : Goal) (i : ℕ) → All (Right g i) (step ts r g i)
    unfolding step
    step_sound (read program) i =
        all_test _ _ _ (λ _. all_then _ (ok (read def) i) λ d m p. all_made _ (ok (read program) m) λ t j q. program_def p q) λ _.
        all_made _ (ok (read seq) i) λ e j p. program_seq p.0
    step_sound (read def) i =
        all_need _ _ _ λ a.
        all_need _ _ _ λ b.
        all_need _ _ _ λ c.
        all_then _ (ok (read formals) (i + 3)) λ ps m p.
        all_then _ (ok result m) λ t k q.
        all_made_past _ (ok (until RBRACE) (k + 1)) λ e n s.
        def_is (at i _ a) (at (i + 1) _ b) (at (i + 2) _ c) p q.0 q.1 q.2 s.0 s.1
    step_sound (read formals) i =
        all_test _ _ _ (λ a. this (formals_none (at i _ a))) λ _.
        all_then _ (ok (read params) i) λ ps k p.
        all_need _ _ _ λ b.
        this (formals_some p (at k _ b))
    step_sound (read params) i =
        all_need _ _ _ λ a.
        all_need _ _ _ λ b.
        all_then _ (ok (read type) (i + 2)) λ t m p.
        all_test _ _ _ (λ c. all_made _ (ok (read params) (m + 1)) λ ps j q. params_more (at i _ a) (at (i + 1) _ b) p (at m _ c) q) λ _.
        this (params_one (at i _ a) (at (i + 1) _ b) p)
    step_sound (read type) i = all_look _ _ _ (λ t a. all_same (λ u j p. p i (type_basic a)) (ok (refs t) (i + 1))) λ _. nothing
    step_sound (read seq) i =
        all_then _ (ok clause i) λ e m p.
        all_test _ _ _ (λ h.
        all_made _ (ok (read seq) (m + 1)) λ f j q. (seq_more (clause_item p (at m _ h)) (at m _ h) q.0, q.1)) λ h.
        this (clause_seq p, eqb-false (kind_at ts m) SEMI h)
    step_sound (read tail) i = ok clause i
    step_sound (read bound) i =
        all_need _ _ _ λ a.
        all_need _ _ _ λ b.
        all_need _ _ _ λ c.
        all_then _ (ok (until IN) (i + 3)) λ e m p.
        all_made _ (ok (read seq) (m + 1)) λ f j q.
        (let_in (at i _ a) (at (i + 1) _ b) (at (i + 2) _ c) p.0 p.1 q.0, q.1)
    step_sound (read item) i = ok clause i
    step_sound (read counting) i =
        all_need _ _ _ λ a.
        all_need _ _ _ λ b.
        all_need _ _ _ λ c.
        all_then _ (ok (read bounds) (i + 3)) λ s m p.
        all_need _ _ _ λ d.
        all_made_past _ (ok (until RBRACE) (m + 1)) λ e k q.
        for_is (at i _ a) (at (i + 1) _ b) (at (i + 2) _ c) p (at m _ d) q.0 q.1
    step_sound (read bounds) i =
        all_then _ (ok (read (tier (chain or))) i) λ e m p.
        all_look _ _ _ (λ b h.
        all_then _ (ok (read (tier (chain or))) (m + 1)) λ f k q.
        all_test _ _ _ (λ a. all_made _ (ok (read (tier (chain or))) (k + 1)) λ g j s. bounds_three p h q (at k _ a) s) λ _.
        this (bounds_two p h q)) λ _.
        nothing
    step_sound (read assign) i =
        all_then _ (ok (read (tier (chain or))) i) λ e m p.
        all_test _ _ _ (λ h. all_made _ (ok (read (tier (chain or))) (m + 1)) λ f j q. assign_to p (at m _ h) q) λ _.
        this (assign_one p)
    step_sound (read (tier (chain l))) i =
        all_then _ (ok (read (tier (part l))) i) λ e m p.
        all_same (λ f j q. q i (chain_one p)) (ok (rest l e) m)
    step_sound (read (tier cmp)) i =
        all_then _ (ok (read (tier (chain sum))) i) λ e m p.
        all_look _ _ _ (λ o h. all_made _ (ok (read (tier (chain sum))) (m + 1)) λ f j q. cmp_two p h q) λ _.
        this (cmp_one p)
    step_sound (read (tier un)) i =
        all_look _ _ _ (λ o h. all_made _ (ok (read (tier un)) (i + 1)) λ e j p. un_prefix h p) λ _.
        all_same (λ e j p. un_atom p) (ok (read atom) i)
    step_sound (read atom) i =
        all_look _ _ _ (λ l a. this (atom_constant a)) λ _.
        all_test _ _ _ (λ a. this (atom_number (at i _ a))) λ _.
        all_test _ _ _ (λ a. this (atom_float (at i _ a))) λ _.
        all_test _ _ _ (λ a.
        all_test _ _ _ (λ b. all_made _ (ok (read actuals) (i + 2)) λ es j p. atom_call (at i _ a) (at (i + 1) _ b) p) λ _.
        this (atom_name (at i _ a))) λ _.
        all_test _ _ _ (λ a. all_made_past _ (ok (until RPAR) (i + 1)) λ e k p. atom_group (at i _ a) p.0 p.1) λ _.
        all_need _ _ _ λ a.
        all_made_past _ (ok (until RBRACE) (i + 1)) λ e k p. atom_block (at i _ a) p.0 p.1
    step_sound (read actuals) i = all_test _ _ _ (λ a. this (actuals_none (at i _ a))) λ _. ok closed i
    step_sound (read args) i =
        all_then _ (ok (read seq) i) λ e m p.
        all_test _ _ _ (λ h. all_made _ (ok (read args) (m + 1)) λ es j q. args_more p.0 (at m _ h) q) λ _.
        this (args_one p.0)
    step_sound (rest l e) m =
        all_look _ _ _ (λ o h.
        all_then _ (ok (read (tier (part l))) (m + 1)) λ f j q.
        all_same (λ v k p. λ n s. p n (on_the_left ts s h q)) (ok (rest l (binary m o e f)) j)) λ _.
        this (λ n s. s)
    step_sound (refs t) m =
        all_test _ _ _ (λ h. all_same (λ v k p. λ n s. p n (type_ref s (at m _ h))) (ok (refs (ref t)) (m + 1))) λ _.
        this (λ n s. s)
    step_sound clause i =
        all_test _ _ _ (λ _. all_same (λ e j p. as_tail (tail_let p.0) p.1) (ok (read bound) i)) λ _.
        all_test _ _ _ (λ a.
        all_then _ (ok (until THEN) (i + 1)) λ c m p.
        all_then _ (ok (until ELSE) (m + 1)) λ e k q.
        all_made _ (ok clause (k + 1)) λ f j s.
        clause_if (at i _ a) p.0 p.1 q.0 q.1 s) λ _.
        all_test _ _ _ (λ a.
        all_then _ (ok (until LBRACE) (i + 1)) λ c m p.
        all_made_past _ (ok (until RBRACE) (m + 1)) λ e k q.
        as_item (item_while (at i _ a) p.0 p.1 q.0 q.1)) λ _.
        all_test _ _ _ (λ _. all_same (λ e j p. as_item (item_for p)) (ok (read counting) i)) λ _.
        all_same (λ e j p. as_item (item_assign p)) (ok (read assign) i)
    step_sound (until k) i =
        all_then _ (ok (read seq) i) λ e m p.
        all_need _ _ _ λ a.
        this (p.0, at m _ a)
    step_sound closed i =
        all_then _ (ok (read args) i) λ es k p.
        all_need _ _ _ λ a.
        this (actuals_some p (at k _ a))
    step_sound result i =
        all_need _ _ _ λ a.
        all_then _ (ok (read type) (i + 1)) λ t k p.
        all_need _ _ _ λ b.
        this (at i _ a, p, at k _ b)
    step_sound entire i =
        all_then _ (ok (read program) i) λ x j p.
        all_need _ _ _ λ a.
        this (subst (λ (n : ℕ). Reads ts program i n x) (eqb-true j (length ts) a) p)

  -- with any fuel, what is got is right
  pub sound : (f : ℕ) (g : Goal) (i : ℕ) → All (Right g i) (parse ts f g i)
  unfolding parse
  sound zero g i = nothing
  sound (suc f) g i = step_sound (parse ts f) (sound f) g i

  pub right : (f : ℕ) (g : Goal) (i : ℕ) {x : Answer g} {j : ℕ} → parse ts f g i ≡ got x j → Right g i x j
  right f g i e = all_got (subst (All (Right g i)) e (sound f g i))

  -- a program that is got is the list's reading
  pub answer_sound : (p : Program) (j : ℕ) → answer ts ≡ got p j → Reading ts p
  unfolding answer
  answer_sound p j e = all_got (subst (All (λ x k. Reading ts x)) e (sound _ entire 0))
