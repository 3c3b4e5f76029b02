-- Two lists that are the same as far as the parser has looked have the same answer, with fuel enough for the first.
use mathlib.Core.Path.{◌≡◌, refl, ap}
use mathlib.Core.List.{List, [], ◌∷◌}
use Prim.Native.Nat.{ℕ, zero, suc, ◌+◌, ◌*◌, ◌≤◌}
use native.Mathlib.Omega.{arith}
use lib.ListN.{length}
use Rattle.language.specs.Tokens.{Token, NAME, NUMBER, FLOAT_NUMBER, DEF, LET, IN, WHILE, IF, THEN, ELSE}
use Rattle.language.specs.Tokens.{REF, BECOMES, IS, SEMI, COMMA, COLON, LPAR, RPAR, LBRACE, RBRACE, FOR, BY}
use Rattle.language.specs.Decimals.{float_of}
use Rattle.language.specs.Trees.{ref, whole, decimal, name, literal, binary, block, call, bind, counted}
use Rattle.language.specs.Grammar.{Tier, Level, or, and, sum, prod, cmp, un, chain, Sym, tier, program, def, formals, params, type, seq, tail, bound}
use Rattle.language.specs.Grammar.{item, assign, atom, actuals, args, part, operators, comparisons, prefixes, constants, basics, counting, bounds, ranges}
use Rattle.language.proofs.Executable.Parser.{Goal, read, rest, refs, clause, until, closed, result, entire, step, parse}
use Rattle.language.proofs.Executable.ParserSound.{right, clause_seq}
use Rattle.language.proofs.Executable.Locality.{From, same_value, same_spelling, from_down, from_failed, from_got, from_then}
use Rattle.language.proofs.Executable.Locality.{from_made, from_past, from_test, from_look, from_need, is_same, means_same, there}
use Rattle.language.proofs.Grammar.Entries.{every}
use Rattle.language.proofs.Grammar.FirstTokens.{grows}
use Rattle.language.proofs.Grammar.Prefixes.{inside, in_table, operator_there, within}

-- every goal but the whole list, which alone asks for the list's end
abbrev pub Inner : Goal → Type 0
Inner (read s) = Unit {0}
Inner (rest l e) = Unit {0}
Inner (refs t) = Unit {0}
Inner clause = Unit {0}
Inner (until k) = Unit {0}
Inner closed = Unit {0}
Inner result = Unit {0}
Inner entire = ⊥

-- the steps that a goal may take before a token is passed
abbrev tier_level : Tier → ℕ
tier_level un = 2
tier_level (chain prod) = 3
tier_level (chain sum) = 4
tier_level cmp = 5
tier_level (chain and) = 6
tier_level (chain or) = 7

abbrev sym_level : Sym → ℕ
sym_level program = 11
sym_level def = 1
sym_level formals = 2
sym_level params = 1
sym_level type = 1
sym_level seq = 10
sym_level tail = 10
sym_level bound = 1
sym_level item = 10
sym_level counting = 1
sym_level bounds = 8
sym_level assign = 8
sym_level (tier t) = tier_level t
sym_level atom = 1
sym_level actuals = 13
sym_level args = 11

abbrev pub level : Goal → ℕ
level (read s) = sym_level s
level (rest l e) = 1
level (refs t) = 1
level clause = 9
level (until k) = 11
level closed = 12
level result = 1
level entire = 12

level_part : (l : Level) → tier_level (chain l) ≡ tier_level (part l) + 1
level_part or = refl
level_part and = refl
level_part sum = refl
level_part prod = refl

level_low : (l : Level) → tier_level (part l) ≤ 7
level_low or = omega arith
level_low and = omega arith
level_low sum = omega arith
level_low prod = omega arith

module _ (ts us : List Token) where
  -- fuel f is enough for a goal at i
  abbrev pub Enough : ℕ → Goal → ℕ → Type 0
  Enough f g i = 16 * (length ts + 1) + level g ≤ f + 16 * i

  module _ (h h' : ℕ) (ih : (g : Goal) → Inner g → (i : ℕ) → i ≤ length ts → Enough h g i → From ts us i (parse ts h g i) (parse us h' g i)) where
    step_agrees : (g : Goal) → Inner g → (i : ℕ) → i ≤ length ts → Enough (suc h) g i
        → From ts us i (step ts (parse ts h) g i) (step us (parse us h') g i)
    unfolding step every
    step_agrees (read program) u i l f =
        from_test _ _ _ _ _ (is_same i DEF)
        (λ a.
        from_then _ _ _ (ih (read def) tt i l (omega arith)) λ d m e.
        let p = right ts h (read def) i e in
        from_made _ _ _ (ih (read program) tt m (within ts p) (omega (arith, grows ts p))) λ x j n b. refl)
        λ _. from_made _ _ _ (ih (read seq) tt i l (omega arith)) λ x j n b. refl
    step_agrees (read def) u i l f =
        from_need _ i _ _ (is_same i DEF) λ a.
        from_down (omega arith) (from_need _ (i + 1) _ _ (is_same (i + 1) NAME) λ b.
        from_down (omega arith) (from_need _ (i + 2) _ _ (is_same (i + 2) LPAR) λ c.
        from_down {j = i + 3} (omega arith) (from_then _ _ _
        (ih (read formals) tt (i + 3) (omega (arith, there ts (i + 2) LPAR c (omega arith))) (omega arith)) λ ps m e.
        let p = right ts h (read formals) (i + 3) e in
        from_then _ _ _ (ih result tt m (within ts p) (omega (arith, grows ts p))) λ t k d.
        let q = right ts h result m d in
        from_down (omega arith) (from_past _ _ _
        (ih (until RBRACE) tt (k + 1) (omega (arith, inside ts k q.2 (omega arith))) (omega (arith, grows ts p, grows ts q.1))) λ x j n z.
        ap (λ (s : List ℕ). record { at = i; named = i + 1; called = s; params = ps; result = t; body = block k x })
        (same_spelling z (i + 1) (omega (arith, grows ts p, grows ts q.1)))))))
    step_agrees (read formals) u i l f =
        from_test _ _ _ _ _ (is_same i RPAR) (λ a. from_got (omega arith) λ z. refl) λ _.
        from_then _ _ _ (ih (read params) tt i l (omega arith)) λ ps k e.
        from_need _ k _ _ (is_same k RPAR) λ b.
        from_got (omega arith) λ z. refl
    step_agrees (read params) u i l f =
        from_need _ i _ _ (is_same i NAME) λ a.
        from_down (omega arith) (from_need _ (i + 1) _ _ (is_same (i + 1) COLON) λ b.
        from_down {j = i + 2} (omega arith) (from_then _ _ _
        (ih (read type) tt (i + 2) (omega (arith, there ts (i + 1) COLON b (omega arith))) (omega arith)) λ t m e.
        let p = right ts h (read type) (i + 2) e in
        let g = grows ts p in
        from_test _ _ _ _ _ (is_same m COMMA)
        (λ c.
        from_down (omega arith) (from_made _ _ _
        (ih (read params) tt (m + 1) (there ts m COMMA c (omega arith)) (omega arith)) λ x j n z.
        ap (λ (s : List ℕ). record { at = i; called = s; type = t } ∷ x) (same_spelling z i (omega arith))))
        λ _. from_got (omega arith) λ z. ap (λ (s : List ℕ). record { at = i; called = s; type = t } ∷ []) (same_spelling z i (omega arith))))
    step_agrees (read type) u i l f =
        from_look _ _ _ _ _ (means_same i basics)
        (λ t a. from_down (omega arith) (ih (refs t) tt (i + 1) (omega (arith, in_table ts i basics tt a)) (omega arith)))
        λ _. from_failed (omega arith)
    step_agrees (read seq) u i l f =
        from_then _ _ _ (ih clause tt i l (omega arith)) λ e m d.
        let p = clause_seq ts (right ts h clause i d) in
        from_test _ _ _ _ _ (is_same m SEMI)
        (λ a.
        from_down (omega arith) (from_made _ _ _
        (ih (read seq) tt (m + 1) (there ts m SEMI a (omega arith)) (omega (arith, grows ts p))) λ x j n z. refl))
        λ _. from_got (omega arith) λ z. refl
    step_agrees (read tail) u i l f = ih clause tt i l (omega arith)
    step_agrees (read bound) u i l f =
        from_need _ i _ _ (is_same i LET) λ a.
        from_down (omega arith) (from_need _ (i + 1) _ _ (is_same (i + 1) NAME) λ b.
        from_down (omega arith) (from_need _ (i + 2) _ _ (is_same (i + 2) IS) λ c.
        from_down {j = i + 3} (omega arith) (from_then _ _ _
        (ih (until IN) tt (i + 3) (omega (arith, there ts (i + 2) IS c (omega arith))) (omega arith)) λ e m d.
        let p = right ts h (until IN) (i + 3) d in
        let g = grows ts p.0 in
        from_down (omega arith) (from_made _ _ _
        (ih (read seq) tt (m + 1) (omega (arith, inside ts m p.1 (omega arith))) (omega arith)) λ x j n z.
        ap (λ (s : List ℕ). bind i s e x) (same_spelling z (i + 1) (omega arith))))))
    step_agrees (read item) u i l f = ih clause tt i l (omega arith)
    step_agrees (read counting) u i l f =
        from_need _ i _ _ (is_same i FOR) λ a.
        from_down (omega arith) (from_need _ (i + 1) _ _ (is_same (i + 1) NAME) λ b.
        from_down (omega arith) (from_need _ (i + 2) _ _ (is_same (i + 2) IN) λ c.
        from_down {j = i + 3} (omega arith) (from_then _ _ _
        (ih (read bounds) tt (i + 3) (omega (arith, there ts (i + 2) IN c (omega arith))) (omega arith)) λ s m d.
        let p = right ts h (read bounds) (i + 3) d in
        let g = grows ts p in
        from_need _ m _ _ (is_same m LBRACE) λ e.
        from_down (omega arith) (from_past _ _ _
        (ih (until RBRACE) tt (m + 1) (there ts m LBRACE e (omega arith)) (omega arith)) λ x j n z.
        ap (λ (w : List ℕ). counted i w s.through s.parts (block m x)) (same_spelling z (i + 1) (omega arith))))))
    step_agrees (read bounds) u i l f =
        from_then _ _ _ (ih (read (tier (chain or))) tt i l (omega arith)) λ e m d.
        let p = right ts h (read (tier (chain or))) i d in
        from_look _ _ _ _ _ (means_same m ranges)
        (λ b a.
        from_down {j = m + 1} (omega arith) (from_then _ _ _
        (ih (read (tier (chain or))) tt (m + 1) (omega (arith, in_table ts m ranges tt a)) (omega (arith, grows ts p))) λ y k t.
        let q = right ts h (read (tier (chain or))) (m + 1) t in
        from_test _ _ _ _ _ (is_same k BY)
        (λ c.
        from_down (omega arith) (from_made _ _ _
        (ih (read (tier (chain or))) tt (k + 1) (there ts k BY c (omega arith)) (omega (arith, grows ts p, grows ts q))) λ x j n z. refl))
        λ _. from_got (omega arith) λ z. refl))
        λ _. from_failed (omega arith)
    step_agrees (read assign) u i l f =
        from_then _ _ _ (ih (read (tier (chain or))) tt i l (omega arith)) λ e m d.
        let p = right ts h (read (tier (chain or))) i d in
        from_test _ _ _ _ _ (is_same m BECOMES)
        (λ a.
        from_down (omega arith) (from_made _ _ _
        (ih (read (tier (chain or))) tt (m + 1) (there ts m BECOMES a (omega arith)) (omega (arith, grows ts p))) λ x j n z. refl))
        λ _. from_got (omega arith) λ z. refl
    step_agrees (read (tier (chain v))) u i l f =
        from_then _ _ _ (ih (read (tier (part v))) tt i l (omega (arith, level_part v))) λ e m d.
        let p = right ts h (read (tier (part v))) i d in
        ih (rest v e) tt m (within ts p) (omega (arith, grows ts p))
    step_agrees (read (tier cmp)) u i l f =
        from_then _ _ _ (ih (read (tier (chain sum))) tt i l (omega arith)) λ e m d.
        let p = right ts h (read (tier (chain sum))) i d in
        from_look _ _ _ _ _ (means_same m comparisons)
        (λ o a.
        from_down (omega arith) (from_made _ _ _
        (ih (read (tier (chain sum))) tt (m + 1) (omega (arith, in_table ts m comparisons tt a)) (omega (arith, grows ts p))) λ x j n z. refl))
        λ _. from_got (omega arith) λ z. refl
    step_agrees (read (tier un)) u i l f =
        from_look _ _ _ _ _ (means_same i prefixes)
        (λ o a.
        from_down (omega arith) (from_made _ _ _
        (ih (read (tier un)) tt (i + 1) (omega (arith, in_table ts i prefixes tt a)) (omega arith)) λ x j n z. refl))
        λ _. ih (read atom) tt i l (omega arith)
    step_agrees (read atom) u i l f =
        from_look _ _ _ _ _ (means_same i constants) (λ x a. from_got (omega arith) λ z. refl) λ _.
        from_test _ _ _ _ _ (is_same i NUMBER)
        (λ a. from_got (omega arith) λ z. ap (λ (n : ℕ). literal i (whole n)) (same_value z i (omega arith))) λ _.
        from_test _ _ _ _ _ (is_same i FLOAT_NUMBER)
        (λ a. from_got (omega arith) λ z. ap (λ (s : List ℕ). literal i (decimal (float_of s))) (same_spelling z i (omega arith))) λ _.
        from_test _ _ _ _ _ (is_same i NAME)
        (λ a.
        from_down (omega arith) (from_test {i = i + 1} _ _ _ _ _ (is_same (i + 1) LPAR)
        (λ b.
        from_down (omega arith) (from_made _ _ _
        (ih (read actuals) tt (i + 2) (omega (arith, there ts (i + 1) LPAR b (omega arith))) (omega arith)) λ x j n z.
        ap (λ (s : List ℕ). call i s x) (same_spelling z i (omega arith))))
        λ _. from_got (omega arith) λ z. ap (λ (s : List ℕ). name i s) (same_spelling z i (omega arith)))) λ _.
        from_test _ _ _ _ _ (is_same i LPAR)
        (λ a.
        from_down (omega arith) (from_past _ _ _
        (ih (until RPAR) tt (i + 1) (there ts i LPAR a (omega arith)) (omega arith)) λ x j n z. refl)) λ _.
        from_need _ i _ _ (is_same i LBRACE) λ a.
        from_down (omega arith) (from_past _ _ _
        (ih (until RBRACE) tt (i + 1) (there ts i LBRACE a (omega arith)) (omega arith)) λ x j n z. refl)
    step_agrees (read actuals) u i l f =
        from_test _ _ _ _ _ (is_same i RPAR) (λ a. from_got (omega arith) λ z. refl) λ _. ih closed tt i l (omega arith)
    step_agrees (read args) u i l f =
        from_then _ _ _ (ih (read seq) tt i l (omega arith)) λ e m d.
        let p = (right ts h (read seq) i d).0 in
        from_test _ _ _ _ _ (is_same m COMMA)
        (λ a.
        from_down (omega arith) (from_made _ _ _
        (ih (read args) tt (m + 1) (there ts m COMMA a (omega arith)) (omega (arith, grows ts p))) λ x j n z. refl))
        λ _. from_got (omega arith) λ z. refl
    step_agrees (rest v e) u i l f =
        from_look _ _ _ _ _ (means_same i (operators v))
        (λ o a.
        from_down {j = i + 1} (omega arith) (from_then _ _ _
        (ih (read (tier (part v))) tt (i + 1) (omega (arith, operator_there ts v i a)) (omega (arith, level_low v))) λ x m d.
        let p = right ts h (read (tier (part v))) (i + 1) d in
        ih (rest v (binary i o e x)) tt m (within ts p) (omega (arith, grows ts p))))
        λ _. from_got (omega arith) λ z. refl
    step_agrees (refs t) u i l f =
        from_test _ _ _ _ _ (is_same i REF)
        (λ a. from_down (omega arith) (ih (refs (ref t)) tt (i + 1) (there ts i REF a (omega arith)) (omega arith)))
        λ _. from_got (omega arith) λ z. refl
    step_agrees clause u i l f =
        from_test _ _ _ _ _ (is_same i LET) (λ a. ih (read bound) tt i l (omega arith)) λ _.
        from_test _ _ _ _ _ (is_same i IF)
        (λ a.
        from_down {j = i + 1} (omega arith) (from_then _ _ _
        (ih (until THEN) tt (i + 1) (there ts i IF a (omega arith)) (omega arith)) λ c m d.
        let p = right ts h (until THEN) (i + 1) d in
        let x = grows ts p.0 in
        from_down {j = m + 1} (omega arith) (from_then _ _ _
        (ih (until ELSE) tt (m + 1) (omega (arith, inside ts m p.1 (omega arith))) (omega arith)) λ e k b.
        let q = right ts h (until ELSE) (m + 1) b in
        let y = grows ts q.0 in
        from_down (omega arith) (from_made _ _ _
        (ih clause tt (k + 1) (omega (arith, inside ts k q.1 (omega arith))) (omega arith)) λ x j n z. refl))))
        λ _.
        from_test _ _ _ _ _ (is_same i WHILE)
        (λ a.
        from_down {j = i + 1} (omega arith) (from_then _ _ _
        (ih (until LBRACE) tt (i + 1) (there ts i WHILE a (omega arith)) (omega arith)) λ c m d.
        let p = right ts h (until LBRACE) (i + 1) d in
        let x = grows ts p.0 in
        from_down (omega arith) (from_past _ _ _
        (ih (until RBRACE) tt (m + 1) (omega (arith, inside ts m p.1 (omega arith))) (omega arith)) λ x j n z. refl)))
        λ _.
        from_test _ _ _ _ _ (is_same i FOR) (λ a. ih (read counting) tt i l (omega arith)) λ _.
        ih (read assign) tt i l (omega arith)
    step_agrees (until k) u i l f =
        from_then _ _ _ (ih (read seq) tt i l (omega arith)) λ e m d.
        from_need _ m _ _ (is_same m k) λ a.
        from_got (omega arith) λ z. refl
    step_agrees closed u i l f =
        from_then _ _ _ (ih (read args) tt i l (omega arith)) λ es k d.
        from_need _ k _ _ (is_same k RPAR) λ a.
        from_got (omega arith) λ z. refl
    step_agrees result u i l f =
        from_need _ i _ _ (is_same i COLON) λ a.
        from_down {j = i + 1} (omega arith) (from_then _ _ _
        (ih (read type) tt (i + 1) (there ts i COLON a (omega arith)) (omega arith)) λ t k d.
        from_need _ k _ _ (is_same k LBRACE) λ b.
        from_got (omega arith) λ z. refl)
    step_agrees entire u i l f = absurd u

  -- with enough fuel for the first list, and no less for the second
  pub agrees : (f f' : ℕ) → f ≤ f' → (g : Goal) → Inner g → (i : ℕ) → i ≤ length ts → Enough f g i
      → From ts us i (parse ts f g i) (parse us f' g i)
  unfolding parse
  agrees zero f' h g u i l e = absurd (omega arith)
  agrees (suc f) zero h g u i l e = absurd (omega arith)
  agrees (suc f) (suc f') h g u i l e = step_agrees f f' (λ g u i l e. agrees f f' (omega arith) g u i l e) g u i l e
