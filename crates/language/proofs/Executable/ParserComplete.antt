-- Every reading is found by the parser, if the token behind it cannot go on with it and the fuel is enough.
use mathlib.Core.Path.{refl, ap}
use mathlib.Core.List.{List}
use Prim.Native.Nat.{ℕ, ◌+◌, ◌*◌, ◌-◌, ◌≤◌}
use native.Mathlib.Omega.{arith}
use Rattle.language.specs.Tokens.{Token, At, entry, kind_at, IN, DEF, LET, WHILE, IF, BECOMES, COMMA, LPAR, RPAR, LBRACE, RBRACE, FOR, BY}
use Rattle.language.specs.Trees.{Exp, Def}
use Rattle.language.specs.Grammar.{cmp, un, Of, tier, Sym, program, def, formals, params, type, seq, bound, assign, atom, actuals, args}
use Rattle.language.specs.Grammar.{chain, Reads, program_seq, program_def, def_is, formals_none, formals_some, params_one, params_more}
use Rattle.language.specs.Grammar.{type_basic, type_ref, seq_tail, seq_item, seq_more, tail_let, tail_if, let_in, item_if, item_while}
use Rattle.language.specs.Grammar.{item_assign, assign_one, assign_to, chain_one, chain_more, cmp_one, cmp_two, un_prefix, un_atom}
use Rattle.language.specs.Grammar.{atom_name, atom_call, atom_number, atom_float, atom_constant, atom_group, atom_block, actuals_none}
use Rattle.language.specs.Grammar.{actuals_some, args_one, args_more, item_for, for_is, bounds_two, bounds_three, counting, bounds}
use Rattle.language.proofs.Executable.Parses.{then, test, look, need}
use Rattle.language.proofs.Executable.Parser.{read, rest, refs, clause, step}
use Rattle.language.proofs.Grammar.FirstTokens.{pull, opens, ends_part, operator_pulls, comparison_pulls, range_pulls}
use Rattle.language.proofs.Grammar.FirstTokens.{no_comparison, no_prefix, apart, pull_most, grows, starts}
use Rattle.language.proofs.Executable.ParserClaims.{rank_low, Found, Claim, run, plain, finds_until, finds_result, finds_closed, finds_seq, finds_if}

-- What the induction gives of a part goes through here. The function stays shut, so that the check does not compute the
-- induction again wherever it is used.
given : {A B : Type 0} → A → (A → B) → B
given a f = f a

module _ (ts : List Token) where
  def_def : {i j : ℕ} {d : Def} → Reads ts def i j d → At ts i DEF
  def_def (def_is a b c p d q e r f) = a

  bound_let : {i j : ℕ} {e : Exp} → Reads ts bound i j e → At ts i LET
  bound_let (let_in a b c p d q) = a

  counting_for : {i j : ℕ} {e : Exp} → Reads ts counting i j e → At ts i FOR
  counting_for (for_is a b c p d q g) = a

  complete : {s : Sym} {i j : ℕ} {x : Of s} → Reads ts s i j x → Claim ts s i j x
  unfolding step then test look need pull opens entry
  complete (program_seq {i} p) = given (complete p) λ p'. λ stop f e.
      run ts (read program) i f _ (omega (arith, grows ts p)) λ n z.
      rw (apart opens (kind_at ts i) DEF (omega (arith, starts ts p)), p' stop n (omega arith))
  complete (program_def {i} {m} p q) = given (complete p) λ p'. given (complete q) λ q'. λ stop f e.
      run ts (read program) i f _ (omega (arith, grows ts p, grows ts q)) λ n z.
      let x = p' (pull_most (kind_at ts m)) n (omega (arith, grows ts q)) in
      let y = q' stop n (omega (arith, grows ts p)) in
      rw (def_def p, x, y)
  complete (def_is {i} {m} {k} a b c p d q g r h) = given (complete p) λ p'. given (complete q) λ q'. given (complete r) λ r'. λ stop f e.
      run ts (read def) i f _ (omega (arith, grows ts p, grows ts q, grows ts r)) λ n z.
      let x = p' (omega (arith, ap pull d)) n (omega (arith, grows ts q, grows ts r)) in
      let o : 1 ≤ n = omega (arith, grows ts p, grows ts q, grows ts r) in
      let y = finds_result m d q (plain q q') g n (omega (arith, grows ts p, grows ts r)) o in
      let w = finds_until RBRACE r r' h refl n (omega (arith, grows ts p, grows ts q)) o in
      rw (a, b, c, x, y, w)
  complete (formals_none {i} a) = λ stop f e.
      run ts (read formals) i f _ (omega arith) λ n z.
      rw a
  complete (formals_some {i} {k} p a) = given (complete p) λ p'. λ stop f e.
      run ts (read formals) i f _ (omega (arith, grows ts p)) λ n z.
      let x = p' (omega (arith, ap pull a)) n (omega arith) in
      rw (apart opens (kind_at ts i) RPAR (omega (arith, starts ts p)), x, a)
  complete (params_one {i} {j} a b p) = given (complete p) λ p'. λ stop f e.
      run ts (read params) i f _ (omega (arith, grows ts p)) λ n z.
      let x = plain p p' (omega arith) n (omega arith) in
      rw (a, b, x, apart pull (kind_at ts j) COMMA (omega arith))
  complete (params_more {i} {m} a b p c q) = given (complete p) λ p'. given (complete q) λ q'. λ stop f e.
      run ts (read params) i f _ (omega (arith, grows ts p, grows ts q)) λ n z.
      let x = plain p p' (omega (arith, ap pull c)) n (omega (arith, grows ts q)) in
      let y = q' stop n (omega (arith, grows ts p)) in
      rw (a, b, x, c, y)
  complete (type_basic {i} a) = λ b r go f e.
      run ts (read type) i f r (omega arith) λ n z.
      rw a (go n (omega arith))
  complete (type_ref {i} {m} {t} p a) = given (complete p) λ p'. λ b r go f e.
      p' (b + 1) r (λ g k.
      run ts (refs t) m g r (omega arith) λ n z.
      rw a (go n (omega arith)))
      f (omega (arith, grows ts p))
  complete (seq_tail {i} {j} p) = given (complete p) λ p'. finds_seq i j p (λ stop. p' stop)
  complete (seq_item {i} {j} p) = given (complete p) λ p'. finds_seq i j p (λ stop. p' (omega arith))
  complete (seq_more {i} {m} p h q) = given (complete p) λ p'. given (complete q) λ q'. λ stop f e.
      run ts (read seq) i f _ (omega (arith, grows ts p, grows ts q)) λ n z.
      let x = p' (omega (arith, ap pull h)) n (omega (arith, grows ts q)) in
      let y = q' stop n (omega (arith, grows ts p)) in
      rw (x, h, y)
  complete (tail_let {i} p) = given (complete p) λ p'. λ stop f e.
      run ts clause i f _ (omega (arith, grows ts p)) λ n z.
      rw (bound_let p, p' stop n (omega arith))
  complete (tail_if a p b q c r) = given (complete p) λ p'. given (complete q) λ q'. given (complete r) λ r'. finds_if a p p' b q q' c r r'
  complete (let_in {i} a b c p d q) = given (complete p) λ p'. given (complete q) λ q'. λ stop f e.
      run ts (read bound) i f _ (omega (arith, grows ts p, grows ts q)) λ n z.
      let x = finds_until IN p p' d refl n (omega (arith, grows ts q)) (omega (arith, grows ts p, grows ts q)) in
      let y = q' stop n (omega (arith, grows ts p)) in
      rw (a, b, c, x, y)
  complete (item_if a p b q c r) = given (complete p) λ p'. given (complete q) λ q'. given (complete r) λ r'. finds_if a p p' b q q' c r r'
  complete (item_while {i} a p b q c) = given (complete p) λ p'. given (complete q) λ q'. λ stop f e.
      run ts clause i f _ (omega (arith, grows ts p, grows ts q)) λ n z.
      let o : 1 ≤ n = omega (arith, grows ts p, grows ts q) in
      let x = finds_until LBRACE p p' b refl n (omega (arith, grows ts q)) o in
      let y = finds_until RBRACE q q' c refl n (omega (arith, grows ts p)) o in
      rw (a, x, y)
  complete (item_for {i} {j} p) = given (complete p) λ p'. λ stop f e.
      run ts clause i f _ (omega (arith, grows ts p)) λ n z.
      rw (counting_for p, p' (pull_most (kind_at ts j)) n (omega arith))
  complete (for_is {i} {m} a b c p d q g) = given (complete p) λ p'. given (complete q) λ q'. λ stop f e.
      run ts (read counting) i f _ (omega (arith, grows ts p, grows ts q)) λ n z.
      let o : 1 ≤ n = omega (arith, grows ts p, grows ts q) in
      let x = p' (omega (arith, ap pull d)) n (omega (arith, grows ts q)) in
      let y = finds_until RBRACE q q' g refl n (omega (arith, grows ts p)) o in
      rw (a, b, c, x, d, y)
  complete (bounds_two {i} {m} {j} p h q) = given (complete p) λ p'. given (complete q) λ q'. λ stop f e.
      run ts (read bounds) i f _ (omega (arith, grows ts p, grows ts q)) λ n z.
      let x = plain p p' (omega (arith, range_pulls (kind_at ts m) h)) n (omega (arith, grows ts q)) in
      let y = plain q q' (omega arith) n (omega (arith, grows ts p)) in
      rw (x, h, y, apart pull (kind_at ts j) BY (omega arith))
  complete (bounds_three {i} {m} {k} p h q b r) = given (complete p) λ p'. given (complete q) λ q'. given (complete r) λ r'. λ stop f e.
      run ts (read bounds) i f _ (omega (arith, grows ts p, grows ts q, grows ts r)) λ n z.
      let x = plain p p' (omega (arith, range_pulls (kind_at ts m) h)) n (omega (arith, grows ts q, grows ts r)) in
      let y = plain q q' (omega (arith, ap pull b)) n (omega (arith, grows ts p, grows ts r)) in
      let w = plain r r' (omega arith) n (omega (arith, grows ts p, grows ts q)) in
      rw (x, h, y, b, w)
  complete (item_assign {i} p) = given (complete p) λ p'. λ stop f e.
      run ts clause i f _ (omega (arith, grows ts p)) λ n z.
      rw (
        apart opens (kind_at ts i) LET (omega (arith, starts ts p)),
        apart opens (kind_at ts i) IF (omega (arith, starts ts p)),
        apart opens (kind_at ts i) WHILE (omega (arith, starts ts p)),
        apart opens (kind_at ts i) FOR (omega (arith, starts ts p)),
        p' stop n (omega arith),
      )
  complete (assign_one {i} {j} p) = given (complete p) λ p'. λ stop f e.
      run ts (read assign) i f _ (omega (arith, grows ts p)) λ n z.
      let x = plain p p' (omega arith) n (omega arith) in
      rw (x, apart pull (kind_at ts j) BECOMES (omega arith))
  complete (assign_to {i} {m} p h q) = given (complete p) λ p'. given (complete q) λ q'. λ stop f e.
      run ts (read assign) i f _ (omega (arith, grows ts p, grows ts q)) λ n z.
      let x = plain p p' (omega (arith, ap pull h)) n (omega (arith, grows ts q)) in
      let y = plain q q' (omega arith) n (omega (arith, grows ts p)) in
      rw (x, h, y)
  complete (chain_one {l} {i} p) = given (complete p) λ p'. λ stop b r go f e.
      run ts (read (tier (chain l))) i f r (omega (arith, grows ts p)) λ n z.
      rw (plain p p' (omega (arith, ends_part l)) n (omega arith)) (go n (omega (arith, grows ts p)))
  complete (chain_more {l} {i} {m} {j} {e = left} p h q) = given (complete p) λ p'. given (complete q) λ q'. λ stop b r go f e.
      p' (omega (arith, operator_pulls l (kind_at ts m) h)) (16 * (j - m) + b) r (λ g k.
      run ts (rest l left) m g r (omega (arith, grows ts q)) λ n z.
      let x = plain q q' (omega (arith, ends_part l)) n (omega (arith, rank_low l, grows ts q)) in
      rw (h, x) (go n (omega (arith, grows ts q))))
      f (omega (arith, grows ts q))
  complete (cmp_one {i} {j} p) = given (complete p) λ p'. λ stop f e.
      run ts (read (tier cmp)) i f _ (omega (arith, grows ts p)) λ n z.
      let x = plain p p' (omega arith) n (omega arith) in
      rw (x, no_comparison (kind_at ts j) stop)
  complete (cmp_two {i} {m} p h q) = given (complete p) λ p'. given (complete q) λ q'. λ stop f e.
      run ts (read (tier cmp)) i f _ (omega (arith, grows ts p, grows ts q)) λ n z.
      let x = plain p p' (omega (arith, comparison_pulls (kind_at ts m) h)) n (omega (arith, grows ts q)) in
      let y = plain q q' (omega arith) n (omega (arith, grows ts p)) in
      rw (x, h, y)
  complete (un_prefix {i} h p) = given (complete p) λ p'. λ stop f e.
      run ts (read (tier un)) i f _ (omega (arith, grows ts p)) λ n z.
      rw (h, p' stop n (omega arith))
  complete (un_atom {i} p) = given (complete p) λ p'. λ stop f e.
      run ts (read (tier un)) i f _ (omega (arith, grows ts p)) λ n z.
      rw (no_prefix (kind_at ts i) (starts ts p), p' stop n (omega arith))
  complete (atom_name {i} a) = λ stop f e.
      run ts (read atom) i f _ (omega arith) λ n z.
      rw (a, apart pull (kind_at ts (i + 1)) LPAR (omega arith))
  complete (atom_call {i} a b p) = given (complete p) λ p'. λ stop f e.
      run ts (read atom) i f _ (omega (arith, grows ts p)) λ n z.
      rw (a, b, p' (omega arith) n (omega arith))
  complete (atom_number {i} a) = λ stop f e.
      run ts (read atom) i f _ (omega arith) λ n z.
      rw a
  complete (atom_float {i} a) = λ stop f e.
      run ts (read atom) i f _ (omega arith) λ n z.
      rw a
  complete (atom_constant {i} a) = λ stop f e.
      run ts (read atom) i f _ (omega arith) λ n z.
      rw a
  complete (atom_group {i} a p b) = given (complete p) λ p'. λ stop f e.
      run ts (read atom) i f _ (omega (arith, grows ts p)) λ n z.
      rw (a, finds_until RPAR p p' b refl n (omega arith) (omega (arith, grows ts p)))
  complete (atom_block {i} a p b) = given (complete p) λ p'. λ stop f e.
      run ts (read atom) i f _ (omega (arith, grows ts p)) λ n z.
      rw (a, finds_until RBRACE p p' b refl n (omega arith) (omega (arith, grows ts p)))
  complete (actuals_none {i} a) = λ stop f e.
      run ts (read actuals) i f _ (omega arith) λ n z.
      rw a
  complete (actuals_some {i} {k} p a) = given (complete p) λ p'. λ stop f e.
      run ts (read actuals) i f _ (omega (arith, grows ts p)) λ n z.
      let x = finds_closed p p' a n (omega arith) (omega (arith, grows ts p)) in
      rw (apart opens (kind_at ts i) RPAR (omega (arith, starts ts p)), x)
  complete (args_one {i} {j} p) = given (complete p) λ p'. λ stop f e.
      run ts (read args) i f _ (omega (arith, grows ts p)) λ n z.
      let x = p' (omega arith) n (omega arith) in
      rw (x, apart pull (kind_at ts j) COMMA (omega arith))
  complete (args_more {i} {m} p h q) = given (complete p) λ p'. given (complete q) λ q'. λ stop f e.
      run ts (read args) i f _ (omega (arith, grows ts p, grows ts q)) λ n z.
      let x = p' (omega (arith, ap pull h)) n (omega (arith, grows ts q)) in
      let y = q' stop n (omega (arith, grows ts p)) in
      rw (x, h, y)

  -- a reading by any symbol is found
  pub found : {s : Sym} {i j : ℕ} {x : Of s} → Reads ts s i j x → Found ts s i j x
  found p = plain p (complete p)
