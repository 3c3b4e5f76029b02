-- A part for each of the parser's goals, made of a few tokens; and how parts go together, whatever they are read as.
use mathlib.Core.Bool.{false}
use mathlib.Core.Path.{◌≡◌, subst}
use mathlib.Core.List.{List, [], ◌∷◌, ◌++◌}
use Prim.Native.Nat.{ℕ, ◌+◌}
use native.Mathlib.Omega.{arith}
use Rattle.language.specs.Tokens.{Token, At, entry, NAME, NUMBER, DEF, LET, IN, WHILE, IF, THEN}
use Rattle.language.specs.Tokens.{ELSE, INT, IS, COLON, LPAR, RPAR, LBRACE, RBRACE, FOR, UPTO}
use Rattle.language.specs.Trees.{Exp, int}
use Rattle.language.specs.Grammar.{Tier, cmp, un, chain, or, and, sum, prod, Sym, tier, program, def, formals, params, type, seq, tail}
use Rattle.language.specs.Grammar.{bound, item, assign, atom, actuals, args, Reads, program_seq, def_is, formals_none, formals_some}
use Rattle.language.specs.Grammar.{params_one, type_basic, seq_tail, seq_item, tail_let, tail_if, let_in, item_if, item_while}
use Rattle.language.specs.Grammar.{item_assign, assign_one, chain_one, cmp_one, un_atom, atom_number, atom_group, atom_block}
use Rattle.language.specs.Grammar.{actuals_none, actuals_some, args_one, item_for, for_is, bounds_two, counting, bounds}
use Rattle.language.proofs.Executable.Parser.{Goal, read, rest, refs, clause, until, closed, result, entire}
use Rattle.language.proofs.Grammar.Prefixes.{Spans}

-- ---- tokens by their kinds

-- the tokens from i up to j are of these kinds
pub data Stand (us : List Token) : ℕ → List ℕ → ℕ → Type 0 where
  stand_end : {i : ℕ} → Stand us i [] i
  stand_next : {i j k : ℕ} {ks : List ℕ} → At us i k → Stand us (i + 1) ks j → Stand us i (k ∷ ks) j

-- the first ones, and the others
pub split : {us : List Token} {j : ℕ} {i : ℕ} (ks ls : List ℕ) → Stand us i (ks ++ ls) j → (m : ℕ) × Stand us i ks m × Stand us m ls j
split {i = i} [] ls s = (i, stand_end, s)
split {i = i} (k ∷ ks) ls (stand_next a s) = let r = split {i = i + 1} ks ls s in (r.0, stand_next a r.1, r.2)

module _ {us : List Token} where
  pub stand_from : {i m j : ℕ} {ks : List ℕ} → i ≡ m → Stand us i ks j → Stand us m ks j
  stand_from {j = j} {ks = ks} e s = subst (λ (z : ℕ). Stand us z ks j) e s

  pub head : {i j k : ℕ} {ks : List ℕ} → Stand us i (k ∷ ks) j → At us i k
  head (stand_next a s) = a

  pub others : {i j k : ℕ} {ks : List ℕ} → Stand us i (k ∷ ks) j → Stand us (i + 1) ks j
  others (stand_next a s) = s

  -- the one behind
  pub second : (i : ℕ) {j k : ℕ} {ks : List ℕ} → Stand us (i + 1) (k ∷ ks) j → Stand us (i + 2) ks j
  second i s = stand_from (omega arith) (others s)

  pub third : (i : ℕ) {j k : ℕ} {ks : List ℕ} → Stand us (i + 2) (k ∷ ks) j → Stand us (i + 3) ks j
  third i s = stand_from (omega arith) (others s)

-- ---- what a goal asks for, whatever it is read as

module _ (us : List Token) where
  -- a part, and a token of kind k behind it, which is passed too
  pub data Ended (s : Sym) (k : ℕ) : ℕ → ℕ → Type 0 where
    ended : {i m : ℕ} → Spans us s i m → At us m k → Ended s k i (m + 1)

  -- a Tail or an Item
  pub data Clause (i j : ℕ) : Type 0 where
    as_tail : Spans us tail i j → Clause i j
    as_item : Spans us item i j → Clause i j

  abbrev pub Fit : Goal → ℕ → ℕ → Type 0
  Fit (read program) i j = Spans us program i j
  Fit (read def) i j = Spans us def i j
  Fit (read formals) i j = Spans us formals i j
  Fit (read params) i j = Spans us params i j
  Fit (read type) i j = Spans us type i j
  Fit (read seq) i j = Spans us seq i j
  Fit (read tail) i j = Clause i j
  Fit (read bound) i j = Spans us bound i j
  Fit (read item) i j = Clause i j
  -- a For is wanted only where any other Item would do
  Fit (read counting) i j = Clause i j
  Fit (read bounds) i j = Spans us bounds i j
  Fit (read assign) i j = Spans us assign i j
  Fit (read (tier t)) i j = Spans us (tier t) i j
  Fit (read atom) i j = Spans us atom i j
  Fit (read actuals) i j = Spans us actuals i j
  Fit (read args) i j = Spans us args i j
  Fit (rest l e) i j = (h : ℕ) → Spans us (tier (chain l)) h i → Spans us (tier (chain l)) h j
  Fit (refs t) i j = (h : ℕ) → Spans us type h i → Spans us type h j
  Fit clause i j = Clause i j
  Fit (until k) i j = Ended seq k i j
  Fit closed i j = Spans us actuals i j
  Fit result i j = At us i COLON × Ended type LBRACE (i + 1) j
  Fit entire i j = Spans us program i j

  -- ---- parts put together

  pub to_def : {i m k j : ℕ} → At us i DEF → At us (i + 1) NAME → At us (i + 2) LPAR → Spans us formals (i + 3) m
      → At us m COLON → Ended type LBRACE (m + 1) k → Ended seq RBRACE k j → Spans us def i j
  to_def a b c p d (ended t e) (ended s f) = (_, def_is a b c p.1 d t.1 e s.1 f)

  pub to_let : {i m j : ℕ} → At us i LET → At us (i + 1) NAME → At us (i + 2) IS → Ended seq IN (i + 3) m → Spans us seq m j
      → Spans us bound i j
  to_let a b c (ended p d) q = (_, let_in a b c p.1 d q.1)

  pub clause_let : {i j : ℕ} → Spans us bound i j → Clause i j
  clause_let p = as_tail (_, tail_let p.1)

  pub clause_assign : {i j : ℕ} → Spans us assign i j → Clause i j
  clause_assign p = as_item (_, item_assign p.1)

  pub clause_seq : {i j : ℕ} → Clause i j → Spans us seq i j
  clause_seq (as_tail p) = (_, seq_tail p.1)
  clause_seq (as_item p) = (_, seq_item p.1)

  pub to_if : {i m k j : ℕ} → At us i IF → Ended seq THEN (i + 1) m → Ended seq ELSE m k → Clause k j → Clause i j
  to_if a (ended p b) (ended q c) (as_tail r) = as_tail (_, tail_if a p.1 b q.1 c r.1)
  to_if a (ended p b) (ended q c) (as_item r) = as_item (_, item_if a p.1 b q.1 c r.1)

  pub to_while : {i m j : ℕ} → At us i WHILE → Ended seq LBRACE (i + 1) m → Ended seq RBRACE m j → Clause i j
  to_while a (ended p b) (ended q c) = as_item (_, item_while a p.1 b q.1 c)

  pub clause_for : {i j : ℕ} → Spans us counting i j → Clause i j
  clause_for p = as_item (_, item_for p.1)

  pub to_for : {i m j : ℕ} → At us i FOR → At us (i + 1) NAME → At us (i + 2) IN → Ended bounds LBRACE (i + 3) m → Ended seq RBRACE m j
      → Spans us counting i j
  to_for a b c (ended p d) (ended q e) = (_, for_is a b c p.1 d q.1 e)

  pub to_group : {i j : ℕ} → At us i LPAR → Ended seq RPAR (i + 1) j → Spans us atom i j
  to_group a (ended p b) = (_, atom_group a p.1 b)

  pub to_block : {i j : ℕ} → At us i LBRACE → Ended seq RBRACE (i + 1) j → Spans us atom i j
  to_block a (ended p b) = (_, atom_block a p.1 b)

  -- a part, and the token that closes it
  pub close : {s : Sym} {i m j k : ℕ} → Spans us s i m → Stand us m (k ∷ []) j → Ended s k i j
  close p (stand_next a stand_end) = ended p a

  pub close_formals : {i j : ℕ} → Ended params RPAR i j → Spans us formals i j
  close_formals (ended p a) = (_, formals_some p.1 a)

  pub close_actuals : {i j : ℕ} → Ended args RPAR i j → Spans us actuals i j
  close_actuals (ended p a) = (_, actuals_some p.1 a)

  -- ---- a part for each goal

  by_tier : {i j : ℕ} {x : Exp} (t : Tier) → Reads us atom i j x → Reads us (tier t) i j x
  by_tier un p = un_atom p
  by_tier (chain prod) p = chain_one (un_atom p)
  by_tier (chain sum) p = chain_one (chain_one (un_atom p))
  by_tier cmp p = cmp_one (chain_one (chain_one (un_atom p)))
  by_tier (chain and) p = chain_one (cmp_one (chain_one (chain_one (un_atom p))))
  by_tier (chain or) p = chain_one (chain_one (cmp_one (chain_one (chain_one (un_atom p)))))

  number_item : {i j : ℕ} {x : Exp} → Reads us atom i j x → Reads us item i j x
  number_item p = item_assign (assign_one (by_tier (chain or) p))

  number_seq : {i j : ℕ} {x : Exp} → Reads us atom i j x → Reads us seq i j x
  number_seq p = seq_item (number_item p)

  number : {i j : ℕ} → Stand us i (NUMBER ∷ []) j → Spans us atom i j
  number (stand_next a stand_end) = (_, atom_number a)

  a_seq : {i j : ℕ} → Stand us i (NUMBER ∷ []) j → Spans us seq i j
  a_seq s = (_, number_seq (number s).1)

  a_type : {i j : ℕ} → Stand us i (INT ∷ []) j → Spans us type i j
  unfolding entry
  a_type {i} (stand_next a stand_end) = (int, type_basic {i = i} {t = int} (rw a))

-- the kinds of its tokens
abbrev pub fresh_of : Sym → List ℕ
fresh_of program = NUMBER ∷ []
fresh_of def = DEF ∷ NAME ∷ LPAR ∷ RPAR ∷ COLON ∷ INT ∷ LBRACE ∷ NUMBER ∷ RBRACE ∷ []
fresh_of formals = RPAR ∷ []
fresh_of params = NAME ∷ COLON ∷ INT ∷ []
fresh_of type = INT ∷ []
fresh_of seq = NUMBER ∷ []
fresh_of tail = NUMBER ∷ []
fresh_of bound = LET ∷ NAME ∷ IS ∷ NUMBER ∷ IN ∷ NUMBER ∷ []
fresh_of item = NUMBER ∷ []
fresh_of counting = NUMBER ∷ []
fresh_of bounds = NUMBER ∷ UPTO ∷ NUMBER ∷ []
fresh_of assign = NUMBER ∷ []
fresh_of (tier t) = NUMBER ∷ []
fresh_of atom = NUMBER ∷ []
fresh_of actuals = RPAR ∷ []
fresh_of args = NUMBER ∷ []

abbrev pub fresh : Goal → List ℕ
fresh (read s) = fresh_of s
fresh (rest l e) = []
fresh (refs t) = []
fresh clause = NUMBER ∷ []
fresh (until k) = NUMBER ∷ k ∷ []
fresh closed = NUMBER ∷ RPAR ∷ []
fresh result = COLON ∷ INT ∷ LBRACE ∷ []
fresh entire = NUMBER ∷ []

module _ (us : List Token) where
  pub fresh_until : {i j : ℕ} (k : ℕ) → Stand us i (NUMBER ∷ k ∷ []) j → Ended us seq k i j
  fresh_until k s = let r = split (NUMBER ∷ []) (k ∷ []) s in close us (a_seq us r.1) r.2

  pub fresh_result : {i j : ℕ} → Stand us i (COLON ∷ INT ∷ LBRACE ∷ []) j → At us i COLON × Ended us type LBRACE (i + 1) j
  fresh_result s = let r = split (INT ∷ []) (LBRACE ∷ []) (others s) in (head s, close us (a_type us r.1) r.2)

  -- what stands behind `def`, a name and `(`
  pub fresh_body : (i : ℕ) {m j : ℕ} → At us i DEF → At us (i + 1) NAME → At us (i + 2) LPAR → Spans us formals (i + 3) m
      → Stand us m (COLON ∷ INT ∷ LBRACE ∷ NUMBER ∷ RBRACE ∷ []) j → Spans us def i j
  fresh_body i a b c p s =
      let r = split (COLON ∷ INT ∷ LBRACE ∷ []) (NUMBER ∷ RBRACE ∷ []) s in
      let t = fresh_result r.1 in
      to_def us a b c p t.0 t.1 (fresh_until RBRACE r.2)

  -- what stands behind `def` and a name; behind `def`
  pub fresh_open : (i : ℕ) {j : ℕ} → At us i DEF → At us (i + 1) NAME
      → Stand us (i + 2) (LPAR ∷ RPAR ∷ COLON ∷ INT ∷ LBRACE ∷ NUMBER ∷ RBRACE ∷ []) j → Spans us def i j
  fresh_open i a b s =
      let r = third i s in
      fresh_body i a b (head s) (_, formals_none (head r)) (others r)

  pub fresh_name : (i : ℕ) {j : ℕ} → At us i DEF
      → Stand us (i + 1) (NAME ∷ LPAR ∷ RPAR ∷ COLON ∷ INT ∷ LBRACE ∷ NUMBER ∷ RBRACE ∷ []) j → Spans us def i j
  fresh_name i a s = fresh_open i a (head s) (second i s)

  -- what stands behind `let`, a name and `=`; behind `let` and a name; behind `let`
  pub fresh_bound : (i : ℕ) {j : ℕ} → At us i LET → At us (i + 1) NAME → At us (i + 2) IS
      → Stand us (i + 3) (NUMBER ∷ IN ∷ NUMBER ∷ []) j → Spans us bound i j
  fresh_bound i a b c s =
      let r = split (NUMBER ∷ IN ∷ []) (NUMBER ∷ []) s in to_let us a b c (fresh_until IN r.1) (a_seq us r.2)

  pub fresh_is : (i : ℕ) {j : ℕ} → At us i LET → At us (i + 1) NAME → Stand us (i + 2) (IS ∷ NUMBER ∷ IN ∷ NUMBER ∷ []) j → Spans us bound i j
  fresh_is i a b s = fresh_bound i a b (head s) (third i s)

  pub fresh_let : (i : ℕ) {j : ℕ} → At us i LET → Stand us (i + 1) (NAME ∷ IS ∷ NUMBER ∷ IN ∷ NUMBER ∷ []) j → Spans us bound i j
  fresh_let i a s = fresh_is i a (head s) (second i s)

  -- what stands behind a parameter's name
  pub fresh_colon : (i : ℕ) {j : ℕ} → At us i NAME → Stand us (i + 1) (COLON ∷ INT ∷ []) j → Spans us params i j
  fresh_colon i a s = (_, params_one a (head s) (a_type us (second i s)).1)

  an_or : {i j : ℕ} → Stand us i (NUMBER ∷ []) j → Spans us (tier (chain or)) i j
  an_or s = (_, by_tier us (chain or) (number us s).1)

  -- what stands behind the start; behind the start and its mark; Bounds
  pub fresh_end : (i : ℕ) {m j : ℕ} → Spans us (tier (chain or)) i m → Stand us m (UPTO ∷ NUMBER ∷ []) j → Spans us bounds i j
  unfolding entry
  fresh_end i {m} p s = (_, bounds_two {b = false} p.1 (rw (head s)) (an_or (others s)).1)

  a_bounds : {i j : ℕ} → Stand us i (NUMBER ∷ UPTO ∷ NUMBER ∷ []) j → Spans us bounds i j
  a_bounds {i} s = let r = split (NUMBER ∷ []) (UPTO ∷ NUMBER ∷ []) s in fresh_end i (an_or r.1) r.2

  -- what stands behind `for`, a name, `in` and Bounds, and so on back to `for`
  pub fresh_for_body : (i : ℕ) {m j : ℕ} → At us i FOR → At us (i + 1) NAME → At us (i + 2) IN → Spans us bounds (i + 3) m
      → Stand us m (LBRACE ∷ NUMBER ∷ RBRACE ∷ []) j → Spans us counting i j
  fresh_for_body i a b c p s =
      let r = split (LBRACE ∷ []) (NUMBER ∷ RBRACE ∷ []) s in to_for us a b c (close us p r.1) (fresh_until RBRACE r.2)

  pub fresh_for_bounds : (i : ℕ) {j : ℕ} → At us i FOR → At us (i + 1) NAME → At us (i + 2) IN
      → Stand us (i + 3) (NUMBER ∷ UPTO ∷ NUMBER ∷ LBRACE ∷ NUMBER ∷ RBRACE ∷ []) j → Spans us counting i j
  fresh_for_bounds i a b c s =
      let r = split (NUMBER ∷ UPTO ∷ NUMBER ∷ []) (LBRACE ∷ NUMBER ∷ RBRACE ∷ []) s in fresh_for_body i a b c (a_bounds r.1) r.2

  pub fresh_for_in : (i : ℕ) {j : ℕ} → At us i FOR → At us (i + 1) NAME
      → Stand us (i + 2) (IN ∷ NUMBER ∷ UPTO ∷ NUMBER ∷ LBRACE ∷ NUMBER ∷ RBRACE ∷ []) j → Spans us counting i j
  fresh_for_in i a b s = fresh_for_bounds i a b (head s) (third i s)

  pub fresh_for : (i : ℕ) {j : ℕ} → At us i FOR
      → Stand us (i + 1) (NAME ∷ IN ∷ NUMBER ∷ UPTO ∷ NUMBER ∷ LBRACE ∷ NUMBER ∷ RBRACE ∷ []) j → Spans us counting i j
  fresh_for i a s = fresh_for_in i a (head s) (second i s)

  a_clause : {i j : ℕ} → Stand us i (NUMBER ∷ []) j → Clause us i j
  a_clause s = as_item (_, number_item us (number us s).1)

  fresh_sym : (s : Sym) {i j : ℕ} → Stand us i (fresh_of s) j → Fit us (read s) i j
  fresh_sym program s = (_, program_seq (a_seq us s).1)
  fresh_sym def {i} s = fresh_name i (head s) (others s)
  fresh_sym formals (stand_next a stand_end) = (_, formals_none a)
  fresh_sym params {i} s = fresh_colon i (head s) (others s)
  fresh_sym type s = a_type us s
  fresh_sym seq s = a_seq us s
  fresh_sym tail s = a_clause s
  fresh_sym bound {i} s = fresh_let i (head s) (others s)
  fresh_sym item s = a_clause s
  fresh_sym counting s = a_clause s
  fresh_sym bounds s = a_bounds s
  fresh_sym assign s = (_, assign_one (by_tier us (chain or) (number us s).1))
  fresh_sym (tier t) s = (_, by_tier us t (number us s).1)
  fresh_sym atom s = number us s
  fresh_sym actuals (stand_next a stand_end) = (_, actuals_none a)
  fresh_sym args s = (_, args_one (a_seq us s).1)

  -- tokens of these kinds are what the goal asks for
  pub fresh_fits : (g : Goal) {i j : ℕ} → Stand us i (fresh g) j → Fit us g i j
  fresh_fits (read s) t = fresh_sym s t
  fresh_fits (rest l e) stand_end = λ h p. p
  fresh_fits (refs u) stand_end = λ h p. p
  fresh_fits clause s = a_clause s
  fresh_fits (until k) s = fresh_until k s
  fresh_fits closed s = let r = split (NUMBER ∷ []) (RPAR ∷ []) s in close_actuals us (close us (_, args_one (a_seq us r.1).1) r.2)
  fresh_fits result s = fresh_result s
  fresh_fits entire s = (_, program_seq (a_seq us s).1)
