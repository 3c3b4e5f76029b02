-- What is claimed of each symbol when its readings are sought by the parser: it is found if the token behind it cannot go on
-- with it and the fuel is enough. Here, too, the parts of productions that have a goal of their own.
use mathlib.Core.Path.{◌≡◌, refl, ap}
use mathlib.Core.List.{List}
use Prim.Native.Nat.{ℕ, zero, suc, ◌+◌, ◌*◌, ◌≤◌, ◌<◌}
use native.Mathlib.Omega.{arith}
use borrow.Author.Tests.{eq-eqb}
use Rattle.language.specs.Tokens.{Token, At, entry, kind_at, THEN, ELSE, IF, REF, SEMI, COLON, RPAR, LBRACE}
use Rattle.language.specs.Trees.{Ty, Exp, branch, Exps}
use Rattle.language.specs.Grammar.{cmp, un, Of, tier, Level, or, and, sum, prod, Sym, program, def, formals, params, type}
use Rattle.language.specs.Grammar.{seq, tail, bound, item, assign, atom, actuals, args, chain, part, Reads, counting, bounds}
use Rattle.language.proofs.Executable.Parses.{Result, got, then, test, look, need}
use Rattle.language.proofs.Executable.Parser.{Goal, Answer, read, rest, refs, clause, until, closed, result, step, parse}
use Rattle.language.proofs.Grammar.FirstTokens.{pull, depth, ends, no_operator, apart, grows}

-- the steps that a symbol may take before its first token is behind it; a clause takes one less than a Tail or an Item
abbrev pub rank : Sym → ℕ
rank program = 15
rank def = 1
rank formals = 2
rank params = 1
rank type = 2
rank seq = 14
rank tail = 14
rank bound = 1
rank item = 14
rank counting = 1
rank bounds = 12
rank assign = 12
rank (tier (chain or)) = 11
rank (tier (chain and)) = 9
rank (tier cmp) = 7
rank (tier (chain sum)) = 6
rank (tier (chain prod)) = 4
rank (tier un) = 2
rank atom = 1
rank actuals = 17
rank args = 15

pub rank_part : (l : Level) → rank (tier (chain l)) ≡ rank (tier (part l)) + 2
rank_part or = refl
rank_part and = refl
rank_part sum = refl
rank_part prod = refl

pub rank_low : (l : Level) → rank (tier (part l)) ≤ 9
rank_low or = omega arith
rank_low and = omega arith
rank_low sum = omega arith
rank_low prod = omega arith

module _ (ts : List Token) where
  -- what is shown of a symbol: it is found with this fuel and with more
  abbrev pub Found : (s : Sym) → ℕ → ℕ → Of s → Type 0
  Found s i j x =
      pull (kind_at ts j) < ends s → (f : ℕ) → 16 * j + rank s ≤ f + 16 * i → parse ts f (read s) i ≡ got x j

  -- of a Tail or an Item: it is found as a clause
  abbrev pub FoundClause : ℕ → ℕ → ℕ → Exp → Type 0
  FoundClause n i j e = pull (kind_at ts j) < n → (f : ℕ) → 16 * j + 13 ≤ f + 16 * i → parse ts f clause i ≡ got e j

  -- of a level: the parser comes to `rest` at the end of the reading; of a type: to `refs`
  abbrev pub Comes : Level → ℕ → ℕ → Exp → Type 0
  Comes l i j e =
      pull (kind_at ts j) ≤ depth l → (b : ℕ) (r : Result Exp) → ((f : ℕ) → b ≤ f → parse ts f (rest l e) j ≡ r)
      → (f : ℕ) → 16 * j + rank (tier (part l)) + 1 + b ≤ f + 16 * i → parse ts f (read (tier (chain l))) i ≡ r

  abbrev pub Types : ℕ → ℕ → Ty → Type 0
  Types i j t =
      (b : ℕ) (r : Result Ty) → ((f : ℕ) → b ≤ f → parse ts f (refs t) j ≡ r)
      → (f : ℕ) → 16 * j + 1 + b ≤ f + 16 * i → parse ts f (read type) i ≡ r

  abbrev pub Claim : (s : Sym) → ℕ → ℕ → Of s → Type 0
  Claim program = Found program
  Claim def = Found def
  Claim formals = Found formals
  Claim params = Found params
  Claim type = Types
  Claim seq = Found seq
  Claim tail = FoundClause (ends tail)
  Claim bound = Found bound
  Claim item = FoundClause (ends item)
  Claim counting = Found counting
  Claim bounds = Found bounds
  Claim assign = Found assign
  Claim (tier (chain l)) = Comes l
  Claim (tier cmp) = Found (tier cmp)
  Claim (tier un) = Found (tier un)
  Claim atom = Found atom
  Claim actuals = Found actuals
  Claim args = Found args

  -- where there is fuel, one step is taken
  pub run : (g : Goal) (i f : ℕ) (r : Result (Answer g)) → 1 ≤ f → ((h : ℕ) → f ≡ suc h → step ts (parse ts h) g i ≡ r) → parse ts f g i ≡ r
  unfolding parse
  run g i zero r e k = absurd (omega arith)
  run g i (suc h) r e k = k h refl

  stop_rest : (l : Level) (e : Exp) (j : ℕ) → pull (kind_at ts j) < depth l → (f : ℕ) → 1 ≤ f → parse ts f (rest l e) j ≡ got e j
  unfolding step look
  stop_rest l e j stop f h = run (rest l e) j f _ h λ n _. rw (no_operator l (kind_at ts j) stop)

  stop_refs : (t : Ty) (j : ℕ) → pull (kind_at ts j) < 9 → (f : ℕ) → 1 ≤ f → parse ts f (refs t) j ≡ got t j
  unfolding step test pull entry
  stop_refs t j stop f h = run (refs t) j f _ h λ n _. rw (apart pull (kind_at ts j) REF (omega arith))

module _ {ts : List Token} where
  pub plain : {s : Sym} {i j : ℕ} {x : Of s} → Reads ts s i j x → Claim ts s i j x → Found ts s i j x
  unfolding step
  plain {s = program} d c = c
  plain {s = def} d c = c
  plain {s = formals} d c = c
  plain {s = params} d c = c
  plain {s = type} {i} {j} {x} d c = λ stop f e. c 1 (got x j) (stop_refs ts x j stop) f (omega arith)
  plain {s = seq} d c = c
  plain {s = tail} {i} d c = λ stop f e. run ts (read tail) i f _ (omega (arith, grows ts d)) λ n z. c stop n (omega arith)
  plain {s = bound} d c = c
  plain {s = item} {i} d c = λ stop f e. run ts (read item) i f _ (omega (arith, grows ts d)) λ n z. c stop n (omega arith)
  plain {s = counting} d c = c
  plain {s = bounds} d c = c
  plain {s = assign} d c = c
  plain {s = tier (chain l)} {i} {j} {x} d c =
      λ stop f e. c (omega arith) 1 (got x j) (stop_rest ts l x j stop) f (omega (arith, rank_part l))
  plain {s = tier cmp} d c = c
  plain {s = tier un} d c = c
  plain {s = atom} d c = c
  plain {s = actuals} d c = c
  plain {s = args} d c = c

  -- the parts of productions that have a goal of their own
  pub finds_until : {i m : ℕ} {e : Exp} (k : ℕ) → Reads ts seq i m e → Found ts seq i m e → At ts m k → pull k ≡ 0
      → (f : ℕ) → 16 * m + 15 ≤ f + 16 * i → 1 ≤ f → parse ts f (until k) i ≡ got e m
  unfolding step then need
  finds_until {i} {m} k d p a t f h o = run ts (until k) i f _ o λ n z. rw (p (omega (arith, ap pull a)) n (omega arith), a, eq-eqb k k refl)

  pub finds_result : (m : ℕ) {k : ℕ} {t : Ty} → At ts m COLON → Reads ts type (m + 1) k t → Found ts type (m + 1) k t → At ts k LBRACE
      → (f : ℕ) → 16 * k + 3 ≤ f + 16 * (m + 1) → 1 ≤ f → parse ts f result m ≡ got t k
  unfolding step then need pull entry
  finds_result m {k} a d p b f h o = run ts result m f _ o λ n z. rw (a, p (omega (arith, ap pull b)) n (omega arith), b)

  pub finds_closed : {i k : ℕ} {es : Exps} → Reads ts args i k es → Found ts args i k es → At ts k RPAR
      → (f : ℕ) → 16 * k + 16 ≤ f + 16 * i → 1 ≤ f → parse ts f closed i ≡ got es (k + 1)
  unfolding step then need pull entry
  finds_closed {i} {k} d p a f h o = run ts closed i f _ o λ n z. rw (p (omega (arith, ap pull a)) n (omega arith), a)

  -- a clause behind which there is no `;` is a Seq
  pub finds_seq : {s : Sym} {x : Of s} {e : Exp} (i j : ℕ) → Reads ts s i j x → FoundClause ts 2 i j e → Found ts seq i j e
  unfolding step then test pull entry
  finds_seq i j d p stop f h =
      run ts (read seq) i f _ (omega (arith, grows ts d)) λ n z.
      rw (p stop n (omega arith), apart pull (kind_at ts j) SEMI (omega arith))

  -- an `if` is found as its last branch is
  pub finds_if : {s : Sym} {x : Of s} {i m k j n : ℕ} {c e f : Exp} → At ts i IF → Reads ts seq (i + 1) m c → Found ts seq (i + 1) m c
      → At ts m THEN → Reads ts seq (m + 1) k e → Found ts seq (m + 1) k e → At ts k ELSE
      → Reads ts s (k + 1) j x → FoundClause ts n (k + 1) j f → FoundClause ts n i j (branch i c e f)
  unfolding step then test pull entry
  finds_if {i = i} a p p' b q q' c r r' stop f h =
      run ts clause i f _ (omega (arith, grows ts p, grows ts q, grows ts r)) λ n z.
      let o : 1 ≤ n = omega (arith, grows ts p, grows ts q, grows ts r) in
      let x = finds_until THEN p p' b refl n (omega (arith, grows ts q, grows ts r)) o in
      let y = finds_until ELSE q q' c refl n (omega (arith, grows ts p, grows ts r)) o in
      let w = r' stop n (omega (arith, grows ts p, grows ts q)) in
      rw (a, x, y, w)
