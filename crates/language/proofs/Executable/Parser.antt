-- A parser for the grammar. It is vocabulary of the proofs, and defines nothing of the language: what a reading is, the
-- specification says without it. One step of it is written by open recursion; fuel bounds how deep the steps go.
use mathlib.Core.Bool.{Bool}
use mathlib.Core.List.{List, [], ◌∷◌}
use mathlib.Core.Option.{Option}
use Prim.Native.Nat.{ℕ, zero, suc, ◌+◌, ◌*◌}
use lib.ListN.{length}
use lib.Dec.{eqb}
use Rattle.language.specs.Tokens.{Token, Entry, kind_at, value_at, spelling_at, entry, NAME, NUMBER, FLOAT_NUMBER, DEF, LET, IN, WHILE, IF, THEN}
use Rattle.language.specs.Tokens.{ELSE, REF, BECOMES, IS, SEMI, COMMA, COLON, LPAR, RPAR, LBRACE, RBRACE, FOR, BY}
use Rattle.language.specs.Decimals.{float_of}
use Rattle.language.specs.Trees.{Ty, ref, whole, decimal, Binary, Exp, name, literal, unary, binary, follow, group, block, call, bind, branch}
use Rattle.language.specs.Trees.{loop, Exps, last, more, Program, counted}
use Rattle.language.specs.Grammar.{Level, or, sum, cmp, un, chain, Sym, Of, tier, program, def, formals, params, type, seq, tail, bound, item}
use Rattle.language.specs.Grammar.{assign, atom, actuals, args, part, operators, comparisons, prefixes, constants, basics, param, define, before}
use Rattle.language.specs.Grammar.{counting, bounds, ranges, two_parts, three_parts}
use Rattle.language.proofs.Executable.Parses.{Result, failed, got, made, made_past, then, test, look, need}

-- what a step can ask for
pub data Goal : Type 0 where
  -- a symbol
  read : Sym → Goal
  -- the rest of a level, with an expression to the left of the next operator; the rest of a type
  rest : Level → Exp → Goal
  refs : Ty → Goal
  -- what a Seq begins with, a Tail or an Item: which of them it is only its end tells, so both are looked for so
  clause : Goal
  -- a Seq and a token of this kind behind it, at which it stops
  until : ℕ → Goal
  -- Args and `)`
  closed : Goal
  -- `:`, a Type, and `{`, at which it stops
  result : Goal
  -- the Program that the whole list is
  entire : Goal

-- what the answer to it is
abbrev pub Answer : Goal → Type 0
Answer (read s) = Of s
Answer (rest l e) = Exp
Answer (refs t) = Ty
Answer clause = Exp
Answer (until k) = Exp
Answer closed = Exps
Answer result = Ty
Answer entire = Program

module _ (ts : List Token) where
  -- token i is of kind k
  abbrev pub is : ℕ → ℕ → Bool
  is i k = eqb (kind_at ts i) k

  -- what token i stands for by the table
  abbrev pub means : {A : Type 0} → ℕ → List (Entry ℕ A) → Option A
  means i rows = entry rows (kind_at ts i)

  -- one step: the first token decides; `r` answers for the parts
  unfoldable pub step : ((g : Goal) → ℕ → Result (Answer g)) → (g : Goal) → ℕ → Result (Answer g)
  step r (read program) i =
      test (is i DEF) (λ _. then (r (read def) i) λ d m. made (r (read program) m) (before d)) λ _.
      made (r (read seq) i) λ e. record { defs = []; main = e }
  step r (read def) i =
      need (is i DEF) i λ _.
      need (is (i + 1) NAME) (i + 1) λ _.
      need (is (i + 2) LPAR) (i + 2) λ _.
      then (r (read formals) (i + 3)) λ ps m.
      then (r result m) λ t k.
      made_past (r (until RBRACE) (k + 1)) λ e. define ts i ps t (block k e)
  step r (read formals) i =
      test (is i RPAR) (λ _. got [] (i + 1)) λ _.
      then (r (read params) i) λ ps k.
      need (is k RPAR) k λ _.
      got ps (k + 1)
  step r (read params) i =
      need (is i NAME) i λ _.
      need (is (i + 1) COLON) (i + 1) λ _.
      then (r (read type) (i + 2)) λ t m.
      test (is m COMMA) (λ _. made (r (read params) (m + 1)) (◌∷◌ (param ts i t))) λ _.
      got (param ts i t ∷ []) m
  step r (read type) i = look (means i basics) (λ t. r (refs t) (i + 1)) λ _. failed i
  step r (read seq) i =
      then (r clause i) λ e m.
      test (is m SEMI) (λ _. made (r (read seq) (m + 1)) (follow m e)) λ _.
      got e m
  step r (read tail) i = r clause i
  step r (read bound) i =
      need (is i LET) i λ _.
      need (is (i + 1) NAME) (i + 1) λ _.
      need (is (i + 2) IS) (i + 2) λ _.
      then (r (until IN) (i + 3)) λ e m.
      made (r (read seq) (m + 1)) (bind i (spelling_at ts (i + 1)) e)
  step r (read item) i = r clause i
  step r (read counting) i =
      need (is i FOR) i λ _.
      need (is (i + 1) NAME) (i + 1) λ _.
      need (is (i + 2) IN) (i + 2) λ _.
      then (r (read bounds) (i + 3)) λ s m.
      need (is m LBRACE) m λ _.
      made_past (r (until RBRACE) (m + 1)) λ e. counted i (spelling_at ts (i + 1)) s.through s.parts (block m e)
  step r (read bounds) i =
      then (r (read (tier (chain or))) i) λ e m.
      look (means m ranges) (λ b.
      then (r (read (tier (chain or))) (m + 1)) λ f k.
      test (is k BY) (λ _. made (r (read (tier (chain or))) (k + 1)) (three_parts b e f)) λ _.
      got (two_parts b e f) k) λ _.
      failed m
  step r (read assign) i =
      then (r (read (tier (chain or))) i) λ e m.
      test (is m BECOMES) (λ _. made (r (read (tier (chain or))) (m + 1)) (binary m Binary.assign e)) λ _.
      got e m
  step r (read (tier (chain l))) i = then (r (read (tier (part l))) i) λ e m. r (rest l e) m
  step r (read (tier cmp)) i =
      then (r (read (tier (chain sum))) i) λ e m.
      look (means m comparisons) (λ o. made (r (read (tier (chain sum))) (m + 1)) (binary m o e)) λ _.
      got e m
  step r (read (tier un)) i = look (means i prefixes) (λ o. made (r (read (tier un)) (i + 1)) (unary i o)) λ _. r (read atom) i
  step r (read atom) i =
      look (means i constants) (λ l. got (literal i l) (i + 1)) λ _.
      test (is i NUMBER) (λ _. got (literal i (whole (value_at ts i))) (i + 1)) λ _.
      test (is i FLOAT_NUMBER) (λ _. got (literal i (decimal (float_of (spelling_at ts i)))) (i + 1)) λ _.
      test (is i NAME) (λ _.
      test (is (i + 1) LPAR) (λ _. made (r (read actuals) (i + 2)) (call i (spelling_at ts i))) λ _.
      got (name i (spelling_at ts i)) (i + 1)) λ _.
      test (is i LPAR) (λ _. made_past (r (until RPAR) (i + 1)) (group i)) λ _.
      need (is i LBRACE) i λ _.
      made_past (r (until RBRACE) (i + 1)) (block i)
  step r (read actuals) i = test (is i RPAR) (λ _. got last (i + 1)) λ _. r closed i
  step r (read args) i =
      then (r (read seq) i) λ e m.
      test (is m COMMA) (λ _. made (r (read args) (m + 1)) (more e)) λ _.
      got (more e last) m
  step r (rest l e) m =
      look (means m (operators l)) (λ o. then (r (read (tier (part l))) (m + 1)) λ f j. r (rest l (binary m o e f)) j) λ _.
      got e m
  step r (refs t) m = test (is m REF) (λ _. r (refs (ref t)) (m + 1)) λ _. got t m
  step r clause i =
      test (is i LET) (λ _. r (read bound) i) λ _.
      test (is i IF) (λ _.
      then (r (until THEN) (i + 1)) λ c m.
      then (r (until ELSE) (m + 1)) λ e k.
      made (r clause (k + 1)) (branch i c e)) λ _.
      test (is i WHILE) (λ _.
      then (r (until LBRACE) (i + 1)) λ c m.
      made_past (r (until RBRACE) (m + 1)) λ e. loop i c (block m e)) λ _.
      test (is i FOR) (λ _. r (read counting) i) λ _.
      r (read assign) i
  step r (until k) i =
      then (r (read seq) i) λ e m.
      need (is m k) m λ _.
      got e m
  step r closed i =
      then (r (read args) i) λ es k.
      need (is k RPAR) k λ _.
      got es (k + 1)
  step r result i =
      need (is i COLON) i λ _.
      then (r (read type) (i + 1)) λ t k.
      need (is k LBRACE) k λ _.
      got t k
  step r entire i =
      then (r (read program) i) λ p j.
      need (eqb j (length ts)) j λ _.
      got p j

  -- as many steps deep as there is fuel
  unfoldable pub parse : ℕ → (g : Goal) → ℕ → Result (Answer g)
  parse zero g i = failed i
  parse (suc f) g i = step (parse f) g i

  -- the whole list; the fuel is enough for every reading
  unfoldable pub answer : Result Program
  answer = parse (16 * length ts + 16) entire 0
