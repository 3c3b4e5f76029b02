-- The grammar (S022 to S043, with R05.2), as a relation: `Reads ts s i j x` says that the tokens of ts from i up to j,
-- j not among them, are read by the symbol s as x. One constructor for each production, in the order of the paper.
use Rattle.std.specs.Prelude.{Bool, true, false, List, [], ◌∷◌, ℕ, ◌+◌, length}
use Rattle.language.specs.Tokens.{Token, Entry, ◌is◌, At, Means, value_at, spelling_at}
use Rattle.language.specs.Tokens.{NAME, NUMBER, FLOAT_NUMBER, FLOAT, DEF, LET, IN, WHILE}
use Rattle.language.specs.Tokens.{IF, THEN, ELSE, REF, NOT, INT, BOOL, TRUE, FALSE, UNIT}
use Rattle.language.specs.Tokens.{TT, PLUS, MINUS, STAR, SLASH, AND, OR, LESS, EQUAL}
use Rattle.language.specs.Tokens.{BECOMES, IS, BANG, SEMI, COMMA, COLON, LPAR}
use Rattle.language.specs.Tokens.{RPAR, LBRACE, RBRACE, FOR, BY, UPTO, THROUGH}
use Rattle.language.specs.Decimals.{float_of}
use Rattle.language.specs.Trees.{Ty, int, bool, unit, float, ref, Literal, whole, truth}
use Rattle.language.specs.Trees.{trivial, decimal, Unary, minus, not, fetch, new, Binary}
use Rattle.language.specs.Trees.{add, sub, mul, div, less, equal, Exp, name, literal}
use Rattle.language.specs.Trees.{unary, binary, follow, group, block, call, bind, branch}
use Rattle.language.specs.Trees.{loop, Exps, last, more, Param, Def, Program, counted}

-- ---- the symbols

-- the levels whose operators repeat, the loosest first
pub data Level : Type 0 where
  or and sum prod : Level

-- a level as a whole, Cmp, and Un
pub data Tier : Type 0 where
  chain : Level → Tier
  cmp un : Tier

-- Formals and Actuals are what Def and a call have between their parentheses, the closing one included; Params and
-- Args are these where there is one at least
pub data Sym : Type 0 where
  program def formals params type seq tail bound item counting bounds assign atom actuals args : Sym
  tier : Tier → Sym

-- what Bounds is read as: whether the end is a pass too, and start, end and maybe step
pub record Span : Type 0 where
  pub through : Bool
  pub parts : Exps

-- what a symbol is read as
abbrev pub Of : Sym → Type 0
Of program = Program
Of def = Def
Of formals = List Param
Of params = List Param
Of type = Ty
Of seq = Exp
Of tail = Exp
Of bound = Exp
Of item = Exp
Of counting = Exp
Of bounds = Span
Of assign = Exp
Of atom = Exp
Of actuals = Exps
Of args = Exps
Of (tier l) = Exp

-- ---- what single tokens stand for

-- what a level's operators join, and the operators
abbrev pub part : Level → Tier
part or = chain and
part and = cmp
part sum = chain prod
part prod = un

abbrev pub operators : Level → List (Entry ℕ Binary)
operators or = OR is Binary.or ∷ []
operators and = AND is Binary.and ∷ []
operators sum = PLUS is add ∷ MINUS is sub ∷ []
operators prod = STAR is mul ∷ SLASH is div ∷ []

abbrev pub comparisons : List (Entry ℕ Binary)
comparisons = LESS is less ∷ EQUAL is equal ∷ []

abbrev pub prefixes : List (Entry ℕ Unary)
prefixes = MINUS is minus ∷ NOT is not ∷ BANG is fetch ∷ REF is new ∷ []

abbrev pub constants : List (Entry ℕ Literal)
constants = TRUE is truth true ∷ FALSE is truth false ∷ TT is trivial ∷ []

abbrev pub basics : List (Entry ℕ Ty)
basics = INT is int ∷ BOOL is bool ∷ UNIT is unit ∷ FLOAT is float ∷ []

-- whether the end is a pass too (R12.6)
abbrev pub ranges : List (Entry ℕ Bool)
ranges = UPTO is false ∷ THROUGH is true ∷ []

abbrev pub two_parts : Bool → Exp → Exp → Span
two_parts b e f = record { through = b; parts = more e (more f last) }

abbrev pub three_parts : Bool → Exp → Exp → Exp → Span
three_parts b e f g = record { through = b; parts = more e (more f (more g last)) }

-- ---- what Def, its parameters and Program put together

abbrev pub param : List Token → ℕ → Ty → Param
param ts i t = record { at = i; called = spelling_at ts i; type = t }

abbrev pub define : List Token → ℕ → List Param → Ty → Exp → Def
define ts i ps t b = record {
  at = i;
  named = i + 1;
  called = spelling_at ts (i + 1);
  params = ps;
  result = t;
  body = b;
}

abbrev pub before : Def → Program → Program
before d p = record { defs = d ∷ p.defs; main = p.main }

-- ---- the productions

pub data Reads (ts : List Token) : (s : Sym) → ℕ → ℕ → Of s → Type 0 where
  -- Program (S022): Def again and again, then Seq
  program_seq : {i j : ℕ} {e : Exp} → Reads ts seq i j e → Reads ts program i j record { defs = []; main = e }
  program_def : {i m j : ℕ} {d : Def} {p : Program}
      → Reads ts def i m d → Reads ts program m j p → Reads ts program i j (before d p)
  -- Def (S023)
  def_is : {i m k n : ℕ} {ps : List Param} {t : Ty} {e : Exp}
      → At ts i DEF → At ts (i + 1) NAME → At ts (i + 2) LPAR → Reads ts formals (i + 3) m ps
      → At ts m COLON → Reads ts type (m + 1) k t → At ts k LBRACE → Reads ts seq (k + 1) n e → At ts n RBRACE
      → Reads ts def i (n + 1) (define ts i ps t (block k e))
  formals_none : {i : ℕ} → At ts i RPAR → Reads ts formals i (i + 1) []
  formals_some : {i k : ℕ} {ps : List Param} → Reads ts params i k ps → At ts k RPAR → Reads ts formals i (k + 1) ps
  params_one : {i j : ℕ} {t : Ty}
      → At ts i NAME → At ts (i + 1) COLON → Reads ts type (i + 2) j t → Reads ts params i j (param ts i t ∷ [])
  params_more : {i m j : ℕ} {t : Ty} {ps : List Param}
      → At ts i NAME → At ts (i + 1) COLON → Reads ts type (i + 2) m t → At ts m COMMA → Reads ts params (m + 1) j ps
      → Reads ts params i j (param ts i t ∷ ps)
  -- Type (S024, R08.1)
  type_basic : {i : ℕ} {t : Ty} → Means ts i basics t → Reads ts type i (i + 1) t
  type_ref : {i m : ℕ} {t : Ty} → Reads ts type i m t → At ts m REF → Reads ts type i (m + 1) (ref t)
  -- Seq (S025, R05.2): `;` associates to the right
  seq_tail : {i j : ℕ} {e : Exp} → Reads ts tail i j e → Reads ts seq i j e
  seq_item : {i j : ℕ} {e : Exp} → Reads ts item i j e → Reads ts seq i j e
  seq_more : {i m j : ℕ} {e f : Exp}
      → Reads ts item i m e → At ts m SEMI → Reads ts seq (m + 1) j f → Reads ts seq i j (follow m e f)
  -- Tail (R05.2): what ends in a Let, which ends its Seq
  tail_let : {i j : ℕ} {e : Exp} → Reads ts bound i j e → Reads ts tail i j e
  tail_if : {i m k j : ℕ} {c e f : Exp}
      → At ts i IF → Reads ts seq (i + 1) m c → At ts m THEN → Reads ts seq (m + 1) k e
      → At ts k ELSE → Reads ts tail (k + 1) j f → Reads ts tail i j (branch i c e f)
  -- Let (S026)
  let_in : {i m j : ℕ} {e f : Exp}
      → At ts i LET → At ts (i + 1) NAME → At ts (i + 2) IS → Reads ts seq (i + 3) m e
      → At ts m IN → Reads ts seq (m + 1) j f → Reads ts bound i j (bind i (spelling_at ts (i + 1)) e f)
  -- Item (S027)
  item_if : {i m k j : ℕ} {c e f : Exp}
      → At ts i IF → Reads ts seq (i + 1) m c → At ts m THEN → Reads ts seq (m + 1) k e
      → At ts k ELSE → Reads ts item (k + 1) j f → Reads ts item i j (branch i c e f)
  item_while : {i m k : ℕ} {c e : Exp}
      → At ts i WHILE → Reads ts seq (i + 1) m c → At ts m LBRACE → Reads ts seq (m + 1) k e → At ts k RBRACE
      → Reads ts item i (k + 1) (loop i c (block m e))
  -- For (R12.3, R12.8), with its Bounds
  item_for : {i j : ℕ} {e : Exp} → Reads ts counting i j e → Reads ts item i j e
  for_is : {i m k : ℕ} {r : Span} {e : Exp}
      → At ts i FOR → At ts (i + 1) NAME → At ts (i + 2) IN → Reads ts bounds (i + 3) m r → At ts m LBRACE
      → Reads ts seq (m + 1) k e → At ts k RBRACE
      → Reads ts counting i (k + 1) (counted i (spelling_at ts (i + 1)) r.through r.parts (block m e))
  bounds_two : {i m j : ℕ} {b : Bool} {e f : Exp}
      → Reads ts (tier (chain or)) i m e → Means ts m ranges b → Reads ts (tier (chain or)) (m + 1) j f
      → Reads ts bounds i j (two_parts b e f)
  bounds_three : {i m k j : ℕ} {b : Bool} {e f g : Exp}
      → Reads ts (tier (chain or)) i m e → Means ts m ranges b → Reads ts (tier (chain or)) (m + 1) k f
      → At ts k BY → Reads ts (tier (chain or)) (k + 1) j g → Reads ts bounds i j (three_parts b e f g)
  item_assign : {i j : ℕ} {e : Exp} → Reads ts assign i j e → Reads ts item i j e
  -- Assign (S028, S040): `:=` does not chain
  assign_one : {i j : ℕ} {e : Exp} → Reads ts (tier (chain or)) i j e → Reads ts assign i j e
  assign_to : {i m j : ℕ} {e f : Exp}
      → Reads ts (tier (chain or)) i m e → At ts m BECOMES → Reads ts (tier (chain or)) (m + 1) j f
      → Reads ts assign i j (binary m Binary.assign e f)
  -- Or, And, Sum, Prod (S029, S030, S032, S033): these associate to the left (S039)
  chain_one : {l : Level} {i j : ℕ} {e : Exp} → Reads ts (tier (part l)) i j e → Reads ts (tier (chain l)) i j e
  chain_more : {l : Level} {i m j : ℕ} {o : Binary} {e f : Exp}
      → Reads ts (tier (chain l)) i m e → Means ts m (operators l) o → Reads ts (tier (part l)) (m + 1) j f
      → Reads ts (tier (chain l)) i j (binary m o e f)
  -- Cmp (S031)
  cmp_one : {i j : ℕ} {e : Exp} → Reads ts (tier (chain sum)) i j e → Reads ts (tier cmp) i j e
  cmp_two : {i m j : ℕ} {o : Binary} {e f : Exp}
      → Reads ts (tier (chain sum)) i m e → Means ts m comparisons o → Reads ts (tier (chain sum)) (m + 1) j f
      → Reads ts (tier cmp) i j (binary m o e f)
  -- Un (S034)
  un_prefix : {i j : ℕ} {o : Unary} {e : Exp}
      → Means ts i prefixes o → Reads ts (tier un) (i + 1) j e → Reads ts (tier un) i j (unary i o e)
  un_atom : {i j : ℕ} {e : Exp} → Reads ts atom i j e → Reads ts (tier un) i j e
  -- Atom (S035): the parentheses of a call are its own and make no Group
  atom_name : {i : ℕ} → At ts i NAME → Reads ts atom i (i + 1) (name i (spelling_at ts i))
  atom_call : {i j : ℕ} {es : Exps}
      → At ts i NAME → At ts (i + 1) LPAR → Reads ts actuals (i + 2) j es
      → Reads ts atom i j (call i (spelling_at ts i) es)
  atom_number : {i : ℕ} → At ts i NUMBER → Reads ts atom i (i + 1) (literal i (whole (value_at ts i)))
  -- R08.3
  atom_float : {i : ℕ} → At ts i FLOAT_NUMBER
      → Reads ts atom i (i + 1) (literal i (decimal (float_of (spelling_at ts i))))
  atom_constant : {i : ℕ} {l : Literal} → Means ts i constants l → Reads ts atom i (i + 1) (literal i l)
  atom_group : {i k : ℕ} {e : Exp}
      → At ts i LPAR → Reads ts seq (i + 1) k e → At ts k RPAR → Reads ts atom i (k + 1) (group i e)
  atom_block : {i k : ℕ} {e : Exp}
      → At ts i LBRACE → Reads ts seq (i + 1) k e → At ts k RBRACE → Reads ts atom i (k + 1) (block i e)
  actuals_none : {i : ℕ} → At ts i RPAR → Reads ts actuals i (i + 1) last
  actuals_some : {i k : ℕ} {es : Exps} → Reads ts args i k es → At ts k RPAR → Reads ts actuals i (k + 1) es
  args_one : {i j : ℕ} {e : Exp} → Reads ts seq i j e → Reads ts args i j (more e last)
  args_more : {i m j : ℕ} {e : Exp} {es : Exps}
      → Reads ts seq i m e → At ts m COMMA → Reads ts args (m + 1) j es → Reads ts args i j (more e es)

-- the whole list is read as the program p
abbrev pub Reading : List Token → Program → Type 0
Reading ts p = Reads ts program 0 (length ts) p
