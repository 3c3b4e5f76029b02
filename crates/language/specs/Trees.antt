-- Readings as trees (S042, S043). Each node holds first the ordinal of its own token; names are kept by their spelling.
use Rattle.std.specs.Prelude.{Bool, cond, List, [], ◌∷◌, ℕ, suc, ◌+◌, Float}
use Rattle.std.proofs.Math.Option.{Option, none, some}
use Rattle.language.specs.Tokens.{Spelling, spell, same}

abbrev pub Name : Type 0
Name = Spelling

-- ---- types

pub data Ty : Type 0 where
  int bool unit float : Ty
  ref : Ty → Ty
  deriving Discrete as TyDiscrete

-- how many `ref` a type has
unfoldable pub refs : Ty → ℕ
refs int = 0
refs bool = 0
refs unit = 0
refs float = 0
refs (ref t) = suc (refs t)

-- ---- expressions

pub data Literal : Type 0 where
  whole : ℕ → Literal
  truth : Bool → Literal
  trivial : Literal
  -- a float number, by what it is worth
  decimal : Float → Literal

-- - not ! ref
pub data Unary : Type 0 where
  minus not fetch new : Unary

-- + - * / < == && || :=
pub data Binary : Type 0 where
  add sub mul div less equal and or assign : Binary

mutual
  pub data Exp : Type 0 where
    name : ℕ → Name → Exp
    literal : ℕ → Literal → Exp
    unary : ℕ → Unary → Exp → Exp
    binary : ℕ → Binary → Exp → Exp → Exp
    -- one expression, `;`, another
    follow : ℕ → Exp → Exp → Exp
    group block : ℕ → Exp → Exp
    call : ℕ → Name → Exps → Exp
    -- let, if, while
    bind : ℕ → Name → Exp → Exp → Exp
    branch : ℕ → Exp → Exp → Exp → Exp
    loop : ℕ → Exp → Exp → Exp
    -- for: its name, whether its end is a pass too, start and end and maybe step, its body
    counted : ℕ → Name → Bool → Exps → Exp → Exp

  -- the arguments of a call; start and end, and maybe the step, of a `for`
  pub data Exps : Type 0 where
    last : Exps
    more : Exp → Exps → Exps

-- S042: the ordinal of a node's own token
unfoldable pub own : Exp → ℕ
own (name i x) = i
own (literal i l) = i
own (unary i o e) = i
own (binary i o e f) = i
own (follow i e f) = i
own (group i e) = i
own (block i e) = i
own (call i f es) = i
own (bind i x e f) = i
own (branch i c e f) = i
own (loop i c e) = i
own (counted i x b es e) = i

-- ---- programs

-- a parameter, at its name
pub record Param : Type 0 where
  pub at : ℕ
  pub called : Name
  pub type : Ty

-- a function, at its `def`, and where its name stands; its body is a Block
pub record Def : Type 0 where
  pub at : ℕ
  pub named : ℕ
  pub called : Name
  pub params : List Param
  pub result : Ty
  pub body : Exp

pub record Program : Type 0 where
  pub defs : List Def
  pub main : Exp

-- ---- how many nodes a reading has: never more than tokens (R02.2)

unfoldable mutual
  pub nodes : Exp → ℕ
  nodes (name i x) = 1
  nodes (literal i l) = 1
  nodes (unary i o e) = 1 + nodes e
  nodes (binary i o e f) = 1 + nodes e + nodes f
  nodes (follow i e f) = 1 + nodes e + nodes f
  nodes (group i e) = 1 + nodes e
  nodes (block i e) = 1 + nodes e
  nodes (call i f es) = 1 + all_nodes es
  nodes (bind i x e f) = 1 + nodes e + nodes f
  nodes (branch i c e f) = 1 + nodes c + nodes e + nodes f
  nodes (loop i c e) = 1 + nodes c + nodes e
  nodes (counted i x b es e) = 1 + all_nodes es + nodes e

  pub all_nodes : Exps → ℕ
  all_nodes last = 0
  all_nodes (more e es) = nodes e + all_nodes es

unfoldable pub def_nodes : List Def → ℕ
def_nodes [] = 0
def_nodes (d ∷ ds) = nodes d.body + def_nodes ds

unfoldable pub program_nodes : Program → ℕ
program_nodes p = def_nodes p.defs + nodes p.main

-- ---- names and what they are bound to, the nearest binding first (S047)

pub data Scope (A : Type 0) : Type 0 where
  empty : Scope A
  push : Name → A → Scope A → Scope A

unfoldable pub nearest : {A : Type 0} → Name → Scope A → Option A
nearest x empty = none
nearest x (push y a r) = cond (same x y) (some a) (nearest x r)

unfoldable pub size : {A : Type 0} → Scope A → ℕ
size empty = 0
size (push x a r) = suc (size r)

abbrev pub PUTCHAR : Name
PUTCHAR = spell "putchar"
