-- Sizes by how much they have room for; and which refusals are a matter of them (R13.3).
use mathlib.Core.Bool.{Bool, true, false}
use mathlib.Core.Path.{◌≡◌}
use Prim.Native.Nat.{ℕ, ◌+◌, ◌≤◌}
use native.Mathlib.Omega.{arith}
use Rattle.language.specs.Sizes.{Sizes}
use Rattle.language.specs.Text.{Flaw, strange_byte, open_comment, large_number, many_tokens, long_float}
use Rattle.language.specs.Faults.{Reason, no_binding, no_function, wrong_number, wrong_argument, wrong_operand, wrong_operands}
use Rattle.language.specs.Faults.{not_unit, not_bool, not_int, branches_differ, wrong_body, too_many_refs, too_many_functions}
use Rattle.language.specs.Faults.{too_many_parameters, function_twice, parameter_twice}
use Rattle.language.specs.Numbers.{Refusal, short_memory, large_allowance, no_edition, long_source, text, no_reading, types}
use Rattle.language.specs.Numbers.{long_text, not_hexadecimal, wrong_count, not_one_token, endless_node, many_units, Told, passed, refused, stopped}

-- ---- larger

-- τ has room for all that σ has room for
pub record Larger (σ τ : Sizes) : Type 0 where
  pub source : σ.source ≤ τ.source
  pub tokens : σ.tokens ≤ τ.tokens
  pub nodes : σ.nodes ≤ τ.nodes
  pub functions : σ.functions ≤ τ.functions
  pub parameters : σ.parameters ≤ τ.parameters
  pub refs : σ.refs ≤ τ.refs
  pub table : σ.table ≤ τ.table

-- sizes that have room for what either of two has
abbrev pub joint : Sizes → Sizes → Sizes
joint σ τ = record {
  source = σ.source + τ.source;
  tokens = σ.tokens + τ.tokens;
  nodes = σ.nodes + τ.nodes;
  functions = σ.functions + τ.functions;
  parameters = σ.parameters + τ.parameters;
  refs = σ.refs + τ.refs;
  table = σ.table + τ.table;
}

pub joint_left : (σ τ : Sizes) → Larger σ (joint σ τ)
joint_left σ τ = record {
  source = omega arith;
  tokens = omega arith;
  nodes = omega arith;
  functions = omega arith;
  parameters = omega arith;
  refs = omega arith;
  table = omega arith;
}

pub joint_right : (σ τ : Sizes) → Larger τ (joint σ τ)
joint_right σ τ = record {
  source = omega arith;
  tokens = omega arith;
  nodes = omega arith;
  functions = omega arith;
  parameters = omega arith;
  refs = omega arith;
  table = omega arith;
}

-- ---- what is told of sizes

-- a thing of size is not one that is none
pub of_both : {A : Type 0} → true ≡ false → A
of_both e = let z : ◌≡◌ {A = ℕ} 0 1 = cc in absurd (omega arith)

-- 30 and 34
abbrev pub reason_of_size : Reason → Bool
reason_of_size too_many_functions = true
reason_of_size too_many_parameters = true
reason_of_size too_many_refs = true
reason_of_size function_twice = false
reason_of_size parameter_twice = false
reason_of_size no_binding = false
reason_of_size no_function = false
reason_of_size wrong_number = false
reason_of_size wrong_argument = false
reason_of_size wrong_operand = false
reason_of_size wrong_operands = false
reason_of_size not_unit = false
reason_of_size not_bool = false
reason_of_size not_int = false
reason_of_size branches_differ = false
reason_of_size wrong_body = false

-- 14
abbrev pub flaw_of_size : Flaw → Bool
flaw_of_size strange_byte = false
flaw_of_size open_comment = false
flaw_of_size large_number = false
flaw_of_size many_tokens = true
flaw_of_size long_float = false

-- 40, 10 and 44 besides
abbrev pub of_size : Refusal → Bool
of_size short_memory = true
of_size large_allowance = false
of_size no_edition = false
of_size long_source = true
of_size (text f) = flaw_of_size f
of_size no_reading = false
of_size (types r) = reason_of_size r
of_size long_text = true
of_size not_hexadecimal = false
of_size wrong_count = false
of_size not_one_token = false
of_size endless_node = false
of_size many_units = false

abbrev pub told_of_size : Told → Bool
told_of_size passed = false
told_of_size (refused r) = of_size r
told_of_size (stopped s) = false
