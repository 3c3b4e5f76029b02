-- How a function is found by its name, the newest first, and what its head says of the name.
use mathlib.Core.List.{List}
use Rattle.std.specs.Prelude.{None, Some}
use mathlib.Core.Path.{◌≡◌, refl, sym, ap, subst, ◌∙◌}
use Prim.Native.Nat.{ℕ, suc, ◌+◌, ◌<◌}
use native.Mathlib.Omega.{arith}
use borrow.Author.Tests.{eq-eqb, ne_eqb}
use Rattle.language.specs.Sizes.{TOKENS}
use Rattle.language.specs.Tokens.{Token, spelling_at}
use Rattle.language.specs.Trees.{Name, Def}
use Rattle.layout.specs.Table.{OWN, token_value, row_word, function_row}
use Rattle.layout.specs.Names.{Stand, Named}
use Rattle.layout.specs.Functions.{function_name, Headed, find_function}
use Rattle.layout.specs.Decode.{FunctionAt}
use Rattle.layout.proofs.NameLaws.{name_inside, named_at}

-- ---- a search from the last to the first, step by step

module _ (w : List ℕ) (x : ℕ) {i k : ℕ} (last : i ≡ suc k) where
  -- the last function is the one
  pub function_here : function_name w k ≡ x → find_function w x i ≡ Some (function_row w k)
  unfolding find_function
  function_here e = rw (last, eq-eqb _ _ (sym e)) refl

  -- or it is one of those before
  pub function_past : (function_name w k ≡ x → ⊥) → find_function w x i ≡ find_function w x k
  unfolding find_function
  function_past h = rw (last, ne_eqb _ _ (λ e. h (sym e))) refl

-- no function is left
pub function_none : (w : List ℕ) (x : ℕ) {i : ℕ} → i ≡ 0 → find_function w x i ≡ None
unfolding find_function
function_none w x over = rw over refl

-- ---- heads

-- the token behind a function's `def` is one of the tokens
pub behind_def : (w : List ℕ) {k row def : ℕ} → Headed w k → row ≡ function_row w k → def ≡ row_word w row OWN → def + 1 < TOKENS
behind_def w h e d = let p = d ∙ ap (λ (i : ℕ). row_word w i OWN) e in omega (arith, h.name)

module _ {ts : List Token} {f : ℕ} {w : List ℕ} {count : ℕ} (stand : Stand w count ts) where
  -- a function's name has its number
  pub function_named : {r : ℕ} {d : Def} → FunctionAt f ts w r d → Named ts (token_value w (row_word w r OWN + 1)) d.called
  function_named {r} {d} a =
      let h = named_at stand (d.at + 1) a.name in
      subst (λ (s : Name). Named ts (token_value w (row_word w r OWN + 1)) s) (sym a.called)
      (subst (λ (j : ℕ). Named ts (token_value w (j + 1)) (spelling_at ts (d.at + 1))) (sym a.at) h)

  -- and is a token
  pub function_headed : (n : ℕ) {d : Def} → FunctionAt f ts w (function_row w n) d → n < TOKENS → Headed w n
  function_headed n {d} a l =
      let h = name_inside ts (d.at + 1) a.name in
      record { few = l; row = a.inside; name = omega (arith, a.at, stand.long, stand.few) }
