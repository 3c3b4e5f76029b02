-- A name, by what was found in sight of it.
use mathlib.Core.List.{List}
use mathlib.Core.Path.{◌≡◌, sym, ap, ◌∙◌}
use Prim.Native.Nat.{ℕ}
use Rattle.std.specs.Prelude.{Option, Some, None, Ok, Err}
use Rattle.layout.specs.Table.{OWN, token_value, row_word}
use Rattle.numbers.specs.declared.Reason.TheVariants.{NoBinding}
use Rattle.rules.specs.Sight.{find_variable}
use Rattle.phrase_types.specs.Inferred.{looked}

module _ (w : List ℕ) (node binds : ℕ) {token number : ℕ} (q : Option ℕ) (e : token ≡ row_word w node OWN) (d : number ≡ token_value w token)
    (h : q ≡ find_variable w number binds) where
  name_search : find_variable w (token_value w (row_word w node OWN)) binds ≡ q
  name_search = ap (λ (x : ℕ). find_variable w x binds) (ap (λ (i : ℕ). token_value w i) (sym e) ∙ sym d) ∙ sym h

  -- a variable was found
  pub name_found : {t : ℕ} → q ≡ Some t
      → Ok t ≡ looked (find_variable w (token_value w (row_word w node OWN)) binds) (row_word w node OWN)
  name_found k = sym (ap (λ o. looked o (row_word w node OWN)) (name_search ∙ k))

  -- or none
  pub name_nowhere : {i : ℕ} → i ≡ row_word w node OWN → q ≡ None
      → Err record { why = NoBinding; place = i }
      ≡ looked (find_variable w (token_value w (row_word w node OWN)) binds) (row_word w node OWN)
  name_nowhere a k =
      ap (λ (i : ℕ). Err record { why = NoBinding; place = i }) a
      ∙ sym (ap (λ o. looked o (row_word w node OWN)) (name_search ∙ k))
