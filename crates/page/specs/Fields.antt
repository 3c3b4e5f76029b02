-- A name and a value on each line: the value of the first line that begins with a name, up to the line's end.
use Rattle.std.specs.Prelude.{eqb, length, take, drop, Bool, true, false, cond, ◌&&◌, List, [], ◌∷◌, ℕ, ℤ, Option, None}
use Rattle.std.proofs.Math.Option as Math
use Rattle.std.proofs.Math.Option.{none, some}
use Prim.Native.Char.{code}
use Rattle.page.specs.Amounts.{number_up_to, amount_in}
use Rattle.page.specs.Lines.{ahead}

unfoldable pub starts_with : List ℕ → List ℕ → Bool
starts_with [] t = true
starts_with (b ∷ n) [] = false
starts_with (b ∷ n) (c ∷ t) = eqb c b && starts_with n t

-- what stands up to the line's end
abbrev pub to_end : List ℕ → List ℕ
to_end t = take (ahead t) t

-- of a text that begins a line, or goes on in one
unfoldable pub value_from : (name : List ℕ) (fresh : Bool) → List ℕ → Math.Option (List ℕ)
value_from name fresh [] = none
value_from name fresh (b ∷ t) =
    cond (fresh && starts_with name (b ∷ t)) (some (to_end (drop (length name) (b ∷ t))))
    (value_from name (eqb b (code "\n")) t)

abbrev pub value_named : List ℕ → List ℕ → Math.Option (List ℕ)
value_named name t = value_from name true t

-- ---- as a number

abbrev pub count_of : ℕ → Math.Option (List ℕ) → Option ℕ
count_of most none = None
count_of most (some w) = number_up_to most w

abbrev pub count_in : ℕ → List ℕ → List ℕ → Option ℕ
count_in most name t = count_of most (value_named name t)

abbrev pub amount_of : Math.Option (List ℕ) → Option ℤ
amount_of none = None
amount_of (some w) = amount_in w

abbrev pub amount_named : List ℕ → List ℕ → Option ℤ
amount_named name t = amount_of (value_named name t)
