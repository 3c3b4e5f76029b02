-- Names: the slot that is noted of a name holds what it is bound to, and the function that is noted of a call is the one that is
-- called.
use mathlib.Core.Path.{◌≡◌, refl, sym, ap, subst, ◌∙◌}
use mathlib.Core.Bool.{Bool, true, false, cond}
use mathlib.Core.List.{List, ◌∷◌}
use mathlib.Core.Option.{Option, none, some}
use Rattle.std.specs.Prelude as P
use Prim.Native.Nat.{ℕ, ◌+◌, ◌≤◌, ◌<◌}
use native.Mathlib.Omega.{arith}
use lib.Dec.{eqb}
use lib.ListN.{length}
use borrow.Author.Tests.{ne_eqb}
use Rattle.language.specs.Sizes.{TOKENS}
use Rattle.language.specs.Tokens.{Token, same}
use Rattle.language.specs.Trees.{Name, Def, Scope, empty, push, nearest, PUTCHAR}
use Rattle.language.specs.State as M
use Rattle.language.specs.Meaning.{Fun, putchar, defined, Env}
use Rattle.language.proofs.Meaning.CellTypes.{none_some, some_one}
use Rattle.layout.specs.Names.{Named}
use Rattle.layout.specs.Table.{OWN, token_value, row_word, function_row}
use Rattle.layout.specs.Functions.{function_name, find_function}
use Rattle.layout.specs.Slots.{HELD, value_at}
use Rattle.layout.specs.Notes.{NOBODY, noted}
use Rattle.layout.specs.Resolved.{slot_of, row_or_nobody, callee_row}
use Rattle.layout.proofs.NameLaws.{number_putchar, number_other, named_same}
use Rattle.runner.specs.Trees.{NameAt, Function, Defines, defines_none, defines_more}
use Rattle.runner.specs.Waiting.{Binds, binds_none, binds_name, binds_held}
use Rattle.runner.specs.Standing.{row_noted, callee}

-- no name has the number of a slot in which something waits
not_held : {ts : List Token} → length ts ≤ TOKENS → {n : ℕ} {x : Name} → Named ts n x → n ≡ HELD → ⊥
not_held few {n} {x} h e = by (same x PUTCHAR) refl
  where
    by : (b : Bool) → same x PUTCHAR ≡ b → ⊥
    by true d = omega (arith, number_putchar few h d)
    by false d = omega (arith, (number_other few h d).0)

-- ---- bindings

-- the slot of the nearest binding lies in the frame and holds its value
slot_holds : {ts : List Token} → length ts ≤ TOKENS → {key : ℕ} {x : Name} → Named ts key x → {w : List ℕ} {base : ℕ} {L : List ℕ} {env : Env}
    → Binds ts w base L env → (v : M.Value) → nearest x env ≡ some v
    → (slot_of key L < length L) × (value_at w 0 (base + slot_of key L) ≡ v)
unfolding nearest slot_of
slot_holds few h binds_none v e = absurd (none_some e)
slot_holds few {key} {x} h {w} {base} (binds_name {n = n} {x = y} {L = L} {env = env} {v = u} m d b) v e =
    by (eqb key n) refl (λ q. slot_holds few h b v q)
  where
    by : (t : Bool) → eqb key n ≡ t → (nearest x env ≡ some v → (slot_of key L < length L) × (value_at w 0 (base + slot_of key L) ≡ v))
        → (slot_of key (n ∷ L) < length (n ∷ L)) × (value_at w 0 (base + slot_of key (n ∷ L)) ≡ v)
    by true z ih =
        let g : same x y ≡ true = sym (named_same few h m) ∙ z in
        let f : ◌≡◌ {A = Option M.Value} (some u) (some v) = rw g at e in
        rw z (omega arith, d ∙ some_one f)
    by false z ih =
        let g : same x y ≡ false = sym (named_same few h m) ∙ z in
        let f : nearest x env ≡ some v = rw g at e in
        let r = ih f in
        rw z (omega (arith, r.0), r.1)
slot_holds few {key} h (binds_held {L = L} b) v e =
    let r = slot_holds few h b v e in
    let z : eqb key HELD ≡ false = ne_eqb key HELD (not_held few h) in
    rw z (omega (arith, r.0), r.1)

-- the slot that is noted of a name's token
pub noted_holds : {ts : List Token} {t : List ℕ} → length ts ≤ TOKENS → {i : ℕ} {x : Name} → NameAt ts t i x → {w : List ℕ} {base : ℕ} {L : List ℕ}
    {env : Env} → Binds ts w base L env → noted t i ≡ slot_of (token_value t i) L → (v : M.Value) → nearest x env ≡ some v
    → (noted t i < length L) × (value_at w 0 (base + noted t i) ≡ v)
noted_holds few n {w} {base} b p v e =
    let r = slot_holds few n.named b v e in
    (omega (arith, p, r.0), ap (λ (k : ℕ). value_at w 0 (base + k)) p ∙ r.1)

-- ---- functions

-- what the table says of the function that is called
pub data Calls (ts : List Token) (t : List ℕ) (defs : ℕ) : P.Option ℕ → Option Fun → Type 0 where
  calls_putchar : {o : Option Fun} → o ≡ some putchar → Calls ts t defs P.None o
  calls_nobody : {o : Option Fun} → o ≡ none → Calls ts t defs P.None o
  calls_function : {row : ℕ} {o : Option Fun} (f : Def) → Function ts t defs row f → o ≡ some (defined f.params f.body)
      → Calls ts t defs (P.Some row) o

module _ {ts : List Token} {t : List ℕ} {defs : ℕ} (few : length ts ≤ TOKENS) {key : ℕ} {x : Name} (h : Named ts key x) where
  first_calls : Calls ts t defs P.None (nearest x (push PUTCHAR putchar empty))
  unfolding nearest
  first_calls = by (same x PUTCHAR) refl
    where
      by : (b : Bool) → same x PUTCHAR ≡ b → Calls ts t defs P.None (cond (same x PUTCHAR) (some putchar) none)
      by true e = calls_putchar {o = cond (same x PUTCHAR) (some putchar) none} (rw e refl)
      by false e = calls_nobody {o = cond (same x PUTCHAR) (some putchar) none} (rw e refl)

  pub calls_of : {n : ℕ} {fs : Scope Fun} → Defines ts t defs n fs → Calls ts t defs (find_function t key n) (nearest x fs)
  unfolding find_function nearest
  calls_of defines_none = first_calls
  calls_of (defines_more {n = n} {fs = fs} {f = f} hd m g rest) = by (eqb key (function_name t n)) refl (calls_of rest)
    where
      by : (b : Bool) → eqb key (function_name t n) ≡ b → Calls ts t defs (find_function t key n) (nearest x fs)
          → Calls ts t defs (cond (eqb key (function_name t n)) (P.Some (function_row t n)) (find_function t key n))
          (cond (same x f.called) (some (defined f.params f.body)) (nearest x fs))
      by true e ih = rw (e, sym (named_same few h m) ∙ e) (calls_function f g refl)
      by false e ih = rw (e, sym (named_same few h m) ∙ e) ih

  -- what is noted of the call
  row_back : {found : P.Option ℕ} {o : Option Fun} → Calls ts t defs found o → row_noted (row_or_nobody found) ≡ found
  row_back (calls_putchar e) = refl
  row_back (calls_nobody e) = refl
  row_back (calls_function {row = row} f g e) = rw (ne_eqb row NOBODY (λ z. omega (arith, g.inside))) refl

  pub noted_calls : {fs : Scope Fun} → Defines ts t defs defs fs → {n : ℕ} → n ≡ callee_row t defs key → Calls ts t defs (row_noted n) (nearest x fs)
  unfolding callee_row
  noted_calls {fs} def e =
      let c = calls_of def in
      subst (λ (f : P.Option ℕ). Calls ts t defs f (nearest x fs)) (sym (ap row_noted e ∙ row_back c)) c

-- ---- as the code reads it

module _ (t : List ℕ) (node : ℕ) {own row : ℕ} (e : own ≡ row_word t node OWN) (f : row ≡ noted t own) where
  pub nobody_noted : row ≡ NOBODY → P.None ≡ callee t node
  nobody_noted g = ap row_noted (sym g ∙ f ∙ ap (λ (n : ℕ). noted t n) e)

  pub function_noted : (row ≡ NOBODY → ⊥) → P.Some row ≡ callee t node
  function_noted g =
      let z : row_noted row ≡ P.Some row = rw (ne_eqb row NOBODY g) refl in
      sym z ∙ ap row_noted (f ∙ ap (λ (n : ℕ). noted t n) e)
