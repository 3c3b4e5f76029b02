-- What the parser has passed when it fails begins what its goal asks for: how this is said, and how it goes from parts to the
-- whole.
use mathlib.Core.Path.{◌≡◌, refl, ap}
use mathlib.Core.Bool.{Bool, true, false, ◌&&◌}
use mathlib.Core.List.{List, [], ◌++◌}
use mathlib.Core.Option.{Option, none, some}
use Prim.Native.Nat.{ℕ, ◌≤◌}
use native.Mathlib.Omega.{arith}
use lib.ListN.{length}
use Rattle.language.specs.Tokens.{Token}
use Rattle.language.specs.Grammar.{Sym, tier, program, def, formals, params, type, seq, tail}
use Rattle.language.specs.Grammar.{bound, item, assign, atom, actuals, args, counting, bounds}
use Rattle.language.proofs.Grammar.Prefixes.{Alike}
use Rattle.language.proofs.Executable.Parses.{Result, failed, got, made, made_past, then, test, look, need}
use Rattle.language.proofs.Executable.Parser.{Goal, read, rest, refs, clause, until, closed, result, entire, parse}
use Rattle.language.proofs.Executable.Fresh.{Stand, stand_end, split, Fit, fresh_of, fresh, fresh_fits}
use Rattle.language.proofs.Executable.Usable.{usable, all_usable, usable_both, usable_one, usable_append, looped}

-- ---- where a result failed, P holds

pub data Fails {A : Type 0} (P : ℕ → Type 0) : Result A → Type 0 where
  fails : {k : ℕ} → P k → Fails P (failed k)
  fine : {x : A} {j : ℕ} → Fails P (got x j)

module _ {P Q : ℕ → Type 0} {A : Type 0} where
  pub fails_same : {r : Result A} → Fails P r → ((k : ℕ) → P k → Q k) → Fails Q r
  fails_same (fails {k} p) f = fails (f k p)
  fails_same fine f = fine

  pub fails_made : {B : Type 0} {r : Result A} (g : A → B) → Fails P r → ((k : ℕ) → P k → Q k) → Fails Q (made r g)
  fails_made g (fails {k} p) f = fails (f k p)
  fails_made g fine f = fine

  pub fails_past : {B : Type 0} {r : Result A} (g : A → B) → Fails P r → ((k : ℕ) → P k → Q k) → Fails Q (made_past r g)
  fails_past g (fails {k} p) f = fails (f k p)
  fails_past g fine f = fine

  pub fails_then : {B : Type 0} {r : Result A} (g : A → ℕ → Result B) → Fails P r → ((k : ℕ) → P k → Q k)
      → ((x : A) (j : ℕ) → r ≡ got x j → Fails Q (g x j)) → Fails Q (then r g)
  unfolding then
  fails_then g (fails {k} p) f n = fails (f k p)
  fails_then g (fine {x} {j}) f n = n x j refl

module _ {Q : ℕ → Type 0} {A : Type 0} where
  pub fails_test : (b : Bool) (x y : Unit {0} → Result A) → (b ≡ true → Fails Q (x tt)) → (b ≡ false → Fails Q (y tt)) → Fails Q (test b x y)
  unfolding test
  fails_test true x y f g = f refl
  fails_test false x y f g = g refl

  pub fails_look : {B : Type 0} (o : Option B) (x : B → Result A) (y : Unit {0} → Result A) → ((b : B) → o ≡ some b → Fails Q (x b))
      → (o ≡ none → Fails Q (y tt)) → Fails Q (look o x y)
  unfolding look
  fails_look (some b) x y f g = f b refl
  fails_look none x y f g = g refl

  pub fails_need : (b : Bool) (k : ℕ) (x : Unit {0} → Result A) → (b ≡ false → Q k) → (b ≡ true → Fails Q (x tt)) → Fails Q (need b k x)
  unfolding need
  fails_need true k x f g = g refl
  fails_need false k x f g = fails (f refl)

module _ (ts : List Token) where
  -- ---- the tokens from i up to e begin what a goal asks for

  -- with tokens of these kinds from e on, and tokens of the same kinds before, it is met
  pub record Can (g : Goal) (i e : ℕ) : Type 0 where
    pub kinds : List ℕ
    pub known : all_usable (looped ts e) kinds ≡ true
    pub fits : (us : List Token) (j : ℕ) → Alike ts us e → Stand us e kinds j → Fit us g i j

  pub record Stop (g : Goal) (i e : ℕ) : Type 0 where
    pub after : i ≤ e
    pub before : e ≤ length ts
    pub can : Can g i e

  abbrev Makes : Goal → ℕ → ℕ → List ℕ → Type 0
  Makes g i e ks = (us : List Token) (j : ℕ) → Alike ts us e → Stand us e ks j → Fit us g i j

  pub stop : (g : Goal) (i e : ℕ) (ks : List ℕ) → all_usable (looped ts e) ks ≡ true → i ≤ e → e ≤ length ts → Makes g i e ks → Stop g i e
  stop g i e ks u h l f = record { after = h; before = l; can = record { kinds = ks; known = u; fits = f } }

  -- a goal that is begun at i can be completed by usable tokens: Bounds only behind a `for`
  abbrev pub ready : Goal → ℕ → Bool
  ready (read bounds) i = looped ts i
  ready (until k) i = usable false k
  ready (read program) i = true
  ready (read def) i = true
  ready (read formals) i = true
  ready (read params) i = true
  ready (read type) i = true
  ready (read seq) i = true
  ready (read tail) i = true
  ready (read bound) i = true
  ready (read item) i = true
  ready (read counting) i = true
  ready (read assign) i = true
  ready (read atom) i = true
  ready (read actuals) i = true
  ready (read args) i = true
  ready (read (tier t)) i = true
  ready (rest l e) i = true
  ready (refs t) i = true
  ready clause i = true
  ready closed i = true
  ready result i = true
  ready entire i = true

  fresh_sym : (s : Sym) (i : ℕ) → ready (read s) i ≡ true → all_usable (looped ts i) (fresh_of s) ≡ true
  fresh_sym bounds i r = ap (λ (x : Bool). x && true) r
  fresh_sym program i r = refl
  fresh_sym def i r = refl
  fresh_sym formals i r = refl
  fresh_sym params i r = refl
  fresh_sym type i r = refl
  fresh_sym seq i r = refl
  fresh_sym tail i r = refl
  fresh_sym bound i r = refl
  fresh_sym item i r = refl
  fresh_sym counting i r = refl
  fresh_sym assign i r = refl
  fresh_sym atom i r = refl
  fresh_sym actuals i r = refl
  fresh_sym args i r = refl
  fresh_sym (tier t) i r = refl

  fresh_known : (g : Goal) (i : ℕ) → ready g i ≡ true → all_usable (looped ts i) (fresh g) ≡ true
  fresh_known (read s) i r = fresh_sym s i r
  fresh_known (until k) i r = usable_one (looped ts i) k (usable_both (looped ts i) k r)
  fresh_known (rest l e) i r = refl
  fresh_known (refs t) i r = refl
  fresh_known clause i r = refl
  fresh_known closed i r = refl
  fresh_known result i r = refl
  fresh_known entire i r = refl

  -- nothing of it was passed
  pub anew : (g : Goal) (i : ℕ) → ready g i ≡ true → i ≤ length ts → Stop g i i
  anew g i r l = stop g i i (fresh g) (fresh_known g i r) (omega arith) l λ us j a s. fresh_fits us g s

  -- a part was begun, at m, and nothing is wanted behind it
  pub last : {h : Goal} {m e : ℕ} (g : Goal) (i : ℕ) → Stop h m e → i ≤ m
      → ((us : List Token) (j : ℕ) → Alike ts us e → Fit us h m j → Fit us g i j) → Stop g i e
  last g i s l f =
      stop g i _ s.can.kinds s.can.known (omega (arith, s.after)) s.before λ us j a t. f us j a (s.can.fits us j a t)

  -- a part was begun, at m, and more is wanted behind it
  pub more : {h : Goal} {m e : ℕ} (g : Goal) (i : ℕ) (ks : List ℕ) → all_usable (looped ts e) ks ≡ true → Stop h m e → i ≤ m
      → ((us : List Token) (n j : ℕ) → Alike ts us e → Fit us h m n → Stand us n ks j → Fit us g i j) → Stop g i e
  more {e = e} g i ks u s l f =
      let all = usable_append (looped ts e) s.can.kinds ks s.can.known u in
      stop g i e (s.can.kinds ++ ks) all (omega (arith, s.after)) s.before λ us j a t.
      let q = split s.can.kinds ks t in f us q.0 j a (s.can.fits us q.0 a q.1) q.2

  -- no token more
  pub to_end : (us : List Token) {i m j : ℕ} → Stand us m [] j → Fit us entire i m → Fit us entire i j
  to_end us stand_end p = p

  -- what is shown of the parts, with fuel h
  abbrev pub Able : ℕ → Type 0
  Able h = (g : Goal) (i : ℕ) → i ≤ length ts → ready g i ≡ true → Fails (Stop g i) (parse ts h g i)
