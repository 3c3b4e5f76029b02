-- The place of 20 (R01): the token at which the parser fails is the first one that no program goes on with. It is the only
-- one, and there is one exactly where there is no reading.
use mathlib.Core.Path.{◌≡◌, refl, sym, ap, subst, ◌∙◌}
use mathlib.Core.Bool.{Bool, true, false}
use mathlib.Core.List.{List, [], ◌∷◌, ◌++◌, append-nil, append_assoc}
use mathlib.Core.Logic.{◌↔◌}
use Prim.Native.Nat.{ℕ, zero, suc, ◌+◌, ◌*◌, ◌≤◌, ◌<◌}
use native.Mathlib.Decide.{dec_le}
use native.Mathlib.Omega.{arith}
use lib.ListN.{length, take, drop, length-append, take-append-drop, get_or-append}
use lib.Seq.{length-take-le, take_all, append_snoc, get_or-append_seam, get_or-take}
use lib.Dec.{eqb}
use borrow.Author.Tests.{eqb-true}
use Rattle.language.specs.Tokens.{Token, past, kind_at}
use Rattle.language.specs.Trees.{Program}
use Rattle.language.specs.Grammar.{program, Reading}
use Rattle.language.specs.Starts.{Said, Starts, FirstWrong, wrong_token, wrong_end}
use Rattle.language.proofs.Executable.Parses.{Result, failed, got, then, need}
use Rattle.language.proofs.Executable.Parser.{read, entire, step, parse}
use Rattle.language.proofs.Executable.ParserClaims.{run}
use Rattle.language.proofs.Executable.Settles.{Settles, settled_reading, settled_none}
use Rattle.language.proofs.Executable.Locality.{one_token, Agree, From}
use Rattle.language.proofs.Executable.Agreement.{agrees}
use Rattle.language.proofs.Executable.Fresh.{Stand, stand_end, stand_next}
use Rattle.language.proofs.Executable.Failing.{Fails, fails, Stop}
use Rattle.language.proofs.Executable.Completion.{able}
use Rattle.language.proofs.Grammar.OneReading.{finds}
use Rattle.language.proofs.Grammar.Prefixes.{Alike}
use Rattle.language.proofs.Writing.Completing.{a_token, tokens, said_on}

-- ---- tokens before the failing one start a program

stands : (pre : List Token) (ks : List ℕ) → Stand (pre ++ tokens ks) (length pre) ks (length (pre ++ tokens ks))
unfolding kind_at
stands pre [] = subst (λ (us : List Token). Stand us (length pre) [] (length us)) (sym (append-nil pre)) stand_end
stands pre (k ∷ ks) =
    let one = append_snoc pre (a_token k) (tokens ks) in
    let more = length-append pre (a_token k ∷ []) in
    let here = ap (λ (t : Token). t.kind) (get_or-append_seam pre (a_token k) (tokens ks) past) in
    let all = pre ++ (a_token k ∷ []) ++ tokens ks in
    let rest = subst (λ (n : ℕ). Stand all n ks (length all)) more (stands (pre ++ (a_token k ∷ [])) ks) in
    stand_next here (subst (λ (us : List Token). Stand us (length pre + 1) ks (length us)) one rest)

-- before e the tokens of a prefix with others behind are those of the list
prefix_alike : (ts us : List Token) (e : ℕ) → e ≤ length ts → Alike ts (take e ts ++ us) e
unfolding kind_at
prefix_alike ts us e h = record {
  same = λ k l.
      let n = length-take-le e ts h in
      ap (λ (t : Token). t.kind) (get_or-append (take e ts) us past k (omega arith) ∙ get_or-take e ts k past l);
}

module _ (ts : List Token) where
  completed : {e : ℕ} → Stop ts entire 0 e → Starts (take e ts)
  completed {e} s =
      let n = length-take-le e ts s.before in
      let us = take e ts ++ tokens s.can.kinds in
      let st = subst (λ (m : ℕ). Stand us m s.can.kinds (length us)) n (stands (take e ts) s.can.kinds) in
      let r = s.can.fits us (length us) (prefix_alike ts (tokens s.can.kinds) e s.before) st in
      record {
        behind = tokens s.can.kinds;
        program = r.0;
        reading = r.1;
        said = said_on ts e s.can.kinds s.can.known;
      }

  -- ---- no program goes on with the failing one

  -- what the whole list comes to, once its Program has come to r
  abbrev pub whole : Result Program → Result Program
  whole r = then r λ p j. need (eqb j (length ts)) j λ _. got p j

  -- fuel that is enough for any list as long
  abbrev pub plenty : ℕ
  plenty = 16 * (length ts + 1) + 11

abbrev IsFailed : Result Program → Type 0
IsFailed (failed k) = Unit {0}
IsFailed (got p j) = ⊥

apart : {k j : ℕ} {p : Program} → ◌≡◌ {A = Result Program} (failed k) (got p j) → ⊥
apart e = subst IsFailed e tt

same_ordinal : {k e : ℕ} → ◌≡◌ {A = Result Program} (failed k) (failed e) → k ≡ e
same_ordinal e = cc

module _ (ts us : List Token) {e : ℕ} {p : Program} (alike : Agree ts us e) (longer : e < length us) where
  no_two : (r q : Result Program) → From ts us 0 r q → whole ts r ≡ failed e → whole us q ≡ got p (length us) → ⊥
  unfolding then need
  no_two (failed k) q c a b =
      let k_is = same_ordinal a in
      let q_is = c.one (subst (Agree ts us) (sym k_is) alike) in
      apart (ap (whole us) q_is ∙ b)
  no_two (got x j) q c a b = by (eqb j (length ts)) a
    where
      ends : (t : Bool) → eqb j (length us) ≡ t → j ≡ e → need t j (λ _. got x j) ≡ got p (length us) → ⊥
      ends true d n f = omega (arith, eqb-true j (length us) d)
      ends false d n f = apart f

      by : (t : Bool) → need t j (λ _. got x j) ≡ failed e → ⊥
      by true f = apart (sym f)
      by false f =
          let j_is = same_ordinal f in
          let q_is = c.one (subst (Agree ts us) (sym j_is) alike) in
          ends (eqb j (length us)) refl j_is (ap (whole us) q_is ∙ b)

-- up to e, e included, a longer prefix with others behind is the list
prefix_agrees : (ts us : List Token) (e : ℕ) → e < length ts → Agree ts (take (suc e) ts ++ us) e
prefix_agrees ts us e h = record {
  same = λ k l.
      let n = length-take-le (suc e) ts h in
      one_token (sym (get_or-append (take (suc e) ts) us past k (omega arith) ∙ get_or-take (suc e) ts k past (omega arith)));
}

-- any tokens behind ts make a program, of whatever edition
record Begun (ts : List Token) : Type 0 where
  behind : List Token
  program : Program
  reading : Reading (ts ++ behind) program

begun : {ts : List Token} → Starts ts → Begun ts
begun s = record { behind = s.behind; program = s.program; reading = s.reading }

cut_off : (ts : List Token) {e : ℕ} → Settles ts entire 0 (failed e) → e < length ts → Begun (take (suc e) ts) → ⊥
unfolding parse step
cut_off ts {e} x h s =
    let us = take (suc e) ts ++ s.behind in
    let n = length-append (take (suc e) ts) s.behind in
    let m = length-take-le (suc e) ts h in
    let f : ℕ = x.enough + plenty ts + 16 * length us + 16 in
    let a : parse ts (suc f) entire 0 ≡ failed e = x.holds (suc f) (omega arith) in
    let b : parse us (suc f) entire 0 ≡ got s.program (length us) = finds us s.program s.reading (suc f) (omega arith) in
    let c = agrees ts us f f (omega arith) (read program) tt 0 (omega arith) (omega arith) in
    no_two ts us (prefix_agrees ts s.behind e h) (omega arith) (parse ts f (read program) 0) (parse us f (read program) 0) c a b

-- ---- the place

failed_at : {P : ℕ → Type 0} {k : ℕ} → Fails {A = Program} P (failed k) → P k
failed_at (fails p) = p

module _ (ts : List Token) where
  stopped : {e : ℕ} → Settles ts entire 0 (failed e) → Stop ts entire 0 e
  stopped x = failed_at (subst (Fails (Stop ts entire 0)) (x.holds x.enough (omega arith)) (able ts x.enough entire 0 (omega arith) refl))

  -- where the parser fails is the place
  pub place : {e : ℕ} → Settles ts entire 0 (failed e) → FirstWrong ts e
  place {e} x = by (dec_le (length ts) e)
    where
      s : Stop ts entire 0 e
      s = stopped x

      by : Dec (length ts ≤ e) → FirstWrong ts e
      by (yes h) =
          let n : length ts ≡ e = omega (arith, s.before) in
          subst (FirstWrong ts) n (wrong_end (subst Starts (take_all e ts h) (completed ts s)) (settled_none x))
      by (no h) = let l : e < length ts = omega (arith, h) in wrong_token l (completed ts s) (λ a. cut_off ts x l (begun a))

  -- the answer that a list comes to
  abbrev pub comes_to : Result Program
  comes_to = whole ts (parse ts (plenty ts) (read program) 0)

  pub settled : Settles ts entire 0 comes_to
  unfolding step
  settled = record {
    enough = plenty ts + 1;
    holds = λ f h.
        run ts entire 0 f _ (omega arith) λ n z.
        let c = agrees ts ts (plenty ts) n (omega arith) (read program) tt 0 (omega arith) (omega arith) in
        ap (whole ts) (sym (c.one record { same = λ k l. one_token refl }));
  }

-- ---- there is one where there is no reading, and only one

-- what starts a program starts one with less behind it
begun_less : (xs ys : List Token) → Begun (xs ++ ys) → Begun xs
begun_less xs ys s = record {
  behind = ys ++ s.behind;
  program = s.program;
  reading = subst (λ (us : List Token). Reading us s.program) (append_assoc xs ys s.behind) s.reading;
}

begun_front : (ts : List Token) (m : ℕ) → Begun ts → Begun (take m ts)
begun_front ts m s = begun_less (take m ts) (drop m ts) (subst Begun (sym (take-append-drop m ts)) s)

take_take : (m n : ℕ) (ts : List Token) → m ≤ n → take m (take n ts) ≡ take m ts
take_take zero n ts h = refl
take_take (suc m) zero ts h = absurd (omega arith)
take_take (suc m) (suc n) [] h = refl
take_take (suc m) (suc n) (t ∷ ts) h = ap (λ (us : List Token). t ∷ us) (take_take m n ts (omega arith))

reading_starts : (ts : List Token) (p : Program) → Reading ts p → Starts ts
reading_starts ts p r = record {
  behind = [];
  program = p;
  reading = subst (λ (us : List Token). Reading us p) (sym (append-nil ts)) r;
  said = λ n voc e s. subst (Said voc) (sym (append-nil ts)) s;
}

-- Where any tokens go on to a program, some of the same edition do.
begun_starts : (ts : List Token) → Begun ts → Starts ts
begun_starts ts s = by (comes_to ts) (settled ts)
  where
    at_end : {e : ℕ} → Settles ts entire 0 (failed e) → Dec (length ts ≤ e) → Starts ts
    at_end {e} x (yes h) = subst Starts (take_all e ts h) (completed ts (stopped ts x))
    at_end {e} x (no h) = absurd (cut_off ts x (omega (arith, h)) (begun_front ts (suc e) s))

    by : (r : Result Program) → Settles ts entire 0 r → Starts ts
    by (failed e) x = at_end x (dec_le (length ts) e)
    by (got p j) x = reading_starts ts p (settled_reading x)

module _ (ts : List Token) where
  starts_front : (m : ℕ) → Starts ts → Starts (take m ts)
  starts_front m s = begun_starts (take m ts) (begun_front ts m (begun s))

module _ (ts : List Token) where
  starts_before : (m n : ℕ) → m ≤ n → Starts (take n ts) → Starts (take m ts)
  starts_before m n h s = subst Starts (take_take m n ts h) (starts_front (take n ts) m s)

  -- no list has two places
  pub one_place : {i j : ℕ} → FirstWrong ts i → FirstWrong ts j → i ≡ j
  one_place (wrong_token {i} h s w) (wrong_token {i = j} k t v) = by (dec_le (suc i) j) (dec_le (suc j) i)
    where
      by : Dec (suc i ≤ j) → Dec (suc j ≤ i) → i ≡ j
      by (yes a) c = absurd (w (starts_before (suc i) j a t))
      by (no a) (yes c) = absurd (v (starts_before (suc j) i c s))
      by (no a) (no c) = omega (arith, a, c)
  one_place (wrong_token {i} h s w) (wrong_end t v) = absurd (w (starts_front ts (suc i) t))
  one_place (wrong_end s w) (wrong_token {i = j} k t v) = absurd (v (starts_front ts (suc j) s))
  one_place (wrong_end s w) (wrong_end t v) = refl

  unread : {i : ℕ} → FirstWrong ts i → (p : Program) → Reading ts p → ⊥
  unread (wrong_token {i} h s w) p r = w (starts_front ts (suc i) (reading_starts ts p r))
  unread (wrong_end s w) p r = w p r

  found : ((p : Program) → Reading ts p → ⊥) → (r : Result Program) → Settles ts entire 0 r → (i : ℕ) × FirstWrong ts i
  found h (failed e) x = (e, place ts x)
  found h (got p j) x = absurd (h p (settled_reading x))

  -- there is a place exactly where there is no reading
  pub place_exactly : ((i : ℕ) × FirstWrong ts i) ↔ ((p : Program) → Reading ts p → ⊥)
  place_exactly = (λ w. unread w.1, λ h. found h (comes_to ts) (settled ts))

  -- and there the parser fails
  pub place_settles : {i : ℕ} → FirstWrong ts i → Settles ts entire 0 (failed i)
  place_settles {i} w = by (comes_to ts) (settled ts)
    where
      by : (r : Result Program) → Settles ts entire 0 r → Settles ts entire 0 (failed i)
      by (failed e) x = subst (λ (k : ℕ). Settles ts entire 0 (failed k)) (one_place (place ts x) w) x
      by (got p j) x = absurd (unread w p (settled_reading x))

  -- and no tokens whatever, of an edition or of none, go on with the one that is told
  pub none_goes_on : {i : ℕ} → FirstWrong ts i → i < length ts → (behind : List Token) (p : Program) → Reading (take (suc i) ts ++ behind) p → ⊥
  none_goes_on (wrong_token {i} h s w) l behind p r =
      w (begun_starts (take (suc i) ts) record { behind = behind; program = p; reading = r })
  none_goes_on (wrong_end s w) l behind p r = absurd (omega arith)
