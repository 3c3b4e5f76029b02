-- A text splits in one way at most: what is reached at a place is reached with one list of tokens, a text has one split or
-- one first flaw at one place, and not both.
use lib.ListN.{length, length-append}
use mathlib.Core.List.{List, [], ◌∷◌, ◌++◌}
use mathlib.Core.Logic.{⊎_elim}
use mathlib.Core.Path.{◌≡◌, refl, sym, ◌∙◌, ap, subst₂}
use native.Mathlib.Omega.{arith}
use Prim.Native.Nat.{ℕ, ◌≤◌, ◌<◌}
use Rattle.language.proofs.Text.Choices.{either}
use Rattle.language.proofs.Text.Marks.{Laws}
use Rattle.language.proofs.Text.OnePiece.{one_piece, form_bounds}
use Rattle.language.specs.Sizes.{Sizes, LARGEST}
use Rattle.language.specs.Text.{Content, Piece, token_of, Reaches, SplitsUnder, Flaw, WrongUnder, FlawedUnder}
use Rattle.language.specs.Text.Content.{space, unclosed, overlong, token}
use Rattle.language.specs.Text.Reaches.{start, skip, next}
use Rattle.language.specs.Text.WrongUnder.{strange, opened, long, large, many}
use Rattle.language.specs.Tokens.{Vocabulary, Token}

-- ---- one step of a split

pub data Step (voc : Vocabulary) (t : List ℕ) (p : ℕ) (ts : List Token) (q : ℕ) (us : List Token) : Type 0 where
  over : Piece voc t p q space → us ≡ ts → Step voc t p ts q us
  put : {k v : ℕ} → Piece voc t p q (token k v) → v ≤ LARGEST → us ≡ ts ++ (token_of t p q k v ∷ []) → Step voc t p ts q us

module _ {voc : Vocabulary} (t : List ℕ) (p : ℕ) where
  forward : {ts us : List Token} {q : ℕ} → Step voc t p ts q us → (p < q) × (q ≤ length t)
  forward {q = q} (over a x) = form_bounds t p q space a.form
  forward {q = q} (put {k = k} {v = v} a h x) = form_bounds t p q (token k v) a.form

  more : {ts us : List Token} {q : ℕ} → Step voc t p ts q us → length ts ≤ length us
  more {ts} {us} (over a x) = omega (arith, ap length x)
  more {ts} {us} (put a h x) = omega (arith, simp length-append at (ap length x))

module _ {voc : Vocabulary} (laws : Laws voc) (t : List ℕ) (p : ℕ) where
  unlike : {q e : ℕ} {c d : Content} → (c ≡ d → ◌≡◌ {A = ℕ} 0 1) → Piece voc t p q c → Piece voc t p e d → ⊥
  unlike {q} {e} {c} {d} n a b = let z = n (one_piece laws t p q e c d a b).1 in omega arith

  space_token : {q e k v : ℕ} → Piece voc t p q space → Piece voc t p e (token k v) → ⊥
  space_token = unlike (λ w. cc)

  open_space : {q e : ℕ} → Piece voc t p q unclosed → Piece voc t p e space → ⊥
  open_space = unlike (λ w. cc)

  open_token : {q e k v : ℕ} → Piece voc t p q unclosed → Piece voc t p e (token k v) → ⊥
  open_token = unlike (λ w. cc)

  long_space : {q e : ℕ} → Piece voc t p q overlong → Piece voc t p e space → ⊥
  long_space = unlike (λ w. cc)

  long_open : {q e : ℕ} → Piece voc t p q overlong → Piece voc t p e unclosed → ⊥
  long_open = unlike (λ w. cc)

  long_token : {q e k v : ℕ} → Piece voc t p q overlong → Piece voc t p e (token k v) → ⊥
  long_token = unlike (λ w. cc)

  one_token : {q e k v j w : ℕ} → Piece voc t p q (token k v) → Piece voc t p e (token j w) → (q ≡ e) × (k ≡ j) × (v ≡ w)
  one_token {q} {e} {k} {v} {j} {w} a b =
      let z = one_piece laws t p q e (token k v) (token j w) a b in
      let f = z.1 in
      let g : k ≡ j = cc in
      let h : v ≡ w = cc in
      (z.0, g, h)

  too_large : {q e k v j w : ℕ} → Piece voc t p q (token k v) → LARGEST < v → Piece voc t p e (token j w) → w ≤ LARGEST → ⊥
  too_large a l b h = omega (arith, (one_token a b).2)

  one_step : {ts us vs : List Token} {q e : ℕ} → Step voc t p ts q us → Step voc t p ts e vs → (q ≡ e) × (us ≡ vs)
  one_step {q = q} {e = e} (over a x) (over b y) = ((one_piece laws t p q e space space a b).0, x ∙ sym y)
  one_step (over a x) (put b h y) = absurd (space_token a b)
  one_step (put a h x) (over b y) = absurd (space_token b a)
  one_step (put a h x) (put b g y) =
      let z = one_token a b in
      let e = z.0 in
      let f = z.1 in
      let g = z.2 in
      (e, cc)

-- ---- many steps

-- from p and ts on, q and us are reached
pub data Later (voc : Vocabulary) (t : List ℕ) (q : ℕ) (us : List Token) : ℕ → List Token → Type 0 where
  here : Later voc t q us q us
  step : {p e : ℕ} {ts vs : List Token} → Step voc t p ts e vs → Later voc t q us e vs → Later voc t q us p ts

module _ {voc : Vocabulary} {t : List ℕ} where
  later_place : {q : ℕ} {us : List Token} {p : ℕ} {ts : List Token} → Later voc t q us p ts → p ≤ q
  later_place here = omega arith
  later_place (step {p = p} s l) = omega (arith, forward t p s, later_place l)

  pub later_more : {q : ℕ} {us : List Token} {p : ℕ} {ts : List Token} → Later voc t q us p ts → length ts ≤ length us
  later_more here = omega arith
  later_more (step {p = p} s l) = omega (arith, more t p s, later_more l)

  later_same : {q : ℕ} {us : List Token} {p : ℕ} {ts : List Token} → Later voc t q us p ts → q ≤ p → us ≡ ts
  later_same here h = refl
  later_same (step {p = p} s l) h = absurd (omega (arith, forward t p s, later_place l))

  pub from_start : {q : ℕ} {us : List Token} {p : ℕ} {ts : List Token} → Reaches voc t p ts → Later voc t q us p ts → Later voc t q us 0 []
  from_start start l = l
  from_start (skip a x) l = from_start a (step (over x refl) l)
  from_start (next a x h e) l = from_start a (step (put x h e) l)

  -- a place that is reached lies in the text
  pub reached_inside : {p : ℕ} {ts : List Token} → Reaches voc t p ts → p ≤ length t
  reached_inside start = omega arith
  reached_inside {p} (skip {p = o} a x) = (form_bounds t o p space x.form).1
  reached_inside {p} (next {p = o} {k = k} {v = v} a x h e) = (form_bounds t o p (token k v) x.form).1

module _ {voc : Vocabulary} (laws : Laws voc) {t : List ℕ} where
  after : {p q e : ℕ} {ts us vs : List Token} → Later voc t q us p ts → Step voc t p ts e vs → e ≤ q → Later voc t q us e vs
  after {q = q} here s h = absurd (omega (arith, forward t q s))
  after {q = q} {us = us} (step {p = p} s' l) s h =
      let z = one_step laws t p s' s in
      subst₂ (λ a b. Later voc t q us a b) z.0 z.1 l

  -- of two places that are reached the later one is reached from the other
  pub onward : {p q : ℕ} {ts us : List Token} → Reaches voc t p ts → Reaches voc t q us → p ≤ q → Later voc t q us p ts
  onward start b h = from_start b here
  onward {p = e} (skip {p = p} {ts = ts} a x) b h =
      let s : Step voc t p ts e ts = over x refl in
      after (onward a b (omega (arith, forward t p s))) s h
  onward {p = e} {ts = vs} (next {p = p} {ts = ts} a x l z) b h =
      let s : Step voc t p ts e vs = put x l z in
      after (onward a b (omega (arith, forward t p s))) s h

  -- at a place that is reached there is one list of tokens
  pub one_list : {p : ℕ} {ts us : List Token} → Reaches voc t p ts → Reaches voc t p us → ts ≡ us
  one_list a b = sym (later_same (onward a b (omega arith)) (omega arith))

  -- a text has one split at most
  pub one_split : {σ : Sizes} {ts us : List Token} → SplitsUnder σ voc t ts → SplitsUnder σ voc t us → ts ≡ us
  one_split a b = one_list a.whole b.whole

-- ---- flaws

wrong_inside : {σ : Sizes} {voc : Vocabulary} {t : List ℕ} {p : ℕ} {ts : List Token} {f : Flaw} → WrongUnder σ voc t p ts f → p < length t
wrong_inside (strange h n) = h
wrong_inside {t = t} {p = p} (opened {q = q} a) = omega (arith, form_bounds t p q unclosed a.form)
wrong_inside {t = t} {p = p} (long {q = q} a) = omega (arith, form_bounds t p q overlong a.form)
wrong_inside {t = t} {p = p} (large {q = q} {k = k} {v = v} a h) = omega (arith, form_bounds t p q (token k v) a.form)
wrong_inside {t = t} {p = p} (many {q = q} {k = k} {v = v} a h e) = omega (arith, form_bounds t p q (token k v) a.form)

module _ {voc : Vocabulary} (laws : Laws voc) {t : List ℕ} {p : ℕ} {ts : List Token} where
  no_step : {σ : Sizes} {f : Flaw} {q : ℕ} {us : List Token} → WrongUnder σ voc t p ts f → Step voc t p ts q us → length us ≤ σ.tokens → ⊥
  no_step {q = q} (strange h n) (over x e) l = n q space x.form
  no_step {q = q} (strange h n) (put {k = k} {v = v} x g e) l = n q (token k v) x.form
  no_step (opened a) (over x e) l = open_space laws t p a x
  no_step (opened a) (put x g e) l = open_token laws t p a x
  no_step (long a) (over x e) l = long_space laws t p a x
  no_step (long a) (put x g e) l = long_token laws t p a x
  no_step (large a h) (over x e) l = space_token laws t p x a
  no_step (large a h) (put x g e) l = too_large laws t p a h x g
  no_step (many a h c) (over x e) l = space_token laws t p x a
  no_step (many a h c) (put x g e) l = omega (arith, simp length-append at (ap length e))

  one_wrong : {σ : Sizes} {f g : Flaw} → WrongUnder σ voc t p ts f → WrongUnder σ voc t p ts g → f ≡ g
  one_wrong (strange h n) (strange g m) = refl
  one_wrong (strange h n) (opened a) = absurd (n _ _ a.form)
  one_wrong (strange h n) (long a) = absurd (n _ _ a.form)
  one_wrong (strange h n) (large a b) = absurd (n _ _ a.form)
  one_wrong (strange h n) (many a b e) = absurd (n _ _ a.form)
  one_wrong (opened a) (strange h n) = absurd (n _ _ a.form)
  one_wrong (opened a) (opened b) = refl
  one_wrong (opened a) (long b) = absurd (long_open laws t p b a)
  one_wrong (opened a) (large b l) = absurd (open_token laws t p a b)
  one_wrong (opened a) (many b l e) = absurd (open_token laws t p a b)
  one_wrong (long a) (strange h n) = absurd (n _ _ a.form)
  one_wrong (long a) (opened b) = absurd (long_open laws t p a b)
  one_wrong (long a) (long b) = refl
  one_wrong (long a) (large b l) = absurd (long_token laws t p a b)
  one_wrong (long a) (many b l e) = absurd (long_token laws t p a b)
  one_wrong (large a l) (strange h n) = absurd (n _ _ a.form)
  one_wrong (large a l) (opened b) = absurd (open_token laws t p b a)
  one_wrong (large a l) (long b) = absurd (long_token laws t p b a)
  one_wrong (large a l) (large b m) = refl
  one_wrong (large a l) (many b m e) = absurd (too_large laws t p a l b m)
  one_wrong (many a l e) (strange h n) = absurd (n _ _ a.form)
  one_wrong (many a l e) (opened b) = absurd (open_token laws t p b a)
  one_wrong (many a l e) (long b) = absurd (long_token laws t p b a)
  one_wrong (many a l e) (large b m) = absurd (too_large laws t p b m a l)
  one_wrong (many a l e) (many b m g) = refl

module _ {voc : Vocabulary} (laws : Laws voc) {t : List ℕ} where
  ends : {σ : Sizes} {f : Flaw} {p q : ℕ} {ts us : List Token}
      → WrongUnder σ voc t p ts f → Later voc t q us p ts → length us ≤ σ.tokens → (p ≡ q) × (ts ≡ us)
  ends w here h = (refl, refl)
  ends w (step s l) h = absurd (no_step laws w s (omega (arith, later_more l)))

  not_later : {σ : Sizes} {f g : Flaw} {p q : ℕ} → FlawedUnder σ voc t f p → FlawedUnder σ voc t g q → p ≤ q → (f ≡ g) × (p ≡ q)
  not_later {σ} {f} a b h =
      let z = ends a.here (onward laws a.before b.before h) b.few in
      (one_wrong laws (subst₂ (λ x y. WrongUnder σ voc t x y f) z.0 z.1 a.here) b.here, z.0)

  -- a text has one first flaw at most, at one place
  pub one_flaw : {σ : Sizes} {f g : Flaw} {p q : ℕ} → FlawedUnder σ voc t f p → FlawedUnder σ voc t g q → (f ≡ g) × (p ≡ q)
  one_flaw {f} {g} {p} {q} a b =
      ⊎_elim (λ h. not_later a b (omega arith)) (λ h. let z = not_later b a h in (sym z.0, sym z.1)) (either p q)

  -- a text that splits has no flaw
  pub not_both : {σ : Sizes} {ts : List Token} {f : Flaw} {p : ℕ} → SplitsUnder σ voc t ts → FlawedUnder σ voc t f p → ⊥
  not_both a b =
      let z = ends b.here (onward laws b.before a.whole (reached_inside b.before)) a.few in
      omega (arith, z.0, wrong_inside b.here)

  -- no place behind a flaw is reached with so few tokens
  pub flaw_last : {σ : Sizes} {f : Flaw} {p q : ℕ} {us : List Token} → FlawedUnder σ voc t f p → Reaches voc t q us → length us ≤ σ.tokens → q ≤ p
  flaw_last {p = p} {q = q} a b h =
      ⊎_elim (λ l. omega (arith, (ends a.here (onward laws a.before b (omega arith)) h).0)) (λ l. l) (either p q)
