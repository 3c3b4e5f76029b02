-- The parser looks no further than the token at which it fails, or the one behind what it got; and it comes to its answer
-- with as much fuel as there are tokens to pass. So two lists that are the same up to there have the same answer. It does not
-- look at places at all.
use mathlib.Core.Path.{◌≡◌, refl, ap, ◌∙◌}
use mathlib.Core.Bool.{Bool, true, false}
use mathlib.Core.List.{List}
use mathlib.Core.Option.{Option, none, some}
use Prim.Native.Nat.{ℕ, ◌+◌, ◌≤◌}
use native.Mathlib.Omega.{arith}
use lib.ListN.{length, get_or}
use lib.Dec.{eqb}
use Rattle.language.specs.Tokens.{Token, Entry, past, entry, kind_at, value_at, spelling_at, SameToken}
use Rattle.language.proofs.Executable.Parser.{is}
use Rattle.language.proofs.Executable.ParserSound.{at}
use Rattle.language.proofs.Grammar.Prefixes.{inside}
use Rattle.language.proofs.Executable.Parses.{Result, failed, got, made, made_past, then, test, look, need}

-- how far a result tells that the parser has looked
abbrev pub reach : {A : Type 0} → Result A → ℕ
reach (failed k) = k
reach (got x j) = j

-- a token is the same as itself
pub one_token : {t u : Token} → t ≡ u → SameToken t u
one_token e = record {
  kind = ap (λ (t : Token). t.kind) e;
  value = ap (λ (t : Token). t.value) e;
  spelling = ap (λ (t : Token). t.spelling) e;
}

module _ (ts us : List Token) where
  -- the lists are the same up to e, token e included, but for places
  pub record Agree (e : ℕ) : Type 0 where
    pub same : (k : ℕ) → k ≤ e → SameToken (get_or ts k past) (get_or us k past)

  -- a result of each, from i on: the first did not stop before i, and as far as it has looked both are one
  pub record From {A : Type 0} (i : ℕ) (r q : Result A) : Type 0 where
    pub on : i ≤ reach r
    pub one : Agree (reach r) → r ≡ q

module _ {ts us : List Token} where
  pub nearer : {d e : ℕ} → d ≤ e → Agree ts us e → Agree ts us d
  nearer h a = record { same = λ k l. a.same k (omega arith) }

  -- ---- tokens that are the same

  module _ {e : ℕ} (a : Agree ts us e) (i : ℕ) (h : i ≤ e) where
    pub same_kind : kind_at ts i ≡ kind_at us i
    unfolding kind_at
    same_kind = (a.same i h).kind

    pub same_value : value_at ts i ≡ value_at us i
    unfolding value_at
    same_value = (a.same i h).value

    pub same_spelling : spelling_at ts i ≡ spelling_at us i
    unfolding spelling_at
    same_spelling = (a.same i h).spelling

  -- ---- each way of going on

  pub from_down : {A : Type 0} {i j : ℕ} {r q : Result A} → i ≤ j → From ts us j r q → From ts us i r q
  from_down h f = record { on = omega (arith, f.on); one = f.one }

  pub from_failed : {A : Type 0} {i k : ℕ} → i ≤ k → From ts us {A = A} i (failed k) (failed k)
  from_failed h = record { on = h; one = λ _. refl }

  pub from_got : {A : Type 0} {i j : ℕ} {x y : A} → i ≤ j → (Agree ts us j → x ≡ y) → From ts us i (got x j) (got y j)
  from_got {j = j} h e = record { on = h; one = λ a. ap (λ z. got z j) (e a) }

  pub from_then : {A B : Type 0} {i : ℕ} (r : Result A) {q : Result A} (f g : A → ℕ → Result B) → From ts us i r q
      → ((x : A) (j : ℕ) → r ≡ got x j → From ts us j (f x j) (g x j)) → From ts us i (then r f) (then q g)
  unfolding then
  from_then (failed k) f g h n = record { on = h.on; one = λ a. ap (λ z. then z g) (h.one a) }
  from_then (got x j) f g h n =
      let m = n x j refl in
      record { on = omega (arith, h.on, m.on); one = λ a. m.one a ∙ ap (λ z. then z g) (h.one (nearer m.on a)) }

  pub from_made : {A B : Type 0} {i : ℕ} (r : Result A) {q : Result A} (f g : A → B) → From ts us i r q
      → ((x : A) (j : ℕ) → i ≤ j → Agree ts us j → f x ≡ g x) → From ts us i (made r f) (made q g)
  from_made (failed k) f g h e = record { on = h.on; one = λ a. ap (λ z. made z g) (h.one a) }
  from_made (got x j) f g h e =
      record { on = h.on; one = λ a. ap (λ y. got y j) (e x j h.on a) ∙ ap (λ z. made z g) (h.one a) }

  pub from_past : {A B : Type 0} {i : ℕ} (r : Result A) {q : Result A} (f g : A → B) → From ts us i r q
      → ((x : A) (j : ℕ) → i ≤ j → Agree ts us j → f x ≡ g x) → From ts us i (made_past r f) (made_past q g)
  from_past (failed k) f g h e = record { on = h.on; one = λ a. ap (λ z. made_past z g) (h.one a) }
  from_past (got x j) f g h e =
      record {
        on = omega (arith, h.on);
        one = λ a.
            let b = nearer {d = j} (omega arith) a in
            ap (λ y. got y (j + 1)) (e x j h.on b) ∙ ap (λ z. made_past z g) (h.one b);
      }

  pub from_test : {A : Type 0} {i : ℕ} (b : Bool) {c : Bool} (x y v w : Unit {0} → Result A) → (Agree ts us i → b ≡ c)
      → (b ≡ true → From ts us i (x tt) (v tt)) → (b ≡ false → From ts us i (y tt) (w tt)) → From ts us i (test b x y) (test c v w)
  unfolding test
  from_test true x y v w e f g =
      let h = f refl in record { on = h.on; one = λ a. h.one a ∙ ap (λ z. test z v w) (e (nearer h.on a)) }
  from_test false x y v w e f g =
      let h = g refl in record { on = h.on; one = λ a. h.one a ∙ ap (λ z. test z v w) (e (nearer h.on a)) }

  pub from_look : {A B : Type 0} {i : ℕ} (o : Option A) {p : Option A} (x v : A → Result B) (y w : Unit {0} → Result B)
      → (Agree ts us i → o ≡ p) → ((a : A) → o ≡ some a → From ts us i (x a) (v a)) → (o ≡ none → From ts us i (y tt) (w tt))
      → From ts us i (look o x y) (look p v w)
  unfolding look
  from_look (some a) x v y w e f g =
      let h = f a refl in record { on = h.on; one = λ t. h.one t ∙ ap (λ z. look z v w) (e (nearer h.on t)) }
  from_look none x v y w e f g =
      let h = g refl in record { on = h.on; one = λ t. h.one t ∙ ap (λ z. look z v w) (e (nearer h.on t)) }

  pub from_need : {A : Type 0} (b : Bool) {c : Bool} (k : ℕ) (x v : Unit {0} → Result A) → (Agree ts us k → b ≡ c)
      → (b ≡ true → From ts us k (x tt) (v tt)) → From ts us k (need b k x) (need c k v)
  unfolding need
  from_need true k x v e f =
      let h = f refl in record { on = h.on; one = λ a. h.one a ∙ ap (λ z. need z k v) (e (nearer h.on a)) }
  from_need false k x v e f = record { on = omega arith; one = λ a. ap (λ z. need z k v) (e a) }

  -- what is asked of a token
  pub is_same : (i k : ℕ) → Agree ts us i → eqb (kind_at ts i) k ≡ eqb (kind_at us i) k
  is_same i k a = ap (λ (z : ℕ). eqb z k) (same_kind a i (omega arith))

  pub means_same : {A : Type 0} (i : ℕ) (rows : List (Entry ℕ A)) → Agree ts us i → entry rows (kind_at ts i) ≡ entry rows (kind_at us i)
  means_same i rows a = ap (entry rows) (same_kind a i (omega arith))

-- a token of a kind that there is, by the parser's test
pub there : (ts : List Token) (i k : ℕ) → is ts i k ≡ true → 1 ≤ k → i + 1 ≤ length ts
there ts i k e h = omega (arith, inside ts i (at ts i k e) h)
