-- What the checker answers, how it goes on, and the laws of both.
use mathlib.Core.Path.{◌≡◌, refl}
use mathlib.Core.Option.{Option, none, some}
use Prim.Native.Nat.{ℕ}
use Rattle.language.specs.Faults.{Reason}

pub data Res (A : Type 0) : Type 0 where
  ok : A → Res A
  bad : Reason → ℕ → Res A

unfoldable pub after : {A B : Type 0} → Res A → (A → Res B) → Res B
after (ok a) f = f a
after (bad r n) f = bad r n

unfoldable pub told : {A : Type 0} → Option A → Reason → ℕ → Res A
told none r n = bad r n
told (some a) r n = ok a

-- go on if the statement holds
unfoldable pub need : {A B : Type 0} → Dec A → Reason → ℕ → (Unit {0} → Res B) → Res B
need (yes p) r n f = f tt
need (no p) r n f = bad r n

-- P of what is answered, Q of the fault
pub data Says {A : Type 0} (P : A → Type 0) (Q : Reason → ℕ → Type 0) : Res A → Type 0 where
  says : {a : A} → P a → Says P Q (ok a)
  faults : {r : Reason} {n : ℕ} → Q r n → Says P Q (bad r n)

pub says_after : {A B : Type 0} {P : A → Type 0} {Q Q' : Reason → ℕ → Type 0} {P' : B → Type 0} {x : Res A} (f : A → Res B)
    → Says P Q x → ((r : Reason) (n : ℕ) → Q r n → Q' r n) → ((a : A) → P a → Says P' Q' (f a)) → Says P' Q' (after x f)
unfolding after
says_after f (says {a} p) q g = g a p
says_after f (faults {r} {n} p) q g = faults (q r n p)

pub says_told : {A : Type 0} {P : A → Type 0} {Q : Reason → ℕ → Type 0} (x : Option A) (r : Reason) (n : ℕ)
    → ((a : A) → x ≡ some a → P a) → (x ≡ none → Q r n) → Says P Q (told x r n)
unfolding told
says_told none r n g h = faults (h refl)
says_told (some a) r n g h = says (g a refl)

pub says_need : {A B : Type 0} {P : B → Type 0} {Q : Reason → ℕ → Type 0} (d : Dec A) (r : Reason) (n : ℕ) (f : Unit {0} → Res B)
    → ((A → ⊥) → Q r n) → (A → Says P Q (f tt)) → Says P Q (need d r n f)
unfolding need
says_need (yes p) r n f h g = g p
says_need (no p) r n f h g = faults (h p)

pub says_map : {A : Type 0} {P P' : A → Type 0} {Q Q' : Reason → ℕ → Type 0} {x : Res A}
    → ((a : A) → P a → P' a) → ((r : Reason) (n : ℕ) → Q r n → Q' r n) → Says P Q x → Says P' Q' x
says_map g q (says {a} p) = says (g a p)
says_map g q (faults {r} {n} p) = faults (q r n p)

-- how an answer that is known goes on
pub after_ok : {A B : Type 0} {x : Res A} {a : A} {y : Res B} (f : A → Res B) → x ≡ ok a → f a ≡ y → after x f ≡ y
unfolding after
after_ok f e h = rw e h

pub after_bad : {A B : Type 0} {x : Res A} {r : Reason} {n : ℕ} (f : A → Res B) → x ≡ bad r n → after x f ≡ bad r n
unfolding after
after_bad f e = rw e refl

pub told_some : {A : Type 0} {x : Option A} {a : A} (r : Reason) (n : ℕ) → x ≡ some a → told x r n ≡ ok a
unfolding told
told_some r n e = rw e refl

pub told_none : {A : Type 0} {x : Option A} (r : Reason) (n : ℕ) → x ≡ none → told x r n ≡ bad r n
unfolding told
told_none r n e = rw e refl

pub need_yes : {A B : Type 0} {y : Res B} (d : Dec A) (r : Reason) (n : ℕ) (f : Unit {0} → Res B) → A → f tt ≡ y → need d r n f ≡ y
unfolding need
need_yes (yes p) r n f a e = e
need_yes (no p) r n f a e = absurd (p a)

pub need_no : {A B : Type 0} (d : Dec A) (r : Reason) (n : ℕ) (f : Unit {0} → Res B) → (A → ⊥) → need d r n f ≡ bad r n
unfolding need
need_no (yes p) r n f h = absurd (h p)
need_no (no p) r n f h = refl
