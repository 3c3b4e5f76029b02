-- A book that has a type with a number under it, and `pay` from two ints to int among its functions, has the type int with a
-- call of `pay` under it.
use mathlib.Core.Bool.{Bool, true, false, cond}
use mathlib.Core.List.{List, [], ◌∷◌}
use mathlib.Core.Logic.{◌⊎◌, inl, inr}
use mathlib.Core.Option.{none, some, none-ne-some}
use mathlib.Core.Path.{◌≡◌, refl, sym, ap, subst, ◌∙◌}
use Prim.Native.Nat.{ℕ}
use Rattle.language.specs.Tokens.{same}
use Rattle.language.specs.Trees.{Name, Ty, int, Exp, literal, whole, call, last, more, Def, Scope, nearest}
use Rattle.language.specs.Types.{Sig, sig, with_def, fine, TypedFrom, typed_main, typed_def, t_call, t_more, t_whole, t_last}
use Rattle.language.specs.Shift.{PAY, Among, here, later}
use Rattle.language.proofs.Text.Tables.{same_one}

abbrev PAYS : Sig
PAYS = record { takes = int ∷ int ∷ []; gives = int }

-- a call of it with two numbers
abbrev pub pay_call : (i m n x y : ℕ) → Exp
pay_call i m n x y = call i PAY (more (literal m (whole x)) (more (literal n (whole y)) last))

-- `pay` is in sight
abbrev Seen : Scope Sig → Type 0
Seen Δ = nearest PAY Δ ≡ some PAYS

module _ (pay : Def) (named : pay.called ≡ PAY) (pays : sig pay ≡ PAYS) where
  seen_here : (Δ : Scope Sig) → Seen (with_def Δ pay)
  unfolding nearest same
  seen_here Δ = rw named (ap some pays)

  -- a later function has another name
  seen_later : (Δ : Scope Sig) (d : Def) → Seen Δ → nearest d.called Δ ≡ none → Seen (with_def Δ d)
  unfolding nearest
  seen_later Δ d h n = go (same PAY d.called) refl
    where
      go : (b : Bool) → same PAY d.called ≡ b → cond b (some (sig d)) (nearest PAY Δ) ≡ some PAYS
      go true e =
          let z : nearest PAY Δ ≡ none = subst (λ (x : Name). nearest x Δ ≡ none) (sym (same_one PAY d.called e)) n in
          absurd (none-ne-some PAYS (sym z ∙ h))
      go false e = h

  pub call_typed : {Δ : Scope Sig} {ds : List Def} {e : Exp} {t : Ty} (i m n x y : ℕ) → TypedFrom Δ ds e t → Among pay ds ⊎ Seen Δ
      → TypedFrom Δ ds (pay_call i m n x y) int
  call_typed i m n x y (typed_main a) (inl h) = elim h [ ]
  call_typed i m n x y (typed_main a) (inr h) = typed_main (t_call (t_more t_whole (t_more t_whole t_last)) h)
  call_typed {Δ} i m n x y (typed_def (fine room new takes few body) r) (inl here) =
      typed_def (fine room new takes few body) (call_typed i m n x y r (inr (seen_here Δ)))
  call_typed i m n x y (typed_def f r) (inl (later a)) = typed_def f (call_typed i m n x y r (inl a))
  call_typed {Δ} i m n x y (typed_def {d = d} (fine room new takes few body) r) (inr h) =
      typed_def (fine room new takes few body) (call_typed i m n x y r (inr (seen_later Δ d h new)))
