-- Atoms and arguments: what was passed when they fail can be completed.
use mathlib.Core.List.{List, [], ◌∷◌}
use mathlib.Core.Path.{refl}
use Prim.Native.Nat.{ℕ, ◌+◌, ◌≤◌}
use native.Mathlib.Omega.{arith}
use lib.ListN.{length}
use Rattle.language.specs.Tokens.{Token, NAME, COMMA, LPAR, RPAR, LBRACE, RBRACE}
use Rattle.language.specs.Grammar.{seq, atom, actuals, args, atom_call, args_one, args_more}
use Rattle.language.proofs.Grammar.Entries.{every}
use Rattle.language.proofs.Grammar.FirstTokens.{grows}
use Rattle.language.proofs.Grammar.Prefixes.{within, kept_at, kept}
use Rattle.language.proofs.Executable.Parser.{read, until, closed, step, parse}
use Rattle.language.proofs.Executable.ParserSound.{right, at}
use Rattle.language.proofs.Executable.Locality.{there}
use Rattle.language.proofs.Executable.Fresh.{to_group, to_block, close, close_actuals}
use Rattle.language.proofs.Executable.Failing.{Fails, fine, fails_same, fails_made, fails_past, fails_then}
use Rattle.language.proofs.Executable.Failing.{fails_test, fails_look, fails_need, Stop, Able, stop, anew, last, more}

module _ (ts : List Token) (h : ℕ) (ih : Able ts h) where
  pub at_atom : (i : ℕ) → i ≤ length ts → Fails (Stop ts (read atom) i) (step ts (parse ts h) (read atom) i)
  unfolding step every
  at_atom i l =
      fails_look _ _ _ (λ _ _. fine) λ _.
      fails_test _ _ _ (λ _. fine) λ _.
      fails_test _ _ _ (λ _. fine) λ _.
      fails_test _ _ _
      (λ d.
      fails_test _ _ _
      (λ e.
      let f = there ts (i + 1) LPAR e (omega arith) in
      fails_made _ (ih (read actuals) (i + 2) (omega arith) refl)
      λ k s.
      let o = s.after in
      last ts (read atom) i s (omega arith) λ us j z p.
      (_, atom_call (kept_at z i (at ts i NAME d) (omega arith)) (kept_at z (i + 1) (at ts (i + 1) LPAR e) (omega arith)) p.1))
      λ _. fine)
      λ _.
      fails_test _ _ _
      (λ d.
      fails_past _ (ih (until RPAR) (i + 1) (there ts i LPAR d (omega arith)) refl)
      λ k s.
      let o = s.after in
      last ts (read atom) i s (omega arith) λ us j z p. to_group us (kept_at z i (at ts i LPAR d) (omega arith)) p)
      λ _.
      fails_need _ i _ (λ _. anew ts (read atom) i refl l) λ d.
      fails_past _ (ih (until RBRACE) (i + 1) (there ts i LBRACE d (omega arith)) refl)
      λ k s.
      let o = s.after in
      last ts (read atom) i s (omega arith) λ us j z p. to_block us (kept_at z i (at ts i LBRACE d) (omega arith)) p

  pub at_actuals : (i : ℕ) → i ≤ length ts → Fails (Stop ts (read actuals) i) (step ts (parse ts h) (read actuals) i)
  unfolding step every
  at_actuals i l =
      fails_test _ _ _ (λ _. fine) λ _.
      fails_same (ih closed i l refl) λ k s. last ts (read actuals) i s (omega arith) λ us j z p. p

  pub at_args : (i : ℕ) → i ≤ length ts → Fails (Stop ts (read args) i) (step ts (parse ts h) (read args) i)
  unfolding step every
  at_args i l =
      fails_then _ (ih (read seq) i l refl) (λ k s. last ts (read args) i s (omega arith) λ us j z p. (_, args_one p.1))
      λ e m d.
      let p = (right ts h (read seq) i d).0 in
      let x = grows ts p in
      fails_test _ _ _
      (λ a.
      fails_made _ (ih (read args) (m + 1) (there ts m COMMA a (omega arith)) refl)
      λ k s.
      let o = s.after in
      last ts (read args) i s (omega arith) λ us j z q.
      (_, args_more (kept z p (omega arith)).1 (kept_at z m (at ts m COMMA a) (omega arith)) q.1))
      λ _. fine

  pub at_closed : (i : ℕ) → i ≤ length ts → Fails (Stop ts closed i) (step ts (parse ts h) closed i)
  unfolding step every
  at_closed i l =
      fails_then _ (ih (read args) i l refl)
      (λ k s. more ts closed i (RPAR ∷ []) refl s (omega arith) λ us n j z p t. close_actuals us (close us p t))
      λ es k d.
      let p = right ts h (read args) i d in
      let x = grows ts p in
      fails_need _ k _
      (λ _. stop ts closed i k (RPAR ∷ []) refl (omega arith) (within ts p) λ us j z t. close_actuals us (close us (kept z p (omega arith)) t))
      λ _. fine
