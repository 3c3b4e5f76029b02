-- Types, parameters, functions and programs: what was passed when they fail can be completed.
use mathlib.Core.List.{List, [], ◌∷◌}
use mathlib.Core.Path.{refl}
use Prim.Native.Nat.{ℕ, ◌+◌, ◌≤◌}
use native.Mathlib.Omega.{arith}
use lib.ListN.{length}
use Rattle.language.specs.Tokens.{Token, NAME, NUMBER, DEF, REF, INT, COMMA, COLON, LPAR, RPAR, LBRACE, RBRACE}
use Rattle.language.specs.Trees.{Ty, ref}
use Rattle.language.specs.Grammar.{program, def, formals, params, type, seq, basics, program_seq}
use Rattle.language.specs.Grammar.{program_def, params_one, params_more, type_basic, type_ref}
use Rattle.language.proofs.Grammar.Entries.{every}
use Rattle.language.proofs.Grammar.FirstTokens.{grows}
use Rattle.language.proofs.Grammar.Prefixes.{inside, in_table, within, kept_at, kept_means, kept}
use Rattle.language.proofs.Executable.Parser.{read, refs, until, result, entire, step, parse}
use Rattle.language.proofs.Executable.ParserSound.{right, at}
use Rattle.language.proofs.Executable.Locality.{there}
use Rattle.language.proofs.Executable.Fresh.{ended, to_def, close, close_formals, fresh_until}
use Rattle.language.proofs.Executable.Fresh.{fresh_body, fresh_open, fresh_name, fresh_colon, fresh_fits}
use Rattle.language.proofs.Executable.Failing.{Fails, fails, fine, fails_same, fails_made, fails_past, fails_then, fails_test}
use Rattle.language.proofs.Executable.Failing.{fails_look, fails_need, Stop, Able, stop, anew, last, more, to_end}

module _ (ts : List Token) (h : ℕ) (ih : Able ts h) where
  pub at_program : (i : ℕ) → i ≤ length ts → Fails (Stop ts (read program) i) (step ts (parse ts h) (read program) i)
  unfolding step every
  at_program i l =
      fails_test _ _ _
      (λ _.
      fails_then _ (ih (read def) i l refl)
      (λ k s. more ts (read program) i (NUMBER ∷ []) refl s (omega arith) λ us n j a p t. (_, program_def p.1 (fresh_fits us (read program) t).1))
      λ d m e.
      let p = right ts h (read def) i e in
      let x = grows ts p in
      fails_made _ (ih (read program) m (within ts p) refl)
      λ k s. last ts (read program) i s (omega arith) λ us j a q. (_, program_def (kept a p s.after).1 q.1))
      λ _.
      fails_made _ (ih (read seq) i l refl) λ k s. last ts (read program) i s (omega arith) λ us j a p. (_, program_seq p.1)

  pub at_def : (i : ℕ) → i ≤ length ts → Fails (Stop ts (read def) i) (step ts (parse ts h) (read def) i)
  unfolding step every
  at_def i l =
      fails_need _ i _ (λ _. anew ts (read def) i refl l) λ d.
      let a = at ts i DEF d in
      let a' = there ts i DEF d (omega arith) in
      fails_need _ (i + 1) _
      (λ _.
      stop ts (read def) i (i + 1) (NAME ∷ LPAR ∷ RPAR ∷ COLON ∷ INT ∷ LBRACE ∷ NUMBER ∷ RBRACE ∷ []) refl (omega arith) a' λ us j z s.
      fresh_name us i (kept_at z i a (omega arith)) s)
      λ e.
      let b = at ts (i + 1) NAME e in
      let b' = there ts (i + 1) NAME e (omega arith) in
      fails_need _ (i + 2) _
      (λ _.
      stop ts (read def) i (i + 2) (LPAR ∷ RPAR ∷ COLON ∷ INT ∷ LBRACE ∷ NUMBER ∷ RBRACE ∷ []) refl (omega arith) (omega arith) λ us j z s.
      fresh_open us i (kept_at z i a (omega arith)) (kept_at z (i + 1) b (omega arith)) s)
      λ f.
      let c = at ts (i + 2) LPAR f in
      let c' = there ts (i + 2) LPAR f (omega arith) in
      fails_then _ (ih (read formals) (i + 3) (omega arith) refl)
      (λ k s.
      let o = s.after in
      more ts (read def) i (COLON ∷ INT ∷ LBRACE ∷ NUMBER ∷ RBRACE ∷ []) refl s (omega arith) λ us n j z p t.
      fresh_body us i (kept_at z i a (omega arith)) (kept_at z (i + 1) b (omega arith)) (kept_at z (i + 2) c (omega arith)) p t)
      λ ps m u.
      let p = right ts h (read formals) (i + 3) u in
      let x = grows ts p in
      fails_then _ (ih result m (within ts p) refl)
      (λ k s.
      let o = s.after in
      more ts (read def) i (NUMBER ∷ RBRACE ∷ []) refl s (omega arith) λ us n j z q t.
      to_def us (kept_at z i a (omega arith)) (kept_at z (i + 1) b (omega arith)) (kept_at z (i + 2) c (omega arith)) (kept z p o) q.0 q.1
      (fresh_until us RBRACE t))
      λ t k v.
      let q = right ts h result m v in
      let y = grows ts q.1 in
      fails_past _ (ih (until RBRACE) (k + 1) (omega (arith, inside ts k q.2 (omega arith))) refl)
      λ n s.
      let o = s.after in
      last ts (read def) i s (omega arith) λ us j z w.
      to_def us (kept_at z i a (omega arith)) (kept_at z (i + 1) b (omega arith)) (kept_at z (i + 2) c (omega arith))
      (kept z p (omega arith)) (kept_at z m q.0 (omega arith)) (ended (kept z q.1 (omega arith)) (kept_at z k q.2 (omega arith))) w

  pub at_formals : (i : ℕ) → i ≤ length ts → Fails (Stop ts (read formals) i) (step ts (parse ts h) (read formals) i)
  unfolding step every
  at_formals i l =
      fails_test _ _ _ (λ _. fine) λ _.
      fails_then _ (ih (read params) i l refl)
      (λ k s. more ts (read formals) i (RPAR ∷ []) refl s (omega arith) λ us n j z p t. close_formals us (close us p t))
      λ ps k e.
      let p = right ts h (read params) i e in
      let x = grows ts p in
      fails_need _ k _
      (λ _. stop ts (read formals) i k (RPAR ∷ []) refl (omega arith) (within ts p) λ us j z t. close_formals us (close us (kept z p (omega arith)) t))
      λ _. fine

  pub at_params : (i : ℕ) → i ≤ length ts → Fails (Stop ts (read params) i) (step ts (parse ts h) (read params) i)
  unfolding step every
  at_params i l =
      fails_need _ i _ (λ _. anew ts (read params) i refl l) λ d.
      let a = at ts i NAME d in
      let a' = there ts i NAME d (omega arith) in
      fails_need _ (i + 1) _
      (λ _.
      stop ts (read params) i (i + 1) (COLON ∷ INT ∷ []) refl (omega arith) a' λ us j z t. fresh_colon us i (kept_at z i a (omega arith)) t)
      λ e.
      let b = at ts (i + 1) COLON e in
      let b' = there ts (i + 1) COLON e (omega arith) in
      fails_then _ (ih (read type) (i + 2) (omega arith) refl)
      (λ k s.
      let o = s.after in
      last ts (read params) i s (omega arith) λ us j z p.
      (_, params_one (kept_at z i a (omega arith)) (kept_at z (i + 1) b (omega arith)) p.1))
      λ t m u.
      let p = right ts h (read type) (i + 2) u in
      let x = grows ts p in
      fails_test _ _ _
      (λ c.
      fails_made _ (ih (read params) (m + 1) (there ts m COMMA c (omega arith)) refl)
      λ k s.
      let o = s.after in
      last ts (read params) i s (omega arith) λ us j z q. (
        _,
        params_more (kept_at z i a (omega arith)) (kept_at z (i + 1) b (omega arith)) (kept z p (omega arith)).1
            (kept_at z m (at ts m COMMA c) (omega arith)) q.1,
      ))
      λ _. fine

  pub at_type : (i : ℕ) → i ≤ length ts → Fails (Stop ts (read type) i) (step ts (parse ts h) (read type) i)
  unfolding step every
  at_type i l =
      fails_look _ _ _
      (λ t a.
      let b = in_table ts i basics tt a in
      fails_same (ih (refs t) (i + 1) (omega arith) refl)
      λ k s.
      let o = s.after in
      last ts (read type) i s (omega arith) λ us j z f. f i (_, type_basic (kept_means z i basics a (omega arith))))
      λ _. fails (anew ts (read type) i refl l)

  pub at_refs : (t : Ty) (i : ℕ) → i ≤ length ts → Fails (Stop ts (refs t) i) (step ts (parse ts h) (refs t) i)
  unfolding step every
  at_refs t i l =
      fails_test _ _ _
      (λ a.
      fails_same (ih (refs (ref t)) (i + 1) (there ts i REF a (omega arith)) refl)
      λ k s.
      let o = s.after in
      last ts (refs t) i s (omega arith) λ us j z f. λ n q. f n (_, type_ref q.1 (kept_at z i (at ts i REF a) (omega arith))))
      λ _. fine

  pub at_result : (i : ℕ) → i ≤ length ts → Fails (Stop ts result i) (step ts (parse ts h) result i)
  unfolding step every
  at_result i l =
      fails_need _ i _ (λ _. anew ts result i refl l) λ d.
      let a = at ts i COLON d in
      fails_then _ (ih (read type) (i + 1) (there ts i COLON d (omega arith)) refl)
      (λ k s.
      let o = s.after in
      more ts result i (LBRACE ∷ []) refl s (omega arith) λ us n j z p t. (kept_at z i a (omega arith), close us p t))
      λ t k e.
      let p = right ts h (read type) (i + 1) e in
      let x = grows ts p in
      fails_need _ k _
      (λ _.
      stop ts result i k (LBRACE ∷ []) refl (omega arith) (within ts p) λ us j z s.
      (kept_at z i a (omega arith), close us (kept z p (omega arith)) s))
      λ _. fine

  pub at_entire : (i : ℕ) → i ≤ length ts → Fails (Stop ts entire i) (step ts (parse ts h) entire i)
  unfolding step every
  at_entire i l =
      fails_then _ (ih (read program) i l refl) (λ k s. last ts entire i s (omega arith) λ us j z p. p)
      λ q m d.
      let p = right ts h (read program) i d in
      let x = grows ts p in
      fails_need _ m _ (λ _. stop ts entire i m [] refl (omega arith) (within ts p) λ us j z s. to_end ts us s (kept z p (omega arith))) λ _. fine
