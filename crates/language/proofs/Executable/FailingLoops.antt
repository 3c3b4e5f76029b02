-- Counted loops: what was passed when they fail can be completed.
use mathlib.Core.Bool.{Bool, true, ◌&&◌}
use mathlib.Core.List.{List, [], ◌∷◌}
use mathlib.Core.Path.{◌≡◌, refl, ap}
use Prim.Native.Nat.{ℕ, ◌+◌, ◌≤◌, ◌<◌}
use native.Mathlib.Omega.{arith}
use lib.ListN.{length}
use Rattle.language.specs.Tokens.{Token, At, NAME, NUMBER, IN, LBRACE, RBRACE, FOR, BY, UPTO}
use Rattle.language.specs.Grammar.{or, chain, tier, counting, bounds, ranges, bounds_two, bounds_three}
use Rattle.language.proofs.Grammar.Entries.{every}
use Rattle.language.proofs.Grammar.FirstTokens.{grows}
use Rattle.language.proofs.Grammar.Prefixes.{in_table, within, kept_at, kept_means, kept}
use Rattle.language.proofs.Executable.Parser.{read, until, step, parse}
use Rattle.language.proofs.Executable.ParserSound.{right, at}
use Rattle.language.proofs.Executable.Locality.{there}
use Rattle.language.proofs.Executable.Fresh.{ended, clause_for, to_for, fresh_end, fresh_for, fresh_for_in, fresh_for_body}
use Rattle.language.proofs.Executable.Usable.{all_usable, looped, looped_at, looped_more}
use Rattle.language.proofs.Executable.Failing.{Fails, fails, fine, fails_made, fails_past, fails_then, fails_test}
use Rattle.language.proofs.Executable.Failing.{fails_look, fails_need, Stop, Able, stop, anew, last, more}

module _ (ts : List Token) where
  -- behind a `for` its mark can be had
  end_known : (e : ℕ) → looped ts e ≡ true → all_usable (looped ts e) (UPTO ∷ NUMBER ∷ []) ≡ true
  end_known e h = ap (λ (x : Bool). x && true) h

  upto_known : {i : ℕ} (e : ℕ) → i < e → At ts i FOR
      → all_usable (looped ts e) (UPTO ∷ NUMBER ∷ LBRACE ∷ NUMBER ∷ RBRACE ∷ []) ≡ true
  upto_known {i} e h a = ap (λ (x : Bool). x && true) (looped_at ts i e h a)

module _ (ts : List Token) (h : ℕ) (ih : Able ts h) where
  pub at_counting : (i : ℕ) → i ≤ length ts → Fails (Stop ts (read counting) i) (step ts (parse ts h) (read counting) i)
  unfolding step every
  at_counting i l =
      fails_need _ i _ (λ _. anew ts (read counting) i refl l) λ d.
      let a = at ts i FOR d in
      let a' = there ts i FOR d (omega arith) in
      fails_need _ (i + 1) _
      (λ _.
      stop ts (read counting) i (i + 1) (NAME ∷ IN ∷ NUMBER ∷ UPTO ∷ NUMBER ∷ LBRACE ∷ NUMBER ∷ RBRACE ∷ [])
      (upto_known ts (i + 1) (omega arith) a) (omega arith) a' λ us j z s. clause_for us (fresh_for us i (kept_at z i a (omega arith)) s))
      λ e.
      let b = at ts (i + 1) NAME e in
      let b' = there ts (i + 1) NAME e (omega arith) in
      fails_need _ (i + 2) _
      (λ _.
      stop ts (read counting) i (i + 2) (IN ∷ NUMBER ∷ UPTO ∷ NUMBER ∷ LBRACE ∷ NUMBER ∷ RBRACE ∷ []) (upto_known ts (i + 2) (omega arith) a) (omega arith)
      (omega arith) λ us j z s. clause_for us (fresh_for_in us i (kept_at z i a (omega arith)) (kept_at z (i + 1) b (omega arith)) s))
      λ f.
      let c = at ts (i + 2) IN f in
      let c' = there ts (i + 2) IN f (omega arith) in
      fails_then _ (ih (read bounds) (i + 3) (omega arith) (looped_at ts i (i + 3) (omega arith) a))
      (λ k s.
      let o = s.after in
      more ts (read counting) i (LBRACE ∷ NUMBER ∷ RBRACE ∷ []) refl s (omega arith) λ us n j z p t.
      clause_for us
      (fresh_for_body us i (kept_at z i a (omega arith)) (kept_at z (i + 1) b (omega arith)) (kept_at z (i + 2) c (omega arith)) p t))
      λ r m u.
      let p = right ts h (read bounds) (i + 3) u in
      let x = grows ts p in
      fails_need _ m _
      (λ _.
      stop ts (read counting) i m (LBRACE ∷ NUMBER ∷ RBRACE ∷ []) refl (omega arith) (within ts p) λ us j z s.
      clause_for us
      (fresh_for_body us i (kept_at z i a (omega arith)) (kept_at z (i + 1) b (omega arith)) (kept_at z (i + 2) c (omega arith))
      (kept z p (omega arith)) s))
      λ g.
      let d' = at ts m LBRACE g in
      fails_past _ (ih (until RBRACE) (m + 1) (there ts m LBRACE g (omega arith)) refl)
      λ k s.
      let o = s.after in
      last ts (read counting) i s (omega arith) λ us j z q.
      clause_for us
      (to_for us (kept_at z i a (omega arith)) (kept_at z (i + 1) b (omega arith)) (kept_at z (i + 2) c (omega arith))
      (ended (kept z p (omega arith)) (kept_at z m d' (omega arith))) q)

  pub at_bounds : (i : ℕ) → i ≤ length ts → looped ts i ≡ true → Fails (Stop ts (read bounds) i) (step ts (parse ts h) (read bounds) i)
  unfolding step every
  at_bounds i l looping =
      fails_then _ (ih (read (tier (chain or))) i l refl)
      (λ k s.
      let u = end_known ts k (looped_more ts i k s.after looping) in
      more ts (read bounds) i (UPTO ∷ NUMBER ∷ []) u s (omega arith) λ us n j z p t. fresh_end us i p t)
      λ e m d.
      let p = right ts h (read (tier (chain or))) i d in
      let x = grows ts p in
      fails_look _ _ _
      (λ b a.
      let there_m = in_table ts m ranges tt a in
      fails_then _ (ih (read (tier (chain or))) (m + 1) (omega arith) refl)
      (λ k s.
      let o = s.after in
      last ts (read bounds) i s (omega arith) λ us j z q.
      (_, bounds_two (kept z p (omega arith)).1 (kept_means z m ranges a (omega arith)) q.1))
      λ f k u.
      let q = right ts h (read (tier (chain or))) (m + 1) u in
      let y = grows ts q in
      fails_test _ _ _
      (λ c.
      fails_made _ (ih (read (tier (chain or))) (k + 1) (there ts k BY c (omega arith)) refl)
      λ n s.
      let o = s.after in
      last ts (read bounds) i s (omega arith) λ us j z r. (
        _,
        bounds_three (kept z p (omega arith)).1 (kept_means z m ranges a (omega arith)) (kept z q (omega arith)).1
            (kept_at z k (at ts k BY c) (omega arith)) r.1,
      ))
      λ _. fine)
      λ _.
      let u = end_known ts m (looped_more ts i m (omega arith) looping) in
      fails (stop ts (read bounds) i m (UPTO ∷ NUMBER ∷ []) u (omega arith) (within ts p) λ us j z s. fresh_end us i (kept z p (omega arith)) s)
