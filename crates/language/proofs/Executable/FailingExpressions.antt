-- Sequences and operators: what was passed when they fail can be completed.
use mathlib.Core.Bool.{false, true}
use mathlib.Core.List.{List, [], ◌∷◌}
use mathlib.Core.Path.{◌≡◌, refl}
use Prim.Native.Nat.{ℕ, ◌+◌, ◌≤◌}
use native.Mathlib.Omega.{arith}
use lib.ListN.{length}
use Rattle.language.specs.Tokens.{Token, NAME, NUMBER, LET, IN, WHILE, IF, THEN, ELSE, BECOMES, IS, SEMI, LBRACE, RBRACE}
use Rattle.language.specs.Trees.{Exp, binary}
use Rattle.language.specs.Grammar.{Level, or, sum, cmp, un, chain, tier, seq, tail, bound, item, assign, atom, part, operators, comparisons}
use Rattle.language.specs.Grammar.{prefixes, seq_more, assign_one, assign_to, chain_one, chain_more, cmp_one, cmp_two, un_prefix, un_atom, counting}
use Rattle.language.proofs.Grammar.Entries.{every}
use Rattle.language.proofs.Grammar.FirstTokens.{grows}
use Rattle.language.proofs.Grammar.Prefixes.{inside, in_table, operator_there, within, kept_at, kept_means, kept}
use Rattle.language.proofs.Executable.Parser.{read, rest, clause, until, step, parse}
use Rattle.language.proofs.Executable.ParserSound.{right, at, clause_seq, clause_item}
use Rattle.language.proofs.Executable.Locality.{there}
use Rattle.language.proofs.Executable.Fresh as Fresh
use Rattle.language.proofs.Executable.Fresh.{split, ended, to_let, clause_let, clause_assign, to_if}
use Rattle.language.proofs.Executable.Fresh.{to_while, close, fresh_until, fresh_is, fresh_let, fresh_fits}
use Rattle.language.proofs.Executable.Usable.{usable, all_usable, usable_both, usable_one, looped}
use Rattle.language.proofs.Executable.Failing.{Fails, fine, fails_same, fails_made, fails_past, fails_then}
use Rattle.language.proofs.Executable.Failing.{fails_test, fails_look, fails_need, Stop, Able, stop, anew, last, more}

module _ (ts : List Token) (h : ℕ) (ih : Able ts h) where
  pub at_seq : (i : ℕ) → i ≤ length ts → Fails (Stop ts (read seq) i) (step ts (parse ts h) (read seq) i)
  unfolding step every
  at_seq i l =
      fails_then _ (ih clause i l refl) (λ k s. last ts (read seq) i s (omega arith) λ us j z p. Fresh.clause_seq us p)
      λ e m d.
      let p = right ts h clause i d in
      let x = grows ts (clause_seq ts p) in
      fails_test _ _ _
      (λ a.
      fails_made _ (ih (read seq) (m + 1) (there ts m SEMI a (omega arith)) refl)
      λ k s.
      let o = s.after in
      let b = at ts m SEMI a in
      last ts (read seq) i s (omega arith) λ us j z q.
      (_, seq_more (kept z (clause_item ts p b) (omega arith)).1 (kept_at z m b (omega arith)) q.1))
      λ _. fine

  pub at_bound : (i : ℕ) → i ≤ length ts → Fails (Stop ts (read bound) i) (step ts (parse ts h) (read bound) i)
  unfolding step every
  at_bound i l =
      fails_need _ i _ (λ _. anew ts (read bound) i refl l) λ d.
      let a = at ts i LET d in
      let a' = there ts i LET d (omega arith) in
      fails_need _ (i + 1) _
      (λ _.
      stop ts (read bound) i (i + 1) (NAME ∷ IS ∷ NUMBER ∷ IN ∷ NUMBER ∷ []) refl (omega arith) a' λ us j z s.
      fresh_let us i (kept_at z i a (omega arith)) s)
      λ e.
      let b = at ts (i + 1) NAME e in
      let b' = there ts (i + 1) NAME e (omega arith) in
      fails_need _ (i + 2) _
      (λ _.
      stop ts (read bound) i (i + 2) (IS ∷ NUMBER ∷ IN ∷ NUMBER ∷ []) refl (omega arith) (omega arith) λ us j z s.
      fresh_is us i (kept_at z i a (omega arith)) (kept_at z (i + 1) b (omega arith)) s)
      λ f.
      let c = at ts (i + 2) IS f in
      let c' = there ts (i + 2) IS f (omega arith) in
      fails_then _ (ih (until IN) (i + 3) (omega arith) refl)
      (λ k s.
      let o = s.after in
      more ts (read bound) i (NUMBER ∷ []) refl s (omega arith) λ us n j z p t.
      to_let us (kept_at z i a (omega arith)) (kept_at z (i + 1) b (omega arith)) (kept_at z (i + 2) c (omega arith)) p (fresh_fits us (read seq) t))
      λ x m u.
      let p = right ts h (until IN) (i + 3) u in
      let y = grows ts p.0 in
      fails_made _ (ih (read seq) (m + 1) (omega (arith, inside ts m p.1 (omega arith))) refl)
      λ k s.
      let o = s.after in
      last ts (read bound) i s (omega arith) λ us j z q.
      to_let us (kept_at z i a (omega arith)) (kept_at z (i + 1) b (omega arith)) (kept_at z (i + 2) c (omega arith))
      (ended (kept z p.0 (omega arith)) (kept_at z m p.1 (omega arith))) q

  pub at_clause : (i : ℕ) → i ≤ length ts → Fails (Stop ts clause i) (step ts (parse ts h) clause i)
  unfolding step every
  at_clause i l =
      fails_test _ _ _ (λ _. fails_same (ih (read bound) i l refl) λ k s. last ts clause i s (omega arith) λ us j z p. clause_let us p)
      λ _.
      fails_test _ _ _
      (λ d.
      let a = at ts i IF d in
      let a' = there ts i IF d (omega arith) in
      fails_then _ (ih (until THEN) (i + 1) a' refl)
      (λ k s.
      let o = s.after in
      more ts clause i (NUMBER ∷ ELSE ∷ NUMBER ∷ []) refl s (omega arith) λ us n j z p t.
      let y = split (NUMBER ∷ ELSE ∷ []) (NUMBER ∷ []) t in
      to_if us (kept_at z i a (omega arith)) p (fresh_until us ELSE y.1) (fresh_fits us clause y.2))
      λ c m u.
      let p = right ts h (until THEN) (i + 1) u in
      let x = grows ts p.0 in
      fails_then _ (ih (until ELSE) (m + 1) (omega (arith, inside ts m p.1 (omega arith))) refl)
      (λ k s.
      let o = s.after in
      more ts clause i (NUMBER ∷ []) refl s (omega arith) λ us n j z q t.
      to_if us (kept_at z i a (omega arith)) (ended (kept z p.0 (omega arith)) (kept_at z m p.1 (omega arith))) q
      (fresh_fits us clause t))
      λ e k v.
      let q = right ts h (until ELSE) (m + 1) v in
      let y = grows ts q.0 in
      fails_made _ (ih clause (k + 1) (omega (arith, inside ts k q.1 (omega arith))) refl)
      λ n s.
      let o = s.after in
      last ts clause i s (omega arith) λ us j z w.
      to_if us (kept_at z i a (omega arith)) (ended (kept z p.0 (omega arith)) (kept_at z m p.1 (omega arith)))
      (ended (kept z q.0 (omega arith)) (kept_at z k q.1 (omega arith))) w)
      λ _.
      fails_test _ _ _
      (λ d.
      let a = at ts i WHILE d in
      let a' = there ts i WHILE d (omega arith) in
      fails_then _ (ih (until LBRACE) (i + 1) a' refl)
      (λ k s.
      let o = s.after in
      more ts clause i (NUMBER ∷ RBRACE ∷ []) refl s (omega arith) λ us n j z p t.
      to_while us (kept_at z i a (omega arith)) p (fresh_until us RBRACE t))
      λ c m u.
      let p = right ts h (until LBRACE) (i + 1) u in
      let x = grows ts p.0 in
      fails_past _ (ih (until RBRACE) (m + 1) (omega (arith, inside ts m p.1 (omega arith))) refl)
      λ k s.
      let o = s.after in
      last ts clause i s (omega arith) λ us j z q.
      to_while us (kept_at z i a (omega arith)) (ended (kept z p.0 (omega arith)) (kept_at z m p.1 (omega arith))) q)
      λ _.
      fails_test _ _ _ (λ _. fails_same (ih (read counting) i l refl) λ k s. last ts clause i s (omega arith) λ us j z p. p)
      λ _.
      fails_same (ih (read assign) i l refl) λ k s. last ts clause i s (omega arith) λ us j z p. clause_assign us p

  pub at_tail : (i : ℕ) → i ≤ length ts → Fails (Stop ts (read tail) i) (step ts (parse ts h) (read tail) i)
  unfolding step
  at_tail i l = fails_same (ih clause i l refl) λ k s. last ts (read tail) i s (omega arith) λ us j z p. p

  pub at_item : (i : ℕ) → i ≤ length ts → Fails (Stop ts (read item) i) (step ts (parse ts h) (read item) i)
  unfolding step
  at_item i l = fails_same (ih clause i l refl) λ k s. last ts (read item) i s (omega arith) λ us j z p. p

  pub at_assign : (i : ℕ) → i ≤ length ts → Fails (Stop ts (read assign) i) (step ts (parse ts h) (read assign) i)
  unfolding step every
  at_assign i l =
      fails_then _ (ih (read (tier (chain or))) i l refl) (λ k s. last ts (read assign) i s (omega arith) λ us j z p. (_, assign_one p.1))
      λ e m d.
      let p = right ts h (read (tier (chain or))) i d in
      let x = grows ts p in
      fails_test _ _ _
      (λ a.
      fails_made _ (ih (read (tier (chain or))) (m + 1) (there ts m BECOMES a (omega arith)) refl)
      λ k s.
      let o = s.after in
      last ts (read assign) i s (omega arith) λ us j z q.
      (_, assign_to (kept z p (omega arith)).1 (kept_at z m (at ts m BECOMES a) (omega arith)) q.1))
      λ _. fine

  pub at_chain : (v : Level) (i : ℕ) → i ≤ length ts → Fails (Stop ts (read (tier (chain v))) i) (step ts (parse ts h) (read (tier (chain v))) i)
  unfolding step every
  at_chain v i l =
      fails_then _ (ih (read (tier (part v))) i l refl)
      (λ k s. last ts (read (tier (chain v))) i s (omega arith) λ us j z p. (_, chain_one p.1))
      λ e m d.
      let p = right ts h (read (tier (part v))) i d in
      let x = grows ts p in
      fails_same (ih (rest v e) m (within ts p) refl)
      λ k s. last ts (read (tier (chain v))) i s (omega arith) λ us j z f. f i (_, chain_one (kept z p s.after).1)

  pub at_cmp : (i : ℕ) → i ≤ length ts → Fails (Stop ts (read (tier cmp)) i) (step ts (parse ts h) (read (tier cmp)) i)
  unfolding step every
  at_cmp i l =
      fails_then _ (ih (read (tier (chain sum))) i l refl) (λ k s. last ts (read (tier cmp)) i s (omega arith) λ us j z p. (_, cmp_one p.1))
      λ e m d.
      let p = right ts h (read (tier (chain sum))) i d in
      let x = grows ts p in
      fails_look _ _ _
      (λ y a.
      let b = in_table ts m comparisons tt a in
      fails_made _ (ih (read (tier (chain sum))) (m + 1) (omega arith) refl)
      λ k s.
      let o = s.after in
      last ts (read (tier cmp)) i s (omega arith) λ us j z q.
      (_, cmp_two (kept z p (omega arith)).1 (kept_means z m comparisons a (omega arith)) q.1))
      λ _. fine

  pub at_un : (i : ℕ) → i ≤ length ts → Fails (Stop ts (read (tier un)) i) (step ts (parse ts h) (read (tier un)) i)
  unfolding step every
  at_un i l =
      fails_look _ _ _
      (λ y a.
      let b = in_table ts i prefixes tt a in
      fails_made _ (ih (read (tier un)) (i + 1) (omega arith) refl)
      λ k s.
      let o = s.after in
      last ts (read (tier un)) i s (omega arith) λ us j z p. (_, un_prefix (kept_means z i prefixes a (omega arith)) p.1))
      λ _.
      fails_same (ih (read atom) i l refl) λ k s. last ts (read (tier un)) i s (omega arith) λ us j z p. (_, un_atom p.1)

  pub at_rest : (v : Level) (e : Exp) (i : ℕ) → i ≤ length ts → Fails (Stop ts (rest v e) i) (step ts (parse ts h) (rest v e) i)
  unfolding step every
  at_rest v e i l =
      fails_look _ _ _
      (λ y a.
      let b = operator_there ts v i a in
      fails_then _ (ih (read (tier (part v))) (i + 1) b refl)
      (λ k s.
      let o = s.after in
      last ts (rest v e) i s (omega arith) λ us j z p. λ n q. (_, chain_more q.1 (kept_means z i (operators v) a (omega arith)) p.1))
      λ x m d.
      let p = right ts h (read (tier (part v))) (i + 1) d in
      let g = grows ts p in
      fails_same (ih (rest v (binary i y e x)) m (within ts p) refl)
      λ k s.
      let o = s.after in
      last ts (rest v e) i s (omega arith) λ us j z f. λ n q.
      f n (_, chain_more q.1 (kept_means z i (operators v) a (omega arith)) (kept z p (omega arith)).1))
      λ _. fine

  pub at_until : (c : ℕ) (i : ℕ) → i ≤ length ts → usable false c ≡ true → Fails (Stop ts (until c) i) (step ts (parse ts h) (until c) i)
  unfolding step every
  at_until c i l known =
      let u : (e : ℕ) → all_usable (looped ts e) (c ∷ []) ≡ true = λ e. usable_one (looped ts e) c (usable_both (looped ts e) c known) in
      fails_then _ (ih (read seq) i l refl) (λ k s. more ts (until c) i (c ∷ []) (u k) s (omega arith) λ us n j z p t. close us p t)
      λ e m d.
      let p = (right ts h (read seq) i d).0 in
      let x = grows ts p in
      fails_need _ m _ (λ _. stop ts (until c) i m (c ∷ []) (u m) (omega arith) (within ts p) λ us j z t. close us (kept z p (omega arith)) t) λ _.
      fine
