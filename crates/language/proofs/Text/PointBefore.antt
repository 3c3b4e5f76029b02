-- Before numbers had points a point began no token, and stood in comments alone. So a text that split then splits so now (R08.8).
use lib.ListN.{length}
use mathlib.Core.Bool.{false, false≢true}
use mathlib.Core.List.{List}
use mathlib.Core.Path.{◌≡◌, refl, sym, subst}
use native.Mathlib.Omega.{arith}
use Prim.Native.Nat.{ℕ, ◌≤◌, ◌<◌}
use Rattle.language.proofs.Text.Marks.{Laws}
use Rattle.language.proofs.Text.OneSplit.{over, put, Later, here, step, from_start}
use Rattle.language.proofs.Text.Points.{Pointless, no_form, ends_at_point}
use Rattle.language.specs.Sizes.{Sizes}
use Rattle.language.specs.Text.{byte, Content, Form, Piece, Reaches, SplitsUnder, word_kind}
use Rattle.language.specs.Text.Form.{blank, line, comment, unended, name, number, based, float, mark}
use Rattle.language.specs.Text.Reaches.{start, skip, next}
use Rattle.language.specs.Tokens.{Vocabulary, Token}

-- the vocabulary of that time
abbrev pub without : Vocabulary → Vocabulary
without voc = record { words = voc.words; marks = voc.marks; bases = voc.bases; points = λ _. false }

laws_without : {voc : Vocabulary} → Laws voc → Laws (without voc)
laws_without laws = record { shapes = laws.shapes; leads = laws.leads; loose = λ a b p q. p; last = λ a p. p }

module _ {voc : Vocabulary} (laws : Laws voc) (bare : Pointless voc) (t : List ℕ) where
  lift_form : {p q : ℕ} {c : Content} → Form (without voc) t p q c → Form voc t p q c
  unfolding word_kind
  lift_form (blank h b e) = blank h b e
  lift_form (line s a b e) = line s a b e
  lift_form (comment d) = comment d
  lift_form (unended s n e) = unended s n e
  lift_form (name w l e) = name w l e
  lift_form (number w e) = number w e
  lift_form (based {base = base} s w e) = based {base = base} s w e
  lift_form (float h w e d l k g) = absurd (false≢true h)
  lift_form (mark {k = k} w e) = mark {k = k} w e

  lift_piece : {p q : ℕ} {c : Content} → (q < length t → byte t q ≡ 46 → ⊥) → Piece (without voc) t p q c → Piece voc t p q c
  unfolding word_kind
  lift_piece {p} {q} go x = record { form = lift_form x.form; longest = λ e d y. ends e d y }
    where
      ends : (e : ℕ) (d : Content) → Form voc t p e d → e ≤ q
      ends e d (blank h b z) = x.longest e _ (blank h b z)
      ends e d (line s a b z) = x.longest e _ (line s a b z)
      ends e d (comment z) = x.longest e _ (comment z)
      ends e d (unended s n z) = x.longest e _ (unended s n z)
      ends e d (name w l z) = x.longest e _ (name w l z)
      ends e d (number w z) = x.longest e _ (number w z)
      ends e d (based {base = base} s w z) = x.longest e _ (based {base = base} s w z)
      ends e d (float {m = m} h w z b l k g) =
          let f = ends_at_point (laws_without laws) t x w z b refl in
          absurd (go (omega arith) (subst (λ n. byte t n ≡ 46) (sym f) b))
      ends e d (mark {k = k} w z) = x.longest e _ (mark {k = k} w z)

  -- the split went on from q, so no point stood there
  goes_on : {q : ℕ} {us vs : List Token} → Later (without voc) t (length t) us q vs → q < length t → byte t q ≡ 46 → ⊥
  goes_on here h b = omega arith
  goes_on (step (over a x) l) h b = no_form (laws_without laws) t bare b a.form
  goes_on (step (put a k x) l) h b = no_form (laws_without laws) t bare b a.form

  onward : {us : List Token} {p : ℕ} {ts : List Token} → Later (without voc) t (length t) us p ts → Reaches voc t p ts → Reaches voc t (length t) us
  onward here r = r
  onward (step (over a x) l) r = onward l (subst (Reaches voc t _) (sym x) (skip r (lift_piece (goes_on l) a)))
  onward (step (put a h x) l) r = onward l (next r (lift_piece (goes_on l) a) h x)

  -- a text splits as before
  pub splits_with_points : {σ : Sizes} {us : List Token} → SplitsUnder σ (without voc) t us → SplitsUnder σ voc t us
  splits_with_points s = record { whole = onward (from_start s.whole here) start; few = s.few }
