-- What is written is the same sheet (R03.3): it passes with the same tree and type, runs the same, places aside, and written
-- again it is itself.
use mathlib.Core.List.{List, ◌++◌}
use mathlib.Core.Path.{◌≡◌, refl, sym, ap, subst, ◌∙◌}
use Prim.Native.Nat.{ℕ, ◌≤◌}
use native.Mathlib.Omega.{arith}
use lib.ListN.{length, take, drop}
use lib.Seq.{take-append_seam}
use Rattle.language.specs.Sizes.{Sizes, BOX}
use Rattle.language.specs.Tokens.{Token, SameButPlaces, same_none, same_more}
use Rattle.language.specs.Trees.{Ty, Program}
use Rattle.language.specs.Numbers.{passed}
use Rattle.language.specs.Answers.{PassesUnder, Lent, RunReport, RanUnder}
use Rattle.language.specs.Edition.{text_in_under}
use Rattle.language.specs.Writing.{behind, written_out, FitsUnder, WriteReport, write_report, WroteUnder}
use Rattle.language.specs.Writing.{write_short, write_refused, write_long, write_passed, WriteUnder}
use Rattle.language.proofs.Answers.Editions.{named_laws, text_in_lawful_under}
use Rattle.language.proofs.Answers.PlacesAside.{same_passes, SameRun, same_run}
use Rattle.language.proofs.Writing.ReadBack.{placed, placed_same, written_splits}

-- ---- what is written looks at no places

same_behind : {ts us : List Token} → SameButPlaces ts us → behind ts ≡ behind us
unfolding behind
same_behind same_none = refl
same_behind (same_more x s) = refl

pub same_written : {ts us : List Token} → SameButPlaces ts us → written_out ts ≡ written_out us
unfolding written_out
same_written same_none = refl
same_written (same_more x s) = rw (x.spelling, same_behind s, same_written s) refl

-- ---- the sheet and what is written of it

-- the bytes `text` are the sheet `source` written out, in the edition n
pub record SameSheetUnder (σ : Sizes) (n : ℕ) (source text : List ℕ) : Type 0 where
  pub tokens : List Token
  pub again : List Token
  pub program : Program
  pub type : Ty
  -- both pass with the same program of the same type
  pub passes : PassesUnder σ (text_in_under σ n source) tokens program type
  pub same_passes : PassesUnder σ (text_in_under σ n text) again program type
  -- the tokens are the same, places aside
  pub same : SameButPlaces tokens again
  -- a run of the one is a run of the other, but for a place, which is that of the same token; the bytes printed are the same
  pub runs : {l : Lent} {r : RunReport ℕ} {bs : List ℕ} → RanUnder σ (text_in_under σ n source) l r bs
      → (r' : RunReport ℕ) × RanUnder σ (text_in_under σ n text) l r' bs × SameRun (text_in_under σ n source) (text_in_under σ n text) tokens again r r'
  -- written again it is itself
  pub once : (table room : ℕ) → σ.table ≤ table → length text ≤ room
      → WroteUnder σ (text_in_under σ n text) table room (write_report passed 0 (length text)) text

-- under the box's sizes
abbrev pub SameSheet : ℕ → List ℕ → List ℕ → Type 0
SameSheet = SameSheetUnder BOX

module _ {σ : Sizes} (n : ℕ) (source : List ℕ) {ts : List Token} {p : Program} {t : Ty} (a : PassesUnder σ (text_in_under σ n source) ts p t)
    (short : length (written_out ts) ≤ σ.source) where
  given : (text_in_under σ n (written_out ts)).gives (placed 0 ts)
  given = record {
    words = a.given.words;
    named = a.given.named;
    given = record { short = short; splits = written_splits (named_laws n a.given.named) a.given.given.splits };
  }

  back : PassesUnder σ (text_in_under σ n (written_out ts)) (placed 0 ts) p t
  back = same_passes (text_in_lawful_under n source) a.given given (placed_same 0 ts) a

  itself : written_out (placed 0 ts) ≡ written_out ts
  itself = sym (same_written (placed_same 0 ts))

  again_fits : (room : ℕ) → length (written_out ts) ≤ room → FitsUnder σ (placed 0 ts) room
  again_fits room h = record { output = rw itself h; source = rw itself short }

  pub same_sheet : SameSheetUnder σ n source (written_out ts)
  same_sheet = record {
    tokens = ts;
    again = placed 0 ts;
    program = p;
    type = t;
    passes = a;
    same_passes = back;
    same = placed_same 0 ts;
    runs = λ r. same_run (text_in_lawful_under n source) a.given given (placed_same 0 ts) r;
    once = λ table room h k.
        subst (λ (s : List ℕ). WroteUnder σ (text_in_under σ n (written_out ts)) table room (write_report passed 0 (length s)) s) itself
        (write_passed h back (again_fits room k));
  }

-- ---- over the contract

-- the bytes that write has written are the sheet
pub written_sheet : {σ : Sizes} {n : ℕ} {source table output : List ℕ} {r : WriteReport ℕ} {t' o' : List ℕ}
    → WriteUnder σ (text_in_under σ n source) table output r t' o'
    → r.told ≡ passed → SameSheetUnder σ n source (take r.written o')
written_sheet {σ} {n} {source} {output = output} {o' = o'} a e = go a.answer e a.output_left
  where
    go : {m room : ℕ} {r : WriteReport ℕ} {s : List ℕ} → WroteUnder σ (text_in_under σ n source) m room r s → r.told ≡ passed
        → o' ≡ s ++ drop (length s) output → SameSheetUnder σ n source (take r.written o')
    go (write_short h) e f = let z : ◌≡◌ {A = ℕ} 0 1 = cc in absurd (omega arith)
    go (write_refused h a) e f = let z : ◌≡◌ {A = ℕ} 0 1 = cc in absurd (omega arith)
    go (write_long h a k) e f = let z : ◌≡◌ {A = ℕ} 0 1 = cc in absurd (omega arith)
    go (write_passed {ts = ts} h a k) e f =
        let s = written_out ts in
        subst (SameSheetUnder σ n source) (sym (ap (take (length s)) f ∙ take-append_seam s (drop (length s) output)))
        (same_sheet n source a k.source)
