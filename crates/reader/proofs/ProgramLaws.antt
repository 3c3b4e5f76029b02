-- The ways through `program` and `read`.
use mathlib.Core.List.{List, []}
use mathlib.Core.Path.{◌≡◌, sym, ap, subst, ◌∙◌}
use Rattle.std.specs.Prelude.{Ok, Err}
use Prim.Native.Nat.{ℕ, ◌+◌, ◌<◌}
use native.Mathlib.Omega.{arith}
use Rattle.language.specs.Sizes.{TOKENS}
use Rattle.language.specs.Tokens.{Token, DEF}
use Rattle.language.specs.Trees.{Program}
use Rattle.language.specs.Grammar.{before}
use Rattle.language.proofs.Executable.Settles.{settled_reading}
use Rattle.language.proofs.Grammar.FirstWrong.{place}
use Rattle.language.proofs.Executable.SettlesPrograms as S
use Rattle.layout.specs.Table.{kind_of, put_function, without_rows}
use Rattle.layout.specs.Names.{Stand}
use Rattle.layout.specs.declared.Held.{Held}
use Rattle.layout.specs.Rows.{lay, lay_def, def_rows, defs_rows, lay_defs, lay_program, main_row}
use Rattle.layout.proofs.TableLaws.{without_put_function}
use Rattle.phrases.specs.Parts.{Told, Yields, Seq}
use Rattle.phrases.specs.Words.{tree_at, none_at}
use Rattle.reader.specs.Definitions.{laid_at, Parsed, whole_at, Function, Sequel, DefAnswer, ProgramAnswer}
use Rattle.reader.specs.Findings.{Finds}
use Rattle.phrases.proofs.Standing.{at, not_at, stand_def}

-- an answer that is known
pub known_program : {T : Told Program} {count f c : ℕ} {w w' : List ℕ} {g h : Parsed} → ProgramAnswer T count w f c g w' → g ≡ h
    → ProgramAnswer T count w f c h w'
known_program {T} {count} {f} {c} {w} {w'} a e = subst (λ (x : Parsed). ProgramAnswer T count w f c x w') e a

-- ---- program, c functions being behind

module _ {count n f c : ℕ} {w w₁ : List ℕ} where
  -- `def`, and no function
  pub program_failed : {e : ℕ} → kind_of w count n ≡ DEF → DefAnswer (Function n) count w n f (none_at e) w₁
      → ProgramAnswer (Sequel n) count w f c (none_at e) w₁
  program_failed h a = record { told = λ ts s. S.program_failed (at n s h) (a.told ts s); clear = a.clear }

  -- a function, and another program or none
  module _ {m k : ℕ} {w₂ : List ℕ} (h : kind_of w count n ≡ DEF) (a : DefAnswer (Function n) count w n f (laid_at m k) w₁) (i : c < TOKENS)
      (q : w₂ ≡ put_function w₁ c f) where
    cleared : without_rows w₂ ≡ without_rows w
    cleared = ap without_rows q ∙ without_put_function w₁ c f i ∙ a.clear

    stand : (ts : List Token) → Stand w count ts → Stand w₂ count ts
    stand ts s = let x = a.told ts s in let l = x.laid in stand_def x.def f c f (cc) s

    -- whatever comes behind it
    pub program_more : {w₃ : List ℕ} (g : Parsed) → ProgramAnswer (Sequel m) count w₂ k (c + 1) g w₃ → ProgramAnswer (Sequel n) count w f c g w₃
    unfolding lay_defs defs_rows
    program_more {w₃} (Ok g) b = record {
      told = λ ts s.
          let x = a.told ts s in
          let y = b.told ts (stand ts s) in
          let p = y.program in
          let l₁ : w₁ ≡ lay_def w f x.def = x.laid in
          let e₁ : k ≡ f + def_rows x.def = x.past in
          let e₂ : k + defs_rows p.defs ≡ f + (def_rows x.def + defs_rows p.defs) = omega arith in
          let l₂ : w₃ ≡ lay (lay_defs w₂ k (c + 1) p.defs) (k + defs_rows p.defs) p.main = y.laid in
          record {
            program = before x.def p;
            told = S.program_def (at n s h) x.told y.told;
            count = omega (arith, y.count);
            top = omega (arith, y.top);
            laid = cc;
          };
      clear = b.clear ∙ cleared;
    }
    program_more (Err e) b = record {
      told = λ ts s. S.program_def (at n s h) (a.told ts s).told (b.told ts (stand ts s));
      clear = b.clear ∙ cleared;
    }

  -- no `def`
  module _ (h : kind_of w count n ≡ DEF → ⊥) where
    -- no Seq
    pub program_none : {e : ℕ} → Yields (Seq n) count w n f (none_at e) w₁ → ProgramAnswer (Sequel n) count w f c (none_at e) w₁
    program_none a = record { told = λ ts s. S.program_seq (not_at n s h) (a.told ts s); clear = a.clear }

    -- a Seq
    pub program_seq : {r m k : ℕ} → Yields (Seq n) count w n f (tree_at r m k) w₁
        → ProgramAnswer (Sequel n) count w f c (whole_at c r m) w₁
    unfolding lay_defs defs_rows
    program_seq a = record {
      told = λ ts s.
          let x = a.told ts s in
          let e : f ≡ f + 0 = omega arith in
          let l : w₁ ≡ lay w f x.tree = x.laid in
          record {
            program = record { defs = []; main = x.tree };
            told = S.program_seq (not_at n s h) x.told;
            count = omega arith;
            top = omega (arith, x.top);
            laid = cc;
          };
      clear = a.clear;
    }

-- ---- read

-- a program is held as three numbers say
held_is : {c d r c' d' r' : ℕ} → c ≡ c' → d ≡ d' → r ≡ r'
    → ◌≡◌ {A = Held} record { count = c; functions = d; root = r } record { count = c'; functions = d'; root = r' }
held_is a b c = λ i. record { count = a i; functions = b i; root = c i }

module _ {count : ℕ} {w w₁ : List ℕ} where
  -- nothing, or no program
  pub found_none : {e : ℕ} {w₂ : List ℕ} → ProgramAnswer (Sequel 0) count w 0 0 (none_at e) w₁ → w₂ ≡ without_rows w₁
      → (ts : List Token) → Stand w count ts → Finds ts w (none_at e) w₂
  found_none a q ts s = record { at = place ts (S.entire_failed (a.told ts s)); clear = q ∙ a.clear }

  module _ {d r m : ℕ} (a : ProgramAnswer (Sequel 0) count w 0 0 (whole_at d r m) w₁) where
    -- a program that ends too early
    pub found_short : {w₂ : List ℕ} → (m ≡ count → ⊥) → w₂ ≡ without_rows w₁ → (ts : List Token) → Stand w count ts
        → Finds ts w (none_at m) w₂
    found_short h q ts s =
        record { at = place ts (S.entire_short (a.told ts s).told (λ e. h (e ∙ s.long))); clear = q ∙ a.clear }

    -- a program
    pub found_program : m ≡ count → (ts : List Token) → Stand w count ts
        → Finds ts w (Ok record { count = count; functions = d; root = r }) w₁
    unfolding main_row lay_program
    found_program h ts s =
        let x = a.told ts s in
        let p = x.program in
        let e : 0 + defs_rows p.defs ≡ defs_rows p.defs = omega arith in
        let u = x.laid in
        record {
          program = p;
          reading = settled_reading (S.entire_got x.told (h ∙ sym s.long));
          held = held_is (sym s.long) (omega (arith, x.count)) (omega (arith, x.top));
          laid = cc;
        }
