-- From a sheet that was examined to the answer of write and of store.
use mathlib.Core.List.{List, []}
use mathlib.Core.Path.{◌≡◌, refl, sym, subst, ◌∙◌}
use Prim.Native.Nat.{ℕ, ◌≤◌, ◌<◌}
use Rattle.std.proofs.Common.{Ok, Err, Option, Some, None}
use lib.ListN.{length}
use Rattle.language.specs.Sizes.{TABLE}
use Rattle.language.specs.Answers.{left}
use Rattle.language.specs.Edition.{text_in}
use Rattle.language.specs.Writing as Writing
use Rattle.language.specs.Writing.{written_out, write_long, write_passed, Write, store_long, store_passed, Store}
use Rattle.language.specs.Stored.{stored}
use Rattle.numbers.specs.Meanings.{refusal_meant}
use Rattle.numbers.specs.declared.Refusal.{Refusal}
use Rattle.layout.specs.Table.{zeros}
use Rattle.numbers.specs.declared.Located.{Located}
use Rattle.sheets.specs.declared.Passed.{Passed}
use Rattle.layout.proofs.Wiped.{zeros_cleared}
use Rattle.writer.specs.Texts.{WritesOut}
use Rattle.writer.specs.Forms.{StoresOut}
use Rattle.sheets.specs.Sheets.{OfSource, Examined}
use Rattle.sheets.specs.Sheets.{Seen}
use Rattle.grumpy.specs.Reports.{Written, wrote_report}
use Rattle.grumpy.specs.Writings.{Tells, Lawful, answered, Rewrote, Readable, Rewritten, Served}

-- ---- a sheet that passes

pub rewrote_text : (source w : List ℕ) (count : ℕ) (out out' : List ℕ) (a : Option ℕ) → WritesOut source w count out out' a
    → Rewrote Writing.Wrote source w count out out' (answered a)
rewrote_text source w count out out' (Some n) x = record {
  told = λ edition ts p t table h y d.
      let z = x.told ts d y.given.given.splits in
      record { text = written_out ts; wrote = rw z.1 (write_passed h y z.0); output = z.2 };
}
rewrote_text source w count out out' None x = record {
  told = λ edition ts p t table h y d.
      let z = x.told ts d y.given.given.splits in
      record { text = []; wrote = write_long h y z.0; output = z.1 };
}

pub rewrote_stored : (source w : List ℕ) (count : ℕ) (out out' : List ℕ) (a : Option ℕ) → StoresOut source w count out out' a
    → Rewrote Writing.Stores source w count out out' (answered a)
rewrote_stored source w count out out' (Some n) x = record {
  told = λ edition ts p t table h y d.
      let z = x.told ts d y.given.given.splits in
      record { text = stored ts; wrote = rw z.1 (store_passed h y z.0); output = z.2 };
}
rewrote_stored source w count out out' None x = record {
  told = λ edition ts p t table h y d.
      let z = x.told ts d y.given.given.splits in
      record { text = []; wrote = store_long h y z.0; output = z.1 };
}

-- ---- any sheet

-- an examined sheet can be written
pub examined_readable : (edition : ℕ) (source w w₁ : List ℕ) (s : Seen) → Examined (text_in edition source) w w₁ s → Readable source w₁ s
examined_readable edition source w w₁ (Ok h) x =
    let p = x.told in
    record {
      words = p.passes.given.words;
      tokens = p.tokens;
      stand = p.holds.stand;
      room = p.holds.long;
      short = p.passes.given.given.short;
      splits = p.passes.given.given.splits;
    }
examined_readable edition source w w₁ (Err e) x = tt

module _ (tells : Tells) where
  pub rewritten_sheet : (source w out out' : List ℕ) (h : Passed) (s : Seen) (r : Written) → Rewrote tells source w h.program.count out out' r
      → s ≡ Ok h → Rewritten tells source w out out' s r
  rewritten_sheet source w out out' h s r x z = record {
    told = λ edition table l y.
        let p = subst (OfSource (text_in edition source) w) z y in
        x.told edition p.tokens p.program p.type table l p.passes p.holds.stand;
  }

  module _ (law : Lawful tells) where
    pub rewritten_refused : (source w out : List ℕ) (y : Located Refusal ℕ) (s : Seen) → s ≡ Err y
        → Rewritten tells source w out out s (Err y)
    rewritten_refused source w out y s z = record {
      told = λ edition table h a.
          let x = subst (OfSource (text_in edition source) w) z a in
          record { text = []; wrote = law.refuses edition table (length out) source (refusal_meant y.why) y.place h x; output = refl };
    }

    pub served_short : (edition : ℕ) (source w out : List ℕ) → length w < TABLE
        → Served tells edition source w out (Err (record { why = Refusal.ShortMemory; place = 0 })) w out
    unfolding left
    served_short edition source w out h = record {
      reported = record { text = []; wrote = law.short edition (length w) (length out) source h; output = refl };
      table_left = refl;
    }

    pub served_answered : (edition : ℕ) (source w out w₁ w₂ out' : List ℕ) (s : Seen) (r : Written) → TABLE ≤ length w
        → Examined (text_in edition source) w w₁ s → Rewritten tells source w₁ out out' s r → w₂ ≡ zeros w₁ 0 TABLE
        → Served tells edition source w out r w₂ out'
    served_answered edition source w out w₁ w₂ out' s r h x y e =
        let z = y.told edition (length w) h x.told in
        record {
          reported = z;
          table_left = e ∙ x.rest ∙ zeros_cleared TABLE w h
              ∙ sym (law.leaves edition (length w) (length out) source (wrote_report r) z.text h z.wrote w);
        }

-- ---- write and store

module _ (edition : ℕ) (source w out : List ℕ) (r : Written) (w' out' : List ℕ) where
  pub served_write : Served Writing.Wrote edition source w out r w' out' → Write (text_in edition source) w out (wrote_report r) w' out'
  served_write x = record {
    text = x.reported.text;
    answer = x.reported.wrote;
    table_left = x.table_left;
    output_left = x.reported.output;
  }

  pub served_store : Served Writing.Stores edition source w out r w' out' → Store (text_in edition source) w out (wrote_report r) w' out'
  served_store x = record {
    form = x.reported.text;
    answer = x.reported.wrote;
    table_left = x.table_left;
    output_left = x.reported.output;
  }
