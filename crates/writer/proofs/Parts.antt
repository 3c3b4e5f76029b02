-- Parts put one behind the other at the start of lent bytes.
use lib.ListN.{length, get_or, take, drop, set, length-append}
use lib.Seq.{slice, paste, paste-suc, take-length, take_at, take-append_seam}
use lib.Seq.{drop-append-add, drop-drop, get_or-append_seam, get_or-take, get_or-drop, length-slice}
use mathlib.Core.List.{List, [], ◌∷◌, ◌++◌}
use mathlib.Core.Path.{◌≡◌, refl, sym, ◌∙◌, ap}
use native.Mathlib.Numerals.{add-one}
use native.Mathlib.Omega.{arith}
use Prim.Native.Nat.{ℕ, suc, ◌+◌, ◌-◌, ◌≤◌, ◌<◌}
use Rattle.writer.specs.Texts.{Put, Front}

-- all these bytes stand first, up to a place, and what was behind them is as before
pub record Begun (done entry now : List ℕ) (at : ℕ) : Type 0 where
  pub ends : at ≡ length done
  pub room : at ≤ length entry
  pub held : now ≡ done ++ drop at entry

-- at first nothing is put
pub begun_none : (entry : List ℕ) → Begun [] entry entry 0
begun_none entry = record { ends = refl; room = omega arith; held = refl }

-- one part more
pub begun_more : {done entry now next : List ℕ} {at end : ℕ} (part : List ℕ) → Begun done entry now at
    → at + length part ≤ length entry → Put now next part at end → Begun (done ++ part) entry next end
begun_more {done} {entry} {now} {next} {at} {end} part g room p =
    let rest : List ℕ = drop at entry in
    let first : take at now ≡ done = rw g.held (take_at done rest at (sym g.ends)) in
    let behind : drop (at + length part) (done ++ rest) ≡ drop (length part) rest =
    ap (λ (k : ℕ). drop (k + length part) (done ++ rest)) g.ends ∙ drop-append-add done rest (length part) in
    let last : drop (at + length part) now ≡ drop end entry =
    rw (g.held, p.0) (behind ∙ drop-drop (length part) at entry) in
    record {
      ends = omega (arith, p.0, g.ends, length-append done part);
      room = omega (arith, p.0);
      held = p.1 ∙ rw (first, take-length part, last);
    }

-- all of them stand first
pub begun_front : {done entry now : List ℕ} {at : ℕ} (all : List ℕ) → Begun done entry now at → done ≡ all → Front all entry now
begun_front {done} {entry} all g e =
    g.held ∙ ap (λ (k : ℕ). done ++ drop k entry) g.ends ∙ ap (λ (s : List ℕ). s ++ drop (length s) entry) e

-- ---- a part byte for byte

-- of the bytes from `from` up to `to` of a source, one more
pub copied_one : (entry source : List ℕ) (from to at i : ℕ) {now : List ℕ} → at + i < length entry → to ≤ length source → i < to - from
    → now ≡ paste entry at (slice from to source) i
    → set now (at + i) (get_or source (from + i) 0) ≡ paste entry at (slice from to source) (i + 1)
copied_one entry source from to at i h k l e =
    let s = slice from to source in
    let b : get_or s i 0 ≡ get_or source (from + i) 0 = get_or-drop from (take to source) i 0 ∙ get_or-take to source (from + i) 0 (omega arith) in
    rw (e, ← b, add-one i) (paste-suc entry at s i 0 h (omega (arith, length-slice from to source k)))

-- all of them
pub copied_all : (entry source now : List ℕ) (from to at i : ℕ) → to ≤ length source → i ≤ to - from → to - from ≤ i
    → now ≡ paste entry at (slice from to source) i → Put entry now (slice from to source) at (at + (to - from))
copied_all entry source now from to at i h k l e =
    let n = length-slice from to source h in
    let z : i ≡ length (slice from to source) = omega arith in
    (omega arith, e ∙ ap (λ (j : ℕ). paste entry at (slice from to source) j) z)

-- the byte behind a part
pub put_mark : (entry s : List ℕ) (b at end : ℕ) {now : List ℕ} → at + length s < length entry → Put entry now s at end
    → Put entry (set now end b) (s ++ (b ∷ [])) at (end + 1)
put_mark entry s b at end h p =
    let l = length-append s (b ∷ []) in
    let c : get_or (s ++ (b ∷ [])) (length s) 0 ≡ b = get_or-append_seam s b [] 0 in
    let n : length (s ++ (b ∷ [])) ≡ suc (length s) = omega arith in
    let whole = paste-suc entry at (s ++ (b ∷ [])) (length s) 0 h (omega arith) in
    let same : paste entry at (s ++ (b ∷ [])) (length s) ≡ paste entry at s (length s) =
    rw (take-append_seam s (b ∷ []), take-length s) refl in
    (omega (arith, p.0), rw (p.1, p.0, n) (rw (same, c) at whole))
