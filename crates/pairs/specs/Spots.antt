-- What a spot means, and what is shown of it: a part of a sheet, with its bytes and where they lie.
use Rattle.std.specs.Borrow.{Bor}
use Rattle.std.specs.Prelude.{length, take, drop, List, ◌≡◌, ℕ, ◌+◌, ◌-◌, ◌≤◌, ◌<◌}
use Rattle.language.specs.Pairs.{Place}
use Rattle.pairs.specs.declared.Spot.{Spot}

abbrev pub meant : Spot → Place
meant s = record { sheet = s.sheet; at = s.at; begins = s.begin; ends = s.end }

-- r is the part of the lent sheet from a up to e: it has those bytes, and it lies where they lie, in the sheet's own
-- memory
pub record Part (sheet : Bor (List ℕ)) (a e : ℕ) (r : Bor (List ℕ)) : Type 0 where
  pub ordered : a ≤ e
  pub fits : e ≤ length sheet.now
  pub bytes : r.now ≡ take (e - a) (drop a sheet.now)
  pub lies : r.ref_ptr ≡ (sheet.ref_ptr.0, a + sheet.ref_ptr.1)

-- the part from a up to e; where there is none, the empty part at the sheet's front
pub record Cut (sheet : Bor (List ℕ)) (a e : ℕ) (r : Bor (List ℕ)) : Type 0 where
  pub whole : a ≤ e → e ≤ length sheet.now → Part sheet a e r
  pub crossed : e < a → Part sheet 0 0 r
  pub past : length sheet.now < e → Part sheet 0 0 r

-- r is what is shown at a spot: of sheet 2 in the second, and else in the first
pub record Shows (first second : Bor (List ℕ)) (s : Spot) (r : Bor (List ℕ)) : Type 0 where
  pub in_second : s.sheet ≡ 2 → Cut second s.begin s.end r
  pub in_first : (s.sheet ≡ 2 → ⊥) → Cut first s.begin s.end r
