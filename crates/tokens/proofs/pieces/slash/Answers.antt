-- `slash` asks the byte behind for a comment.
use mathlib.Core.Path.{◌≡◌, sym, ◌∙◌}
use native.Mathlib.Omega.{arith}
use Rattle.language.proofs.Text.Pieces.{line_piece, comment_piece, open_piece}
use Rattle.language.proofs.Text.Spellings.{two_inside}
use Rattle.language.specs.Text.{byte, Stands, Opens}
use Rattle.language.specs.Text.WrongUnder.{opened}
use Rattle.language.specs.Tokens.{spell}
use Rattle.tokens.proofs.Editions.{laws_of}
use Rattle.tokens.proofs.FoundTokens.{plain_token}
use Rattle.tokens.proofs.PointMarks.{slash_plain, slash_mark}
use Rattle.tokens.specs.Found.{STROKE}
use Rattle.tokens.specs.Shown.{text_of}
use Rattle.tokens.proofs.pieces.slash.Goals as goal
use Rattle.tokens.proofs.pieces.slash.Goals.{Start, In-42, In-47}

-- a `/` stands there
stroke : (s : Start) → byte (text_of s.args.place.now.text.now) s.args.place.now.at ≡ STROKE
stroke s = sym s.args.place.now.is ∙ s.requires

-- `//` stands there
line : (c : In-47) → Stands (text_of c.args.place.now.text.now) c.args.place.now.at (spell "//")
line c =
    (sym c.args.place.now.is ∙ c.requires, (sym c.byte.ensures ∙ c.in-47.is, tt))

-- `/*` stands there
opens : (c : In-42) → Opens (text_of c.args.place.now.text.now) c.args.place.now.at
opens c =
    (sym c.args.place.now.is ∙ c.requires, (sym c.byte.ensures ∙ c.in-42.is, tt))

pub overflow_add-place : goal.overflow_add-place
overflow_add-place c =
    omega (arith, c.args.place.now.inside, c.args.place.now.near)

pub overflow_add-place-in-47 : goal.overflow_add-place-in-47
overflow_add-place-in-47 c =
    let a = c.args.place.now in
    let both = two_inside (text_of a.text.now) a.at 47 47 (line (goal.at.overflow_add-place-in-47 c).In-47) (omega arith) in
    omega (arith, both, a.near)

pub returns-in-47 : goal.returns-in-47
returns-in-47 c =
    let t = text_of c.args.place.now.text.now in
    let begun = line (goal.at.returns-in-47 c).In-47 in
    λ e. line_piece (laws_of e) t c.args.place.now.at c.run_end.result begun c.run_end.ensures

pub returns-in-Some : goal.returns-in-Some
returns-in-Some c =
    λ e. comment_piece (laws_of e) (text_of c.args.place.now.text.now) c.args.place.now.at _ c.in-Some.ensures

pub returns-in-None : goal.returns-in-None
returns-in-None c =
    let t = text_of c.args.place.now.text.now in
    λ e ts. opened (open_piece (laws_of e) t c.args.place.now.at (opens (goal.at.returns-in-None c).In-42) c.in-None.ensures)

pub overflow_add-result : goal.overflow_add-result
overflow_add-result c =
    omega (arith, c.args.place.now.inside, c.args.place.now.near)

pub returns-in_default : goal.returns-in_default
returns-in_default c =
    let behind = c.byte.ensures in
    let t = text_of c.args.place.now.text.now in
    let r = c.in_default.in_default-own.rest in
    let plain = slash_plain t c.args.place.now.at (stroke (goal.at.returns-in_default c).Start) (λ x. r.0.1 (behind ∙ x)) (λ x. r.1 (behind ∙ x)) in
    λ e. plain_token e plain.0.digit (slash_mark c.args.place.now.inside plain (stroke (goal.at.returns-in_default c).Start) e)
