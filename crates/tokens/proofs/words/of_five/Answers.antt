-- `of_five` compares a name of five bytes with the words of that length that begin with its first byte.
use lib.Dec.{lit<}
use mathlib.Core.Path.{refl, sym, ◌∙◌}
use Prim.Native.Char.{code}
use Rattle.language.proofs.Text.Tables.{every}
use Rattle.language.specs.Tokens.{spell}
use Rattle.tokens.proofs.FirstBytes.{begins_so}
use Rattle.tokens.proofs.WordRows.{fits, left, by_first, no_first}
use Rattle.tokens.specs.Shown.{text_of}
use Rattle.tokens.proofs.words.of_five.Goals as goal

pub returns-in-102 : goal.returns-in-102
unfolding left fits
returns-in-102 c =
    by_first ((text_of c.args.text.now)) c.args.p 5 (code "f") (lit< tt) c.requires
    (sym c.byte.ensures ∙ c.in-102.is) refl c.either.ensures

pub returns-in-119 : goal.returns-in-119
unfolding left fits
returns-in-119 c =
    by_first ((text_of c.args.text.now)) c.args.p 5 (code "w") (lit< tt) c.requires
    (sym c.byte.ensures ∙ c.in-119.is) refl c.only.ensures

pub returns-in_default : goal.returns-in_default
unfolding every begins_so
returns-in_default c =
    no_first ((text_of c.args.text.now)) c.args.p 4 _ (spell "wf") c.requires c.byte.ensures
    refl refl c.in_default.in_default-own.rest
