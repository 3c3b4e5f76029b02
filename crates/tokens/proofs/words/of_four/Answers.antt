-- `of_four` compares a name of four bytes with the words of that length that begin with its first byte.
use lib.Dec.{lit<}
use mathlib.Core.Path.{refl, sym, ◌∙◌}
use Prim.Native.Char.{code}
use Rattle.language.proofs.Text.Tables.{every}
use Rattle.language.specs.Tokens.{spell}
use Rattle.tokens.proofs.FirstBytes.{begins_so}
use Rattle.tokens.proofs.WordRows.{fits, left, by_first, no_first}
use Rattle.tokens.specs.Shown.{text_of}
use Rattle.tokens.proofs.words.of_four.Goals as goal

pub returns-in-98 : goal.returns-in-98
unfolding left fits
returns-in-98 c =
    by_first ((text_of c.args.text.now)) c.args.p 4 (code "b") (lit< tt) c.requires
    (sym c.byte.ensures ∙ c.in-98.is) refl c.only.ensures

pub returns-in-101 : goal.returns-in-101
unfolding left fits
returns-in-101 c =
    by_first ((text_of c.args.text.now)) c.args.p 4 (code "e") (lit< tt) c.requires
    (sym c.byte.ensures ∙ c.in-101.is) refl c.only-in-101.ensures

pub returns-in-116 : goal.returns-in-116
unfolding left fits
returns-in-116 c =
    by_first ((text_of c.args.text.now)) c.args.p 4 (code "t") (lit< tt) c.requires
    (sym c.byte.ensures ∙ c.in-116.is) refl c.either.ensures

pub returns-in-117 : goal.returns-in-117
unfolding left fits
returns-in-117 c =
    by_first ((text_of c.args.text.now)) c.args.p 4 (code "u") (lit< tt) c.requires
    (sym c.byte.ensures ∙ c.in-117.is) refl c.only-in-117.ensures

pub returns-in_default : goal.returns-in_default
unfolding every begins_so
returns-in_default c =
    no_first ((text_of c.args.text.now)) c.args.p 3 _ (spell "uteb") c.requires c.byte.ensures
    refl refl c.in_default.in_default-own.rest
