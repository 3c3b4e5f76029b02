-- `of_two` compares a name of two bytes with the words of that length that begin with its first byte.
use lib.Dec.{lit<}
use mathlib.Core.Path.{refl, sym, ◌∙◌}
use Prim.Native.Char.{code}
use Rattle.language.proofs.Text.Tables.{every}
use Rattle.language.specs.Tokens.{spell, BY}
use Rattle.tokens.proofs.FirstBytes.{begins_so}
use Rattle.tokens.proofs.WordRows.{fits, left, by_first, by_added, no_first}
use Rattle.tokens.specs.Shown.{text_of}
use Rattle.tokens.proofs.words.of_two.Goals as goal

pub returns-in-98 : goal.returns-in-98
unfolding left fits
returns-in-98 c =
    by_added ((text_of c.args.text.now)) c.args.p 2 (code "b") (lit< tt) c.requires
    (sym c.byte.ensures ∙ c.in-98.is) "by" BY refl refl c.args.edition c.added.ensures

pub returns-in-100 : goal.returns-in-100
unfolding left fits
returns-in-100 c =
    by_first ((text_of c.args.text.now)) c.args.p 2 (code "d") (lit< tt) c.requires
    (sym c.byte.ensures ∙ c.in-100.is) refl c.only.ensures c.args.edition

pub returns-in-105 : goal.returns-in-105
unfolding left fits
returns-in-105 c =
    by_first ((text_of c.args.text.now)) c.args.p 2 (code "i") (lit< tt) c.requires
    (sym c.byte.ensures ∙ c.in-105.is) refl c.either.ensures c.args.edition

pub returns-in-116 : goal.returns-in-116
unfolding left fits
returns-in-116 c =
    by_first ((text_of c.args.text.now)) c.args.p 2 (code "t") (lit< tt) c.requires
    (sym c.byte.ensures ∙ c.in-116.is) refl c.only-in-116.ensures c.args.edition

pub returns-in_default : goal.returns-in_default
unfolding every begins_so
returns-in_default c =
    no_first ((text_of c.args.text.now)) c.args.p 1 _ (spell "tidb") c.requires c.byte.ensures
    refl refl c.in_default.in_default-own.rest c.args.edition
