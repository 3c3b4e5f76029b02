-- `of_three` compares a name of three bytes with the words of that length that begin with its first byte.
use lib.Dec.{lit<}
use mathlib.Core.Path.{refl, sym, ◌∙◌}
use Prim.Native.Char.{code}
use Rattle.language.proofs.Text.Tables.{every}
use Rattle.language.specs.Tokens.{spell, FOR}
use Rattle.tokens.proofs.FirstBytes.{begins_so}
use Rattle.tokens.proofs.WordRows.{fits, left, by_first, by_added, no_first}
use Rattle.tokens.specs.Shown.{text_of}
use Rattle.tokens.proofs.words.of_three.Goals as goal

pub returns-in-100 : goal.returns-in-100
unfolding left fits
returns-in-100 c =
    by_first ((text_of c.args.text.now)) c.args.p 3 (code "d") (lit< tt) c.requires
    (sym c.byte.ensures ∙ c.in-100.is) refl c.only.ensures c.args.edition

pub returns-in-101 : goal.returns-in-101
unfolding left fits
returns-in-101 c =
    by_first ((text_of c.args.text.now)) c.args.p 3 (code "e") (lit< tt) c.requires
    (sym c.byte.ensures ∙ c.in-101.is) refl c.only-in-101.ensures c.args.edition

pub returns-in-102 : goal.returns-in-102
unfolding left fits
returns-in-102 c =
    by_added ((text_of c.args.text.now)) c.args.p 3 (code "f") (lit< tt) c.requires
    (sym c.byte.ensures ∙ c.in-102.is) "for" FOR refl refl c.args.edition c.added.ensures

pub returns-in-105 : goal.returns-in-105
unfolding left fits
returns-in-105 c =
    by_first ((text_of c.args.text.now)) c.args.p 3 (code "i") (lit< tt) c.requires
    (sym c.byte.ensures ∙ c.in-105.is) refl c.only-in-105.ensures c.args.edition

pub returns-in-108 : goal.returns-in-108
unfolding left fits
returns-in-108 c =
    by_first ((text_of c.args.text.now)) c.args.p 3 (code "l") (lit< tt) c.requires
    (sym c.byte.ensures ∙ c.in-108.is) refl c.only-in-108.ensures c.args.edition

pub returns-in-110 : goal.returns-in-110
unfolding left fits
returns-in-110 c =
    by_first ((text_of c.args.text.now)) c.args.p 3 (code "n") (lit< tt) c.requires
    (sym c.byte.ensures ∙ c.in-110.is) refl c.only-in-110.ensures c.args.edition

pub returns-in-114 : goal.returns-in-114
unfolding left fits
returns-in-114 c =
    by_first ((text_of c.args.text.now)) c.args.p 3 (code "r") (lit< tt) c.requires
    (sym c.byte.ensures ∙ c.in-114.is) refl c.only-in-114.ensures c.args.edition

pub returns-in_default : goal.returns-in_default
unfolding every begins_so
returns-in_default c =
    no_first ((text_of c.args.text.now)) c.args.p 2 _ (spell "rnlifed") c.requires c.byte.ensures
    refl refl c.in_default.in_default-own.rest c.args.edition
