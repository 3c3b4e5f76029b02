-- What the words behind the program's name ask for.
use Rattle.std.specs.Prelude.{Bool, true, false, cond, List, eqb, ltb, ◌||◌, ◌+◌, ◌-◌, ◌^◌, min, ℕ}
use Rattle.std.specs.Prelude.{Option, Some, None, Result, Ok, Err}
use Rattle.language.specs.Sizes.{LARGEST}
use Rattle.page.specs.Amounts.{number_up_to}
use Rattle.orders.specs.declared.asked.Asked.{Asked}
use Rattle.orders.specs.declared.asked.Task.{Task}
use Rattle.orders.specs.declared.asked.Turn.{Turn}
use Rattle.orders.specs.declared.asked.Unclear.{Unclear}
use Rattle.orders.specs.declared.asked.Word.{Word}

-- ---- one word more, which is the word with the number i

-- a word is kept by its number; 0 is the program's name, and so no word
abbrev pub kept : ℕ → Option ℕ
kept i = cond (eqb i 0) None (Some i)

abbrev pub unasked : Asked
unasked =
    record {
      task = Task.Pay;
      turn = Turn.Meaning;
      plain = 0;
      sheet = None;
      second = None;
      third = None;
      report = None;
      edition = None;
      strange = None;
    }

abbrev pub with_task : Asked → Task → Asked
with_task a t = record a { task = t }

abbrev pub with_turn : Asked → Turn → Asked
with_turn a t = record a { turn = t }

abbrev pub with_report : Asked → ℕ → Asked
with_report a i = record a { turn = Turn.Meaning; report = kept i }

abbrev pub with_edition : Asked → ℕ → Asked
with_edition a i = record a { turn = Turn.Meaning; edition = kept i }

abbrev pub with_strange : Asked → ℕ → Asked
with_strange a i = record a { strange = kept i }

-- one plain word more than there were, of as many as a usize counts
abbrev one_more : Asked → Asked
one_more a = record a { plain = min (a.plain + 1) (2 ^ 64 - 1) }

-- a word that means nothing by itself: the first three are kept
abbrev pub with_plain : Asked → ℕ → Asked
with_plain a i =
    cond (eqb a.plain 0) (record (one_more a) { sheet = kept i })
    (cond (eqb a.plain 1) (record (one_more a) { second = kept i })
    (cond (eqb a.plain 2) (record (one_more a) { third = kept i }) (one_more a)))

-- a word for a task asks for it where nothing was asked for before it, and is else a plain word
abbrev pub first_word : Task → Asked → Task → ℕ → Asked
first_word Task.Pay a t i = with_task a t
first_word Task.Help a t i = a
first_word Task.Version a t i = a
first_word _ a t i = with_plain a i

abbrev pub with_command : Asked → Task → ℕ → Asked
with_command a t i = cond (eqb a.plain 0) (first_word a.task a t i) (with_plain a i)

abbrev pub with_whole : Task → Asked → ℕ → Asked
with_whole Task.Check a i = with_task a Task.CheckWhole
with_whole Task.Profile a i = with_task a Task.ProfileWhole
with_whole Task.CheckWhole a i = a
with_whole Task.ProfileWhole a i = a
with_whole Task.Help a i = a
with_whole Task.Version a i = a
with_whole _ a i = with_strange a i

abbrev pub with_combine : Task → Asked → ℕ → Asked
with_combine Task.Shift a i = with_task a Task.Combine
with_combine Task.Combine a i = a
with_combine Task.Help a i = a
with_combine Task.Version a i = a
with_combine _ a i = with_strange a i

abbrev pub with_word : Asked → Word → ℕ → Asked
with_word a (Word.Command t) i = with_command a t i
with_word a (Word.Instead t) i = with_task a t
with_word a Word.Whole i = with_whole a.task a i
with_word a Word.Combine i = with_combine a.task a i
with_word a Word.Report i = with_turn a Turn.Name
with_word a Word.Edition i = with_turn a Turn.Edition
with_word a Word.Rest i = with_turn a Turn.Plain
with_word a Word.Strange i = with_strange a i
with_word a Word.Plain i = with_plain a i

abbrev pub in_turn : Turn → Asked → Word → ℕ → Asked
in_turn Turn.Meaning a w i = with_word a w i
in_turn Turn.Name a w i = with_report a i
in_turn Turn.Edition a w i = with_edition a i
in_turn Turn.Plain a w i = with_plain a i

-- ---- whether a word is taken as a plain one, with these before it

abbrev pub a_task : Task → Bool
a_task Task.Pay = false
a_task Task.Help = false
a_task Task.Version = false
a_task _ = true

-- a word for a task is a plain one from then on
abbrev pub begun_with : (plain : ℕ) → Task → Bool
begun_with n t = cond (eqb n 0) (a_task t) true

abbrev pub plain_if : Bool → Word → Bool
plain_if begun (Word.Command t) = begun
plain_if begun Word.Plain = true
plain_if begun _ = false

abbrev pub plain_in : Turn → Bool → Word → Bool
plain_in Turn.Meaning begun w = plain_if begun w
plain_in Turn.Name begun w = false
plain_in Turn.Edition begun w = false
plain_in Turn.Plain begun w = true

-- ---- what all of them ask for

abbrev pub fitting : Task → (plain : ℕ) → Bool
fitting Task.Pay n = eqb n 3
fitting Task.Run n = eqb n 1 || eqb n 2
fitting Task.RunStored n = eqb n 1 || eqb n 2
fitting Task.Shift n = eqb n 2 || eqb n 3
fitting Task.Combine n = ltb 0 n
fitting Task.Help n = true
fitting Task.Version n = true
fitting _ n = eqb n 1

abbrev pub wanted_if : Bool → Task → Result Task Unclear
wanted_if fit t = cond fit (Ok t) (Err Unclear.Words)

abbrev pub wanted_of : Turn → Asked → Result Task Unclear
wanted_of Turn.Meaning a = wanted_if (fitting a.task a.plain) a.task
wanted_of Turn.Name a = Err Unclear.NoName
wanted_of Turn.Edition a = Err Unclear.NoEdition
wanted_of Turn.Plain a = wanted_if (fitting a.task a.plain) a.task

-- the edition by the word that is kept for it: 1 where there is none, and no edition where it is no number
abbrev pub edition_of : (kept : Option ℕ) → List ℕ → Option ℕ
edition_of (Some i) t = number_up_to LARGEST t
edition_of None t = Some 1
