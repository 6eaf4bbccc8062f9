-- How a journal is written: as a transcript, or as the journal's text.

use Rattle.std.specs.Prelude.{ℕ, Bool, true, false, List, [], ◌++◌, Option, None, Some}
use Rattle.std.specs.List.{flat_map}
use Rattle.edb_event.specs.declared.entry.Entry.{Entry}
use Rattle.edb_journal.specs.Lines.{line}
use Rattle.edb_journal.specs.Texts.{first_line}
use Rattle.edb_options.specs.Options.{Wanted}
use Rattle.edb_report.specs.Rendering.{entry_text}

-- a form of text: what stands first, a piece for each entry, and what stands last
pub record Form : Type 0 where
  pub head : List ℕ
  pub piece : Entry → List ℕ
  pub tail : List ℕ

-- the text of a journal in a form
abbrev pub text_in : Form → List Entry → List ℕ
text_in form journal = (form.head ++ flat_map form.piece journal) ++ form.tail

-- the transcript has the lines that an entry shows; the journal's text has its first line, and then the line of each entry
abbrev pub transcript_form : Form
transcript_form = record { head = []; piece = entry_text; tail = [] }

abbrev pub journal_form : Form
journal_form = record { head = first_line; piece = line; tail = [] }

-- the journal's text is written where `--journal` stands, and else the transcript
abbrev pub form_by : Bool → Form
form_by true = journal_form
form_by false = transcript_form

-- what a session with these words writes of its journal
abbrev pub rendering : Option Wanted → List Entry → List ℕ
rendering None journal = []
rendering (Some w) journal = text_in (form_by w.options.journal) journal
