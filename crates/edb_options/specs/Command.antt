-- The command as `clap` knows it, and what its matches hold.

use Rattle.std.specs.Prelude.{◌≡◌, Bool, true, if◌then◌else◌, List, [], Some, codes, unwrap_or}
use Rattle.clap.specs.Walk.{Row, Rule, Text, all_of, first_of, one_of}
use Rattle.clap.specs.Simple.{App, new_app, new_rule, on_top, with_rule}
use Rattle.clap.specs.declared.builder.action.ArgAction.TheVariants.{SetTrue, Append}
use Rattle.edb_options.specs.Given.{Given}

-- an option with a value
abbrev pub option_rule : Text → Rule
option_rule name = record (new_rule name) { long = Some name }

-- the option without one
abbrev pub journal_rule : Rule
journal_rule = record (new_rule (codes "journal")) { long = Some (codes "journal"); action = Some SetTrue }

-- the script's name and those of the files
abbrev pub names_rule : Rule
names_rule = record (new_rule (codes "names")) { action = Some Append }

-- `edb` without its arguments: no word is the program's name, and there is no option for help and none for the version
abbrev pub bare : App
bare = on_top (λ s. record s { no_binary_name = true; disable_help_flag = true; disable_version_flag = true }) (new_app (codes "edb"))

-- the options, and then the names
abbrev pub edb : App
edb = with_rule (with_rule (with_rule (with_rule (with_rule bare
    (option_rule (codes "hands"))) (option_rule (codes "slice"))) (option_rule (codes "moves"))) journal_rule) names_rule

-- the text by which `clap` tells whether an option without a value was given
abbrev pub flag_text : Bool → Text
flag_text given = if given then codes "true" else codes "false"

-- the rows of the matches hold what is given
pub record Holds (g : Given) (rows : List Row) : Type 0 where
  pub hands : first_of (codes "hands") rows ≡ g.hands
  pub slice : first_of (codes "slice") rows ≡ g.slice
  pub moves : first_of (codes "moves") rows ≡ g.moves
  pub journal : one_of (codes "journal") rows ≡ Some (flag_text g.journal)
  pub names : unwrap_or (all_of (codes "names") rows) [] ≡ g.names
