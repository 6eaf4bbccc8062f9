use Rattle.edb_rules.proofs.Made.{table_is, modules_are, attached_are}
use Rattle.edb_rules.proofs.laws.the_table_is_what_was_made.Goals as goal

pub returns : goal.returns
returns c = record { table = table_is; modules = modules_are; attached = attached_are }
