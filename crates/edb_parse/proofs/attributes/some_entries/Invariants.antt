use Rattle.std.proofs.Common.{[], ◌∷◌, length}
use Rattle.edb_scan.specs.declared.lexeme.Mark.TheVariants as mark
use Rattle.edb_grammar.specs.FormReading as reading
use Rattle.edb_parse.specs.Cursors.{toks, Moves}
use Rattle.edb_parse.specs.FormViews.{all_entries}
use Rattle.edb_parse.proofs.Turns.{Going}
use Rattle.edb_parse.proofs.attributes.some_entries.Given as goal

abbrev pub invariant-loop-after : goal.invariant-loop-after
invariant-loop-after l = Going ◌∷◌ [] mark.Comma reading.read_entry (all_entries (toks l.tokens)) l.entries.items (toks l.rest) × Moves l.tokens l.rest

abbrev pub decreases-loop-after : goal.decreases-loop-after
decreases-loop-after l = length l.rest.tokens.now
