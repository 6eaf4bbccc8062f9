use Rattle.std.proofs.Common.{◌≡◌, ◌≤◌, ◌+◌, length}
use Rattle.edb_scan.specs.Parting.{longest_file}
use Rattle.edb_grammar.specs.Files.{forms_of}
use Rattle.edb_grammar.specs.FileReading.{read_file, read_forms}
use Rattle.edb_parse.proofs.files.read_module.Given as goal

-- what is left, with the module so far, is the whole
abbrev pub invariant-loop-rest : goal.invariant-loop-rest
invariant-loop-rest l =
    (read_file l.tokens ≡ read_forms l.number l.funs l.«module» (forms_of l.rest))
    × (l.funs + length l.rest ≤ longest_file)
    × (l.number + length l.rest ≤ longest_file + 2)

abbrev pub decreases-loop-rest : goal.decreases-loop-rest
decreases-loop-rest l = length l.rest
