use Rattle.std.proofs.Common.{◌≡◌, ◌≤◌, ◌+◌, drop}
use Rattle.edb_grammar.specs.Toks as grammar
use Rattle.edb_parse.proofs.files.funs_behind.Given as goal

abbrev pub invariant-loop-placed : goal.invariant-loop-placed
invariant-loop-placed l =
    (grammar.funs_behind l.count (drop l.placed-index l.tokens) ≡ grammar.funs_behind l.fn.funs l.tokens)
    × (l.count ≤ l.fn.funs + l.placed-index)
