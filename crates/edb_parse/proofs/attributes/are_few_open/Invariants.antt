use Rattle.std.proofs.Common.{◌≡◌, ◌≤◌, length, nat_le}
use Rattle.edb_grammar.specs.Toks.{most_open}
use Rattle.edb_grammar.specs.Forms.{most_brackets}
use Rattle.edb_parse.specs.Cursors.{toks, Stays}
use Rattle.edb_parse.proofs.attributes.are_few_open.Given as goal

-- what is left decides, and no more are open than may be
abbrev pub invariant-loop-token : goal.invariant-loop-token
invariant-loop-token l =
    (l.count ≤ most_brackets)
    × (nat_le (most_open l.count (toks l.rest)) most_brackets ≡ nat_le (most_open 0 (toks l.tokens)) most_brackets)
    × Stays l.tokens l.rest

abbrev pub decreases-loop-token : goal.decreases-loop-token
decreases-loop-token l = length l.rest.tokens.now
