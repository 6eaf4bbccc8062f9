use Rattle.edb_parse.specs.Cursors.{toks}
use Rattle.std.proofs.Common.{◌-◌}
use Rattle.edb_parse.proofs.PatternTies.{above, single_level}
use Rattle.edb_parse.proofs.patterns.single_pattern.Goals as goal

pub returns-clause-gives : goal.returns-clause-gives
returns-clause-gives c = rw (single_level c.args.levels (c.args.levels - 1) (toks c.args.tokens) (above c.args.levels c.if-levels-eq0.false)) c.single.ensures.gives
