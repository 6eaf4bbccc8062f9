use Rattle.std.proofs.Common.{arith}
use Rattle.edb_cmds.proofs.LineLaws.{newline_at, line_split, no_newline}
use Rattle.edb_cmds.proofs.script.split_line.Goals as goal

pub returns-then-byte-eq10-clause-line : goal.returns-then-byte-eq10-clause-line
returns-then-byte-eq10-clause-line c = (line_split c.args.bytes.now c.loop-len.len (newline_at c.args.bytes.now c.loop-len.len c.loop-len-test.true c.loop-len.invariant c.if-byte-eq10.true)).0

pub returns-then-byte-eq10-clause-others : goal.returns-then-byte-eq10-clause-others
returns-then-byte-eq10-clause-others c = (line_split c.args.bytes.now c.loop-len.len (newline_at c.args.bytes.now c.loop-len.len c.loop-len-test.true c.loop-len.invariant c.if-byte-eq10.true)).1

pub returns-clause-line : goal.returns-clause-line
returns-clause-line c = (no_newline c.args.bytes.now (λ k lt. c.loop-len.invariant k (omega arith))).0

pub returns-clause-others : goal.returns-clause-others
returns-clause-others c = (no_newline c.args.bytes.now (λ k lt. c.loop-len.invariant k (omega arith))).1
