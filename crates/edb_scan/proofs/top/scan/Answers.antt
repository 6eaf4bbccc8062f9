use Rattle.std.proofs.Common.{◌++◌, refl, arith}
use Rattle.edb_scan.proofs.TopLemmas.{goes_on, comes_on, fault_here, fault_at_limit, too_long, all_tokens, tokens_few, next_cut, piece_shorter, counted, line_here}
use Rattle.edb_scan.proofs.top.scan.Goals as goal

pub returns-then-at-ge-LONGEST_FILE : goal.returns-then-at-ge-LONGEST_FILE
returns-then-at-ge-LONGEST_FILE c =
    let inv = c.loop-rest.invariant in
    fault_at_limit c.args.bytes.now inv.0 c.loop-rest.rest.now c.loop-rest.behind_string inv.1 inv.4 (grind arith) c.if-at-ge-LONGEST_FILE.true

pub loop-rest-smaller : goal.loop-rest-smaller
loop-rest-smaller c =
    let found = rw c.in-Some.is at c.in_ok-piece.ensures in
    piece_shorter c.loop-rest.rest.now c.in-Some.after.now c.in-Some.piece found.0

pub loop-rest-preserved : goal.loop-rest-preserved
loop-rest-preserved c =
    let inv = c.loop-rest.invariant in
    let found = rw c.in-Some.is at c.in_ok-piece.ensures in (
      inv.0 ++ found.0.text,
      next_cut c.args.bytes.now inv.0 c.loop-rest.rest.now found.0.text c.in-Some.after.now inv.1 found.0.cut,
      counted inv.0 c.loop-rest.rest.now found.0.text c.in-Some.after.now c.loop-rest.lines c.newlines-lines.result inv.2 found.0.cut c.newlines-lines.ensures,
      goes_on c.args.bytes.now inv.0 c.loop-rest.rest.now c.in-Some.after.now c.loop-rest.behind_string c.is_string-behind_string.result c.loop-rest.items.items c.put.new.items.items _
          c.in-Some.piece found.0 found.1 c.is_string-behind_string.ensures (line_here inv.0 c.loop-rest.lines inv.2) c.in_ok-put-in-Some.ensures inv.3,
      comes_on c.args.bytes.now inv.0 c.loop-rest.rest.now c.in-Some.after.now c.loop-rest.behind_string c.is_string-behind_string.result c.in-Some.piece found.0 found.1 c.is_string-behind_string.ensures inv.4,
    )

pub returns-in-None : goal.returns-in-None
returns-in-None c =
    let inv = c.loop-rest.invariant in
    let none = rw c.in-None.is at c.in_ok-piece.ensures in
    fault_here c.args.bytes.now inv.0 c.loop-rest.rest.now c.loop-rest.behind_string c.loop-rest.items.items _ inv.1 inv.3 (grind arith) none refl c.if-at-ge-LONGEST_FILE.false

pub returns-then-bytes-gt-LONGEST_FILE : goal.returns-then-bytes-gt-LONGEST_FILE
returns-then-bytes-gt-LONGEST_FILE c =
    let inv = c.loop-rest.invariant in
    too_long c.args.bytes.now inv.0 c.loop-rest.rest.now c.loop-rest.behind_string inv.4 (grind arith) c.if-bytes-gt-LONGEST_FILE.true

pub returns : goal.returns
returns c =
    let inv = c.loop-rest.invariant in
    rw c.from_vec.ensures (all_tokens c.args.bytes.now inv.0 c.loop-rest.rest.now c.loop-rest.behind_string c.loop-rest.items.items inv.3 (grind arith) c.if-bytes-gt-LONGEST_FILE.false)

pub from_vec-requires : goal.from_vec-requires
from_vec-requires c =
    let inv = c.loop-rest.invariant in
    tokens_few c.args.bytes.now c.loop-rest.items.items (all_tokens c.args.bytes.now inv.0 c.loop-rest.rest.now c.loop-rest.behind_string c.loop-rest.items.items inv.3 (grind arith) c.if-bytes-gt-LONGEST_FILE.false)
