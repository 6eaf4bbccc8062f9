use Rattle.std.proofs.Common.{sym}
use Rattle.edb_calls.proofs.Scans.{scan_on, scan_past}
use Rattle.edb_calls.proofs.site.version_at_depth.Goals as goal

pub returns-in-Some : goal.returns-in-Some
returns-in-Some c =
    scan_on c.args.«module».now c.args.layers.now.0 c.args.depth c.in-Some.layer.now c.version_at.result (sym c.in-Some.ensures) c.version_at.ensures

pub returns-in-None : goal.returns-in-None
returns-in-None c = scan_past c.args.«module».now c.args.layers.now.0 c.args.depth (sym c.in-None.ensures)
