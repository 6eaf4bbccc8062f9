use Rattle.std.proofs.Common.{sym, ◌∙◌}
use Rattle.edb_stack.specs.Views.{layers_of}
use Rattle.edb_calls.specs.Layered.{bodies_in}
use Rattle.edb_calls.proofs.Scans.{scan_here}
use Rattle.edb_calls.proofs.site.Site.running.Goals as goal

pub returns-in-Some-version_of : goal.returns-in-Some-version_of
returns-in-Some-version_of c =
    sym (scan_here c.args.«module».now c.args.self.now c.in-Some.body c.in-Some.is ∙ c.in-Some-version_of.ensures (bodies_in (layers_of c.args.self.now.layers.now.0)))

pub returns-in-None-version_of : goal.returns-in-None-version_of
returns-in-None-version_of c =
    c.running_within.ensures
    ∙ sym (scan_here c.args.«module».now c.args.self.now c.in-Some.body c.in-Some.is ∙ c.in-None-version_of.ensures (bodies_in (layers_of c.args.self.now.layers.now.0)))
