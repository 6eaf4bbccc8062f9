use Rattle.edb_world.proofs.Acting.{end_acting}
use Rattle.edb_world.proofs.state.State.act.Goals as goal

pub end-requires : goal.end-requires
end-requires c =
    record {
      acting = end_acting c.args.self.now.facts c.args.pid c.args.kind c.requires.acting c.in_default.not-Print;
      fits = c.requires.fits;
    }
