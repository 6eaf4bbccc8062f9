use Rattle.std.proofs.lemmas.Str.{IsUtf8-from_ascii}
use Rattle.edb_scan.proofs.NameLemmas.{name_ascii}
use Rattle.edb_scan.proofs.words.named.Goals as goal

pub unreachable-requires : goal.unreachable-requires
unreachable-requires c = c.in-Err.ensures.cases.0 (IsUtf8-from_ascii c.args.text.now (name_ascii c.args.text.now c.requires))
