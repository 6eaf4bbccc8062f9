use Rattle.std.proofs.Common.{rules}
use Rattle.edb_io.proofs.HeldLemmas.{files_with-empty, unwrapped}
use Rattle.edb_io.proofs.clean_files.CleanFilesFiles.read.Goals as goal

pub returns-clause-content : goal.returns-clause-content
returns-clause-content c =
    λ files told. let known = files_with-empty c.args.self.now.held.items c.args.name.now in
    let content = unwrapped c.find_file.result _ _ c.unwrap_or-content.ensures in
    search rules
