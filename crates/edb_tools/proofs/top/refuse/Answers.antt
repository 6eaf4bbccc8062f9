use Rattle.std.proofs.Common.{inl}
use Rattle.edb_files.proofs.LineLaws.{unwritten}
use Rattle.edb_tools.proofs.RefusalLaws.{refused_written}
use Rattle.edb_tools.proofs.top.refuse.Goals as goal

pub returns-in-Tried-clause-written : goal.returns-in-Tried-clause-written
returns-in-Tried-clause-written g c = λ request old new is.
    refused_written request _ c.args.end old new _ _ _ _ _ _ c.requires is c.in-Tried.ensures

pub returns-in-NoMemory-clause-written : goal.returns-in-NoMemory-clause-written
returns-in-NoMemory-clause-written g c = λ request old new is. inl (unwritten _ _ c.in-NoMemory.ensures.0)
