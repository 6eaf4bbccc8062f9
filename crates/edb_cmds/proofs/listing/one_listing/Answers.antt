use Rattle.edb_cmds.proofs.ListingLaws.{fault_one, script_or_fault, scripts_same}
use Rattle.edb_cmds.proofs.listing.one_listing.Goals as goal

pub returns-clause-one : goal.returns-clause-one
returns-clause-one c = scripts_same

pub returns-clause-never_both : goal.returns-clause-never_both
returns-clause-never_both c = script_or_fault

pub returns-clause-one_line : goal.returns-clause-one_line
returns-clause-one_line c = fault_one
