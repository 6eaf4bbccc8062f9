use Rattle.std.proofs.Common.{rules}
use Rattle.std.specs.Ordering.{is_lt}
use Rattle.std.proofs.lemmas.Cmp.{nat_list_cmp_total}
use Rattle.std.proofs.lemmas.List.Sorted.{IsPartitionPoint-from_clause}
use Rattle.edb_syntax.specs.Syntax.{ModuleTree}
use Rattle.edb_program.specs.Names.{name_cmp, module_name}
use Rattle.edb_units.proofs.Looking.{parted_by_order}
use Rattle.edb_program.proofs.program.unit_place.Goals as goal

pub returns-clause-parted : goal.returns-clause-parted
returns-clause-parted c =
    let parted = parted_by_order name_cmp nat_list_cmp_total module_name c.args.name.now c.args.units.now c.requires in
    IsPartitionPoint-from_clause (λ (x : ModuleTree). is_lt (name_cmp (module_name x) c.args.name.now)) _ _ c.partition_point.ensures.partitioned parted (λ a r q h. search rules)
