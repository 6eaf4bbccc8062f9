use Rattle.std.proofs.Common.{Bor, rules}
use Rattle.std.specs.Ordering.{is_lt}
use Rattle.std.proofs.lemmas.List.Sorted.{IsPartitionPoint-from_clause}
use Rattle.edb_syntax.specs.declared.modules.Export.{Export}
use Rattle.edb_units.specs.Keys.{Signature, signature_cmp, export_key}
use Rattle.edb_units.proofs.Signatures.{signature_order}
use Rattle.edb_units.proofs.Looking.{parted_by_keys}
use Rattle.edb_units.proofs.search.export_place.Goals as goal

pub returns-clause-parted : goal.returns-clause-parted
returns-clause-parted c =
    let k : Signature = (c.args.name.now, c.args.arity) in
    let parted = parted_by_keys signature_cmp signature_order export_key (λ (x : Bor Export). x.now) k c.args.exports.now c.requires in
    IsPartitionPoint-from_clause (λ (x : Bor Export). is_lt (signature_cmp (export_key ((λ (x : Bor Export). x.now) x)) k)) _ _ c.partition_point.ensures.partitioned parted (λ a r q h. search rules)
