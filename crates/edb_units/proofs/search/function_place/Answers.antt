use Rattle.std.proofs.Common.{Bor, rules}
use Rattle.std.specs.Ordering.{is_lt}
use Rattle.std.proofs.lemmas.List.Sorted.{IsPartitionPoint-from_clause}
use Rattle.edb_syntax.specs.declared.modules.Function.{Function}
use Rattle.edb_units.specs.Keys.{Signature, signature_cmp, function_key}
use Rattle.edb_units.proofs.Signatures.{signature_order}
use Rattle.edb_units.proofs.Looking.{parted_by_keys}
use Rattle.edb_units.proofs.search.function_place.Goals as goal

pub returns-clause-parted : goal.returns-clause-parted
returns-clause-parted c =
    let k : Signature = (c.args.name.now, c.args.arity) in
    let parted = parted_by_keys signature_cmp signature_order function_key (λ (x : Bor Function). x.now) k c.args.functions.now c.requires in
    IsPartitionPoint-from_clause (λ (x : Bor Function). is_lt (signature_cmp (function_key ((λ (x : Bor Function). x.now) x)) k)) _ _ c.partition_point.ensures.partitioned parted (λ a r q h. search rules)
