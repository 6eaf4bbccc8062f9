use Rattle.std.proofs.Common.{ℕ, rules}
use Rattle.std.specs.Ordering.{is_lt, nat_cmp}
use Rattle.std.proofs.lemmas.Cmp.{nat_cmp_total}
use Rattle.std.proofs.lemmas.List.Sorted.{IsPartitionPoint-from_clause}
use Rattle.edb_units.specs.declared.form.Form.{Form}
use Rattle.edb_syntax.specs.FunForms.{place_of}
use Rattle.edb_units.specs.Forms.{form_of}
use Rattle.edb_units.proofs.Looking.{parted_by_keys}
use Rattle.edb_units.proofs.search.form_place.Goals as goal

pub returns-clause-parted : goal.returns-clause-parted
returns-clause-parted c =
    let k : ℕ = c.args.index in
    let parted = parted_by_keys nat_cmp nat_cmp_total place_of form_of k c.args.forms.now c.requires in
    IsPartitionPoint-from_clause (λ (x : Form). is_lt (nat_cmp (place_of (form_of x)) k)) _ _ c.partition_point.ensures.partitioned parted (λ a r q h. search rules)
