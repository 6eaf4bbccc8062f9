use Rattle.std.proofs.Common.{◌∙◌, ◌<◌, true, false, refl, sym, ap, arith}
use Rattle.std.specs.Ordering.{is_eq}
use Rattle.edb_program.specs.Names.{name_cmp}
use Rattle.edb_program.proofs.Versions.{past, read}
use Rattle.edb_program.proofs.program.find_unit.Goals as goal

pub returns-then-place-units : goal.returns-then-place-units
returns-then-place-units c =
    let least : 0 < c.args.version = omega arith in
    past c.args.units.now c.args.name.now c.requires c.unit_place.result c.unit_place.ensures.parted c.args.version _ least refl (omega arith)

pub returns-then-is_eq : goal.returns-then-is_eq
returns-then-is_eq c =
    let least : 0 < c.args.version = omega arith in
    let same = sym (ap (λ n. is_eq (name_cmp n c.args.name.now)) c.name.ensures) ∙ ap is_eq (sym c.cmp.ensures) ∙ sym c.is_eq.ensures ∙ c.if-is_eq.true in
    sym (read c.args.units.now c.args.name.now c.requires c.unit_place.result c.unit_place.ensures.parted c.args.version _ least refl c.index-units-place.result (omega arith) c.index-units-place.is true same)

pub returns : goal.returns
returns c =
    let least : 0 < c.args.version = omega arith in
    let other = sym (ap (λ n. is_eq (name_cmp n c.args.name.now)) c.name.ensures) ∙ ap is_eq (sym c.cmp.ensures) ∙ sym c.is_eq.ensures ∙ c.if-is_eq.false in
    sym (read c.args.units.now c.args.name.now c.requires c.unit_place.result c.unit_place.ensures.parted c.args.version _ least refl c.index-units-place.result (omega arith) c.index-units-place.is false other)
