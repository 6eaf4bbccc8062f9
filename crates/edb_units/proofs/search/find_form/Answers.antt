use Rattle.std.proofs.Common.{◌≡◌, ◌∙◌, true, false, sym, ap, arith}
use Rattle.std.specs.Ordering.{nat_cmp, is_eq}
use Rattle.std.proofs.lemmas.Cmp.{nat_cmp_total}
use Rattle.edb_syntax.specs.FunForms.{place_of}
use Rattle.edb_units.specs.Forms.{form_of}
use Rattle.edb_units.proofs.Lookups.{equal_itself, unequal}
use Rattle.edb_units.proofs.Looking.{none_there, read_there}
use Rattle.edb_units.proofs.search.find_form.Goals as goal

pub returns-then-place-forms : goal.returns-then-place-forms
returns-then-place-forms c =
    none_there nat_cmp nat_cmp_total place_of form_of c.args.index c.args.forms.now c.requires c.form_place-place.result 0 c.form_place-place.result (omega arith) c.form_place-place.ensures.parted (omega arith)

pub returns-then-index : goal.returns-then-index
returns-then-index c =
    let same : is_eq (nat_cmp (place_of (form_of c.index-forms-place.result)) c.args.index) ≡ true = sym (ap (λ n. is_eq (nat_cmp n c.args.index)) (sym c.if-index.true ∙ c.index.ensures)) ∙ equal_itself c.args.index in
    sym (read_there nat_cmp nat_cmp_total place_of form_of c.args.index c.args.forms.now c.requires c.form_place-place.result 0 c.form_place-place.result (omega arith) c.form_place-place.ensures.parted c.index-forms-place.result (omega arith) c.index-forms-place.is true same)

pub returns : goal.returns
returns c =
    let other : is_eq (nat_cmp (place_of (form_of c.index-forms-place.result)) c.args.index) ≡ false = unequal _ _ (λ e. c.if-index.false (c.index.ensures ∙ e)) in
    sym (read_there nat_cmp nat_cmp_total place_of form_of c.args.index c.args.forms.now c.requires c.form_place-place.result 0 c.form_place-place.result (omega arith) c.form_place-place.ensures.parted c.index-forms-place.result (omega arith) c.index-forms-place.is false other)
