use Rattle.std.proofs.Common.{◌≡◌, ◌∙◌, sym, ap, Some, None, option_copied}
use Rattle.edb_lang.specs.Terms.{atom}
use Rattle.edb_pure.specs.Answers.{badarg, given}
use Rattle.edb_pure.specs.Lookups as row
use Rattle.edb_values.specs.Found.{found_from, value_answer}
use Rattle.edb_values.proofs.FoundLemmas.{binding_row}
use Rattle.edb_values.proofs.bindings.get_binding.Goals as goal

-- src/bindings.rt: the list has pairs alone
pub returns-in-Some : goal.returns-in-Some
returns-in-Some c =
    let is : c.args.name.now ≡ atom c.in-Atom.name = cc in
    let found : Some (option_copied c.in-Some.found) ≡ found_from None c.in-Atom.name c.args.bindings.now = c.in-Some.ensures in
    let same : value_answer (option_copied c.in-Some.found) ≡ row.get_binding c.args.name.now c.args.bindings.now =
    ap (λ o. given o value_answer) found ∙ binding_row c.in-Atom.name c.args.bindings.now ∙ ap (λ n. row.get_binding n c.args.bindings.now) (sym is) in
    rw same at c.found_answer.ensures

-- and it has others
pub returns-in-None : goal.returns-in-None
returns-in-None c =
    let is : c.args.name.now ≡ atom c.in-Atom.name = cc in
    let found : None ≡ found_from None c.in-Atom.name c.args.bindings.now = c.in-None.ensures in
    let same : badarg ≡ row.get_binding c.args.name.now c.args.bindings.now =
    ap (λ o. given o value_answer) found ∙ binding_row c.in-Atom.name c.args.bindings.now ∙ ap (λ n. row.get_binding n c.args.bindings.now) (sym is) in
    rw same at c.badarg-in-None.ensures
