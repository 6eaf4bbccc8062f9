use Rattle.std.proofs.Common.{◌∙◌, [], map, option_map, length, arith, sym, ap}
use Rattle.std.specs.Option.{unwrap_or}
use Rattle.std.proofs.lemmas.List.{length-map}
use Rattle.clap.specs.Matches.{found_of}
use Rattle.edb_options.proofs.Getters.{enough, names_read, too_few}
use Rattle.edb_options.proofs.request.make_request.Goals as goal

pub returns-in_default-clause-wanted : goal.returns-in_default-clause-wanted
returns-in_default-clause-wanted c = λ g holds.
    let none = names_read (found_of c.args.matches.now) g holds c.get_strs.result c.get_strs.ensures ∙ ap (λ r. unwrap_or (option_map (λ s. map (λ v. v.now) s.now) r) []) c.in_default.is in
    sym (too_few g (omega (arith, ap length none)))

pub returns-then-names-lt2-clause-wanted : goal.returns-then-names-lt2-clause-wanted
returns-then-names-lt2-clause-wanted c = λ g holds.
    let names = names_read (found_of c.args.matches.now) g holds c.get_strs.result c.get_strs.ensures ∙ ap (λ r. unwrap_or (option_map (λ s. map (λ v. v.now) s.now) r) []) c.in-Some.is in
    sym (too_few g (omega (arith, ap length names, length-map c.in-Some.names.now (λ v. v.now), c.if-names-lt2.true)))

pub returns-clause-wanted : goal.returns-clause-wanted
returns-clause-wanted c = λ g holds.
    let names = names_read (found_of c.args.matches.now) g holds c.get_strs.result c.get_strs.ensures ∙ ap (λ r. unwrap_or (option_map (λ s. map (λ v. v.now) s.now) r) []) c.in-Some.is in
    let copied = names ∙ sym (ap (map (λ v. v.now)) c.in_ok-names.ensures.items) in
    sym (enough g c.in-Some-read_numbers.options (map (λ v. v.now) c.in_ok-names.names.items) (sym (c.read_numbers.ensures.options g holds) ∙ c.in-Some-read_numbers.is) copied
    (omega (arith, ap length copied, ap length names, length-map c.in-Some.names.now (λ v. v.now), c.if-names-lt2.false)))
