use Rattle.std.proofs.Common.{rules, ap, ap₂, true, ◌≡◌, ◌∙◌}
use Rattle.std.proofs.lemmas.Result.{IfOk-weaker}
use Rattle.clap.specs.Walk.{rule_of}
use Rattle.clap.specs.Simple.{App, app_of, app_of_fields, on_top, with_rule}
use Rattle.edb_options.specs.Command.{bare, journal_rule, names_rule}
use Rattle.edb_options.proofs.matching.edb_command.Goals as goal

pub returns : goal.returns
returns c =
    let journal_is : rule_of c.action-journal.result ≡ journal_rule = search rules in
    let names_is : rule_of c.action-names.result ≡ names_rule = search rules in
    let bare_is : app_of c.disable_version_flag.result ≡ bare = ap app_of_fields c.disable_version_flag.ensures
    ∙ ap (λ f. app_of_fields (record f { disable_version_flag = true })) c.disable_help_flag.ensures
    ∙ ap (λ f. app_of_fields (record f { disable_version_flag = true; disable_help_flag = true })) c.no_binary_name.ensures
    ∙ ap (λ (a : App). on_top (λ s. record s { no_binary_name = true; disable_help_flag = true; disable_version_flag = true }) a) c.new-3.ensures.app in
    let one = c.in_ok-arg.ensures.shape c.value_option-hands.ensures.local ∙ ap₂ with_rule bare_is c.value_option-hands.ensures.rule in
    let two = c.in_ok-arg-2.ensures.shape c.value_option-slice.ensures.local ∙ ap₂ with_rule one c.value_option-slice.ensures.rule in
    let three = c.in_ok-arg-3.ensures.shape c.value_option-moves.ensures.local ∙ ap₂ with_rule two c.value_option-moves.ensures.rule in
    let four = c.in_ok-arg-4.ensures.shape (search rules) ∙ ap₂ with_rule three journal_is in
    IfOk-weaker c.arg-5.result _ _ (λ r adds. adds.shape (search rules) ∙ ap₂ with_rule four names_is) c.arg-5.ensures
