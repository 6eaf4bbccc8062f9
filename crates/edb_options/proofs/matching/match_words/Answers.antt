use Rattle.std.proofs.Common.{◌≡◌, true, map, string_bytes, IfOk, refl, subst}
use Rattle.clap.specs.Simple.{HasMatchesOf}
use Rattle.clap.specs.Kinds.{FailsBy}
use Rattle.clap.specs.Faults.{fault_of, is_simple_and_free}
use Rattle.edb_options.specs.Command.{edb}
use Rattle.edb_options.proofs.Whole.{found, refused}
use Rattle.edb_options.proofs.matching.match_words.Goals as goal

pub returns : goal.returns
returns c =
    let words = c.args.words.now in
    let parse = c.try_get_matches_from in
    let fails : FailsBy (fault_of edb (map string_bytes words)) parse.result =
    subst (λ a. is_simple_and_free a ≡ true → FailsBy (fault_of a (map string_bytes words)) parse.result) c.in_ok-command.ensures parse.ensures.kinds refl in
    let has : IfOk parse.result (HasMatchesOf edb (map string_bytes words)) =
    subst (λ a. IfOk parse.result (HasMatchesOf a (map string_bytes words))) c.in_ok-command.ensures parse.ensures.matches in
    record { given = found words parse.result fails has; refused = refused words parse.result fails }
