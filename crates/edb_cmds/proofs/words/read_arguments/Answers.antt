use Rattle.std.proofs.Common.{Option}
use Rattle.std.specs.Prelude.{MatchOption}
use Rattle.std.proofs.lemmas.Result.{IfOk-weaker}
use Rattle.edb_lang.specs.Terms.{Datum}
use Rattle.edb_cmds.specs.Words.{IsList, SplitsList}
use Rattle.edb_cmds.proofs.WordLaws.{arguments_answer}
use Rattle.edb_cmds.proofs.words.read_arguments.Goals as goal

pub returns-in-Some : goal.returns-in-Some
returns-in-Some c =
    IfOk-weaker c.read_list.result
    (λ (o : Option Datum). MatchOption o ((t : Datum) → IsList c.in-Some.list_text.now t → ⊥) (λ t. IsList c.in-Some.list_text.now t))
    (λ (o : Option Datum). MatchOption o ((t : Datum) → SplitsList c.args.text.now t → ⊥) (λ t. SplitsList c.args.text.now t))
    (arguments_answer c.args.text.now c.in-Some.list_text.now c.in-Some.ensures c.requires)
    c.read_list.ensures
