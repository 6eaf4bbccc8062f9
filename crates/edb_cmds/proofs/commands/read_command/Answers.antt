use Rattle.std.proofs.Common.{Option}
use Rattle.std.specs.Prelude.{MatchOption}
use Rattle.std.proofs.lemmas.Result.{IfOk-weaker}
use Rattle.edb_event.specs.declared.call.Command.{Command}
use Rattle.edb_cmds.specs.CommandLines.{IsCommandLine}
use Rattle.edb_cmds.specs.Kinds.{Behind}
use Rattle.edb_cmds.proofs.KindLaws.{kind_answer, no_kind}
use Rattle.edb_cmds.proofs.commands.read_command.Goals as goal

pub returns-in-Some : goal.returns-in-Some
returns-in-Some c =
    IfOk-weaker c.read_kind.result
    (λ (o : Option Command). MatchOption o ((d : Command) → Behind c.in-Some.kind c.args.line.now c.split_word.result.1.now d → ⊥) (λ d. Behind c.in-Some.kind c.args.line.now c.split_word.result.1.now d))
    (λ (o : Option Command). MatchOption o ((d : Command) → IsCommandLine c.args.line.now d → ⊥) (λ d. IsCommandLine c.args.line.now d))
    (kind_answer c.args.line.now c.split_word.result.0.now c.split_word.result.1.now c.skip_spaces.result.now c.skip_spaces.ensures c.split_word.ensures c.in-Some.kind c.in-Some.ensures)
    c.read_kind.ensures

pub returns-in-None : goal.returns-in-None
returns-in-None c =
    no_kind c.args.line.now c.split_word.result.0.now c.split_word.result.1.now c.skip_spaces.result.now c.skip_spaces.ensures c.split_word.ensures c.in-None.ensures
