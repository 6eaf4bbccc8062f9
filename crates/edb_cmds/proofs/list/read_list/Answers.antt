use Rattle.std.proofs.Common.{Option}
use Rattle.std.specs.Prelude.{MatchOption, Some}
use Rattle.std.proofs.lemmas.Result.{IfOk-weaker}
use Rattle.std.proofs.lemmas.List.Elements.{All-same}
use Rattle.edb_lang.specs.Terms.{Datum, IsWithin}
use Rattle.edb_scan.specs.Lexis.{Fits}
use Rattle.edb_scan.specs.declared.lexeme.Placed.{Placed}
use Rattle.edb_cmds.specs.Integers.{ReadsList}
use Rattle.edb_cmds.specs.Words.{IsList}
use Rattle.edb_cmds.proofs.ListLaws.{bare, tokens_fit}
use Rattle.edb_cmds.proofs.WordLaws.{list_answer, list_fault}
use Rattle.edb_cmds.proofs.list.read_list.Goals as goal

pub list_of_tokens-requires : goal.list_of_tokens-requires
list_of_tokens-requires c =
    All-same (λ (x : Placed). Fits (Some x.token)) c.as_slice.result.now c.in-Ok.tokens c.as_slice.ensures (tokens_fit c.args.text.now c.in-Ok.tokens (rw c.in-Ok.is at c.in_ok-tokens.ensures))

pub returns-in-Ok : goal.returns-in-Ok
returns-in-Ok c =
    IfOk-weaker c.list_of_tokens.result
    (λ (o : Option Datum). MatchOption o ((t : Datum) → ReadsList (bare c.as_slice.result.now) t → IsWithin t → ⊥) (λ t. ReadsList (bare c.as_slice.result.now) t × IsWithin t))
    (λ (o : Option Datum). MatchOption o ((t : Datum) → IsList c.args.text.now t → ⊥) (λ t. IsList c.args.text.now t))
    (list_answer c.args.text.now c.in-Ok.tokens c.as_slice.result.now c.as_slice.ensures (rw c.in-Ok.is at c.in_ok-tokens.ensures))
    c.list_of_tokens.ensures

pub returns-in-Err : goal.returns-in-Err
returns-in-Err c = list_fault c.args.text.now c.in-Err.field-0.at (rw c.in-Err.is at c.in_ok-tokens.ensures)
