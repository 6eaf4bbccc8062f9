use Rattle.edb_lang.specs.TermText.{plain_text}
use Rattle.edb_fields.specs.Literals.{IsPlainList}
use Rattle.edb_fields.specs.TermReading.{args_at}
use Rattle.edb_fields.proofs.TermLaws.{args_exact}
use Rattle.edb_fields.proofs.Told.{found_told, none_told}
use Rattle.edb_fields.proofs.terms.read_list.Goals as goal

pub returns-clause-found : goal.returns-clause-found
returns-clause-found c =
    found_told plain_text IsPlainList c.args.bytes.now (λ x. x.0) (λ x. x.1.now) (args_at c.args.bytes.now) (args_exact c.args.bytes.now) c.field_list.result c.field_list.ensures

pub returns-clause-none : goal.returns-clause-none
returns-clause-none c =
    none_told plain_text IsPlainList c.args.bytes.now (λ x. (x.0, x.1.now)) (args_at c.args.bytes.now) (args_exact c.args.bytes.now) c.field_list.result c.field_list.ensures
