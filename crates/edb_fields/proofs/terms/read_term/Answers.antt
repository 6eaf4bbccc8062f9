use Rattle.edb_lang.specs.TermText.{plain_text}
use Rattle.edb_fields.specs.Literals.{IsPlain}
use Rattle.edb_fields.specs.TermReading.{plain_at}
use Rattle.edb_fields.proofs.TermLaws.{plain_exact}
use Rattle.edb_fields.proofs.Told.{found_told, none_told}
use Rattle.edb_fields.proofs.terms.read_term.Goals as goal

pub returns-clause-found : goal.returns-clause-found
returns-clause-found c =
    found_told plain_text (IsPlain c.args.levels c.args.room) c.args.bytes.now (λ x. x.0) (λ x. x.1.now) (plain_at c.args.levels c.args.room c.args.bytes.now)
    (plain_exact c.args.levels c.args.room c.args.bytes.now) c.plain.result c.plain.ensures

pub returns-clause-none : goal.returns-clause-none
returns-clause-none c =
    none_told plain_text (IsPlain c.args.levels c.args.room) c.args.bytes.now (λ x. (x.0, x.1.now)) (plain_at c.args.levels c.args.room c.args.bytes.now)
    (plain_exact c.args.levels c.args.room c.args.bytes.now) c.plain.result c.plain.ensures
