use Rattle.std.proofs.Common.{arith}
use Rattle.std.specs.Fmt.{decimal}
use Rattle.edb_fields.specs.Numerals.{IsBetween, number_at}
use Rattle.edb_fields.proofs.NumberLaws.{number_exact}
use Rattle.edb_fields.proofs.Told.{found_told, none_told}
use Rattle.edb_fields.proofs.numbers.read_u128.Goals as goal

pub returns-clause-found : goal.returns-clause-found
returns-clause-found c =
    found_told decimal (IsBetween c.args.least c.args.most) c.args.bytes.now (λ x. x.0) (λ x. x.1.now) (number_at c.args.least c.args.most c.args.bytes.now)
    (number_exact c.args.least c.args.most (omega (arith, c.ranges.most)) c.args.bytes.now) c.number.result c.number.ensures.read

pub returns-clause-none : goal.returns-clause-none
returns-clause-none c =
    none_told decimal (IsBetween c.args.least c.args.most) c.args.bytes.now (λ x. (x.0, x.1.now)) (number_at c.args.least c.args.most c.args.bytes.now)
    (number_exact c.args.least c.args.most (omega (arith, c.ranges.most)) c.args.bytes.now) c.number.result c.number.ensures.read
