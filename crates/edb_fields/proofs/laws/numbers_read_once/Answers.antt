use Rattle.std.proofs.Common.{arith}
use Rattle.std.specs.Fmt.{decimal}
use Rattle.edb_fields.specs.Numerals.{IsBetween, number_at}
use Rattle.edb_fields.proofs.NumberLaws.{number_exact}
use Rattle.edb_fields.proofs.Told.{once_told}
use Rattle.edb_fields.proofs.laws.numbers_read_once.Goals as goal

pub returns : goal.returns
returns c = λ least most wide. once_told decimal (IsBetween least most) (number_at least most) (number_exact least most (omega (arith, wide)))
