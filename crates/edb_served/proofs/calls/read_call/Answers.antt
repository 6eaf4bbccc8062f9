use Rattle.std.proofs.Common.{◌++◌, ◌∷◌, ap, ◌∙◌, codes}
use Rattle.edb_fields.specs.Separators.{fields}
use Rattle.edb_served.specs.Calls.{call_at}
use Rattle.edb_served.proofs.CallLaws.{call_again}
use Rattle.edb_served.proofs.Written.{written_told}
use Rattle.edb_served.proofs.calls.read_call.Goals as goal

pub returns-clause-written : goal.returns-clause-written
returns-clause-written c = λ x fs rest is wide text.
    written_told (λ r. r.0) (λ r. r.1.now) (call_at c.args.bytes.now) x (fields (codes "=" ∷ fs) ++ rest) (ap call_at text ∙ call_again x is wide fs rest)
    c.spoken.result c.spoken.ensures.read
