use Rattle.std.proofs.Common.{◌∷◌, ap, ◌∙◌}
use Rattle.edb_served.specs.Answers.{reply_at}
use Rattle.edb_served.proofs.ReplyLaws.{reply_again, line_ends}
use Rattle.edb_served.proofs.Written.{written_told}
use Rattle.edb_served.proofs.replies.read_reply.Goals as goal

pub returns-clause-written : goal.returns-clause-written
returns-clause-written c = λ r rest is wide text.
    written_told (λ x. x.0) (λ x. x.1.now) (reply_at c.args.bytes.now) r (10 ∷ rest) (ap reply_at text ∙ reply_again r is wide rest ∙ line_ends r rest)
    c.answered.result c.answered.ensures.read
