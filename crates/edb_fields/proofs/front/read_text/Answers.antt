use Rattle.edb_fields.specs.Reading.{after_text}
use Rattle.edb_fields.proofs.Told.{follows_told, not_follows_told}
use Rattle.edb_fields.proofs.Follows.{text_follows}
use Rattle.edb_fields.proofs.front.read_text.Goals as goal

pub returns-clause-found : goal.returns-clause-found
returns-clause-found c = follows_told (c.args.text.now) c.args.bytes.now (λ x. x.now) (after_text c.args.text.now c.args.bytes.now) (text_follows c.args.text.now c.args.bytes.now) c.after_text.result c.after_text.ensures.read

pub returns-clause-none : goal.returns-clause-none
returns-clause-none c = not_follows_told (c.args.text.now) c.args.bytes.now (λ x. x.now) (after_text c.args.text.now c.args.bytes.now) (text_follows c.args.text.now c.args.bytes.now) c.after_text.result c.after_text.ensures.read
