-- How a command may be answered.

use Rattle.std.proofs.Common.{◌≡◌, true, refl}
use Rattle.edb_event.specs.declared.call.Call.{Call}
use Rattle.edb_event.specs.declared.call.Call.TheVariants as call
use Rattle.edb_event.specs.declared.reply.Reply.{Reply}
use Rattle.edb_event.specs.declared.reply.Reply.TheVariants as reply
use Rattle.edb_event.specs.Ranges.{MayAnswer}
use Rattle.edb_fields.proofs.Chains.{false_true}
use Rattle.edb_journal_read.specs.Reading.{is_refused, may_answer}

only_refused : (x : Call) → ((why : _) → MayAnswer x (reply.Refused why)) → (r : Reply) → is_refused r ≡ true → MayAnswer x r
only_refused x may (reply.Refused why) e = may why
only_refused x may reply.Ok e = absurd (false_true e)
only_refused x may reply.Quiet e = absurd (false_true e)
only_refused x may (reply.Status p s) e = absurd (false_true e)
only_refused x may (reply.Rows rows) e = absurd (false_true e)

pub may : (x : Call) (r : Reply) → may_answer x r ≡ true → MayAnswer x r
may (call.Start m f args) r e = only_refused (call.Start m f args) (λ _. tt) r e
may (call.Load m v) r e = only_refused (call.Load m v) (λ _. tt) r e
may _ r e = tt

-- a reply that may be passes the test
pub may_back : (x : Call) (r : Reply) → MayAnswer x r → may_answer x r ≡ true
may_back (call.Start m f args) (reply.Refused why) h = refl
may_back (call.Start m f args) reply.Ok h = absurd h
may_back (call.Start m f args) reply.Quiet h = absurd h
may_back (call.Start m f args) (reply.Status p s) h = absurd h
may_back (call.Start m f args) (reply.Rows rows) h = absurd h
may_back (call.Load m v) (reply.Refused why) h = refl
may_back (call.Load m v) reply.Ok h = absurd h
may_back (call.Load m v) reply.Quiet h = absurd h
may_back (call.Load m v) (reply.Status p s) h = absurd h
may_back (call.Load m v) (reply.Rows rows) h = absurd h
may_back _ r h = refl
