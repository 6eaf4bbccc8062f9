-- What a change makes of what was seen of a process, by the server's rules.

use Rattle.edb_rules.specs.Seen.{Seen}
use Rattle.edb_rules.specs.Called.{resumed_seen}
use Rattle.edb_rules.specs.Noted.{while_lives, entered_seen, left_seen, stopped_seen, ended_seen}
use Rattle.edb_iserver.specs.declared.seen.Change.{Change}
use Rattle.edb_iserver.specs.declared.seen.Change.TheVariants as change

-- One that is let go on is stopped no more; all else is news, which changes nothing of one that has ended.
abbrev pub changed : Change → Seen → Seen
changed (change.Enters f) x = while_lives (entered_seen f) x
changed change.Leaves x = while_lives left_seen x
changed (change.Stops stop) x = while_lives (stopped_seen stop) x
changed change.Resumes x = resumed_seen x
changed (change.Ends reason) x = while_lives (ended_seen reason) x
