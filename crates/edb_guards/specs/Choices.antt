-- What contracts see of a clause that is chosen.

use Rattle.edb_lang.specs.Pairs.{Pairs}
use Rattle.edb_syntax.specs.Syntax.{Seq}
use Rattle.edb_match.specs.Newest.{newest_first}
use Rattle.edb_guards.specs.declared.choice.Choice.{Choice}

-- its new pairs in front of what is bound already, and its sequence
abbrev pub choice_of : Pairs → Choice → Pairs × Seq
choice_of bs c = (newest_first c.pairs.items bs, c.body.now)
