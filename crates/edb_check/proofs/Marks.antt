-- What stands behind a mark of a list, and before it, once more is put behind the list.

use Rattle.std.proofs.Common.{◌≡◌}
use Rattle.std.proofs.lemmas.List.{drop-append-le, take-append-le, length-append}

pub ruleset marks = (drop-append-le, take-append-le, length-append)
