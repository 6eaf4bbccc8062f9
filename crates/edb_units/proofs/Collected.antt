-- Forms that are put behind others.

use Rattle.std.proofs.lemmas.List.{append-nil, append_assoc, map-append}

pub ruleset collected = (append-nil, append_assoc, map-append)
