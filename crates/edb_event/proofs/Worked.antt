-- Two journals whose weight was worked by hand: a Ran weighs its moves, any other entry 1.

use Rattle.std.proofs.Common.{◌≡◌, List, [], ◌∷◌, codes, refl}
use Rattle.edb_lang.specs.Terms.{nil}
use Rattle.edb_lang.specs.declared.act.ActKind.TheVariants as act
use Rattle.edb_event.specs.declared.call.Call.TheVariants as call
use Rattle.edb_event.specs.declared.reply.Reply.TheVariants as reply
use Rattle.edb_event.specs.declared.entry.Entry.{Entry}
use Rattle.edb_event.specs.declared.entry.Entry.TheVariants.{Start, Lease, Ran, Ask, Did, Took, Leave, Enter, Served}
use Rattle.edb_event.specs.Weights.{weight}

-- a function that calls itself for ever, with ten moves allowed
abbrev endless : List Entry
endless = Start 1 1 (codes "spin") (codes "go") nil ∷ Lease 1 8 ∷ Ran 1 8 0 ∷ []

endless_weighs : weight endless ≡ 10
endless_weighs = refl

-- an interpreted process that asks whether a message came, and ends
abbrev asking : List Entry
asking =
    Served 1 (call.Ii (codes "p")) reply.Ok ∷ Start 1 1 (codes "p") (codes "main") nil ∷ Lease 1 100 ∷ Ran 1 1 0
    ∷ Enter 1 (codes "p") (codes "main") 0 ∷ Lease 1 100 ∷ Ran 1 1 0 ∷ Ask 1 act.Receive
    ∷ Did 1 act.Timeout (codes "ok") [] ∷ Took 1 ∷ Lease 1 100 ∷ Ran 1 3 0 ∷ Leave 1
    ∷ Did 1 act.End (codes "normal") [] ∷ []

asking_weighs : weight asking ≡ 16
asking_weighs = refl
