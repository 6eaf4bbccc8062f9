-- What is left of a journal without the debugger, but for what it changes in a run: labels of a plain run.

use Rattle.std.specs.Prelude.{List, [], ◌∷◌, replicate}
use Rattle.std.specs.List.{flat_map}
use Rattle.edb_model.specs.Labels.{Label, move, act, signal, advance, start, load, skip, kill, expire}
use Rattle.edb_event.specs.declared.entry.Entry.{Entry}
use Rattle.edb_event.specs.declared.entry.Entry.TheVariants as entry

-- the steps that an entry stands for: the debugger's entries stand for none, but for those of `skip`, `kill` and `timeout`
abbrev pub labels_of : Entry → List Label
labels_of (entry.Start c p m f args) = start m f args ∷ []
labels_of (entry.Load c m v) = load m v ∷ []
labels_of (entry.Skip c p) = skip p ∷ []
labels_of (entry.Kill c p) = kill p ∷ []
labels_of (entry.Expire c p) = expire p ∷ []
labels_of (entry.Ran p n c) = replicate n (move p)
labels_of (entry.Did p k v bytes) = act p ∷ []
labels_of (entry.Signal p r) = signal ∷ []
labels_of (entry.Advance t) = advance t ∷ []
labels_of _ = []

-- the steps of a journal, in order
abbrev pub erase : List Entry → List Label
erase journal = flat_map labels_of journal
