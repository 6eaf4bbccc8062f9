-- Files that are held in memory.
use Rattle.std.specs.Prelude.{ℕ, List, [], Some, None, nat_eq, if◌then◌else◌}
use Rattle.std.specs.List.{fold}
use Rattle.std.specs.Cmp.Lexicographic.{pointwise}
use Rattle.std.specs.declared.option.Option.{Option}
use Rattle.edb_io.specs.declared.held.HeldFile.{HeldFile}

-- The same files and one more: the name that was added has this content now, whatever it had.
abbrev pub with_file : (List ℕ → Option (List ℕ)) → List ℕ → List ℕ → List ℕ → Option (List ℕ)
with_file files name content asked = if pointwise nat_eq asked name then Some content else files asked

-- No name has a content.
abbrev pub no_files : List ℕ → Option (List ℕ)
no_files _ = None

-- Each name has the empty content.
abbrev pub empty_files : List ℕ → Option (List ℕ)
empty_files _ = Some []

-- The files that are there once each of these was added in turn.
abbrev pub files_with : (List ℕ → Option (List ℕ)) → List HeldFile → List ℕ → Option (List ℕ)
files_with files held = fold (λ so_far file. with_file so_far file.name file.content) files held
