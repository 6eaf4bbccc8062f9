-- Files that are read in order, each up to so many bytes.

use Rattle.std.specs.Prelude.{◌≡◌, ℕ, ◌<◌, ◌≤◌, ◌⊎◌, List, [], ◌∷◌, ◌++◌, length, Option, None, Some, slice_index_or}
use Rattle.edb_io.specs.OneRead.{Read}
use Rattle.edb_io.specs.Reads.{file_read}

-- a file that is asked for: its name, and the most bytes that are read of it
pub record Asked : Type 0 where
  pub name : List ℕ
  pub most : ℕ

-- at most so many bytes of a module or a script are read, one more than it may have
abbrev pub most_bytes : ℕ
most_bytes = 1_000_001

-- the file of a module or a script with this name
abbrev pub text_file : List ℕ → Asked
text_file name = record { name = name; most = most_bytes }

-- file k of a list; without it, one without a name
abbrev pub asked_at : List Asked → ℕ → Asked
asked_at files k = slice_index_or files k (record { name = []; most = 0 })

-- the name of file k
abbrev pub name_at : List Asked → ℕ → List ℕ
name_at files k = (asked_at files k).name

-- the read of a file, with the bytes that were answered, or none
abbrev pub read_of : Asked → Option (List ℕ) → Read
read_of file bytes = file_read file.name file.most bytes

-- the reads of files, in order, that answered these texts, as many as there are
abbrev pub reads_of : List Asked → List (List ℕ) → List Read
reads_of files [] = []
reads_of [] (text ∷ texts) = []
reads_of (file ∷ files) (text ∷ texts) = read_of file (Some text) ∷ reads_of files texts

-- each file was read, in order, and these are the texts
pub record AreRead (files : List Asked) (old new : List Read) (texts : List (List ℕ)) : Type 0 where
  pub all : length texts ≡ length files
  pub listed : new ≡ old ++ reads_of files texts

-- the files before file k were read, and its read failed
pub record FailsAt (files : List Asked) (old new : List Read) (k : ℕ) : Type 0 where
  pub texts : List (List ℕ)
  pub before : length texts ≡ k
  pub within : k < length files
  pub listed : new ≡ (old ++ reads_of files texts) ++ read_of (asked_at files k) None ∷ []

-- some files were read, in order, and no read failed
pub record StopsAfter (files : List Asked) (old new : List Read) : Type 0 where
  pub texts : List (List ℕ)
  pub few : length texts ≤ length files
  pub listed : new ≡ old ++ reads_of files texts

-- the files were read in order, up to one whose read failed or up to any place
abbrev pub ReadsUp : List Asked → List Read → List Read → Type 0
ReadsUp files old new = StopsAfter files old new ⊎ ((k : ℕ) × FailsAt files old new k)
