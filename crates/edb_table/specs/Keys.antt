-- A table as contracts see it, the list of its rows' names and arities, and where a row stands in it.
use Rattle.std.specs.Prelude.{◌≡◌, ℕ, Bool, true, ◌&&◌, ◌==◌, List, [], ◌∷◌, map, Option, Some, slice_get, position, bytes_eq}
use Rattle.std.specs.declared.cmp.Ordering.{Ordering}
use Rattle.std.specs.Ordering.{nat_cmp, then_cmp, on, is_lt}
use Rattle.std.specs.Cmp.Lexicographic.{slice_cmp}
use Rattle.edb_table.specs.declared.rows.Row.{Row}

-- a name's bytes, and an arity
abbrev pub Key : Type 0
Key = List ℕ × ℕ

abbrev pub key_of : Row → Key
key_of row = (row.name.now, row.arity)

abbrev pub keys_of : List Row → List Key
keys_of rows = map key_of rows

-- both are the same
abbrev pub same_key : Key → Key → Bool
same_key key other = bytes_eq key.0 other.0 && key.1 == other.1

-- this is what the list has at that place
abbrev pub StandsAt : {A : Type 0} → A → List A → ℕ → Type 0
StandsAt asked items at = slice_get items at ≡ Some asked

-- the place of the first row that has both, reading from the top
abbrev pub place_of : Key → List Key → Option ℕ
place_of key keys = position (same_key key) keys

-- names by their bytes, and rows of one name by their arities
abbrev pub key_cmp : Key → Key → Ordering
key_cmp = then_cmp (on (λ key. key.0) (slice_cmp nat_cmp)) (on (λ key. key.1) nat_cmp)

-- a key is below the first of those that follow it
abbrev pub leads : Key → List Key → Bool
leads key [] = true
leads key (next ∷ keys) = is_lt (key_cmp key next)

-- each row is below the next
abbrev pub ascending : List Key → Bool
ascending [] = true
ascending (key ∷ keys) = leads key keys && ascending keys
