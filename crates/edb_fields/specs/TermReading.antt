-- Reading literal terms. `levels` is how high a term may be, `room` how large; both are judged node by node.

use Rattle.std.specs.Prelude.{ℕ, zero, suc, ◌-◌, ◌^◌, pos, neg_ℤ, ℤ, Bool, true, false, if◌then◌else◌, ◌==◌, ◌||◌, List, [], ◌∷◌, ◌++◌, Option, None, Some, ◌≡◌, negsuc, codes, refl}
use Rattle.std.specs.Fmt.{digits}
use Rattle.std.specs.Char.{is_ascii_digit}
use Rattle.edb_lang.specs.Terms.{Datum, int, atom, tuple, nil, cons, none, of_list, most_high, most_large}
use Rattle.edb_lang.specs.TermText.{plain_text, text, tuple_text, items_text}
use Rattle.edb_fields.specs.Atoms.{atom_at}
use Rattle.edb_fields.specs.Chain.{◌>>=◌}
use Rattle.edb_fields.specs.Numerals.{numeral_at}
use Rattle.edb_fields.specs.Reading.{first_at, byte_at, field_at}

-- what was read, the room that is left, and the rest
abbrev pub Found : Type 0 → Type 0
Found A = Option (A × ℕ × List ℕ)

-- whether the term is what a list ends in, the room, and the bytes
abbrev pub Reader : Type 0
Reader = Bool → ℕ → List ℕ → Found Datum

-- the greatest integer of a literal
abbrev pub most_integer : ℕ
most_integer = 2 ^ 127 - 1

abbrev pub positive : Option (ℕ × List ℕ) → Option (ℤ × List ℕ)
positive number = do
  (n, rest) ← number
  Some (pos n, rest)

abbrev pub negative : Option (ℕ × List ℕ) → Option (ℤ × List ℕ)
negative number = do
  (n, rest) ← number
  Some (neg_ℤ (pos n), rest)

-- an integer, after its sign if it has one
abbrev pub integer_at : List ℕ → Option (ℤ × List ℕ)
integer_at bytes = do
  (c, after) ← first_at bytes
  if c == 45 then negative (numeral_at most_integer after) else positive (numeral_at most_integer bytes)

abbrev pub integer_term : Option (ℤ × List ℕ) → Option (Datum × List ℕ)
integer_term read = do
  (i, rest) ← read
  Some (int i, rest)

abbrev pub atom_term : Option (List ℕ × List ℕ) → Option (Datum × List ℕ)
atom_term read = do
  (name, rest) ← read
  Some (atom name, rest)

-- an integer or an atom
abbrev pub leaf_at : List ℕ → Option (Datum × List ℕ)
leaf_at bytes = do
  (c, _) ← first_at bytes
  if is_ascii_digit c || c == 45 then integer_term (integer_at bytes) else atom_term (atom_at bytes)

-- the room that a term leaves to its parts
abbrev pub one_less : ℕ → Option ℕ
one_less zero = None
one_less (suc n) = Some n

-- this term, which has no parts
abbrev pub single : Datum → ℕ → List ℕ → Found Datum
single t room rest = do
  left ← one_less room
  Some (t, left, rest)

abbrev pub roomy_leaf : ℕ → List ℕ → Found Datum
roomy_leaf room bytes = do
  left ← one_less room
  (t, rest) ← leaf_at bytes
  Some (t, left, rest)

-- a list's cell, after its bracket or comma
abbrev pub cell_at : Option Reader → ℕ → List ℕ → Found Datum
cell_at deep room bytes = do
  sub ← deep
  left ← one_less room
  (head, fewer, after) ← sub false left bytes
  (tail, last, rest) ← sub true fewer after
  Some (cons head tail, last, rest)

-- an element of a tuple, and whether a comma or a brace comes after it
abbrev pub item_at : Reader → ℕ → List ℕ → Option (Datum × ℕ × Bool × List ℕ)
item_at sub room bytes = do
  (t, left, after) ← sub false room bytes
  (mark, rest) ← first_at after
  if mark == 44 then Some (t, left, true, rest) else if mark == 125 then Some (t, left, false, rest) else None

-- the elements so far with those up to the closing brace, at most as many as there are turns
abbrev mutual
  pub items_at : Reader → ℕ → List Datum → ℕ → List ℕ → Found (List Datum)
  items_at sub zero found room bytes = None
  items_at sub (suc turns) found room bytes =
      item_at sub room bytes
      >>= (λ x. if x.2 then items_at sub turns (found ++ x.0 ∷ []) x.1 x.3 else Some (found ++ x.0 ∷ [], x.1, x.3))

-- a tuple, after its brace
abbrev pub elements_at : Reader → ℕ → List ℕ → Found Datum
elements_at sub room bytes = do
  (found, left, rest) ← items_at sub room [] room bytes
  Some (tuple (of_list found), left, rest)

abbrev pub tuple_at : Option Reader → ℕ → List ℕ → Found Datum
tuple_at deep room bytes = do
  sub ← deep
  left ← one_less room
  (c, rest) ← first_at bytes
  if c == 125 then Some (tuple none, left, rest) else elements_at sub left bytes

-- a list, after its bracket
abbrev pub list_at : Option Reader → ℕ → List ℕ → Found Datum
list_at deep room bytes = do
  (c, rest) ← first_at bytes
  if c == 93 then single nil room rest else cell_at deep room bytes

-- a term by itself
abbrev pub own_at : Option Reader → ℕ → List ℕ → Found Datum
own_at deep room bytes = do
  (c, after) ← first_at bytes
  if c == 123 then tuple_at deep room after else if c == 91 then list_at deep room after else roomy_leaf room bytes

-- a term that closes a list, before its bracket
abbrev pub last_at : Option Reader → ℕ → List ℕ → Found Datum
last_at deep room bytes = do
  (t, left, after) ← own_at deep room bytes
  rest ← byte_at 93 after
  Some (t, left, rest)

-- what a list has after its elements so far
abbrev pub tail_at : Option Reader → ℕ → List ℕ → Found Datum
tail_at deep room bytes = do
  (c, after) ← first_at bytes
  (if c == 93 then single nil room after else if c == 44 then cell_at deep room after
      else if c == 124 then last_at deep room after else None)

abbrev pub node_at : Option Reader → Reader
node_at deep tail room bytes = if tail then tail_at deep room bytes else own_at deep room bytes

-- a term of at most so many levels
unfoldable pub term_at : ℕ → Reader
term_at zero = node_at None
term_at (suc n) = node_at (Some (term_at n))

-- what reads the parts of such a term
abbrev pub deeper : ℕ → Option Reader
deeper zero = None
deeper (suc n) = Some (term_at n)

abbrev pub literal_at : ℕ → ℕ → List ℕ → Option (Datum × List ℕ)
literal_at levels room bytes = do
  (t, _, rest) ← term_at levels false room bytes
  Some (t, rest)

-- the field of a literal term
abbrev pub plain_at : ℕ → ℕ → List ℕ → Option (Datum × List ℕ)
plain_at levels room bytes = field_at plain_text (literal_at levels room) bytes

-- whether a list ends in nil
abbrev pub is_proper : Datum → Bool
is_proper nil = true
is_proper (cons h t) = is_proper t
is_proper _ = false

-- the field of a start's list
abbrev pub args_at : List ℕ → Option (Datum × List ℕ)
args_at bytes = do
  (t, rest) ← plain_at most_high most_large bytes
  if is_proper t then Some (t, rest) else None

-- [1,{}|-2], which is 3 high and 5 large
abbrev one_and_more : Datum
one_and_more = cons (int (pos 1)) (cons (tuple none) (int (negsuc 1)))

just_fits : plain_at 3 5 (codes " [1,{}|-2]\n") ≡ Some (one_and_more, codes "\n")
unfolding term_at plain_text text tuple_text items_text digits
just_fits = refl

one_too_high : plain_at 2 5 (codes " [1,{}|-2]\n") ≡ None
unfolding term_at
one_too_high = refl

one_too_large : plain_at 3 4 (codes " [1,{}|-2]\n") ≡ None
unfolding term_at
one_too_large = refl

large_tuple : plain_at 3 4 (codes " {1,2,3,4}\n") ≡ None
unfolding term_at
large_tuple = refl

leading_zero : plain_at 3 9 (codes " [01]\n") ≡ None
unfolding term_at plain_text text tuple_text items_text digits
leading_zero = refl

not_closed : plain_at 3 9 (codes " [1\n") ≡ None
unfolding term_at
not_closed = refl
