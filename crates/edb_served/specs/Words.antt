-- A word: the bytes up to a space or a newline.

use Rattle.std.specs.Prelude.{◌≡◌, ℕ, suc, Bool, false, if◌then◌else◌, ◌==◌, ◌||◌, ◌&&◌, nat_eq, List, [], ◌∷◌, take, drop, Option, None, Some, codes, refl}
use Rattle.std.specs.Cmp.Lexicographic.{pointwise}
use Rattle.edb_fields.specs.Chain.{◌>>=◌}
use Rattle.edb_fields.specs.Reading.{space_at}

-- whether a word ends before this byte
abbrev pub parts_words : ℕ → Bool
parts_words c = c == 32 || c == 10

-- how long the word at the front is
abbrev pub word_length : List ℕ → ℕ
word_length [] = 0
word_length (c ∷ cs) = if parts_words c then 0 else suc (word_length cs)

-- the word at the front, and the rest
abbrev pub split_at_end : List ℕ → List ℕ × List ℕ
split_at_end bytes = (take (word_length bytes) bytes, drop (word_length bytes) bytes)

-- the word of a field
abbrev pub word_at : List ℕ → Option (List ℕ × List ℕ)
word_at bytes = do
  from ← space_at bytes
  Some (split_at_end from)

-- whether two words are the same
abbrev pub same : List ℕ → List ℕ → Bool
same = pointwise nat_eq

-- the first of some values whose word this is
abbrev pub named : {A : Type 0} → (A → List ℕ) → List A → List ℕ → Option A
named word_of [] word = None
named word_of (a ∷ others) word = if same word (word_of a) then Some a else named word_of others word

-- whether the next field begins with this byte
abbrev pub begins_with : (ℕ → Bool) → List ℕ → Bool
begins_with test (c ∷ d ∷ cs) = c == 32 && test d
begins_with test _ = false

two_words : word_at (codes " lease 1\n") ≡ Some (codes "lease", codes " 1\n")
two_words = refl

last_word : word_at (codes " order\n") ≡ Some (codes "order", codes "\n")
last_word = refl

no_space : word_at (codes "order\n") ≡ None
no_space = refl
