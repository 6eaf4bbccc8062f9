-- The tables of marks and of reserved words: no spelling stands twice, and each has its shape.
use Rattle.std.proofs.Common.{◌≡◌, ℕ, Bool, true, false, not, ◌&&◌, List, [], ◌∷◌, map, refl, sym, ap, ◌∙◌, inl, inr}
use Rattle.std.specs.Prelude.{bytes_eq}
use Rattle.std.specs.List.{list_all}
use Rattle.std.specs.Cmp.Lexicographic.{bytes_decides}
use Rattle.std.proofs.lemmas.Bool.{and_parts, both_ways, not-true}
use Rattle.edb_scan.specs.declared.lexeme.Mark.{Mark}
use Rattle.edb_scan.specs.declared.tables.TheConstants.{MARKS, WORDS}
use Rattle.edb_scan.specs.declared.classes.Class.{Class}
use Rattle.edb_scan.specs.declared.classes.Class.TheVariants.{Space, Percent, Digit, Lower, Upper, Quote, Tick, Dollar, Other}
use Rattle.edb_scan.specs.FirstByte.{class_of}
use Rattle.edb_scan.specs.Letters.{is_lower, is_name_char}
use Rattle.edb_scan.specs.Lexis.{IsName}
use Rattle.edb_scan.specs.Spellings.{Lists, mark_rows, word_rows, IsMark, IsWord}

-- the code's tables have the marks and the reserved words, each with its spelling
pub marks_listed : map (λ row. (row.0.now, row.1)) MARKS ≡ mark_rows
marks_listed = refl

pub words_listed : map (λ row. (row.0.now, row.1)) WORDS ≡ word_rows
words_listed = refl

-- what a test says of each row's text
pub lists_pass : (test : List ℕ → Bool) (rows : List (List ℕ × Mark)) (text : List ℕ) (m : Mark) → list_all (λ row. test row.0) rows ≡ true → Lists rows text m → test text ≡ true
lists_pass test [] text m all h = absurd h
lists_pass test (row ∷ rows) text m all (inl h) = ap test (sym h.0) ∙ (and_parts (test row.0) (list_all (λ other. test other.0) rows) all).0
lists_pass test (row ∷ rows) text m all (inr h) = lists_pass test rows text m (and_parts (test row.0) (list_all (λ other. test other.0) rows) all).1 h

-- no two rows have one text
abbrev pub distinct : List (List ℕ × Mark) → Bool
distinct [] = true
distinct (row ∷ rows) = list_all (λ other. not (bytes_eq row.0 other.0)) rows && distinct rows

pub one_mark : (rows : List (List ℕ × Mark)) (text : List ℕ) (m n : Mark) → distinct rows ≡ true → Lists rows text m → Lists rows text n → m ≡ n
one_mark [] text m n d h k = absurd h
one_mark (row ∷ rows) text m n d h k =
    let parts = and_parts (list_all (λ other. not (bytes_eq row.0 other.0)) rows) (distinct rows) d in
    let apart : (o : Mark) → row.0 ≡ text → Lists rows text o → ⊥ = λ o same later.
    both_ways (bytes_eq row.0 text) (not-true (bytes_eq row.0 text) (lists_pass (λ t. not (bytes_eq row.0 t)) rows text o parts.0 later)) ((bytes_decides row.0 text).1 same) in
    elim h [
      | inl here ↦ elim k [
        | inl too ↦ sym here.1 ∙ too.1
        | inr later ↦ absurd (apart n here.0 later)
      ]
      | inr later ↦ elim k [
        | inl here ↦ absurd (apart m here.0 later)
        | inr later2 ↦ one_mark rows text m n parts.1 later later2
      ]
    ]

mark_rows_distinct : distinct mark_rows ≡ true
mark_rows_distinct = refl

word_rows_distinct : distinct word_rows ≡ true
word_rows_distinct = refl

pub one_mark_of : (text : List ℕ) (m n : Mark) → IsMark text m → IsMark text n → m ≡ n
unfolding IsMark
one_mark_of text m n h k = one_mark mark_rows text m n mark_rows_distinct h k

pub one_word_of : (text : List ℕ) (m n : Mark) → IsWord text m → IsWord text n → m ≡ n
unfolding IsWord
one_word_of text m n h k = one_mark word_rows text m n word_rows_distinct h k

-- a mark begins with a byte of the class Other
is_other : Class → Bool
is_other Other = true
is_other _ = false

other : (class : Class) → is_other class ≡ true → class ≡ Other
unfolding is_other
other Other h = refl
other Space h = absurd (cc)
other Percent h = absurd (cc)
other Digit h = absurd (cc)
other Lower h = absurd (cc)
other Upper h = absurd (cc)
other Quote h = absurd (cc)
other Tick h = absurd (cc)
other Dollar h = absurd (cc)

begins_other : List ℕ → Bool
begins_other [] = false
begins_other (c ∷ cs) = is_other (class_of c)

mark_rows_other : list_all (λ row. begins_other row.0) mark_rows ≡ true
unfolding begins_other is_other class_of
mark_rows_other = refl

pub mark_class : (c : ℕ) (t : List ℕ) (m : Mark) → IsMark (c ∷ t) m → class_of c ≡ Other
unfolding IsMark begins_other
mark_class c t m h = other (class_of c) (lists_pass begins_other mark_rows (c ∷ t) m mark_rows_other h)

pub mark_some : (m : Mark) → IsMark [] m → ⊥
unfolding IsMark begins_other
mark_some m h = let none : false ≡ true = lists_pass begins_other mark_rows [] m mark_rows_other h in absurd (cc)

-- a reserved word has the shape of a name
is_bare_name : List ℕ → Bool
is_bare_name [] = false
is_bare_name (c ∷ cs) = is_lower c && list_all is_name_char cs

word_rows_names : list_all (λ row. is_bare_name row.0) word_rows ≡ true
unfolding is_bare_name
word_rows_names = refl

bare_name : (text : List ℕ) → is_bare_name text ≡ true → IsName is_lower text
unfolding is_bare_name
bare_name [] h = absurd (cc)
bare_name (c ∷ cs) h = and_parts (is_lower c) (list_all is_name_char cs) h

pub word_name : (text : List ℕ) (m : Mark) → IsWord text m → IsName is_lower text
unfolding IsWord
word_name text m h = bare_name text (lists_pass is_bare_name word_rows text m word_rows_names h)
