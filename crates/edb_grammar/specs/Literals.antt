-- Literal terms: which tokens are which term.

use Rattle.std.specs.Prelude.{ℕ, ◌≤◌, pos, neg_ℤ, List, [], ◌∷◌, ◌++◌}
use Rattle.edb_scan.specs.declared.lexeme.Mark.TheVariants as mark
use Rattle.edb_scan.specs.declared.lexeme.Token.TheVariants.{Int, Char, Atom}
use Rattle.edb_scan.specs.declared.lexeme.Placed.{Placed}
use Rattle.edb_lang.specs.Terms.{Datum, int, atom, tuple, nil, cons, Datums, none, more, IsWithin}
use Rattle.edb_grammar.specs.Toks.{Place, Tok, tok, word, places, most_integer}
use Rattle.edb_grammar.specs.Strings.{ReadsString}

-- a string is the list of its characters' code points
abbrev pub text_term : List ℕ → Datum
text_term [] = nil
text_term (c ∷ cs) = cons (int (pos c)) (text_term cs)

-- the list with these elements, behind which t stands
abbrev pub list_term : Datums → Datum → Datum
list_term none t = t
list_term (more d ds) t = cons d (list_term ds t)

mutual
  -- these tokens are the literal term
  pub data ReadsTerm : List Tok → Datum → Type 0 where
    -- an integer of 128 bits
    t_integer : {s : Place} {n : ℕ} → n ≤ most_integer → ReadsTerm (tok s (Int n) ∷ []) (int (pos n))
    -- `-` and an integer
    t_negative : {s t : Place} {n : ℕ} → n ≤ most_integer → ReadsTerm (word s mark.Minus ∷ tok t (Int n) ∷ []) (int (neg_ℤ (pos n)))
    -- a character is the integer of its code point
    t_character : {s : Place} {c : ℕ} → ReadsTerm (tok s (Char c) ∷ []) (int (pos c))
    -- an atom
    t_atom : {s : Place} {a : List ℕ} → ReadsTerm (tok s (Atom a) ∷ []) (atom a)
    -- a string
    t_string : {ts : List Tok} {cs : List ℕ} → ReadsString ts cs → ReadsTerm ts (text_term cs)
    -- `{A, B}`, also `{}`
    t_tuple : {ts : List Tok} {ds : Datums} (o c : Place) → ReadsTermsOrNone ts ds
        → ReadsTerm (word o mark.BraceOpen ∷ (ts ++ word c mark.BraceClose ∷ [])) (tuple ds)
    -- `[A, B]`, also `[]`
    t_list : {ts : List Tok} {ds : Datums} (o c : Place) → ReadsTermsOrNone ts ds
        → ReadsTerm (word o mark.BracketOpen ∷ (ts ++ word c mark.BracketClose ∷ [])) (list_term ds nil)
    -- `[A, B | T]`
    t_list_with_tail : {ts us : List Tok} {ds : Datums} {t : Datum} (o b c : Place) → ReadsTerms ts ds → ReadsTerm us t
        → ReadsTerm (word o mark.BracketOpen ∷ (ts ++ word b mark.Bar ∷ (us ++ word c mark.BracketClose ∷ []))) (list_term ds t)

  -- terms with commas between them, one at least
  pub data ReadsTerms : List Tok → Datums → Type 0 where
    one_term : {ts : List Tok} {d : Datum} → ReadsTerm ts d → ReadsTerms ts (more d none)
    more_terms : {ts us : List Tok} {d : Datum} {ds : Datums} (s : Place) → ReadsTerm ts d → ReadsTerms us ds
        → ReadsTerms (ts ++ word s mark.Comma ∷ us) (more d ds)

  -- terms, or none
  pub data ReadsTermsOrNone : List Tok → Datums → Type 0 where
    no_terms : ReadsTermsOrNone [] none
    some_terms : {ts : List Tok} {ds : Datums} → ReadsTerms ts ds → ReadsTermsOrNone ts ds

-- these tokens, from the first to the last, are the term, which is within the limits
pub record IsLiteral (tokens : List Placed) (t : Datum) : Type 0 where
  pub reads : ReadsTerm (places 0 tokens) t
  pub within : IsWithin t
