-- The grammar of patterns: which tokens are which pattern. Each rule says what a whole list of tokens is.

use Rattle.std.specs.Prelude.{◌≢◌, ℕ, ◌≤◌, pos, neg_ℤ, List, [], ◌∷◌, ◌++◌, codes}
use Rattle.edb_scan.specs.declared.lexeme.Mark.TheVariants as mark
use Rattle.edb_scan.specs.declared.lexeme.Token.TheVariants.{Int, Char, Atom, Var}
use Rattle.edb_syntax.specs.Patterns.{Pat, Pats, int, atom, string, variable, any, tuple, list, list_with_tail, both, none, more}
use Rattle.edb_grammar.specs.Toks.{Place, Tok, tok, word, line_at, most_integer}
use Rattle.edb_grammar.specs.Strings.{ReadsString}

-- a variable, or `_`
pub data ReadsVariable : Tok → Pat → Type 0 where
  a_variable : {s : Place} {x : List ℕ} → x ≢ codes "_" → ReadsVariable (tok s (Var x)) (variable s.line x)
  anything : {s : Place} → ReadsVariable (tok s (Var (codes "_"))) (any s.line)

mutual
  -- `ReadsPat k ts p`: these tokens are the pattern p; k is 1 where it is two patterns joined by `=`, and else 0
  pub data ReadsPat : ℕ → List Tok → Pat → Type 0 where
    -- a variable or `_`
    p_variable : {t : Tok} {p : Pat} → ReadsVariable t p → ReadsPat 0 (t ∷ []) p
    -- an integer of 128 bits
    p_integer : {s : Place} {n : ℕ} → n ≤ most_integer → ReadsPat 0 (tok s (Int n) ∷ []) (int s.line (pos n))
    -- `-` and an integer
    p_negative : {s t : Place} {n : ℕ} → n ≤ most_integer → ReadsPat 0 (word s mark.Minus ∷ tok t (Int n) ∷ []) (int s.line (neg_ℤ (pos n)))
    -- a character is the integer of its code point
    p_character : {s : Place} {c : ℕ} → ReadsPat 0 (tok s (Char c) ∷ []) (int s.line (pos c))
    -- an atom
    p_atom : {s : Place} {a : List ℕ} → ReadsPat 0 (tok s (Atom a) ∷ []) (atom s.line a)
    -- a string, on the line of its first token
    p_string : {ts : List Tok} {cs : List ℕ} → ReadsString ts cs → ReadsPat 0 ts (string (line_at ts) cs)
    -- `{P, Q}`, also `{}`
    p_tuple : {ts : List Tok} {ps : Pats} (o c : Place) → ReadsPatsOrNone ts ps
        → ReadsPat 0 (word o mark.BraceOpen ∷ (ts ++ word c mark.BraceClose ∷ [])) (tuple o.line ps)
    -- `[P, Q]`, also `[]`
    p_list : {ts : List Tok} {ps : Pats} (o c : Place) → ReadsPatsOrNone ts ps
        → ReadsPat 0 (word o mark.BracketOpen ∷ (ts ++ word c mark.BracketClose ∷ [])) (list o.line ps)
    -- `[P, Q | T]`
    p_list_with_tail : {k : ℕ} {ts us : List Tok} {ps : Pats} {t : Pat} (o b c : Place) → ReadsPats ts ps → ReadsPat k us t
        → ReadsPat 0 (word o mark.BracketOpen ∷ (ts ++ word b mark.Bar ∷ (us ++ word c mark.BracketClose ∷ []))) (list_with_tail o.line ps t)
    -- `P = Q`, which groups to the right
    p_both : {k : ℕ} {ts us : List Tok} {p q : Pat} (s : Place) → ReadsPat 0 ts p → ReadsPat k us q
        → ReadsPat 1 (ts ++ word s mark.Match ∷ us) (both (line_at ts) p q)

  -- patterns with commas between them, one at least
  pub data ReadsPats : List Tok → Pats → Type 0 where
    one_pattern : {k : ℕ} {ts : List Tok} {p : Pat} → ReadsPat k ts p → ReadsPats ts (more p none)
    more_patterns : {k : ℕ} {ts us : List Tok} {p : Pat} {ps : Pats} (s : Place) → ReadsPat k ts p → ReadsPats us ps
        → ReadsPats (ts ++ word s mark.Comma ∷ us) (more p ps)

  -- patterns, or none
  pub data ReadsPatsOrNone : List Tok → Pats → Type 0 where
    no_patterns : ReadsPatsOrNone [] none
    some_patterns : {ts : List Tok} {ps : Pats} → ReadsPats ts ps → ReadsPatsOrNone ts ps
