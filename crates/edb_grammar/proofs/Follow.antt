-- What may stand behind what was read, so that reading stops there.

use Rattle.std.proofs.Common.{◌≡◌, ℕ, ◌≤◌, ◌<◌, Bool, true, false, List, ◌∷◌, ◌++◌, None, Some}
use Rattle.edb_scan.specs.declared.lexeme.Mark.TheVariants as mark
use Rattle.edb_scan.specs.declared.lexeme.Token.TheVariants.{Str}
use Rattle.edb_syntax.specs.Patterns.{Pat}
use Rattle.edb_syntax.specs.Depths.{depth, pattern_depth}
use Rattle.edb_syntax.specs.Syntax.{Exp}
use Rattle.edb_grammar.specs.Toks.{Tok, tok}
use Rattle.edb_grammar.specs.Operators.{Infix, level}
use Rattle.edb_grammar.specs.Patterns.{ReadsPat}
use Rattle.edb_grammar.specs.Expressions.{Reads}
use Rattle.edb_grammar.specs.Reading.{Read, behind}
use Rattle.edb_grammar.specs.ExpressionReading.{Reader, infix_at}

-- whether a string token stands first
abbrev pub begins_text : List Tok → Bool
begins_text (tok s (Str cs) ∷ ts) = true
begins_text _ = false

-- behind a pattern without `=` at its top: no further string token
-- behind any pattern: no `=` either
pub record CalmPat (rest : List Tok) : Type 0 where
  pub no_text : begins_text rest ≡ false
  pub no_match : behind mark.Match rest ≡ None

-- behind what stands by itself or a call: nothing that goes on with it
pub record CalmCall (rest : List Tok) : Type 0 where
  pub no_text : begins_text rest ≡ false
  pub no_arguments : behind mark.ParenOpen rest ≡ None
  pub no_name : behind mark.Colon rest ≡ None

-- behind an expression that was read to the loosest level l: nothing that goes on with it, no `=`, and no operator that
-- is as tight as l
pub record Calm (l : ℕ) (rest : List Tok) : Type 0 where
  pub call : CalmCall rest
  pub no_match : behind mark.Match rest ≡ None
  pub looser : (o : Infix) → infix_at rest ≡ Some o → l < level o

-- patterns at most n deep are read whole
abbrev pub WholePat : ℕ → Read Pat → Type 0
WholePat n part = (k : ℕ) (ts : List Tok) (p : Pat) → ReadsPat k ts p → pattern_depth p ≤ n → (rest : List Tok) → CalmPat rest → part (ts ++ rest) ≡ Some (p, rest)

-- expressions at most n deep, with at most m round brackets open at once, are read whole
abbrev pub Whole : ℕ → ℕ → Read Exp → Type 0
Whole m n part = (k : ℕ) (ts : List Tok) (e : Exp) → Reads m k ts e → depth e ≤ n → (rest : List Tok) → Calm 10 rest → part (ts ++ rest) ≡ Some (e, rest)

-- a reader for each number of brackets and each loosest level reads them whole
abbrev pub WholeReader : ℕ → Reader → Type 0
WholeReader n sub =
    (m k l : ℕ) (ts : List Tok) (e : Exp) → Reads m k ts e → depth e ≤ n → k ≤ l → 2 ≤ l → l ≤ 10 → (rest : List Tok) → Calm l rest → sub m l (ts ++ rest) ≡ Some (e, rest)
