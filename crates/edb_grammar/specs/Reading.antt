-- Reading from the front of a list of tokens, with one look ahead. These functions go down the grammar as the code
-- does; what a list of tokens means is said by the relations, and not here.

use Rattle.std.specs.Prelude.{ℕ, zero, suc, Bool, true, false, if◌then◌else◌, ◌==◌, List, [], ◌∷◌, ◌++◌, Option, None, Some}
use Rattle.edb_scan.specs.declared.lexeme.Mark.{Mark}
use Rattle.edb_scan.specs.declared.lexeme.Token.TheVariants as token
use Rattle.edb_scan.specs.declared.lexeme.Token.TheVariants.{Str}
use Rattle.edb_grammar.specs.Toks.{Tok, tok}
use Rattle.edb_grammar.specs.Marks.{same_mark}

-- what stands at the front, and the tokens behind it
abbrev pub Read : Type 0 → Type 0
Read A = List Tok → Option (A × List Tok)

-- the tokens behind this mark, where it stands first
abbrev pub behind : Mark → List Tok → Option (List Tok)
behind x (tok s (token.Mark y) ∷ ts) = if same_mark x y then Some ts else None
behind x _ = None

-- what was read, where this mark stands behind it, and the tokens behind the mark
abbrev pub closed_at : {A : Type 0} → A → Option (List Tok) → Option (A × List Tok)
closed_at a (Some us) = Some (a, us)
closed_at a None = None

abbrev pub closed : {A : Type 0} → Mark → Option (A × List Tok) → Option (A × List Tok)
closed x (Some q) = closed_at q.0 (behind x q.1)
closed x None = None

-- the item with those behind it
abbrev pub joined : {A L : Type 0} → (A → L → L) → A → Option (L × List Tok) → Option (L × List Tok)
joined cons a (Some q) = Some (cons a q.0, q.1)
joined cons a None = None

-- the last item, or one behind which the mark stands and further ones are read
abbrev pub last_or_more : {A L : Type 0} → (A → L → L) → L → Read L → A → List Tok → Option (List Tok) → Option (L × List Tok)
last_or_more cons nil further a ts (Some us) = joined cons a (further us)
last_or_more cons nil further a ts None = Some (cons a nil, ts)

abbrev pub after_item : {A L : Type 0} → (A → L → L) → L → Read L → Mark → Option (A × List Tok) → Option (L × List Tok)
after_item cons nil further x (Some q) = last_or_more cons nil further q.0 q.1 (behind x q.1)
after_item cons nil further x None = None

-- Items with a mark between them, one at least, joined by `cons` and `nil`; `turns` bounds how many there are.
abbrev pub items : {A L : Type 0} → (A → L → L) → L → Mark → Read A → ℕ → Read L
items cons nil x read zero ts = None
items cons nil x read (suc turns) ts = after_item cons nil (items cons nil x read turns) x (read ts)

-- the string tokens at the front: their characters, and the tokens behind them
abbrev pub more_text : List Tok → List ℕ
more_text (tok s (Str cs) ∷ ts) = cs ++ more_text ts
more_text _ = []

abbrev pub behind_text : List Tok → List Tok
behind_text (tok s (Str cs) ∷ ts) = behind_text ts
behind_text ts = ts

-- the name of the variable that nothing binds
abbrev pub is_blank : List ℕ → Bool
is_blank (c ∷ []) = c == 95
is_blank _ = false

-- reading goes on with what stands behind
abbrev pub onward : {A B : Type 0} → Option (A × List Tok) → (A → Read B) → Option (B × List Tok)
onward (Some q) f = f q.0 q.1
onward None f = None

-- what was read becomes a tree
abbrev pub made : {A B : Type 0} → (A → B) → Option (A × List Tok) → Option (B × List Tok)
made f (Some q) = Some (f q.0, q.1)
made f None = None

-- one way where a mark stood first, with what is behind it, and else the other
abbrev pub fork : {A : Type 0} → Option (List Tok) → Read A → Read A → Read A
fork (Some us) here there ts = here us
fork None here there ts = there ts

-- one way where something could be read, and else the other from the front
abbrev pub choose : {A B : Type 0} → Option (A × List Tok) → (A → Read B) → Read B → Read B
choose (Some q) f there ts = f q.0 q.1
choose None f there ts = there ts

abbrev pub refuse : {A : Type 0} → Read A
refuse ts = None

-- what was read, where a test holds
abbrev pub provided : {A : Type 0} → Bool → Read A → Read A
provided true read ts = read ts
provided false read ts = None
