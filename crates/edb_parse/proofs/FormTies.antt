-- Forms: their ends, and lists of entries.

use Rattle.std.proofs.Common.{◌≡◌, ℕ, false, List, [], ◌∷◌, ◌++◌, length, ◌==◌, ◌≤◌, ◌<◌, max, nat_le, arith, refl, sym, ap, ◌∙◌}
use Rattle.std.proofs.lemmas.Bool.{false≢true}
use Rattle.std.proofs.lemmas.Bool.Decides.{nat_tests}
use Rattle.edb_scan.specs.declared.lexeme.Placed.{Placed}
use Rattle.edb_scan.specs.declared.lexeme.Token.{Token}
use Rattle.edb_scan.specs.declared.lexeme.Token.TheVariants as token
use Rattle.edb_scan.specs.declared.lexeme.Token.TheVariants.{Int, Float, Char, Atom, Var, Str, Dot}
use Rattle.edb_syntax.specs.declared.modules.Export.{Export}
use Rattle.edb_parse.specs.Lists.{gather}
use Rattle.edb_grammar.specs.Toks.{Place, Tok, tok, places, funs_with, open_behind, most_open}
use Rattle.edb_parse.specs.FormViews.{open_with}
use Rattle.edb_grammar.specs.Files.{is_dot}
use Rattle.edb_grammar.specs.FormReading.{is_end, last_is_dot, read_function, function_at, read_named_clause, part_of_form}
use Rattle.edb_grammar.specs.Forms.{deepest}
use Rattle.edb_grammar.specs.ExpressionReading.{read_clauses}

more_behind : (s : Place) (n : ℕ) (ts : List Placed) → (ts ≡ [] → ⊥) → is_end (tok s Dot ∷ places n ts) ≡ false
more_behind s n [] some = absurd (some refl)
more_behind s n (t ∷ ts) some = refl

alone_is_dot : (s : Place) (t : Token) → last_is_dot (tok s t ∷ []) ≡ is_dot t
alone_is_dot s Dot = refl
alone_is_dot s (Int n) = refl
alone_is_dot s Float = refl
alone_is_dot s (Char n) = refl
alone_is_dot s (Atom a) = refl
alone_is_dot s (Var x) = refl
alone_is_dot s (Str cs) = refl
alone_is_dot s (token.Mark m) = refl

dot_at_end : (n : ℕ) (front : List Placed) (t : Placed) → last_is_dot (places n (front ++ t ∷ [])) ≡ is_dot t.token
dot_at_end n [] t = alone_is_dot (record { line = t.line; funs = n }) t.token
dot_at_end n (u ∷ []) t = alone_is_dot (record { line = t.line; funs = funs_with n u.token }) t.token
dot_at_end n (u ∷ v ∷ front) t = dot_at_end (funs_with n u.token) (v ∷ front) t

pub last_of : (n : ℕ) (ts front : List Placed) (t : Placed) → ts ≡ front ++ t ∷ [] → is_dot t.token ≡ last_is_dot (places n ts)
last_of n ts front t e = sym (ap (λ us. last_is_dot (places n us)) e ∙ dot_at_end n front t)

pub not_ended : (s : Place) (n : ℕ) (t : Token) (ts : List Placed) (us : List Tok) → us ≡ tok s t ∷ places n ts → t ≡ Dot → (length ts == 0) ≡ false → is_end us ≡ false
not_ended s n t ts us e is some =
    ap is_end (e ∙ ap (λ v. tok s v ∷ places n ts) is) ∙ more_behind s n ts (λ none_left. false≢true (sym some ∙ ap (λ vs. length vs == 0) none_left))

pub entries_gathered : (xs : List Export) → gather ◌∷◌ [] xs ≡ xs
entries_gathered [] = refl
entries_gathered (x ∷ xs) = ap (◌∷◌ x) (entries_gathered xs)

at_least : (n : ℕ) (ts : List Tok) → n ≤ most_open n ts
at_least n [] = omega arith
at_least n (t ∷ ts) = omega arith

same_place : (n : ℕ) (s : Place) (t : Token) → open_behind n (tok s t) ≡ open_with n t
same_place n s t = refl

pub too_many : (n m : ℕ) (s : Place) (t : Token) (ts us : List Tok) → us ≡ tok s t ∷ ts → m < open_with n t → nat_le (most_open n us) m ≡ false
too_many n m s t ts us e more =
    let least : open_with n t ≤ most_open (open_behind n (tok s t)) ts = rw (sym (same_place n s t)) (at_least (open_behind n (tok s t)) ts) in
    let all : most_open n us ≡ max n (most_open (open_behind n (tok s t)) ts) = ap (most_open n) e in
    grind (arith, nat_tests, least, all, more)

pub function_named : (s : Place) (t : Token) (f : List ℕ) (ts us : List Tok) → us ≡ tok s t ∷ ts → t ≡ Atom f
    → read_function us ≡ function_at s.line f (read_clauses (read_named_clause f deepest part_of_form) us)
function_named s t f ts us e is =
    let first : us ≡ tok s (Atom f) ∷ ts = e ∙ ap (λ v. tok s v ∷ ts) is in
    ap read_function first ∙ ap (λ vs. function_at s.line f (read_clauses (read_named_clause f deepest part_of_form) vs)) (sym first)
