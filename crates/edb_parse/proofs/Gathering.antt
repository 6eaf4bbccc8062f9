-- The lists of the grammar, gathered from the items of the code's lists.

use Rattle.std.proofs.Common.{◌≡◌, suc, List, [], ◌∷◌, length, refl, ap, sym, add-one, ◌∙◌}
use Rattle.edb_syntax.specs.Patterns.{Pat, pats_of, pats_count}
use Rattle.edb_syntax.specs.Syntax.{Exp, Exps, ClauseTree, CatchTree, QualifierTree, exps_of, guards_of, clauses_of, catches_of, qualifiers_of, none, more, no_guard, alternative, no_clauses, more_clauses, no_catches, more_catches, no_qualifiers, more_qualifiers}
use Rattle.edb_parse.specs.Lists.{gather}

pub exps_gathered : (xs : List Exp) → gather more none xs ≡ exps_of xs
exps_gathered [] = refl
exps_gathered (x ∷ xs) = ap (more x) (exps_gathered xs)

pub guards_gathered : (xs : List Exps) → gather alternative no_guard xs ≡ guards_of xs
guards_gathered [] = refl
guards_gathered (x ∷ xs) = ap (alternative x) (guards_gathered xs)

pub clauses_gathered : (xs : List ClauseTree) → gather more_clauses no_clauses xs ≡ clauses_of xs
clauses_gathered [] = refl
clauses_gathered (x ∷ xs) = ap (more_clauses x) (clauses_gathered xs)

pub catches_gathered : (xs : List CatchTree) → gather more_catches no_catches xs ≡ catches_of xs
catches_gathered [] = refl
catches_gathered (x ∷ xs) = ap (more_catches x) (catches_gathered xs)

pub qualifiers_gathered : (xs : List QualifierTree) → gather more_qualifiers no_qualifiers xs ≡ qualifiers_of xs
qualifiers_gathered [] = refl
qualifiers_gathered (x ∷ xs) = ap (more_qualifiers x) (qualifiers_gathered xs)

pub pats_counted : (ps : List Pat) → length ps ≡ pats_count (pats_of ps)
pats_counted [] = refl
pats_counted (p ∷ ps) = ap suc (pats_counted ps) ∙ sym (add-one (pats_count (pats_of ps)))
