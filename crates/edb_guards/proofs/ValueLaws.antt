-- The values of tests, one after the other.

use Rattle.std.proofs.Common.{◌≡◌, ◌<◌, ◌+◌, ap, sym, refl, ◌∙◌, ℕ, suc, List, [], ◌∷◌, ◌++◌, map, length, drop, get_or, drop-cons, add-one, append_assoc}
use Rattle.std.specs.Prelude.{Option, Some, None}
use Rattle.std.specs.Option.{option_map, option_and_then}
use Rattle.std.proofs.lemmas.List.{map_push}
use Rattle.edb_lang.specs.Pairs.{Pairs}
use Rattle.edb_lang.specs.Terms.{Datum}
use Rattle.edb_syntax.specs.Syntax.{Exp, exps_of}
use Rattle.edb_moves.specs.Guards.{test_value, test_values}
use Rattle.edb_guards.specs.declared.value.Value.{Value}
use Rattle.edb_guards.specs.Views.{value_of}

-- a first value may as well be the last of those before it
moved : (vs : List Datum) (v : Datum) (rest : Option (List Datum)) → option_map (λ ws. (vs ++ v ∷ []) ++ ws) rest ≡ option_map (λ ws. vs ++ ws) (option_map (λ ws. v ∷ ws) rest)
moved vs v None = refl
moved vs v (Some ws) = ap Some (append_assoc vs (v ∷ []) ws)

-- where the values so far and those of the tests that are left are those of all, so are they with the next one
pub values-next : (me : ℕ) (bs : Pairs) (es : List Exp) (vs us : List Value) (i : ℕ) (e : Exp) (v : Value) (all : Option (List Datum))
    → i < length es → e ≡ get_or es i e → Some (value_of v) ≡ test_value me bs e → us ≡ vs ++ v ∷ []
    → option_map (λ ws. map value_of vs ++ ws) (test_values me bs (exps_of (drop i es))) ≡ all
    → option_map (λ ws. map value_of us ++ ws) (test_values me bs (exps_of (drop (i + 1) es))) ≡ all
values-next me bs es vs us i e v all below is value pushed so_far =
    let rest = test_values me bs (exps_of (drop (i + 1) es)) in
    let split : drop i es ≡ e ∷ drop (i + 1) es = drop-cons es i e below ∙ (ap (λ d. d ∷ drop (suc i) es) (sym is) ∙ ap (λ j. e ∷ drop j es) (sym (add-one i))) in
    let first : test_values me bs (exps_of (drop i es)) ≡ option_map (λ ws. value_of v ∷ ws) rest =
    ap (λ ds. test_values me bs (exps_of ds)) split ∙ ap (λ o. option_and_then (λ w. option_map (λ ws. w ∷ ws) rest) o) (sym value) in
    let values : map value_of us ≡ map value_of vs ++ value_of v ∷ [] = ap (map value_of) pushed ∙ map_push value_of vs v in
    ap (λ ws. option_map (λ xs. ws ++ xs) rest) values
    ∙ (moved (map value_of vs) (value_of v) rest ∙ (ap (option_map (λ ws. map value_of vs ++ ws)) (sym first) ∙ so_far))
