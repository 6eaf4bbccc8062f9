-- The loop over the forms of a file.

use Rattle.std.proofs.Common.{◌≡◌, ℕ, Bool, false, ◌==◌, ◌+◌, ◌<◌, List, [], ◌∷◌, take, drop, length, Some, Result, Ok, Err, sym, ap, ◌∙◌, subst, arith}
use Rattle.std.proofs.lemmas.Bool.Decides.{nat_tests}
use Rattle.std.proofs.lemmas.List.{length-drop, length-take-le}
use Rattle.edb_scan.specs.declared.lexeme.Placed.{Placed}
use Rattle.edb_syntax.specs.Syntax.{ModuleTree}
use Rattle.edb_grammar.specs.Toks.{places}
use Rattle.edb_grammar.specs.Files.{forms_of}
use Rattle.edb_grammar.specs.Forms.{names}
use Rattle.edb_grammar.specs.FormReading.{read_form}
use Rattle.edb_grammar.specs.FileReading.{Verdict, read_file, read_forms, behind_form, behind_first, form_length}
use Rattle.edb_grammar.proofs.FormSteps.{forms_turn, file_turn, form_positive, form_within}
use Rattle.edb_parse.specs.declared.files.NoModule.{NoModule}
use Rattle.edb_parse.specs.declared.files.NoModule.TheVariants.{Memory, Fault}
use Rattle.edb_parse.specs.FileViews.{GivesModule, GivesFirst, GoesOn}

-- the file, with its first form cut off
abbrev Begun : List Placed → List Placed → List Placed → Type 0
Begun ts form rest = read_file ts ≡ behind_first form (forms_of rest) (read_form (places 0 form))

begun : (ts form rest : List Placed) → 0 < length ts → form ≡ take (form_length ts) ts → rest ≡ drop (form_length ts) ts → Begun ts form rest
begun [] form rest some e f = absurd (omega (arith, some))
begun (t ∷ ts) form rest some e f =
    file_turn t ts ∙ (ap (λ g. behind_first g (forms_of (drop (form_length (t ∷ ts)) (t ∷ ts))) (read_form (places 0 g))) (sym e)
    ∙ ap (λ r. behind_first form (forms_of r) (read_form (places 0 form))) (sym f))

pub first_read : (ts form rest : List Placed) (l : ℕ) (a : List ℕ) → 0 < length ts → form ≡ take (form_length ts) ts → rest ≡ drop (form_length ts) ts
    → read_form (places 0 form) ≡ Some (names l a)
    → read_file ts ≡ read_forms 2 0 (record { name = a; line = l; exports = []; functions = [] }) (forms_of rest)
first_read ts form rest l a some e f reads = begun ts form rest some e f ∙ ap (behind_first form (forms_of rest)) reads

pub first_fails : (ts form rest : List Placed) (result : Result ModuleTree NoModule) (e : NoModule) → 0 < length ts → form ≡ take (form_length ts) ts → rest ≡ drop (form_length ts) ts
    → GivesFirst (Err e) form → result ≡ Err e → GivesModule result (read_file ts)
first_fails ts form rest result Memory some e f h is = let P : Result ModuleTree NoModule → Type 0 = λ r. GivesModule r (read_file ts) in subst P (sym is) tt
first_fails ts form rest result (Fault fault) some e f h is =
    let P : Result ModuleTree NoModule → Type 0 = λ r. GivesModule r (read_file ts) in
    subst P (sym is) (begun ts form rest some e f ∙ h (forms_of rest))

-- the forms that are left, with the first of them cut off
next : (n funs : ℕ) (m : ModuleTree) (ts form rest : List Placed) → 0 < length ts → form ≡ take (form_length ts) ts → rest ≡ drop (form_length ts) ts
    → read_forms n funs m (forms_of ts) ≡ behind_form n funs m form (λ k v. read_forms (n + 1) k v (forms_of rest)) (read_form (places funs form))
next n funs m [] form rest some e f = absurd (omega (arith, some))
next n funs m (t ∷ ts) form rest some e f =
    forms_turn n funs m t ts ∙ (ap (λ g. behind_form n funs m g (λ k v. read_forms (n + 1) k v (forms_of (drop (form_length (t ∷ ts)) (t ∷ ts)))) (read_form (places funs g))) (sym e)
    ∙ ap (λ r. behind_form n funs m form (λ k v. read_forms (n + 1) k v (forms_of r)) (read_form (places funs form))) (sym f))

pub next_read : (whole : Verdict) (n funs k : ℕ) (old new : ModuleTree) (ts form rest : List Placed) → 0 < length ts → form ≡ take (form_length ts) ts → rest ≡ drop (form_length ts) ts
    → whole ≡ read_forms n funs old (forms_of ts) → GoesOn (Ok k) n funs form old new → whole ≡ read_forms (n + 1) k new (forms_of rest)
next_read whole n funs k old new ts form rest some e f so_far h =
    so_far ∙ (next n funs old ts form rest some e f ∙ h (λ j v. read_forms (n + 1) j v (forms_of rest)))

pub next_fails : (whole : Verdict) (n funs : ℕ) (old new : ModuleTree) (ts form rest : List Placed) (result : Result ModuleTree NoModule) (e : NoModule)
    → 0 < length ts → form ≡ take (form_length ts) ts → rest ≡ drop (form_length ts) ts
    → whole ≡ read_forms n funs old (forms_of ts) → GoesOn (Err e) n funs form old new → result ≡ Err e → GivesModule result whole
next_fails whole n funs old new ts form rest result Memory some e f so_far h is =
    let P : Result ModuleTree NoModule → Type 0 = λ r. GivesModule r whole in subst P (sym is) tt
next_fails whole n funs old new ts form rest result (Fault fault) some e f so_far h is =
    let P : Result ModuleTree NoModule → Type 0 = λ r. GivesModule r whole in
    subst P (sym is) (so_far ∙ (next n funs old ts form rest some e f ∙ h (λ j v. read_forms (n + 1) j v (forms_of rest))))

-- what is cut off and what is left: one token at least is cut off
pub record Cut (ts form rest : List Placed) : Type 0 where
  pub whole : length form + length rest ≡ length ts
  pub some : 0 < length form

pub cut_off : (ts form rest : List Placed) → 0 < length ts → form ≡ take (form_length ts) ts → rest ≡ drop (form_length ts) ts → Cut ts form rest
cut_off [] form rest some e f = absurd (omega (arith, some))
cut_off (t ∷ ts) form rest some e f =
    let least = form_positive t ts in
    let most = form_within (t ∷ ts) in
    record {
      whole = omega (arith, ap length e, ap length f, length-take-le (form_length (t ∷ ts)) (t ∷ ts) most, length-drop (form_length (t ∷ ts)) (t ∷ ts), most);
      some = omega (arith, ap length e, length-take-le (form_length (t ∷ ts)) (t ∷ ts) most, least);
    }

pub some_left : (n : ℕ) (b : Bool) → b ≡ (n == 0) → b ≡ false → 0 < n
some_left n b e f = grind (arith, nat_tests)
