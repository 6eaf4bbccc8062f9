-- A text that is put piece by piece.

use Rattle.std.proofs.Common.{◌≡◌, ℕ, List, [], ◌∷◌, ◌++◌, Option, None, Some, Result, Err, IfErr, ◌≢◌, refl, sym, ap, ◌∙◌, subst, append_assoc, append-nil, encode_utf8}
use Rattle.std.proofs.lemmas.Bool.{ne_eqb}
use Rattle.std.specs.Option.{option_and_then, option_map}
use Rattle.edb_lang.specs.Terms.{Datum, nil, cons}
use Rattle.edb_format.specs.Formats.{shown, behind, formatted, directed, format_text_of}
use Rattle.edb_lang.specs.ListTerms.{point_of, characters_of, elements_of}
use Rattle.edb_format.specs.Putting.{directed_text_of, IsRefusal}
use Rattle.edb_format.specs.declared.unwritten.Unwritten.{Unwritten}
use Rattle.edb_format.specs.declared.unwritten.Unwritten.TheVariants.{Memory, Refused}

-- a text after two others, and after none
pub behind_behind : (x y : List ℕ) (o : Option (List ℕ)) → behind x (behind y o) ≡ behind (x ++ y) o
behind_behind x y None = refl
behind_behind x y (Some text) = ap Some (sym (append_assoc x y text))

pub nothing_before : (o : Option (List ℕ)) → behind [] o ≡ o
nothing_before None = refl
nothing_before (Some text) = refl

-- one character more of a format
more_read : (f g : List ℕ → List Datum → Option (List ℕ)) (text : List ℕ) (h t a : Datum) (c : ℕ) → point_of h ≡ Some c
    → ((cs : List ℕ) (ts : List Datum) → f (c ∷ cs) ts ≡ behind text (g cs ts))
    → option_and_then (λ cs. option_and_then (f cs) (elements_of a)) (characters_of (cons h t)) ≡ behind text (option_and_then (λ cs. option_and_then (g cs) (elements_of a)) (characters_of t))
more_read f g text h t a c is each = rw is (go (characters_of t) (elements_of a))
  where
    go : (cs : Option (List ℕ)) (ts : Option (List Datum)) → option_and_then (λ cs. option_and_then (f cs) ts) (option_map (λ cs. c ∷ cs) cs) ≡ behind text (option_and_then (λ cs. option_and_then (g cs) ts) cs)
    go None ts = refl
    go (Some cs) None = refl
    go (Some cs) (Some ts) = each cs ts

-- a character that stands for itself
pub character_put : (front : List ℕ) (h t a : Datum) (c : ℕ) → point_of h ≡ Some c → c ≢ 126
    → behind front (format_text_of (cons h t) a) ≡ behind (front ++ encode_utf8 c) (format_text_of t a)
unfolding formatted format_text_of
character_put front h t a c is plain =
    rw (more_read formatted formatted (encode_utf8 c) h t a c is (λ cs ts. rw (ne_eqb c 126 plain) refl)) (behind_behind front (encode_utf8 c) (format_text_of t a))

-- a tilde
pub tilde_read : (h t a : Datum) → point_of h ≡ Some 126 → format_text_of (cons h t) a ≡ directed_text_of t a
unfolding formatted format_text_of directed_text_of
tilde_read h t a is = rw (more_read formatted directed [] h t a 126 is (λ cs ts. sym (nothing_before (directed cs ts)))) (nothing_before (directed_text_of t a))

-- the directives of a newline and a tilde
pub newline_put : (h t a : Datum) → point_of h ≡ Some 110 → directed_text_of (cons h t) a ≡ behind (10 ∷ []) (format_text_of t a)
unfolding directed format_text_of directed_text_of
newline_put h t a is = more_read directed formatted (10 ∷ []) h t a 110 is (λ cs ts. refl)

pub tilde_put : (h t a : Datum) → point_of h ≡ Some 126 → directed_text_of (cons h t) a ≡ behind (126 ∷ []) (format_text_of t a)
unfolding directed format_text_of directed_text_of
tilde_put h t a is = more_read directed formatted (126 ∷ []) h t a 126 is (λ cs ts. refl)

-- one character more of a format, which takes a term, and what it shows of it
term_taken : (text : List ℕ) (h t x a : Datum) (c : ℕ) → point_of h ≡ Some c
    → ((cs : List ℕ) (ts : List Datum) → directed (c ∷ cs) (x ∷ ts) ≡ behind text (formatted cs ts))
    → directed_text_of (cons h t) (cons x a) ≡ behind text (format_text_of t a)
unfolding format_text_of directed_text_of
term_taken text h t x a c is each = rw is (go (characters_of t) (elements_of a))
  where
    go : (cs : Option (List ℕ)) (ts : Option (List Datum))
        → option_and_then (λ cs. option_and_then (directed cs) (option_map (λ ts. x ∷ ts) ts)) (option_map (λ cs. c ∷ cs) cs)
        ≡ behind text (option_and_then (λ cs. option_and_then (formatted cs) ts) cs)
    go None ts = refl
    go (Some cs) None = refl
    go (Some cs) (Some ts) = each cs ts

pub shown_put : (front whole : List ℕ) (h t x a : Datum) (c : ℕ) → point_of h ≡ Some c → c ≢ 110 → c ≢ 126 → behind front (shown c x) ≡ Some whole
    → behind front (directed_text_of (cons h t) (cons x a)) ≡ behind whole (format_text_of t a)
unfolding directed
shown_put front whole h t x a c is no_newline no_tilde = put (shown c x) refl
  where
    put : (o : Option (List ℕ)) → shown c x ≡ o → behind front o ≡ Some whole → behind front (directed_text_of (cons h t) (cons x a)) ≡ behind whole (format_text_of t a)
    put None shows e = cc e
    put (Some text) shows e =
        rw (term_taken text h t x a c is (λ cs ts. rw (ne_eqb c 110 no_newline, ne_eqb c 126 no_tilde, shows) refl))
        (behind_behind front text (format_text_of t a) ∙ ap (λ o. option_and_then (λ w. behind w (format_text_of t a)) o) e)

-- if a part of a text isn't there
nowhere : (f : List ℕ → List Datum → Option (List ℕ)) (cs : Option (List ℕ)) (ts : Option (List Datum)) → ((cs : List ℕ) (ts : List Datum) → f cs ts ≡ None)
    → option_and_then (λ cs. option_and_then (f cs) ts) cs ≡ None
nowhere f None ts each = refl
nowhere f (Some cs) None each = refl
nowhere f (Some cs) (Some ts) each = each cs ts

-- nothing is left of either
pub both_end : (x : List ℕ) → behind x (format_text_of nil nil) ≡ Some x
unfolding formatted format_text_of
both_end x = ap Some (append-nil x)

-- the arguments are no list
pub no_list : (format a : Datum) → elements_of a ≡ None → format_text_of format a ≡ None
unfolding format_text_of
no_list format a is = rw is (nowhere (λ cs ts. None) (characters_of format) None (λ cs ts. refl))

pub no_list_behind : (format a : Datum) → elements_of a ≡ None → directed_text_of format a ≡ None
unfolding directed_text_of
no_list_behind format a is = rw is (nowhere (λ cs ts. None) (characters_of format) None (λ cs ts. refl))

-- nothing stands after a tilde
pub no_letter : (a : Datum) → directed_text_of nil a ≡ None
unfolding directed directed_text_of
no_letter a = nowhere (λ cs. directed []) (Some []) (elements_of a) (λ cs ts. refl)

-- a term is left at the end
pub one_left : (x a : Datum) → format_text_of nil (cons x a) ≡ None
unfolding formatted format_text_of
one_left x a = left (elements_of a)
  where
    left : (ts : Option (List Datum)) → option_and_then (formatted []) (option_map (λ ts. x ∷ ts) ts) ≡ None
    left None = refl
    left (Some ts) = refl

-- no term is there to be shown
pub none_left : (h t : Datum) (c : ℕ) → point_of h ≡ Some c → c ≢ 110 → c ≢ 126 → directed_text_of (cons h t) nil ≡ None
unfolding directed directed_text_of
none_left h t c is no_newline no_tilde = rw is (left (characters_of t))
  where
    left : (cs : Option (List ℕ)) → option_and_then (λ cs. directed cs []) (option_map (λ cs. c ∷ cs) cs) ≡ None
    left None = refl
    left (Some cs) = rw (ne_eqb c 110 no_newline, ne_eqb c 126 no_tilde) refl

-- the term isn't one that the letter shows
pub not_shown : (h t x a : Datum) (c : ℕ) → point_of h ≡ Some c → c ≢ 110 → c ≢ 126 → shown c x ≡ None → directed_text_of (cons h t) (cons x a) ≡ None
unfolding directed directed_text_of
not_shown h t x a c is no_newline no_tilde shows = rw is (left (characters_of t) (elements_of a))
  where
    left : (cs : Option (List ℕ)) (ts : Option (List Datum)) → option_and_then (λ cs. option_and_then (directed cs) (option_map (λ ts. x ∷ ts) ts)) (option_map (λ cs. c ∷ cs) cs) ≡ None
    left None ts = refl
    left (Some cs) None = refl
    left (Some cs) (Some ts) = rw (ne_eqb c 110 no_newline, ne_eqb c 126 no_tilde, shows) refl

-- if a part isn't there, the whole isn't, and the refusal is the part's
pub passed_on : {X : Type 0} (result : Result X Unwritten) (e : Unwritten) (part whole : Option (List ℕ)) → IsRefusal e part → result ≡ Err e → (part ≡ None → whole ≡ None)
    → IfErr result (λ e. IsRefusal e whole)
passed_on {X} result Memory part whole h is fails = let P : Result X Unwritten → Type 0 = λ r. IfErr r (λ e. IsRefusal e whole) in subst P (sym is) tt
passed_on {X} result Refused part whole h is fails = let P : Result X Unwritten → Type 0 = λ r. IfErr r (λ e. IsRefusal e whole) in subst P (sym is) (fails h)

pub ruleset pieces = (behind_behind, character_put, tilde_read, newline_put, tilde_put, shown_put, no_list, no_list_behind, no_letter, one_left, none_left, not_shown, both_end)
