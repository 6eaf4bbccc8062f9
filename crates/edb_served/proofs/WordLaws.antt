-- Words among the fields of a line, and how fields begin.

use Rattle.std.proofs.Common.{◌≡◌, ℕ, suc, ◌+◌, ◌%◌, ◌<◌, ◌≤◌, ◌^◌, nat_eq, Bool, true, false, not, ◌&&◌, if◌then◌else◌, List, [], ◌∷◌, ◌++◌, length, take, drop, codes, None, Some, refl, ap, ◌∙◌, arith}
use Rattle.std.specs.Char.{is_ascii_digit, is_ascii_lowercase}
use Rattle.std.specs.Fmt.{decimal}
use Rattle.std.specs.List.{list_all, list_any}
use Rattle.std.proofs.lemmas.Bool.Decides.{nat_tests}
use Rattle.std.proofs.lemmas.List.{take_at, drop_at}
use Rattle.std.proofs.lemmas.Fmt.{decimal_by_steps_wide}
use Rattle.edb_lang.specs.TermText.{atom_text, is_bare, is_name_byte, reserved_words, same_name, quoted}
use Rattle.edb_lang.specs.declared.act.ActKind.{ActKind}
use Rattle.edb_lang.specs.declared.act.ActKind.TheVariants as kind
use Rattle.edb_lang.specs.declared.small.Action.{Action}
use Rattle.edb_lang.specs.declared.small.Action.TheVariants as action
use Rattle.edb_event.specs.declared.call.AutoFlag.{AutoFlag}
use Rattle.edb_event.specs.declared.call.AutoFlag.TheVariants as flag
use Rattle.edb_event.specs.declared.call.ProcStatus.{ProcStatus}
use Rattle.edb_event.specs.declared.call.ProcStatus.TheVariants as status
use Rattle.edb_event.specs.declared.call.TraceWord.{TraceWord}
use Rattle.edb_event.specs.declared.call.TraceWord.TheVariants as trace
use Rattle.edb_event.specs.declared.reply.Refusal.{Refusal}
use Rattle.edb_event.specs.declared.reply.Refusal.TheVariants as refusal
use Rattle.edb_event.specs.declared.reply.Reply.TheVariants as reply
use Rattle.edb_event.specs.Ranges.{IsReply}
use Rattle.edb_words.specs.Words.{status_word, action_word, flag_word, trace_word, refusal_word, kind_word}
use Rattle.edb_fields.specs.Separators.{fields, ends}
use Rattle.edb_fields.proofs.Chains.{both, none_some, false_true}
use Rattle.edb_fields.proofs.FieldLaws.{fields_end, front_of}
use Rattle.edb_served.specs.Small.{kinds, statuses, actions, flags, traces, refusals, value_at, kind_at, status_at, action_at, flag_at, trace_at, refusal_at}
use Rattle.edb_served.specs.Words.{parts_words, word_length, split_at_end, word_at, same, named, begins_with}

-- whether no byte ends a word
abbrev pub is_whole : List ℕ → Bool
is_whole word = list_all (λ c. not (parts_words c)) word

-- a field as its space, its text and what comes after it
first_field : (f : List ℕ) (fs : List (List ℕ)) (rest : List ℕ) → fields (f ∷ fs) ++ rest ≡ 32 ∷ (f ++ (fields fs ++ rest))
first_field f fs rest = (front_of (λ (text : List ℕ). text) (λ _. Unit {0}) f tt fs rest).parts

not_true : (b : Bool) → not b ≡ true → b ≡ false
not_true true e = absurd (false_true e)
not_true false e = refl

length_again : (word rest : List ℕ) → is_whole word ≡ true → ends rest ≡ true → word_length (word ++ rest) ≡ length word
length_again [] [] all h = refl
length_again [] (c ∷ cs) all h = rw h refl
length_again (b ∷ bs) rest all h =
    let p = both (not (parts_words b)) (list_all (λ c. not (parts_words c)) bs) all in
    rw (not_true (parts_words b) p.0) (ap (λ n. suc n) (length_again bs rest p.1 h))

pub split_again : (word rest : List ℕ) → is_whole word ≡ true → ends rest ≡ true → split_at_end (word ++ rest) ≡ (word, rest)
split_again word rest all h =
    ap (λ n. (take n (word ++ rest), drop n (word ++ rest))) (length_again word rest all h)
    ∙ ap (λ w. (w, drop (length word) (word ++ rest))) (take_at word rest (length word) refl)
    ∙ ap (λ r. (word, r)) (drop_at word rest (length word) refl)

pub word_read : (word : List ℕ) (fs : List (List ℕ)) (rest : List ℕ) → is_whole word ≡ true → word_at (fields (word ∷ fs) ++ rest) ≡ Some (word, fields fs ++ rest)
word_read word fs rest all = ap word_at (first_field word fs rest) ∙ ap Some (split_again word (fields fs ++ rest) all (fields_end fs rest))

-- a value that its word names
record IsKnown {A : Type 0} (word_of : A → List ℕ) (values : List A) (a : A) : Type 0 where
  whole : is_whole (word_of a) ≡ true
  found : named word_of values (word_of a) ≡ Some a

value_read : {A : Type 0} (word_of : A → List ℕ) (values : List A) (a : A) → IsKnown word_of values a → (fs : List (List ℕ)) (rest : List ℕ)
    → value_at word_of values (fields (word_of a ∷ fs) ++ rest) ≡ Some (a, fields fs ++ rest)
value_read word_of values a known fs rest = rw (word_read (word_of a) fs rest known.whole) (rw known.found refl)

known_kind : (k : ActKind) → IsKnown kind_word kinds k
known_kind kind.Send = record { whole = refl; found = refl }
known_kind _ = record { whole = refl; found = refl }

known_status : (s : ProcStatus) → IsKnown status_word statuses s
known_status status.Idle = record { whole = refl; found = refl }
known_status _ = record { whole = refl; found = refl }

known_action : (a : Action) → IsKnown action_word actions a
known_action action.Enable = record { whole = refl; found = refl }
known_action _ = record { whole = refl; found = refl }

known_flag : (f : AutoFlag) → IsKnown flag_word flags f
known_flag flag.Init = record { whole = refl; found = refl }
known_flag _ = record { whole = refl; found = refl }

known_trace : (w : TraceWord) → IsKnown trace_word traces w
known_trace trace.All = record { whole = refl; found = refl }
known_trace _ = record { whole = refl; found = refl }

known_refusal : (w : Refusal) → IsReply (reply.Refused w) → IsKnown refusal_word refusals w
known_refusal refusal.NotWaiting h = absurd h
known_refusal _ h = record { whole = refl; found = refl }

pub kind_read : (k : ActKind) (fs : List (List ℕ)) (rest : List ℕ) → kind_at (fields (kind_word k ∷ fs) ++ rest) ≡ Some (k, fields fs ++ rest)
kind_read k fs rest = value_read kind_word kinds k (known_kind k) fs rest

pub status_read : (s : ProcStatus) (fs : List (List ℕ)) (rest : List ℕ) → status_at (fields (status_word s ∷ fs) ++ rest) ≡ Some (s, fields fs ++ rest)
status_read s fs rest = value_read status_word statuses s (known_status s) fs rest

pub action_read : (a : Action) (fs : List (List ℕ)) (rest : List ℕ) → action_at (fields (action_word a ∷ fs) ++ rest) ≡ Some (a, fields fs ++ rest)
action_read a fs rest = value_read action_word actions a (known_action a) fs rest

pub flag_read : (f : AutoFlag) (fs : List (List ℕ)) (rest : List ℕ) → flag_at (fields (flag_word f ∷ fs) ++ rest) ≡ Some (f, fields fs ++ rest)
flag_read f fs rest = value_read flag_word flags f (known_flag f) fs rest

pub flag_whole : (f : AutoFlag) → is_whole (flag_word f) ≡ true
flag_whole f = (known_flag f).whole

pub flag_found : (f : AutoFlag) → named flag_word flags (flag_word f) ≡ Some f
flag_found f = (known_flag f).found

pub trace_read : (w : TraceWord) (fs : List (List ℕ)) (rest : List ℕ) → trace_at (fields (trace_word w ∷ fs) ++ rest) ≡ Some (w, fields fs ++ rest)
trace_read w fs rest = value_read trace_word traces w (known_trace w) fs rest

pub refusal_read : (w : Refusal) → IsReply (reply.Refused w) → (fs : List (List ℕ)) (rest : List ℕ) → refusal_at (fields (refusal_word w ∷ fs) ++ rest) ≡ Some (w, fields fs ++ rest)
refusal_read w is fs rest = value_read refusal_word refusals w (known_refusal w is) fs rest

pub begins_field : (test : ℕ → Bool) (head : ℕ) (others f : List ℕ) (fs : List (List ℕ)) (rest : List ℕ) → f ≡ head ∷ others → begins_with test (fields (f ∷ fs) ++ rest) ≡ test head
begins_field test head others f fs rest is = ap (begins_with test) (first_field f fs rest) ∙ ap (λ g. begins_with test (32 ∷ (g ++ (fields fs ++ rest)))) is

-- a number begins with a digit
record IsNumber (ds : List ℕ) : Type 0 where
  head : ℕ
  others : List ℕ
  is : ds ≡ head ∷ others
  digit : is_ascii_digit head ≡ true

number_begins : (n : ℕ) → n < 10 ^ 64 → IsNumber (decimal n)
number_begins n wide = decimal_by_steps_wide (λ n ds. IsNumber ds) one more n wide
  where
    one : (n : ℕ) → n < 10 → IsNumber ((48 + n) ∷ [])
    one n small = record { head = 48 + n; others = []; is = refl; digit = grind (arith, nat_tests) }

    more : (n : ℕ) (ds : List ℕ) → 10 ≤ n → IsNumber ds → IsNumber (ds ++ (48 + n % 10) ∷ [])
    more n ds large l = record { head = l.head; others = l.others ++ (48 + n % 10) ∷ []; is = ap (λ xs. xs ++ (48 + n % 10) ∷ []) l.is; digit = l.digit }

pub digit_first : (n : ℕ) → n < 10 ^ 64 → (fs : List (List ℕ)) (rest : List ℕ) → begins_with is_ascii_digit (fields (decimal n ∷ fs) ++ rest) ≡ true
digit_first n wide fs rest = let b = number_begins n wide in begins_field is_ascii_digit b.head b.others (decimal n) fs rest b.is ∙ b.digit

digit_no_equals : (c : ℕ) → is_ascii_digit c ≡ true → nat_eq 61 c ≡ false
digit_no_equals c h = grind (arith, nat_tests)

pub no_equals_number : (n : ℕ) → n < 10 ^ 64 → (fs : List (List ℕ)) (rest : List ℕ) → begins_with (nat_eq 61) (fields (decimal n ∷ fs) ++ rest) ≡ false
no_equals_number n wide fs rest = let b = number_begins n wide in begins_field (nat_eq 61) b.head b.others (decimal n) fs rest b.is ∙ digit_no_equals b.head b.digit

-- an atom begins with neither a digit nor an equals sign
record IsName (text : List ℕ) : Type 0 where
  head : ℕ
  others : List ℕ
  is : text ≡ head ∷ others
  no_digit : is_ascii_digit head ≡ false
  no_equals : nat_eq 61 head ≡ false

letter_kinds : (c : ℕ) → is_ascii_lowercase c ≡ true → (is_ascii_digit c ≡ false) × (nat_eq 61 c ≡ false)
letter_kinds c h = (grind (arith, nat_tests), grind (arith, nat_tests))

name_begins : (name : List ℕ) → IsName (atom_text name)
name_begins name = step (is_bare name) refl
  where
    bare : (name : List ℕ) → is_bare name ≡ true → IsName name
    bare [] e = absurd (none_some (ap (λ b. if b then Some b else None) e))
    bare (c ∷ cs) e =
        let p = both (is_ascii_lowercase c) (list_all is_name_byte cs && not (list_any (same_name (c ∷ cs)) reserved_words)) e in
        let d = letter_kinds c p.0 in
        record { head = c; others = cs; is = refl; no_digit = d.0; no_equals = d.1 }

    step : (b : Bool) → is_bare name ≡ b → IsName (if b then name else quoted 39 name)
    step true e = bare name e
    step false e = record { head = 39; others = _; is = refl; no_digit = refl; no_equals = refl }

pub no_digit_name : (name : List ℕ) (fs : List (List ℕ)) (rest : List ℕ) → begins_with is_ascii_digit (fields (atom_text name ∷ fs) ++ rest) ≡ false
no_digit_name name fs rest = let b = name_begins name in begins_field is_ascii_digit b.head b.others (atom_text name) fs rest b.is ∙ b.no_digit

pub no_equals_name : (name : List ℕ) (fs : List (List ℕ)) (rest : List ℕ) → begins_with (nat_eq 61) (fields (atom_text name ∷ fs) ++ rest) ≡ false
no_equals_name name fs rest = let b = name_begins name in begins_field (nat_eq 61) b.head b.others (atom_text name) fs rest b.is ∙ b.no_equals

pub equals_first : (fs : List (List ℕ)) (rest : List ℕ) → begins_with (nat_eq 61) (fields (codes "=" ∷ fs) ++ rest) ≡ true
equals_first fs rest = begins_field (nat_eq 61) 61 [] (codes "=") fs rest refl

pub no_equals_flag : (f : AutoFlag) (fs : List (List ℕ)) (rest : List ℕ) → begins_with (nat_eq 61) (fields (flag_word f ∷ fs) ++ rest) ≡ false
no_equals_flag flag.Init fs rest = begins_field (nat_eq 61) 105 _ (flag_word flag.Init) fs rest refl
no_equals_flag flag.Break fs rest = begins_field (nat_eq 61) 98 _ (flag_word flag.Break) fs rest refl
no_equals_flag flag.Exit fs rest = begins_field (nat_eq 61) 101 _ (flag_word flag.Exit) fs rest refl

pub flag_not_false : (f : AutoFlag) → same (flag_word f) (codes "false") ≡ false
flag_not_false flag.Init = refl
flag_not_false _ = refl
