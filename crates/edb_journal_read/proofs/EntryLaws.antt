-- An entry's line that was written is read again, and what is read was written so.

use Rattle.std.proofs.Common.{◌≡◌, ℕ, ◌<◌, ◌≤◌, ◌^◌, ◌-◌, Bool, true, false, ◌==◌, List, [], ◌∷◌, ◌++◌, codes, Option, None, Some, Result, Ok, Err, IfOk, IfErr, refl, sym, ap, ◌∙◌, subst, arith, append_assoc, append-nil, length, length-append}
use Rattle.std.specs.Fmt.{decimal, digits}
use Rattle.edb_lang.specs.TermText.{atom_text, plain_text}
use Rattle.edb_event.specs.declared.entry.Cause.{Cause}
use Rattle.edb_event.specs.declared.entry.Cause.TheVariants as cause
use Rattle.edb_event.specs.declared.entry.Entry.{Entry}
use Rattle.edb_event.specs.declared.entry.Entry.TheVariants as entry
use Rattle.edb_event.specs.Ranges.{IsConsole, IsEntry}
use Rattle.edb_words.specs.Commands.{call_words}
use Rattle.edb_words.specs.Words.{action_word, kind_word}
use Rattle.edb_fields.specs.Answers.{Gives}
use Rattle.edb_fields.specs.Chain.{◌>>=◌}
use Rattle.edb_fields.specs.Hexadecimal.{hex_text}
use Rattle.edb_fields.specs.Reading.{line_end_at, after_text}
use Rattle.edb_fields.specs.Separators.{fields}
use Rattle.edb_fields.specs.declared.refusal.ReadError.{ReadError}
use Rattle.edb_fields.specs.declared.refusal.ReadError.TheVariants.{Memory, Refused}
use Rattle.edb_fields.proofs.Chains.{none_some, same_some, taken}
use Rattle.edb_fields.proofs.FieldLaws.{number_field, bytes_field, name_field, list_field, word_field, line_end, fields_end}
use Rattle.edb_fields.proofs.Texts.{after_text_again, after_text_parts}
use Rattle.edb_journal.specs.Lines.{line, cause_fields, ended_fields, applied_text}
use Rattle.edb_journal.specs.Replies.{reply_fields}
use Rattle.edb_journal.specs.Wide.{Is32Bits, Is64Bits, Is128Bits, IsWide, IsWideCause, IsWideReason}
use Rattle.edb_served.proofs.CallLaws.{call_again}
use Rattle.edb_served.proofs.ReplyLaws.{reply_again}
use Rattle.edb_served.proofs.WordLaws.{is_whole, split_again, word_read, kind_read, action_read}
use Rattle.edb_journal_read.proofs.Answered.{may_back}
use Rattle.edb_journal_read.specs.Entries.{IsFirst, NoneIsFirst}
use Rattle.edb_journal_read.specs.Reading.{short_at, long_at, serial_at, console_at, ended_at, cause_at, applied_at, entry_of, loose_at, entry_at}

short_read : (n : ℕ) → Is32Bits n → (fs : List (List ℕ)) (rest : List ℕ) → short_at (fields (decimal n ∷ fs) ++ rest) ≡ Some (n, fields fs ++ rest)
short_read n is fs rest = number_field 0 (2 ^ 32 - 1) n (omega arith) (omega arith) (omega (arith, is)) fs rest

long_read : (n : ℕ) → Is64Bits n → (fs : List (List ℕ)) (rest : List ℕ) → long_at (fields (decimal n ∷ fs) ++ rest) ≡ Some (n, fields fs ++ rest)
long_read n is fs rest = number_field 0 (2 ^ 64 - 1) n (omega arith) (omega arith) (omega (arith, is)) fs rest

serial_read : (n : ℕ) → Is128Bits n → (fs : List (List ℕ)) (rest : List ℕ) → serial_at (fields (decimal n ∷ fs) ++ rest) ≡ Some (n, fields fs ++ rest)
serial_read n is fs rest = number_field 0 (2 ^ 128 - 1) n (omega arith) (omega arith) (omega (arith, is)) fs rest

console_read : (c : ℕ) → IsConsole c → (fs : List (List ℕ)) (rest : List ℕ) → console_at (fields (decimal c ∷ fs) ++ rest) ≡ Some (c, fields fs ++ rest)
console_read c is fs rest = number_field 1 8 c (omega arith) is.0 is.1 fs rest

-- a line that goes on does not end
goes_on : (f : List ℕ) (fs : List (List ℕ)) (rest : List ℕ) → line_end_at (fields (f ∷ fs) ++ rest) ≡ None
unfolding fields
goes_on f fs rest = refl

ended_read : (ended : Option (List ℕ)) → IsWideReason ended → (rest : List ℕ) → ended_at (fields (ended_fields ended) ++ rest) ≡ Some (ended, rest)
ended_read None is rest = rw (line_end rest) refl
ended_read (Some reason) is rest = rw (goes_on (hex_text reason) [] rest) (rw (bytes_field reason is [] rest) (rw (line_end rest) refl))

cause_read : (by : Cause) → IsWideCause by → (rest : List ℕ) → cause_at (fields (cause_fields by) ++ rest) ≡ Some (by, fields [] ++ rest)
cause_read cause.Order is rest = rw (word_read (codes "order") [] rest refl) refl
cause_read (cause.Break serial) is rest = rw (word_read (codes "break") (decimal serial ∷ []) rest refl) (rw (serial_read serial is [] rest) refl)

digit_read : (n : ℕ) (text : List ℕ) → decimal n ≡ text → n ≤ 1 → (rest : List ℕ) → applied_at (fields (text ∷ []) ++ rest) ≡ Some (n == 1, fields [] ++ rest)
digit_read n text is small rest =
    ap (λ t. applied_at (fields (t ∷ []) ++ rest)) (sym is) ∙ rw (number_field 0 1 n (omega arith) (omega arith) small [] rest) refl

zero_text : decimal 0 ≡ codes "0"
unfolding digits
zero_text = refl

one_text : decimal 1 ≡ codes "1"
unfolding digits
one_text = refl

applied_read : (applied : Bool) (rest : List ℕ) → applied_at (fields (applied_text applied ∷ []) ++ rest) ≡ Some (applied, fields [] ++ rest)
applied_read true rest = digit_read 1 (codes "1") one_text (omega arith) rest
applied_read false rest = digit_read 0 (codes "0") zero_text (omega arith) rest

worded : (word : List ℕ) (fs : List (List ℕ)) (rest : List ℕ) → is_whole word ≡ true → loose_at ((word ++ fields fs) ++ rest) ≡ entry_of word (fields fs ++ rest)
unfolding loose_at
worded word fs rest all =
    ap loose_at (append_assoc word (fields fs) rest) ∙ ap (λ (x : List ℕ × List ℕ). entry_of x.0 x.1) (split_again word (fields fs ++ rest) all (fields_end fs rest))

loose_again : (e : Entry) → IsEntry e → IsWide e → (rest : List ℕ) → loose_at (line e ++ rest) ≡ Some (e, rest)
unfolding line
loose_again (entry.Start c p m f args) is wide rest =
    worded (codes "start") (decimal c ∷ decimal p ∷ atom_text m ∷ atom_text f ∷ plain_text args ∷ []) rest refl
    ∙ rw (console_read c is.0 (decimal p ∷ atom_text m ∷ atom_text f ∷ plain_text args ∷ []) rest)
    (rw (short_read p wide.0 (atom_text m ∷ atom_text f ∷ plain_text args ∷ []) rest)
    (rw (name_field m (wide.1, is.1.0) (atom_text f ∷ plain_text args ∷ []) rest)
    (rw (name_field f (wide.2, is.1.1) (plain_text args ∷ []) rest)
    (rw (list_field args (is.1.2, wide.3) [] rest) (rw (line_end rest) refl)))))
loose_again (entry.Load c m v) is wide rest =
    worded (codes "load") (decimal c ∷ atom_text m ∷ decimal v ∷ []) rest refl
    ∙ rw (console_read c is.0 (atom_text m ∷ decimal v ∷ []) rest)
    (rw (name_field m (wide.0, is.1) (decimal v ∷ []) rest) (rw (short_read v wide.1 [] rest) (rw (line_end rest) refl)))
loose_again (entry.Skip c p) is wide rest = absurd is
loose_again (entry.Kill c p) is wide rest = absurd is
loose_again (entry.Expire c p) is wide rest = absurd is
loose_again (entry.Lease p budget) is wide rest =
    worded (codes "lease") (decimal p ∷ decimal budget ∷ []) rest refl
    ∙ rw (short_read p wide.0 (decimal budget ∷ []) rest) (rw (short_read budget wide.1 [] rest) (rw (line_end rest) refl))
loose_again (entry.Ran p moves cond) is wide rest =
    worded (codes "ran") (decimal p ∷ decimal moves ∷ decimal cond ∷ []) rest refl
    ∙ rw (short_read p wide.0 (decimal moves ∷ decimal cond ∷ []) rest)
    (rw (short_read moves wide.1 (decimal cond ∷ []) rest) (rw (short_read cond wide.2 [] rest) (rw (line_end rest) refl)))
loose_again (entry.Ask p k) is wide rest =
    worded (codes "ask") (decimal p ∷ kind_word k ∷ []) rest refl
    ∙ rw (short_read p wide (kind_word k ∷ []) rest) (rw (kind_read k [] rest) (rw (line_end rest) refl))
loose_again (entry.Did p k value bytes) is wide rest =
    worded (codes "did") (decimal p ∷ kind_word k ∷ hex_text value ∷ hex_text bytes ∷ []) rest refl
    ∙ rw (short_read p wide.0 (kind_word k ∷ hex_text value ∷ hex_text bytes ∷ []) rest)
    (rw (kind_read k (hex_text value ∷ hex_text bytes ∷ []) rest)
    (rw (bytes_field value wide.1 (hex_text bytes ∷ []) rest) (rw (bytes_field bytes wide.2 [] rest) (rw (line_end rest) refl))))
loose_again (entry.Took p) is wide rest = worded (codes "took") (decimal p ∷ []) rest refl ∙ rw (short_read p wide [] rest) (rw (line_end rest) refl)
loose_again (entry.Forward p) is wide rest = worded (codes "forward") (decimal p ∷ []) rest refl ∙ rw (short_read p wide [] rest) (rw (line_end rest) refl)
loose_again (entry.Leave p) is wide rest = worded (codes "leave") (decimal p ∷ []) rest refl ∙ rw (short_read p wide [] rest) (rw (line_end rest) refl)
loose_again (entry.Enter p m f a) is wide rest =
    worded (codes "enter") (decimal p ∷ atom_text m ∷ atom_text f ∷ decimal a ∷ []) rest refl
    ∙ rw (short_read p wide.0 (atom_text m ∷ atom_text f ∷ decimal a ∷ []) rest)
    (rw (name_field m (wide.1, is.0) (atom_text f ∷ decimal a ∷ []) rest)
    (rw (name_field f (wide.2, is.1) (decimal a ∷ []) rest) (rw (short_read a wide.3 [] rest) (rw (line_end rest) refl))))
loose_again (entry.Signal p ended) is wide rest =
    worded (codes "signal") (decimal p ∷ ended_fields ended) rest refl
    ∙ rw (short_read p wide.0 (ended_fields ended) rest) (rw (ended_read ended wide.1 rest) refl)
loose_again (entry.Advance t) is wide rest = worded (codes "advance") (decimal t ∷ []) rest refl ∙ rw (long_read t wide [] rest) (rw (line_end rest) refl)
loose_again (entry.Stop p m l n by) is wide rest =
    worded (codes "stop") (decimal p ∷ atom_text m ∷ decimal l ∷ decimal n ∷ cause_fields by) rest refl
    ∙ rw (short_read p wide.0 (atom_text m ∷ decimal l ∷ decimal n ∷ cause_fields by) rest)
    (rw (name_field m (wide.1, is) (decimal l ∷ decimal n ∷ cause_fields by) rest)
    (rw (short_read l wide.2 (decimal n ∷ cause_fields by) rest)
    (rw (long_read n wide.3 (cause_fields by) rest) (rw (cause_read by wide.4 rest) (rw (line_end rest) refl)))))
loose_again (entry.Trigger p m l serial a applied) is wide rest =
    worded (codes "trigger") (decimal p ∷ atom_text m ∷ decimal l ∷ decimal serial ∷ action_word a ∷ applied_text applied ∷ []) rest refl
    ∙ rw (short_read p wide.0 (atom_text m ∷ decimal l ∷ decimal serial ∷ action_word a ∷ applied_text applied ∷ []) rest)
    (rw (name_field m (wide.1, is) (decimal l ∷ decimal serial ∷ action_word a ∷ applied_text applied ∷ []) rest)
    (rw (short_read l wide.2 (decimal serial ∷ action_word a ∷ applied_text applied ∷ []) rest)
    (rw (serial_read serial wide.3 (action_word a ∷ applied_text applied ∷ []) rest)
    (rw (action_read a (applied_text applied ∷ []) rest) (rw (applied_read applied rest) (rw (line_end rest) refl))))))
loose_again (entry.Served c x r) is wide rest =
    worded (codes "served") (decimal c ∷ (call_words decimal x ++ (codes "=" ∷ reply_fields r))) rest refl
    ∙ rw (console_read c is.0 (call_words decimal x ++ (codes "=" ∷ reply_fields r)) rest)
    (rw (call_again x is.1 wide.0 (reply_fields r) rest)
    (rw (word_field (codes "=") (reply_fields r) rest)
    (rw (reply_again r is.3 wide.1 rest) (rw (line_end rest) (rw (may_back x r is.2) refl)))))

-- an entry's line that comes first is read
pub entry_complete : (bytes : List ℕ) (e : Entry) (rest : List ℕ) → IsFirst bytes e rest → entry_at bytes ≡ Some (e, rest)
unfolding entry_at
entry_complete bytes e rest f = ap entry_at f.parts ∙ rw (loose_again e f.range f.wide rest) (rw (after_text_again (line e) rest) refl)

-- what is read comes first
entry_parts : (bytes : List ℕ) (e : Entry) (rest : List ℕ) → entry_at bytes ≡ Some (e, rest) → bytes ≡ line e ++ rest
unfolding entry_at
entry_parts bytes e rest h =
    taken (loose_at bytes) (λ x. after_text (line x.0) bytes >>= (λ r. Some (x.0, r))) h
    (λ x l h1. taken (after_text (line x.0) bytes) (λ r. Some (x.0, r)) h1
    (λ r a h2. subst (λ (y : Entry × List ℕ). bytes ≡ line y.0 ++ y.1) (same_some h2) (after_text_parts (line x.0) bytes r a)))

-- no bytes begin with the lines of two entries
pub one_entry : (bytes : List ℕ) (e f : Entry) (r s : List ℕ) → IsFirst bytes e r → IsFirst bytes f s → (e ≡ f) × (r ≡ s)
one_entry bytes e f r s x y =
    let p = same_some (sym (entry_complete bytes e r x) ∙ entry_complete bytes f s y) in
    (ap (λ z. z.0) p, ap (λ z. z.1) p)

pub found_first : {X : Type 0} (bytes : List ℕ) (value : X → Entry) (rest : X → List ℕ) (r : Result X ReadError) → Gives (λ x. (value x, rest x)) r (entry_at bytes)
    → IfOk r (λ x. IsEntry (value x)) → IfOk r (λ x. IsWide (value x)) → IfOk r (λ x. IsFirst bytes (value x) (rest x))
found_first bytes value rest (Ok x) e range wide = record { parts = entry_parts bytes (value x) (rest x) e; range = range; wide = wide }
found_first bytes value rest (Err e) h range wide = tt

pub none_first : {X : Type 0} (bytes : List ℕ) (view : X → Entry × List ℕ) (r : Result X ReadError) → Gives view r (entry_at bytes) → IfErr r (λ e. NoneIsFirst bytes e)
none_first bytes view (Ok x) e = tt
none_first bytes view (Err Memory) h = tt
none_first bytes view (Err Refused) h = λ e rest f. none_some (sym h ∙ entry_complete bytes e rest f)

filled : (c : ℕ) (cs : List ℕ) → c ∷ cs ≡ [] → ⊥
filled c cs h = cc

-- a line has a byte at least
pub line_more : (e : Entry) (rest : List ℕ) → line e ++ rest ≡ [] → ⊥
unfolding line
line_more (entry.Start c p m f args) rest h = filled _ _ h
line_more _ rest h = filled _ _ h

some_bytes : (bytes : List ℕ) → (bytes ≡ [] → ⊥) → 1 ≤ length bytes
some_bytes [] h = absurd (h refl)
some_bytes (c ∷ cs) h = omega arith

-- what comes after a line is shorter
pub shorter : (e : Entry) (front after : List ℕ) → front ≡ line e ++ after → length after < length front
shorter e front after h =
    let some = some_bytes (line e) (λ none. line_more e [] (append-nil (line e) ∙ none)) in
    let n = ap length h ∙ length-append (line e) after in
    omega (arith, some, n)
