-- Words that a reader can check by hand: a command as a transcript writes it, and as a journal does.

use Rattle.std.proofs.Common.{◌≡◌, [], ◌∷◌, codes, refl, pos}
use Rattle.std.specs.Fmt.{digits, decimal}
use Rattle.edb_lang.specs.Terms.{Datum, int, atom, tuple, nil, cons, none, more}
use Rattle.edb_lang.specs.TermText.{text, plain_text, tuple_text, items_text}
use Rattle.edb_lang.specs.declared.small.Action.TheVariants as action
use Rattle.edb_event.specs.declared.call.AutoFlag.TheVariants as flag
use Rattle.edb_event.specs.declared.call.Call.TheVariants as call
use Rattle.edb_event.specs.declared.call.ProcStatus.TheVariants as status
use Rattle.edb_event.specs.declared.call.TraceWord.TheVariants as trace
use Rattle.edb_words.specs.declared.names.ProcessForm.TheVariants.{Angled, Plain}
use Rattle.edb_words.specs.Commands.{call_text}
use Rattle.edb_words.specs.Words.{process_word}

angled_row : call_text (process_word Angled) (call.Await 12 status.Break) ≡ codes "await <12> break"
unfolding digits
angled_row = refl

plain_row : call_text (process_word Plain) (call.Await 12 status.Break) ≡ codes "await 12 break"
unfolding digits
plain_row = refl

any_row : call_text (process_word Plain) (call.AwaitAny status.Exit) ≡ codes "await any exit"
any_row = refl

bindings_row : call_text (process_word Plain) (call.Bindings 7) ≡ codes "bindings 7"
unfolding digits
bindings_row = refl

line_row : call_text decimal (call.Ib (codes "Shop") 7) ≡ codes "ib 'Shop' 7"
unfolding digits
line_row = refl

function_row : call_text decimal (call.IbIn (codes "shop") (codes "sum") 2) ≡ codes "ib shop sum 2"
unfolding digits
function_row = refl

-- a list is written without strings, and its atoms are quoted if they have to be
abbrev one_tuple : Datum
one_tuple = cons (int (pos 97)) (cons (tuple (more (atom (codes "end")) none)) nil)

start_row : call_text decimal (call.Start (codes "shop") (codes "main") one_tuple)
    ≡ codes "start shop main [97,{'end'}]"
unfolding digits plain_text text tuple_text items_text
start_row = refl

flags_row : call_text decimal (call.Iaa (flag.Init ∷ flag.Break ∷ [])) ≡ codes "iaa init break"
flags_row = refl

no_flags : call_text decimal (call.Iaa []) ≡ codes "iaa false"
no_flags = refl

trace_row : call_text decimal (call.Ist trace.NoTail) ≡ codes "ist no_tail"
trace_row = refl

action_row : call_text decimal (call.Iba (codes "shop") 7 action.Enable) ≡ codes "iba shop 7 enable"
unfolding digits
action_row = refl

condition_row : call_text decimal (call.Ibc (codes "shop") 7 (codes "check", codes "rich"))
    ≡ codes "ibc shop 7 check rich"
unfolding digits
condition_row = refl
