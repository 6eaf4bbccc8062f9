-- A refusal that is passed on.

use Rattle.std.proofs.Common.{◌≡◌, List, Option, None, Some, Result, Ok, Err, IfOk, sym, ◌∙◌, ap, subst}
use Rattle.edb_grammar.specs.Toks.{Tok}
use Rattle.edb_parse.specs.declared.cursor.Cursor.{Cursor}
use Rattle.edb_parse.specs.declared.unread.Unread.{Unread}
use Rattle.edb_parse.specs.declared.unread.Unread.TheVariants.{Memory, Refused}
use Rattle.edb_parse.specs.Cursors.{toks, Moves}
use Rattle.edb_parse.specs.Gives.{Gives}

-- where a part couldn't be read, so couldn't the whole, and the answer is the part's
pub passed_on : {X Y A B : Type 0} (f : X → A) (g : Y → B) (result : Result (Y × Cursor) Unread) (e : Unread) (part : Option (A × List Tok)) (whole :
    Option (B × List Tok))
    → Gives f (Err e) part → result ≡ Err e → (part ≡ None → whole ≡ None) → Gives g result whole
passed_on {Y} {B} f g result Memory part whole h is fails =
    let P : Result (Y × Cursor) Unread → Type 0 = λ r. Gives g r whole in subst P (sym is) tt
passed_on {Y} {B} f g result Refused part whole h is fails =
    let P : Result (Y × Cursor) Unread → Type 0 = λ r. Gives g r whole in subst P (sym is) (fails h)

-- the same where the part was read beside what had been read before
pub failed_on : {X Y A B : Type 0} (f : X → A) (g : Y → B) (read : Result (X × Cursor) Unread) (result : Result (Y × Cursor) Unread) (e : Unread)
    (part : Option (A × List Tok)) (whole : Option (B × List Tok))
    → Gives f read part → read ≡ Err e → result ≡ Err e → (part ≡ None → whole ≡ None) → Gives g result whole
failed_on {X} {A} f g read result e part whole h is was fails =
    let P : Result (X × Cursor) Unread → Type 0 = λ r. Gives f r part in passed_on f g result e part whole (subst P is h) was fails

-- the answer is a refusal of its own
pub refused : {Y B : Type 0} (g : Y → B) (result : Result (Y × Cursor) Unread) (e : Unread) (whole : Option (B × List Tok))
    → e ≡ Refused → result ≡ Err e → whole ≡ None → Gives g result whole
refused {Y} {B} g result e whole is was none_there =
    let P : Result (Y × Cursor) Unread → Type 0 = λ r. Gives g r whole in subst P (sym (was ∙ ap Err is)) none_there

-- what was read beside what had been read before
pub read_so : {X A : Type 0} (f : X → A) (read : Result (X × Cursor) Unread) (x : X) (rest : Cursor) (part : Option (A × List Tok))
    → Gives f read part → read ≡ Ok (x, rest) → part ≡ Some (f x, toks rest)
read_so {X} f read x rest part h is = let P : Result (X × Cursor) Unread → Type 0 = λ r. Gives f r part in subst P is h

pub moved_so : {X : Type 0} (from : Cursor) (read : Result (X × Cursor) Unread) (x : X) (rest : Cursor)
    → IfOk read (λ p. Moves from p.1) → read ≡ Ok (x, rest) → Moves from rest
moved_so {X} from read x rest h is = let P : Result (X × Cursor) Unread → Type 0 = λ r. IfOk r (λ p. Moves from p.1) in subst P is h
