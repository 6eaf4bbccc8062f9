-- What is read of a whole text is its module, and each module that it writes is read.

use Rattle.std.proofs.Common.{◌≡◌, ℕ, true, false, List, None, Some, sym, ap, ◌∙◌, subst}
use Rattle.edb_lang.specs.Syntax.{ModuleTree}
use Rattle.edb_scan.specs.declared.lexeme.Placed.{Placed}
use Rattle.edb_scan.specs.Parting.{AreTokens}
use Rattle.edb_small.specs.Grammar.{written_module, Agrees}
use Rattle.edb_small.specs.SmallModule.{is_plain, IsModule}
use Rattle.edb_small.specs.Descent.{module_at}
use Rattle.edb_small.specs.Checks.{module_passes}
use Rattle.edb_small.proofs.SoundModule.{module_is}
use Rattle.edb_small.proofs.CompleteModule.{module_reads}
use Rattle.edb_small.proofs.Small.{small_module, readable_module}
use Rattle.edb_small.proofs.Texts.{tokens_fine, meets_of, written_few}

pub is_module : (bytes : List ℕ) (ts : List Placed) (m : ModuleTree) → is_plain bytes ≡ true → AreTokens bytes ts → module_at ts ≡ Some m → module_passes m ≡ true → IsModule bytes m
is_module bytes ts m plain scanned found passes =
    let spelled = module_is ts m found in
    record { plain = plain; tokens = ts; scanned = scanned; spelled = spelled.agrees; exports = spelled.exports; small = small_module m spelled.formed passes }

abbrev pub OneParting : Type 0
OneParting = (bytes : List ℕ) (ts us : List Placed) → AreTokens bytes ts → AreTokens bytes us → ts ≡ us

pub read_again : OneParting → (bytes : List ℕ) (ts : List Placed) (m : ModuleTree) → AreTokens bytes ts → IsModule bytes m → (module_at ts ≡ Some m) × (module_passes m ≡ true)
read_again one bytes ts m scanned is =
    let same = one bytes is.tokens ts is.scanned scanned in
    let agrees = subst (λ us. Agrees us (written_module m)) same is.spelled in
    let meets = meets_of ts (written_module m) (tokens_fine bytes ts scanned) agrees in
    let few = written_few bytes ts (written_module m) scanned agrees in
    let readable = readable_module m is.exports is.small few in
    (module_reads m readable.0 ts meets, readable.1)

pub modules_one : OneParting → (bytes : List ℕ) (m n : ModuleTree) → IsModule bytes m → IsModule bytes n → m ≡ n
modules_one one bytes m n h k =
    let first = read_again one bytes h.tokens m h.scanned h in
    let second = read_again one bytes h.tokens n h.scanned k in
    let same : Some m ≡ Some n = sym first.0 ∙ second.0 in cc

-- no module, where nothing is read or what is read doesn't pass
pub unread : OneParting → (bytes : List ℕ) (ts : List Placed) → AreTokens bytes ts → module_at ts ≡ None → (m : ModuleTree) → IsModule bytes m → ⊥
unread one bytes ts scanned none m is = let found = (read_again one bytes ts m scanned is).0 in let clash : None ≡ Some m = sym none ∙ found in absurd (cc)

pub failed : OneParting → (bytes : List ℕ) (ts : List Placed) (n : ModuleTree) → AreTokens bytes ts → module_at ts ≡ Some n → module_passes n ≡ false → (m : ModuleTree) → IsModule bytes m → ⊥
failed one bytes ts n scanned found fails m is =
    let again = read_again one bytes ts m scanned is in
    let same_some : Some n ≡ Some m = sym found ∙ again.0 in
    let same : n ≡ m = cc in
    let clash : false ≡ true = sym fails ∙ ap module_passes same ∙ again.1 in absurd (cc)
