-- What a whole parse comes to.

use Rattle.std.proofs.Common.{◌≡◌, ◌≢◌, List, [], ◌∷◌, map, Option, Some, None, Result, Ok, Err, IfErr, IfOk, Global, String, string_bytes, refl, sym, subst, ⊎_elim}
use Rattle.std.proofs.lemmas.Str.{IsUtf8-had}
use Rattle.clap.specs.Walk.{Text, idle, rows_of}
use Rattle.clap.specs.Simple.{HasMatchesOf, built, matches_of}
use Rattle.clap.specs.Matches.{found_of}
use Rattle.clap.specs.Values.{kind_of}
use Rattle.clap.specs.Kinds.{FailsBy, IsAmong}
use Rattle.clap.specs.Walk.{nothing_held}
use Rattle.clap.specs.Faults.{fault_of}
use Rattle.clap.specs.declared.error.Error.{Error}
use Rattle.clap.specs.declared.error.kind.ErrorKind.TheVariants.{OutOfMemory}
use Rattle.clap.specs.declared.parser.matches.ArgMatches.{ArgMatches}
use Rattle.clap.proofs.FaultLemmas.{leaf_fault}
use Rattle.edb_options.specs.Reading.{Open}
use Rattle.edb_options.specs.Given.{Given, given_in, nothing}
use Rattle.edb_options.specs.Command.{Holds, edb}
use Rattle.edb_options.proofs.GivenRows.{Seen}
use Rattle.edb_options.proofs.Walks.{Agrees}
use Rattle.edb_options.proofs.Steps.{AreTexts, goes}

texts_of : (words : List (String Global)) → AreTexts (map string_bytes words)
texts_of [] = tt
texts_of (word ∷ words) = (IsUtf8-had (string_bytes word) word.ok, texts_of words)

none_seen : Seen nothing []
none_seen = record { hands = refl; slice = refl; moves = refl; journal = refl; names = refl }

agreement : (words : List Text) → AreTexts words → Agrees (given_in words) (fault_of edb words) (matches_of edb words)
agreement words texts = subst (λ kinds. Agrees (given_in words) kinds (matches_of edb words)) (sym (leaf_fault (built edb) nothing_held words refl))
    (goes words texts Open nothing idle None [] refl (refl, none_seen))

module _ (words : List (String Global)) (r : Result ArgMatches Error) where
  abbrev texts : List Text
  texts = map string_bytes words

  pub found : FailsBy (fault_of edb (map string_bytes words)) r → IfOk r (HasMatchesOf edb (map string_bytes words))
      → IfOk r (λ m. (g : Given) × (given_in (map string_bytes words) ≡ Some g) × Holds g (rows_of (found_of m)))
  found = by r
    where
      given : (m : ArgMatches) → HasMatchesOf edb texts m → fault_of edb texts ≡ [] → (o : Option Given) → given_in texts ≡ o → Agrees o (fault_of edb texts) (matches_of edb texts)
          → (g : Given) × (given_in texts ≡ Some g) × Holds g (rows_of (found_of m))
      given m has none None e agrees = absurd (agrees none)
      given m has none (Some g) e agrees = (g, e, subst (λ rows. Holds g rows) (sym (has refl).0) agrees.1)

      by : (x : Result ArgMatches Error) → FailsBy (fault_of edb texts) x → IfOk x (HasMatchesOf edb texts)
          → IfOk x (λ m. (g : Given) × (given_in texts ≡ Some g) × Holds g (rows_of (found_of m)))
      by (Ok m) fails has = given m has fails (given_in texts) refl (agreement texts (texts_of words))
      by (Err e) fails has = tt

  pub refused : FailsBy (fault_of edb (map string_bytes words)) r → IfErr r (λ e. kind_of e ≢ OutOfMemory → given_in (map string_bytes words) ≡ None)
  refused = by r
    where
      none : (e : Error) → IsAmong (kind_of e) (fault_of edb texts) → (o : Option Given) → given_in texts ≡ o → Agrees o (fault_of edb texts) (matches_of edb texts) → o ≡ None
      none e among None is agrees = refl
      none e among (Some g) is agrees = absurd (subst (λ kinds. IsAmong (kind_of e) kinds) agrees.0 among)

      by : (x : Result ArgMatches Error) → FailsBy (fault_of edb texts) x → IfErr x (λ e. kind_of e ≢ OutOfMemory → given_in texts ≡ None)
      by (Ok m) fails = tt
      by (Err e) fails = λ other. ⊎_elim (λ memory. absurd (other memory)) (λ among. none e among (given_in texts) refl (agreement texts (texts_of words))) fails
