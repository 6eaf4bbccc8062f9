-- Scripts that grow by a command in range stay in range, and no console but its own has it.

use Rattle.std.proofs.Common.{◌≡◌, ◌≢◌, ◌≤◌, ◌<◌, ℕ, zero, suc, ◌-◌, List, [], ◌∷◌, ◌++◌, length, get_or, slice_index_or, slice_set, refl, sym, ap, subst, arith}
use Rattle.edb_event.specs.declared.call.Command.{Command}
use Rattle.edb_event.specs.Ranges.{IsCommand, AreCommands, AreScripts}
use Rattle.edb_event.specs.Books.{Commands, commands_of, added_at, with_command}

commands_more : (cs : List Command) (c : Command) → AreCommands cs → IsCommand c → AreCommands (cs ++ c ∷ [])
commands_more [] c all last = (last, tt)
commands_more (d ∷ cs) c all last = (all.0, commands_more cs c all.1 last)

scripts_more : (k : ℕ) (s : Commands) (c : Command) → AreScripts s → IsCommand c → AreScripts (added_at k c s)
scripts_more zero [] c all last = ((last, tt), tt)
scripts_more zero (cs ∷ s) c all last = (commands_more cs c all.0 last, all.1)
scripts_more (suc k) [] c all last = (tt, scripts_more k [] c tt last)
scripts_more (suc k) (cs ∷ s) c all last = (all.0, scripts_more k s c all.1 last)

-- where the list is there, the longer one takes its place
pub set_is-added : (s : Commands) (k : ℕ) (c : Command) (own longer : List Command) → k < length s → longer ≡ get_or s k own ++ c ∷ []
    → slice_set s k longer ≡ added_at k c s
set_is-added [] k c own longer there grown = absurd (omega arith)
set_is-added (cs ∷ s) zero c own longer there grown = ap (λ (x : List Command). x ∷ s) grown
set_is-added (cs ∷ s) (suc k) c own longer there grown =
    ap (λ (r : Commands). cs ∷ r) (set_is-added s k c own longer (omega arith) grown)

pub set_keeps-scripts : (s : Commands) (k : ℕ) (c : Command) (own longer : List Command) → k < length s
    → longer ≡ get_or s k own ++ c ∷ [] → AreScripts s → IsCommand c → AreScripts (slice_set s k longer)
set_keeps-scripts s k c own longer there grown all last =
    subst (λ (r : Commands). AreScripts r) (sym (set_is-added s k c own longer there grown)) (scripts_more k s c all last)

own_at : (k : ℕ) (c : Command) (s : Commands) → slice_index_or (added_at k c s) k [] ≡ slice_index_or s k [] ++ c ∷ []
own_at zero c [] = refl
own_at zero c (cs ∷ s) = refl
own_at (suc k) c [] = own_at k c []
own_at (suc k) c (cs ∷ s) = own_at k c s

other_at : (k j : ℕ) (c : Command) (s : Commands) → j ≢ k → slice_index_or (added_at k c s) j [] ≡ slice_index_or s j []
other_at zero zero c s differ = absurd (differ refl)
other_at zero (suc j) c [] differ = refl
other_at zero (suc j) c (cs ∷ s) differ = refl
other_at (suc k) zero c [] differ = refl
other_at (suc k) zero c (cs ∷ s) differ = refl
other_at (suc k) (suc j) c [] differ = other_at k j c [] (λ (same : j ≡ k). differ (ap suc same))
other_at (suc k) (suc j) c (cs ∷ s) differ = other_at k j c s (λ (same : j ≡ k). differ (ap suc same))

pub own_has_it : (k : ℕ) (c : Command) (s : Commands) → commands_of k (with_command k c s) ≡ commands_of k s ++ c ∷ []
own_has_it k c s = own_at (k - 1) c s

pub others_lack_it : (k j : ℕ) (c : Command) (s : Commands) → 1 ≤ k → 1 ≤ j → j ≢ k → commands_of j (with_command k c s) ≡ commands_of j s
others_lack_it k j c s from to differ = other_at (k - 1) (j - 1) c s (λ (same : j - 1 ≡ k - 1). differ (omega arith))
