-- Words that readers tell apart.

use Rattle.std.proofs.Common.{◌≡◌, ℕ, List, refl, sym, ap, ◌∙◌, cond, get_or}
use Rattle.std.specs.Prelude.{◌==◌}
use Rattle.edb_event.specs.declared.call.ProcStatus.{ProcStatus}
use Rattle.edb_event.specs.declared.call.ProcStatus.TheVariants.{Idle, Running, Waiting, Break, Exit}
use Rattle.edb_words.specs.Words.{status_word}

-- the words of statuses differ, since their first letters do
abbrev letter : List ℕ → ℕ
letter w = get_or w 0 0

abbrev status_from : ℕ → ProcStatus
status_from n = cond (n == 105) Idle (cond (n == 114) Running (cond (n == 119) Waiting (cond (n == 98) Break Exit)))

status_back : (s : ProcStatus) → status_from (letter (status_word s)) ≡ s
status_back Idle = refl
status_back Running = refl
status_back Waiting = refl
status_back Break = refl
status_back Exit = refl

pub status_one : (s t : ProcStatus) → status_word s ≡ status_word t → s ≡ t
status_one s t e = sym (status_back s) ∙ ap (λ w. status_from (letter w)) e ∙ status_back t
