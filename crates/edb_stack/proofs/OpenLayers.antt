-- The layers of the code: each frame among them has no bindings of its own, and lets an exception pass.

use Rattle.std.proofs.Common.{ℕ, List, [], ◌∷◌, refl}
use Rattle.edb_syntax.specs.Syntax as syntax
use Rattle.edb_syntax.specs.Syntax.{exps_of}
use Rattle.edb_moves.specs.Running as run
use Rattle.edb_moves.specs.Running.{Frame}
use Rattle.edb_stack.specs.Marks.{IsOpen, AllOpen}
use Rattle.edb_stack.specs.Landings.{AllPass}
use Rattle.edb_stack.specs.Views.{layers_of}
use Rattle.edb_stack.specs.declared.layer.Layer.{Layer}
use Rattle.edb_stack.specs.declared.layer.Layer.TheVariants.{Operands, Sequence, Match, Select, AndThen, OrThen, Generate, Filter, Gather, Resume, Scope, Caught, Tried, Waiting, Body}

sequence_is_open : (l : ℕ) (es : syntax.Exps) → IsOpen (run.sequence l es)
sequence_is_open l syntax.none = record { sees = λ p. refl; turns = λ p bs t. refl }
sequence_is_open l (syntax.more e es) = record { sees = λ p. refl; turns = λ p bs t. refl }

pub all_open : (ls : List Layer) → AllOpen (layers_of ls)
all_open [] = tt
all_open (Operands o ∷ ls) = all_open ls
all_open (Sequence l es ∷ ls) = (sequence_is_open l (exps_of es.now), all_open ls)
all_open (Match q ∷ ls) = (record { sees = λ p. refl; turns = λ p bs t. refl }, all_open ls)
all_open (Select cs ∷ ls) = (record { sees = λ p. refl; turns = λ p bs t. refl }, all_open ls)
all_open (AndThen e ∷ ls) = (record { sees = λ p. refl; turns = λ p bs t. refl }, all_open ls)
all_open (OrThen e ∷ ls) = (record { sees = λ p. refl; turns = λ p bs t. refl }, all_open ls)
all_open (Generate q e qs ∷ ls) = (record { sees = λ p. refl; turns = λ p bs t. refl }, all_open ls)
all_open (Filter e qs ∷ ls) = (record { sees = λ p. refl; turns = λ p bs t. refl }, all_open ls)
all_open (Gather d v ∷ ls) = (record { sees = λ p. refl; turns = λ p bs t. refl }, all_open ls)
all_open (Resume o ∷ ls) = (record { sees = λ p. refl; turns = λ p bs t. refl }, all_open ls)
all_open (Scope m ∷ ls) = all_open ls
all_open (Caught m ∷ ls) = all_open ls
all_open (Tried m cs hs ∷ ls) = all_open ls
all_open (Waiting m s ∷ ls) = all_open ls
all_open (Body b ∷ ls) = all_open ls

pub all_pass : (ls : List Layer) → AllPass (layers_of ls)
all_pass [] = tt
all_pass (Operands o ∷ ls) = all_pass ls
all_pass (Sequence l es ∷ ls) = (λ p c v. refl, all_pass ls)
all_pass (Match q ∷ ls) = (λ p c v. refl, all_pass ls)
all_pass (Select cs ∷ ls) = (λ p c v. refl, all_pass ls)
all_pass (AndThen e ∷ ls) = (λ p c v. refl, all_pass ls)
all_pass (OrThen e ∷ ls) = (λ p c v. refl, all_pass ls)
all_pass (Generate q e qs ∷ ls) = (λ p c v. refl, all_pass ls)
all_pass (Filter e qs ∷ ls) = (λ p c v. refl, all_pass ls)
all_pass (Gather d v ∷ ls) = (λ p c v. refl, all_pass ls)
all_pass (Resume o ∷ ls) = (λ p c v. refl, all_pass ls)
all_pass (Scope m ∷ ls) = all_pass ls
all_pass (Caught m ∷ ls) = all_pass ls
all_pass (Tried m cs hs ∷ ls) = all_pass ls
all_pass (Waiting m s ∷ ls) = all_pass ls
all_pass (Body b ∷ ls) = all_pass ls
