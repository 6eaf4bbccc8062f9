-- The text of a command: its words, with one space between them.

use Rattle.std.specs.Prelude.{List, ℕ, [], ◌∷◌, codes, map}
use Rattle.std.specs.Fmt.{decimal}
use Rattle.edb_lang.specs.TermText.{atom_text, plain_text}
use Rattle.edb_event.specs.declared.call.AutoFlag.{AutoFlag}
use Rattle.edb_event.specs.declared.call.Call.{Call}
use Rattle.edb_event.specs.declared.call.Call.TheVariants as call
use Rattle.edb_words.specs.Words.{status_word, action_word, flag_word, trace_word, spaced}

-- the flags of a console, in their order; if there are none, `false`
abbrev pub flag_words : List AutoFlag → List (List ℕ)
flag_words [] = codes "false" ∷ []
flag_words (f ∷ fs) = map flag_word (f ∷ fs)

-- The words of each command, its name first, when `process` writes a process. Atoms are quoted if they
-- have to be, and the list of a start is written without strings.
abbrev pub call_words : (ℕ → List ℕ) → Call → List (List ℕ)
call_words process (call.Start m f args) = codes "start" ∷ atom_text m ∷ atom_text f ∷ plain_text args ∷ []
call_words process (call.Load m v) = codes "load" ∷ atom_text m ∷ decimal v ∷ []
call_words process (call.Ii m) = codes "ii" ∷ atom_text m ∷ []
call_words process (call.Iq m) = codes "iq" ∷ atom_text m ∷ []
call_words process call.Il = codes "il" ∷ []
call_words process (call.Ib m l) = codes "ib" ∷ atom_text m ∷ decimal l ∷ []
call_words process (call.IbIn m f a) = codes "ib" ∷ atom_text m ∷ atom_text f ∷ decimal a ∷ []
call_words process (call.Ir m l) = codes "ir" ∷ atom_text m ∷ decimal l ∷ []
call_words process (call.IrModule m) = codes "ir" ∷ atom_text m ∷ []
call_words process call.IrAll = codes "ir" ∷ []
call_words process (call.IrIn m f a) = codes "ir" ∷ atom_text m ∷ atom_text f ∷ decimal a ∷ []
call_words process (call.Ibd m l) = codes "ibd" ∷ atom_text m ∷ decimal l ∷ []
call_words process (call.Ibe m l) = codes "ibe" ∷ atom_text m ∷ decimal l ∷ []
call_words process (call.Iba m l a) = codes "iba" ∷ atom_text m ∷ decimal l ∷ action_word a ∷ []
call_words process (call.Ibc m l c) = codes "ibc" ∷ atom_text m ∷ decimal l ∷ atom_text c.0 ∷ atom_text c.1 ∷ []
call_words process call.Ipb = codes "ipb" ∷ []
call_words process (call.IpbModule m) = codes "ipb" ∷ atom_text m ∷ []
call_words process call.Ip = codes "ip" ∷ []
call_words process call.Ic = codes "ic" ∷ []
call_words process (call.Iaa flags) = codes "iaa" ∷ flag_words flags
call_words process (call.Ist w) = codes "ist" ∷ trace_word w ∷ []
call_words process (call.Ia p) = codes "ia" ∷ process p ∷ []
call_words process (call.Detach p) = codes "detach" ∷ process p ∷ []
call_words process (call.Step p) = codes "step" ∷ process p ∷ []
call_words process (call.Next p) = codes "next" ∷ process p ∷ []
call_words process (call.Finish p) = codes "finish" ∷ process p ∷ []
call_words process (call.Halt p) = codes "halt" ∷ process p ∷ []
call_words process (call.Skip p) = codes "skip" ∷ process p ∷ []
call_words process (call.Kill p) = codes "kill" ∷ process p ∷ []
call_words process (call.Timeout p) = codes "timeout" ∷ process p ∷ []
call_words process (call.Continue p) = codes "continue" ∷ process p ∷ []
call_words process (call.Bindings p) = codes "bindings" ∷ process p ∷ []
call_words process (call.Frames p) = codes "frames" ∷ process p ∷ []
call_words process (call.Await p s) = codes "await" ∷ process p ∷ status_word s ∷ []
call_words process (call.AwaitAny s) = codes "await" ∷ codes "any" ∷ status_word s ∷ []
call_words process call.Quit = codes "quit" ∷ []

-- a command, when `process` writes a process
abbrev pub call_text : (ℕ → List ℕ) → Call → List ℕ
call_text process c = spaced (call_words process c)
