-- The causes of the ends exclude each other, so an end comes wherever its cause holds.

use Rattle.std.proofs.Common.{◌≡◌, inl, inr, ℕ, Bool, List, [], ◌∷◌, get_or, drop, Option, None, Some, IsSomeAnd, refl, sym, ◌∙◌, ap, ap₂, subst, arith}
use Rattle.std.proofs.lemmas.Bool.{both_ways}
use Rattle.std.proofs.lemmas.Option.{none-some}
use Rattle.edb_lang.specs.Syntax.{ModuleTree}
use Rattle.edb_io.specs.OneRead.{Read}
use Rattle.edb_files.specs.InOrder.{AreRead, FailsAt}
use Rattle.edb_files.proofs.ReadLaws.{texts_one, read_or_failed}
use Rattle.edb_model.specs.declared.tables.Tables.{Tables}
use Rattle.edb_event.specs.declared.call.Command.{Command}
use Rattle.edb_event.specs.declared.entry.Entry.{Entry}
use Rattle.edb_cmds.specs.Listing.{IsScriptOf, IsScriptFault}
use Rattle.edb_event.specs.Books.{commands_of}
use Rattle.edb_options.specs.Options.{Wanted}
use Rattle.edb_rules.specs.Plans.{Plan}
use Rattle.edb_rules.specs.Facts.{Facts}
use Rattle.edb_rules.specs.Notes.{facts}
use Rattle.edb_rules.specs.Legal.{IsDone, IsLimit}
use Rattle.edb_session.specs.declared.ending.End.{End}
use Rattle.edb_session.specs.declared.ending.End.TheVariants.{Done, Words, FileFault, ModuleRefused, ScriptRefused, Limit, WriteFault, NoMemory}
use Rattle.edb_verdict.specs.declared.fault.ModuleFault.{ModuleFault}
use Rattle.edb_session.specs.Runs.{plan_with}
use Rattle.edb_session.specs.Reading.{files_of, AreModules, IsModuleRefused, RefusesModule, RefusesScript, IsAccepted}
use Rattle.edb_session.specs.Ends.{HasCause, Leaves, IsWritten, KeepsFlag}
use Rattle.edb_session.specs.Exact.{WordsExactly, ModuleExactly, ScriptExactly, DoneExactly, LimitExactly, IsComplete}
use Rattle.edb_session.proofs.ModuleLists.{OneModule, OneFault, NeverFault, modules_same, no_file_refused, one_file_refused}

-- a script gives one list of commands, or is refused at one line, and never both
abbrev OneListing : Type 0
OneListing = (bytes : List ℕ) (c d : List Command) → IsScriptOf bytes c → IsScriptOf bytes d → c ≡ d

abbrev NeverBoth : Type 0
NeverBoth = (bytes : List ℕ) (c : List Command) (n : ℕ) → IsScriptOf bytes c → IsScriptFault bytes n → ⊥

abbrev OneLine : Type 0
OneLine = (bytes : List ℕ) (n k : ℕ) → IsScriptFault bytes n → IsScriptFault bytes k → n ≡ k

-- words that ask for something
no_words : (wanted : Option Wanted) (P : Wanted → Type 0) → wanted ≡ None → IsSomeAnd wanted P → ⊥
no_words wanted P none x = subst (λ (o : Option Wanted). IsSomeAnd o P) none x

the_words : (wanted : Option Wanted) (P : Wanted → Type 0) (w : Wanted) → wanted ≡ Some w → IsSomeAnd wanted P → P w
the_words wanted P w some x = subst (λ (o : Option Wanted). IsSomeAnd o P) some x

not_none : (wanted : Option Wanted) (w : Wanted) → wanted ≡ Some w → wanted ≡ None → ⊥
not_none wanted w some none = none-some w (sym none ∙ some)

-- what was read was read once
scripts_same : (w : Wanted) (old new : List Read) (s t : List ℕ) (fs gs : List (List ℕ)) → AreRead (files_of w) old new (s ∷ fs) → AreRead (files_of w) old new (t ∷ gs) → s ≡ t
scripts_same w old new s t fs gs a b = ap (λ (ts : List (List ℕ)). get_or ts 0 []) (texts_one (files_of w) _ _ old new a b)

texts_same : (w : Wanted) (old new : List Read) (s t : List ℕ) (fs gs : List (List ℕ)) → AreRead (files_of w) old new (s ∷ fs) → AreRead (files_of w) old new (t ∷ gs) → fs ≡ gs
texts_same w old new s t fs gs a b = ap (λ (ts : List (List ℕ)). drop 1 ts) (texts_one (files_of w) _ _ old new a b)

-- what was read did not fail
read_whole : (w : Wanted) (old new : List Read) (s : List ℕ) (fs : List (List ℕ)) (k : ℕ) → AreRead (files_of w) old new (s ∷ fs) → FailsAt (files_of w) old new k → ⊥
read_whole w old new s fs k a fails = read_or_failed (files_of w) _ old new k a fails

-- what was accepted is no refused module, and no refused script
no_module_both : (w : Wanted) (old new : List Read) (s : List ℕ) (fs : List (List ℕ)) (trees : List ModuleTree) (k : ℕ) (f : ModuleFault) → AreRead (files_of w) old new (s ∷ fs) → AreModules fs trees
    → RefusesModule w old new k f → ⊥
no_module_both w old new s fs trees k f a are r =
    no_file_refused r.texts trees k f (subst (λ (ts : List (List ℕ)). AreModules ts trees) (texts_same w old new s r.script fs r.texts a r.read) are) r.refused

no_script_both : NeverBoth → (w : Wanted) (old new : List Read) (s : List ℕ) (fs : List (List ℕ)) (c : List Command) (line : ℕ) → AreRead (files_of w) old new (s ∷ fs) → IsScriptOf s c
    → RefusesScript w old new line → ⊥
no_script_both never w old new s fs c line a is r =
    never r.script c line (subst (λ (bytes : List ℕ). IsScriptOf bytes c) (scripts_same w old new s r.script fs r.texts a r.read) is) r.refused

-- one FILE is the first that is refused
one_refused : OneFault → NeverFault → (w : Wanted) (old new : List Read) (j k : ℕ) (f g : ModuleFault) → RefusesModule w old new j f → RefusesModule w old new k g
    → (j ≡ k) × (f ≡ g)
one_refused one never w old new j k f g a b =
    one_file_refused one never b.texts j k f g (subst (λ (ts : List (List ℕ)). IsModuleRefused ts j f) (texts_same w old new a.script b.script a.texts b.texts a.read b.read) a.refused) b.refused

-- what was accepted is one plan
one_plan : OneModule → OneListing → (w : Wanted) (old new : List Read) (p q : Plan) → IsAccepted w old new p → IsAccepted w old new q → p ≡ q
one_plan module_ listing w old new p q a b =
    let trees : a.trees ≡ b.trees
    = modules_same module_ b.texts a.trees b.trees (subst (λ (ts : List (List ℕ)). AreModules ts a.trees) (texts_same w old new a.script b.script a.texts b.texts a.read b.read) a.are_modules) b.are_modules in
    let same : (commands_of 1 p.commands) ≡ (commands_of 1 q.commands)
    = listing b.script (commands_of 1 p.commands) (commands_of 1 q.commands) (subst (λ (bytes : List ℕ). IsScriptOf bytes (commands_of 1 p.commands)) (scripts_same w old new a.script b.script a.texts b.texts a.read b.read) a.is_script) b.is_script in
    a.is_plan ∙ (ap₂ (λ (ts : List ModuleTree) (c : List Command). plan_with w.options ts c) trees same ∙ sym b.is_plan)

-- below the greatest weight, and not below it
not_both : (p : Plan) (f : Facts) → IsDone p f → IsLimit p f → ⊥
not_both p f (inl quit) limit = both_ways f.has_quit limit.no_quit quit.quit
not_both p f (inr done) limit = omega (arith, done.at.at.at.at.at.begin.light, limit.full)

module _ (wanted : Option Wanted) (old new : List Read) (before now sink_before sink_now : ℕ) (journal : List Entry) (left : Tables) (had has : Option (List ℕ)) (was is : Bool) where
  abbrev Caused : End → Type 0
  Caused e = HasCause wanted old new before now e

  abbrev Left : End → Type 0
  Left e = Leaves wanted old new journal left e

  pub words_exact : (e : End) → Caused e → Left e → WordsExactly wanted e
  words_exact Done cause run none = absurd (no_words wanted (λ v. IsAccepted v old new run.plan) none run.accepted)
  words_exact Words cause run none = inl refl
  words_exact (FileFault k) cause run none = absurd (no_words wanted (λ v. FailsAt (files_of v) old new k) none cause.1)
  words_exact (ModuleRefused j f) cause run none = absurd (no_words wanted (λ v. RefusesModule v old new j f) none cause)
  words_exact (ScriptRefused line) cause run none = absurd (no_words wanted (λ v. RefusesScript v old new line) none cause)
  words_exact Limit cause run none = absurd (no_words wanted (λ v. IsAccepted v old new run.plan) none run.accepted)
  words_exact WriteFault cause run none = absurd (no_words wanted (λ v. IsAccepted v old new run.plan) none run.accepted)
  words_exact NoMemory cause run none = inr refl

  -- nothing that was accepted is refused as a module
  ran_no_module : (w : Wanted) (k : ℕ) (g : ModuleFault) (plan : Plan) → wanted ≡ Some w → IsSomeAnd wanted (λ v. IsAccepted v old new plan) → RefusesModule w old new k g → ⊥
  ran_no_module w k g plan some accepted r =
      let a = the_words wanted (λ v. IsAccepted v old new plan) w some accepted in
      no_module_both w old new a.script a.texts a.trees k g a.read a.are_modules r

  pub module_exact : OneFault → NeverFault → (e : End) → Caused e → Left e → ModuleExactly wanted old new e
  module_exact one never Done cause run w k g some r = absurd (ran_no_module w k g run.plan some run.accepted r)
  module_exact one never Words cause run w k g some r = absurd (not_none wanted w some cause.0)
  module_exact one never (FileFault i) cause run w k g some r =
      absurd (read_whole w old new r.script r.texts i r.read (the_words wanted (λ v. FailsAt (files_of v) old new i) w some cause.1))
  module_exact one never (ModuleRefused j f) cause run w k g some r =
      let same = one_refused one never w old new j k f g (the_words wanted (λ v. RefusesModule v old new j f) w some cause) r in
      inl (ap₂ (λ (file : ℕ) (fault : ModuleFault). ModuleRefused file fault) same.0 same.1)
  module_exact one never (ScriptRefused line) cause run w k g some r =
      let s = the_words wanted (λ v. RefusesScript v old new line) w some cause in
      absurd (no_module_both w old new s.script s.texts s.trees k g s.read s.are_modules r)
  module_exact one never Limit cause run w k g some r = absurd (ran_no_module w k g run.plan some run.accepted r)
  module_exact one never WriteFault cause run w k g some r = absurd (ran_no_module w k g run.plan some run.accepted r)
  module_exact one never NoMemory cause run w k g some r = inr refl

  ran_no_script : NeverBoth → (w : Wanted) (plan : Plan) (line : ℕ) → wanted ≡ Some w → IsSomeAnd wanted (λ v. IsAccepted v old new plan)
      → RefusesScript w old new line → ⊥
  ran_no_script never w plan line some accepted r =
      let a = the_words wanted (λ v. IsAccepted v old new plan) w some accepted in
      no_script_both never w old new a.script a.texts (commands_of 1 plan.commands) line a.read a.is_script r

  pub script_exact : NeverBoth → OneLine → (e : End) → Caused e → Left e → ScriptExactly wanted old new e
  script_exact never one Done cause run w line some r = absurd (ran_no_script never w run.plan line some run.accepted r)
  script_exact never one Words cause run w line some r = absurd (not_none wanted w some cause.0)
  script_exact never one (FileFault k) cause run w line some r =
      absurd (read_whole w old new r.script r.texts k r.read (the_words wanted (λ v. FailsAt (files_of v) old new k) w some cause.1))
  script_exact never one (ModuleRefused j f) cause run w line some r =
      absurd (no_module_both w old new r.script r.texts r.trees j f r.read r.are_modules (the_words wanted (λ v. RefusesModule v old new j f) w some cause))
  script_exact never one (ScriptRefused bad) cause run w line some r =
      let s = the_words wanted (λ v. RefusesScript v old new bad) w some cause in
      inl (ap (λ (at : ℕ). ScriptRefused at)
      (one r.script bad line (subst (λ (bytes : List ℕ). IsScriptFault bytes bad) (scripts_same w old new s.script r.script s.texts r.texts s.read r.read) s.refused) r.refused))
  script_exact never one Limit cause run w line some r = absurd (ran_no_script never w run.plan line some run.accepted r)
  script_exact never one WriteFault cause run w line some r = absurd (ran_no_script never w run.plan line some run.accepted r)
  script_exact never one NoMemory cause run w line some r = inr refl

  -- the run that is left is that of the plan that was accepted
  ran_here : OneModule → OneListing → (w : Wanted) (p q : Plan) → wanted ≡ Some w → IsSomeAnd wanted (λ v. IsAccepted v old new p) → IsAccepted w old new q
      → p ≡ q
  ran_here module_ listing w p q some accepted a =
      one_plan module_ listing w old new p q (the_words wanted (λ v. IsAccepted v old new p) w some accepted) a

  pub done_exact : OneModule → OneListing → NeverBoth → (e : End) → Caused e → Left e → KeepsFlag was is e → DoneExactly wanted old new journal was is e
  done_exact module_ listing never Done cause run flag w q some a clear still ended = inl refl
  done_exact module_ listing never Words cause run flag w q some a clear still ended = absurd (not_none wanted w some cause.0)
  done_exact module_ listing never (FileFault k) cause run flag w q some a clear still ended =
      absurd (read_whole w old new a.script a.texts k a.read (the_words wanted (λ v. FailsAt (files_of v) old new k) w some cause.1))
  done_exact module_ listing never (ModuleRefused j f) cause run flag w q some a clear still ended =
      absurd (no_module_both w old new a.script a.texts a.trees j f a.read a.are_modules (the_words wanted (λ v. RefusesModule v old new j f) w some cause))
  done_exact module_ listing never (ScriptRefused line) cause run flag w q some a clear still ended =
      absurd (no_script_both never w old new a.script a.texts (commands_of 1 q.commands) line a.read a.is_script (the_words wanted (λ v. RefusesScript v old new line) w some cause))
  done_exact module_ listing never Limit cause run flag w q some a clear still ended =
      absurd (not_both q (facts q journal) ended
      (subst (λ (p : Plan). IsLimit p (facts p journal)) (ran_here module_ listing w run.plan q some run.accepted a) run.over))
  done_exact module_ listing never WriteFault cause run flag w q some a clear still ended = absurd (cc)
  done_exact module_ listing never NoMemory cause run flag w q some a clear still ended = inr refl

  pub limit_exact : OneModule → OneListing → NeverBoth → (e : End) → Caused e → Left e → KeepsFlag was is e → LimitExactly wanted old new journal was is e
  limit_exact module_ listing never Done cause run flag w q some a clear still ended =
      absurd (not_both q (facts q journal)
      (subst (λ (p : Plan). IsDone p (facts p journal)) (ran_here module_ listing w run.plan q some run.accepted a) run.over) ended)
  limit_exact module_ listing never Words cause run flag w q some a clear still ended = absurd (not_none wanted w some cause.0)
  limit_exact module_ listing never (FileFault k) cause run flag w q some a clear still ended =
      absurd (read_whole w old new a.script a.texts k a.read (the_words wanted (λ v. FailsAt (files_of v) old new k) w some cause.1))
  limit_exact module_ listing never (ModuleRefused j f) cause run flag w q some a clear still ended =
      absurd (no_module_both w old new a.script a.texts a.trees j f a.read a.are_modules (the_words wanted (λ v. RefusesModule v old new j f) w some cause))
  limit_exact module_ listing never (ScriptRefused line) cause run flag w q some a clear still ended =
      absurd (no_script_both never w old new a.script a.texts (commands_of 1 q.commands) line a.read a.is_script (the_words wanted (λ v. RefusesScript v old new line) w some cause))
  limit_exact module_ listing never Limit cause run flag w q some a clear still ended = inl refl
  limit_exact module_ listing never WriteFault cause run flag w q some a clear still ended = absurd (cc)
  limit_exact module_ listing never NoMemory cause run flag w q some a clear still ended = inr refl

  pub complete : NeverBoth → (e : End) → Caused e → Left e → IsWritten wanted journal had has sink_before sink_now was is e
      → IsComplete wanted old new before now sink_before sink_now e
  complete never Done cause run wrote w some files sink all = inl refl
  complete never Words cause run wrote w some files sink all = absurd (not_none wanted w some cause.0)
  complete never (FileFault k) cause run wrote w some files sink all = absurd (files cause.0)
  complete never (ModuleRefused j f) cause run wrote w some files sink all =
      let r = the_words wanted (λ v. RefusesModule v old new j f) w some cause in
      let found = all r.script r.texts r.read in
      absurd (no_file_refused r.texts found.0.0 j f found.0.1 r.refused)
  complete never (ScriptRefused line) cause run wrote w some files sink all =
      let r = the_words wanted (λ v. RefusesScript v old new line) w some cause in
      let found = all r.script r.texts r.read in
      absurd (never r.script found.1.0 line found.1.1 r.refused)
  complete never Limit cause run wrote w some files sink all = inr (inl refl)
  complete never WriteFault cause run wrote w some files sink all = absurd (sink wrote.1)
  complete never NoMemory cause run wrote w some files sink all = inr (inr refl)
