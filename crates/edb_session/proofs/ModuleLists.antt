-- Texts that are modules, and the first that is none.

use Rattle.std.proofs.Common.{◌≡◌, ℕ, zero, suc, ◌<◌, ◌+◌, List, [], ◌∷◌, ◌++◌, length, take, get_or, refl, sym, ◌∙◌, ap, ap₂, subst, arith}
use Rattle.std.proofs.lemmas.List.{length-append, take_more}
use Rattle.std.proofs.lemmas.List.Elements.{All-nil, All-cons}
use Rattle.edb_lang.specs.Syntax.{ModuleTree}
use Rattle.edb_rules.specs.Bounds.{IsBounded, AreBounded}
use Rattle.edb_small.specs.SmallModule.{IsModule}
use Rattle.edb_syntax.specs.Syntax as syntax
use Rattle.edb_verdict.specs.Verdicts as verdicts
use Rattle.edb_verdict.specs.Verdicts.{HasFault}
use Rattle.edb_verdict.specs.declared.fault.ModuleFault.{ModuleFault}
use Rattle.edb_verdict.specs.declared.fault.ModuleFault.TheVariants.{Scan, Form, Check, NotYet}
use Rattle.edb_session.specs.declared.ending.End.{End}
use Rattle.edb_session.specs.declared.ending.End.TheVariants.{ModuleRefused, NoMemory}
use Rattle.edb_session.specs.Ends.{IsRefusedFor, RefusesTexts}
use Rattle.edb_session.specs.Reading.{AreModules, IsFaultOf, IsNoModule, IsFirstRefused, IsModuleRefused}

-- one text more
pub modules_more : (texts : List (List ℕ)) (ms : List ModuleTree) (text : List ℕ) (m : ModuleTree) → AreModules texts ms → IsModule text m
    → AreModules (texts ++ text ∷ []) (ms ++ m ∷ [])
modules_more [] [] text m all is = (is, tt)
modules_more (t ∷ ts) (n ∷ ns) text m all is = (all.0, modules_more ts ns text m all.1 is)
modules_more [] (n ∷ ns) text m all is = absurd all
modules_more (t ∷ ts) [] text m all is = absurd all

-- a text is one module's at most
abbrev pub OneModule : Type 0
OneModule = (bytes : List ℕ) (m n : ModuleTree) → IsModule bytes m → IsModule bytes n → m ≡ n

pub modules_same : OneModule → (texts : List (List ℕ)) (ms ns : List ModuleTree) → AreModules texts ms → AreModules texts ns → ms ≡ ns
modules_same one [] [] [] a b = refl
modules_same one (t ∷ ts) (m ∷ ms) (n ∷ ns) a b = ap₂ (λ x y. x ∷ y) (one t m n a.0 b.0) (modules_same one ts ms ns a.1 b.1)
modules_same one [] (m ∷ ms) ns a b = absurd a
modules_same one [] [] (n ∷ ns) a b = absurd b
modules_same one (t ∷ ts) [] ns a b = absurd a
modules_same one (t ∷ ts) (m ∷ ms) [] a b = absurd b

pub modules_bounded : ((bytes : List ℕ) (m : ModuleTree) → IsModule bytes m → IsBounded m) → (texts : List (List ℕ)) (ms : List ModuleTree)
    → AreModules texts ms → AreBounded ms
modules_bounded short [] [] all = All-nil IsBounded
modules_bounded short (t ∷ ts) (m ∷ ms) all = All-cons IsBounded m ms (short t m all.0) (modules_bounded short ts ms all.1)
modules_bounded short [] (m ∷ ms) all = absurd all
modules_bounded short (t ∷ ts) [] all = absurd all

-- what comes first behind modules and is none is the first that is refused
first_refused : (texts : List (List ℕ)) (i : ℕ) (ms : List ModuleTree) (d : List ℕ) (fault : ModuleFault) → AreModules (take i texts) ms → i < length texts
    → IsNoModule (get_or texts i d) → IsFaultOf (get_or texts i d) fault → IsFirstRefused texts i fault
first_refused [] i ms d fault all lt bad is = absurd (omega (arith, lt))
first_refused (t ∷ ts) zero ms d fault all lt bad is = (bad, is)
first_refused (t ∷ ts) (suc i) (m ∷ ms) d fault all lt bad is = ((m, all.0), first_refused ts i ms d fault all.1 (omega (arith, lt)) bad is)
first_refused (t ∷ ts) (suc i) [] d fault all lt bad is = absurd all

-- of modules none is refused
none_refused : (texts : List (List ℕ)) (ms : List ModuleTree) (k : ℕ) (fault : ModuleFault) → AreModules texts ms → IsFirstRefused texts k fault → ⊥
none_refused [] ms k fault all refused = refused
none_refused (t ∷ ts) [] k fault all refused = all
none_refused (t ∷ ts) (m ∷ ms) zero fault all refused = refused.0 m all.0
none_refused (t ∷ ts) (m ∷ ms) (suc k) fault all refused = none_refused ts ms k fault all.1 refused.1

pub no_file_refused : (texts : List (List ℕ)) (ms : List ModuleTree) (k : ℕ) (fault : ModuleFault) → AreModules texts ms → IsModuleRefused texts k fault → ⊥
no_file_refused texts ms zero fault all refused = refused
no_file_refused texts ms (suc k) fault all refused = none_refused texts ms k fault all refused

-- a text has one fault at most, and a module of the whole language has none
abbrev pub OneFault : Type 0
OneFault = (text : List ℕ) (f g : ModuleFault) → HasFault text f → HasFault text g → f ≡ g

abbrev pub NeverFault : Type 0
NeverFault = (text : List ℕ) (m : syntax.ModuleTree) (f : ModuleFault) → verdicts.IsAccepted text m → HasFault text f → ⊥

-- a fault of a text is one that it has, or the text is a module of the whole language
data Found (text : List ℕ) (fault : ModuleFault) : Type 0 where
  has : HasFault text fault → Found text fault
  not_yet : fault ≡ NotYet → (m : syntax.ModuleTree) → verdicts.IsAccepted text m → Found text fault

found : (text : List ℕ) (fault : ModuleFault) → IsFaultOf text fault → Found text fault
found text NotYet is = not_yet refl is.0 is.1
found text (Scan f) is = has is
found text (Form f) is = has is
found text (Check f) is = has is

-- what the verdict has found is the fault
pub fault_is : (text : List ℕ) (fault : ModuleFault) → HasFault text fault → IsFaultOf text fault
fault_is text NotYet is = absurd is
fault_is text (Scan f) is = is
fault_is text (Form f) is = is
fault_is text (Check f) is = is

fault_same : OneFault → NeverFault → (text : List ℕ) (f g : ModuleFault) → IsFaultOf text f → IsFaultOf text g → f ≡ g
fault_same one never text f g a b = go (found text f a) (found text g b)
  where
    go : Found text f → Found text g → f ≡ g
    go (has a) (has b) = one text f g a b
    go (has a) (not_yet is m b) = absurd (never text m f b a)
    go (not_yet is m a) (has b) = absurd (never text m g a b)
    go (not_yet is m a) (not_yet same n b) = is ∙ sym same

-- one is the first, for one fault
refused_same : OneFault → NeverFault → (texts : List (List ℕ)) (j k : ℕ) (f g : ModuleFault) → IsFirstRefused texts j f → IsFirstRefused texts k g → (j ≡ k) × (f ≡ g)
refused_same one never [] j k f g a b = absurd a
refused_same one never (t ∷ ts) zero zero f g a b = (refl, fault_same one never t f g a.1 b.1)
refused_same one never (t ∷ ts) (suc j) (suc k) f g a b = let r = refused_same one never ts j k f g a.1 b.1 in (ap suc r.0, r.1)
refused_same one never (t ∷ ts) zero (suc k) f g a b = absurd (a.0 b.0.0 b.0.1)
refused_same one never (t ∷ ts) (suc j) zero f g a b = absurd (b.0 a.0.0 a.0.1)

pub one_file_refused : OneFault → NeverFault → (texts : List (List ℕ)) (j k : ℕ) (f g : ModuleFault) → IsModuleRefused texts j f → IsModuleRefused texts k g → (j ≡ k) × (f ≡ g)
one_file_refused one never texts zero k f g a b = absurd a
one_file_refused one never texts (suc j) zero f g a b = absurd b
one_file_refused one never texts (suc j) (suc k) f g a b = let r = refused_same one never texts j k f g a b in (ap suc r.0, r.1)

-- a text more is a module
pub modules_next : (texts : List (List ℕ)) (i : ℕ) (text : List ℕ) (ms new : List ModuleTree) (m : ModuleTree) → AreModules (take i texts) ms → i < length texts
    → text ≡ get_or texts i text → IsModule text m → new ≡ ms ++ m ∷ [] → AreModules (take (i + 1) texts) new
modules_next texts i text ms new m all lt at is more =
    subst (λ (ns : List ModuleTree). AreModules (take (i + 1) texts) ns) (sym more)
    (subst (λ (ts : List (List ℕ)). AreModules ts (ms ++ m ∷ [])) (sym (take_more texts i text lt))
    (modules_more (take i texts) ms (get_or texts i text) m all (subst (λ (t : List ℕ). IsModule t m) at is)))

-- a text more is none, and so the session ends
pub refused_at : (texts : List (List ℕ)) (i file : ℕ) (text : List ℕ) (ms : List ModuleTree) (e : End) → AreModules (take i texts) ms → i < length texts
    → text ≡ get_or texts i text → file ≡ i → IsNoModule text → IsRefusedFor text (file + 1) e → RefusesTexts texts e
refused_at texts i file text ms (ModuleRefused j fault) all lt at number bad is =
    let one : suc i ≡ j = omega (arith, number, is.0) in
    subst (λ (n : ℕ). IsModuleRefused texts n fault) one
    (first_refused texts i ms text fault all lt (subst (λ (t : List ℕ). IsNoModule t) at bad) (subst (λ (t : List ℕ). IsFaultOf t fault) at is.1))
refused_at texts i file text ms NoMemory all lt at number bad is = tt
refused_at texts i file text ms _ all lt at number bad is = absurd is

-- one module more
pub count_more : (ms new : List ModuleTree) (m : ModuleTree) (i : ℕ) → new ≡ ms ++ m ∷ [] → length ms ≡ i → length new ≡ i + 1
count_more ms new m i more count = ap length more ∙ (length-append ms (m ∷ []) ∙ ap (λ n. n + 1) count)
