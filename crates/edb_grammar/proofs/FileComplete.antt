-- Reading form by form answers just what a file is: its module, or its fault. So a file has one of the two at most.

use Rattle.std.proofs.Common.{◌≡◌, ◌⊎◌, inl, inr, ℕ, ◌+◌, ◌<◌, Bool, true, false, not, ◌==◌, if◌then◌else◌, List, [], ◌∷◌, ◌++◌, Option, Some, None, refl, sym, ◌∙◌, ap, subst, append_assoc, append-nil, arith}
use Rattle.std.proofs.lemmas.Bool.{false≢true}
use Rattle.std.proofs.lemmas.Bool.Decides.{nat_tests}
use Rattle.edb_scan.specs.declared.lexeme.Placed.{Placed}
use Rattle.edb_syntax.specs.declared.modules.Export.{Export}
use Rattle.edb_syntax.specs.Syntax.{FunctionTree, ModuleTree}
use Rattle.edb_grammar.specs.Toks.{places, funs_behind}
use Rattle.edb_grammar.specs.Forms.{FormTree, names, exports, skipped, defines}
use Rattle.edb_grammar.specs.Files.{is_dot, with_first, forms_of, ReadsForms, no_forms, export_form, skipped_form, function_form, ReadsFile, a_file}
use Rattle.edb_grammar.specs.Faults.{may_be, HasTree, funs_past, FirstBad, bad_here, bad_later, IsFault}
use Rattle.edb_grammar.specs.FormReading.{read_form}
use Rattle.edb_grammar.specs.FileReading.{Verdict, accepted, refused, with_exports, with_function, refused_at, behind_form, read_forms, behind_first, read_all_forms, read_file}
use Rattle.edb_grammar.proofs.Parts.{some_is, none_no}
use Rattle.edb_grammar.proofs.FormSound.{form_sound}
use Rattle.edb_grammar.proofs.FormComplete.{form_complete}

-- what a verdict says
abbrev module_in : ModuleTree → Verdict → ModuleTree
module_in m (accepted w) = w
module_in m (refused k l) = m

accepted_is : (m w : ModuleTree) → accepted m ≡ accepted w → m ≡ w
accepted_is m w h = ap (module_in m) h

abbrev form_in : Verdict → ℕ
form_in (accepted m) = 0
form_in (refused k l) = k

abbrev line_in : Verdict → ℕ
line_in (accepted m) = 0
line_in (refused k l) = l

abbrev IsAccepted : Verdict → Type 0
IsAccepted (accepted m) = Unit {0}
IsAccepted (refused k l) = ⊥

apart : {m : ModuleTree} {k l : ℕ} → accepted m ≡ refused k l → ⊥
apart h = subst IsAccepted h tt

-- a module with further exports and functions behind its own
abbrev followed : ModuleTree → List Export → List FunctionTree → ModuleTree
followed m xs fs = record m { exports = m.exports ++ xs; functions = m.functions ++ fs }

followed_none : (m : ModuleTree) → followed m [] [] ≡ m
followed_none m = λ i. record m { exports = append-nil m.exports i; functions = append-nil m.functions i }

followed_exports : (m : ModuleTree) (xs ys : List Export) (fs : List FunctionTree)
    → followed (with_exports m xs) ys fs ≡ followed m (xs ++ ys) fs
followed_exports m xs ys fs = λ i. record m { exports = append_assoc m.exports xs ys i; functions = m.functions ++ fs }

followed_function : (m : ModuleTree) (xs : List Export) (f : FunctionTree) (fs : List FunctionTree)
    → followed (with_function m f) xs fs ≡ followed m xs (f ∷ fs)
followed_function m xs f fs = λ i. record m { exports = m.exports ++ xs; functions = append_assoc m.functions (f ∷ []) fs i }

-- the forms behind the module form make w of m
record Makes (funs : ℕ) (m : ModuleTree) (forms : List (List Placed)) (w : ModuleTree) : Type 0 where
  exported : List Export
  defined : List FunctionTree
  reads : ReadsForms funs forms exported defined
  made : w ≡ followed m exported defined

forms_sound : (n funs : ℕ) (m w : ModuleTree) (forms : List (List Placed)) → read_forms n funs m forms ≡ accepted w → Makes funs m forms w
forms_sound n funs m w [] h = record { exported = []; defined = []; reads = no_forms; made = sym (accepted_is m w h) ∙ sym (followed_none m) }
forms_sound n funs m w (form ∷ forms) h = by (λ k v. forms_sound (n + 1) k v w forms) (read_form (places funs form)) refl h
  where
    by : ((k : ℕ) (v : ModuleTree) → read_forms (n + 1) k v forms ≡ accepted w → Makes k v forms w)
        → (o : Option FormTree) → read_form (places funs form) ≡ o
        → behind_form n funs m form (λ k v. read_forms (n + 1) k v forms) o ≡ accepted w → Makes funs m (form ∷ forms) w
    by further (Some (exports xs)) e k =
        let r = further funs (with_exports m xs) k in
        record {
          exported = xs ++ r.exported;
          defined = r.defined;
          reads = export_form (form_sound (places funs form) (exports xs) e) r.reads;
          made = r.made ∙ followed_exports m xs r.exported r.defined;
        }
    by further (Some skipped) e k =
        let r = further funs m k in
        record {
          exported = r.exported;
          defined = r.defined;
          reads = skipped_form (form_sound (places funs form) skipped e) r.reads;
          made = r.made;
        }
    by further (Some (defines f)) e k =
        let r = further (funs_behind funs form) (with_function m f) k in
        record {
          exported = r.exported;
          defined = f ∷ r.defined;
          reads = function_form (form_sound (places funs form) (defines f) e) r.reads;
          made = r.made ∙ followed_function m r.exported f r.defined;
        }
    by further (Some (names l a)) e k = absurd (apart (sym k))
    by further None e k = absurd (apart (sym k))

forms_complete : {funs : ℕ} {forms : List (List Placed)} {xs : List Export} {fs : List FunctionTree} → ReadsForms funs forms xs fs
    → (n : ℕ) (m : ModuleTree) → read_forms n funs m forms ≡ accepted (followed m xs fs)
forms_complete no_forms n m = ap accepted (sym (followed_none m))
forms_complete {funs} (export_form {form} {forms} {xs} {ys} {fs} r rs) n m =
    ap (behind_form n funs m form (λ k v. read_forms (n + 1) k v forms)) (form_complete (places funs form) (exports xs) r)
    ∙ (forms_complete rs (n + 1) (with_exports m xs) ∙ ap accepted (followed_exports m xs ys fs))
forms_complete {funs} (skipped_form {form} {forms} r rs) n m =
    ap (behind_form n funs m form (λ k v. read_forms (n + 1) k v forms)) (form_complete (places funs form) skipped r)
    ∙ forms_complete rs (n + 1) m
forms_complete {funs} (function_form {form} {forms} {xs} {f} {fs} r rs) n m =
    ap (behind_form n funs m form (λ k v. read_forms (n + 1) k v forms)) (form_complete (places funs form) (defines f) r)
    ∙ (forms_complete rs (n + 1) (with_function m f) ∙ ap accepted (followed_function m xs f fs))

-- only the first form may be the module form, and it has to be
not_first : (n : ℕ) → 1 < n → n == 1 ≡ false
not_first n h = grind (arith, nat_tests, h)

unread : (n funs : ℕ) (form : List Placed) → read_form (places funs form) ≡ None → HasTree n funs form → ⊥
unread n funs form e has = none_no has.tree (sym e ∙ form_complete (places funs form) has.tree has.reads)

ill_placed : (n funs : ℕ) (form : List Placed) (f : FormTree) → read_form (places funs form) ≡ Some f → may_be n f ≡ false
    → HasTree n funs form → ⊥
ill_placed n funs form f e no_place has =
    let same = some_is f has.tree (sym e ∙ form_complete (places funs form) has.tree has.reads) in
    false≢true (sym no_place ∙ (ap (may_be n) same ∙ has.may_be))

-- what is refused at a form that has no tree has its fault there
refused_here : (n funs : ℕ) (form : List Placed) (forms : List (List Placed)) (k l : ℕ) → (HasTree n funs form → ⊥)
    → refused_at n funs form ≡ refused k l → FirstBad n funs (form ∷ forms) k l
refused_here n funs form forms k l bad h =
    subst (λ v. FirstBad n funs (form ∷ forms) (form_in v) (line_in v)) h (bad_here bad)

later_fault : (n funs : ℕ) (form : List Placed) (forms : List (List Placed)) (f : FormTree) (k l : ℕ)
    → read_form (places funs form) ≡ Some f → may_be n f ≡ true → FirstBad (n + 1) (funs_past funs form f) forms k l
    → FirstBad n funs (form ∷ forms) k l
later_fault n funs form forms f k l e may bad =
    bad_later (record { tree = f; may_be = may; reads = form_sound (places funs form) f e }) bad

faults_sound : (n funs : ℕ) (m : ModuleTree) (forms : List (List Placed)) (k l : ℕ) → 1 < n
    → read_forms n funs m forms ≡ refused k l → FirstBad n funs forms k l
faults_sound n funs m [] k l first h = absurd (apart h)
faults_sound n funs m (form ∷ forms) k l first h =
    by (λ j v. faults_sound (n + 1) j v forms k l (omega (arith, first))) (read_form (places funs form)) refl h
  where
    may : not (n == 1) ≡ true
    may = ap not (not_first n first)

    by : ((j : ℕ) (v : ModuleTree) → read_forms (n + 1) j v forms ≡ refused k l → FirstBad (n + 1) j forms k l)
        → (o : Option FormTree) → read_form (places funs form) ≡ o
        → behind_form n funs m form (λ j v. read_forms (n + 1) j v forms) o ≡ refused k l → FirstBad n funs (form ∷ forms) k l
    by further (Some (exports xs)) e r = later_fault n funs form forms (exports xs) k l e may (further funs (with_exports m xs) r)
    by further (Some skipped) e r = later_fault n funs form forms skipped k l e may (further funs m r)
    by further (Some (defines f)) e r = later_fault n funs form forms (defines f) k l e may (further (funs_behind funs form) (with_function m f) r)
    by further (Some (names i a)) e r = refused_here n funs form forms k l (ill_placed n funs form (names i a) e (not_first n first)) r
    by further None e r = refused_here n funs form forms k l (unread n funs form e) r

faults_complete : {n funs k l : ℕ} {forms : List (List Placed)} → FirstBad n funs forms k l → 1 < n
    → (m : ModuleTree) → read_forms n funs m forms ≡ refused k l
faults_complete {n} {funs} (bad_here {form} {forms} bad) first m = by (read_form (places funs form)) refl
  where
    has : (f : FormTree) → read_form (places funs form) ≡ Some f → may_be n f ≡ true → ⊥
    has f e may = bad (record { tree = f; may_be = may; reads = form_sound (places funs form) f e })

    may : not (n == 1) ≡ true
    may = ap not (not_first n first)

    by : (o : Option FormTree) → read_form (places funs form) ≡ o
        → behind_form n funs m form (λ j v. read_forms (n + 1) j v forms) o ≡ refused_at n funs form
    by (Some (exports xs)) e = absurd (has (exports xs) e may)
    by (Some skipped) e = absurd (has skipped e may)
    by (Some (defines f)) e = absurd (has (defines f) e may)
    by (Some (names i a)) e = refl
    by None e = refl
faults_complete {n} {funs} {k} {l} (bad_later {form} {forms} good bad) first m =
    ap (behind_form n funs m form (λ j v. read_forms (n + 1) j v forms)) (form_complete (places funs form) good.tree good.reads)
    ∙ by good.tree good.may_be (λ v. faults_complete bad (omega (arith, first)) v)
  where
    by : (f : FormTree) → may_be n f ≡ true → ((v : ModuleTree) → read_forms (n + 1) (funs_past funs form f) v forms ≡ refused k l)
        → behind_form n funs m form (λ j v. read_forms (n + 1) j v forms) (Some f) ≡ refused k l
    by (exports xs) may further = further (with_exports m xs)
    by skipped may further = further m
    by (defines f) may further = further (with_function m f)
    by (names i a) may further = absurd (false≢true (sym (not_first n first) ∙ may))

-- a file that is accepted is the module
pub file_sound : (tokens : List Placed) (m : ModuleTree) → read_file tokens ≡ accepted m → ReadsFile tokens m
file_sound tokens m h = by (forms_of tokens) refl h
  where
    by : (forms : List (List Placed)) → forms_of tokens ≡ forms → read_all_forms forms ≡ accepted m → ReadsFile tokens m
    by [] e k = absurd (apart (sym k))
    by (form ∷ forms) e k = begun (read_form (places 0 form)) refl k
      where
        begun : (o : Option FormTree) → read_form (places 0 form) ≡ o → behind_first form forms o ≡ accepted m → ReadsFile tokens m
        begun (Some (names l a)) f g =
            let r = forms_sound 2 0 (record { name = a; line = l; exports = []; functions = [] }) m forms g in
            subst (ReadsFile tokens) (sym r.made) (a_file e (form_sound (places 0 form) (names l a) f) r.reads)
        begun (Some (exports xs)) f g = absurd (apart (sym g))
        begun (Some skipped) f g = absurd (apart (sym g))
        begun (Some (defines d)) f g = absurd (apart (sym g))
        begun None f g = absurd (apart (sym g))

pub file_complete : (tokens : List Placed) (m : ModuleTree) → ReadsFile tokens m → read_file tokens ≡ accepted m
file_complete tokens m (a_file {form} {forms} {l} {m = a} e r rs) =
    ap read_all_forms e
    ∙ (ap (behind_first form forms) (form_complete (places 0 form) (names l a) r)
    ∙ forms_complete rs 2 (record { name = a; line = l; exports = []; functions = [] }))

first_fault : (form : List Placed) (forms : List (List Placed)) (k l : ℕ) → read_all_forms (form ∷ forms) ≡ refused k l
    → FirstBad 1 0 (form ∷ forms) k l
first_fault form forms k l h = by (read_form (places 0 form)) refl h
  where
    by : (o : Option FormTree) → read_form (places 0 form) ≡ o → behind_first form forms o ≡ refused k l → FirstBad 1 0 (form ∷ forms) k l
    by (Some (names i a)) e g =
        later_fault 1 0 form forms (names i a) k l e refl
        (faults_sound 2 0 (record { name = a; line = i; exports = []; functions = [] }) forms k l (omega arith) g)
    by (Some (exports xs)) e g = refused_here 1 0 form forms k l (ill_placed 1 0 form (exports xs) e refl) g
    by (Some skipped) e g = refused_here 1 0 form forms k l (ill_placed 1 0 form skipped e refl) g
    by (Some (defines f)) e g = refused_here 1 0 form forms k l (ill_placed 1 0 form (defines f) e refl) g
    by None e g = refused_here 1 0 form forms k l (unread 1 0 form e) g

-- tokens have a form
has_form : (t : Placed) (ts : List Placed) → (form : List Placed) × (forms : List (List Placed)) × (forms_of (t ∷ ts) ≡ form ∷ forms)
has_form t ts = by (is_dot t.token) (forms_of ts)
  where
    by : (b : Bool) (forms : List (List Placed))
        → (form : List Placed) × (others : List (List Placed)) × ((if b then (t ∷ []) ∷ forms else with_first t forms) ≡ form ∷ others)
    by true forms = (t ∷ [], forms, refl)
    by false [] = (t ∷ [], [], refl)
    by false (form ∷ forms) = (t ∷ form, forms, refl)

-- the fault of a file that is refused is the one named
pub fault_sound : (tokens : List Placed) (k l : ℕ) → read_file tokens ≡ refused k l → IsFault tokens k l
fault_sound [] k l h = inl (refl, sym (ap form_in h), sym (ap line_in h))
fault_sound (t ∷ ts) k l h =
    let f = has_form t ts in
    inr (subst (λ forms. FirstBad 1 0 forms k l) (sym f.2) (first_fault f.0 f.1 k l (ap read_all_forms (sym f.2) ∙ h)))

first_refused : {k l : ℕ} {forms : List (List Placed)} → FirstBad 1 0 forms k l → read_all_forms forms ≡ refused k l
first_refused (bad_here {form} {forms} bad) = by (read_form (places 0 form)) refl
  where
    by : (o : Option FormTree) → read_form (places 0 form) ≡ o → behind_first form forms o ≡ refused_at 1 0 form
    by (Some (names i a)) e = absurd (bad (record { tree = names i a; may_be = refl; reads = form_sound (places 0 form) (names i a) e }))
    by (Some (exports xs)) e = refl
    by (Some skipped) e = refl
    by (Some (defines f)) e = refl
    by None e = refl
first_refused {k} {l} (bad_later {form} {forms} good bad) =
    ap (behind_first form forms) (form_complete (places 0 form) good.tree good.reads)
    ∙ by good.tree good.may_be (λ v. faults_complete bad (omega arith) v)
  where
    by : (f : FormTree) → may_be 1 f ≡ true → ((m : ModuleTree) → read_forms 2 (funs_past 0 form f) m forms ≡ refused k l)
        → behind_first form forms (Some f) ≡ refused k l
    by (names i a) may further = further (record { name = a; line = i; exports = []; functions = [] })
    by _ may further = absurd (false≢true may)

pub fault_complete : (tokens : List Placed) (k l : ℕ) → IsFault tokens k l → read_file tokens ≡ refused k l
fault_complete tokens k l (inl (e, f, g)) = ap read_file e ∙ (λ i. refused (sym f i) (sym g i))
fault_complete tokens k l (inr bad) = first_refused bad

-- tokens are one module at most, and have one fault at most, and never both
pub one_module : (tokens : List Placed) (m w : ModuleTree) → ReadsFile tokens m → ReadsFile tokens w → m ≡ w
one_module tokens m w r s = accepted_is m w (sym (file_complete tokens m r) ∙ file_complete tokens w s)

pub one_fault : (tokens : List Placed) (i j k l : ℕ) → IsFault tokens i j → IsFault tokens k l → (i ≡ k) × (j ≡ l)
one_fault tokens i j k l r s =
    let same = sym (fault_complete tokens i j r) ∙ fault_complete tokens k l s in
    (ap form_in same, ap line_in same)

pub never_both : (tokens : List Placed) (m : ModuleTree) (k l : ℕ) → ReadsFile tokens m → IsFault tokens k l → ⊥
never_both tokens m k l r s = apart (sym (file_complete tokens m r) ∙ fault_complete tokens k l s)

-- each file is a module or has a fault
pub module_or_fault : (tokens : List Placed) → ((m : ModuleTree) × ReadsFile tokens m) ⊎ ((k : ℕ) × (l : ℕ) × IsFault tokens k l)
module_or_fault tokens = by (read_file tokens) refl
  where
    by : (v : Verdict) → read_file tokens ≡ v → ((m : ModuleTree) × ReadsFile tokens m) ⊎ ((k : ℕ) × (l : ℕ) × IsFault tokens k l)
    by (accepted m) e = inl (m, file_sound tokens m e)
    by (refused k l) e = inr (k, l, fault_sound tokens k l e)
