-- Forms and files are read again from their layout.

use Rattle.std.proofs.Common.{◌≡◌, ℕ, ◌≤◌, true, false, Bool, if◌then◌else◌, List, [], ◌∷◌, ◌++◌, map, refl, sym, ◌∙◌, ap, subst, append_assoc, append-nil, arith, codes}
use Rattle.edb_scan.specs.declared.lexeme.Mark.TheVariants as mark
use Rattle.edb_scan.specs.declared.lexeme.Token.TheVariants.{Atom, Dot}
use Rattle.edb_scan.specs.declared.lexeme.Placed.{Placed}
use Rattle.edb_syntax.specs.declared.modules.Export.{Export}
use Rattle.edb_syntax.specs.Depths.{clauses_depth}
use Rattle.edb_syntax.specs.Syntax.{Clauses, FunctionTree, ModuleTree}
use Rattle.edb_grammar.specs.Toks.{Place, Tok, tok, word, line_at, most_integer, funs_behind}
use Rattle.edb_grammar.specs.Expressions.{most_parameters, Head, ReadsClauses, last_clause, next_clause}
use Rattle.edb_grammar.specs.Forms.{names, exports, defines, deepest, ReadsEntries, last_entry, next_entry, no_entries, some_entries, ReadsForm, a_module, an_export, a_function}
use Rattle.edb_grammar.specs.Files.{is_dot, with_first, forms_of, ReadsForms, no_forms, export_form, skipped_form, function_form, ReadsFile, a_file}
use Rattle.edb_grammar.proofs.FormSteps.{form_then}
use Rattle.edb_print.specs.Pieces.{Gap, tight, blank, line, Piece, piece, sign, tokens_of}
use Rattle.edb_print.specs.Layout.{with_name, lay_clauses, lay_dot, lay_function, lay_functions, lay_entry, lay_more_entries, lay_exports, lay_module}
use Rattle.edb_print.specs.Unlined.{unlined_clauses, unlined_entry, unlined_function, unlined_module}
use Rattle.edb_print.proofs.SoundTokens.{Sound, AllSound, sound_export, sound_module}
use Rattle.edb_print.proofs.Reread.{Counts, SoundPieces, sound_append, sound_tokens, Undotted, put, funs_past, funs_laid, line_past, Found, Reread, Twin, done, added, join, mapped, counts_front, funs_past_append, funs_laid_append, put_append, counts_places, funs_past_places, funs_behind_tokens, tokens_append, without_dot}
use Rattle.edb_print.proofs.ExpressionsAgain.{clauses_again}
use Rattle.edb_print.proofs.DepthUnlined.{depth_unlined}

-- the dot of a form
abbrev dot : List Piece
dot = piece tight Dot ∷ []

-- the first form of laid out pieces is those up to the dot
first_form : (l : ℕ) (ps qs : List Piece) → Undotted ps
    → forms_of (tokens_of l ((ps ++ dot) ++ qs)) ≡ tokens_of l (ps ++ dot) ∷ forms_of (tokens_of (line_past l (ps ++ dot)) qs)
first_form l ps qs calm =
    ap forms_of (tokens_append l (ps ++ dot) qs ∙ ap (λ (ts : List Placed). ts ++ rest) split ∙ append_assoc (tokens_of l ps) (t ∷ []) rest)
    ∙ form_then (tokens_of l ps) t rest (without_dot l ps calm) refl
    ∙ ap (λ (ts : List Placed). ts ∷ forms_of rest) (sym split)
  where
    t : Placed
    t = record { line = line_past l ps; token = Dot }

    rest : List Placed
    rest = tokens_of (line_past l (ps ++ dot)) qs

    split : tokens_of l (ps ++ dot) ≡ tokens_of l ps ++ t ∷ []
    split = tokens_append l ps dot

-- a form at one place: G holds of its tokens, the dot included
record FormFound (G : List Tok → Type 0) (ps : List Piece) (ts : List Tok) (n l : ℕ) : Type 0 where
  holds : G (put n l (ps ++ dot))
  funs : funs_laid n (ps ++ dot) ≡ funs_past n ts
  calm : Undotted ps
  sound : SoundPieces (ps ++ dot)

form_found : (G : List Tok → Type 0) (ps : List Piece) (ts : List Tok) (n l : ℕ)
    → Found (λ us. (d : Place) → G (us ++ tok d Dot ∷ [])) ps ts n l → FormFound G ps ts n l
form_found G ps ts n l a = record {
  holds = subst G (sym (put_append n l ps dot)) (a.holds (record { line = line_past l ps; funs = funs_laid n ps }));
  funs = funs_laid_append n ps dot ∙ a.funs;
  calm = a.calm;
  sound = sound_append ps dot a.sound (tt, tt);
}

-- a function
abbrev Defines : List Tok → FunctionTree → Type 0
Defines us f = ReadsForm us (defines f)

abbrev clauses_laid : FunctionTree → List Piece
clauses_laid f = lay_clauses (with_name f.name) (line 0) 0 0 f.clauses

deep_enough : (cs ds : Clauses) → unlined_clauses cs ≡ unlined_clauses ds → clauses_depth ds ≤ deepest → clauses_depth cs ≤ deepest
deep_enough cs ds h w = subst (λ n. n ≤ deepest) (sym (sym (depth_unlined cs) ∙ ap clauses_depth h ∙ depth_unlined ds)) w

function_again : {ts : List Tok} {f : FunctionTree} → ReadsForm ts (defines f) → (n l : ℕ) → Counts n ts
    → FormFound (Twin Defines unlined_function f) (clauses_laid f) ts n l
function_again (a_function {n = k} {f = f} {ts = ts} {cs = cs} d r w deep) n l c =
    let a = (mapped (λ us a d. record {
      tree = record { name = f; arity = k; line = line_at us; clauses = a.tree };
      reads = a_function d a.reads w (deep_enough a.tree cs a.same deep);
      same = λ i. record { name = f; arity = k; line = 0; clauses = a.same i };
    }) (clauses_again r 500 (line 0) 0 0 (omega (arith, deep)))).at_each n l (counts_front n ts (tok d Dot ∷ []) c) in
    let b = form_found (Twin Defines unlined_function (record { name = f; arity = k; line = line_at ts; clauses = cs })) _ ts n l a in
    record { holds = b.holds; funs = b.funs ∙ sym (funs_past_append n ts (tok d Dot ∷ [])); calm = b.calm; sound = b.sound }

-- a function that the grammar reads has a clause
clauses_dotted : {m : ℕ} {h : Head} {ts : List Tok} {cs : Clauses} → ReadsClauses m h ts cs → lay_dot cs ≡ dot
clauses_dotted (last_clause r) = refl
clauses_dotted (next_clause s r rs) = refl

function_dotted : {ts : List Tok} {f : FunctionTree} → ReadsForm ts (defines f) → lay_function f ≡ clauses_laid f ++ dot
function_dotted (a_function {f = f} {cs = cs} d r w deep) = ap (λ (ps : List Piece). lay_clauses (with_name f) (line 0) 0 0 cs ++ ps) (clauses_dotted r)

-- each token of each form is one that a text may have
abbrev FormsSound : List (List Placed) → Type 0
FormsSound [] = Unit {0}
FormsSound (form ∷ forms) = AllSound form × FormsSound forms

with_first_sound : (t : Placed) (ts : List Placed) (forms : List (List Placed)) → AllSound (t ∷ ts) → FormsSound forms → FormsSound (with_first t forms)
with_first_sound t ts [] h f = ((h.0, tt), tt)
with_first_sound t ts (form ∷ forms) h f = ((h.0, f.0), f.1)

forms_sound : (ts : List Placed) → AllSound ts → FormsSound (forms_of ts)
forms_sound [] h = tt
forms_sound (t ∷ ts) h = by (is_dot t.token) (forms_sound ts h.1)
  where
    by : (b : Bool) → FormsSound (forms_of ts) → FormsSound (if b then (t ∷ []) ∷ forms_of ts else with_first t (forms_of ts))
    by true f = ((h.0, tt), f)
    by false f = with_first_sound t ts (forms_of ts) h f

-- the functions after the other forms
record FunctionsFound (fs : List FunctionTree) (n l : ℕ) : Type 0 where
  trees : List FunctionTree
  reads : ReadsForms n (forms_of (tokens_of l (lay_functions fs))) [] trees
  same : map unlined_function trees ≡ map unlined_function fs
  sound : SoundPieces (lay_functions fs)

functions_again : {n : ℕ} {forms : List (List Placed)} {xs : List Export} {fs : List FunctionTree} → ReadsForms n forms xs fs
    → FormsSound forms → (l : ℕ) → FunctionsFound fs n l
functions_again no_forms fit l = record { trees = []; reads = no_forms; same = refl; sound = tt }
functions_again (export_form r rs) fit l = functions_again rs fit.1 l
functions_again (skipped_form r rs) fit l = functions_again rs fit.1 l
functions_again (function_form {n = n} {form = form} {f = f} {fs = fs} r rs) fit l =
    let laid = clauses_laid f ++ dot in
    let split : lay_functions (f ∷ fs) ≡ laid ++ lay_functions fs = ap (λ (ps : List Piece). ps ++ lay_functions fs) (function_dotted r) in
    let a = function_again r n l (counts_places n form fit.0) in
    let b = functions_again rs fit.1 (line_past l laid) in
    let moved : funs_behind n form ≡ funs_behind n (tokens_of l laid) =
    sym (funs_behind_tokens n l laid ∙ a.funs ∙ funs_past_places n form) in
    record {
      trees = a.holds.tree ∷ b.trees;
      reads = subst (λ (v : List (List Placed)). ReadsForms n v [] (a.holds.tree ∷ b.trees))
          (sym (ap (λ (ps : List Piece). forms_of (tokens_of l ps)) split ∙ first_form l (clauses_laid f) (lay_functions fs) a.calm))
          (function_form a.holds.reads
          (subst (λ k. ReadsForms k (forms_of (tokens_of (line_past l laid) (lay_functions fs))) [] b.trees) moved b.reads));
      same = λ i. a.holds.same i ∷ b.same i;
      sound = subst SoundPieces (sym split) (sound_append laid (lay_functions fs) a.sound b.sound);
    }

-- entries of an export: arities that a function may have, and names that a text may have
abbrev Within : List Export → Type 0
Within [] = Unit {0}
Within (x ∷ xs) = (x.arity ≤ most_parameters) × Sound (Atom x.name) × Within xs

entries_within : {ts : List Tok} {xs : List Export} → ReadsEntries ts xs → (n : ℕ) (us : List Tok) → Counts n (ts ++ us) → Within xs
entries_within (last_entry s d a w) n us c = (w, c.1, tt)
entries_within (next_entry s d a e w r) n us c = (w, c.1, entries_within r n us c.2.2.2.2)

export_within : {ts : List Tok} {xs : List Export} → ReadsForm ts (exports xs) → (n : ℕ) → Counts n ts → Within xs
export_within (an_export h a o p q c d no_entries) n k = tt
export_within (an_export h a o p q c d (some_entries r)) n k = entries_within r n (word q mark.BracketClose ∷ word c mark.ParenClose ∷ tok d Dot ∷ []) k.2.2.2.2

within_append : (xs ys : List Export) → Within xs → Within ys → Within (xs ++ ys)
within_append [] ys h j = j
within_append (x ∷ xs) ys h j = (h.0, h.1, within_append xs ys h.2 j)

exports_within : {n : ℕ} {forms : List (List Placed)} {xs : List Export} {fs : List FunctionTree} → ReadsForms n forms xs fs
    → FormsSound forms → Within xs
exports_within no_forms fit = tt
exports_within (export_form {n = n} {form = form} {xs = xs} {ys = ys} r rs) fit =
    within_append xs ys (export_within r n (counts_places n form fit.0)) (exports_within rs fit.1)
exports_within (skipped_form r rs) fit = exports_within rs fit.1
exports_within (function_form r rs) fit = exports_within rs fit.1

few : {n : ℕ} → n ≤ most_parameters → n ≤ most_integer
few h = omega (arith, h)

entries_again : (x : Export) (xs : List Export) → Within (x ∷ xs) → (g : Gap)
    → Reread (Twin ReadsEntries (map unlined_entry) (x ∷ xs)) (lay_entry g x ++ lay_more_entries xs) []
entries_again x [] w g = added refl (λ n. refl) w.1 (λ s. added refl (λ n. refl) tt (λ d. added refl (λ n. refl) (few w.0) (λ a. done (record {
  tree = record { name = x.name; arity = x.arity; line = s.line } ∷ [];
  reads = last_entry s d a w.0;
  same = refl;
}))))
entries_again x (y ∷ xs) w g = added refl (λ n. refl) w.1 (λ s. added refl (λ n. refl) tt (λ d. added refl (λ n. refl) (few w.0) (λ a.
    added refl (λ n. refl) tt (λ c. mapped (λ us e. record {
      tree = record { name = x.name; arity = x.arity; line = s.line } ∷ e.tree;
      reads = next_entry s d a c w.0 e.reads;
      same = λ i. unlined_entry x ∷ e.same i;
    }) (entries_again y xs w.2 blank)))))

-- an export without its dot
abbrev export_front : Export → List Export → List Piece
export_front x xs =
    sign (line 0) mark.Minus ∷ piece tight (Atom (codes "export")) ∷ sign tight mark.ParenOpen ∷ sign tight mark.BracketOpen
    ∷ ((lay_entry tight x ++ lay_more_entries xs) ++ sign tight mark.BracketClose ∷ sign tight mark.ParenClose ∷ [])

export_laid : (x : Export) (xs : List Export) → lay_exports (x ∷ xs) ≡ export_front x xs ++ dot
export_laid x xs = ap (λ (ps : List Piece).
    sign (line 0) mark.Minus ∷ piece tight (Atom (codes "export")) ∷ sign tight mark.ParenOpen ∷ sign tight mark.BracketOpen
    ∷ (lay_entry tight x ++ ps))
    (sym (append_assoc (lay_more_entries xs) (sign tight mark.BracketClose ∷ sign tight mark.ParenClose ∷ []) dot))

abbrev ReadsExports : List Tok → List Export → Type 0
ReadsExports us xs = ReadsForm us (exports xs)

export_again : (x : Export) (xs : List Export) → Within (x ∷ xs)
    → Reread (λ us. (d : Place) → Twin ReadsExports (map unlined_entry) (x ∷ xs) (us ++ tok d Dot ∷ [])) (export_front x xs) []
export_again x xs w =
    added refl (λ n. refl) tt (λ h. added refl (λ n. refl) sound_export (λ a. added refl (λ n. refl) tt (λ o. added refl (λ n. refl) tt (λ p.
    join (entries_again x xs w tight) (λ us e. added refl (λ n. refl) tt (λ q. added refl (λ n. refl) tt (λ c. done (λ d. record {
      tree = e.tree;
      reads = subst (λ (vs : List Tok). ReadsForm (word h mark.Minus ∷ tok a (Atom (codes "export")) ∷ word o mark.ParenOpen
          ∷ word p mark.BracketOpen ∷ vs) (exports e.tree))
          (sym (append_assoc us (word q mark.BracketClose ∷ word c mark.ParenClose ∷ []) (tok d Dot ∷ [])))
          (an_export h a o p q c d (some_entries e.reads));
      same = e.same;
    }))))))))

-- the forms after the module form
record FormsFound (xs : List Export) (fs : List FunctionTree) (l : ℕ) : Type 0 where
  entries : List Export
  trees : List FunctionTree
  reads : ReadsForms 0 (forms_of (tokens_of l (lay_exports xs ++ lay_functions fs))) entries trees
  same_entries : map unlined_entry entries ≡ map unlined_entry xs
  same : map unlined_function trees ≡ map unlined_function fs
  sound : SoundPieces (lay_exports xs ++ lay_functions fs)

forms_again : (xs : List Export) (fs : List FunctionTree) → Within xs → ((l : ℕ) → FunctionsFound fs 0 l) → (l : ℕ) → FormsFound xs fs l
forms_again [] fs w found l =
    let b = found l in record { entries = []; trees = b.trees; reads = b.reads; same_entries = refl; same = b.same; sound = b.sound }
forms_again (x ∷ xs) fs w found l =
    let a = form_found (Twin ReadsExports (map unlined_entry) (x ∷ xs)) (export_front x xs) [] 0 l ((export_again x xs w).at_each 0 l tt) in
    let k : ℕ = line_past l (export_front x xs ++ dot) in
    let b = found k in
    let split = ap (λ (ps : List Piece). forms_of (tokens_of l (ps ++ lay_functions fs))) (export_laid x xs)
    ∙ first_form l (export_front x xs) (lay_functions fs) a.calm in
    record {
      entries = a.holds.tree;
      trees = b.trees;
      reads = subst (λ (v : List (List Placed)). ReadsForms 0 v a.holds.tree b.trees) (sym split)
          (subst (λ (ys : List Export). ReadsForms 0 (tokens_of l (export_front x xs ++ dot) ∷ forms_of (tokens_of k (lay_functions fs))) ys b.trees)
          (append-nil a.holds.tree) (export_form a.holds.reads b.reads));
      same_entries = a.holds.same;
      same = b.same;
      sound = sound_append (lay_exports (x ∷ xs)) (lay_functions fs) (subst SoundPieces (sym (export_laid x xs)) a.sound) b.sound;
    }

-- the module form without its dot
abbrev module_front : List ℕ → List Piece
module_front m =
    sign tight mark.Minus ∷ piece tight (Atom (codes "module")) ∷ sign tight mark.ParenOpen ∷ piece tight (Atom m)
    ∷ sign tight mark.ParenClose ∷ []

module_named : {ts : List Tok} {l : ℕ} {m : List ℕ} → ReadsForm ts (names l m) → (n : ℕ) → Counts n ts → Sound (Atom m)
module_named (a_module h a o s c d) n k = k.2.2.2.1

-- A module that the grammar reads from tokens that a text may have is read again from its layout, put on its lines:
-- it is the same but for lines. Its tokens there are ones that a text may have.
pub record ReadAgain (m : ModuleTree) : Type 0 where
  pub tree : ModuleTree
  pub reads : ReadsFile (tokens_of 1 (lay_module m)) tree
  pub same : unlined_module tree ≡ unlined_module m
  pub sound : AllSound (tokens_of 1 (lay_module m))

pub written_reads : (tokens : List Placed) (m : ModuleTree) → AllSound tokens → ReadsFile tokens m → ReadAgain m
written_reads tokens m fit (a_file {form = form} {forms = forms} {l = l} {m = name} {xs = xs} {fs = fs} split r rs) =
    let fits = subst FormsSound split (forms_sound tokens fit) in
    let b = forms_again xs fs (exports_within rs fits.1) (λ l. functions_again rs fits.1 l) 1 in
    record {
      tree = record { name = name; line = 1; exports = b.entries; functions = b.trees };
      reads = a_file (first_form 1 (module_front name) (lay_exports xs ++ lay_functions fs) (refl, (refl, (refl, (refl, (refl, tt))))))
          (a_module _ _ _ _ _ _) b.reads;
      same = λ i. record { name = name; line = 0; exports = b.same_entries i; functions = b.same i };
      sound = sound_tokens 1 (lay_module (record { name = name; line = l; exports = xs; functions = fs }))
          (tt, (sound_module, (tt, (module_named r 0 (counts_places 0 form fits.0), (tt, (tt, b.sound))))));
    }
