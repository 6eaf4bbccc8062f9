-- Which form is the first that has no tree.

use Rattle.std.specs.Prelude.{◌≡◌, ◌⊎◌, ℕ, ◌+◌, Bool, true, not, ◌==◌, List, [], ◌∷◌}
use Rattle.edb_scan.specs.declared.lexeme.Placed.{Placed}
use Rattle.edb_grammar.specs.Toks.{places, funs_behind, line_at}
use Rattle.edb_grammar.specs.Forms.{FormTree, ReadsForm, names, defines}
use Rattle.edb_grammar.specs.Files.{forms_of}

-- whether such a form may be the n-th of a file: the first is the module form, and no other one is
abbrev pub may_be : ℕ → FormTree → Bool
may_be n (names l m) = n == 1
may_be n _ = not (n == 1)

-- the n-th form of a file, before which so many `fun`s stand, has a tree
pub record HasTree (n funs : ℕ) (form : List Placed) : Type 0 where
  pub tree : FormTree
  pub may_be : may_be n tree ≡ true
  pub reads : ReadsForm (places funs form) tree

-- how many `fun`s of functions stand before what comes behind this form
abbrev pub funs_past : ℕ → List Placed → FormTree → ℕ
funs_past funs form (defines f) = funs_behind funs form
funs_past funs form _ = funs

-- `FirstBad n funs forms k l`: among forms of which the first is the n-th of its file, the first that has no tree is
-- the k-th of the file, and its first token is on line l
pub data FirstBad : ℕ → ℕ → List (List Placed) → ℕ → ℕ → Type 0 where
  bad_here : {n funs : ℕ} {form : List Placed} {forms : List (List Placed)} → (HasTree n funs form → ⊥)
      → FirstBad n funs (form ∷ forms) n (line_at (places funs form))
  bad_later : {n funs k l : ℕ} {form : List Placed} {forms : List (List Placed)} (good : HasTree n funs form)
      → FirstBad (n + 1) (funs_past funs form good.tree) forms k l → FirstBad n funs (form ∷ forms) k l

-- the file's fault: a file without tokens has it at form 1, line 1
abbrev pub IsFault : List Placed → ℕ → ℕ → Type 0
IsFault tokens form line = ((tokens ≡ []) × (form ≡ 1) × (line ≡ 1)) ⊎ FirstBad 1 0 (forms_of tokens) form line

-- the fault of tokens that are no literal term: form 1, on the line of the first token, or line 1 where there is none
abbrev pub term_fault_line : List Placed → ℕ
term_fault_line tokens = line_at (places 0 tokens)
