-- Operands, and what is called, are read again from their layout, in parentheses or not.

use Rattle.std.proofs.Common.{◌≡◌, ℕ, zero, suc, ◌+◌, ◌<◌, ◌≤◌, Bool, true, false, List, ◌∷◌, ◌++◌, Some, refl, sym, ◌∙◌, subst, arith}
use Rattle.edb_scan.specs.declared.lexeme.Mark.{Mark}
use Rattle.edb_syntax.specs.Depths.{depth}
use Rattle.edb_syntax.specs.Forms.{call, binary, send}
use Rattle.edb_syntax.specs.Syntax.{Exp, Exps, and_also, or_else}
use Rattle.edb_grammar.specs.Toks.{Place, Tok, word, line_at}
use Rattle.edb_grammar.specs.Operators.{Infix, strict, andalso, orelse, sends, infix_of, between, level}
use Rattle.edb_grammar.specs.Expressions.{Reads, r_parentheses, r_infix}
use Rattle.edb_print.specs.Pieces.{Gap, tight, blank, Piece, sign}
use Rattle.edb_print.specs.Layout.{is_operator, is_open, grouped, lay}
use Rattle.edb_print.specs.Unlined.{unlined, unlined_all}
use Rattle.edb_print.proofs.Reread.{Reread, Twin, swap, join, mapped, wrapped}
use Rattle.edb_print.proofs.Outer.{outer, low, lowest, unlined_call, infix_no_fun, left_takes, right_takes}

-- there is room in b brackets for an expression so deep: each node opens two at most
abbrev pub Room : ℕ → ℕ → Type 0
Room n b = n + n < b

-- an expression is read again wherever there is room for it
abbrev pub AgainAt : ℕ → Exp → List Tok → Type 0
AgainAt d e ts = (b : ℕ) (g : Gap) → Room (depth e) b → Reread (Twin (Reads b (outer e)) unlined e) (lay g d e) ts

-- an expression that is no looser than a call
pub record Operand (b : ℕ) (e : Exp) (us : List Tok) : Type 0 where
  pub level : ℕ
  pub tightly : level ≤ 1
  pub twin : Twin (Reads b level) unlined e us

pub operand : (e : Exp) (d : ℕ) (ts : List Tok) → AgainAt d e ts → (b : ℕ) (g : Gap) → depth e + depth e + 1 < b
    → Reread (Operand b e) (grouped (is_operator e) (λ h. lay h d e) g) ts
operand e d ts again zero g room = absurd (omega (arith, room))
operand e d ts again (suc b) g room = by (is_operator e) refl
  where
    by : (x : Bool) → is_operator e ≡ x → Reread (Operand (suc b) e) (grouped x (λ h. lay h d e) g) ts
    by true h = wrapped (λ o c us a. record {
      level = 0;
      tightly = omega arith;
      twin = record { tree = a.tree; reads = r_parentheses o c a.reads; same = a.same };
    }) (again b tight (omega (arith, room)))
    by false h = mapped (λ us a. record { level = outer e; tightly = low e h; twin = a }) (again (suc b) g (omega (arith, room)))

pub called : (e : Exp) (d : ℕ) (ts : List Tok) → AgainAt d e ts → (b : ℕ) (g : Gap) → depth e + depth e + 1 < b
    → Reread (Twin (Reads b 0) unlined e) (grouped (is_open e) (λ h. lay h d e) g) ts
called e d ts again zero g room = absurd (omega (arith, room))
called e d ts again (suc b) g room = by (is_open e) refl
  where
    by : (x : Bool) → is_open e ≡ x → Reread (Twin (Reads (suc b) 0) unlined e) (grouped x (λ h. lay h d e) g) ts
    by true h = wrapped (λ o c us a. record { tree = a.tree; reads = r_parentheses o c a.reads; same = a.same }) (again b tight (omega (arith, room)))
    by false h = mapped (λ us a. record { tree = a.tree; reads = subst (λ k. Reads (suc b) k us a.tree) (lowest e h) a.reads; same = a.same })
        (again (suc b) g (omega (arith, room)))

between_same : (o : Infix) (k l : ℕ) (a b c e : Exp) → unlined a ≡ unlined c → unlined b ≡ unlined e → unlined (between k o a b) ≡ unlined (between l o c e)
between_same (strict o) k l a b c e h j = λ i. binary 0 o (h i) (j i)
between_same andalso k l a b c e h j = λ i. and_also 0 (h i) (j i)
between_same orelse k l a b c e h j = λ i. or_else 0 (h i) (j i)
between_same sends k l a b c e h j = λ i. send 0 (h i) (j i)

-- an operator between operands, if its own mark stands for it
pub infix_between : {b : ℕ} {a c : Exp} {ps qs : List Piece} {ts us : List Tok} (x y : Mark) (o : Infix) (s : Place) (l : ℕ)
    → infix_of x ≡ Some o → infix_of y ≡ Some o → Reread (Operand b a) ps ts → Reread (Operand b c) qs us
    → Reread (Twin (Reads b (level o)) unlined (between l o a c)) (ps ++ sign blank y ∷ qs) (ts ++ word s x ∷ us)
infix_between {a} {c} x y o s l h j ra rc =
    join ra (λ vs p. swap refl (λ n. infix_no_fun y o j n ∙ sym (infix_no_fun x o h n)) (λ w. tt) (λ q. mapped (λ ws r. record {
      tree = between (line_at vs) o p.twin.tree r.twin.tree;
      reads =
          let i = left_takes o in let k = right_takes o in let m = p.tightly in let n = r.tightly in
          r_infix y o q j (omega (arith, i, m)) (omega (arith, k, n)) p.twin.reads r.twin.reads;
      same = between_same o (line_at vs) l p.twin.tree r.twin.tree a c p.twin.same r.twin.same;
    }) rc))

-- a call of what is the same but for lines
pub call_same : (k l : ℕ) (f h : Exp) (es fs : Exps) → unlined f ≡ unlined h → unlined_all es ≡ unlined_all fs
    → unlined (call k f es) ≡ unlined (call l h fs)
call_same k l f h es fs i j = unlined_call k f es ∙ (λ x. call 0 (i x) (j x)) ∙ sym (unlined_call l h fs)
