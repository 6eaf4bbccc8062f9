-- What is run, what isn't run yet, and where it may stand.

use Rattle.std.proofs.Common.{◌≡◌, true, false, [], ◌∷◌, codes, None, refl}
use Rattle.std.specs.List.{list_any, list_all}
use Rattle.edb_table.specs.BuiltIns.{erlang_keys, io_keys}
use Rattle.edb_table.specs.Marking.{named_keys, act_keys}
use Rattle.edb_lang.specs.declared.operators.UnaryOp.TheVariants.{Minus}
use Rattle.edb_lang.specs.declared.operators.BinaryOp.TheVariants.{Add}
use Rattle.edb_syntax.specs.Syntax as syntax
use Rattle.edb_syntax.specs.Syntax.{exps_of, clauses_of, catches_of, qualifiers_of}
use Rattle.edb_syntax.specs.Forms as forms
use Rattle.edb_notyet.specs.Beyond.{is_beyond}
use Rattle.edb_notyet.proofs.RowForms.{num, word, var, tuple, local, named, fun_call, seq, pvar, clause, guarded, module_of, module_with, beyond}

-- What is run.
forms_run :
    list_any beyond
    (
    -- `1`, `a`, `"ab"`, `X`
    num 1 ∷ word "a" ∷ syntax.string 1 (codes "ab") ∷ var "X"
    -- `{X, 1}`, `[X]`, `[X | 1]`
    ∷ tuple (var "X" ∷ num 1 ∷ [])
    ∷ forms.list 1 (exps_of (var "X" ∷ []))
    ∷ forms.list_with_tail 1 (exps_of (var "X" ∷ [])) (num 1)
    -- `- X`, `X + 1`
    ∷ forms.unary 1 Minus (var "X")
    ∷ forms.binary 1 Add (var "X") (num 1)
    -- `X andalso a`, `X orelse a`, `Y = X`, `begin X, 1 end`
    ∷ syntax.and_also 1 (var "X") (word "a")
    ∷ syntax.or_else 1 (var "X") (word "a")
    ∷ syntax.match 1 (pvar "Y") (var "X")
    ∷ syntax.begin 1 (seq (var "X") (num 1 ∷ []))
    -- `case X of Y -> Y end`, `if true -> X end`
    ∷ syntax.case 1 (var "X") (clauses_of (clause (pvar "Y" ∷ []) (var "Y") ∷ []))
    ∷ syntax.if_clauses 1 (clauses_of (guarded [] (word "true") (var "X") ∷ []))
    -- `catch X`, `try X after 1 end`
    ∷ syntax.catch 1 (var "X")
    ∷ syntax.try 1 (seq (var "X") []) syntax.no_clauses syntax.no_catches (syntax.after (seq (num 1) []))
    -- `fun(Y) -> Y end`, `fun f/1`, `fun m:f/1`, `X(1)`
    ∷ syntax.fun_clauses 1 0 (clauses_of (clause (pvar "Y" ∷ []) (var "Y") ∷ []))
    ∷ syntax.fun_local 1 0 (codes "f") 1
    ∷ syntax.fun_remote 1 (codes "m") (codes "f") 1
    ∷ fun_call (var "X") (num 1 ∷ [])
    -- `[Y || Y <- X]`
    ∷ syntax.comprehension 1 (var "Y") (qualifiers_of (syntax.generator (pvar "Y") (var "X") ∷ []))
    ∷ []
    )
    ≡ false
unfolding erlang_keys io_keys named_keys act_keys
forms_run = refl

-- What isn't.
forms_beyond :
    list_all beyond
    (
    -- `receive Y -> Y end`, `receive after 1 -> X end`
    syntax.receive 1 (clauses_of (clause (pvar "Y" ∷ []) (var "Y") ∷ []))
    ∷ syntax.receive_after 1 syntax.no_clauses (num 1) (seq (var "X") [])
    -- `X ! 1`
    ∷ forms.send 1 (var "X") (num 1)
    -- `fun erlang:spawn/1`
    ∷ syntax.fun_remote 1 (codes "erlang") (codes "spawn") 1
    ∷ []
    )
    ≡ true
unfolding erlang_keys io_keys named_keys act_keys
forms_beyond = refl

-- `X ! 1` in each place where a part may stand.
parts_count :
    list_all beyond
    (let part = forms.send 1 (var "X") (num 1) in
    -- `{1, X ! 1}`, `1 + (X ! 1)`
    tuple (num 1 ∷ part ∷ [])
    ∷ forms.binary 1 Add (num 1) part
    -- on either side of `andalso` and of `orelse`
    ∷ syntax.and_also 1 part (word "a")
    ∷ syntax.and_also 1 (word "a") part
    ∷ syntax.or_else 1 part (word "a")
    ∷ syntax.or_else 1 (word "a") part
    -- `Y = X ! 1`, `begin X ! 1, 1 end`, `begin 1, X ! 1 end`
    ∷ syntax.match 1 (pvar "Y") part
    ∷ syntax.begin 1 (seq part (num 1 ∷ []))
    ∷ syntax.begin 1 (seq (num 1) (part ∷ []))
    -- what a `case` asks, and the body of its second clause
    ∷ syntax.case 1 part (clauses_of (clause (pvar "Y" ∷ []) (num 1) ∷ []))
    ∷ syntax.case 1 (num 1) (clauses_of (clause (pvar "Y" ∷ []) (num 1) ∷ clause (pvar "Y" ∷ []) part ∷ []))
    -- the body of a clause of an `if`
    ∷ syntax.if_clauses 1 (clauses_of (guarded [] (word "true") part ∷ []))
    -- `f(X ! 1)`, `lists:sum(X ! 1)`
    ∷ local "f" (part ∷ [])
    ∷ named "lists" "sum" (part ∷ [])
    -- what is tried, the body behind `of`, that behind `catch`, and that behind `after`
    ∷ syntax.catch 1 part
    ∷ syntax.try 1 (seq part []) syntax.no_clauses syntax.no_catches (syntax.after (seq (num 1) []))
    ∷ syntax.try 1 (seq (num 1) []) (clauses_of (clause (pvar "Y" ∷ []) part ∷ [])) syntax.no_catches syntax.no_after
    ∷ syntax.try 1 (seq (num 1) []) syntax.no_clauses (catches_of (syntax.catch_clause (pvar "C") (pvar "Y") None syntax.no_guard (seq part []) ∷ [])) syntax.no_after
    ∷ syntax.try 1 (seq (num 1) []) syntax.no_clauses syntax.no_catches (syntax.after (seq part []))
    -- the body of a fun, and the fun that is called
    ∷ syntax.fun_clauses 1 0 (clauses_of (clause (pvar "Y" ∷ []) part ∷ []))
    ∷ fun_call part []
    -- a comprehension's element, its generator's list, and its filter
    ∷ syntax.comprehension 1 part (qualifiers_of (syntax.generator (pvar "Y") (var "X") ∷ []))
    ∷ syntax.comprehension 1 (var "Y") (qualifiers_of (syntax.generator (pvar "Y") part ∷ []))
    ∷ syntax.comprehension 1 (num 1) (qualifiers_of (syntax.filter part ∷ []))
    ∷ []
    )
    ≡ true
unfolding erlang_keys io_keys named_keys act_keys
parts_count = refl

-- the second clause of a function
later_clause : is_beyond (module_of (clause (pvar "X" ∷ []) (num 1) ∷ clause (pvar "X" ∷ []) (forms.send 1 (var "X") (num 1)) ∷ [])) ≡ true
unfolding erlang_keys io_keys named_keys act_keys
later_clause = refl

-- the second function
later_function : is_beyond (module_with (clause (pvar "X" ∷ []) (num 1) ∷ []) (clause (pvar "X" ∷ []) (forms.send 1 (var "X") (num 1)) ∷ [])) ≡ true
unfolding erlang_keys io_keys named_keys act_keys
later_function = refl

-- Guards aren't looked at: `f(X) when X ! 1 -> 1.`
guards_left : is_beyond (module_of (guarded (pvar "X" ∷ []) (forms.send 1 (var "X") (num 1)) (num 1) ∷ [])) ≡ false
unfolding erlang_keys io_keys named_keys act_keys
guards_left = refl
