-- Calls that are run, calls that aren't run yet, and what the tables of built-ins have.

use Rattle.std.proofs.Common.{◌≡◌, true, false, [], ◌∷◌, codes, filter, refl}
use Rattle.std.specs.List.{list_any, list_all}
use Rattle.edb_table.specs.BuiltIns.{within, built_ins, erlang_keys, int_keys, io_keys, lists_keys}
use Rattle.edb_table.specs.Marking.{named_keys, guard_keys, act_keys}
use Rattle.edb_notyet.specs.Calls.{built_in_is_beyond}
use Rattle.edb_notyet.proofs.RowForms.{num, word, var, local, remote, named, beyond}

calls_run :
    list_any beyond
    (
    -- a function of the module, also one with the name and arity of a built-in: `f(X)`, `link(X)`
    local "f" (var "X" ∷ [])
    ∷ local "link" (var "X" ∷ [])
    -- built-ins that only compute: `self()`, `hd(X)`, `lists:sum(X)`
    ∷ local "self" []
    ∷ local "hd" (var "X" ∷ [])
    ∷ named "lists" "sum" (var "X" ∷ [])
    -- what raises: `error(X)`, `exit(X)`, `throw(X)`
    ∷ local "error" (var "X" ∷ [])
    ∷ local "exit" (var "X" ∷ [])
    ∷ local "throw" (var "X" ∷ [])
    -- `erlang:display(X)`
    ∷ named "erlang" "display" (var "X" ∷ [])
    -- a function of another module, whatever its name: `n:spawn(X)`
    ∷ named "n" "spawn" (var "X" ∷ [])
    -- what names nothing: `send(X, 1)` needs its module, and `spawn(X, 1)` is no built-in
    ∷ local "send" (var "X" ∷ num 1 ∷ [])
    ∷ local "spawn" (var "X" ∷ num 1 ∷ [])
    -- what prints: `io:format(X)`, `io:format(X, X)`
    ∷ named "io" "format" (var "X" ∷ [])
    ∷ named "io" "format" (var "X" ∷ var "X" ∷ [])
    -- `apply(X, X)`, `apply(m, f, X)`, `erlang:apply(X, X)`
    ∷ local "apply" (var "X" ∷ var "X" ∷ [])
    ∷ local "apply" (word "m" ∷ word "f" ∷ var "X" ∷ [])
    ∷ named "erlang" "apply" (var "X" ∷ var "X" ∷ [])
    -- a module or a name that isn't written as an atom isn't looked at: `X:f(1)`, `m:X(1)`
    ∷ remote (var "X") (word "f") (num 1 ∷ [])
    ∷ remote (word "m") (var "X") (num 1 ∷ [])
    ∷ []
    )
    ≡ false
unfolding erlang_keys io_keys named_keys act_keys
calls_run = refl

calls_beyond :
    list_all beyond
    (
    -- acts on what processes share: `spawn(X)`, `exit(X, a)`, `erlang:send(X, 1)`; a module's own `link` isn't meant
    -- where `erlang` is written
    local "spawn" (var "X" ∷ [])
    ∷ local "exit" (var "X" ∷ word "a" ∷ [])
    ∷ named "erlang" "send" (var "X" ∷ num 1 ∷ [])
    ∷ named "erlang" "link" (var "X" ∷ [])
    ∷ []
    )
    ≡ true
unfolding erlang_keys io_keys named_keys act_keys
calls_beyond = refl

-- All built-ins that aren't run yet.
built_ins_beyond :
    filter built_in_is_beyond built_ins
    ≡ (codes "erlang", (codes "demonitor", 1)) ∷ (codes "erlang", (codes "demonitor", 2))
    ∷ (codes "erlang", (codes "exit", 2)) ∷ (codes "erlang", (codes "is_process_alive", 1))
    ∷ (codes "erlang", (codes "link", 1)) ∷ (codes "erlang", (codes "make_ref", 0))
    ∷ (codes "erlang", (codes "monitor", 2)) ∷ (codes "erlang", (codes "process_flag", 2))
    ∷ (codes "erlang", (codes "register", 2)) ∷ (codes "erlang", (codes "send", 2))
    ∷ (codes "erlang", (codes "spawn", 1)) ∷ (codes "erlang", (codes "spawn", 3))
    ∷ (codes "erlang", (codes "spawn_link", 1)) ∷ (codes "erlang", (codes "spawn_link", 3))
    ∷ (codes "erlang", (codes "unlink", 1)) ∷ (codes "erlang", (codes "unregister", 1))
    ∷ (codes "erlang", (codes "whereis", 1)) ∷ []
unfolding erlang_keys int_keys io_keys lists_keys act_keys
built_ins_beyond = refl

-- No built-in that may stand in a guard is one of them.
guard_tests_run : list_any built_in_is_beyond (within (codes "erlang") guard_keys) ≡ false
unfolding io_keys guard_keys act_keys
guard_tests_run = refl
