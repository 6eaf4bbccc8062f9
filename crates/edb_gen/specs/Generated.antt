-- The generated run: a module that is always the same, and a script for a number of workers.

use Rattle.std.specs.Prelude.{◌≡◌, ℕ, List, ◌++◌, codes, refl}
use Rattle.std.specs.Fmt.{decimal, digits}
use Rattle.std.specs.List.{repeat}

-- The module: `main(N)` spawns N workers, tells worker I the number I, and adds up what they answer; a worker answers
-- with the square of its number, at line 14.
unfoldable pub module_text : List ℕ
module_text =
    codes "-module(gen).\n-export([main/1, work/1]).\n"
    ++ codes "main(N) ->\n    Me = self(),\n    tell([spawn(gen, work, [Me]) || _ <- lists:seq(1, N)], 1),\n    collect(N, 0).\n"
    ++ codes "tell([], _) -> ok;\ntell([P | Ps], I) ->\n    P ! {add, I},\n    tell(Ps, I + 1).\n"
    ++ codes "work(Boss) ->\n    receive\n        {add, I} ->\n            Boss ! {done, I * I}\n    end.\n"
    ++ codes "collect(0, Sum) -> Sum;\ncollect(N, Sum) ->\n    receive\n        {done, S} ->\n            collect(N - 1, Sum + S)\n    end.\n"

-- The script's first lines: the module is interpreted, a breakpoint set where each worker passes once, and the run started.
abbrev pub start_text : ℕ → List ℕ
start_text n = (codes "ii gen\nib gen 14\nstart gen main [" ++ decimal n) ++ codes "]\n"

-- The script: behind these each worker that stopped goes on, and the end of the first process is waited for.
unfoldable pub script_text : ℕ → List ℕ
script_text n = (start_text n ++ repeat n (codes "await any break\ncontinue *\n")) ++ codes "await $1 exit\n"

two_workers : script_text 2
    ≡ codes "ii gen\nib gen 14\nstart gen main [2]\nawait any break\ncontinue *\nawait any break\ncontinue *\nawait $1 exit\n"
unfolding digits script_text
two_workers = refl
