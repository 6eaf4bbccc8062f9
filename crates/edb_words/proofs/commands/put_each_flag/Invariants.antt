use Rattle.std.proofs.Common.{◌≡◌, ◌++◌, drop, map}
use Rattle.edb_words.specs.Words.{flag_word, after_spaces}
use Rattle.edb_words.proofs.commands.put_each_flag.Given as goal

-- what was put and what is left are all
abbrev pub invariant-loop-flag : goal.invariant-loop-flag
invariant-loop-flag l =
    l.out.items ++ after_spaces (map flag_word (drop l.flag-index l.flags))
    ≡ l.fn.out.items ++ after_spaces (map flag_word l.flags)
