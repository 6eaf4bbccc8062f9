use Rattle.edb_scan.specs.Spellings.{IsWord}
use Rattle.edb_scan.proofs.NameLemmas.{word_found, atom_found, atom_too_long}
use Rattle.edb_scan.proofs.words.word.Goals as goal

pub returns-then-text-gt-LONGEST_ATOM : goal.returns-then-text-gt-LONGEST_ATOM
unfolding IsWord
returns-then-text-gt-LONGEST_ATOM c =
    atom_too_long c.args.bytes.now c.split_name.result.0.now c.split_name.result.1.now c.requires c.split_name.ensures c.in-None.ensures c.if-text-gt-LONGEST_ATOM.true

pub returns-in-Some : goal.returns-in-Some
unfolding IsWord
returns-in-Some c =
    word_found c.args.bytes.now c.split_name.result.0.now c.split_name.result.1.now c.in-Some.mark c.requires c.split_name.ensures c.in-Some.ensures

pub returns-in_ok-name-in-None : goal.returns-in_ok-name-in-None
unfolding IsWord
returns-in_ok-name-in-None c =
    rw c.in_ok-name-in-None.ensures
    (atom_found c.args.bytes.now c.split_name.result.0.now c.split_name.result.1.now c.requires c.split_name.ensures c.in-None.ensures c.if-text-gt-LONGEST_ATOM.false)
