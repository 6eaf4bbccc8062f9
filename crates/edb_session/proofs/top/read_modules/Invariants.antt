use Rattle.std.proofs.Common.{◌≡◌, length, take}
use Rattle.edb_session.specs.Reading.{AreModules}
use Rattle.edb_session.proofs.top.read_modules.Given as goal

-- the texts so far are modules
abbrev pub invariant-loop-text : goal.invariant-loop-text
invariant-loop-text l = record {
  modules : AreModules (take l.text-index l.texts) l.code;
  count : length l.code ≡ l.text-index;
  number : l.file ≡ l.text-index;
}
