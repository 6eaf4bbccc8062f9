use Rattle.std.proofs.Common.{◌+◌, ap, arith, sym, subst}
use Rattle.edb_lang.specs.Syntax.{ModuleTree}
use Rattle.edb_small.specs.SmallModule.{IsModule}
use Rattle.edb_session.specs.Reading.{IsNoModule}
use Rattle.edb_session.proofs.ModuleLists.{count_more, modules_next, refused_at}
use Rattle.edb_session.proofs.top.read_modules.Goals as goal

pub returns-in-Ok-None-clause-err : goal.returns-in-Ok-None-clause-err
returns-in-Ok-None-clause-err c =
    let bad : IsNoModule c.text-item.result = rw c.in-Ok-None.field-0-is at c.in-Ok-None.ensures in
    refused_at c.args.texts.now c.loop-text.text-index c.loop-text.file c.text-item.result c.loop-text.code c.module_refused.result c.loop-text.invariant.modules (omega arith) c.text-item.is
    c.loop-text.invariant.number bad c.module_refused.ensures

pub loop-text-preserved : goal.loop-text-preserved
loop-text-preserved c =
    let is : IsModule c.text-item.result c.in-Ok-Some.module = rw c.in-Ok-Some.field-0-is at c.in-Ok-Some.ensures in
    record {
      modules = modules_next c.args.texts.now c.loop-text.text-index c.text-item.result c.loop-text.code c.add.new.self c.new.result c.loop-text.invariant.modules (omega arith)
          c.text-item.is (subst (λ (m : ModuleTree). IsModule c.text-item.result m) (sym c.new.ensures) is) c.in-Ok.ensures.ok.0;
      count = count_more c.loop-text.code c.add.new.self c.new.result c.loop-text.text-index c.in-Ok.ensures.ok.0 c.loop-text.invariant.count;
      number = ap (λ n. n + 1) c.loop-text.invariant.number;
    }
