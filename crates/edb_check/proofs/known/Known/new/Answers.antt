use Rattle.std.proofs.Common.{◌≡◌, ◌+◌, ◌++◌, ◌∷◌, [], ◌∙◌, not, sym, ap, subst, take, arith}
use Rattle.std.proofs.Math.Bool.{not-not}
use Rattle.std.specs.BTreeSet.{contains}
use Rattle.edb_check.specs.declared.fault.CheckKind.TheVariants.{Duplicate}
use Rattle.edb_check.specs.Faults.{fault_if}
use Rattle.edb_check.specs.Functions.{key_of, keys_of, is_defined}
use Rattle.edb_check.specs.Kept.{CodeKey, Kept, code_cmp}
use Rattle.edb_check.specs.Walking.{Walks, only}
use Rattle.edb_check.proofs.Keys.{kept_more}
use Rattle.edb_check.proofs.Duplicates.{keys_more, duplicate_told}
use Rattle.edb_check.proofs.known.Known.new.Goals as goal

pub loop-function-preserved : goal.loop-function-preserved
loop-function-preserved c =
    let fs = c.args.functions.now in
    let i = c.loop-function.function-index in
    let f = c.function-item.result in
    let k : CodeKey = (c.as_str.result, c.function.inside.arity) in
    let key : (k.0.now, k.1) ≡ key_of f = ap (λ (x : _). (x, k.1)) c.as_str.ensures ∙ ap key_of c.function.view_is in
    let before = keys_of (take i fs) in
    let again : not c.in_ok-is_new.is_new ≡ is_defined before (key_of f) =
    ap not c.in_ok-is_new.ensures.added ∙ not-not (contains code_cmp c.loop-function.keys k) ∙ c.loop-function.invariant.kept k ∙ ap (is_defined before) key in
    let told = subst (λ l. Walks c.loop-function.walk c.report_if.new.self (only (fault_if (not c.in_ok-is_new.is_new) l Duplicate))) (ap (λ g. g.line) c.function.view_is) c.report_if.ensures in
    let more : before ++ (k.0.now, k.1) ∷ [] ≡ keys_of (take (i + 1) fs) = ap (λ q. before ++ q ∷ []) key ∙ sym (keys_more fs i f c.function-item.is (omega arith)) in
    record {
      kept = subst (Kept c.insert.new.self) more (kept_more c.loop-function.keys c.insert.new.self before k c.in_ok-is_new.ensures.updates c.loop-function.invariant.kept);
      goes = duplicate_told fs i f c.function-item.is (omega arith) (not c.in_ok-is_new.is_new) again told c.loop-function.invariant.goes;
    }
