use Rattle.std.proofs.Common.{sym, ap, length, arith}
use Rattle.edb_grammar.proofs.FileComplete.{file_sound, fault_sound, one_module, one_fault, never_both}
use Rattle.edb_parse.proofs.top.parse.Goals as goal

pub read_module-requires : goal.read_module-requires
read_module-requires c = record {
  some = omega (arith, c.len.ensures.counted, ap length c.as_slice.ensures, c.if-len-eq0.false);
  few = omega (arith, c.len.ensures.counted, ap length c.as_slice.ensures, c.len.ensures.few);
}

pub returns-in-Ok-clause-sound : goal.returns-in-Ok-clause-sound
returns-in-Ok-clause-sound c = file_sound c.args.tokens.now c.in-Ok.module (rw (sym c.as_slice.ensures) c.in-Ok.ensures)

pub returns-in-Ok-clause-complete : goal.returns-in-Ok-clause-complete
returns-in-Ok-clause-complete c m reads = one_module c.args.tokens.now c.in-Ok.module m (file_sound c.args.tokens.now c.in-Ok.module (rw (sym c.as_slice.ensures) c.in-Ok.ensures)) reads

pub returns-in-Ok-clause-refused : goal.returns-in-Ok-clause-refused
returns-in-Ok-clause-refused c k l fault = never_both c.args.tokens.now c.in-Ok.module k l (file_sound c.args.tokens.now c.in-Ok.module (rw (sym c.as_slice.ensures) c.in-Ok.ensures)) fault

pub returns-in-Err-Fault-clause-sound : goal.returns-in-Err-Fault-clause-sound
returns-in-Err-Fault-clause-sound c = fault_sound c.args.tokens.now c.in-Err-Fault.fault.form c.in-Err-Fault.fault.line (rw (sym c.as_slice.ensures) (rw c.in-Err-Fault.field-0-is at c.in-Err-Fault.ensures))

pub returns-in-Err-Fault-clause-complete : goal.returns-in-Err-Fault-clause-complete
returns-in-Err-Fault-clause-complete c m reads =
    never_both c.args.tokens.now m c.in-Err-Fault.fault.form c.in-Err-Fault.fault.line reads
    (fault_sound c.args.tokens.now c.in-Err-Fault.fault.form c.in-Err-Fault.fault.line (rw (sym c.as_slice.ensures) (rw c.in-Err-Fault.field-0-is at c.in-Err-Fault.ensures)))

pub returns-in-Err-Fault-clause-refused : goal.returns-in-Err-Fault-clause-refused
returns-in-Err-Fault-clause-refused c k l fault =
    one_fault c.args.tokens.now c.in-Err-Fault.fault.form c.in-Err-Fault.fault.line k l
    (fault_sound c.args.tokens.now c.in-Err-Fault.fault.form c.in-Err-Fault.fault.line (rw (sym c.as_slice.ensures) (rw c.in-Err-Fault.field-0-is at c.in-Err-Fault.ensures))) fault
