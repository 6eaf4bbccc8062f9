use Rattle.std.proofs.Common.{◌≡◌, ℕ, ◌+◌, List, ◌++◌, take, drop, Some, sym, ◌∙◌, ap, subst, Bool, append_assoc, arith}
use Rattle.std.specs.List.{flat_map}
use Rattle.edb_event.specs.declared.entry.Entry.{Entry}
use Rattle.edb_files.specs.Lines.{IsKeptOrSet}
use Rattle.edb_session.specs.Texts.{form_by}
use Rattle.edb_session.proofs.Pieces.{pieces_more, pieces_whole}
use Rattle.edb_session.proofs.render.write_pieces.Goals as goal

pub loop-entry-preserved : goal.loop-entry-preserved
loop-entry-preserved g c =
    let piece : Entry → List ℕ = (form_by c.args.as_journal).piece in
    let more : flat_map piece (take (c.loop-entry.entry-index + 1) c.args.entries.now) ≡ flat_map piece (take c.loop-entry.entry-index c.args.entries.now) ++ piece c.entry-item.result
    = pieces_more piece c.args.entries.now c.loop-entry.entry-index c.entry-item.result (omega arith) c.entry-item.is in
    record {
      written = λ had h. c.in-Ok.ensures.ok _ (c.loop-entry.invariant.written had h) ∙ ap Some (append_assoc had (flat_map piece (take c.loop-entry.entry-index c.args.entries.now)) (piece c.entry-item.result) ∙ ap (λ (t : List ℕ). had ++ t) (sym more));
      later = omega (arith, c.loop-entry.invariant.later, c.in-Ok.ensures.later);
      kept = c.in-Ok.ensures.kept ∙ c.loop-entry.invariant.kept;
    }

pub returns-in-Err-clause-part : goal.returns-in-Err-clause-part
returns-in-Err-clause-part g c = λ had h.
    let piece : Entry → List ℕ = (form_by c.args.as_journal).piece in
    let p = c.in-Err.ensures.part _ (c.loop-entry.invariant.written had h) in
    let front : List ℕ = flat_map piece (take c.loop-entry.entry-index c.args.entries.now) in
    let last : List ℕ = flat_map piece (drop (c.loop-entry.entry-index + 1) c.args.entries.now) in
    let whole : (front ++ piece c.entry-item.result) ++ last ≡ flat_map piece c.args.entries.now
    = pieces_whole piece c.args.entries.now c.loop-entry.entry-index c.entry-item.result (omega arith) c.entry-item.is in
    let parts : (front ++ p.0) ++ (p.1.0 ++ last) ≡ (front ++ piece c.entry-item.result) ++ last
    = sym (append_assoc (front ++ p.0) p.1.0 last)
    ∙ ap (λ (t : List ℕ). t ++ last) (append_assoc front p.0 p.1.0 ∙ ap (λ (t : List ℕ). front ++ t) p.1.1) in
    (front ++ p.0, (p.1.0 ++ last, parts ∙ whole), p.2 ∙ ap Some (append_assoc had front p.0))

pub returns-in-Err-clause-either : goal.returns-in-Err-clause-either
returns-in-Err-clause-either g c = subst (λ (was : Bool). IsKeptOrSet was (g.S.Sink.flagged c.write_entry.new.sink)) c.loop-entry.invariant.kept c.in-Err.ensures.either
