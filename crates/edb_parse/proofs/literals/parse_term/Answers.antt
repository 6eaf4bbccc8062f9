use Rattle.std.proofs.Common.{◌≡◌, arith, length, List, Some, Ok, refl, ap, sym, ◌∙◌}
use Rattle.edb_scan.specs.declared.lexeme.Placed.{Placed}
use Rattle.edb_lang.specs.Terms.{Datum}
use Rattle.edb_grammar.specs.Toks.{places, line_at}
use Rattle.edb_grammar.specs.Literals.{IsLiteral}
use Rattle.edb_grammar.specs.LiteralReading.{read_literal}
use Rattle.edb_grammar.proofs.Parts.{some_is, none_no}
use Rattle.edb_grammar.proofs.LiteralComplete.{literal_sound, literal_complete}
use Rattle.edb_parse.proofs.LiteralTies.{refused}
use Rattle.edb_parse.proofs.literals.parse_term.Goals as goal

pub literal-requires : goal.literal-requires
literal-requires c =
    let e = ap length c.as_slice.ensures in
    record { fits = omega (arith, e, c.len-count.ensures.counted, c.if-prove.false) }

pub first_line-line-requires : goal.first_line-line-requires
first_line-line-requires c =
    let e = ap length c.as_slice.ensures in
    record { fits = omega (arith, e, c.len-count.ensures.counted, c.if-prove.false) }

pub returns-in-Ok-clause-sound : goal.returns-in-Ok-clause-sound
returns-in-Ok-clause-sound c =
    literal_sound c.args.tokens.now c.in-Ok.term (ap (λ (ts : List Placed). read_literal (places 0 ts)) (sym c.as_slice.ensures) ∙ c.in-Ok.ensures.gives)

pub returns-in-Ok-clause-complete : goal.returns-in-Ok-clause-complete
returns-in-Ok-clause-complete c t r =
    let e = ap (λ (ts : List Placed). read_literal (places 0 ts)) c.as_slice.ensures ∙ literal_complete c.args.tokens.now t r in
    ap Ok (some_is c.in-Ok.term t (sym c.in-Ok.ensures.gives ∙ e))

pub returns-in-Err-Refused-clause-sound : goal.returns-in-Err-Refused-clause-sound
returns-in-Err-Refused-clause-sound c =
    let read = read_literal (places 0 c.as_slice.result.now) in
    let e : (t : Datum) → IsLiteral c.args.tokens.now t → read ≡ Some t = λ t r. ap (λ (ts : List Placed). read_literal (places 0 ts)) c.as_slice.ensures ∙ literal_complete c.args.tokens.now t r in
    let none = refused c.in-Err-Refused.field-0 read c.in-Err-Refused.field-0-is c.in-Err-Refused.ensures.gives in
    ((λ t r. none_no t (sym none ∙ e t r)), refl, c.first_line-line.ensures ∙ ap (λ (ts : List Placed). line_at (places 0 ts)) c.as_slice.ensures)

pub returns-in-Err-Refused-clause-complete : goal.returns-in-Err-Refused-clause-complete
returns-in-Err-Refused-clause-complete c t r =
    let read = read_literal (places 0 c.as_slice.result.now) in
    let none = refused c.in-Err-Refused.field-0 read c.in-Err-Refused.field-0-is c.in-Err-Refused.ensures.gives in
    absurd (none_no t (sym none ∙ (ap (λ (ts : List Placed). read_literal (places 0 ts)) c.as_slice.ensures ∙ literal_complete c.args.tokens.now t r)))
