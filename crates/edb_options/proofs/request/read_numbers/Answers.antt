use Rattle.std.proofs.Common.{◌∙◌, sym}
use Rattle.edb_options.proofs.Getters.{all_numbers, flag_read, hands_read, moves_read, no_hands, no_moves, no_slice, slice_read}
use Rattle.clap.specs.Matches.{found_of}
use Rattle.edb_options.proofs.request.read_numbers.Goals as goal

pub returns-in_err-_hands-clause-options : goal.returns-in_err-_hands-clause-options
returns-in_err-_hands-clause-options c = λ g holds.
    let f = found_of c.args.matches.now in
    c.from_residual.ensures ∙ sym (no_hands f g holds c.number_or.result (hands_read f g holds c.number_or.result c.get_str.result c.number_or.ensures.number c.get_str.ensures) c.in_err-_hands.was)

pub returns-in_err-slice-clause-options : goal.returns-in_err-slice-clause-options
returns-in_err-slice-clause-options c = λ g holds.
    let f = found_of c.args.matches.now in
    c.from_residual-in_err-slice.ensures ∙ sym (no_slice f g holds c.number_or.result c.number_or-2.result c.in_ok-_hands._hands
    (hands_read f g holds c.number_or.result c.get_str.result c.number_or.ensures.number c.get_str.ensures) c.in_ok-_hands.was
    (slice_read f g holds c.number_or-2.result c.get_str-2.result c.number_or-2.ensures.number c.get_str-2.ensures) c.in_err-slice.was)

pub returns-in_err-moves-clause-options : goal.returns-in_err-moves-clause-options
returns-in_err-moves-clause-options c = λ g holds.
    let f = found_of c.args.matches.now in
    c.from_residual-in_err-moves.ensures ∙ sym (no_moves f g holds c.number_or.result c.number_or-2.result c.number_or-3.result c.in_ok-_hands._hands c.in_ok-slice.slice
    (hands_read f g holds c.number_or.result c.get_str.result c.number_or.ensures.number c.get_str.ensures) c.in_ok-_hands.was
    (slice_read f g holds c.number_or-2.result c.get_str-2.result c.number_or-2.ensures.number c.get_str-2.ensures) c.in_ok-slice.was
    (moves_read f g holds c.number_or-3.result c.get_str-3.result c.number_or-3.ensures.number c.get_str-3.ensures) c.in_err-moves.was)

pub returns-clause-options : goal.returns-clause-options
returns-clause-options c = λ g holds.
    let f = found_of c.args.matches.now in
    sym (all_numbers f g holds c.number_or.result c.number_or-2.result c.number_or-3.result c.in_ok-_hands._hands c.in_ok-slice.slice c.in_ok-moves.moves c.get_flag-journal.result
    (hands_read f g holds c.number_or.result c.get_str.result c.number_or.ensures.number c.get_str.ensures) c.in_ok-_hands.was
    (slice_read f g holds c.number_or-2.result c.get_str-2.result c.number_or-2.ensures.number c.get_str-2.ensures) c.in_ok-slice.was
    (moves_read f g holds c.number_or-3.result c.get_str-3.result c.number_or-3.ensures.number c.get_str-3.ensures) c.in_ok-moves.was
    (flag_read f g holds c.get_flag-journal.result c.get_flag-journal.ensures.value c.get_flag-journal.ensures.other))
