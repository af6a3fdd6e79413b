-- The first line ends where that of the bytes does that were not passed.
use Rattle.std.proofs.Common.{◌+◌, ◌-◌, length, take, drop, refl}
use Rattle.std.proofs.lemmas.List.{take_rest}
use Rattle.client_session.proofs.LineLemmas.{first_after, none_after}
use Rattle.client_session.proofs.inbox.first_line.Goals as goal

pub returns-in-empty : goal.returns-in-empty
returns-in-empty c =
    none_after c.args.bytes.now _ c.split_word.result.0.now c.split_word.result.1.now c.args.passed c.requires (take_rest c.args.bytes.now c.args.passed)
    c.split_word.ensures.parts c.split_word.ensures.one_word c.in-empty.len_below

pub returns-in-len1-up : goal.returns-in-len1-up
returns-in-len1-up c =
    let word = c.split_word.result.0.now in
    let rest = c.split_word.result.1.now in
    first_after c.args.bytes.now _ word rest (take (c.args.passed + length word) c.args.bytes.now) (take (length rest - 1) (drop 1 rest)) c.args.passed
    c.requires (take_rest c.args.bytes.now c.args.passed) c.split_word.ensures.parts c.split_word.ensures.one_word c.split_word.ensures.only
    c.in-len1-up.len_at_least refl refl
