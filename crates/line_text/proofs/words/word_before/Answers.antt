-- The literal stands after the first word.
use Rattle.std.proofs.Common.{◌++◌, sym, ◌∙◌}
use Rattle.std.proofs.lemmas.List.{append_cancel_left}
use Rattle.line_text.proofs.WordLemmas.{ends_word-append}
use Rattle.line_text.proofs.words.word_before.Goals as goal

pub returns-in_err-rest-clause-only : goal.returns-in_err-rest-clause-only
returns-in_err-rest-clause-only c word rest h same =
    let literal = c.args.literal.now in
    let parts = c.split_word.ensures.only word (literal ++ rest) h (ends_word-append 32 literal rest c.requires) same in
    absurd (c.in_err-rest.ensures rest parts.1)

pub returns-clause-only : goal.returns-clause-only
returns-clause-only c word rest h same =
    let literal = c.args.literal.now in
    let parts = c.split_word.ensures.only word (literal ++ rest) h (ends_word-append 32 literal rest c.requires) same in
    (parts.0, append_cancel_left literal c.in_ok-rest.rest.now rest (sym c.in_ok-rest.ensures ∙ parts.1))
