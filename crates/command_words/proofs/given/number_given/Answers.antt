-- A value is given, it is a number, and lies in the range.
use Rattle.std.proofs.Common.{arith, ap, subst, sym, ◌∙◌, option_map}
use Rattle.std.specs.Borrow.{Bor}
use Rattle.clap.specs.Words.{Text, found_of, rows_of}
use Rattle.clap.proofs.WalkLemmas.{first_value-rows}
use Rattle.line_words.specs.Numbers.{IsLongNumber}
use Rattle.command_words.proofs.GivenLemmas.{no_value, no_number, no_such_number, a_number}
use Rattle.command_words.proofs.given.number_given.Goals as goal

pub returns-in-None : goal.returns-in-None
returns-in-None c = no_value c.args.least c.args.most c.args.name.now (rows_of (found_of c.args.given.now))
    (sym (first_value-rows (found_of c.args.given.now) c.args.name.now) ∙ sym c.get_str.ensures ∙ ap (option_map (λ (s : Bor Text). s.now)) c.in-None.is)

pub returns-in-None-long_number : goal.returns-in-None-long_number
returns-in-None-long_number c =
    no_number c.args.least c.args.most c.args.name.now (rows_of (found_of c.args.given.now)) c.in-Some.text.now
    (sym (first_value-rows (found_of c.args.given.now) c.args.name.now) ∙ sym c.get_str.ensures ∙ ap (option_map (λ (s : Bor Text). s.now)) c.in-Some.is)
    (λ n says. c.in-None-long_number.ensures.found n (subst (λ t. IsLongNumber t n) (sym c.as_bytes.ensures.value) says))

pub returns-then-number-least : goal.returns-then-number-least
returns-then-number-least c =
    no_such_number c.args.least c.args.most c.args.name.now (rows_of (found_of c.args.given.now)) c.in-Some.text.now
    (sym (first_value-rows (found_of c.args.given.now) c.args.name.now) ∙ sym c.get_str.ensures ∙ ap (option_map (λ (s : Bor Text). s.now)) c.in-Some.is)
    c.in-Some-long_number.number c.long_number.result (λ n says. c.long_number.ensures.only n (subst (λ t. IsLongNumber t n) (sym c.as_bytes.ensures.value) says)) c.in-Some-long_number.is
    (λ low high. omega (arith, c.if-number-least.true, low))

pub returns-then-number-most : goal.returns-then-number-most
returns-then-number-most c =
    a_number c.args.least c.args.most c.args.name.now (rows_of (found_of c.args.given.now)) c.in-Some.text.now
    (sym (first_value-rows (found_of c.args.given.now) c.args.name.now) ∙ sym c.get_str.ensures ∙ ap (option_map (λ (s : Bor Text). s.now)) c.in-Some.is)
    c.in-Some-long_number.number (subst (λ t. IsLongNumber t c.in-Some-long_number.number) c.as_bytes.ensures.value c.in-Some-long_number.ensures.found) c.if-number-least.false c.if-number-most.true

pub returns-else-number-most : goal.returns-else-number-most
returns-else-number-most c =
    no_such_number c.args.least c.args.most c.args.name.now (rows_of (found_of c.args.given.now)) c.in-Some.text.now
    (sym (first_value-rows (found_of c.args.given.now) c.args.name.now) ∙ sym c.get_str.ensures ∙ ap (option_map (λ (s : Bor Text). s.now)) c.in-Some.is)
    c.in-Some-long_number.number c.long_number.result (λ n says. c.long_number.ensures.only n (subst (λ t. IsLongNumber t n) (sym c.as_bytes.ensures.value) says)) c.in-Some-long_number.is
    (λ low high. omega (arith, c.if-number-most.false, high))
