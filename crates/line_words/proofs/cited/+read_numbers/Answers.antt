-- The first number stands before the first comma, and the others after it.
use Rattle.std.proofs.Common.{sym, ◌∙◌}
use Rattle.std.proofs.lemmas.Result.{IfOk-weaker}
use Rattle.line_words.proofs.CitedLemmas.{first_of, no_first, alone_added, more_added, more_refused, none_joined}
use Rattle.line_words.proofs.cited.+read_numbers.Goals as goal

pub returns-in-None-clause-refused : goal.returns-in-None-clause-refused
returns-in-None-clause-refused t c none others joined few = no_first (first_of _ _ c.split_word.ensures.only joined) c.in-None.ensures.found

pub returns-in-Some-rest_after-clause-added : goal.returns-in-Some-rest_after-clause-added
returns-in-Some-rest_after-clause-added t c =
    IfOk-weaker c.read_numbers.result _ _ (λ all added h. more_added _ _ _ c.in-Some-rest_after.others.now c.in-Some.number _ _ _ c.split_word.ensures.parts c.in-Some-rest_after.ensures c.in-Some.ensures.found c.in_ok-push-in-Some.ensures.ok (added h)) c.read_numbers.ensures.added

pub returns-in-Some-rest_after-clause-refused : goal.returns-in-Some-rest_after-clause-refused
returns-in-Some-rest_after-clause-refused t c =
    IfOk-weaker c.read_numbers.result _ _ (λ all refused no others joined few. more_refused c.in-Some-rest_after.others.now c.in-Some.number _ _ (first_of _ _ c.split_word.ensures.only joined) c.in-Some-rest_after.ensures c.in_ok-push-in-Some.ensures.ok few (refused no)) c.read_numbers.ensures.refused

pub returns-in-None-rest_after-clause-added : goal.returns-in-None-rest_after-clause-added
returns-in-None-rest_after-clause-added t c empty = alone_added _ _ _ c.in-Some.number _ _ c.split_word.ensures.parts (sym empty ∙ c.is_empty.ensures) c.in-Some.ensures.found c.in_ok-push-in-Some.ensures.ok

pub returns-in-None-rest_after-clause-refused : goal.returns-in-None-rest_after-clause-refused
returns-in-None-rest_after-clause-refused t c some others joined few = none_joined (first_of _ _ c.split_word.ensures.only joined) (sym some ∙ c.is_empty.ensures) c.in-None-rest_after.ensures
