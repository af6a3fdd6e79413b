-- Memory is taken for a line of two of the forms.
use Rattle.std.proofs.Common.{inl, inr}
use Rattle.nine_fids.proofs.TakingLemmas.{on_err_always}
use Rattle.nine_fids.proofs.control.control_in.Goals as goal

pub returns-in-Some-clause-err : goal.returns-in-Some-clause-err
returns-in-Some-clause-err c = on_err_always c.login_line.result (inl (c.in-Some.words.now, c.in-Some.ensures))

pub returns-in-Some-rest_after-clause-err : goal.returns-in-Some-rest_after-clause-err
returns-in-Some-rest_after-clause-err c = on_err_always c.procap_line.result (inr (c.in-Some-rest_after.word.now, c.in-Some-rest_after.ensures))
