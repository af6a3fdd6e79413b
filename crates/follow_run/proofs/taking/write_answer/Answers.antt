-- Its line is written, or some first part of it.
use Rattle.std.proofs.Common.{arith}
use Rattle.pcfs_session.proofs.OutboxLemmas.{with_back-nil}
use Rattle.follow_run.proofs.taking.write_answer.Goals as goal

pub returns-in-Err-clause-out : goal.returns-in-Err-clause-out
returns-in-Err-clause-out g c = record { count = 0; within = omega arith; held = with_back-nil _ }
