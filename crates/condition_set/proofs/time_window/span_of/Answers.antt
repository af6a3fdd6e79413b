-- A condition between the current time and a time is their order at each second.
use Rattle.condition_set.proofs.WindowLemmas.{ctime_to_ctime, ctime_to_constant, constant_to_ctime}
use Rattle.condition_set.proofs.time_window.span_of.Goals as goal

pub returns-in-Ctime-Ctime-clause-between : goal.returns-in-Ctime-Ctime-clause-between
returns-in-Ctime-Ctime-clause-between c = ctime_to_ctime c.args.c.now c.in-Ctime-Ctime.is-0 c.in-Ctime-Ctime.is-1

pub returns-in-Ctime-Time-clause-between : goal.returns-in-Ctime-Time-clause-between
returns-in-Ctime-Time-clause-between c = ctime_to_constant c.args.c.now c.in-Ctime-Time.to c.in-Ctime-Time.is-0 c.in-Ctime-Time.is-1

pub returns-in-Time-Ctime-clause-between : goal.returns-in-Time-Ctime-clause-between
returns-in-Time-Ctime-clause-between c = constant_to_ctime c.args.c.now c.in-Time-Ctime.from c.in-Time-Ctime.is-0 c.in-Time-Ctime.is-1
