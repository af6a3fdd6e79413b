-- The world of the state stays, and returns what the operation returns.
use Rattle.access_history.proofs.HistoryLemmas.{IsKeeping-world, reserved_shown}
use Rattle.access_history.proofs.history.History.prepare.Goals as goal

pub invariant_of-self : goal.invariant_of-self
invariant_of-self c = IsKeeping-world c.self.inside c.reserve.new.self c.reserve.ensures.same c.self.invariant

pub returns-clause-answer : goal.returns-clause-answer
returns-clause-answer c = reserved_shown c.self.inside c.reserve.new.self _ c.args.caller.now c.args.op _ c.self.invariant c.self.view_is c.reserve.ensures.same c.reserve.ensures.answer
