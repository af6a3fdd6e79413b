-- What stands after the texts that are still read stands after all of them.
use Rattle.std.proofs.Common.{◌≡◌, ◌-◌}
use Rattle.nine_messages.specs.Fields.{after, text_at, many_at}
use Rattle.nine_messages.proofs.names.after_texts.Given as goal

abbrev pub invariant-loop : goal.invariant-loop
invariant-loop l = after (many_at text_at (l.count - l.counter) l.rest) ≡ after (many_at text_at l.count l.bytes)
