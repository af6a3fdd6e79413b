-- A mark that is only ready to be made is not seen, and every other one is.
use Rattle.std.proofs.Common.{sym, ◌∙◌}
use Rattle.attr_state.proofs.CurrentLemmas.{held_missing, current_found, found_sorted}
use Rattle.attr_state.proofs.current.current_mark.Goals as goal

pub returns-then-is_held-clause-shown : goal.returns-then-is_held-clause-shown
returns-then-is_held-clause-shown c = sym (held_missing c.args.ready.now c.args.marks.now.entries c.args.number c.requires (sym c.is_held.ensures ∙ c.if-is_held.true))

pub returns-clause-shown : goal.returns-clause-shown
returns-clause-shown c = current_found c.args.ready.now c.args.marks.now.entries c.args.number c.get.result (sym c.is_held.ensures ∙ c.if-is_held.false) c.get.ensures.value

pub returns-clause-sorted : goal.returns-clause-sorted
returns-clause-sorted c = found_sorted c.args.marks.now.entries c.args.number c.get.result c.requires.ordered c.get.ensures.value
