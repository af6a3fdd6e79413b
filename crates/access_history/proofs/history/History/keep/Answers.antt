-- The event comes next, and the fields show the state after it.
use Rattle.std.proofs.Common.{refl}
use Rattle.access_history.proofs.HistoryLemmas.{pushed, ready_shown, place_shown, HasMoment-follows, IsKeeping-kept}
use Rattle.access_history.proofs.history.History.keep.Goals as goal

pub apply_event-event-requires-clause-ready : goal.apply_event-event-requires-clause-ready
apply_event-event-requires-clause-ready c = ready_shown c.self.inside _ c.args.event c.self.invariant c.self.view_is c.requires.ready

pub apply_event-event-requires-clause-in_range : goal.apply_event-event-requires-clause-in_range
apply_event-event-requires-clause-in_range c = HasMoment-follows _ _ c.args.event c.requires.lawful

pub add_to_state-requires-clause-place : goal.add_to_state-requires-clause-place
add_to_state-requires-clause-place c = place_shown c.self.inside _ c.args.event c.args.addition c.self.invariant c.self.view_is c.requires.addition c.requires.lawful

pub add_to_state-requires-clause-standings : goal.add_to_state-requires-clause-standings
add_to_state-requires-clause-standings c = c.self.invariant.standings

pub invariant_of-self : goal.invariant_of-self
invariant_of-self c =
    IsKeeping-kept c.self.inside _ _ c.args.event c.args.kept c.args.addition c.self.invariant c.self.view_is c.requires.lawful c.requires.counted c.requires.addition c.requires.kept refl refl refl
    c.apply_event-event.ensures.world c.apply_event-event.ensures.moment c.add_to_state.ensures.statements c.add_to_state.ensures.issues (pushed _ _ _ _ _ c.push.ensures.items c.unwrap.ensures) refl c.add_to_state.ensures.standings
