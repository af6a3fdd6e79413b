-- What stands after the message.
use Rattle.std.proofs.Common.{◌≡◌, length, ap, sym, ◌∙◌, rules}
use Rattle.event_messages.specs.Messages.{Message}
use Rattle.event_messages.specs.Reader.{ReaderState}
use Rattle.event_messages.proofs.MoreLemmas.{moved, moved_state}
use Rattle.event_messages.proofs.reader.MessageReader.take_next.Goals as goal

pub overflow_sub-start : goal.overflow_sub-start
overflow_sub-start c =
    let total_is : c.len-total.result ≡ length c.self.inside.bytes.items = search rules in
    let read : Message = record { number = c.in-Ok.field-0-0; payload = c.in-Ok.field-0-1.now } in
    (moved c.self.inside.bytes.items c.left.result.now c.in-Ok.rest.now c.self.inside.start c.len-total.result read total_is c.self.invariant (ap (λ (s : ReaderState). s.left) c.self.view_is ∙ sym c.left.ensures) c.in-Ok.ensures).rest_few

pub overflow_sub-start-in-Ok : goal.overflow_sub-start-in-Ok
overflow_sub-start-in-Ok c =
    let total_is : c.len-total.result ≡ length c.self.inside.bytes.items = search rules in
    let read : Message = record { number = c.in-Ok.field-0-0; payload = c.in-Ok.field-0-1.now } in
    (moved c.self.inside.bytes.items c.left.result.now c.in-Ok.rest.now c.self.inside.start c.len-total.result read total_is c.self.invariant (ap (λ (s : ReaderState). s.left) c.self.view_is ∙ sym c.left.ensures) c.in-Ok.ensures).not_before

pub returns-in-Ok-clause-taken : goal.returns-in-Ok-clause-taken
returns-in-Ok-clause-taken c m rest there =
    let total_is : c.len-total.result ≡ length c.self.inside.bytes.items = search rules in
    let read : Message = record { number = c.in-Ok.field-0-0; payload = c.in-Ok.field-0-1.now } in
    moved_state c.args.self.now c.self.inside.bytes.items c.left.result.now c.in-Ok.rest.now rest c.self.inside.start c.len-total.result c.self.inside.place c.place_after-self-inside.result read m
    (moved c.self.inside.bytes.items c.left.result.now c.in-Ok.rest.now c.self.inside.start c.len-total.result read total_is c.self.invariant (ap (λ (s : ReaderState). s.left) c.self.view_is ∙ sym c.left.ensures) c.in-Ok.ensures)
    c.self.view_is c.in-Ok.ensures c.left.ensures c.place_after-self-inside.ensures there
