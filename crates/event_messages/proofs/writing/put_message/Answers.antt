-- The parts of a message, one after another.
use Rattle.std.proofs.Common.{List, ℕ, ◌++◌, ◌∙◌, ap}
use Rattle.event_messages.proofs.MoreLemmas.{on_ok, spelled}
use Rattle.event_messages.proofs.writing.put_message.Goals as goal

pub returns-clause-ok : goal.returns-clause-ok
returns-clause-ok c =
    on_ok c.extend-3.result
    (λ last. spelled c.args.out.now c.push.new.self c.extend.new.self c.extend-2.new.self c.extend-3.new.self c.args.number c.args.payload.now c.in_ok-push.ensures.ok
    (c.in_ok-extend.ensures.ok ∙ ap (λ (b : List ℕ). c.push.new.self ++ b) c.u64_bytes.ensures)
    (c.in_ok-extend-2.ensures.ok ∙ ap (λ (b : List ℕ). c.extend.new.self ++ b) c.u32_bytes.ensures) last)
    c.extend-3.ensures.ok
