-- What the store says is told.
use Rattle.std.proofs.lemmas.Int.{to_z-of_z}
use Rattle.std.proofs.lemmas.Result.{IfOk-weaker}
use Rattle.std.specs.Int.{w64}
use Rattle.access_history.proofs.HistoryLemmas.{SFits-moment}
use Rattle.pcfs_session.proofs.OutboxLemmas.{OnErr-weaker}
use Rattle.pcfs_session.proofs.StoredLemmas.{Stepped-shown, LeadsTo-told, same-without_memory}
use Rattle.pcfs_session.proofs.interpreter.Interpreter.ask.Goals as goal

pub returns-clause-ok : goal.returns-clause-ok
returns-clause-ok g c =
    IfOk-weaker c.reply_of_store.result _ _ (λ told is.
    LeadsTo-told g.D.Disk.clock g.D.Disk.left_since g.D.Disk.image g.D.Disk.faults _ c.args.self.now c.step-reply.new.self c.args.request c.step-reply.result told c.self.view_is c.requires.lawful c.requires.running is
    (Stepped-shown g.D.Disk.clock g.D.Disk.left_since g.D.Disk.image g.D.Disk.faults c.self.inside.store c.step-reply.new.self _ c.self.inside.clock _ _ _ c.args.request c.step-reply.result (to_z-of_z w64 c.self.inside.clock (SFits-moment c.self.inside.clock c.self.invariant.0))
    (record { answer = c.step-reply.ensures.answer; stays_ready = c.step-reply.ensures.ready; stays_current = c.step-reply.ensures.current; met = c.step-reply.ensures.met; met_at_rest = c.step-reply.ensures.met_at_rest; makes_ready = c.step-reply.ensures.makes_ready; first_never_falls = c.step-reply.ensures.first_never_falls; second_never_falls = c.step-reply.ensures.second_never_falls }))) c.reply_of_store.ensures.ok

pub returns-clause-err : goal.returns-clause-err
returns-clause-err g c =
    OnErr-weaker c.reply_of_store.result _ _ (λ is.
    same-without_memory g.D.Disk.clock g.D.Disk.left_since g.D.Disk.image g.D.Disk.faults _ c.args.self.now c.step-reply.new.self c.args.request c.step-reply.result c.self.view_is is
    (Stepped-shown g.D.Disk.clock g.D.Disk.left_since g.D.Disk.image g.D.Disk.faults c.self.inside.store c.step-reply.new.self _ c.self.inside.clock _ _ _ c.args.request c.step-reply.result (to_z-of_z w64 c.self.inside.clock (SFits-moment c.self.inside.clock c.self.invariant.0))
    (record { answer = c.step-reply.ensures.answer; stays_ready = c.step-reply.ensures.ready; stays_current = c.step-reply.ensures.current; met = c.step-reply.ensures.met; met_at_rest = c.step-reply.ensures.met_at_rest; makes_ready = c.step-reply.ensures.makes_ready; first_never_falls = c.step-reply.ensures.first_never_falls; second_never_falls = c.step-reply.ensures.second_never_falls }))) c.reply_of_store.ensures.err
