-- The gate looks the statements up, unless the store is stopped.
use Rattle.std.proofs.Common.{◌≡◌, [], true, false, subst, refl}
use Rattle.pcfs_store.specs.Entries.{entries_of}
use Rattle.session_history.specs.declared.request.TurnRequest.TheVariants as requests
use Rattle.access_history.specs.declared.reply.StepReply.TheVariants.{Absent}
use Rattle.session_history.specs.declared.reply.TurnReply.TheVariants as turn_replies
use Rattle.session_history.specs.Turn.{Turn}
use Rattle.shared_store.specs.OpenedView.{OpenedView}
use Rattle.shared_store.specs.Turning.{pass_at}
use Rattle.shared_store.proofs.TurningLemmas.{is_stopped, is_running, look_stopped, look_no_memory, look_told_cited, look_told_absent}
use Rattle.shared_store.proofs.opened.OpenedStore.cite.Goals as goal

pub returns-then-is_stopped : goal.returns-then-is_stopped
returns-then-is_stopped g c pass clock =
    subst (λ (s : OpenedView _). Turn (λ _ moment. moment ≡ clock) (pass_at s.opening pass) (entries_of s.store) (requests.Cite c.args.numbers.now) _ []) c.self.view_is
    (look_stopped g.D.Disk.clock g.D.Disk.left_since g.D.Disk.image g.D.Disk.faults c.self.inside.opening.value c.self.inside.store c.self.invariant (requests.Cite c.args.numbers.now) (is_stopped c.self.inside.store.stop true c.if-is_stopped.ensures refl) pass clock)

pub returns-in-Ok-Cited : goal.returns-in-Ok-Cited
returns-in-Ok-Cited g c pass clock =
    subst (λ (s : OpenedView _). Turn (λ _ moment. moment ≡ clock) (pass_at s.opening pass) (entries_of s.store) (requests.Cite c.args.numbers.now) (turn_replies.Cited c.in-Ok-Cited.cites) []) c.self.view_is
    (look_told_cited g.D.Disk.clock g.D.Disk.left_since g.D.Disk.image g.D.Disk.faults c.self.inside.opening.value c.self.inside.store c.self.invariant c.gate.result.now c.as_slice.result.now c.args.numbers.now c.in-Ok-Cited.field-0 c.in-Ok-Cited.cites (is_running c.self.inside.store.stop false c.if-is_stopped.ensures refl) c.gate.ensures c.as_slice.ensures c.in-Ok-Cited.field-0-is c.in-Ok-Cited.ensures pass clock)

pub returns-in-Ok-Absent : goal.returns-in-Ok-Absent
returns-in-Ok-Absent g c pass clock =
    subst (λ (s : OpenedView _). Turn (λ _ moment. moment ≡ clock) (pass_at s.opening pass) (entries_of s.store) (requests.Cite c.args.numbers.now) (turn_replies.Step (Absent c.in-Ok-Absent.number)) []) c.self.view_is
    (look_told_absent g.D.Disk.clock g.D.Disk.left_since g.D.Disk.image g.D.Disk.faults c.self.inside.opening.value c.self.inside.store c.self.invariant c.gate.result.now c.as_slice.result.now c.args.numbers.now c.in-Ok-Absent.field-0 c.in-Ok-Absent.number (is_running c.self.inside.store.stop false c.if-is_stopped.ensures refl) c.gate.ensures c.as_slice.ensures c.in-Ok-Absent.field-0-is c.in-Ok-Absent.ensures pass clock)

pub returns-in-Err : goal.returns-in-Err
returns-in-Err g c pass clock =
    subst (λ (s : OpenedView _). Turn (λ _ moment. moment ≡ clock) (pass_at s.opening pass) (entries_of s.store) (requests.Cite c.args.numbers.now) _ []) c.self.view_is
    (look_no_memory g.D.Disk.clock g.D.Disk.left_since g.D.Disk.image g.D.Disk.faults c.self.inside.opening.value c.self.inside.store c.self.invariant (requests.Cite c.args.numbers.now) pass clock)
