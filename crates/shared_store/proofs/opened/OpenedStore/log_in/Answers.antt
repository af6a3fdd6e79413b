-- The ring is asked, unless the store is stopped.
use Rattle.std.proofs.Common.{◌≡◌, ◌∙◌, [], true, false, subst, refl}
use Rattle.pcfs_store.specs.Entries.{entries_of}
use Rattle.session_history.specs.declared.request.TurnRequest.TheVariants as requests
use Rattle.session_history.specs.Turn.{Turn}
use Rattle.shared_store.specs.OpenedView.{OpenedView}
use Rattle.shared_store.specs.Turning.{pass_at}
use Rattle.shared_store.proofs.TurningLemmas.{is_stopped, is_running, look_stopped, look_no_memory, accepted_shown, look_logged_in, look_rejected}
use Rattle.shared_store.proofs.opened.OpenedStore.log_in.Goals as goal

pub returns-then-is_stopped : goal.returns-then-is_stopped
returns-then-is_stopped g c pass clock =
    subst (λ (s : OpenedView _). Turn (λ _ moment. moment ≡ clock) (pass_at s.opening pass) (entries_of s.store) (requests.Login c.args.who.now c.args.nonce.now c.args.signature.now) _ []) c.self.view_is
    (look_stopped g.D.Disk.clock g.D.Disk.left_since g.D.Disk.image g.D.Disk.faults c.self.inside.opening.value c.self.inside.store c.self.invariant (requests.Login c.args.who.now c.args.nonce.now c.args.signature.now) (is_stopped c.self.inside.store.stop true c.if-is_stopped.ensures refl) pass clock)

pub returns-then-accepts : goal.returns-then-accepts
returns-then-accepts g c pass clock =
    subst (λ (s : OpenedView _). Turn (λ _ moment. moment ≡ clock) (pass_at s.opening pass) (entries_of s.store) (requests.Login c.args.who.now c.args.nonce.now c.args.signature.now) _ []) c.self.view_is
    (look_logged_in g.D.Disk.clock g.D.Disk.left_since g.D.Disk.image g.D.Disk.faults c.self.inside.opening.value c.self.inside.store c.self.invariant c.args.who.now c.args.nonce.now c.args.signature.now (is_running c.self.inside.store.stop false c.if-is_stopped.ensures refl) (accepted_shown g.D.Disk.clock g.D.Disk.left_since g.D.Disk.image g.D.Disk.faults c.self.inside.opening.value c.self.inside.store c.self.invariant c.gate.result.now c.ring-ring.result.now c.bytes.result.now c.args.who.now c.as_slice.result.now c.args.nonce.now c.as_slice-in-Ok.result.now c.args.signature.now _ c.gate.ensures c.ring-ring.ensures c.bytes.ensures.same (c.as_slice.ensures ∙ c.in-Ok.ensures) c.as_slice-in-Ok.ensures c.if-accepts.ensures) pass clock)

pub returns-in-Ok : goal.returns-in-Ok
returns-in-Ok g c pass clock =
    subst (λ (s : OpenedView _). Turn (λ _ moment. moment ≡ clock) (pass_at s.opening pass) (entries_of s.store) (requests.Login c.args.who.now c.args.nonce.now c.args.signature.now) _ []) c.self.view_is
    (look_rejected g.D.Disk.clock g.D.Disk.left_since g.D.Disk.image g.D.Disk.faults c.self.inside.opening.value c.self.inside.store c.self.invariant c.args.who.now c.args.nonce.now c.args.signature.now (is_running c.self.inside.store.stop false c.if-is_stopped.ensures refl) (accepted_shown g.D.Disk.clock g.D.Disk.left_since g.D.Disk.image g.D.Disk.faults c.self.inside.opening.value c.self.inside.store c.self.invariant c.gate.result.now c.ring-ring.result.now c.bytes.result.now c.args.who.now c.as_slice.result.now c.args.nonce.now c.as_slice-in-Ok.result.now c.args.signature.now _ c.gate.ensures c.ring-ring.ensures c.bytes.ensures.same (c.as_slice.ensures ∙ c.in-Ok.ensures) c.as_slice-in-Ok.ensures c.if-accepts.ensures) pass clock)

pub returns : goal.returns
returns g c pass clock =
    subst (λ (s : OpenedView _). Turn (λ _ moment. moment ≡ clock) (pass_at s.opening pass) (entries_of s.store) (requests.Login c.args.who.now c.args.nonce.now c.args.signature.now) _ []) c.self.view_is
    (look_no_memory g.D.Disk.clock g.D.Disk.left_since g.D.Disk.image g.D.Disk.faults c.self.inside.opening.value c.self.inside.store c.self.invariant (requests.Login c.args.who.now c.args.nonce.now c.args.signature.now) pass clock)
