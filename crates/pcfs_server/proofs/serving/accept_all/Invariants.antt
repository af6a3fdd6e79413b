use Rattle.std.proofs.Common.{◌≡◌, ◌+◌, ◌≤◌}
use Rattle.slab.specs.Slab.{slab_len}
use Rattle.pcfs_ports.specs.Accepted.{FallsBy}
use Rattle.pcfs_server.specs.Table.{AllHave}
use Rattle.pcfs_ports.specs.Telling.{AreTakenOff}
use Rattle.pcfs_server.proofs.serving.accept_all.Given as goal

abbrev pub invariant-loop-attended : goal.invariant-loop-attended
invariant-loop-attended g l = record {
  handles : AllHave (λ handle. handle.promise.service.value ≡ l.service) l.table;
  belongs : g.H.Service.is_door l.service (g.F.Front.door l.front);
  enough : slab_len l.table ≤ g.H.Service.out (g.F.Front.door l.front);
  out : g.H.Service.out (g.F.Front.door l.front) + slab_len l.initial.table ≡ g.H.Service.out (g.F.Front.door l.initial.front) + slab_len l.table;
  admitted : g.H.Service.admitted (g.F.Front.door l.front) ≡ g.H.Service.admitted (g.F.Front.door l.initial.front) + l.attended;
  queue : AreTakenOff l.attended (g.L.Listener.queue (g.F.Front.listener l.initial.front)) (g.L.Listener.queue (g.F.Front.listener l.front));
  served : g.H.Service.served (g.F.Front.door l.front) + slab_len l.table ≡ g.H.Service.served (g.F.Front.door l.initial.front) + slab_len l.initial.table + l.attended;
  room : g.H.Service.room (g.F.Front.door l.initial.front) ≤ l.attended + g.H.Service.room (g.F.Front.door l.front);
  waiting : FallsBy l.attended (g.L.Listener.waiting (g.F.Front.listener l.initial.front)) (g.L.Listener.waiting (g.F.Front.listener l.front));
  refs : g.F.Front.refs l.front ≡ g.F.Front.refs l.initial.front;
  listener_faults : g.L.Listener.faults (g.F.Front.listener l.initial.front) ≤ g.L.Listener.faults (g.F.Front.listener l.front);
  door_faults : g.H.Service.faults (g.F.Front.door l.initial.front) ≤ g.H.Service.faults (g.F.Front.door l.front);
  kept : g.H.Service.kept (g.F.Front.door l.front) ≡ g.H.Service.kept (g.F.Front.door l.initial.front);
  listener_steady : g.L.Listener.faults (g.F.Front.listener l.front) ≡ g.L.Listener.faults (g.F.Front.listener l.initial.front);
  door_steady : g.H.Service.faults (g.F.Front.door l.front) ≡ g.H.Service.faults (g.F.Front.door l.initial.front);
}
