use Rattle.std.proofs.Common.{◌≡◌, ◌+◌, ◌≤◌}
use Rattle.slab.specs.Slab.{slab_len}
use Rattle.pcfs_server.specs.Table.{AllHave}
use Rattle.pcfs_server.proofs.threads.make_room.Given as goal

abbrev pub invariant-loop : goal.invariant-loop
invariant-loop g l = record {
  iterator : (goal.iterator-loop g).can_next l.iterator' × (goal.iterator-loop g).is_finite l.iterator';
  handles : AllHave (λ handle. handle.promise.service.value ≡ l.service) l.table;
  belongs : g.H.Service.is_door l.service (g.F.Front.door l.front);
  enough : slab_len l.table ≤ g.H.Service.out (g.F.Front.door l.front);
  out : g.H.Service.out (g.F.Front.door l.front) + slab_len l.initial.table ≡ g.H.Service.out (g.F.Front.door l.initial.front) + slab_len l.table;
  admitted : g.H.Service.admitted (g.F.Front.door l.front) ≡ g.H.Service.admitted (g.F.Front.door l.initial.front);
  served : g.H.Service.served (g.F.Front.door l.front) + slab_len l.table ≡ g.H.Service.served (g.F.Front.door l.initial.front) + slab_len l.initial.table;
  refs : g.F.Front.refs l.front ≡ g.F.Front.refs l.initial.front;
  listener : g.F.Front.listener l.front ≡ g.F.Front.listener l.initial.front;
  room : g.H.Service.room (g.F.Front.door l.initial.front) ≤ g.H.Service.room (g.F.Front.door l.front);
  never_falls : g.H.Service.faults (g.F.Front.door l.initial.front) ≤ g.H.Service.faults (g.F.Front.door l.front);
  kept : g.H.Service.kept (g.F.Front.door l.front) ≡ g.H.Service.kept (g.F.Front.door l.initial.front);
  steady : g.H.Service.faults (g.F.Front.door l.front) ≡ g.H.Service.faults (g.F.Front.door l.initial.front);
  broken : g.H.Service.broken (g.F.Front.door l.front) ≡ g.H.Service.broken (g.F.Front.door l.initial.front);
}
