use Rattle.pcfs_ports.specs.Disk.{IsPinned}
use Rattle.session_service.specs.Sessions.{sources_of, AreOfSession}
use Rattle.session_service.specs.Conversation.{tells_of}
use Rattle.nine_service.specs.Passes.{nine_sources_of, AreOfNine}
use Rattle.pcfs_run.specs.Healthy.{ports_at, rests_between}
use Rattle.pcfs_run.proofs.HealthyLemmas.{EndsHealthy-run}
use Rattle.pcfs_run.proofs.laws.healthy_runs_end_so.Goals as goal

pub returns : goal.returns
returns g c = λ queue nonces secrets words before after status ends sound.
    EndsHealthy-run secrets words (ports_at g.L.Listener.over before) (ports_at g.L.Listener.over after) sound (AreOfSession (sources_of (g.C.TurnClock.gives c.args.clock.now) (tells_of g.L.In.Source.left g.L.In.Source.faults g.L.In.Source.broken g.L.Out.Sink.held g.L.Out.Sink.faults g.L.Out.Sink.broken) queue nonces)) (AreOfNine (nine_sources_of (g.C.TurnClock.gives c.args.clock.now) (tells_of g.L.In.Source.left g.L.In.Source.faults g.L.In.Source.broken g.L.Out.Sink.held g.L.Out.Sink.faults g.L.Out.Sink.broken) queue nonces))
    (rests_between (IsPinned g.D.Disk.clock g.D.Disk.left_since g.D.Disk.image) before after) status ends
