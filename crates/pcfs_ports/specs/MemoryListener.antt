-- What a listener in memory is seen as. This project's own.
use Rattle.std.specs.Prelude.{List}
use Rattle.pcfs_ports.specs.Calls.{CallPlanView}
use Rattle.pcfs_ports.specs.MemorySource.{MemorySourceView}
use Rattle.pcfs_ports.specs.MemorySink.{MemorySinkView}

pub record MemoryListenerView : Type 0 where
  -- the connections that are still to come, the next one first
  pub queue : List (MemorySourceView × MemorySinkView)
  pub calls : CallPlanView
