-- How a script in memory ends (this project's own).
use Rattle.std.specs.Prelude.{◌≡◌, ◌-◌, ℕ}
use Rattle.pcfs_secrets.specs.declared.secrets.Secrets.{Secrets}
use Rattle.pcfs_session.specs.ScriptRun.{ScriptState, fresh_start}
use Rattle.pcfs_session.specs.Streams.{Streams}
use Rattle.pcfs_tools.specs.Broken.{Broken}
use Rattle.pcfs_tools.specs.ScriptStatus.{ScriptStatus}
use Rattle.pcfs_tools.specs.declared.memory.TheConstants.{ENOUGH}

-- how a script in memory ends: its own disks fail only if memory runs out. Fewer than `ENOUGH`
-- bytes of its replies are buffered
pub data MemoryEnds (secrets : Secrets) (before after : Streams) (broken : Broken) : ℕ →
    Type 0 where
  ended : (status : ℕ) (end : ScriptState) → (status ≡ 5 → ⊥) →
      ScriptStatus (ENOUGH - 1) (fresh_start secrets) end before after broken status →
      MemoryEnds secrets before after broken status
  disk_failed : (end : ScriptState) →
      ScriptStatus (ENOUGH - 1) (fresh_start secrets) end before after broken 5 →
      MemoryEnds secrets before after broken 9
