-- A script over a store in memory.
use Rattle.std.proofs.Common.{◌≡◌, ◌⊎◌, inl, inr, ◌-◌, ℕ, List, [], ap, sym, subst, ◌∙◌, None}
use Rattle.journal_records.specs.declared.event.Event.{Event}
use Rattle.access_history.specs.Replay.{fresh}
use Rattle.policy_statement.specs.Ring.{KeyView}
use Rattle.pcfs_secrets.specs.declared.secrets.Secrets.{Secrets}
use Rattle.pcfs_store.specs.declared.checkpoints.Checkpoint.{Checkpoint}
use Rattle.pcfs_store.specs.Formats.{IsNewStore}
use Rattle.pcfs_store.specs.StoreView.{StoreView}
use Rattle.pcfs_session.specs.ScriptContext.{first_asker}
use Rattle.pcfs_session.specs.InterpreterView.{standing_over}
use Rattle.pcfs_session.specs.ScriptRun.{ScriptState, fresh_start, script_pass}
use Rattle.pcfs_session.specs.Streams.{Streams}
use Rattle.pcfs_tools.specs.Broken.{Broken}
use Rattle.pcfs_tools.specs.Memory.{MemoryEnds}
use Rattle.pcfs_tools.specs.Memory as memory
use Rattle.pcfs_tools.specs.ScriptStatus.{ScriptStatus}
use Rattle.pcfs_tools.specs.declared.memory.TheConstants.{ENOUGH}

abbrev pub secrets_of : List ℕ → List KeyView → Secrets
secrets_of key ring = record { seal_key = key; ring = ring }

-- over a new store it begins as over one before its first event
pub fresh_over : {D : Type 0} (secrets : Secrets) (s : StoreView D) → IsNewStore secrets.seal_key secrets.ring s → standing_over s None (first_asker script_pass) ≡ fresh_start secrets
fresh_over secrets s new =
    ap (λ (k : List ℕ). record (standing_over s None (first_asker script_pass)) { secrets = secrets_of k s.ring }) new.key_is
    ∙ ap (λ (r : List KeyView). record (standing_over s None (first_asker script_pass)) { secrets = secrets_of secrets.seal_key r }) new.ring_is
    ∙ ap (λ b. record (standing_over s None (first_asker script_pass)) { secrets = secrets; base = b }) new.base_is
    ∙ ap (λ (es : List Event). record (standing_over s None (first_asker script_pass)) { secrets = secrets; base = fresh; events = es }) new.no_events
    ∙ ap (λ (cs : List Checkpoint). record (standing_over s None (first_asker script_pass)) { secrets = secrets; base = fresh; events = []; checkpoints = cs }) new.no_checkpoints
    ∙ ap (λ (n : ℕ). record (standing_over s None (first_asker script_pass)) { secrets = secrets; base = fresh; events = []; checkpoints = []; generation = n }) new.generation_is
    ∙ ap (λ (n : ℕ). record (standing_over s None (first_asker script_pass)) { secrets = secrets; base = fresh; events = []; checkpoints = []; generation = 1; used = n }) new.used_is

pub MemoryEnds-ran : (secrets : Secrets) (before after : Streams) (broken : Broken) (start end : ScriptState) (status result : ℕ) → start ≡ fresh_start secrets → ScriptStatus (ENOUGH - 1) start end before after broken status →
    ((status ≡ 5) × (result ≡ 9)) ⊎ ((status ≡ 5 → ⊥) × (result ≡ status)) → MemoryEnds secrets before after broken result
MemoryEnds-ran secrets before after broken start end status result same ends (inl is) =
    subst (MemoryEnds secrets before after broken) (sym is.1)
    (memory.disk_failed end (subst (λ (n : ℕ). ScriptStatus (ENOUGH - 1) (fresh_start secrets) end before after broken n) is.0 (subst (λ (s : ScriptState). ScriptStatus (ENOUGH - 1) s end before after broken status) same ends)))
MemoryEnds-ran secrets before after broken start end status result same ends (inr is) =
    subst (MemoryEnds secrets before after broken) (sym is.1) (memory.ended status end is.0 (subst (λ (s : ScriptState). ScriptStatus (ENOUGH - 1) s end before after broken status) same ends))
