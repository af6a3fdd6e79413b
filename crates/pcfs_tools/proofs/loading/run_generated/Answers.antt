-- The store is one before its first event, under the secrets of a large run.
use Rattle.std.proofs.Common.{subst, sym}
use Rattle.std.proofs.lemmas.Result.{IfOk-weaker}
use Rattle.pcfs_session.specs.ScriptRun.{IsLawfulStanding}
use Rattle.pcfs_session.proofs.LawfulRunLemmas.{IsLawfulStanding-fresh}
use Rattle.pcfs_tools.proofs.LoadLemmas.{IsLoaded-run}
use Rattle.pcfs_tools.proofs.MemoryLemmas.{fresh_over}
use Rattle.pcfs_tools.proofs.loading.run_generated.Goals as goal

pub run_script-requires-clause-lawful : goal.run_script-requires-clause-lawful
run_script-requires-clause-lawful c = subst IsLawfulStanding (sym (fresh_over c.in_ok-secrets.secrets _ c.in-Ok.ensures)) (IsLawfulStanding-fresh c.in_ok-secrets.secrets)

pub returns-in-Ok : goal.returns-in-Ok
returns-in-Ok c =
    IfOk-weaker c.run_script.result _ _ (λ line h. (h.0, h.1, IsLoaded-run c.args.rounds c.args.seed c.in_ok-secrets.secrets _ _ h.0 c.in_ok-secrets.ensures (fresh_over c.in_ok-secrets.secrets _ c.in-Ok.ensures) c.in_ok-script.ensures h.2)) c.run_script.ensures
