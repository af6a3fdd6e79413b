-- Each command ends as it should.
use Rattle.std.proofs.Common.{refl, subst}
use Rattle.command_words.specs.Tasks.{AsksFor, IsFit}
use Rattle.command_words.proofs.TaskLemmas.{serves_alone, nine_alone}
use Rattle.pcfs_top.specs.Run as run
use Rattle.pcfs_top.proofs.EndsWithLemmas.{EndsWith-loaded, EndsWith-usage}
use Rattle.pcfs_top.proofs.run.run_task.Goals as goal

pub returns-in-Script : goal.returns-in-Script
returns-in-Script g c words asks = run.in_memory _ (subst (AsksFor words) c.in-Script.is asks) refl c.run_in_memory.ensures

pub returns-in-Stored : goal.returns-in-Stored
returns-in-Stored g c words asks = c.run_stored.ensures words (subst (AsksFor words) c.in-Stored.is asks)

pub returns-in-Init : goal.returns-in-Init
returns-in-Init g c words asks = c.init.ensures words _ _ _ (subst (AsksFor words) c.in-Init.is asks)

pub returns-in-Checkpoint : goal.returns-in-Checkpoint
returns-in-Checkpoint g c words asks = c.checkpoint_stored.ensures words _ _ _ (subst (AsksFor words) c.in-Checkpoint.is asks)

pub audit_stored-requires-clause-some : goal.audit_stored-requires-clause-some
audit_stored-requires-clause-some g c _ _ = subst IsFit c.in-Audit.is c.requires.fit

pub returns-in-Audit : goal.returns-in-Audit
returns-in-Audit g c words asks = c.audit_stored.ensures words _ _ _ (subst (AsksFor words) c.in-Audit.is asks)

pub returns-in-Export : goal.returns-in-Export
returns-in-Export g c words asks = c.export_stored.ensures words _ _ _ (subst (AsksFor words) c.in-Export.is asks)

pub returns-in-Follow : goal.returns-in-Follow
returns-in-Follow g c words asks = c.follow_stored.ensures words (subst (AsksFor words) c.in-Follow.is asks)

pub returns-in-Check : goal.returns-in-Check
returns-in-Check g c words asks = run.inquired _ (subst (AsksFor words) c.in-Check.is asks) refl c.inquire.ensures

pub load-requires : goal.load-requires
load-requires g c = subst IsFit c.in-Load.is c.requires.fit

pub returns-in-Load : goal.returns-in-Load
returns-in-Load g c words asks = EndsWith-loaded words c.args.secrets.now _ _ _ _ _ _ (subst (AsksFor words) c.in-Load.is asks) refl (record { left_stays = refl; faults_stay = refl }) c.load.ensures

pub state_table-requires-clause-from : goal.state_table-requires-clause-from
state_table-requires-clause-from g c = (subst IsFit c.in-Modes.is c.requires.fit).0

pub state_table-requires-clause-to : goal.state_table-requires-clause-to
state_table-requires-clause-to g c = (subst IsFit c.in-Modes.is c.requires.fit).1

pub returns-in-Modes : goal.returns-in-Modes
returns-in-Modes g c words asks = run.modes_told _ _ _ (subst (AsksFor words) c.in-Modes.is asks) refl c.state_table.ensures

pub sign_statements-requires-clause-low : goal.sign_statements-requires-clause-low
sign_statements-requires-clause-low g c = (subst IsFit c.in-RootSign.is c.requires.fit).0

pub sign_statements-requires-clause-within : goal.sign_statements-requires-clause-within
sign_statements-requires-clause-within g c = (subst IsFit c.in-RootSign.is c.requires.fit).1

pub returns-in-RootSign : goal.returns-in-RootSign
returns-in-RootSign g c words asks = run.signing_told _ _ _ (subst (AsksFor words) c.in-RootSign.is asks) refl c.sign_statements.ensures

pub returns-in-Serve : goal.returns-in-Serve
returns-in-Serve g c words asks = EndsWith-usage words c.args.secrets.now _ _ _ _ (serves_alone words _ _ (subst (AsksFor words) c.in-Serve.is asks)) refl (record { left_stays = refl; faults_stay = refl }) c.write_last_line.ensures

pub returns-in-Serve9 : goal.returns-in-Serve9
returns-in-Serve9 g c words asks = EndsWith-usage words c.args.secrets.now _ _ _ _ (nine_alone words _ _ (subst (AsksFor words) c.in-Serve9.is asks)) refl (record { left_stays = refl; faults_stay = refl }) c.write_last_line-in-Serve9.ensures
