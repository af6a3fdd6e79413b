-- The sessions may go to threads of their own.
use denote.Exit.{no}
use denote.Param.{param}
use denote.Param.Send.{param_send, arg_send}
use Rattle.shared_store.specs.LockHistory.{lock_entries}
use Rattle.pcfs_run.proofs.SentLemmas.{opened_send}
use Rattle.sessions_at_once.proofs.held.Talk.TheSendSync as talk
use Rattle.sessions_at_once.proofs.held.talk_under.Goals as goal

pub both_at_once-requires-send-A : goal.both_at_once-requires-send-A
both_at_once-requires-send-A g c κs within = param_send 1 _ (arg_send _ no _ (talk.the_send _ _ _ (record { entries = lock_entries }) (opened_send (param 1 g.row.D) g.D.Disk c.type_bounds.send-D)))
