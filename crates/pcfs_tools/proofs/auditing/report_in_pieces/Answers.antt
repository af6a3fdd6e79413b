-- The history is lawful, so that its events have numbers.
use Rattle.std.proofs.Common.{◌∙◌}
use Rattle.pcfs_tools.proofs.TellingLemmas.{IsReport-same, counted_same}
use Rattle.pcfs_tools.proofs.auditing.report_in_pieces.Goals as goal

pub audit_pieces-requires-clause-counted : goal.audit_pieces-requires-clause-counted
audit_pieces-requires-clause-counted g c _ _ = counted_same _ _ _ _ c.base-base.ensures (c.as_slice-events.ensures.value ∙ (c.in_ok-decoded.ensures ∙ c.events.ensures)) c.lemma_is_lawful.ensures.counted

pub returns : goal.returns
returns g c = IsReport-same _ _ c.args.secrets.now.ring _ _ _ _ c.as_slice-key.ensures c.base-base.ensures (c.as_slice-events.ensures.value ∙ (c.in_ok-decoded.ensures ∙ c.events.ensures)) _ c.audit_pieces.ensures
