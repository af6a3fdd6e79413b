-- The history is lawful, so that its events have numbers.
use Rattle.std.proofs.Common.{◌∙◌}
use Rattle.pcfs_tools.proofs.TellingLemmas.{IsReport-same, counted_same}
use Rattle.pcfs_tools.proofs.auditing.report_at_once.Goals as goal

pub audit-requires : goal.audit-requires
audit-requires c = counted_same _ _ _ _ c.base-base.ensures (c.as_slice-events.ensures ∙ (c.in_ok-decoded.ensures ∙ c.events.ensures)) c.lemma_is_lawful.ensures.counted

pub returns : goal.returns
returns c = IsReport-same _ _ c.args.secrets.now.ring _ _ _ _ c.as_slice-key.ensures c.base-base.ensures (c.as_slice-events.ensures ∙ (c.in_ok-decoded.ensures ∙ c.events.ensures)) _ c.audit.ensures
