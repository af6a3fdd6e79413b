-- What is read of the payload, with the pass, is the event.
use Rattle.std.proofs.Common.{◌∙◌, subst, sym}
use Rattle.journal_records.specs.EventSpelling.{HasFittingFields}
use Rattle.journal_records.proofs.EventLemmas.{kept_again, spellable_fits}
use Rattle.journal_records.proofs.record.EventRecord.event.Goals as goal

pub returns-in-Ok-clause-same : goal.returns-in-Ok-clause-same
returns-in-Ok-clause-same c =
    c.with_pass.ensures ∙ (kept_again c.self.inside.event.value c.in-Ok.event c.self.inside.pass c.self.inside.payload c.as_slice.result.now c.self.invariant c.as_slice.ensures c.in-Ok.ensures.whole ∙ c.self.view_is)

pub returns-in-Ok-clause-fits : goal.returns-in-Ok-clause-fits
returns-in-Ok-clause-fits c =
    let again = c.with_pass.ensures ∙ kept_again c.self.inside.event.value c.in-Ok.event c.self.inside.pass c.self.inside.payload c.as_slice.result.now c.self.invariant c.as_slice.ensures c.in-Ok.ensures.whole in
    subst HasFittingFields (sym again) (spellable_fits c.self.inside.event.value c.self.invariant.spelled)
