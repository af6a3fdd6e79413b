-- A store that is opened from an area keeps only statements and grants that stand on one line.
use Rattle.std.proofs.Common.{ℕ, List}
use Rattle.std.specs.List.{AllByRecursion}
use Rattle.policy_statement.specs.Registered.{RegisteredView}
use Rattle.access_history.specs.declared.event.Issue.{Issue}
use Rattle.journal_records.specs.declared.event.Event.{Event}
use Rattle.journal_records.specs.EventSpelling.{IsSpellableEvent, IsReadEvent}
use Rattle.access_history.specs.Base.{BaseView}
use Rattle.access_history.specs.Replay.{replay}
use Rattle.checkpoint.specs.Reading.{IsSpelledAs, current, old, IsImageOf}
use Rattle.access_history.proofs.ListLemmas.{AllByRecursion-weaker}
use Rattle.checkpoint_image.specs.ImageSpelling.{IsSpellableEntry, IsSpellableIssue, IsSpellableImage}
use Rattle.reply_laws.specs.Kept.{IsUnbrokenEntry, IsUnbrokenIssue, KeepsUnbroken}
use Rattle.reply_laws.proofs.GrammarLemmas.{statement_unbroken, grant_unbroken}
use Rattle.reply_laws.proofs.KeptLemmas.{replay_unbroken}

entry_unbroken : (entry : RegisteredView) → IsSpellableEntry entry → IsUnbrokenEntry entry
entry_unbroken entry is = statement_unbroken entry.statement is.said

issue_unbroken : (issue : Issue) → IsSpellableIssue issue → IsUnbrokenIssue issue
issue_unbroken issue is = grant_unbroken issue.grant is.granted

image_unbroken : (base : BaseView) → IsSpellableImage base → KeepsUnbroken base
image_unbroken base is = record {
  statements = AllByRecursion-weaker IsSpellableEntry IsUnbrokenEntry base.statements entry_unbroken is.statements.each;
  issues = AllByRecursion-weaker IsSpellableIssue IsUnbrokenIssue base.issues issue_unbroken is.issues.each;
}

spelled_unbroken : (base : BaseView) (image : List ℕ) → IsSpelledAs base image → KeepsUnbroken base
spelled_unbroken base _ (current is) = image_unbroken base is
spelled_unbroken base _ (old is) = image_unbroken base is.spelled

pub area_unbroken : (base : BaseView) (image : List ℕ) (events : List Event) → IsImageOf base image → AllByRecursion IsReadEvent events → KeepsUnbroken (replay base events)
area_unbroken base image events is read =
    replay_unbroken base events (spelled_unbroken base image is.spelled) (AllByRecursion-weaker IsReadEvent IsSpellableEvent events (λ event h. h.spelled) read)
