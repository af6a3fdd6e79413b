-- The image of a state, with which an area begins: its one spelling. The format is this project's
-- own. Its numbers are big-endian.
use Rattle.std.specs.Prelude.{ℕ, ℤ, List, ◌∷◌, ◌++◌, ◌<◌, ◌≤◌, ◌^◌, length}
use Rattle.std.specs.List.{AllByRecursion}
use Rattle.bl_syntax.specs.TimeOrder.{IsMoment}
use Rattle.policy_statement.specs.Registered.{RegisteredView}
use Rattle.access_history.specs.declared.event.Issue.{Issue}
use Rattle.access_history.specs.Base.{BaseView}
use Rattle.record_parts.specs.Fields.{number_spelling, IsSpellableNumber, FitsFourBytes, moment_spelling}
use Rattle.record_parts.specs.RecordSpelling.{registered_spelling, IsSpellableRegistered, issued_spelling, IsSpellableIssued}
use Rattle.node_rows.specs.declared.rows.TreeRow.{TreeRow}
use Rattle.node_rows.specs.declared.rows.MetaRow.{MetaRow}
use Rattle.node_rows.specs.Rows.{item_rows, AreOfSameNodes}
use Rattle.checkpoint_image.specs.declared.image.Image.{Image}
use Rattle.checkpoint_image.specs.Chain.{long_list_spelling}
use Rattle.checkpoint_image.specs.NodeSpelling.{nodes_spelling, AreSpellableNodes, HasFittingParts}
use Rattle.checkpoint_image.specs.WithdrawnNumbers.{AreStanding, withdrawn_numbers_spelling}

-- the greatest moment so far, the number of the last event, and the number of the next node
unfoldable pub head_spelling : ℤ → ℕ → ℕ → List ℕ
head_spelling moment count next = moment_spelling moment ++ (number_spelling count ++ number_spelling next)

-- a statement, and its signature. Whether it was withdrawn stands at the end of the image.
abbrev pub entry_spelling : RegisteredView → List ℕ
entry_spelling entry = registered_spelling entry.statement entry.signature

abbrev pub IsSpellableEntry : RegisteredView → Type 0
IsSpellableEntry entry = IsSpellableRegistered entry.statement entry.signature

-- how many statements there are, and each
abbrev pub statements_spelling : List RegisteredView → List ℕ
statements_spelling statements = long_list_spelling entry_spelling statements

-- the numbers of the statements that a proof cites, the proof, and what it grants
abbrev pub issue_spelling : Issue → List ℕ
issue_spelling issue = issued_spelling issue.cited issue.proof issue.grant

abbrev pub IsSpellableIssue : Issue → Type 0
IsSpellableIssue issue = IsSpellableIssued issue.cited issue.proof issue.grant

-- how many issues there are, and each
abbrev pub issues_spelling : List Issue → List ℕ
issues_spelling issues = long_list_spelling issue_spelling issues

-- the fields of a state: its head, its statements, its issues, and its nodes
unfoldable pub fields_spelling : BaseView → List ℕ
fields_spelling base =
    head_spelling base.moment base.count base.world.next ++ (statements_spelling base.statements
    ++ (issues_spelling base.issues ++ nodes_spelling base.world.rows))

-- the image of a state: the version, which is 2, its fields, and the numbers of the withdrawn
-- statements
unfoldable pub image_spelling : BaseView → List ℕ
image_spelling base = 2 ∷ (fields_spelling base ++ withdrawn_numbers_spelling base.statements)

-- few enough items for a count of four bytes, each with a spelling
pub record AreSpelledIn {A : Type 0} (IsSpelled : A → Type 0) (items : List A) : Type 0 where
  pub few : length items < 2 ^ 32
  pub each : AllByRecursion IsSpelled items

-- a state that has an image
pub record IsSpellableImage (base : BaseView) : Type 0 where
  pub moment : IsMoment base.moment
  pub count : IsSpellableNumber base.count
  pub next : IsSpellableNumber base.world.next
  pub statements : AreSpelledIn IsSpellableEntry base.statements
  pub issues : AreSpelledIn IsSpellableIssue base.issues
  pub nodes : AreSpellableNodes base.world.rows

-- a state of which the fields tell all: it has an image, and none of its statements was withdrawn
pub record AreFieldsOf (base : BaseView) : Type 0 where
  pub spelled : IsSpellableImage base
  pub standing : AreStanding base.statements

-- the signature fits its field
abbrev pub HasFittingSignature : RegisteredView → Type 0
HasFittingSignature entry = FitsFourBytes entry.signature

-- the numbers that a proof cites fit their count
abbrev pub HasFewCited : Issue → Type 0
HasFewCited issue = length issue.cited ≤ 255

-- nodes that may be written: few enough, in rows of the same nodes, whose names, attributes and
-- contents fit their fields
pub record HaveFittingRows (trees : List TreeRow) (metas : List MetaRow) : Type 0 where
  pub few : length trees < 2 ^ 32
  pub same : AreOfSameNodes trees metas
  pub parts : AllByRecursion (λ row. HasFittingParts row.1) (item_rows trees metas)

-- an image that may be written
pub record HasFittingFields (image : Image) : Type 0 where
  pub statements : AreSpelledIn HasFittingSignature image.statements
  pub issues : AreSpelledIn HasFewCited image.issues
  pub nodes : HaveFittingRows image.tree image.meta
