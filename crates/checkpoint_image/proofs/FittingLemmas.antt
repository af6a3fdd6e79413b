-- An image that is read may be written.
use Rattle.std.proofs.Common.{ℕ, List, [], ◌∷◌, Result, Ok, Err, arith}
use Rattle.std.specs.Prelude.{IfOk, IsTrue}
use Rattle.std.specs.List.{AllByRecursion}
use Rattle.bl_syntax.specs.declared.codec_fault.CodecFault.{CodecFault}
use Rattle.bl_syntax.specs.Codec.{AreBytes, GivesReadingOrReports}
use Rattle.policy_statement.specs.Registered.{RegisteredView}
use Rattle.file_world.specs.FileNames.{is_attribute_name}
use Rattle.file_world.specs.Attributes.{Attributes}
use Rattle.file_world.specs.World.{Item}
use Rattle.access_history.specs.declared.event.Issue.{Issue}
use Rattle.record_parts.specs.Fields.{FitsOneByte}
use Rattle.node_rows.specs.Rows.{item_rows, AreOfSameNodes}
use Rattle.node_rows.proofs.NameLengthLemmas.{short_name_or_none, short_attribute_name}
use Rattle.checkpoint_image.specs.declared.image.Image.{Image}
use Rattle.checkpoint_image.specs.NodeSpelling.{IsSpellableNode, HasFittingParts}
use Rattle.checkpoint_image.specs.ImageSpelling.{IsSpellableEntry, IsSpellableIssue, IsSpellableImage, HasFittingSignature, HasFewCited, HasFittingFields}
use Rattle.checkpoint_image.specs.ImageReading.{fields_at, image_at, base_of_image}
use Rattle.checkpoint_image.specs.WithdrawnNumbers.{AreStanding}
use Rattle.checkpoint_image.proofs.ImageLemmas.{fields_codec, image_codec}
use Rattle.checkpoint_image.proofs.LoopLemmas.{as_many_rows}

signatures_fit : (statements : List RegisteredView) → AllByRecursion IsSpellableEntry statements → AllByRecursion HasFittingSignature statements
signatures_fit [] h = tt
signatures_fit (entry ∷ statements) h = (h.0.signed, signatures_fit statements h.1)

few_cited : (issues : List Issue) → AllByRecursion IsSpellableIssue issues → AllByRecursion HasFewCited issues
few_cited [] h = tt
few_cited (issue ∷ issues) h = (h.0.numbers.few, few_cited issues h.1)

names_fit : (attributes : Attributes) → AllByRecursion (λ attribute. IsTrue (is_attribute_name attribute.0)) attributes → AllByRecursion (λ attribute. FitsOneByte attribute.0) attributes
names_fit [] h = tt
names_fit (a ∷ attributes) h = let short = short_attribute_name a.0 h.0 in (omega (arith, short.not_above), names_fit attributes h.1)

parts_fit : (row : ℕ × Item) → IsSpellableNode row → HasFittingParts row.1
parts_fit row h = record {
  name = omega (arith, short_name_or_none row.1.place.name h.name);
  few = h.attributes.few;
  names = names_fit row.1.attributes h.attributes.named;
  contents = h.contents;
}

all_parts_fit : (rows : List (ℕ × Item)) → AllByRecursion IsSpellableNode rows → AllByRecursion (λ row. HasFittingParts row.1) rows
all_parts_fit [] h = tt
all_parts_fit (row ∷ rows) h = (parts_fit row h.0, all_parts_fit rows h.1)

pub image_fits : (image : Image) → IsSpellableImage (base_of_image image) → AreOfSameNodes image.tree image.meta → HasFittingFields image
image_fits image h same = record {
  statements = record { few = h.statements.few; each = signatures_fit image.statements h.statements.each };
  issues = record { few = h.issues.few; each = few_cited image.issues h.issues.each };
  nodes = record {
    few = omega (arith, as_many_rows image.tree image.meta same, h.nodes.few);
    same = same;
    parts = all_parts_fit (item_rows image.tree image.meta) h.nodes.each;
  };
}

pub reads_what_fits : {X : Type 0} (behind : X → List ℕ) (image_of : X → Image) (input : ℕ) (bytes : List ℕ) (result : Result X CodecFault) → AreBytes bytes → GivesReadingOrReports (λ x. (base_of_image (image_of x), behind x)) result (image_at input bytes)
    → IfOk result (λ x. AreOfSameNodes (image_of x).tree (image_of x).meta) → IfOk result (λ x. HasFittingFields (image_of x))
reads_what_fits behind image_of input bytes (Ok x) fits h same = image_fits (image_of x) (image_codec.found input bytes (behind x) (base_of_image (image_of x)) fits h).0 same
reads_what_fits behind image_of input bytes (Err fault) fits h same = tt

-- and so may one of version 1
pub reads_old_what_fits : {X : Type 0} (behind : X → List ℕ) (image_of : X → Image) (input : ℕ) (bytes : List ℕ) (result : Result X CodecFault) → AreBytes bytes → GivesReadingOrReports (λ x. (base_of_image (image_of x), behind x)) result (fields_at input bytes)
    → IfOk result (λ x. AreOfSameNodes (image_of x).tree (image_of x).meta) → IfOk result (λ x. HasFittingFields (image_of x))
reads_old_what_fits behind image_of input bytes (Ok x) fits h same = image_fits (image_of x) (fields_codec.found input bytes (behind x) (base_of_image (image_of x)) fits h).0.spelled same
reads_old_what_fits behind image_of input bytes (Err fault) fits h same = tt

-- and all its statements stand
pub reads_old_standing : {X : Type 0} (behind : X → List ℕ) (image_of : X → Image) (input : ℕ) (bytes : List ℕ) (result : Result X CodecFault) → AreBytes bytes → GivesReadingOrReports (λ x. (base_of_image (image_of x), behind x)) result (fields_at input bytes)
    → IfOk result (λ x. AreStanding (image_of x).statements)
reads_old_standing behind image_of input bytes (Ok x) fits h = (fields_codec.found input bytes (behind x) (base_of_image (image_of x)) fits h).0.standing
reads_old_standing behind image_of input bytes (Err fault) fits h = tt
