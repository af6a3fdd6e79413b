-- What a state is written of fits the fields of an image.
use Rattle.std.proofs.Common.{◌≡◌, ℕ, ℤ, ◌<◌, ◌≤◌, ◌^◌, List, [], ◌∷◌, ◌++◌, length, sym, ap, ap₂, ◌∙◌, subst, arith, append_assoc}
use Rattle.std.specs.Prelude.{IsTrue}
use Rattle.std.specs.List.{AllByRecursion}
use Rattle.std.proofs.lemmas.List.{length-map}
use Rattle.policy_statement.specs.Messages.{statement_message}
use Rattle.policy_statement.specs.Registered.{RegisteredView}
use Rattle.policy_statement.specs.Ring.{KeyView}
use Rattle.policy_statement.proofs.RingLemmas.{accepted_length}
use Rattle.proof_verifier.specs.declared.cites.Cite.{Cite}
use Rattle.file_world.specs.FileNames.{is_attribute_name}
use Rattle.file_world.specs.Attributes.{Attributes}
use Rattle.file_world.specs.World.{Item, World, IsWorld}
use Rattle.access_history.specs.declared.event.Issue.{Issue}
use Rattle.access_history.specs.Authority.{IsSignedEntry}
use Rattle.access_history.specs.Base.{BaseView}
use Rattle.access_history.specs.Citing.{IsGoodIssue}
use Rattle.access_history.specs.History.{authority_with}
use Rattle.access_history.specs.Lawful.{IsLawfulBase}
use Rattle.policy_statement.specs.Registry.{sayings}
use Rattle.record_parts.specs.Fields.{FitsOneByte}
use Rattle.bl_syntax.specs.Statement.{StatementView}
use Rattle.node_rows.specs.declared.rows.TreeRow.{TreeRow}
use Rattle.node_rows.specs.declared.rows.MetaRow.{MetaRow}
use Rattle.node_rows.specs.Rows.{item_rows, AreOfSameNodes}
use Rattle.node_rows.proofs.NameLengthLemmas.{short_name_or_none, short_attribute_name}
use Rattle.checkpoint_image.specs.NodeSpelling.{nodes_spelling, IsSpellableNode, AreSpellableNodes, HasFittingParts}
use Rattle.checkpoint_image.specs.ImageSpelling.{head_spelling, statements_spelling, issues_spelling, fields_spelling, image_spelling, IsSpellableEntry, IsSpellableIssue, IsSpellableImage, HasFittingSignature, HasFewCited, HaveFittingRows}
use Rattle.checkpoint_image.specs.WithdrawnNumbers.{AreStanding, withdrawn_numbers_spelling}
use Rattle.checkpoint_image.proofs.LoopLemmas.{as_many_rows}
use Rattle.checkpoint_image.proofs.WorldLemmas.{worlds_have_images}
use Rattle.checkpoint.specs.Reading.{IsSpelledAs, IsImageOf, current, old}
use Rattle.checkpoint.specs.Writing.{FitsImage, IsWrittenImageOf, state_with, front_spelling}

-- ---- nodes

names_fit : (attributes : Attributes) → AllByRecursion (λ attribute. IsTrue (is_attribute_name attribute.0)) attributes → AllByRecursion (λ attribute. FitsOneByte attribute.0) attributes
names_fit [] h = tt
names_fit (a ∷ attributes) h = let short = short_attribute_name a.0 h.0 in (omega (arith, short.not_above), names_fit attributes h.1)

parts_fit : (row : ℕ × Item) → IsSpellableNode row → HasFittingParts row.1
parts_fit row h = record {
  name = omega (arith, short_name_or_none row.1.place.name h.name);
  few = h.attributes.few;
  names = names_fit row.1.attributes h.attributes.named;
  contents = h.contents;
}

all_parts_fit : (rows : List (ℕ × Item)) → AllByRecursion IsSpellableNode rows → AllByRecursion (λ row. HasFittingParts row.1) rows
all_parts_fit [] h = tt
all_parts_fit (row ∷ rows) h = (parts_fit row h.0, all_parts_fit rows h.1)

-- the rows of a world within the limits may be written
pub rows_fit : (world : World) (trees : List TreeRow) (metas : List MetaRow) → IsWorld world → AreOfSameNodes trees metas → item_rows trees metas ≡ world.rows → HaveFittingRows trees metas
rows_fit world trees metas is same rows_are =
    let spelled : AreSpellableNodes (item_rows trees metas) = subst AreSpellableNodes (sym rows_are) (worlds_have_images world is) in
    record {
      few = omega (arith, as_many_rows trees metas same, spelled.few);
      same = same;
      parts = all_parts_fit (item_rows trees metas) spelled.each;
    }

-- ---- an image

fields_written : (world : World) (statements : List RegisteredView) (issues : List Issue) (moment : ℤ) (count : ℕ)
    → (head_spelling moment count world.next ++ (statements_spelling statements ++ issues_spelling issues)) ++ nodes_spelling world.rows ≡ fields_spelling (state_with world statements issues moment count)
unfolding fields_spelling
fields_written world statements issues moment count =
    append_assoc (head_spelling moment count world.next) (statements_spelling statements ++ issues_spelling issues) (nodes_spelling world.rows)
    ∙ ap (λ (bytes : List ℕ). head_spelling moment count world.next ++ bytes) (append_assoc (statements_spelling statements) (issues_spelling issues) (nodes_spelling world.rows))

-- what stands before the nodes, the nodes, and the numbers of the withdrawn statements are the image
pub image_written : (world : World) (statements : List RegisteredView) (issues : List Issue) (moment : ℤ) (count : ℕ)
    → (front_spelling statements issues moment count world.next ++ nodes_spelling world.rows) ++ withdrawn_numbers_spelling statements ≡ image_spelling (state_with world statements issues moment count)
unfolding image_spelling
image_written world statements issues moment count =
    ap (λ (fields : List ℕ). 2 ∷ (fields ++ withdrawn_numbers_spelling statements)) (fields_written world statements issues moment count)

-- a state that was written is spelled by its image
pub is_image : (world : World) (statements : List RegisteredView) (issues : List Issue) (moment : ℤ) (count : ℕ) (image front : List ℕ) (rows : List (ℕ × Item)) → IsWorld world → FitsImage (state_with world statements issues moment count)
    → count < 2 ^ 64 → AllByRecursion IsSpellableEntry statements → AllByRecursion IsSpellableIssue issues → front ≡ front_spelling statements issues moment count world.next → rows ≡ world.rows → image ≡ (front ++ nodes_spelling rows) ++ withdrawn_numbers_spelling statements
    → IsWrittenImageOf (state_with world statements issues moment count) image
is_image world statements issues moment count image front rows is fits counted entries each front_is rows_are image_is = record {
  is_image = record { world = is; spelled = subst (IsSpelledAs state) (sym written) (current spellable) };
  written = written;
}
  where
    state : BaseView
    state = state_with world statements issues moment count

    written : image ≡ image_spelling state
    written = image_is ∙ (ap₂ (λ (bytes : List ℕ) (nodes : List (ℕ × Item)). (bytes ++ nodes_spelling nodes) ++ withdrawn_numbers_spelling statements) front_is rows_are ∙ image_written world statements issues moment count)

    spellable : IsSpellableImage state
    spellable = record {
      moment = fits.moment;
      count = counted;
      next = omega (arith, is.tree.next_fits);
      statements = record { few = fits.statements.few; each = entries };
      issues = record { few = fits.issues.few; each = each };
      nodes = worlds_have_images world is;
    }

-- a state whose fields were written, and in which all statements stand, is spelled by them
pub is_old_image : (base : BaseView) → IsWorld base.world → FitsImage base → base.count < 2 ^ 64 → AllByRecursion IsSpellableEntry base.statements → AllByRecursion IsSpellableIssue base.issues → AreStanding base.statements
    → IsImageOf base (fields_spelling base)
is_old_image base is fits counted entries each stands = record { world = is; spelled = old (record { spelled = spellable; standing = stands }) }
  where
    spellable : IsSpellableImage base
    spellable = record {
      moment = fits.moment;
      count = counted;
      next = omega (arith, is.tree.next_fits);
      statements = record { few = fits.statements.few; each = entries };
      issues = record { few = fits.issues.few; each = each };
      nodes = worlds_have_images base.world is;
    }

-- the fields of a state, one written after the other
pub each_field_written : (base : BaseView) (out head stated issued all : List ℕ) (moment : ℤ) (count next : ℕ) (statements : List RegisteredView) (issues : List Issue) (rows : List (ℕ × Item))
    → moment ≡ base.moment → count ≡ base.count → next ≡ base.world.next → statements ≡ base.statements → issues ≡ base.issues → rows ≡ base.world.rows
    → head ≡ out ++ head_spelling moment count next → stated ≡ head ++ statements_spelling statements → issued ≡ stated ++ issues_spelling issues → all ≡ issued ++ nodes_spelling rows
    → all ≡ out ++ fields_spelling base
unfolding fields_spelling
each_field_written base out head stated issued all moment count next statements issues rows moment_is count_is next_is statements_are issues_are rows_are head_is stated_is issued_is all_is =
    let h : List ℕ = head_spelling base.moment base.count base.world.next in
    let s : List ℕ = statements_spelling base.statements in
    let i : List ℕ = issues_spelling base.issues in
    let n : List ℕ = nodes_spelling base.world.rows in
    let of_head : head_spelling moment count next ≡ h =
    ap (λ (m : ℤ). head_spelling m count next) moment_is ∙ (ap (λ (k : ℕ). head_spelling base.moment k next) count_is ∙ ap (λ (k : ℕ). head_spelling base.moment base.count k) next_is) in
    let first : head ≡ out ++ h = head_is ∙ ap (λ (b : List ℕ). out ++ b) of_head in
    let second : stated ≡ (out ++ h) ++ s = stated_is ∙ (ap (λ (b : List ℕ). b ++ statements_spelling statements) first ∙ ap (λ (es : List RegisteredView). (out ++ h) ++ statements_spelling es) statements_are) in
    let third : issued ≡ ((out ++ h) ++ s) ++ i = issued_is ∙ (ap (λ (b : List ℕ). b ++ issues_spelling issues) second ∙ ap (λ (is : List Issue). ((out ++ h) ++ s) ++ issues_spelling is) issues_are) in
    let fourth : all ≡ (((out ++ h) ++ s) ++ i) ++ n = all_is ∙ (ap (λ (b : List ℕ). b ++ nodes_spelling rows) third ∙ ap (λ (rs : List (ℕ × Item)). (((out ++ h) ++ s) ++ i) ++ nodes_spelling rs) rows_are) in
    fourth ∙ (append_assoc ((out ++ h) ++ s) i n ∙ (append_assoc (out ++ h) s (i ++ n) ∙ append_assoc out h (s ++ (i ++ n))))

-- ---- signatures and cited numbers

signatures_fit : (key : List ℕ) (ring : List KeyView) (entries : List RegisteredView) → AllByRecursion (IsSignedEntry (authority_with key ring)) entries → AllByRecursion HasFittingSignature entries
signatures_fit key ring [] h = tt
signatures_fit key ring (entry ∷ entries) h =
    let len : length entry.signature ≤ 16644 = accepted_length ring entry.statement.who (statement_message entry.statement) entry.signature h.0 in
    (omega (arith, len), signatures_fit key ring entries h.1)

few_cited : (statements : List StatementView) (issues : List Issue) → AllByRecursion (IsGoodIssue statements) issues → AllByRecursion HasFewCited issues
few_cited statements [] h = tt
few_cited statements (issue ∷ issues) h =
    let good = h.0 in
    let number : Cite → ℕ = λ (c : Cite). c.number in
    let len : length issue.cited ≡ length good.cites = ap length good.cited ∙ length-map good.cites number in
    let few : length good.cites ≤ 64 = good.rising.few in
    (omega (arith, len, few), few_cited statements issues h.1)

pub lawful_fits : (key : List ℕ) (ring : List KeyView) (base : BaseView) → IsLawfulBase (authority_with key ring) base → length base.issues < 2 ^ 32 → FitsImage base
lawful_fits key ring base is few = record {
  moment = is.moment_in_range;
  statements = record { few = omega (arith, is.statements_fit); each = signatures_fit key ring base.statements is.statements_signed };
  issues = record { few = few; each = few_cited (sayings base.statements) base.issues is.good_issues };
}

-- ---- a state by its parts

-- the state of these parts is the one that has them
pub state_is : (base : BaseView) (world : World) (statements : List RegisteredView) (issues : List Issue) (moment : ℤ) (count : ℕ) → world ≡ base.world → statements ≡ base.statements → issues ≡ base.issues → moment ≡ base.moment → count ≡ base.count
    → state_with world statements issues moment count ≡ base
state_is base world statements issues moment count world_is statements_are issues_are moment_is count_is =
    ap (λ (w : World). state_with w statements issues moment count) world_is
    ∙ (ap (λ (s : List RegisteredView). state_with base.world s issues moment count) statements_are
    ∙ (ap (λ (i : List Issue). state_with base.world base.statements i moment count) issues_are
    ∙ (ap (λ (m : ℤ). state_with base.world base.statements base.issues m count) moment_is
    ∙ ap (λ (n : ℕ). state_with base.world base.statements base.issues base.moment n) count_is)))
