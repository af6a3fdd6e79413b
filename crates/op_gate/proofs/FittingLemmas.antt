-- What may come next in a history fits the fields of its record.
use Rattle.std.proofs.Common.{◌≡◌, ℕ, ◌≤◌, List, [], ◌∷◌, length, None, true, ◌&&◌, refl, ap, arith}
use Rattle.std.specs.Prelude.{nat_le}
use Rattle.std.specs.List.{list_all}
use Rattle.std.proofs.lemmas.Bool.{and_parts, leb-true, not-false}
use Rattle.policy_statement.specs.Ring.{KeyView}
use Rattle.policy_statement.proofs.RingLemmas.{accepted_length}
use Rattle.policy_statement.specs.Messages.{statement_message, withdraw_message}
use Rattle.file_world.specs.declared.operation.Op.{Op}
use Rattle.file_world.specs.declared.operation.Op.TheVariants.{Read, Write, Truncate, List as ListOf, Lookup, Create, Mkdir, Unlink, Rename, Getattr, Setattr, Delattr, Chown}
use Rattle.bl_syntax.specs.Names.{is_lower_case}
use Rattle.file_world.specs.FileNames.{is_node_name, is_attribute_name, is_attribute_name_byte}
use Rattle.file_world.specs.World.{World}
use Rattle.file_world.specs.Effect.{refusal, part_of, tests_in}
use Rattle.file_world.specs.Needs.{slots, bytes_to_write}
use Rattle.file_world.proofs.EffectLemmas.{none_hold}
use Rattle.journal_records.specs.declared.event.Event.{Event}
use Rattle.journal_records.specs.declared.event.Event.TheVariants.{Registered, Withdrawn, Issued, Acted}
use Rattle.access_history.specs.Base.{BaseView}
use Rattle.access_history.specs.History.{authority_with}
use Rattle.access_history.specs.Citing.{numbers_of}
use Rattle.access_history.specs.Lawful.{MayFollow}
use Rattle.access_history.proofs.CitingLemmas.{numbers_length}
use Rattle.bl_syntax.specs.Citable.{AreNamed}
use Rattle.proof_verifier.specs.declared.cites.Cite.{Cite}
use Rattle.proof_verifier.specs.Cited.{AreCited}
use Rattle.record_parts.specs.Fields.{FitsOneByte}
use Rattle.record_parts.specs.OperationSpelling.{HasFittingWords}
use Rattle.journal_records.specs.EventSpelling.{HasFittingFields}

-- ---- names

short_by : (n most : ℕ) → nat_le n most ≡ true → most ≤ 255 → n ≤ 255
short_by n most e few = let short : n ≤ most = leb-true n most e in omega (arith, short, few)

-- of a name and an attribute's name
name_fits : (name : List ℕ) → is_node_name name ≡ true → FitsOneByte name
unfolding is_node_name
name_fits name e = short_by (length name) 64 (and_parts _ _ (and_parts _ _ (and_parts _ _ (and_parts _ _ e).0).0).0).1 (omega arith)

attribute_fits : (name : List ℕ) → is_attribute_name name ≡ true → FitsOneByte name
unfolding is_attribute_name
attribute_fits [] e = absurd cc
attribute_fits (first ∷ others) e = let short : length others ≤ 63 = leb-true (length others) 63 (and_parts (is_lower_case first && list_all is_attribute_name_byte others) (nat_le (length others) 63) e).1 in omega (arith, short)

-- ---- operations that are not refused

words_fit : (world : World) (op : Op) → bytes_to_write op ≤ 65536 → refusal world op ≡ None → HasFittingWords op
words_fit world (Read file offset len) few free = tt
words_fit world (Write file offset bytes) few free = omega (arith, few)
words_fit world (Truncate file len) few free = tt
words_fit world (ListOf directory) few free = tt
words_fit world (Lookup directory name) few free = name_fits name (not-false _ (none_hold (tests_in world (part_of (Lookup directory name))) free).1.1.0)
words_fit world (Create directory name) few free = name_fits name (not-false _ (none_hold (tests_in world (part_of (Create directory name))) free).1.1.0)
words_fit world (Mkdir directory name) few free = name_fits name (not-false _ (none_hold (tests_in world (part_of (Mkdir directory name))) free).1.1.0)
words_fit world (Unlink directory name) few free = name_fits name (not-false _ (none_hold (tests_in world (part_of (Unlink directory name))) free).1.1.0)
words_fit world (Rename directory name target renamed) few free =
    let none = none_hold (tests_in world (part_of (Rename directory name target renamed))) free in
    (name_fits name (not-false _ none.1.1.0), name_fits renamed (not-false _ none.1.1.1.1.1.0))
words_fit world (Getattr node name) few free = attribute_fits name (not-false _ (none_hold (tests_in world (part_of (Getattr node name))) free).1.0)
words_fit world (Setattr node name value) few free = attribute_fits name (not-false _ (none_hold (tests_in world (part_of (Setattr node name value))) free).1.0)
words_fit world (Delattr node name) few free = attribute_fits name (not-false _ (none_hold (tests_in world (part_of (Delattr node name))) free).1.0)
words_fit world (Chown node owner) few free = tt

few_slots : (op : Op) → slots op ≤ 3
few_slots (Read file offset len) = omega arith
few_slots (Write file offset bytes) = omega arith
few_slots (Truncate file len) = omega arith
few_slots (ListOf directory) = omega arith
few_slots (Lookup directory name) = omega arith
few_slots (Create directory name) = omega arith
few_slots (Mkdir directory name) = omega arith
few_slots (Unlink directory name) = omega arith
few_slots (Rename directory name target renamed) = omega arith
few_slots (Getattr node name) = omega arith
few_slots (Setattr node name value) = omega arith
few_slots (Delattr node name) = omega arith
few_slots (Chown node owner) = omega arith

-- ---- events

-- what may come next fits its fields
pub fits_fields : (key : List ℕ) (ring : List KeyView) (state : BaseView) (event : Event) → MayFollow (authority_with key ring) state event → HasFittingFields event
fits_fields key ring state (Registered pass statement signature) may =
    let short = accepted_length ring statement.who (statement_message statement) signature may.signed in
    omega (arith, short)
fits_fields key ring state (Issued pass cited proof grant) may =
    omega (arith, ap length may.good.cited, numbers_length may.good.cites, may.good.rising.few)
fits_fields key ring state (Acted pass caller op procaps moment) may =
    (words_fit state.world op may.formed.brought.few_bytes may.not_refused, (omega (arith, may.formed.brought.slots, few_slots op), may.in_range))
fits_fields key ring state (Withdrawn pass number signature) may =
    let short = accepted_length ring may.statement.who (withdraw_message may.statement) signature may.signed in
    omega (arith, short)

-- the numbers that a proof cites, and those that a grant names, fit their count
pub numbers_few : (cites : List Cite) → AreCited cites → length (numbers_of cites) ≤ 255
numbers_few cites h = omega (arith, numbers_length cites, h.few)

pub named_few : (numbers : List ℕ) → AreNamed numbers → length numbers ≤ 255
named_few numbers h = omega (arith, h.few)
