-- Nodes: what is read is spelled so, and what is spelled so is read.
use Rattle.std.proofs.Common.{◌≡◌, ℕ, ◌<◌, List, [], ◌∷◌, refl, arith, nat_cmp, Less}
use Rattle.std.specs.Prelude.{IsTrue}
use Rattle.std.specs.List.{AllByRecursion}
use Rattle.std.specs.Map.{keys_of}
use Rattle.std.specs.Cmp.Lexicographic.{slice_cmp}
use Rattle.std.proofs.lemmas.Cmp.{nat_cmp_total, nat_list_cmp_total}
use Rattle.bl_syntax.specs.Names.{is_principal_name, is_text}
use Rattle.bl_syntax.specs.Spelling.{with_length}
use Rattle.bl_syntax.specs.Reading.{name_at, text_at}
use Rattle.bl_syntax.specs.Codec.{IsCodec}
use Rattle.bl_syntax.proofs.FieldCodecs.{name_codec, text_codec}
use Rattle.procap.specs.GrantSpelling.{list_spelling}
use Rattle.procap.specs.GrantReading.{both_at}
use Rattle.procap.proofs.PartLemmas.{both_spelling, AreBoth, both_codec}
use Rattle.file_world.specs.declared.operation.Kind.{Kind}
use Rattle.file_world.specs.FileNames.{is_attribute_name}
use Rattle.file_world.specs.Attributes.{Attributes}
use Rattle.file_world.specs.World.{Item}
use Rattle.file_world.proofs.RowLemmas.{lt_from_less, less_from_lt}
use Rattle.record_parts.specs.Fields.{u64_at, number_spelling, IsSpellableNumber, sized_bytes_spelling, sized_bytes_at, FitsFourBytes}
use Rattle.record_parts.proofs.CodecLemmas.{made_codec, same_codec}
use Rattle.record_parts.proofs.FieldsLemmas.{u64_codec, sized_bytes_codec}
use Rattle.checkpoint_image.specs.Chain.{AreShortChained, AreLongChained, short_list_at, long_list_at, long_list_spelling}
use Rattle.checkpoint_image.specs.NodeSpelling.{attribute_spelling, node_head_spelling, node_tail_spelling, node_spelling, nodes_spelling, AreSpellableAttributes, IsSpellableNode, AreSpellableNodes}
use Rattle.checkpoint_image.specs.NodeReading.{kind_at, number_after, owned_at, kinded_at, node_head_at, attribute_name_at, attribute_at, name_of, attributes_at, held_at, node_name_at, node_tail_at, node_fields_at, node_of_fields, node_at, number_of, nodes_at}
use Rattle.checkpoint_image.proofs.ChainLemmas.{short_codec, long_codec}
use Rattle.checkpoint_image.proofs.FieldLemmas.{AnyKind, kind_spelling, kind_codec, IsNumberAfter, after_codec, IsNameOrNone, node_name_codec, IsNameAfter, name_after_parts, name_after_from, attribute_name_codec, after_none}
use Rattle.checkpoint_image.proofs.OrderLemmas.{IsAfter, chained, each_fits, rising}

abbrev IsName : List ℕ → Type 0
IsName name = IsTrue (is_principal_name name)

abbrev IsText : List ℕ → Type 0
IsText text = IsTrue (is_text text)

-- ---- the head of a node

abbrev IsOwned : List ℕ × ℕ → Type 0
IsOwned = AreBoth IsName IsSpellableNumber

abbrev owned_spelling : List ℕ × ℕ → List ℕ
owned_spelling = both_spelling with_length number_spelling

owned_codec : IsCodec IsOwned owned_spelling owned_at
unfolding both_at owned_at
owned_codec = both_codec IsName with_length name_at IsSpellableNumber number_spelling (λ input. u64_at) name_codec u64_codec

abbrev IsKinded : Kind × (List ℕ × ℕ) → Type 0
IsKinded = AreBoth AnyKind IsOwned

abbrev kinded_spelling : Kind × (List ℕ × ℕ) → List ℕ
kinded_spelling = both_spelling kind_spelling owned_spelling

kinded_codec : IsCodec IsKinded kinded_spelling kinded_at
unfolding both_at kinded_at
kinded_codec = both_codec AnyKind kind_spelling kind_at IsOwned owned_spelling owned_at kind_codec owned_codec

abbrev IsHead : ℕ → ℕ × (Kind × (List ℕ × ℕ)) → Type 0
IsHead previous = AreBoth (IsNumberAfter previous) IsKinded

abbrev heads_spelling : ℕ × (Kind × (List ℕ × ℕ)) → List ℕ
heads_spelling = both_spelling number_spelling kinded_spelling

head_codec : (previous : ℕ) → IsCodec (IsHead previous) heads_spelling (node_head_at previous)
unfolding both_at node_head_at
head_codec previous = both_codec (IsNumberAfter previous) number_spelling (number_after previous) IsKinded kinded_spelling kinded_at (after_codec previous) kinded_codec

-- ---- attributes

abbrev Attribute : Type 0
Attribute = List ℕ × List ℕ

abbrev IsAttribute : Attribute → Type 0
IsAttribute attribute = IsTrue (is_attribute_name attribute.0) × IsText attribute.1

abbrev IsAttributeAfter : List ℕ → Attribute → Type 0
IsAttributeAfter = IsAfter (slice_cmp nat_cmp) IsAttribute

attribute_codec : (previous : List ℕ) → IsCodec (IsAttributeAfter previous) attribute_spelling (attribute_at previous)
unfolding both_at attribute_at
attribute_codec previous =
    same_codec (AreBoth (IsNameAfter previous) IsText) (both_spelling with_length with_length) (both_at (attribute_name_at previous) text_at) (IsAttributeAfter previous) attribute_spelling (attribute_at previous)
    (both_codec (IsNameAfter previous) with_length (attribute_name_at previous) IsText with_length text_at (attribute_name_codec previous) text_codec)
    (λ a h. let parts = name_after_parts previous a.0 h.0 in (parts.1, (parts.0, h.1))) (λ a h. (name_after_from previous a.0 h.1.0 h.0, h.1.1)) (λ a. refl) (λ input bytes. refl)

all_named : (attributes : Attributes) → AllByRecursion IsAttribute attributes → AllByRecursion (λ attribute. IsTrue (is_attribute_name attribute.0)) attributes
all_named [] h = tt
all_named (a ∷ attributes) h = (h.0.0, all_named attributes h.1)

all_texts : (attributes : Attributes) → AllByRecursion IsAttribute attributes → AllByRecursion (λ attribute. IsTrue (is_text attribute.1)) attributes
all_texts [] h = tt
all_texts (a ∷ attributes) h = (h.0.1, all_texts attributes h.1)

all_attributes : (attributes : Attributes) → AllByRecursion (λ attribute. IsTrue (is_attribute_name attribute.0)) attributes → AllByRecursion (λ attribute. IsTrue (is_text attribute.1)) attributes → AllByRecursion IsAttribute attributes
all_attributes [] named texts = tt
all_attributes (a ∷ attributes) named texts = ((named.0, texts.0), all_attributes attributes named.1 texts.1)

all_after_none : (attributes : Attributes) → AllByRecursion (λ attribute. IsTrue (is_attribute_name attribute.0)) attributes → AllByRecursion (λ name. slice_cmp nat_cmp [] name ≡ Less) (keys_of attributes)
all_after_none [] named = tt
all_after_none (a ∷ attributes) named = (after_none a.0 named.0, all_after_none attributes named.1)

abbrev AreAttributes : Attributes → Type 0
AreAttributes = AreShortChained IsAttributeAfter name_of []

attributes_from : (attributes : Attributes) → AreAttributes attributes → AreSpellableAttributes attributes
attributes_from attributes h =
    let each = each_fits (slice_cmp nat_cmp) IsAttribute [] attributes h.chained in
    record { few = h.few; named = all_named attributes each; texts = all_texts attributes each; rising = rising (slice_cmp nat_cmp) nat_list_cmp_total IsAttribute [] attributes h.chained }

attributes_are : (attributes : Attributes) → AreSpellableAttributes attributes → AreAttributes attributes
attributes_are attributes h = record {
  few = h.few;
  chained = chained (slice_cmp nat_cmp) IsAttribute [] attributes (all_after_none attributes h.named) h.rising (all_attributes attributes h.named h.texts);
}

attributes_codec : IsCodec AreSpellableAttributes (list_spelling attribute_spelling) attributes_at
attributes_codec =
    same_codec AreAttributes (list_spelling attribute_spelling) (λ input. short_list_at (λ previous. attribute_at previous input) name_of []) AreSpellableAttributes (list_spelling attribute_spelling) attributes_at
    (short_codec IsAttributeAfter name_of [] attribute_spelling attribute_at attribute_codec) attributes_from attributes_are (λ attributes. refl) (λ input bytes. refl)

-- ---- the tail of a node

abbrev IsHeld : Attributes × List ℕ → Type 0
IsHeld = AreBoth AreSpellableAttributes FitsFourBytes

abbrev held_spelling : Attributes × List ℕ → List ℕ
held_spelling = both_spelling (list_spelling attribute_spelling) sized_bytes_spelling

held_codec : IsCodec IsHeld held_spelling held_at
unfolding both_at held_at
held_codec = both_codec AreSpellableAttributes (list_spelling attribute_spelling) attributes_at FitsFourBytes sized_bytes_spelling (λ input. sized_bytes_at) attributes_codec sized_bytes_codec

abbrev IsTail : List ℕ × (Attributes × List ℕ) → Type 0
IsTail = AreBoth IsNameOrNone IsHeld

abbrev tails_spelling : List ℕ × (Attributes × List ℕ) → List ℕ
tails_spelling = both_spelling with_length held_spelling

tail_codec : IsCodec IsTail tails_spelling node_tail_at
unfolding both_at node_tail_at
tail_codec = both_codec IsNameOrNone with_length node_name_at IsHeld held_spelling held_at node_name_codec held_codec

-- ---- a node

abbrev Fields : Type 0
Fields = (ℕ × (Kind × (List ℕ × ℕ))) × (List ℕ × (Attributes × List ℕ))

fields_codec : (previous : ℕ) → IsCodec (AreBoth (IsHead previous) IsTail) (both_spelling heads_spelling tails_spelling) (node_fields_at previous)
unfolding both_at node_fields_at
fields_codec previous = both_codec (IsHead previous) heads_spelling (node_head_at previous) IsTail tails_spelling node_tail_at (head_codec previous) tail_codec

abbrev fields_of_node : ℕ × Item → Fields
fields_of_node row = ((row.0, (row.1.kind, (row.1.owner, row.1.place.directory))), (row.1.place.name, (row.1.attributes, row.1.contents)))

abbrev IsNodeAfter : ℕ → ℕ × Item → Type 0
IsNodeAfter = IsAfter nat_cmp IsSpellableNode

node_from : (previous : ℕ) (f : Fields) → AreBoth (IsHead previous) IsTail f → IsNodeAfter previous (node_of_fields f)
node_from previous f h =
    let above : previous < f.0.0 = h.0.0.0 in (
      less_from_lt previous f.0.0 above,
      record {
        above_zero = omega (arith, above);
        number = h.0.0.1;
        owner = h.0.1.1.0;
        directory = h.0.1.1.1;
        name = h.1.0;
        attributes = h.1.1.0;
        contents = h.1.1.1;
      },
    )

node_is : (previous : ℕ) (row : ℕ × Item) → IsNodeAfter previous row → AreBoth (IsHead previous) IsTail (fields_of_node row)
node_is previous row h =
    (((lt_from_less previous row.0 h.0, h.1.number), (tt, (h.1.owner, h.1.directory))), (h.1.name, (h.1.attributes, h.1.contents)))

node_codec : (previous : ℕ) → IsCodec (IsNodeAfter previous) node_spelling (node_at previous)
unfolding node_head_spelling node_tail_spelling
node_codec previous =
    made_codec (AreBoth (IsHead previous) IsTail) (both_spelling heads_spelling tails_spelling) (node_fields_at previous) (IsNodeAfter previous) node_spelling node_of_fields fields_of_node
    (fields_codec previous) (node_from previous) (node_is previous) (λ f. refl) (λ row. refl)

-- ---- nodes

abbrev AreNodes : List (ℕ × Item) → Type 0
AreNodes = AreLongChained IsNodeAfter number_of 0

all_above_zero : (rows : List (ℕ × Item)) → AllByRecursion IsSpellableNode rows → AllByRecursion (λ number. nat_cmp 0 number ≡ Less) (keys_of rows)
all_above_zero [] each = tt
all_above_zero (row ∷ rows) each = (less_from_lt 0 row.0 each.0.above_zero, all_above_zero rows each.1)

nodes_from : (rows : List (ℕ × Item)) → AreNodes rows → AreSpellableNodes rows
nodes_from rows h = record { few = h.few; each = each_fits nat_cmp IsSpellableNode 0 rows h.chained; rising = rising nat_cmp nat_cmp_total IsSpellableNode 0 rows h.chained }

nodes_are : (rows : List (ℕ × Item)) → AreSpellableNodes rows → AreNodes rows
nodes_are rows h = record { few = h.few; chained = chained nat_cmp IsSpellableNode 0 rows (all_above_zero rows h.each) h.rising h.each }

pub nodes_codec : IsCodec AreSpellableNodes nodes_spelling nodes_at
nodes_codec =
    same_codec AreNodes (long_list_spelling node_spelling) (λ input. long_list_at (λ previous. node_at previous input) number_of 0) AreSpellableNodes nodes_spelling nodes_at
    (long_codec IsNodeAfter number_of 0 node_spelling node_at node_codec) nodes_from nodes_are (λ rows. refl) (λ input bytes. refl)
