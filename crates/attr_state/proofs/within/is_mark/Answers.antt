-- A mark is within the limits exactly if it has few attributes, whose names are names and rise; the rest its type says.
use Rattle.std.proofs.Common.{◌≡◌, ◌≤◌, length, true, false, sym, ap, ◌∙◌, subst}
use Rattle.std.specs.Prelude.{IsTrue}
use Rattle.std.specs.List.{list_all, AllByRecursion}
use Rattle.std.proofs.lemmas.Bool.{false≢true}
use Rattle.bl_syntax.specs.Names.{is_text}
use Rattle.file_world.specs.FileNames.{is_attribute_name}
use Rattle.file_world.specs.Attributes.{Attributes}
use Rattle.attr_state.specs.Index.{AreSorted}
use Rattle.attr_state.proofs.NameLemmas.{Attribute}
use Rattle.attr_state.proofs.WithinLemmas.{each_passes, all_pass}
use Rattle.attr_state.proofs.within.is_mark.Goals as goal

pub returns-then-not-are_named : goal.returns-then-not-are_named
returns-then-not-are_named c =
    let attributes : Attributes = c.args.row.now.attributes in
    let same : c.as_slice-attributes.result.now ≡ attributes = c.as_slice-attributes.ensures in
    let not : list_all (λ (attribute : Attribute). is_attribute_name attribute.0) attributes ≡ false =
    ap (list_all (λ (attribute : Attribute). is_attribute_name attribute.0)) (sym same) ∙ (sym c.are_named.ensures ∙ c.if-not-are_named.true) in (
      λ t. absurd (false≢true t),
      λ is. absurd (false≢true (sym not ∙ all_pass (λ (attribute : Attribute). is_attribute_name attribute.0) attributes is.named)),
    )

pub returns : goal.returns
returns c =
    let attributes : Attributes = c.args.row.now.attributes in
    let same : c.as_slice-attributes.result.now ≡ attributes = c.as_slice-attributes.ensures in
    let few : length attributes ≤ 32 = subst (λ (them : Attributes). length them ≤ 32) same c.if-attributes-gt-MOST_ATTRIBUTES.false in
    let named : list_all (λ (attribute : Attribute). is_attribute_name attribute.0) attributes ≡ true =
    ap (list_all (λ (attribute : Attribute). is_attribute_name attribute.0)) (sym same) ∙ (sym c.are_named.ensures ∙ c.if-not-are_named.false) in (
      λ t. record {
        owned = c.bytes.ensures.named;
        named = each_passes (λ (attribute : Attribute). is_attribute_name attribute.0) attributes named;
        texts = subst (AllByRecursion (λ (attribute : Attribute). IsTrue (is_text attribute.1))) same c.are_texts.ensures;
        rising = subst AreSorted same (c.do_names_rise.ensures.0 t);
        few = few;
      },
      λ is. c.do_names_rise.ensures.1 (subst AreSorted (sym same) is.rising),
    )
