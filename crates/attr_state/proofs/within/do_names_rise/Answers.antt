-- The closure tells which of two attributes has the lesser name.
use Rattle.std.proofs.Common.{rules, nat_cmp}
use Rattle.std.specs.Ordering.{is_lt}
use Rattle.std.specs.Cmp.Lexicographic.{slice_cmp}
use Rattle.std.proofs.lemmas.Cmp.{nat_list_cmp_total}
use Rattle.std.proofs.lemmas.Fn.{always_returns_same}
use Rattle.attr_state.proofs.NameLemmas.{Attribute}
use Rattle.attr_state.proofs.WithinLemmas.{rise, tells_keys}
use Rattle.attr_state.proofs.within.do_names_rise.Goals as goal

pub returns : goal.returns
returns c =
    rise (slice_cmp nat_cmp) nat_list_cmp_total (λ (attribute : Attribute). attribute.0) (λ (x y : Attribute). is_lt (slice_cmp nat_cmp x.0 y.0)) (tells_keys (slice_cmp nat_cmp) (λ (attribute : Attribute). attribute.0))
    c.args.attributes.now c.is_sorted_by.result
    (c.is_sorted_by.ensures.cases (λ (x y : Attribute). is_lt (slice_cmp nat_cmp x.0 y.0)) (always_returns_same _ _ _ (λ a r f' k. search rules)))
