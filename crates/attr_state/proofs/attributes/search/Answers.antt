-- The closure compares an attribute's name with the one that is sought.
use Rattle.std.proofs.Common.{rules}
use Rattle.std.specs.Ordering.{nat_cmp}
use Rattle.std.specs.Cmp.Lexicographic.{slice_cmp}
use Rattle.std.proofs.lemmas.Fn.{always_returns_same}
use Rattle.attr_state.proofs.NameLemmas.{searched}
use Rattle.attr_state.proofs.attributes.search.Goals as goal

pub returns-clause-found : goal.returns-clause-found
returns-clause-found c =
    let facts = c.binary_search_by.ensures in
    (searched c.args.attributes.now c.args.name.now _ c.requires facts.bound
    (facts.position (λ attribute. slice_cmp nat_cmp attribute.0 c.args.name.now) (always_returns_same _ _ _ (λ a r f' k. search rules)))).found

pub returns-clause-absent : goal.returns-clause-absent
returns-clause-absent c =
    let facts = c.binary_search_by.ensures in
    (searched c.args.attributes.now c.args.name.now _ c.requires facts.bound
    (facts.position (λ attribute. slice_cmp nat_cmp attribute.0 c.args.name.now) (always_returns_same _ _ _ (λ a r f' k. search rules)))).absent
