-- A base has no events.
use Rattle.std.proofs.Common.{[], ap, length, subst, sym, ◌∙◌}
use Rattle.std.specs.List.{AllByRecursion}
use Rattle.std.proofs.lemmas.List.{length-map}
use Rattle.pcfs_audit.specs.Ends.{AreEnds, IsEndWithin, NeverEnds, base_end}
use Rattle.pcfs_audit.proofs.EndsLemmas.{AreEnds-base, base_within}
use Rattle.pcfs_audit.proofs.papers.base_papers.Goals as goal

pub returns : goal.returns
returns c =
    let ends_is = sym c.in_ok-ends.ensures in
    record {
      statements_are = c.in_ok-statements.ensures;
      grants_are = c.in_ok-grants.ensures ∙ c.requires;
      before_are = c.new.ensures.items;
      ends_counted = ap length c.in_ok-ends.ensures ∙ length-map c.args.base.now.statements base_end;
      ends_within = subst (AllByRecursion (IsEndWithin 0)) ends_is (base_within c.args.base.now.statements);
      ends_are = subst (AreEnds c.args.base.now []) ends_is (AreEnds-base c.args.base.now);
      none_ended = λ none. subst (AllByRecursion NeverEnds) c.as_slice.ensures.value (c.has_ended-has_ended.ensures none);
    }
