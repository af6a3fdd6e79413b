-- What a proof cites may be named.
use Rattle.std.proofs.Common.{inr, sym, ap, subst, ◌∙◌}
use Rattle.bl_syntax.specs.Grant.{MayName}
use Rattle.access_history.specs.Citing.{numbers_of}
use Rattle.op_gate.proofs.FittingLemmas.{named_few}
use Rattle.op_gate.proofs.decide.parts_naming_cited.Goals as goal

pub issue_parts-requires-clause-few : goal.issue_parts-requires-clause-few
issue_parts-requires-clause-few c = named_few _ c.requires

pub issue_parts-requires-clause-named : goal.issue_parts-requires-clause-named
issue_parts-requires-clause-named c =
    let named_are = c.in_ok-named.ensures ∙ ap numbers_of (c.as_slice.ensures.same ∙ c.cited.ensures.same) in
    subst MayName (sym named_are) (inr c.requires)
