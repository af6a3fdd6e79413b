-- The rules of the three classes, one after the other.
use Rattle.std.proofs.Common.{◌++◌}
use Rattle.mode_policy.specs.declared.modes.Class.TheVariants.{Owner, Group, Other}
use Rattle.mode_policy.specs.Statements.{rules_for}
use Rattle.mode_policy.proofs.StatingLemmas.{Appends-then}
use Rattle.mode_policy.proofs.stating.state_rules.Goals as goal

pub returns : goal.returns
returns c =
    let f = c.args.f.now in
    Appends-then c.args.on.from c.args.on.to (rules_for f Owner) (rules_for f Group ++ rules_for f Other) c.args.out.now c.state_rules_for.new.out c.state_rules_for-3.new.out c.state_rules_for-3.result c.in_ok-state_rules_for.ensures
    (Appends-then c.args.on.from c.args.on.to (rules_for f Group) (rules_for f Other) c.state_rules_for.new.out c.state_rules_for-2.new.out c.state_rules_for-3.new.out c.state_rules_for-3.result c.in_ok-state_rules_for-2.ensures
    c.state_rules_for-3.ensures)
