-- The one need is the server's.
use Rattle.std.proofs.Common.{[], ◌∷◌, refl}
use Rattle.client_tree.proofs.WorkLemmas.{one_needed, pushed_one, work_is}
use Rattle.client_tree.proofs.asking.one_need.Goals as goal

pub returns : goal.returns
returns c =
    work_is c.args.op (c.in_ok-new.field-0 ∷ []) _ refl
    (pushed_one _ _ _ c.new-needs.ensures.items c.in_ok-push.ensures.items)
    (one_needed c.args.op c.args.node c.args.permission c.in_ok-new.field-0 c.requires c.in_ok-new.ensures)
