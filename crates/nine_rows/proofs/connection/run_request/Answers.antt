-- After a walk was taken there is room for the fid that it makes.
use Rattle.std.proofs.Common.{subst}
use Rattle.nine_messages.specs.declared.request.Request.{Request}
use Rattle.nine_messages.specs.Views.{request_view}
use Rattle.nine_fids.specs.declared.step.Step.{Step}
use Rattle.nine_fids.specs.declared.step.Step.TheVariants.{Walk}
use Rattle.nine_fids.specs.Taking.{IsTaken}
use Rattle.nine_fids.proofs.LawLemmas.{walk_has_room}
use Rattle.nine_rows.proofs.connection.run_request.Goals as goal

pub walk-requires : goal.walk-requires
walk-requires g c =
    let step = subst (λ (s : Step). IsTaken c.args.connection.now (request_view c.args.message.now.request) s c.take.new.self) c.in-Walk.is c.in_ok-error.ensures.ok in
    let taken = subst (λ (r : Request). IsTaken c.args.connection.now (request_view r) (Walk c.in-Walk.node) c.take.new.self) c.in-Walk-request.is step in
    walk_has_room c.args.connection.now c.take.new.self taken.asked c.in-Walk-request.field-0 c.in-Walk-request.newfid c.in-Walk-request.names c.in-Walk.node taken.is
