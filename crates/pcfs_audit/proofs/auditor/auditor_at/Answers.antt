-- It begins with the world, the moment and the count of the base.
use Rattle.std.proofs.Common.{◌∙◌, ap}
use Rattle.std.specs.Int.{w64}
use Rattle.std.proofs.lemmas.Int.{to_z-of_z}
use Rattle.world_state.specs.State.{WorldState}
use Rattle.pcfs_audit.proofs.FollowingLemmas.{audited_base}
use Rattle.pcfs_audit.proofs.auditor.auditor_at.Goals as goal

pub returns : goal.returns
returns c authority = audited_base authority c.args.base.now _ (ap (λ (w : WorldState). w.world) c.in_ok-world.ensures ∙ c.world.ensures) (to_z-of_z w64 c.moment.result (record { sfits = c.moment.type_inv }) ∙ c.moment.ensures) c.count.ensures c.new.ensures
