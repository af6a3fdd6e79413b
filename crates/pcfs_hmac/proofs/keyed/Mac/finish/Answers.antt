use Rattle.pcfs_hmac.specs.Hmac.{hmac}
use Rattle.pcfs_hmac.proofs.keyed.Mac.finish.Goals as goal

pub returns : goal.returns
unfolding hmac
returns c = rw (← c.self.view_is) (c.tag.ensures _ _ c.self.invariant.0 c.self.invariant.1)
