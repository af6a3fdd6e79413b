use Rattle.pcfs_hmac.specs.Hmac.{hmac, ipad, opad}
use Rattle.pcfs_hmac.proofs.mac.Goals as goal

pub returns : goal.returns
unfolding hmac ipad opad
returns c = rw (← c.block_key-block.ensures) (c.tag.ensures _ _ (c.update.ensures _ c.padded_hasher-inner.ensures) c.padded_hasher.ensures)
