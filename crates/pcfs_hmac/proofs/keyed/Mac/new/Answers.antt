use Rattle.std.proofs.lemmas.List.{append-nil}
use Rattle.pcfs_hmac.specs.Hmac.{ipad, opad}
use Rattle.pcfs_hmac.proofs.keyed.Mac.new.Goals as goal

pub invariant_of-result : goal.invariant_of-result
unfolding ipad opad
invariant_of-result c =
    rw (c.join.ensures, c.nothing.ensures, c.nothing-2.ensures, append-nil, ← c.block_key-block.ensures) (c.padded_hasher.ensures, c.padded_hasher-2.ensures)
