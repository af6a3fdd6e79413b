use Rattle.std.proofs.Common.{◌≡◌, arith}
use Rattle.pcfs_hmac.proofs.hashers.padded_hasher.Goals as goal
use Rattle.pcfs_hmac.proofs.BlockKeyLemmas.{IsPaddedTo-set, IsPaddedTo_all}

pub loop-byte-preserved : goal.loop-byte-preserved
loop-byte-preserved c =
    IsPaddedTo-set c.loop-byte.byte-items c.args.block.now c.args.pad c.loop-byte.byte-index (omega arith) c.loop-byte.invariant

pub returns : goal.returns
returns c =
    let ended : c.loop-byte.byte-index ≡ 64 = omega arith in
    rw (IsPaddedTo_all c.loop-byte.byte-items c.args.block.now c.args.pad 64 c.told-block (rw ended at c.loop-byte.invariant)) c.new_with_prefix.ensures
