-- The digests of the grants so far.
use Rattle.std.proofs.Common.{◌≡◌, take}
use Rattle.pcfs_audit.specs.Firsts.{grant_digests}
use Rattle.pcfs_audit.specs.Papers.{shown}
use Rattle.pcfs_audit.proofs.digests.grant_digests.Given as goal

abbrev pub invariant-loop-grant : goal.invariant-loop-grant
invariant-loop-grant l = l.digests.items ≡ grant_digests l.key (shown (take l.grant-index l.grants))
