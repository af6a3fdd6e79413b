-- The lines before the rest were signed.
use Rattle.std.proofs.Common.{length}
use Rattle.root_signing.proofs.SignLemmas.{HasSigned}
use Rattle.root_signing.proofs.signing.sign_lines.Given as goal

abbrev pub invariant-loop-line : goal.invariant-loop-line
invariant-loop-line l = HasSigned l.fn.signer l.fn.lines l.fn.out l.signer l.rest l.out l.number

abbrev pub decreases-loop-line : goal.decreases-loop-line
decreases-loop-line l = length l.rest
