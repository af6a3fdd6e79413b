use Rattle.std.proofs.Common.{arith}
use Rattle.proof_term.proofs.PartLemmas.{is_kept, part_ok, part_fails}
use Rattle.proof_term.proofs.part.proof_at.Goals as goal

pub keep-requires : goal.keep-requires
keep-requires c = is_kept c.args.input c.args.bytes.now c.in-Ok.rest.now _ c.in-Ok._nodes_left (λ i. omega (arith, c.type_inv.bytes i)) c.in-Ok.ensures

pub returns-in-Ok : goal.returns-in-Ok
returns-in-Ok c = rw c.keep.ensures (part_ok c.args.input c.args.bytes.now c.in-Ok.rest.now _ c.in-Ok._nodes_left c.in-Ok.ensures)

pub returns-in-Err : goal.returns-in-Err
returns-in-Err c = part_fails c.args.input c.args.bytes.now c.in-Err.fault c.in-Err.ensures
