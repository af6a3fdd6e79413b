use Rattle.std.proofs.Common.{arith}
use Rattle.pcfs_ports.proofs.TakesLemmas.{first_of_taken, some_of_taken, on_err}
use Rattle.pcfs_ports.proofs.streams.read_to_end.Goals as goal

pub returns-in_err-take_piece-clause-err : goal.returns-in_err-take_piece-clause-err
returns-in_err-take_piece-clause-err g c =
    on_err c.from_residual-in_err-take_piece.result
    (some_of_taken _ _ _ _ c.loop-input.invariant.moved c.in_err-take_piece.ensures.err)

pub returns-clause-too_long : goal.returns-clause-too_long
returns-clause-too_long g c _ = first_of_taken _ _ _ _ (omega arith) c.loop-input.invariant.moved
