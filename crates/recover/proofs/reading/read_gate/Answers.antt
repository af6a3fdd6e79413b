-- A gate over the state of the image, or the damage of the image.
use Rattle.std.proofs.Common.{sym, subst, arith}
use Rattle.std.specs.Prelude.{Err}
use Rattle.op_gate.specs.declared.damage.AdmitFault.{AdmitFault}
use Rattle.recover.specs.Reading.{ReadsGate}
use Rattle.recover.proofs.ImageLemmas.{gate_read, image_not_read}
use Rattle.recover.proofs.reading.read_gate.Goals as goal

pub returns-in-Ok : goal.returns-in-Ok
returns-in-Ok c =
    gate_read c.args.key.now c.args.ring c.args.image.now c.in-Ok.base c.from_base.result (λ i. omega (arith, c.type_inv.image i)) c.in-Ok.ensures c.from_base.ensures.gate c.from_base.ensures.answer

pub returns-in-Err : goal.returns-in-Err
returns-in-Err c =
    subst (λ (f : AdmitFault). ReadsGate c.args.key.now c.args.ring c.args.image.now (Err f)) (sym c.unread.ensures) (image_not_read c.args.key.now c.args.ring c.args.image.now c.in-Err.fault c.in-Err.ensures)
