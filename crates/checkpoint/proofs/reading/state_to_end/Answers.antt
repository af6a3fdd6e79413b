-- Nodes that are no world, then bytes that are left over.
use Rattle.std.proofs.Common.{sym, subst, ◌∙◌}
use Rattle.std.specs.Prelude.{ℕ, Err}
use Rattle.std.proofs.lemmas.Bool.{eqb-true, eqb-false}
use Rattle.bl_syntax.specs.declared.codec_fault.CodecFault.TheVariants.{NotCanonical}
use Rattle.checkpoint_image.specs.ImageReading.{base_of_image}
use Rattle.checkpoint.specs.Reading.{ReadsState}
use Rattle.checkpoint.proofs.ReadingLemmas.{world_reported, ended, not_ended}
use Rattle.checkpoint.proofs.reading.state_to_end.Goals as goal

pub returns-in-Err : goal.returns-in-Err
returns-in-Err c = λ at read. world_reported at c.args.bytes.now (base_of_image c.args.image) c.args.rest.now c.in-Err.fault read c.in-Err.ensures

pub returns-then-is_empty : goal.returns-then-is_empty
returns-then-is_empty c = λ at read.
    ended at c.args.bytes.now (base_of_image c.args.image) c.in-Ok.base c.args.rest.now read (eqb-true _ _ (sym c.is_empty.ensures ∙ c.if-is_empty.true)) c.in-Ok.ensures.0 c.in-Ok.ensures.1

pub returns-else-is_empty : goal.returns-else-is_empty
returns-else-is_empty c = λ at read.
    subst (λ (n : ℕ). ReadsState at c.args.bytes.now (Err (NotCanonical n))) (sym c.place.ensures)
    (not_ended at c.args.bytes.now (base_of_image c.args.image) c.args.rest.now read (eqb-false _ _ (sym c.is_empty.ensures ∙ c.if-is_empty.false)) c.in-Ok.ensures.1)
