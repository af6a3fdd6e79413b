-- Images and the states that they are of, over plain values.
use Rattle.std.proofs.Common.{◌≡◌, ℕ, List, [], sym, ap, subst, None}
use Rattle.std.specs.Prelude.{Result, Ok, Err, IfOk}
use Rattle.bl_syntax.specs.Codec.{AreBytes}
use Rattle.bl_syntax.specs.declared.codec_fault.CodecFault.{CodecFault}
use Rattle.bl_syntax.specs.declared.codec_fault.CodecFault.TheVariants as codec
use Rattle.policy_statement.specs.Ring.{KeyView}
use Rattle.access_history.specs.Base.{BaseView}
use Rattle.access_history.specs.History.{authority_with}
use Rattle.checkpoint.specs.Reading.{IsImageOf, GivesImage}
use Rattle.checkpoint.proofs.ReadingLemmas.{read_is_image, fault_is_no_image}
use Rattle.op_gate.specs.declared.damage.AdmitFault.{AdmitFault}
use Rattle.op_gate.specs.declared.damage.AdmitFault.TheVariants.{Damaged, NoMemory}
use Rattle.op_gate.specs.BaseDamage.{TellsBase}
use Rattle.op_gate.specs.Decision.{GateView}
use Rattle.recover.specs.AreaDamage.{no_state, of_state}
use Rattle.recover.specs.Reading.{ReadsGate, unread}

-- bytes that were not read are the image of no state
pub image_not_read : (key : List ℕ) (ring : List KeyView) (image : List ℕ) (fault : CodecFault) → GivesImage image (Err fault) → ReadsGate key ring image (Err (unread fault))
image_not_read key ring image codec.Short gives = no_state (λ base is. fault_is_no_image image codec.Short base gives is)
image_not_read key ring image (codec.BadTag at) gives = no_state (λ base is. fault_is_no_image image (codec.BadTag at) base gives is)
image_not_read key ring image (codec.NotCanonical at) gives = no_state (λ base is. fault_is_no_image image (codec.NotCanonical at) base gives is)
image_not_read key ring image (codec.TooLarge at) gives = no_state (λ base is. fault_is_no_image image (codec.TooLarge at) base gives is)
image_not_read key ring image codec.NoMemory gives = tt

-- a gate that begins with the state that was read, or the damage of that state
pub gate_read : (key : List ℕ) (ring : List KeyView) (image : List ℕ) (base : BaseView) (told : Result GateView AdmitFault) → AreBytes image → GivesImage image (Ok base) →
    IfOk told (λ gate. gate ≡ record { key = key; ring = ring; base = base; events = []; pending = None }) → TellsBase (authority_with key ring) base told → ReadsGate key ring image told
gate_read key ring image base (Ok gate) bytes gives is tells = record {
  key_is = ap (λ (g : GateView). g.key) is;
  ring_is = ap (λ (g : GateView). g.ring) is;
  image_is = subst (λ (b : BaseView). IsImageOf b image) (sym (ap (λ (g : GateView). g.base) is)) (read_is_image image base bytes gives);
  events_are = ap (λ (g : GateView). g.events) is;
  idle = ap (λ (g : GateView). g.pending) is;
}
gate_read key ring image base (Err (Damaged damage)) bytes gives is tells = of_state base damage (read_is_image image base bytes gives) tells
gate_read key ring image base (Err NoMemory) bytes gives is tells = tt
