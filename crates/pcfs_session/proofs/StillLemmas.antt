-- Counts of faults that stand still until a script ends.
use Rattle.std.proofs.Common.{◌≡◌, ◌≢◌, ℕ, refl, sym, subst}
use Rattle.pcfs_session.specs.Streams.{Streams}
use Rattle.pcfs_session.specs.declared.outbox.SendFault.{SendFault}
use Rattle.pcfs_session.specs.declared.outbox.SendFault.TheVariants.{Write, NoMemory}
use Rattle.pcfs_session.specs.declared.script_end.Halt.{Halt}
use Rattle.pcfs_session.specs.declared.script_end.Halt.TheVariants.{Unsent, Stopped}
use Rattle.pcfs_session.specs.declared.script_end.ScriptEnd.{ScriptEnd}
use Rattle.pcfs_session.specs.declared.script_end.ScriptEnd.TheVariants as script_ends
use Rattle.pcfs_session.specs.Ends.{unsent_end, halted_end, HaltStandsStill, InputStandsStill, OutputStandsStill, NothingFailedBefore}

-- a reply that was not sent, since the output failed or memory ran out
pub halt_unsent : (fault : SendFault) (before after : ℕ) → (fault ≡ NoMemory → after ≡ before) → HaltStandsStill (Unsent fault) before after
halt_unsent Write before after steady = tt
halt_unsent NoMemory before after steady = steady refl

-- the output stood still up to a halt
pub halt_then : (halt : Halt) (before mid after : ℕ) → mid ≡ before → HaltStandsStill halt mid after → HaltStandsStill halt before after
halt_then halt before mid after same still = subst (λ (n : ℕ). HaltStandsStill halt n after) same still

-- so at the end of a reply that was not sent
pub still_unsent : (fault : SendFault) (how : ScriptEnd) (before after : ℕ) → how ≡ unsent_end fault → (fault ≡ NoMemory → after ≡ before) → OutputStandsStill how before after
still_unsent Write how before after is steady = subst (λ (h : ScriptEnd). OutputStandsStill h before after) (sym is) tt
still_unsent NoMemory how before after is steady = subst (λ (h : ScriptEnd). OutputStandsStill h before after) (sym is) (steady refl)

-- and at the end of a halt
pub still_halted : (halt : Halt) (how : ScriptEnd) (before after : ℕ) → how ≡ halted_end halt → HaltStandsStill halt before after → OutputStandsStill how before after
still_halted (Unsent Write) how before after is still = subst (λ (h : ScriptEnd). OutputStandsStill h before after) (sym is) tt
still_halted (Unsent NoMemory) how before after is still = subst (λ (h : ScriptEnd). OutputStandsStill h before after) (sym is) still
still_halted Stopped how before after is still = subst (λ (h : ScriptEnd). OutputStandsStill h before after) (sym is) still

-- the output stood still up to an end
pub still_then : (how : ScriptEnd) (before mid after : ℕ) → mid ≡ before → OutputStandsStill how mid after → OutputStandsStill how before after
still_then how before mid after same still = subst (λ (n : ℕ). OutputStandsStill how n after) same still

-- neither is a fault of the input
pub unsent_no_read : (fault : SendFault) (how : ScriptEnd) → how ≡ unsent_end fault → how ≢ script_ends.ReadFault
unsent_no_read Write how is same = absurd cc
unsent_no_read NoMemory how is same = absurd cc

pub halted_no_read : (halt : Halt) (how : ScriptEnd) → how ≡ halted_end halt → how ≢ script_ends.ReadFault
halted_no_read (Unsent fault) how is same = unsent_no_read fault how is same
halted_no_read Stopped how is same = absurd cc

-- and the input, after an end that it had no part in
input_same : (how : ScriptEnd) (before after : ℕ) → after ≡ before → InputStandsStill how before after
input_same script_ends.Done before after same = same
input_same script_ends.LineTooLong before after same = same
input_same script_ends.ReadFault before after same = tt
input_same script_ends.WriteFault before after same = same
input_same script_ends.NoMemory before after same = same
input_same script_ends.InputTooLong before after same = same
input_same script_ends.Stopped before after same = same

-- the input stood still, and the output up to how the script ends
pub NothingFailedBefore-then : (before after : Streams) (how : ScriptEnd) (mid : ℕ) → after.read_faults ≡ before.read_faults → mid ≡ before.write_faults → OutputStandsStill how mid after.write_faults → NothingFailedBefore before how after
NothingFailedBefore-then before after how mid reads writes still = record {
  input = input_same how before.read_faults after.read_faults reads;
  output = still_then how before.write_faults mid after.write_faults writes still;
}
