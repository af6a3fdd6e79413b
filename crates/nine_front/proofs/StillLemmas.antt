-- Counts of faults stand still until a connection ends, as they do until its talk does.
use Rattle.std.proofs.Common.{◌≡◌, ℕ, refl, sym, subst}
use Rattle.pcfs_session.specs.Streams.{Streams}
use Rattle.session_loop.specs.Ends as talks
use Rattle.session_loop.specs.declared.talk_end.TalkEnd.{TalkEnd}
use Rattle.session_loop.specs.declared.talk_end.TalkEnd.TheVariants as hows
use Rattle.nine_front.specs.declared.nine_end.NineEnd.{NineEnd}
use Rattle.nine_front.specs.declared.nine_end.NineEnd.TheVariants as ends
use Rattle.nine_front.specs.Ends.{InputStandsStill, OutputStandsStill, NothingFailedBefore}
use Rattle.nine_front.specs.NineTalking.{nine_end}

-- the same of ports
abbrev pub ports_in : Streams → talks.Ports
ports_in streams = record { left = streams.left; read_faults = streams.read_faults; held = streams.held; write_faults = streams.write_faults }

input_still : (how : TalkEnd) (before after : ℕ) → talks.InputStandsStill how before after → InputStandsStill (nine_end how) before after
input_still hows.Done before after still = still
input_still hows.Bad before after still = still
input_still hows.ReadFault before after still = tt
input_still hows.WriteFault before after still = still
input_still hows.NoMemory before after still = still
input_still hows.InputTooLong before after still = still

output_still : (how : TalkEnd) (before after : ℕ) → talks.OutputStandsStill how before after → OutputStandsStill (nine_end how) before after
output_still hows.Done before after still = still
output_still hows.Bad before after still = still
output_still hows.ReadFault before after still = still
output_still hows.WriteFault before after still = tt
output_still hows.NoMemory before after still = still
output_still hows.InputTooLong before after still = still

still_talk : (before after : Streams) (how : TalkEnd) → talks.NothingFailedBefore (ports_in before) how (ports_in after) → NothingFailedBefore before (nine_end how) after
still_talk before after how still = record {
  input = input_still how before.read_faults after.read_faults still.input;
  output = output_still how before.write_faults after.write_faults still.output;
}

pub NothingFailedBefore-talk : (before after : Streams) (how : TalkEnd) (end : NineEnd) → end ≡ nine_end how → talks.NothingFailedBefore (ports_in before) how (ports_in after) → NothingFailedBefore before end after
NothingFailedBefore-talk before after how end is still = subst (λ (n : NineEnd). NothingFailedBefore before n after) (sym is) (still_talk before after how still)

-- a connection ends by a fault only if its talk does
pub ends_by_read : (how : TalkEnd) → nine_end how ≡ ends.ReadFault → how ≡ hows.ReadFault
ends_by_read hows.Done is = absurd cc
ends_by_read hows.Bad is = absurd cc
ends_by_read hows.ReadFault is = refl
ends_by_read hows.WriteFault is = absurd cc
ends_by_read hows.NoMemory is = absurd cc
ends_by_read hows.InputTooLong is = absurd cc

pub ends_by_write : (how : TalkEnd) → nine_end how ≡ ends.WriteFault → how ≡ hows.WriteFault
ends_by_write hows.Done is = absurd cc
ends_by_write hows.Bad is = absurd cc
ends_by_write hows.ReadFault is = absurd cc
ends_by_write hows.WriteFault is = refl
ends_by_write hows.NoMemory is = absurd cc
ends_by_write hows.InputTooLong is = absurd cc
