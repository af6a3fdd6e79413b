-- Counts of faults that stand still until a session ends.
use Rattle.std.proofs.Common.{◌≡◌, ℕ, refl, sym, subst}
use Rattle.pcfs_session.specs.Streams.{Streams}
use Rattle.session_service.specs.declared.session_end.SessionEnd.{SessionEnd}
use Rattle.session_service.specs.declared.session_end.SessionEnd.TheVariants as session_ends
use Rattle.session_loop.specs.Ends as talks
use Rattle.session_loop.specs.declared.talk_end.TalkEnd.{TalkEnd}
use Rattle.session_loop.specs.declared.talk_end.TalkEnd.TheVariants as hows
use Rattle.session_service.specs.LineTalking.{session_end}
use Rattle.session_service.specs.Ends.{InputStandsStill, OutputStandsStill, NothingFailedBefore}

-- the output stood still up to an end
pub output_then : (how : SessionEnd) (before mid after : ℕ) → mid ≡ before → OutputStandsStill how mid after → OutputStandsStill how before after
output_then how before mid after same still = subst (λ (n : ℕ). OutputStandsStill how n after) same still

-- a greeting was written before, whose output stood still
pub NothingFailedBefore-greeted : (before mid after : Streams) (how : SessionEnd) → mid.read_faults ≡ before.read_faults → mid.write_faults ≡ before.write_faults → NothingFailedBefore mid how after → NothingFailedBefore before how after
NothingFailedBefore-greeted before mid after how reads writes still = record {
  input = subst (λ (n : ℕ). InputStandsStill how n after.read_faults) reads still.input;
  output = output_then how before.write_faults mid.write_faults after.write_faults writes still.output;
}

-- ---- as counts stand still until the talk ends

-- the same of ports
abbrev pub ports_in : Streams → talks.Ports
ports_in streams = record { left = streams.left; read_faults = streams.read_faults; held = streams.held; write_faults = streams.write_faults }

input_still : (how : TalkEnd) (before after : ℕ) → talks.InputStandsStill how before after → InputStandsStill (session_end how) before after
input_still hows.Done before after still = still
input_still hows.Bad before after still = still
input_still hows.ReadFault before after still = tt
input_still hows.WriteFault before after still = still
input_still hows.NoMemory before after still = still
input_still hows.InputTooLong before after still = still

output_still : (how : TalkEnd) (before after : ℕ) → talks.OutputStandsStill how before after → OutputStandsStill (session_end how) before after
output_still hows.Done before after still = still
output_still hows.Bad before after still = still
output_still hows.ReadFault before after still = still
output_still hows.WriteFault before after still = tt
output_still hows.NoMemory before after still = still
output_still hows.InputTooLong before after still = still

still_talk : (before after : Streams) (how : TalkEnd) → talks.NothingFailedBefore (ports_in before) how (ports_in after) → NothingFailedBefore before (session_end how) after
still_talk before after how still = record {
  input = input_still how before.read_faults after.read_faults still.input;
  output = output_still how before.write_faults after.write_faults still.output;
}

pub NothingFailedBefore-talk : (before after : Streams) (how : TalkEnd) (end : SessionEnd) → end ≡ session_end how → talks.NothingFailedBefore (ports_in before) how (ports_in after) → NothingFailedBefore before end after
NothingFailedBefore-talk before after how end is still = subst (λ (n : SessionEnd). NothingFailedBefore before n after) (sym is) (still_talk before after how still)

-- a session ends by a fault only if its talk does
pub ends_by_read : (how : TalkEnd) → session_end how ≡ session_ends.ReadFault → how ≡ hows.ReadFault
ends_by_read hows.Done is = absurd cc
ends_by_read hows.Bad is = absurd cc
ends_by_read hows.ReadFault is = refl
ends_by_read hows.WriteFault is = absurd cc
ends_by_read hows.NoMemory is = absurd cc
ends_by_read hows.InputTooLong is = absurd cc

pub ends_by_write : (how : TalkEnd) → session_end how ≡ session_ends.WriteFault → how ≡ hows.WriteFault
ends_by_write hows.Done is = absurd cc
ends_by_write hows.Bad is = absurd cc
ends_by_write hows.ReadFault is = absurd cc
ends_by_write hows.WriteFault is = refl
ends_by_write hows.NoMemory is = absurd cc
ends_by_write hows.InputTooLong is = absurd cc
