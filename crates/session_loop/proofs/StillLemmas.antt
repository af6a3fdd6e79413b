-- Counts of faults that stand still until a talk ends.
use Rattle.std.proofs.Common.{◌≡◌, ℕ, refl, sym, subst}
use Rattle.session_loop.specs.declared.talk_end.TalkEnd.{TalkEnd}
use Rattle.session_loop.specs.declared.talk_end.TalkEnd.TheVariants as ends
use Rattle.session_loop.specs.declared.talk_end.Unsent.{Unsent}
use Rattle.session_loop.specs.declared.talk_end.Unsent.TheVariants as unsents
use Rattle.session_loop.specs.Ends.{Ports, unsent_end, InputStandsStill, OutputStandsStill, NothingFailedBefore}

-- the output stood still up to an end
pub output_then : (how : TalkEnd) (before mid after : ℕ) → mid ≡ before → OutputStandsStill how mid after → OutputStandsStill how before after
output_then how before mid after same still = subst (λ (n : ℕ). OutputStandsStill how n after) same still

-- bytes that were not sent, since the output failed or memory ran out
pub still_unsent : (fault : Unsent) (how : TalkEnd) (before after : ℕ) → how ≡ unsent_end fault → (fault ≡ unsents.NoMemory → after ≡ before) → OutputStandsStill how before after
still_unsent unsents.Write how before after is steady = subst (λ (h : TalkEnd). OutputStandsStill h before after) (sym is) tt
still_unsent unsents.NoMemory how before after is steady = subst (λ (h : TalkEnd). OutputStandsStill h before after) (sym is) (steady refl)

-- if the output failed, it failed for these
pub unsent_write : (fault : Unsent) (how : TalkEnd) → how ≡ unsent_end fault → how ≡ ends.WriteFault → fault ≡ unsents.Write
unsent_write unsents.Write how is same = refl
unsent_write unsents.NoMemory how is same = absurd cc

-- and the input, after an end that it had no part in
input_same : (how : TalkEnd) (before after : ℕ) → after ≡ before → InputStandsStill how before after
input_same ends.Done before after same = same
input_same ends.Bad before after same = same
input_same ends.ReadFault before after same = tt
input_same ends.WriteFault before after same = same
input_same ends.NoMemory before after same = same
input_same ends.InputTooLong before after same = same

-- the input stood still, and the output up to how the talk ends
pub NothingFailedBefore-then : (before after : Ports) (how : TalkEnd) (mid : ℕ) → after.read_faults ≡ before.read_faults → mid ≡ before.write_faults → OutputStandsStill how mid after.write_faults → NothingFailedBefore before how after
NothingFailedBefore-then before after how mid reads writes still = record {
  input = input_same how before.read_faults after.read_faults reads;
  output = output_then how before.write_faults mid after.write_faults writes still;
}
