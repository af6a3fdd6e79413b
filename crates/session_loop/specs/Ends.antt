-- What ports tell, and which of them failed before a talk ended (this project's own).
use Rattle.std.specs.Prelude.{◌≡◌, ℕ, List, Option}
use Rattle.session_loop.specs.declared.talk_end.TalkEnd.{TalkEnd}
use Rattle.session_loop.specs.declared.talk_end.TalkEnd.TheVariants as ends
use Rattle.session_loop.specs.declared.talk_end.Unsent.{Unsent}
use Rattle.session_loop.specs.declared.talk_end.Unsent.TheVariants as unsents

-- the bytes that the input still has to give and those that the output holds, if they are told; and
-- how many faults each has had
pub record Ports : Type 0 where
  pub left : Option (List ℕ)
  pub read_faults : ℕ
  pub held : Option (List ℕ)
  pub write_faults : ℕ

-- what this input and this output tell, by what each tells of itself
abbrev pub ports_of : {I O : Type 0} → (I → Option (List ℕ)) → (I → ℕ) → (O → Option (List ℕ)) →
    (O → ℕ) → I → O → Ports
ports_of left read_faults held write_faults input output = record {
  left = left input;
  read_faults = read_faults input;
  held = held output;
  write_faults = write_faults output;
}

-- how a talk ends of which bytes were not sent
abbrev pub unsent_end : Unsent → TalkEnd
unsent_end unsents.Write = ends.WriteFault
unsent_end unsents.NoMemory = ends.NoMemory

-- no call of the input failed, unless the talk ends by that: its count of faults stands still
abbrev pub InputStandsStill : TalkEnd → ℕ → ℕ → Type 0
InputStandsStill ends.Done before after = after ≡ before
InputStandsStill ends.Bad before after = after ≡ before
InputStandsStill ends.ReadFault before after = Unit {0}
InputStandsStill ends.WriteFault before after = after ≡ before
InputStandsStill ends.NoMemory before after = after ≡ before
InputStandsStill ends.InputTooLong before after = after ≡ before

-- and none of the output
abbrev pub OutputStandsStill : TalkEnd → ℕ → ℕ → Type 0
OutputStandsStill ends.Done before after = after ≡ before
OutputStandsStill ends.Bad before after = after ≡ before
OutputStandsStill ends.ReadFault before after = after ≡ before
OutputStandsStill ends.WriteFault before after = Unit {0}
OutputStandsStill ends.NoMemory before after = after ≡ before
OutputStandsStill ends.InputTooLong before after = after ≡ before

-- Unless a talk ends by a fault of the input, no call of that failed, and unless by one of the
-- output, none of that; also where a port tells nothing of its bytes.
pub record NothingFailedBefore (before : Ports) (how : TalkEnd) (after : Ports) : Type 0 where
  pub input : InputStandsStill how before.read_faults after.read_faults
  pub output : OutputStandsStill how before.write_faults after.write_faults
