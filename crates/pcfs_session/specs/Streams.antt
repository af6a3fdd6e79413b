-- What an input and an output tell at one moment (this project's own).
use Rattle.std.specs.Prelude.{ℕ, List, Option}

-- the bytes that the input still has to give and those that the output holds, if they are told; and
-- how many faults each has had
pub record Streams : Type 0 where
  pub left : Option (List ℕ)
  pub read_faults : ℕ
  pub held : Option (List ℕ)
  pub write_faults : ℕ

-- what this input and this output tell, by what each tells of itself
abbrev pub streams_of : {I O : Type 0} → (I → Option (List ℕ)) → (I → ℕ) → (O → Option (List ℕ)) →
    (O → ℕ) → I → O → Streams
streams_of left read_faults held write_faults input output = record {
  left = left input;
  read_faults = read_faults input;
  held = held output;
  write_faults = write_faults output;
}
