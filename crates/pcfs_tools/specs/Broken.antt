-- Whether the last calls of an input and of an output failed (this project's own).
use Rattle.std.specs.Prelude.{Bool}

pub record Broken : Type 0 where
  pub input : Bool
  pub output : Bool

-- what this input and this output tell of it, by what each tells of itself
abbrev pub broken_of : {I O : Type 0} → (I → Bool) → (O → Bool) → I → O → Broken
broken_of input_broken output_broken input output = record { input = input_broken input; output = output_broken output }
