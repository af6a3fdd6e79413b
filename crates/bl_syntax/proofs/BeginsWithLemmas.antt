-- What begins with a list begins with its front.
use Rattle.std.proofs.Common.{List, ◌++◌, append_assoc, ◌∙◌}
use Rattle.bl_syntax.specs.BeginsWith.{BeginsWith}

pub BeginsWith-front : {A : Type 0} (whole front more : List A) → BeginsWith whole (front ++ more) → BeginsWith whole front
BeginsWith-front whole front more h = record { rest = more ++ h.rest; parts = h.parts ∙ append_assoc front more h.rest }

pub ruleset writing = (BeginsWith-front, append_assoc)
