-- What a session knows beside its pass (this project's own).
use Rattle.std.specs.Prelude.{ℕ, List, Option, Some, None}
use Rattle.line_forms.specs.declared.mode.Mode.{Mode}
use Rattle.line_forms.specs.declared.mode.Mode.TheVariants.{Guest, User}

-- the nonce that the greeting gave, and who is logged in, if somebody is
pub record SessionState : Type 0 where
  pub nonce : List ℕ
  pub caller : Option (List ℕ)

-- at first nobody is logged in
abbrev pub guest_with : List ℕ → SessionState
guest_with nonce = record { nonce = nonce; caller = None }

-- the session of this principal
abbrev pub with_caller : SessionState → List ℕ → SessionState
with_caller s who = record s { caller = Some who }

-- in which mode lines are said
abbrev pub mode_for : Option (List ℕ) → Mode
mode_for None = Guest
mode_for (Some who) = User who

abbrev pub mode_of : SessionState → Mode
mode_of s = mode_for s.caller
