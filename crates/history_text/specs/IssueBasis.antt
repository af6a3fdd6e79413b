-- What an issue rests on (this project's own).
use Rattle.std.specs.Prelude.{ℕ, zero, suc, ◌+◌, List, length, Option, Some, None}
use Rattle.std.specs.List.{slice_get}
use Rattle.std.specs.Option.{option_map}
use Rattle.bl_syntax.specs.Grant.{GrantView}
use Rattle.proof_term.specs.Proof.{ProofView}
use Rattle.access_history.specs.declared.event.Issue.{Issue}
use Rattle.journal_records.specs.declared.event.Event.{Event}
use Rattle.journal_records.specs.declared.event.Event.TheVariants.{Issued}
use Rattle.access_history.specs.Base.{BaseView}
use Rattle.history_text.specs.declared.issue_basis.Basis.{Basis}

-- an issue with its number
pub record BasisView : Type 0 where
  pub number : ℕ
  pub grant : GrantView
  pub proof : ProofView
  pub cited : List ℕ

-- the basis as plain data
abbrev pub shown : Basis → BasisView
shown basis = record { number = basis.number; grant = basis.grant; proof = basis.proof; cited = basis.cited }

abbrev pub with_number : ℕ → Issue → BasisView
with_number number issue = record { number = number; grant = issue.grant; proof = issue.proof; cited = issue.cited }

-- the issue of a number; none if there is no such issue
abbrev pub issue_numbered : List Issue → ℕ → Option BasisView
issue_numbered issues zero = None
issue_numbered issues (suc place) = option_map (with_number (suc place)) (slice_get issues place)

-- the issue that an event makes over a state
abbrev pub issue_made : BaseView → Event → Option BasisView
issue_made state (Issued pass cited proof g) = Some (record { number = length state.issues + 1; grant = g; proof = proof; cited = cited })
issue_made state _ = None
