-- What the gate finds of an event that was read, kind by kind (this project's own).
use Rattle.std.specs.Prelude.{◌≡◌, ◌≤◌, ◌≤ℤ◌, ℕ, ℤ, List, Result, Ok, Err}
use Rattle.bl_syntax.specs.declared.limits.TheConstants.{MOST_EVENTS}
use Rattle.bl_syntax.specs.TimeOrder.{IsMoment}
use Rattle.procap.specs.declared.procap.Procap.{Procap}
use Rattle.file_world.specs.declared.operation.Op.{Op}
use Rattle.access_history.specs.Base.{BaseView}
use Rattle.proof_term.specs.Proof.{ProofView}
use Rattle.proof_verifier.specs.declared.cites.Cite.{Cite}
use Rattle.proof_verifier.specs.CheckedView.{CheckedView}
use Rattle.proof_verifier.specs.declared.fault.CheckFault.{CheckFault}
use Rattle.proof_verifier.specs.declared.fault.CheckFault.TheVariants as checks
use Rattle.bl_syntax.specs.Grant.{GrantView}
use Rattle.bl_syntax.specs.Statement.{StatementView}
use Rattle.policy_statement.specs.declared.registry.RegisterFault.{RegisterFault}
use Rattle.policy_statement.specs.declared.registry.RegisterFault.TheVariants as registry
use Rattle.policy_statement.specs.declared.registry.WithdrawFault.{WithdrawFault}
use Rattle.policy_statement.specs.declared.registry.WithdrawFault.TheVariants as withdrawals
use Rattle.access_history.specs.declared.event.Addition.TheVariants as additions
use Rattle.journal_records.specs.declared.event.Event.{Event}
use Rattle.access_history.specs.declared.event.Issue.{Issue}
use Rattle.journal_records.specs.declared.event.Event.TheVariants.{Registered, Withdrawn, Issued}
use Rattle.bl_syntax.specs.Citable.{AreCitable}
use Rattle.access_history.specs.Books.{Book}
use Rattle.access_history.specs.Citing.{AreFound, IsGrantedFrom, issued_grant, numbers_of}
use Rattle.access_history.specs.History.{HistoryView, authority_of, state_of, addition_of, IsReadyFor}
use Rattle.access_history.specs.Lawful.{MayFollow}
use Rattle.access_history.specs.WellFormed.{BringsEnough}
use Rattle.op_gate.specs.declared.damage.Damage.TheVariants.{Shape, Unsigned, Unproved, Duplicate}
use Rattle.op_gate.specs.declared.damage.AdmitFault.{AdmitFault}
use Rattle.op_gate.specs.declared.damage.AdmitFault.TheVariants.{Damaged, NoMemory}
use Rattle.op_gate.specs.declared.decide.IssueParts.{IssueParts}
use Rattle.op_gate.specs.declared.planned.Pending.{Pending}
use Rattle.op_gate.specs.Damage.{IsDamagedBy}

-- the event may come next, it is what is pending, and the history after is ready for it
pub record IsPendingAs (before after : HistoryView) (event : Event) (pending : Pending) : Type 0 where
  pub follows : MayFollow (authority_of before) (state_of before) event
  pub event_is : pending.event ≡ event
  pub addition_is : pending.addition ≡ addition_of event
  pub ready : IsReadyFor after event

-- the event is pending, or it has this first damage, or there was no memory
abbrev pub GivesPending : HistoryView → HistoryView → Event → Result Pending AdmitFault → Type 0
GivesPending before after event (Ok pending) = IsPendingAs before after event pending
GivesPending before after event (Err (Damaged damage)) = IsDamagedBy (authority_of before) (state_of before) event damage
GivesPending before after event (Err NoMemory) = Unit {0}

-- an operation whose moment may be the next one, and which brings what it has to
pub record IsTimely (state : BaseView) (op : Op) (procaps : List Procap) (moment : ℤ) : Type 0 where
  pub in_range : IsMoment moment
  pub not_before : state.moment ≤ℤ moment
  pub brought : BringsEnough op procaps

-- what the state keeps of a statement, pending with its event
abbrev pub pending_statement : ℕ → StatementView → List ℕ → Pending
pending_statement pass statement signature = record { event = Registered pass statement signature; addition = additions.Statement statement signature }

-- what the state keeps of a withdrawal, pending with its event
abbrev pub pending_withdrawal : ℕ → ℕ → List ℕ → Pending
pending_withdrawal pass number signature = record { event = Withdrawn pass number signature; addition = additions.Withdrawal number }

-- the issue of a checked proof whose grant names these statements
abbrev pub issue_naming : CheckedView → List ℕ → Issue
issue_naming checked named = record { cited = numbers_of checked.cited; proof = checked.proof; grant = issued_grant checked.grant named }

-- the event that issues the grant of a checked proof by these parts, and what the state keeps of it
abbrev pub pending_parts : ℕ → CheckedView → IssueParts → Pending
pending_parts pass checked parts =
    record { event = Issued pass parts.cited checked.proof (issued_grant checked.grant parts.named); addition = additions.Issue parts.issue }

-- what the state keeps of an issue, pending with its event
abbrev pub pending_issue : ℕ → List ℕ → ProofView → GrantView → Pending
pending_issue pass cited proof g = record { event = Issued pass cited proof g; addition = additions.Issue (record { cited = cited; proof = proof; grant = g }) }

-- the checked proof is this one from what is cited, and the grant is the verdict on it, with what
-- it names
pub record IsCheckedAs (cites : List Cite) (proof : ProofView) (g : GrantView) (checked : CheckedView) : Type 0 where
  pub cited_is : checked.cited ≡ cites
  pub proof_is : checked.proof ≡ proof
  pub grant_is : issued_grant checked.grant g.cited ≡ g
  pub granted : IsGrantedFrom cites proof g

-- the proof is checked, or the grant is not the verdict on it, or there was no memory
abbrev pub GivesChecked : List Cite → ProofView → GrantView → Result CheckedView AdmitFault → Type 0
GivesChecked cites proof g (Ok checked) = IsCheckedAs cites proof g checked
GivesChecked cites proof g (Err (Damaged damage)) = (damage ≡ Unproved) ×
    (IsGrantedFrom cites proof g → ⊥)
GivesChecked cites proof g (Err NoMemory) = Unit {0}

-- the grant is the verdict on the proof from what is cited and is pending, or it is not, or there
-- was no memory
abbrev pub GivesIssue : ℕ → List Cite → ProofView → GrantView → Result Pending AdmitFault → Type 0
GivesIssue pass cites proof g (Ok pending) = IsGrantedFrom cites proof g ×
    (pending ≡ pending_issue pass (numbers_of cites) proof g)
GivesIssue pass cites proof g (Err (Damaged damage)) = (damage ≡ Unproved) ×
    (IsGrantedFrom cites proof g → ⊥)
GivesIssue pass cites proof g (Err NoMemory) = Unit {0}

-- the statements of these numbers, which can be cited; or they cannot be cited, or are not all
-- found; or there was no memory
abbrev pub FindsCited : Book → List ℕ → Result (List Cite) AdmitFault → Type 0
FindsCited book numbers (Ok cites) = AreCitable numbers × AreFound book numbers cites
FindsCited book numbers (Err (Damaged damage)) = (damage ≡ Unproved) ×
    ((cites : List Cite) → AreCitable numbers → AreFound book numbers cites → ⊥)
FindsCited book numbers (Err NoMemory) = Unit {0}

-- there is no number for one more event, or there was no memory
abbrev pub LacksNext : BaseView → AdmitFault → Type 0
LacksNext state (Damaged damage) = (damage ≡ Shape) × (MOST_EVENTS ≤ state.count)
LacksNext state NoMemory = Unit {0}

-- the damage of a statement that the registry does not take
abbrev pub register_damage : RegisterFault → AdmitFault
register_damage registry.BadSignature = Damaged Unsigned
register_damage registry.RegistryFull = Damaged Duplicate
register_damage (registry.Duplicate number) = Damaged Duplicate
register_damage registry.NoMemory = NoMemory

-- the damage of a withdrawal that the registry does not take
abbrev pub withdraw_damage : WithdrawFault → AdmitFault
withdraw_damage withdrawals.Absent = Damaged Shape
withdraw_damage withdrawals.BadSignature = Damaged Unsigned
withdraw_damage withdrawals.NoMemory = NoMemory

-- the damage of an issue whose proof is refused
abbrev pub proof_damage : CheckFault → AdmitFault
proof_damage (checks.NoHypothesis node) = Damaged Unproved
proof_damage (checks.WrongShape node) = Damaged Unproved
proof_damage (checks.NotEntailed node) = Damaged Unproved
proof_damage (checks.NotInState node) = Damaged Unproved
proof_damage (checks.ViewTooWeak node) = Damaged Unproved
proof_damage (checks.BadTerm node) = Damaged Unproved
proof_damage (checks.TooManyConditions node) = Damaged Unproved
proof_damage checks.NoMemory = NoMemory
