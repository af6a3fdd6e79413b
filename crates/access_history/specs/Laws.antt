-- Laws of the definitions: states of lawful histories are lawful, a request has exactly one answer,
-- what is admitted is kept, and the headline holds of what is lawful.
-- What rests on withdrawn statements is denied, and what is withdrawn is withdrawn for good.
use Rattle.std.specs.Prelude.{◌≡◌, ◌↔◌, ℕ, ℤ, List, [], true, Option, Some, None, Contains}
use Rattle.bl_syntax.specs.TimeOrder.{IsMoment}
use Rattle.bl_syntax.specs.Citable.{AreNamed}
use Rattle.bl_syntax.specs.Grant.{GrantView}
use Rattle.bl_syntax.specs.Statement.{StatementView}
use Rattle.procap.specs.declared.procap.Procap.{Procap}
use Rattle.policy_statement.specs.Withdrawal.{is_withdrawn}
use Rattle.issue_standings.specs.Gone.{IsGoneBy}
use Rattle.file_world.specs.declared.operation.Op.{Op}
use Rattle.file_world.specs.World.{IsWorld}
use Rattle.file_world.specs.Effect.{refusal, reply}
use Rattle.file_world.specs.Needs.{Need, needs}
use Rattle.journal_records.specs.declared.event.Event.{Event}
use Rattle.journal_records.specs.declared.event.Event.TheVariants.{Acted, Withdrawn}
use Rattle.access_history.specs.declared.request.StepRequest.{StepRequest}
use Rattle.access_history.specs.declared.request.StepRequest.TheVariants.{Act}
use Rattle.access_history.specs.declared.reply.StepReply.{StepReply}
use Rattle.access_history.specs.declared.reply.StepReply.TheVariants.{Operation}
use Rattle.access_history.specs.Base.{BaseView}
use Rattle.access_history.specs.Replay.{fresh, next_state, replay}
use Rattle.access_history.specs.Lawful.{IsLawful, IsLawfulBase, MayFollow}
use Rattle.access_history.specs.Headline.{Headline}
use Rattle.access_history.specs.Admission.{IsAdmitted}
use Rattle.access_history.specs.Answer.{Answers, moment_of}
use Rattle.access_history.specs.WellFormed.{IsWellFormed}
use Rattle.access_history.specs.Authority.{Authority}
use Rattle.policy_statement.specs.Registry.{CanRegister, sayings}
use Rattle.access_history.specs.Books.{book_of}
use Rattle.access_history.specs.Citing.{HoldsNone}
use Rattle.access_history.specs.Gone.{bearings, gone, IsFirstWithdrawn}
use Rattle.access_history.specs.Numbered.{IsNumbered}

-- the world of the state after a lawful history is within its limits
abbrev pub HistoriesKeepWorlds : Type 0
HistoriesKeepWorlds = (authority : Authority) (base : BaseView) (events : List Event)
    → IsLawful authority base events → IsWorld (replay base events).world

-- a history may begin with the state after a lawful history
abbrev pub StatesAreLawfulBases : Type 0
StatesAreLawfulBases = (authority : Authority) (base : BaseView) (events : List Event)
    → IsLawful authority base events → IsLawfulBase authority (replay base events)

-- a request has at most one answer over the state of a lawful history, and one event to keep
abbrev pub AnswersAreDetermined : Type 0
AnswersAreDetermined = (authority : Authority) (base : BaseView) (events : List Event) (pass : ℕ)
    (clock : ℤ) (request : StepRequest) (first second : StepReply) (kept other : Option Event)
    → IsLawful authority base events
    → Answers authority (replay base events) pass clock request first kept
    → Answers authority (replay base events) pass clock request second other
    → (first ≡ second) × (kept ≡ other)

-- each well-formed request has an answer, over whichever state
abbrev pub RequestsHaveAnswers : Type 0
RequestsHaveAnswers = (authority : Authority) (state : BaseView) (pass : ℕ) (clock : ℤ) (request : StepRequest)
    → IsWellFormed request → (reply : StepReply) × (event : Option Event)
    × Answers authority state pass clock request reply event

-- the event of an answer over a state with which a history may begin may come next
abbrev pub AnswersMayFollow : Type 0
AnswersMayFollow = (authority : Authority) (state : BaseView) (pass : ℕ) (clock : ℤ) (request : StepRequest) (answer : StepReply) (event : Event)
    → IsLawfulBase authority state → IsMoment clock → IsWellFormed request
    → Answers authority state pass clock request answer (Some event)
    → MayFollow authority state event

-- a history may begin with the store before its first event
abbrev pub FreshIsLawful : Type 0
FreshIsLawful = (authority : Authority) → IsLawfulBase authority fresh

-- an operation that is admitted and not refused gets its reply and is kept
abbrev pub AdmittedAreKept : Type 0
AdmittedAreKept = (authority : Authority) (state : BaseView) (pass : ℕ) (clock : ℤ)
    (caller : List ℕ) (op : Op) (procaps : List Procap) (answer : StepReply) (event : Option Event)
    → IsAdmitted authority.key state caller op procaps (moment_of state clock)
    → refusal state.world op ≡ None
    → Answers authority state pass clock (Act caller op procaps) answer event
    → (Operation (reply state.world op) ≡ answer)
    × (Some (Acted pass caller op procaps (moment_of state clock)) ≡ event)

-- the headline holds of each lawful history and the world to which it leads
abbrev pub LawfulIsRightful : Type 0
LawfulIsRightful = (authority : Authority) (base : BaseView) (events : List Event)
    → IsLawful authority base events → Headline authority base events (replay base events).world

-- the number told of a grant that names no statements is the one by which it is gone: it was
-- issued, each of its issues cites a withdrawn number, and the last of them this one first
abbrev pub GoneIsTold : Type 0
GoneIsTold = (state : BaseView) (g : GrantView) (number : ℕ) → g.cited ≡ []
    → (gone state g ≡ Some number)
    ↔ IsGoneBy (is_withdrawn state.statements) g (bearings state.issues) number

-- the number told of a grant that names statements is the first of these that was withdrawn
abbrev pub NamedGoneIsTold : Type 0
NamedGoneIsTold = (state : BaseView) (g : GrantView) (number : ℕ) → AreNamed g.cited
    → (gone state g ≡ Some number) ↔ IsFirstWithdrawn (is_withdrawn state.statements) g.cited number

-- what needs a procap whose grant is gone is not admitted
abbrev pub GoneAreDenied : Type 0
GoneAreDenied = (key : List ℕ) (state : BaseView) (caller : List ℕ) (op : Op) (procaps : List Procap) (moment : ℤ) (need : Need) (p : Procap) (number : ℕ)
    → Contains (needs state.world op) need → IsNumbered procaps need.place p
    → gone state p.grant ≡ Some number
    → IsAdmitted key state caller op procaps moment → ⊥

-- the statement of the number was withdrawn: it stands no more, the number is withdrawn and keeps
-- it, and no equal one can be registered
pub record IsWithdrawnIn (state : BaseView) (number : ℕ) (s : StatementView) : Type 0 where
  pub stands_not : HoldsNone (book_of state) number
  pub counts : is_withdrawn state.statements number ≡ true
  pub keeps : IsNumbered (sayings state.statements) number s
  pub once : CanRegister (sayings state.statements) s → ⊥

-- the statement of a number that stood is withdrawn after its withdrawal, and after whichever
-- events
abbrev pub WithdrawnForGood : Type 0
WithdrawnForGood = (state : BaseView) (pass number : ℕ) (signature : List ℕ) (s : StatementView) (events : List Event)
    → IsNumbered (book_of state) number (Some s)
    → IsWithdrawnIn (replay (next_state state (Withdrawn pass number signature)) events) number s
