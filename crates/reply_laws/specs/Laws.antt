-- Laws of replies: which of them stand on one line, and why (this project's own).
use Rattle.std.specs.Prelude.{◌≡◌, ℕ, ℤ, List, codes, Option, Some, Ok, Err}
use Rattle.std.specs.List.{AllByRecursion}
use Rattle.bl_syntax.specs.declared.grant.Goal.{Goal}
use Rattle.bl_syntax.specs.FormulaSpelling.{IsSpellableStatement}
use Rattle.bl_syntax.specs.Grant.{GrantView}
use Rattle.bl_syntax.specs.Statement.{StatementView}
use Rattle.proof_term.specs.Proof.{ProofView}
use Rattle.proof_term.specs.ProofSpelling.{IsSpellableProof}
use Rattle.procap.specs.GrantSpelling.{IsSpellableGrant}
use Rattle.proof_verifier.specs.declared.cites.Cite.{Cite}
use Rattle.proof_verifier.specs.declared.fault.CheckFault.{CheckFault}
use Rattle.proof_verifier.specs.Cited.{statements_of}
use Rattle.proof_verifier.specs.Verdict.{verdict}
use Rattle.file_world.specs.declared.operation.Op.{Op}
use Rattle.file_world.specs.Effect.{reply as effect_reply}
use Rattle.file_world.specs.World.{World, IsWorld}
use Rattle.journal_records.specs.declared.event.Event.{Event}
use Rattle.journal_records.specs.EventSpelling.{IsSpellableEvent}
use Rattle.access_history.specs.declared.request.StepRequest.{StepRequest}
use Rattle.access_history.specs.declared.reply.StepReply.{StepReply}
use Rattle.access_history.specs.Answer.{Answers}
use Rattle.access_history.specs.Authority.{Authority}
use Rattle.access_history.specs.Base.{BaseView}
use Rattle.access_history.specs.Books.{book_of}
use Rattle.access_history.specs.Citing.{AreFound}
use Rattle.access_history.specs.Lawful.{IsLawful}
use Rattle.access_history.specs.Replay.{fresh, next_state, replay}
use Rattle.line_forms.specs.declared.asked.Line.{Line}
use Rattle.line_forms.specs.declared.fault.LineFault.{LineFault}
use Rattle.line_forms.specs.declared.mode.Mode.{Mode}
use Rattle.line_forms.specs.Lines.{IsLineIn, IsLineFaultIn}
use Rattle.line_wire.specs.declared.reply.LineReply.TheVariants as replies
use Rattle.line_wire.specs.FirstWord.{fault_word, unproved_word}
use Rattle.line_wire.specs.ReplyText.{reply_text}
use Rattle.line_wire.specs.Unbroken.{IsUnbroken, IsUnbrokenGrant, IsUnbrokenOperation, IsUnbrokenStep}
use Rattle.reply_laws.specs.Brought.{IsUnbrokenStatement, HasUnbrokenTerms, IsUnbrokenLine, BringsUnbroken}
use Rattle.reply_laws.specs.Kept.{KeepsUnbroken, AddsUnbroken}

-- ---- the grammar of names and texts

-- a statement, a proof or a grant that has a spelling stands on one line
abbrev pub SpelledStatementsAreUnbroken : Type 0
SpelledStatementsAreUnbroken = (s : StatementView) → IsSpellableStatement s → IsUnbrokenStatement s

abbrev pub SpelledProofsAreUnbroken : Type 0
SpelledProofsAreUnbroken = (proof : ProofView) → IsSpellableProof proof → HasUnbrokenTerms proof

abbrev pub SpelledGrantsAreUnbroken : Type 0
SpelledGrantsAreUnbroken = (g : GrantView) → IsSpellableGrant g → IsUnbrokenGrant g

-- so does what a line brings, whichever mode it is read in
abbrev pub LinesBringUnbroken : Type 0
LinesBringUnbroken = (mode : Mode) (line : List ℕ) (asked : Line) → IsLineIn mode line asked → IsUnbrokenLine asked

-- ---- what is told of a world and of a state

-- what an operation returns over a world within its limits
abbrev pub WorldsReplyUnbroken : Type 0
WorldsReplyUnbroken = (world : World) (op : Op) → IsWorld world → IsUnbrokenOperation (effect_reply world op)

-- the answer to a request over such a world, if the procaps are that it brings
abbrev pub AnswersAreUnbroken : Type 0
AnswersAreUnbroken = (authority : Authority) (state : BaseView) (pass : ℕ) (clock : ℤ) (request : StepRequest) (reply : StepReply) (event : Option Event) →
    IsWorld state.world → BringsUnbroken request →
    Answers authority state pass clock request reply event → IsUnbrokenStep reply

-- so the line that is written of it is one, after each lawful history
abbrev pub LawfulAnswersAreOneLine : Type 0
LawfulAnswersAreOneLine = (authority : Authority) (base : BaseView) (events : List Event) (pass : ℕ)
    (clock : ℤ) (request : StepRequest) (reply : StepReply) (event : Option Event) →
    IsLawful authority base events → BringsUnbroken request →
    Answers authority (replay base events) pass clock request reply event →
    IsUnbroken (reply_text (replies.Step reply))

-- ---- what is granted, and what is kept

-- what the verdict on a proof grants, from statements on one line
abbrev pub VerdictsAreUnbroken : Type 0
VerdictsAreUnbroken = (statements : List StatementView) (goal : Goal) (proof : ProofView) (g : GrantView) →
    AllByRecursion IsUnbrokenStatement statements → IsUnbroken goal.who → HasUnbrokenTerms proof →
    verdict statements goal proof ≡ Ok g → IsUnbrokenGrant g

-- and from those of numbers, over a state that keeps no others
abbrev pub CheckedGrantsAreUnbroken : Type 0
CheckedGrantsAreUnbroken = (state : BaseView) (numbers : List ℕ) (cites : List Cite) (goal : Goal) (proof : ProofView) (g : GrantView) →
    KeepsUnbroken state → IsUnbroken goal.who → HasUnbrokenTerms proof →
    AreFound (book_of state) numbers cites → verdict (statements_of cites) goal proof ≡ Ok g →
    IsUnbrokenGrant g

-- the store before its first event keeps none; and if each event has a spelling, the state after
-- them keeps no others
abbrev pub FreshKeepsUnbroken : Type 0
FreshKeepsUnbroken = KeepsUnbroken fresh

abbrev pub StatesKeepUnbroken : Type 0
StatesKeepUnbroken = (base : BaseView) (events : List Event) → KeepsUnbroken base →
    AllByRecursion IsSpellableEvent events → KeepsUnbroken (replay base events)

-- and so does the state after the answer to a request that adds none
abbrev pub AnswersKeepUnbroken : Type 0
AnswersKeepUnbroken = (authority : Authority) (state : BaseView) (pass : ℕ) (clock : ℤ) (request : StepRequest) (reply : StepReply) (event : Event) →
    KeepsUnbroken state → AddsUnbroken request →
    Answers authority state pass clock request reply (Some event) → KeepsUnbroken (next_state state event)

-- ---- out of memory is no fault

-- the fault of a line is reported as one: that memory ran out is none
abbrev pub LineFaultsAreReported : Type 0
LineFaultsAreReported = (mode : Mode) (line : List ℕ) (fault : LineFault) → IsLineFaultIn mode line fault →
    fault_word fault ≡ codes "bad"

-- so is the fault of a proof
abbrev pub ProofFaultsAreReported : Type 0
ProofFaultsAreReported = (statements : List StatementView) (goal : Goal) (proof : ProofView) (fault : CheckFault) →
    verdict statements goal proof ≡ Err fault → unproved_word fault ≡ codes "unproved"
