-- A state keeps only statements and grants that stand on one line, if its base does and each event has a spelling.
use Rattle.std.proofs.Common.{◌≡◌, ℕ, false, List, [], ◌∷◌, Some, Ok}
use Rattle.std.specs.Prelude.{ℤ}
use Rattle.std.specs.List.{AllByRecursion}
use Rattle.bl_syntax.specs.declared.grant.Goal.{Goal}
use Rattle.bl_syntax.specs.Grant.{GrantView}
use Rattle.bl_syntax.specs.Statement.{StatementView}
use Rattle.bl_syntax.proofs.GrantLemmas.{AllByRecursion-push}
use Rattle.policy_statement.specs.Registered.{RegisteredView}
use Rattle.proof_term.specs.Proof.{ProofView}
use Rattle.proof_verifier.specs.declared.cites.Cite.{Cite}
use Rattle.proof_verifier.specs.Cited.{statements_of}
use Rattle.proof_verifier.specs.Verdict.{verdict}
use Rattle.journal_records.specs.declared.event.Event.{Event}
use Rattle.journal_records.specs.declared.event.Event.TheVariants.{Registered, Withdrawn, Issued, Acted}
use Rattle.journal_records.specs.EventSpelling.{IsSpellableEvent}
use Rattle.access_history.specs.declared.event.Issue.{Issue}
use Rattle.access_history.specs.declared.request.StepRequest.{StepRequest}
use Rattle.access_history.specs.declared.reply.StepReply.{StepReply}
use Rattle.access_history.specs.Answer.{Answers, registered, withdrawn, issued, acted}
use Rattle.access_history.specs.Authority.{Authority}
use Rattle.policy_statement.specs.Registry.{sayings}
use Rattle.access_history.specs.Base.{BaseView}
use Rattle.access_history.specs.Books.{book_of}
use Rattle.access_history.specs.Citing.{AreFound, issued_grant, numbers_of}
use Rattle.access_history.specs.Replay.{fresh, next_state, replay}
use Rattle.access_history.proofs.CitingLemmas.{all_marked, all_standing, all_cited}
use Rattle.line_wire.specs.Unbroken.{IsUnbroken, IsUnbrokenGrant}
use Rattle.reply_laws.specs.Brought.{IsUnbrokenStatement, HasUnbrokenTerms}
use Rattle.reply_laws.specs.Kept.{IsUnbrokenEntry, IsUnbrokenIssue, KeepsUnbroken, AddsUnbroken}
use Rattle.reply_laws.proofs.GrammarLemmas.{statement_unbroken, grant_unbroken}
use Rattle.reply_laws.proofs.VerdictLemmas.{verdict_unbroken}

pub fresh_unbroken : KeepsUnbroken fresh
fresh_unbroken = record { statements = tt; issues = tt }

abbrev entry_of : StatementView → List ℕ → RegisteredView
entry_of statement signature = record { statement = statement; signature = signature; withdrawn = false }

abbrev issue_of : List ℕ → ProofView → GrantView → Issue
issue_of cited proof g = record { cited = cited; proof = proof; grant = g }

-- one statement more, or one issue
with_statement : (state : BaseView) (pass : ℕ) (statement : StatementView) (signature : List ℕ) → KeepsUnbroken state → IsUnbrokenStatement statement → KeepsUnbroken (next_state state (Registered pass statement signature))
with_statement state pass statement signature h new = record { statements = AllByRecursion-push IsUnbrokenEntry state.statements (entry_of statement signature) h.statements new; issues = h.issues }

with_issue : (state : BaseView) (pass : ℕ) (cited : List ℕ) (proof : ProofView) (g : GrantView) → KeepsUnbroken state → IsUnbrokenGrant g → KeepsUnbroken (next_state state (Issued pass cited proof g))
with_issue state pass cited proof g h new = record { statements = h.statements; issues = AllByRecursion-push IsUnbrokenIssue state.issues (issue_of cited proof g) h.issues new }

without_statement : (state : BaseView) (pass number : ℕ) (signature : List ℕ) → KeepsUnbroken state → KeepsUnbroken (next_state state (Withdrawn pass number signature))
without_statement state pass number signature h = record { statements = all_marked IsUnbrokenEntry (λ entry kept. kept) state.statements number h.statements; issues = h.issues }

next_unbroken : (state : BaseView) (event : Event) → KeepsUnbroken state → IsSpellableEvent event → KeepsUnbroken (next_state state event)
next_unbroken state (Registered pass statement signature) h is = with_statement state pass statement signature h (statement_unbroken statement is.said)
next_unbroken state (Withdrawn pass number signature) h is = without_statement state pass number signature h
next_unbroken state (Issued pass cited proof grant) h is = with_issue state pass cited proof grant h (grant_unbroken grant is.granted)
next_unbroken state (Acted pass caller op procaps moment) h is = record { statements = h.statements; issues = h.issues }

pub replay_unbroken : (base : BaseView) (events : List Event) → KeepsUnbroken base → AllByRecursion IsSpellableEvent events → KeepsUnbroken (replay base events)
replay_unbroken base [] h spelled = h
replay_unbroken base (event ∷ events) h spelled = replay_unbroken (next_state base event) events (next_unbroken base event h spelled.0) spelled.1

-- the event of an answer
pub answer_kept : (authority : Authority) (state : BaseView) (pass : ℕ) (clock : ℤ) (request : StepRequest) (reply : StepReply) (event : Event) → KeepsUnbroken state → AddsUnbroken request → Answers authority state pass clock request reply (Some event) → KeepsUnbroken (next_state state event)
answer_kept authority state pass clock request reply event h adds (registered statement signature may) = with_statement state pass statement signature h adds
answer_kept authority state pass clock request reply event h adds (withdrawn number signature may) = without_statement state pass number signature h
answer_kept authority state pass clock request reply event h adds (issued checked cited is stand) = with_issue state pass (numbers_of checked.cited) checked.proof (issued_grant checked.grant (numbers_of checked.cited)) h adds
answer_kept authority state pass clock request reply event h adds (acted caller op procaps admitted is) = record { statements = h.statements; issues = h.issues }

-- the statements without their signatures
said_unbroken : (entries : List RegisteredView) → AllByRecursion IsUnbrokenEntry entries → AllByRecursion IsUnbrokenStatement (sayings entries)
said_unbroken [] h = tt
said_unbroken (entry ∷ entries) h = (h.0, said_unbroken entries h.1)

-- what is proved from statements of the state
pub checked_unbroken : (state : BaseView) (numbers : List ℕ) (cites : List Cite) (goal : Goal) (proof : ProofView) (g : GrantView) → KeepsUnbroken state → IsUnbroken goal.who → HasUnbrokenTerms proof
    → AreFound (book_of state) numbers cites → verdict (statements_of cites) goal proof ≡ Ok g → IsUnbrokenGrant g
checked_unbroken state numbers cites goal proof g keeps named terms found is =
    verdict_unbroken (statements_of cites) goal proof g
    (all_cited IsUnbrokenStatement (book_of state) cites (all_standing IsUnbrokenStatement state (said_unbroken state.statements keeps.statements)) found.stand)
    named terms is
