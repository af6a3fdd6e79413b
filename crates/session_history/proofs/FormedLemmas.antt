-- What a proof grants may be issued, and what a turn tells of numbers can be cited.
use Rattle.std.proofs.Common.{◌≡◌, ℕ, List, Option, Some, None}
use Rattle.std.specs.Prelude.{ℤ, Ok}
use Rattle.std.specs.List.{AllByRecursion}
use Rattle.bl_syntax.specs.Citable.{AreCitable}
use Rattle.bl_syntax.specs.declared.grant.Goal.{Goal}
use Rattle.bl_syntax.specs.Statement.{IsStatement}
use Rattle.bl_syntax.specs.Grant.{GrantView}
use Rattle.proof_term.specs.Proof.{ProofView}
use Rattle.proof_term.specs.Limits.{HasTimesInRange}
use Rattle.proof_verifier.specs.declared.cites.Cite.{Cite as CiteOf}
use Rattle.proof_verifier.specs.Cited.{AreCited, statements_of}
use Rattle.proof_verifier.specs.CheckedView.{checked_view}
use Rattle.proof_verifier.specs.Verdict.{verdict}
use Rattle.proof_verifier.proofs.SoundnessVerdict.{SoundGrant-verdict, goal-verdict, IsGrant-verdict}
use Rattle.access_history.specs.declared.request.StepRequest.TheVariants.{Issue}
use Rattle.access_history.specs.Base.{BaseView}
use Rattle.access_history.specs.Books.{Book, book_of, statements_in}
use Rattle.access_history.specs.Citing.{AreFound}
use Rattle.access_history.specs.WellFormed.{IsWellFormed}
use Rattle.access_history.proofs.CitingLemmas.{AreCited-found, all_cited}
use Rattle.pcfs_store.specs.Entries.{Root, StoreEntry, state_of_entries}
use Rattle.session_history.specs.declared.request.TurnRequest.TheVariants.{Cite}
use Rattle.session_history.specs.declared.reply.TurnReply.{TurnReply}
use Rattle.session_history.specs.declared.reply.TurnReply.TheVariants as turn_replies
use Rattle.session_history.specs.Turn.{StorePass, AnswersTurn, Turn}
use Rattle.session_history.specs.Turn as turns

pub granted_may_be_issued : (book : Book) (goal : Goal) (numbers : List ℕ) (proof : ProofView) (cites : List CiteOf) (g : GrantView) → AllByRecursion IsStatement (statements_in book) → AreCitable numbers → HasTimesInRange proof → AreFound book numbers cites →
    verdict (statements_of cites) goal proof ≡ Ok g → IsWellFormed (Issue (checked_view cites goal proof g))
granted_may_be_issued book goal numbers proof cites g are citable times found is =
    let all = all_cited IsStatement book cites are found.stand in (
      AreCited-found book numbers cites found citable,
      record {
        verdict_is = is;
        sound = SoundGrant-verdict (statements_of cites) goal proof g all times is;
        same_goal = goal-verdict (statements_of cites) goal proof g is;
        is_grant = IsGrant-verdict (statements_of cites) goal proof g all times is;
      },
    )

-- ---- what a turn tells of numbers that can be cited can be cited

-- the statements that are told are those of the numbers
abbrev AreFoundIn : BaseView → List ℕ → TurnReply → Type 0
AreFoundIn state numbers (turn_replies.Step reply) = Unit {0}
AreFoundIn state numbers (turn_replies.Cited cites) = AreFound (book_of state) numbers cites
AreFoundIn state numbers turn_replies.LoggedIn = Unit {0}
AreFoundIn state numbers turn_replies.Checkpointed = Unit {0}
AreFoundIn state numbers turn_replies.Full = Unit {0}
AreFoundIn state numbers turn_replies.Stopped = Unit {0}
AreFoundIn state numbers turn_replies.NoMemory = Unit {0}

found_of_answer : (root : Root) (state : BaseView) (pass : ℕ) (clock : ℤ) (numbers : List ℕ) (reply : TurnReply) (entry : Option StoreEntry) → AnswersTurn root state pass clock (Cite numbers) reply entry → AreFoundIn state numbers reply
found_of_answer root state pass clock _ _ _ (turns.cites numbers cited found) = found
found_of_answer root state pass clock _ _ _ (turns.cites_none numbers number absent) = tt

turn_found : (gives : List StoreEntry → ℤ → Type 0) (p : StorePass) (before : List StoreEntry) (numbers : List ℕ) (reply : TurnReply) (given : List StoreEntry) → Turn gives p before (Cite numbers) reply given → AreFoundIn (state_of_entries p.root before) numbers reply
turn_found gives p before numbers _ _ (turns.was_stopped is) = tt
turn_found gives p before numbers _ _ (turns.answered clock reply running shown answers) = found_of_answer p.root (state_of_entries p.root before) p.number clock numbers reply None answers
turn_found gives p before numbers _ _ (turns.full clock reply entry running shown answers is_full) = tt
turn_found gives p before numbers _ _ (turns.kept clock reply entry running shown answers room) = found_of_answer p.root (state_of_entries p.root before) p.number clock numbers reply (Some entry) answers
turn_found gives p before numbers _ _ (turns.failed clock reply entry running shown answers room) = tt
turn_found gives p before numbers _ _ turns.without_memory = tt

pub turn_cited : (gives : List StoreEntry → ℤ → Type 0) (p : StorePass) (before : List StoreEntry) (numbers : List ℕ) (cited : List CiteOf) (given : List StoreEntry) → AreCitable numbers → Turn gives p before (Cite numbers) (turn_replies.Cited cited) given → AreCited cited
turn_cited gives p before numbers cited given citable turn =
    AreCited-found (book_of (state_of_entries p.root before)) numbers cited (turn_found gives p before numbers (turn_replies.Cited cited) given turn) citable
