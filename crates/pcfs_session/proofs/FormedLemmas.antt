-- What a line makes of the state is well formed.
use Rattle.std.proofs.Common.{◌≡◌, suc, ap, ◌∙◌, ℕ, List, [], ◌∷◌, length, refl, sym}
use Rattle.std.specs.List.{AllByRecursion}
use Rattle.bl_syntax.specs.declared.grant.Goal.{Goal}
use Rattle.bl_syntax.specs.Statement.{IsStatement}
use Rattle.bl_syntax.specs.Grant.{GrantView}
use Rattle.procap.specs.declared.procap.Procap.{Procap as Sealed}
use Rattle.proof_term.specs.Proof.{ProofView}
use Rattle.proof_term.specs.Limits.{HasTimesInRange}
use Rattle.proof_verifier.specs.declared.cites.Cite.{Cite}
use Rattle.proof_verifier.specs.Cited.{statements_of}
use Rattle.proof_verifier.specs.CheckedView.{IsGranted}
use Rattle.proof_verifier.proofs.SoundnessVerdict.{SoundGrant-verdict, goal-verdict, IsGrant-verdict}
use Rattle.pcfs_secrets.specs.declared.secrets.Secrets.{Secrets}
use Rattle.access_history.specs.declared.event.Issue.{Issue}
use Rattle.access_history.specs.declared.request.StepRequest.{StepRequest}
use Rattle.policy_statement.specs.Registry.{sayings}
use Rattle.access_history.specs.Books.{Book, book_of, statements_in}
use Rattle.access_history.specs.Base.{BaseView}
use Rattle.access_history.specs.WellFormed.{IsWellFormed}
use Rattle.access_history.proofs.CitingLemmas.{AreCited-found, all_cited, all_standing}
use Rattle.line_words.specs.declared.procap_word.ProcapWord.{ProcapWord}
use Rattle.line_forms.specs.declared.command.Command.{Command}
use Rattle.line_forms.specs.Lines.{IsLine}
use Rattle.line_forms.specs.Said.{IsWithin}
use Rattle.line_forms.proofs.LimitLemmas.{line_within}
use Rattle.pcfs_session.specs.ScriptContext.{ScriptContext, IsAsker}
use Rattle.pcfs_session.specs.Procaps.{AreBrought}
use Rattle.pcfs_session.specs.Proved.{IsProved}
use Rattle.pcfs_session.specs.LineAnswer.{requested, ComesTo}
use Rattle.pcfs_session.specs.LineAnswer as line_answer

-- as many words are there as procaps that they bring
pub same_length : (key : List ℕ) (issues : List Issue) (words : List ProcapWord) (procaps : List Sealed) → AreBrought key issues words procaps → length words ≡ length procaps
same_length key issues [] [] all = refl
same_length key issues [] (p ∷ procaps) all = absurd all
same_length key issues (word ∷ words) [] all = absurd all
same_length key issues (word ∷ words) (p ∷ procaps) all = ap suc (same_length key issues words procaps all.1)

-- what a proof proves from statements is sound
IsGranted-proved : (book : Book) (goal : Goal) (numbers : List ℕ) (proof : ProofView) (cites : List Cite) (g : GrantView) → AllByRecursion IsStatement (statements_in book) → HasTimesInRange proof → IsProved book goal numbers proof cites g →
    IsGranted (statements_of cites) goal proof g
IsGranted-proved book goal numbers proof cites g are times proved =
    let all = all_cited IsStatement book cites are proved.found.stand in
    record {
      verdict_is = proved.verdict_is;
      sound = SoundGrant-verdict (statements_of cites) goal proof g all times proved.verdict_is;
      same_goal = goal-verdict (statements_of cites) goal proof g proved.verdict_is;
      is_grant = IsGrant-verdict (statements_of cites) goal proof g all times proved.verdict_is;
    }

-- a request that a command of any mode leads to is well formed
pub IsWellFormed-within : (secrets : Secrets) (state : BaseView) (asker : ScriptContext) (command : Command) (request : StepRequest) → IsAsker asker → AllByRecursion IsStatement (sayings state.statements) → IsWithin command →
    ComesTo secrets state asker command (requested request) → IsWellFormed request
IsWellFormed-within secrets state asker _ _ is_asker are within (line_answer.registers signature statement) = within
IsWellFormed-within secrets state asker _ _ is_asker are within (line_answer.withdraws number signature) = tt
IsWellFormed-within secrets state asker _ _ is_asker are within (line_answer.shows number) = tt
IsWellFormed-within secrets state asker _ _ is_asker are within (line_answer.verifies goal numbers proof cites g proved) = (
  AreCited-found (book_of state) numbers cites proved.found within.0,
  IsGranted-proved (book_of state) goal numbers proof cites g (all_standing IsStatement state are) within.1 proved,
)
IsWellFormed-within secrets state asker _ _ is_asker are within (line_answer.acts op words procaps brought) =
    record { named = is_asker.named; operation = within.operation; brought = record { slots = sym (same_length secrets.seal_key state.issues words procaps brought) ∙ within.one_each; few_bytes = within.few_bytes } }

-- a request that a line of a script leads to is
pub IsWellFormed-line : (secrets : Secrets) (state : BaseView) (asker : ScriptContext) (line : List ℕ) (command : Command) (request : StepRequest) → IsAsker asker → AllByRecursion IsStatement (sayings state.statements) → IsLine line command →
    ComesTo secrets state asker command (requested request) → IsWellFormed request
IsWellFormed-line secrets state asker line command request is_asker are is comes = IsWellFormed-within secrets state asker command request is_asker are (line_within is) comes
