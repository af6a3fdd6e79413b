-- Statements cited by their numbers; issues and withdrawals: what makes an issue good, and which
-- may come next (this project's own).
use Rattle.std.specs.Prelude.{◌≡◌, ℕ, List, Some, map}
use Rattle.std.specs.List.{AllByRecursion}
use Rattle.bl_syntax.specs.FirstFailing.{IsFirstFailing}
use Rattle.bl_syntax.specs.Grant.{GrantView}
use Rattle.bl_syntax.specs.Statement.{StatementView}
use Rattle.proof_term.specs.Proof.{ProofView}
use Rattle.proof_verifier.specs.declared.cites.Cite.{Cite}
use Rattle.proof_verifier.specs.Cited.{AreCited, statements_of}
use Rattle.proof_verifier.specs.CheckedView.{IsGranted}
use Rattle.access_history.specs.declared.event.Issue.{Issue}
use Rattle.access_history.specs.Authority.{Authority, IsSignedWithdrawal}
use Rattle.policy_statement.specs.Registry.{sayings}
use Rattle.access_history.specs.Base.{BaseView}
use Rattle.access_history.specs.Books.{Book, whole_book, book_of}
use Rattle.access_history.specs.Numbered.{IsNumbered}

-- the numbers alone, in order
abbrev pub numbers_of : List Cite → List ℕ
numbers_of cites = map (λ (c : Cite). c.number) cites

-- its statement stands under its number
abbrev pub StandsUnderNumber : Book → Cite → Type 0
StandsUnderNumber book cite = IsNumbered book cite.number (Some cite.statement)

-- the number holds a statement
abbrev pub IsHeld : Book → ℕ → Type 0
IsHeld book number = (s : StatementView) × IsNumbered book number (Some s)

-- the number holds no statement
abbrev pub HoldsNone : Book → ℕ → Type 0
HoldsNone book number = IsHeld book number → ⊥

-- these are the statements of these numbers
pub record AreFound (book : Book) (numbers : List ℕ) (cites : List Cite) : Type 0 where
  pub numbers_are : numbers_of cites ≡ numbers
  pub stand : AllByRecursion (StandsUnderNumber book) cites

-- it is the first of the numbers that holds no statement
pub record IsAbsent (book : Book) (numbers : List ℕ) (number : ℕ) : Type 0 where
  pub place : ℕ
  pub first : IsFirstFailing (IsHeld book) numbers place number

-- it is the number of the first of these whose statement does not stand under it
pub record IsMoved (book : Book) (cites : List Cite) (number : ℕ) : Type 0 where
  pub place : ℕ
  pub cite : Cite
  pub first : IsFirstFailing (StandsUnderNumber book) cites place cite
  pub number_is : number ≡ cite.number

-- ---- issues

-- what a proof from the statements of these numbers grants: as it was proved, or naming them. The
-- first form was issued once, and is read; it is issued no more
pub data IsGrantOf (proved : GrantView) (numbers : List ℕ) : GrantView → Type 0 where
  as_proved : IsGrantOf proved numbers proved
  naming : IsGrantOf proved numbers (record proved { cited = numbers })

-- the form in which the grant of a checked proof is issued: naming what its proof cites
abbrev pub issued_grant : GrantView → List ℕ → GrantView
issued_grant proved numbers = record proved { cited = numbers }

-- the grant is the verdict on the proof from what is cited, in one of the two forms. The verdict is
-- sound: wherever its conditions hold, the logic derives from the cited statements what it grants
pub record IsGrantedFrom (cites : List Cite) (proof : ProofView) (g : GrantView) : Type 0 where
  pub proved : GrantView
  pub granted : IsGranted (statements_of cites) g.goal proof proved
  pub form : IsGrantOf proved (numbers_of cites) g

-- the issue cites 1 to 64 of the statements by strictly rising numbers, and its grant is granted by
-- its proof from them
pub record IsGoodIssue (statements : List StatementView) (issue : Issue) : Type 0 where
  pub cites : List Cite
  pub cited : issue.cited ≡ numbers_of cites
  pub rising : AreCited cites
  pub stand : AllByRecursion (StandsUnderNumber (whole_book statements)) cites
  pub granted : IsGrantedFrom cites issue.proof issue.grant

-- the issue may come next: it is good, and each number that it cites holds a statement
pub record MayBeIssued (state : BaseView) (issue : Issue) : Type 0 where
  pub good : IsGoodIssue (sayings state.statements) issue
  pub held : AllByRecursion (IsHeld (book_of state)) issue.cited

-- ---- withdrawals

-- the statement of the number may be withdrawn under the signature: it stands, and who said it
-- signed its withdrawal
pub record MayBeWithdrawn (authority : Authority) (book : Book) (number : ℕ) (signature : List ℕ) : Type 0 where
  pub statement : StatementView
  pub live : IsNumbered book number (Some statement)
  pub signed : IsSignedWithdrawal authority statement signature
