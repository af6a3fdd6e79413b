-- The index of how each issued grant stands, after an event.
use Rattle.std.proofs.Common.{◌≡◌, List, ℕ, zero, suc, [], ◌∷◌, ◌++◌, false, ap, refl, subst, sym}
use Rattle.std.proofs.lemmas.List.{map-append}
use Rattle.bl_syntax.specs.Statement.{StatementView}
use Rattle.policy_statement.specs.Registered.{RegisteredView}
use Rattle.policy_statement.specs.Withdrawal.{is_withdrawn, marked}
use Rattle.policy_statement.proofs.WithdrawalLemmas.{is_withdrawn-push}
use Rattle.issue_standings.specs.declared.standings.Standings.{Standings}
use Rattle.issue_standings.specs.Bearing.{BearingView}
use Rattle.issue_standings.specs.Index.{AreSameBut, IsIndexOf}
use Rattle.issue_standings.proofs.IndexLemmas.{IsIndexOf-entries}
use Rattle.access_history.specs.declared.event.Issue.{Issue}
use Rattle.access_history.specs.Gone.{bearing, bearings}

-- a statement that is registered withdraws none
pub standings_statement : (key : List ℕ) (entries after : List RegisteredView) (issues : List Issue) (standings : Standings) (statement : StatementView) (signature : List ℕ) →
    after ≡ entries ++ record { statement = statement; signature = signature; withdrawn = false } ∷ [] → IsIndexOf key entries (bearings issues) standings → IsIndexOf key after (bearings issues) standings
standings_statement key entries after issues standings statement signature after_is is =
    let entry : RegisteredView = record { statement = statement; signature = signature; withdrawn = false } in
    subst (λ (es : List RegisteredView). IsIndexOf key es (bearings issues) standings) (sym after_is) (IsIndexOf-entries key entries (entries ++ entry ∷ []) (bearings issues) standings (λ number. is_withdrawn-push entries entry number refl) is)

-- a withdrawal changes nothing of other numbers
is_withdrawn_at-marked : (entries : List RegisteredView) (number place : ℕ) → (suc place ≡ number → ⊥) → is_withdrawn (marked entries number) (suc place) ≡ is_withdrawn entries (suc place)
is_withdrawn_at-marked [] number place not = refl
is_withdrawn_at-marked (entry ∷ entries) zero place not = refl
is_withdrawn_at-marked (entry ∷ entries) (suc zero) zero not = absurd (not refl)
is_withdrawn_at-marked (entry ∷ entries) (suc zero) (suc place) not = refl
is_withdrawn_at-marked (entry ∷ entries) (suc (suc number)) zero not = refl
is_withdrawn_at-marked (entry ∷ entries) (suc (suc number)) (suc place) not = is_withdrawn_at-marked entries (suc number) place (λ same. not (ap suc same))

same_but-marked : (entries : List RegisteredView) (number : ℕ) → AreSameBut number (is_withdrawn entries) (is_withdrawn (marked entries number))
same_but-marked entries number zero not = refl
same_but-marked entries number (suc place) not = sym (is_withdrawn_at-marked entries number place not)

pub same_but : (entries after : List RegisteredView) (number : ℕ) → after ≡ marked entries number → AreSameBut number (is_withdrawn entries) (is_withdrawn after)
same_but entries after number after_is = subst (λ (es : List RegisteredView). AreSameBut number (is_withdrawn entries) (is_withdrawn es)) (sym after_is) (same_but-marked entries number)

-- an issue that was added
pub standings_issue : (key : List ℕ) (entries : List RegisteredView) (issues after : List Issue) (issue : Issue) (standings : Standings) → after ≡ issues ++ issue ∷ [] → IsIndexOf key entries (bearings issues ++ bearing issue ∷ []) standings → IsIndexOf key entries (bearings after) standings
standings_issue key entries issues after issue standings after_is is =
    subst (λ (is : List Issue). IsIndexOf key entries (bearings is) standings) (sym after_is)
    (subst (λ (bs : List BearingView). IsIndexOf key entries bs standings) (sym (map-append bearing issues (issue ∷ []))) is)
