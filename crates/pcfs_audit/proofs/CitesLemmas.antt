-- Issues that are good, and numbers that no good issue cites.
use Rattle.std.proofs.Common.{◌≡◌, ◌<◌, ◌≤◌, ◌+◌, ◌-◌, ℕ, List, ◌∷◌, ◌++◌, [], length, take, get_or, refl, sym, subst, ◌∙◌, arith, Bool, false}
use Rattle.std.specs.Prelude.{IsTrue, ◌↔◌}
use Rattle.std.specs.Borrow.{Bor}
use Rattle.std.proofs.lemmas.Bool.{false≢true}
use Rattle.bl_syntax.specs.declared.grant.Goal.{Goal}
use Rattle.bl_syntax.specs.Grant.{GrantView}
use Rattle.bl_syntax.specs.Citable.{AreCitable}
use Rattle.bl_syntax.specs.Statement.{StatementView}
use Rattle.proof_term.specs.Proof.{ProofView}
use Rattle.proof_verifier.specs.declared.cites.Cite.{Cite}
use Rattle.proof_verifier.specs.Cited.{statements_of}
use Rattle.proof_verifier.specs.CheckedView.{IsGranted}
use Rattle.proof_verifier.specs.Run.{IsFault}
use Rattle.proof_verifier.specs.Verdict.{verdict}
use Rattle.proof_verifier.specs.declared.fault.CheckFault.{CheckFault}
use Rattle.proof_verifier.specs.declared.fault.CheckFault.TheVariants as checks
use Rattle.access_history.specs.Books.{whole_book}
use Rattle.access_history.specs.Citing.{AreFound, IsHeld, IsGoodIssue, IsGrantOf, IsGrantedFrom, numbers_of}
use Rattle.access_history.specs.Numbered.{IsNumbered}
use Rattle.access_history.proofs.CitingLemmas.{AreCited-found, HasNumber-held, IsNumbered-whole, granted_as, granted_is, refused_grants_none, same_cites}
use Rattle.access_history.proofs.NumberedLemmas.{no_zero, numbered_in}
use Rattle.op_gate.proofs.AdmitLemmas.{good_citable, good_found}
use Rattle.op_gate.proofs.CitingLemmas.{AreFound-more, IsAbsent-at}
use Rattle.pcfs_audit.specs.Cites.{AreTheirs, HasNoIssue}
use Rattle.pcfs_audit.specs.Papers.{shown}
use Rattle.pcfs_audit.proofs.ReferenceLemmas.{length-shown, shown_read}

-- a test that came out false of what does not hold
pub is_false : {P : Type 0} → (P → ⊥) → IsTrue false ↔ P
is_false not = (λ yes. absurd (false≢true yes), λ holds. absurd (not holds))

-- ---- numbers

-- numbers that cannot be cited
pub not_citable : (statements : List StatementView) (numbers : List ℕ) → (AreCitable numbers → ⊥) → HasNoIssue statements numbers
not_citable statements numbers not = λ proof g good. not (good_citable statements numbers proof g good)

-- a number of no statement
pub no_statement : (statements : List (Bor StatementView)) (numbers : List ℕ) (place number : ℕ) (cites : List Cite) → place < length numbers → number ≡ get_or numbers place 0 → AreFound (whole_book (shown statements)) (take place numbers) cites →
    (IsHeld (whole_book (shown statements)) number → ⊥) → HasNoIssue (shown statements) numbers
no_statement statements numbers place number cites within is found none =
    λ proof g good. good_found (shown statements) numbers proof g number good (IsAbsent-at (whole_book (shown statements)) numbers place number cites within is found none)

pub zero_absent : (statements : List (Bor StatementView)) (number : ℕ) → number ≡ 0 → IsHeld (whole_book (shown statements)) number → ⊥
zero_absent statements number zero held = no_zero (shown statements) number zero (HasNumber-held (shown statements) number held)

pub beyond_absent : (statements : List (Bor StatementView)) (number : ℕ) → length statements < number → IsHeld (whole_book (shown statements)) number → ⊥
beyond_absent statements number beyond held = let has = HasNumber-held (shown statements) number held in omega (arith, beyond, has.1, length-shown statements)

-- one number more, with its statement
pub found_more : (statements : List (Bor StatementView)) (numbers : List ℕ) (place number : ℕ) (cites after : List Cite) (reference : Bor StatementView) (said : StatementView) → place < length numbers → number ≡ get_or numbers place 0 →
    AreFound (whole_book (shown statements)) (take place numbers) cites → (number ≡ 0 → ⊥) → number ≤ length statements → reference ≡ get_or statements (number - 1) reference → said ≡ reference.now →
    after ≡ cites ++ record { number = number; statement = said } ∷ [] → AreFound (whole_book (shown statements)) (take (place + 1) numbers) after
found_more statements numbers place number cites after reference said within is found some few read same more =
    let at : number - 1 < length statements = omega (arith, some, few) in
    let numbered : IsNumbered (shown statements) number reference.now =
    numbered_in (shown statements) (shown statements) number reference.now refl some (omega (arith, few, length-shown statements)) (shown_read statements (number - 1) reference at read) in
    AreFound-more (whole_book (shown statements)) numbers place number cites after reference.now said within is found (IsNumbered-whole (shown statements) number reference.now numbered) same more

-- what is cited
pub theirs : (statements : List StatementView) (numbers : List ℕ) (cites told : List Cite) → told ≡ cites → AreFound (whole_book statements) numbers cites → AreCitable numbers → AreTheirs statements numbers told
theirs statements numbers cites told same found citable =
    subst (AreTheirs statements numbers) (sym same) (record { found = found; cited = AreCited-found (whole_book statements) numbers cites found citable })

-- ---- grants

-- the verdict is this grant, naming what is cited or not; or it is another
pub granted_same : (cites : List Cite) (goal : Goal) (proof : ProofView) (granted g : GrantView) (is_same : Bool) → goal ≡ g.goal → IsGranted (statements_of cites) goal proof granted → (IsTrue is_same ↔ IsGrantOf granted (numbers_of cites) g) →
    IsTrue is_same ↔ IsGrantedFrom cites proof g
granted_same cites goal proof granted g is_same of_goal is decides =
    (λ yes. granted_as cites goal proof granted g is of_goal (decides.0 yes), λ from. decides.1 (granted_is cites goal proof granted g is.verdict_is of_goal from))

-- the proof is refused
pub granted_not : (cites : List Cite) (goal : Goal) (proof : ProofView) (g : GrantView) (fault : CheckFault) → goal ≡ g.goal → (fault ≡ checks.NoMemory → ⊥) → IsFault fault (verdict (statements_of cites) goal proof) →
    IsTrue false ↔ IsGrantedFrom cites proof g
granted_not cites goal proof g fault of_goal other fails =
    is_false (refused_grants_none cites proof g fault other (subst (λ (w : Goal). IsFault fault (verdict (statements_of cites) w proof)) of_goal fails))

-- ---- issues

pub good_by_cites : (statements : List StatementView) (numbers : List ℕ) (proof : ProofView) (g : GrantView) (cites : List Cite) (granted : Bool) → AreTheirs statements numbers cites → (IsTrue granted ↔ IsGrantedFrom cites proof g) →
    IsTrue granted ↔ IsGoodIssue statements (record { cited = numbers; proof = proof; grant = g })
good_by_cites statements numbers proof g cites granted theirs decides = (
  λ yes. record { cites = cites; cited = sym theirs.found.numbers_are; rising = theirs.cited; stand = theirs.found.stand; granted = decides.0 yes },
  λ good.
      let is : good.cites ≡ cites = same_cites (whole_book statements) good.cites cites (sym good.cited ∙ sym theirs.found.numbers_are) good.stand theirs.found.stand in
      decides.1 (subst (λ (cs : List Cite). IsGrantedFrom cs proof g) is good.granted),
)
