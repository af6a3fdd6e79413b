-- The faults of lines and of proofs are reported as such.
use Rattle.std.proofs.Common.{◌≡◌, ◌≢◌, ℕ, List, Err, refl, subst}
use Rattle.std.specs.Prelude.{codes}
use Rattle.bl_syntax.specs.declared.grant.Goal.{Goal}
use Rattle.bl_syntax.specs.Statement.{StatementView}
use Rattle.bl_tokens.specs.declared.faults.TextFault.{TextFault}
use Rattle.bl_tokens.specs.declared.faults.TextFault.TheVariants as texts
use Rattle.proof_term.specs.Proof.{ProofView}
use Rattle.proof_verifier.specs.declared.fault.CheckFault.{CheckFault}
use Rattle.proof_verifier.specs.declared.fault.CheckFault.TheVariants as faults
use Rattle.proof_verifier.specs.Verdict.{verdict}
use Rattle.proof_verifier.proofs.MemoryLemmas.{verdict-memoryless}
use Rattle.line_forms.specs.declared.fault.LineFault.{LineFault}
use Rattle.line_forms.specs.declared.fault.LineFault.TheVariants as lines
use Rattle.line_forms.specs.declared.mode.Mode.{Mode}
use Rattle.line_forms.specs.Lines.{IsLineFaultIn}
use Rattle.line_forms.proofs.FaultLemmas.{IsReported, reported}
use Rattle.line_wire.specs.FirstWord.{text_word, fault_word, unproved_word}

text_reported : (fault : TextFault) → fault ≢ texts.NoMemory → text_word fault ≡ codes "bad"
text_reported (texts.Unexpected at) some = refl
text_reported (texts.UnknownName at) some = refl
text_reported (texts.BadDate at) some = refl
text_reported (texts.Sort at) some = refl
text_reported (texts.TooLarge at) some = refl
text_reported texts.NoMemory some = absurd (some refl)

word_reported : (fault : LineFault) → IsReported fault → fault_word fault ≡ codes "bad"
word_reported (lines.BadWord place) h = refl
word_reported lines.BadCount h = refl
word_reported (lines.BadText fault) h = text_reported fault h
word_reported lines.NoMemory h = absurd h

pub line_reported : (mode : Mode) (line : List ℕ) (fault : LineFault) → IsLineFaultIn mode line fault → fault_word fault ≡ codes "bad"
line_reported mode line fault bad = word_reported fault (reported bad)

check_reported : (fault : CheckFault) → fault ≢ faults.NoMemory → unproved_word fault ≡ codes "unproved"
check_reported (faults.NoHypothesis node) some = refl
check_reported (faults.WrongShape node) some = refl
check_reported (faults.NotEntailed node) some = refl
check_reported (faults.NotInState node) some = refl
check_reported (faults.ViewTooWeak node) some = refl
check_reported (faults.BadTerm node) some = refl
check_reported (faults.TooManyConditions node) some = refl
check_reported faults.NoMemory some = absurd (some refl)

pub proof_reported : (statements : List StatementView) (goal : Goal) (proof : ProofView) (fault : CheckFault) → verdict statements goal proof ≡ Err fault → unproved_word fault ≡ codes "unproved"
proof_reported statements goal proof fault is =
    check_reported fault (λ none. verdict-memoryless statements goal proof (subst (λ (f : CheckFault). verdict statements goal proof ≡ Err f) none is))
