-- What lines, a text and an input come to, by the answers of the calls that look at them.
use Rattle.std.proofs.Common.{◌≡◌, ◌≢◌, ℕ, List, [], ◌∷◌, ◌++◌, Bool, Ok, Err, Option, refl, sym, subst}
use Rattle.std.specs.Prelude.{Result, IfOk, OnErr}
use Rattle.bl_syntax.specs.declared.lists.NoMemory.{NoMemory as OutOfMemory}
use Rattle.line_faults.specs.LongLines.{HasLongLine}
use Rattle.line_forms.specs.declared.fault.LineFault.{LineFault}
use Rattle.line_forms.specs.declared.fault.LineFault.TheVariants.{BadWord, BadCount, BadText, NoMemory}
use Rattle.line_text.specs.Lines.{lines_of}
use Rattle.pcfs_ports.specs.Observable.{ReadsToEnd}
use Rattle.pcfs_ports.specs.declared.streams.TakeFault.{TakeFault}
use Rattle.pcfs_ports.specs.declared.streams.TakeFault.TheVariants.{Failed, TooLong}
use Rattle.root_signing.specs.Reading.{IsUnreadSeed}
use Rattle.root_signing.specs.Signed.{ComesTo, SigningEnds, SignsLines, answered, fault_line, has_seed, no_line, no_seed, root_line}
use Rattle.root_signing.specs.SigningLines.{IsSeedFault, IsSeedLine}
use Rattle.root_signing.specs.declared.answering.SigningEnd.{SigningEnd}

-- an end with this status and these lines
pub ends_with : (r : Result SigningEnd OutOfMemory) (status : ℕ) (written : List ℕ) (Ends : ℕ → List ℕ → Type 0) → IfOk r (λ (end : SigningEnd). end.status ≡ status) → IfOk r (λ (end : SigningEnd). end.lines ≡ written) → Ends status written →
    IfOk r (λ (end : SigningEnd). Ends end.status end.lines)
ends_with (Ok end) status written Ends status_is lines_are ends = subst (λ (n : ℕ). Ends n end.lines) (sym status_is) (subst (Ends status) (sym lines_are) ends)
ends_with (Err refused) status written Ends status_is lines_are ends = tt

-- the first line gives the seed
pub ends_signed : (r : Result SigningEnd OutOfMemory) (height from : ℕ) (line : List ℕ) (lines : List (List ℕ)) (seed : List ℕ) → IsSeedLine line seed →
    IfOk r (λ (end : SigningEnd). (written : List ℕ) × SignsLines seed height from 2 lines end.status written × (end.lines ≡ root_line seed height ++ written)) →
    IfOk r (λ (end : SigningEnd). ComesTo height from (line ∷ lines) end.status end.lines)
ends_signed (Ok end) height from line lines seed is h = subst (ComesTo height from (line ∷ lines) end.status) (sym h.2) (has_seed line lines seed end.status h.0 is h.1)
ends_signed (Err refused) height from line lines seed is h = tt

seed_fault : (line : List ℕ) (fault : LineFault) → IsUnreadSeed line fault → fault ≢ NoMemory → IsSeedFault line fault
seed_fault line (BadWord place) h told = h
seed_fault line BadCount h told = h
seed_fault line (BadText fault) h told = h
seed_fault line NoMemory h told = absurd (told refl)

-- the first line is wrong
pub ends_bad : (r : Result SigningEnd OutOfMemory) (height from : ℕ) (line : List ℕ) (lines : List (List ℕ)) (fault : LineFault) → IsUnreadSeed line fault → IfOk r (λ (end : SigningEnd). end.status ≡ 12) →
    IfOk r (λ (end : SigningEnd). end.lines ≡ fault_line 1 fault) → IfOk r (λ (end : SigningEnd). fault ≢ NoMemory) → IfOk r (λ (end : SigningEnd). ComesTo height from (line ∷ lines) end.status end.lines)
ends_bad (Ok end) height from line lines fault h status_is lines_are told =
    ends_with (Ok end) 12 (fault_line 1 fault) (ComesTo height from (line ∷ lines)) status_is lines_are (no_seed line lines fault (seed_fault line fault h told))
ends_bad (Err refused) height from line lines fault h status_is lines_are told = tt

-- there is a first line
pub ends_by_line : (r : Result SigningEnd OutOfMemory) (height from : ℕ) (lines others : List (List ℕ)) (line : List ℕ) → lines ≡ line ∷ others → IfOk r (λ (end : SigningEnd). ComesTo height from (line ∷ others) end.status end.lines) →
    IfOk r (λ (end : SigningEnd). ComesTo height from lines end.status end.lines)
ends_by_line r height from lines others line is ends = subst (λ (ls : List (List ℕ)). IfOk r (λ (end : SigningEnd). ComesTo height from ls end.status end.lines)) (sym is) ends

-- there is no line
pub ends_nothing : (r : Result SigningEnd OutOfMemory) (height from : ℕ) (text : List ℕ) → text ≡ [] → IfOk r (λ (end : SigningEnd). end.status ≡ 12) → IfOk r (λ (end : SigningEnd). end.lines ≡ fault_line 1 (BadWord 0)) →
    IfOk r (λ (end : SigningEnd). ComesTo height from (lines_of text) end.status end.lines)
ends_nothing r height from text none status_is lines_are =
    subst (λ (t : List ℕ). IfOk r (λ (end : SigningEnd). ComesTo height from (lines_of t) end.status end.lines)) (sym none)
    (ends_with r 12 (fault_line 1 (BadWord 0)) (ComesTo height from []) status_is lines_are no_line)

-- the input was read to its end
pub ends_answered : (r : Result SigningEnd OutOfMemory) (height from : ℕ) (left left_after : Option (List ℕ)) (faults faults_after : ℕ) (broken : Bool) (text bytes : List ℕ) → text ≡ bytes → ReadsToEnd left left_after bytes → (HasLongLine (lines_of bytes) → ⊥) →
    faults_after ≡ faults →
    IfOk r (λ (end : SigningEnd). ComesTo height from (lines_of text) end.status end.lines) → IfOk r (λ (end : SigningEnd). SigningEnds height from left left_after faults faults_after broken end.status end.lines)
ends_answered (Ok end) height from left left_after faults faults_after broken text bytes same reads short steady ends =
    answered bytes end.status end.lines reads short (subst (λ (b : List ℕ). ComesTo height from (lines_of b) end.status end.lines) same ends) steady
ends_answered (Err refused) height from left left_after faults faults_after broken text bytes same reads short steady ends = tt

-- what holds anyhow holds if memory ran out
pub on_err : (r : Result SigningEnd OutOfMemory) (P : Type 0) → P → OnErr r P
on_err (Ok end) P p = tt
on_err (Err refused) P p = p

-- an input that is too long has not failed
pub not_failed : (r : Result (List ℕ) TakeFault) → r ≡ Err TooLong → r ≢ Err Failed
not_failed r long failed = cc
