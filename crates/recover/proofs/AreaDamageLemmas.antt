-- What is wrong first with the bytes of an area, over plain values.
use Rattle.std.proofs.Common.{◌≡◌, ◌≢◌, ◌≤◌, ◌<◌, ◌+◌, ℕ, List, [], ◌∷◌, length, get_or, refl, sym, ap, subst, arith, ⊎_elim, length-append, IfSome}
use Rattle.std.specs.Prelude.{Option}
use Rattle.std.proofs.lemmas.Bool.{cases_eq}
use Rattle.journal_core.specs.Area.{area_limit, area_bytes, record_bytes, records, IsFront, IsBroken}
use Rattle.journal_core.specs.Faults.{IsFrontReported}
use Rattle.journal_core.specs.declared.scan.ScanFault.{ScanFault}
use Rattle.journal_core.specs.declared.scan.ScanFault.TheVariants as scans
use Rattle.journal_core.proofs.RestsLemmas.{if_told, at_told}
use Rattle.journal_core.proofs.ReadingLemmas.{front_area, area_not_broken}
use Rattle.journal_core.proofs.RecordLemmas.{area_split, record_length}
use Rattle.access_history.specs.Authority.{Authority}
use Rattle.access_history.specs.Base.{BaseView}
use Rattle.op_gate.specs.declared.damage.Damage.TheVariants.{Header, Shape}
use Rattle.checkpoint.specs.Reading.{IsImageOf}
use Rattle.recover.specs.declared.fault.OpenFault.{OpenFault}
use Rattle.recover.specs.declared.fault.OpenFault.TheVariants.{NoStore, Damaged, Disk, NoMemory}
use Rattle.recover.specs.AreaDamage.{IsDamagedArea, no_base, no_image, no_payload, no_record, AreLawfulPayloads}
use Rattle.recover.specs.Opening.{IsWhy, front_fault}
use Rattle.recover.specs.Reading.{HasDamage}

-- each record has five bytes at least
few_records : (payloads : List (List ℕ)) → length payloads ≤ length (records payloads)
few_records [] = omega arith
few_records (payload ∷ payloads) = omega (arith, few_records payloads, record_length payload, length-append (record_bytes payload) (records payloads))

-- there are few payloads in a front
pub few_payloads : (bytes : List ℕ) (generation : ℕ) (image : List ℕ) (payloads : List (List ℕ)) → IsFront bytes generation image payloads → length payloads < area_limit
few_payloads bytes generation image payloads front =
    omega (arith, front.fits, few_records payloads, ap length (area_split generation image payloads), length-append (area_bytes generation image []) (records payloads))

-- what is wrong with the image or the payloads of a front
pub why_front : (authority : Authority) (bytes : List ℕ) (generation : ℕ) (image : List ℕ) (payloads : List (List ℕ)) (fault : OpenFault) → IsFront bytes generation image payloads → HasDamage authority image payloads fault → IsWhy authority bytes fault
why_front authority bytes generation image payloads NoStore front has = absurd has
why_front authority bytes generation image payloads (Damaged number damage) front has =
    ⊎_elim
    (λ damaged. subst (λ (n : ℕ). IsDamagedArea authority bytes n damage) (sym damaged.0) (no_image generation image payloads damage front damaged.1))
    (λ at. no_payload generation image at.0 payloads number damage front at.1 at.2)
    has
why_front authority bytes generation image payloads Disk front has = absurd has
why_front authority bytes generation image payloads NoMemory front has = tt

-- bytes that break have an open gate after their front
opens_there : (bytes : List ℕ) (number generation : ℕ) (image : List ℕ) (payloads : List (List ℕ)) → IsFront bytes generation image payloads → IsBroken number bytes → get_or bytes (length (area_bytes generation image payloads)) 0 ≡ 1
opens_there bytes number generation image payloads front broken =
    ⊎_elim (λ is_open. is_open) (λ shut. absurd (area_not_broken bytes generation image payloads number (front_area bytes generation image payloads front shut) broken)) (cases_eq (get_or bytes (length (area_bytes generation image payloads)) 0) 1)

-- the record after lawful payloads is cut
pub why_broken : (authority : Authority) (bytes : List ℕ) (number generation : ℕ) (image : List ℕ) (base : BaseView) (payloads : List (List ℕ)) (told : ℕ) → IsFront bytes generation image payloads → IsBroken number bytes → IsImageOf base image →
    AreLawfulPayloads authority base payloads → (length payloads < area_limit → told ≡ length payloads + 1) → IsWhy authority bytes (Damaged told Shape)
why_broken authority bytes number generation image base payloads told front broken is lawful told_is =
    subst (λ (n : ℕ). IsDamagedArea authority bytes n Shape) (sym (told_is (few_payloads bytes generation image payloads front)))
    (no_record generation image base payloads front is lawful (opens_there bytes number generation image payloads front broken))

-- a scan of a front found none
pub why_no_front : (authority : Authority) (fault : ScanFault) (told : Option (List ℕ)) → (fault ≢ scans.Disk → IfSome told (IsFrontReported fault)) → IfSome told (λ bytes. IsWhy authority bytes (front_fault fault))
why_no_front authority scans.Closed told reported = reported (λ e. cc)
why_no_front authority (scans.Broken number) told reported = if_told told (λ bytes. IsWhy authority bytes (Damaged number Header))
    (λ bytes is. let base = at_told told (IsFrontReported (scans.Broken number)) bytes is (reported (λ e. cc)) in subst (λ (n : ℕ). IsDamagedArea authority bytes n Header) (sym base.0) (no_base base.1))
why_no_front authority scans.Disk told reported = if_told told (λ bytes. Unit {0}) (λ bytes is. tt)
why_no_front authority scans.NoMemory told reported = if_told told (λ bytes. Unit {0}) (λ bytes is. tt)

-- the disk failed where that is reported
pub front_failed : (fault : ScanFault) → front_fault fault ≡ Disk → fault ≡ scans.Disk
front_failed scans.Closed e = absurd cc
front_failed (scans.Broken number) e = absurd cc
front_failed scans.Disk e = refl
front_failed scans.NoMemory e = absurd cc
