-- The proof that was read begins the bytes, or none does.
use Rattle.std.proofs.Common.{arith, sym, ap, ◌∙◌, Ok}
use Rattle.proof_term.specs.Proof.{proof_view}
use Rattle.proof_term.proofs.ProofLemmas.{proof_found}
use Rattle.proof_term.proofs.CodecLemmas.{spellable, kept_ok, fault_is, reads_ok, reads_err, reading_ok, reading_fails}
use Rattle.proof_term.proofs.TimeLemmas.{IsKept-from_spellable}
use Rattle.proof_term.proofs.reading.read_proof.Goals as goal

pub keep-requires : goal.keep-requires
keep-requires c =
    let found = proof_found 200 _ 4096 c.args.bytes.now c.in-Ok.rest.now (proof_view c.in-Ok.root.value) c.in-Ok._nodes_left (λ i. omega (arith, c.type_inv.bytes i)) c.in-Ok.ensures in
    IsKept-from_spellable (proof_view c.in-Ok.root.value) (spellable c.args.bytes.now c.in-Ok.rest.now (proof_view c.in-Ok.root.value) c.in-Ok._nodes_left found).0

pub returns-in-Ok-clause-exact : goal.returns-in-Ok-clause-exact
returns-in-Ok-clause-exact c =
    let kept = kept_ok c.args.bytes.now c.in-Ok.rest.now (proof_view c.in-Ok.root.value) c.in-Ok._nodes_left c.in-Ok.ensures in
    reading_ok c.args.bytes.now c.in-Ok.rest.now (proof_view c.in-Ok.root.value) c.saturating_sub.result kept c.saturating_sub.ensures ∙ ap (λ d. Ok (d, c.saturating_sub.result)) (sym c.keep.ensures)

pub returns-in-Ok-clause-front : goal.returns-in-Ok-clause-front
returns-in-Ok-clause-front c =
    let kept = kept_ok c.args.bytes.now c.in-Ok.rest.now (proof_view c.in-Ok.root.value) c.in-Ok._nodes_left c.in-Ok.ensures in
    rw c.keep.ensures (reads_ok c.args.bytes.now c.in-Ok.rest.now (proof_view c.in-Ok.root.value) c.saturating_sub.result (λ i. omega (arith, c.type_inv.bytes i)) kept c.saturating_sub.ensures)

pub returns-in-Err-clause-exact : goal.returns-in-Err-clause-exact
returns-in-Err-clause-exact c = reading_fails c.args.bytes.now c.in-Err.fault c.in-Err.ensures

pub returns-in-Err-clause-front : goal.returns-in-Err-clause-front
returns-in-Err-clause-front c = reads_err c.args.bytes.now c.in-Err.fault (λ i. omega (arith, c.type_inv.bytes i)) (fault_is c.args.bytes.now c.in-Err.fault c.in-Err.ensures)
