-- The payloads before it are of events that are kept, and lawful.
use Rattle.std.proofs.Common.{◌<◌, length, sym, subst, arith}
use Rattle.std.specs.Prelude.{Err}
use Rattle.access_history.specs.History.{authority_with}
use Rattle.recover.specs.declared.fault.OpenFault.{OpenFault}
use Rattle.recover.specs.Reading.{AdmitsPayloads}
use Rattle.recover.proofs.PayloadLemmas.{fault_there, lawful_gate}
use Rattle.recover.proofs.reading.admit_payloads.Goals as goal

pub returns-in-Err-clause-answer : goal.returns-in-Err-clause-answer
returns-in-Err-clause-answer c =
    let old = c.loop-place.gate in
    let new = c.admit_payload.new.gate in
    let key = c.args.gate.now.key in
    let ring = c.args.gate.now.ring in
    let base = c.args.gate.now.base in
    let payloads = c.args.scan.now.payloads in
    let same = c.loop-place.invariant.same in
    let within : c.loop-place.place < length payloads = omega (arith, c.loop-place-test.true, c.count-place-end.ensures) in
    subst (λ (f : OpenFault). AdmitsPayloads (authority_with key ring) base payloads (Err f) new.events) (sym c.fault_at.ensures)
    (fault_there payloads c.loop-place.place old new c.payload.result.now key ring base c.in-Err.fault new.events within c.payload.ensures c.loop-place.invariant.read same.key same.ring same.base
    (lawful_gate c.history.result.now old key ring base c.history.ensures.key c.history.ensures.ring c.history.ensures.base c.history.ensures.events same.key same.ring same.base c.lemma_is_lawful.ensures)
    c.in-Err.ensures.answer)
