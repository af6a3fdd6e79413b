use Rattle.std.proofs.Common.{ℕ, ◌+◌, ◌^◌, ◌<◌, length, arith, inl, inr, ap}
use Rattle.journal_core.proofs.RecordLemmas.{record_found, record_number, record_within}
use Rattle.journal_core.proofs.records.find_record.Goals as goal

pub returns-then-bytes-gate : goal.returns-then-bytes-gate
returns-then-bytes-gate c payload fits begins =
    absurd (omega (arith, record_within c.args.bytes.now c.args.gate payload begins, c.if-bytes-gate.true))

pub returns-then-end-ge-LIMIT : goal.returns-then-end-ge-LIMIT
returns-then-end-ge-LIMIT c payload fits begins =
    let short : length payload < 2 ^ 32 = omega (arith, fits) in
    let number = record_number c.args.bytes.now c.args.gate payload short begins in
    let within = record_within c.args.bytes.now c.args.gate payload begins in
    elim c.then-end-ge-LIMIT.either [
      | inl past ↦ absurd (omega (arith, past, number, c.length_at.ensures, fits))
      | inr cut ↦ absurd (omega (arith, cut.1, number, c.length_at.ensures, within))
    ]

pub returns : goal.returns
returns c = record {
  low = omega arith;
  high = c.if-end-ge-LIMIT.false;
  within = c.if-bytes-end.false;
  front = record_found c.args.bytes.now c.args.gate _ (λ i. omega (arith, c.type_inv.bytes i)) c.requires.is_open c.if-bytes-gate.false
      (ap (λ (n : ℕ). c.args.gate + 5 + n) c.length_at.ensures) c.if-bytes-end.false;
}
