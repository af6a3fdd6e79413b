use Rattle.std.proofs.Common.{◌≡◌, ℕ, ◌+◌, ◌^◌, ◌<◌, ◌≤◌, length, take, drop, ap, ◌∙◌, arith}
use Rattle.std.proofs.lemmas.List.{append-nil}
use Rattle.std.proofs.lemmas.Slice.Eq.{bytes_eq-Decides}
use Rattle.journal_core.specs.Area.{area_limit, magic}
use Rattle.journal_core.proofs.RecordLemmas.{base_found, base_length, base_within, named_by}
use Rattle.journal_core.proofs.records.find_base.Goals as goal
use Rattle.journal_core.proofs.records.find_base.Goals.{then-len-via-then-len, then-len-via-else-len+then-bytes-len}

pub returns-then-len : goal.returns-then-len
returns-then-len c = record {
  is_open = c.requires;
  none = λ generation image generated fits begins.
      let long : 24 + length image < area_limit = omega (arith, fits, ap length (append-nil image)) in
      let short : length image < 2 ^ 64 = omega (arith, long) in
      let len = base_length c.args.bytes.now generation image begins short in
      let within = base_within c.args.bytes.now generation image begins in
      elim c.then-len.branch [
        | then-len-via-then-len w ↦ absurd (omega (arith, len, c.number_at-len.ensures, long))
        | then-len-via-else-len+then-bytes-len w ↦ absurd (omega (arith, len, c.number_at-len.ensures, within))
      ];
}

pub returns : goal.returns
returns c =
    let bytes = c.args.bytes.now in
    let low : 24 ≤ 24 + c.number_at-len.result = omega arith in
    let within : 24 + c.number_at-len.result ≤ length bytes = omega arith in
    let named : take 7 (drop 1 bytes) ≡ magic =
    (bytes_eq-Decides (take 7 (drop 1 bytes)) c.as_slice.result.now).0 (named_by _ c.ne.result c.ne.ensures c.if-ne.false) ∙ c.as_slice.ensures in
    record {
      generated = record { low = omega arith; high = omega arith };
      low = low;
      high = omega arith;
      within = within;
      front = base_found bytes c.number_at-generation.result (24 + c.number_at-len.result) (λ i. omega (arith, c.type_inv.bytes i)) c.requires low within named
          c.number_at-generation.ensures (ap (λ (n : ℕ). 24 + n) c.number_at-len.ensures);
    }
