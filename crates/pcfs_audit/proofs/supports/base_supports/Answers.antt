-- Each grant has a row, in which the issues of the base are counted.
use Rattle.std.proofs.Common.{arith, ap, length, ◌∙◌}
use Rattle.pcfs_audit.specs.Papers.{shown}
use Rattle.pcfs_audit.proofs.ReferenceLemmas.{length-shown}
use Rattle.pcfs_audit.proofs.SupportsLemmas.{length_replicate, supports_none}
use Rattle.pcfs_audit.proofs.supports.base_supports.Goals as goal

pub with_base-requires-clause-sized : goal.with_base-requires-clause-sized
with_base-requires-clause-sized c = ap length c.in_ok-empty.ensures ∙ (length_replicate (length c.as_slice-grants.result.now) ∙ ap length c.as_slice-grants.ensures.value)

pub returns-clause-follow : goal.returns-clause-follow
returns-clause-follow c =
    let grants = c.args.dossier.now.papers.grants.items in
    record {
      sized = c.in_ok-rows.ensures.sized;
      rows_are = λ some. c.in_ok-rows.ensures.rows some (supports_none (shown grants) c.args.dossier.now.papers.ends.items (length c.as_slice-grants.result.now) c.in_ok-empty.empty.items (omega (arith, length-shown grants, ap length c.as_slice-grants.ensures.value)) c.in_ok-empty.ensures);
    }
