use Rattle.std.proofs.Common.{inr, sym, ap, ◌∙◌}
use Rattle.bl_syntax.specs.Grant.{GrantView}
use Rattle.procap.proofs.NamesLemmas.{version_one, version_other, read_as}
use Rattle.procap.proofs.reading.naming_at.Goals as goal

pub returns-then-version-eq1-clause-read : goal.returns-then-version-eq1-clause-read
returns-then-version-eq1-clause-read c = rw c.requires (version_one c.args.version c.args.input c.args.bytes.now c.if-version-eq1.true)

pub naming-requires : goal.naming-requires
naming-requires c = inr c.in-Ok.ensures.named

pub returns-in-Err-clause-read : goal.returns-in-Err-clause-read
returns-in-Err-clause-read c = rw (version_other c.args.version c.args.input c.args.bytes.now c.if-version-eq1.false) c.in-Err.ensures.read

pub returns-in-Ok-clause-read : goal.returns-in-Ok-clause-read
returns-in-Ok-clause-read c =
    version_other c.args.version c.args.input c.args.bytes.now c.if-version-eq1.false
    ∙ c.in-Ok.ensures.read
    ∙ sym (ap (λ (g : GrantView). read_as g.cited c.in-Ok.rest.now) c.naming.ensures)
