use Rattle.std.proofs.Common.{arith}
use Rattle.procap.specs.GrantSpelling.{grant_spelling, IsSpellableGrant}
use Rattle.procap.specs.GrantReading.{grant_at}
use Rattle.bl_syntax.proofs.CodecLemmas.{front_ok}
use Rattle.procap.proofs.GrantLemmas.{grant_codec}
use Rattle.bl_syntax.proofs.ReportsFaultLemmas.{front_stops}
use Rattle.procap.proofs.reading.read_grant.Goals as goal

pub returns-in-Err-clause-front : goal.returns-in-Err-clause-front
returns-in-Err-clause-front c = front_stops (λ g. g) IsSpellableGrant grant_spelling grant_at c.args.bytes.now c.in-Err.fault grant_codec (λ i. omega (arith, c.type_inv.bytes i)) c.in-Err.ensures

pub returns-in-Ok-clause-front : goal.returns-in-Ok-clause-front
returns-in-Ok-clause-front c =
    front_ok (λ g. g) IsSpellableGrant grant_spelling grant_at c.args.bytes.now c.in-Ok.rest.now c.in-Ok.grant c.place.result grant_codec (λ i. omega (arith, c.type_inv.bytes i)) c.in-Ok.ensures c.place.ensures
