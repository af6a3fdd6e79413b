use Rattle.std.proofs.Common.{refl, arith}
use Rattle.std.proofs.lemmas.Bool.{false≢true}
use Rattle.bl_syntax.specs.Formula.{formula_view}
use Rattle.bl_codec.proofs.StatementCodec.{test_passes, test_fails}
use Rattle.bl_codec.proofs.statement.body_at.Goals as goal

pub returns-in-Some : goal.returns-in-Some
returns-in-Some c =
    rw c.in-Some.ensures.same (test_passes c.args.input c.args.start c.args.who c.args.bytes.now (formula_view c.in-Ok.body) c.in-Ok.behind_body.now c.in_ok-from-in-Ok.from c.in_ok-from-in-Ok.behind_from.now c.in_ok-to-in-Ok.to c.in_ok-to-in-Ok.rest.now c.in-Ok.ensures c.in_ok-from-in-Ok.ensures c.in_ok-to-in-Ok.ensures (c.in-Some.ensures.some.0 refl))

pub returns-in-None : goal.returns-in-None
returns-in-None c =
    test_fails c.args.input c.args.start c.args.who c.args.bytes.now (formula_view c.in-Ok.body) c.in-Ok.behind_body.now c.in_ok-from-in-Ok.from c.in_ok-from-in-Ok.behind_from.now c.in_ok-to-in-Ok.to c.in_ok-to-in-Ok.rest.now (λ i. omega (arith, c.type_inv.bytes i)) c.in-Ok.ensures c.in_ok-from-in-Ok.ensures c.in_ok-to-in-Ok.ensures (λ k. absurd (false≢true (c.in-None.ensures.some.1 k)))
