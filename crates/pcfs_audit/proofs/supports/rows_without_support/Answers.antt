-- One row more.
use Rattle.std.proofs.Common.{◌≡◌, ◌++◌, ◌∷◌, ◌∙◌, [], List, ap, arith, replicate, ℕ}
use Rattle.pcfs_audit.specs.declared.supports.Support.{Support}
use Rattle.pcfs_audit.specs.declared.supports.Support.TheVariants.{Unissued}
use Rattle.pcfs_audit.proofs.SupportsLemmas.{replicate_push}
use Rattle.pcfs_audit.proofs.supports.rows_without_support.Goals as goal

pub loop-init : goal.loop-init
loop-init c = (c.new-rows.ensures.items, omega arith)

pub loop-preserved : goal.loop-preserved
loop-preserved c = (
  c.in_ok-push.ensures.items ∙ (ap (λ (rows : List Support). rows ++ Unissued ∷ []) c.loop.invariant.0 ∙ replicate_push c.loop.counter),
  omega (arith, c.loop-test.true),
)

pub returns : goal.returns
returns c =
    let all : c.loop.counter ≡ c.args.count = omega (arith, c.loop-test.false, c.loop.invariant.1) in
    c.loop.invariant.0 ∙ ap (λ (n : ℕ). replicate n Unissued) all
