use Rattle.std.proofs.Common.{sym, arith}
use Rattle.bl_syntax.specs.FormulaReading.{formula_at}
use Rattle.bl_codec.proofs.DepthLemmas.{formula_inside, formula_none}
use Rattle.bl_codec.proofs.LeafLemmas.{leaf_is}
use Rattle.bl_syntax.proofs.ReportsFaultLemmas.{stops}
use Rattle.bl_codec.proofs.formula_reading.+formula.Goals as goal

pub formula_at-returns-then-depth-eq0 : goal.formula_at-returns-then-depth-eq0
formula_at-returns-then-depth-eq0 t c = rw (formula_none c.args.input c.args.depth c.args.left c.args.bytes.now c.if-depth-eq0.true) (stops c.depth_fault.result _ c.depth_fault.ensures)

pub formula_at-returns : goal.formula_at-returns
formula_at-returns t c = rw (formula_inside c.args.input c.args.depth c.args.left c.args.bytes.now (omega arith)) c.node_at.ensures

pub fields_at-returns-then-is_leaf_tag : goal.fields_at-returns-then-is_leaf_tag
fields_at-returns-then-is_leaf_tag t c =
    rw (leaf_is (λ n rest. formula_at c.args.input c.args.depth n rest) c.args.input c.args.left c.args.tag c.args.rest.now (sym c.if-is_leaf_tag.ensures)) c.leaf_at.ensures
