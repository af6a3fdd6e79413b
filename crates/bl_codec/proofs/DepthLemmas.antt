-- A formula that may be nested some levels deep is a node whose formulas may be nested one level less.
use Rattle.std.proofs.Common.{◌≡◌, ◌<◌, ◌-◌, ℕ, zero, suc, List, refl, arith}
use Rattle.bl_syntax.specs.FormulaReading.{no_more, node_at, formula_at}

pub formula_inside : (input depth left : ℕ) (bytes : List ℕ) → 0 < depth → formula_at input depth left bytes ≡ node_at (λ n rest. formula_at input (depth - 1) n rest) input left bytes
unfolding formula_at
formula_inside input zero left bytes h = absurd (omega arith)
formula_inside input (suc depth) left bytes h = let k : suc depth - 1 ≡ depth = omega arith in rw k refl

pub formula_none : (input depth left : ℕ) (bytes : List ℕ) → depth ≡ 0 → formula_at input depth left bytes ≡ node_at no_more input 0 bytes
unfolding formula_at
formula_none input depth left bytes e = rw e refl
