-- The binders round a place in a formula, as a list of their sorts.
use Rattle.std.specs.Prelude.{List, [], ◌∷◌}
use Rattle.bl_syntax.specs.declared.terms.Sort.{Sort}
use Rattle.bl_syntax.specs.declared.binders.Binders.{Binders}
use Rattle.bl_syntax.specs.declared.binders.Binders.TheVariants as code

-- the sorts of the binders, the innermost first
abbrev pub sorts : Binders → List Sort
sorts code.Outermost = []
sorts (code.Inside' s p others) = s ∷ sorts others
