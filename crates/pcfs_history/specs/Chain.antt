-- How an area stands to the one before it (this project's own).
use Rattle.std.specs.Prelude.{◌≡◌, ◌<◌}
use Rattle.access_history.specs.Base.{BaseView}
use Rattle.pcfs_history.specs.declared.chain.Seam.{Seam}
use Rattle.pcfs_history.specs.declared.chain.Seam.TheVariants.{GoesOn, Gap, Overlap, Differs}

-- the state with which an area begins is that at the end of the one before; or it comes after a
-- later event, or an earlier one, or is another one after the same event
abbrev pub IsSeam : BaseView → BaseView → Seam → Type 0
IsSeam end begin GoesOn = end ≡ begin
IsSeam end begin Gap = end.count < begin.count
IsSeam end begin Overlap = begin.count < end.count
IsSeam end begin Differs = (end.count ≡ begin.count) × (end ≡ begin → ⊥)
