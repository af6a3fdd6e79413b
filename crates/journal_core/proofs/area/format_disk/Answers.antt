use Rattle.std.proofs.Common.{◌≡◌, ℕ, List, [], ◌∷◌, sym, subst, ◌∙◌}
use Rattle.std.proofs.lemmas.List.{append-nil}
use Rattle.pcfs_ports.specs.Disk.{LeavesOnly}
use Rattle.journal_core.specs.Area.{base_bytes, area_bytes}
use Rattle.journal_core.specs.Rest.{IsOldOrShutOrNew}
use Rattle.journal_core.proofs.area.format_disk.Goals as goal

-- an area without records ends with its image
ends : (generation : ℕ) (image : List ℕ) → 1 ∷ base_bytes generation image ≡ area_bytes generation image []
ends generation image = sym (append-nil (1 ∷ base_bytes generation image))

pub returns-in_err-write_area-clause-any_moment : goal.returns-in_err-write_area-clause-any_moment
returns-in_err-write_area-clause-any_moment g c bytes told pinned =
    let image = c.args.image.now in
    subst (λ (new : List ℕ). LeavesOnly g.D.Disk.clock g.D.Disk.left_since c.args.disk.now c.write_area.new.disk (IsOldOrShutOrNew bytes new))
    (ends c.args.generation image)
    (c.write_area.ensures.any_moment bytes (base_bytes c.args.generation image) (c.deref.ensures.value ∙ c.in_ok-base.ensures.ok) told pinned)

pub returns-clause-any_moment : goal.returns-clause-any_moment
returns-clause-any_moment g c bytes told pinned =
    let image = c.args.image.now in
    subst (λ (new : List ℕ). LeavesOnly g.D.Disk.clock g.D.Disk.left_since c.args.disk.now c.write_area.new.disk (IsOldOrShutOrNew bytes new))
    (ends c.args.generation image)
    (c.write_area.ensures.any_moment bytes (base_bytes c.args.generation image) (c.deref.ensures.value ∙ c.in_ok-base.ensures.ok) told pinned)
