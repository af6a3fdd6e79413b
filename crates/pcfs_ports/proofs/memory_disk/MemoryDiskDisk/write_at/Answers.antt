use Rattle.std.proofs.Common.{List, [], ◌∷◌, ◌++◌, ℕ, Some, sym, ap, ◌∙◌}
use Rattle.pcfs_ports.specs.MemoryDisk.{MemoryDiskView, image_after}
use Rattle.pcfs_ports.specs.declared.disk_call.DiskCall.TheVariants.{Wrote}
use Rattle.pcfs_ports.specs.Disk.{written}
use Rattle.pcfs_ports.proofs.DiskLemmas.{image_push, image_more, more_elapses, wrote_torn, same_elapses, same_torn}
use Rattle.pcfs_ports.proofs.memory_disk.MemoryDiskDisk.write_at.Goals as goal

pub returns-then-is_next_to_fail-clause-torn : goal.returns-then-is_next_to_fail-clause-torn
returns-then-is_next_to_fail-clause-torn c =
    let next : MemoryDiskView = record c.args.self.now { start = c.self.inside.image.start; made = c.self.inside.made } in
    same_torn c.args.self.now next (ap (λ (s : MemoryDiskView). s.start) c.self.view_is) (ap (λ (s : MemoryDiskView). s.made) c.self.view_is) c.args.at c.args.piece.now

pub invariant_of-self-in-Ok : goal.invariant_of-self-in-Ok
invariant_of-self-in-Ok c =
    let call = Wrote c.args.at c.args.piece.now in
    let start = c.self.inside.image.start in
    c.in-Ok.ensures.image ∙ ap (written c.args.at c.args.piece.now) c.self.invariant
    ∙ sym (ap (λ (s : List ℕ). image_after s c.write_and_remember.new.made) c.write_and_remember.ensures.start ∙ ap (image_after start) c.in-Ok.ensures.made ∙ image_push c.self.inside.made call start)

pub returns-in-Ok-clause-ok : goal.returns-in-Ok-clause-ok
returns-in-Ok-clause-ok c =
    let call = Wrote c.args.at c.args.piece.now in
    let next : MemoryDiskView = record c.args.self.now { start = c.write_and_remember.new.image.start; made = c.write_and_remember.new.made } in
    ap Some (image_more c.args.self.now next call (c.write_and_remember.ensures.start ∙ ap (λ (s : MemoryDiskView). s.start) c.self.view_is)
    (c.in-Ok.ensures.made ∙ ap (λ (s : MemoryDiskView). s.made ++ call ∷ []) c.self.view_is))

pub returns-in-Ok-clause-time : goal.returns-in-Ok-clause-time
returns-in-Ok-clause-time c =
    let call = Wrote c.args.at c.args.piece.now in
    more_elapses c.args.self.now _ call (c.write_and_remember.ensures.start ∙ ap (λ (s : MemoryDiskView). s.start) c.self.view_is)
    (c.in-Ok.ensures.made ∙ ap (λ (s : MemoryDiskView). s.made ++ call ∷ []) c.self.view_is)

pub returns-in-Ok-clause-torn : goal.returns-in-Ok-clause-torn
returns-in-Ok-clause-torn c =
    let call = Wrote c.args.at c.args.piece.now in
    let next : MemoryDiskView = record c.args.self.now { start = c.write_and_remember.new.image.start; made = c.write_and_remember.new.made } in
    wrote_torn c.args.self.now next c.args.at c.args.piece.now (c.write_and_remember.ensures.start ∙ ap (λ (s : MemoryDiskView). s.start) c.self.view_is)
    (c.in-Ok.ensures.made ∙ ap (λ (s : MemoryDiskView). s.made ++ call ∷ []) c.self.view_is)

pub returns-in-Err-clause-time : goal.returns-in-Err-clause-time
returns-in-Err-clause-time c =
    same_elapses c.args.self.now _ (c.write_and_remember.ensures.start ∙ ap (λ (s : MemoryDiskView). s.start) c.self.view_is) (c.in-Err.ensures.made_err ∙ ap (λ (s : MemoryDiskView). s.made) c.self.view_is)

pub returns-in-Err-clause-torn : goal.returns-in-Err-clause-torn
returns-in-Err-clause-torn c =
    let next : MemoryDiskView = record c.args.self.now { start = c.write_and_remember.new.image.start; made = c.write_and_remember.new.made } in
    same_torn c.args.self.now next (c.write_and_remember.ensures.start ∙ ap (λ (s : MemoryDiskView). s.start) c.self.view_is) (c.in-Err.ensures.made_err ∙ ap (λ (s : MemoryDiskView). s.made) c.self.view_is) c.args.at c.args.piece.now
