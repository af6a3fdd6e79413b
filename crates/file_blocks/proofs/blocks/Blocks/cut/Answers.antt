use Rattle.std.proofs.Common.{◌-◌, ◌+◌, ◌*◌, ◌++◌, ℕ, List, sym, ap, ◌∙◌, arith, length, take}
use Rattle.file_blocks.specs.Blocks.{zeros}
use Rattle.file_blocks.proofs.TailLemmas.{length-joined}
use Rattle.file_blocks.proofs.blocks.Blocks.cut.Goals as goal

pub cut_all-requires-clause-within : goal.cut_all-requires-clause-within
cut_all-requires-clause-within c =
    let l = length-joined c.self.inside.whole.items c.self.inside.tail c.self.invariant.whole in
    let v = ap length c.self.view_is in
    let within = c.requires in
    omega (arith, l, v, within)

pub returns-clause-bytes : goal.returns-clause-bytes
returns-clause-bytes c =
    let new : List (List ℕ) = c.cut_all.new.blocks.items in
    let tail : List ℕ = c.cut_all.new.tail in
    c.cut_all.ensures.bytes
    ∙ (ap (λ (s : List ℕ). take c.args.len s ++ zeros (4096 * length new + length tail - c.args.len)) c.self.view_is
    ∙ ap (λ (n : ℕ). take c.args.len c.args.self.now ++ zeros (n - c.args.len)) (sym (length-joined new tail c.cut_all.ensures.kept.whole)))

pub returns-clause-room : goal.returns-clause-room
returns-clause-room c =
    let old = length-joined c.self.inside.whole.items c.self.inside.tail c.self.invariant.whole in
    let new = length-joined c.cut_all.new.blocks.items c.cut_all.new.tail c.cut_all.ensures.kept.whole in
    let v = ap length c.self.view_is in
    let room = c.cut_all.ensures.room in
    omega (arith, old, new, v, room)
