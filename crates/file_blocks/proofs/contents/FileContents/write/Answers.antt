use Rattle.std.proofs.Common.{◌≤◌, ℕ, List, ap, sym, ◌∙◌, subst, arith, length, take}
use Rattle.std.proofs.lemmas.Bool.{eqb-false}
use Rattle.file_world.specs.TreeEffect.{write_at}
use Rattle.file_blocks.specs.Blocks.{ContentsView, AreContents}
use Rattle.file_blocks.proofs.ContentsLemmas.{write_fits}
use Rattle.file_blocks.proofs.StepLemmas.{write_done}
use Rattle.file_blocks.proofs.contents.FileContents.write.Goals as goal

pub invariant_of-self : goal.invariant_of-self
invariant_of-self c =
    let old : List ℕ = c.self.inside.blocks in
    let len : ℕ = c.self.inside.len in
    let bytes : List ℕ = c.args.bytes.now in
    let some = eqb-false (length bytes) 0 (sym c.is_empty.ensures ∙ c.if-is_empty.false) in
    let fits = write_fits (take len old) c.args.offset bytes (length old) (omega (arith, some)) (subst (λ (v : ContentsView). length (write_at v.bytes c.args.offset bytes) ≤ v.room) (sym c.self.view_is) c.requires) in
    subst (λ (n : ℕ). AreContents c.put.new.self n) (sym c.max-self-inside.ensures)
    (write_done old c.put.new.self len c.args.offset bytes c.self.invariant (omega (arith, some)) fits c.put.ensures).kept

pub returns-clause-bytes : goal.returns-clause-bytes
returns-clause-bytes c =
    let old : List ℕ = c.self.inside.blocks in
    let len : ℕ = c.self.inside.len in
    let bytes : List ℕ = c.args.bytes.now in
    let some = eqb-false (length bytes) 0 (sym c.is_empty.ensures ∙ c.if-is_empty.false) in
    let fits = write_fits (take len old) c.args.offset bytes (length old) (omega (arith, some)) (subst (λ (v : ContentsView). length (write_at v.bytes c.args.offset bytes) ≤ v.room) (sym c.self.view_is) c.requires) in
    ap (λ (n : ℕ). take n c.put.new.self) c.max-self-inside.ensures
    ∙ ((write_done old c.put.new.self len c.args.offset bytes c.self.invariant (omega (arith, some)) fits c.put.ensures).bytes_are
    ∙ ap (λ (v : ContentsView). write_at v.bytes c.args.offset bytes) c.self.view_is)

pub returns-clause-room : goal.returns-clause-room
returns-clause-room c =
    let old : List ℕ = c.self.inside.blocks in
    let len : ℕ = c.self.inside.len in
    let bytes : List ℕ = c.args.bytes.now in
    let some = eqb-false (length bytes) 0 (sym c.is_empty.ensures ∙ c.if-is_empty.false) in
    let fits = write_fits (take len old) c.args.offset bytes (length old) (omega (arith, some)) (subst (λ (v : ContentsView). length (write_at v.bytes c.args.offset bytes) ≤ v.room) (sym c.self.view_is) c.requires) in
    (write_done old c.put.new.self len c.args.offset bytes c.self.invariant (omega (arith, some)) fits c.put.ensures).room
    ∙ ap (λ (v : ContentsView). v.room) c.self.view_is
