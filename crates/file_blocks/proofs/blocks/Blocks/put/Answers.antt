use Rattle.std.proofs.Common.{◌≡◌, ◌++◌, ℕ, List, sym, ap, ◌∙◌, subst, arith, length, take, drop}
use Rattle.file_blocks.specs.Blocks.{over, joined, AreBlocks}
use Rattle.file_blocks.proofs.StepLemmas.{all_written}
use Rattle.file_blocks.proofs.TailLemmas.{length-joined}
use Rattle.file_blocks.proofs.blocks.Blocks.put.Goals as goal

pub put_all-requires-clause-within : goal.put_all-requires-clause-within
put_all-requires-clause-within c =
    let l = length-joined c.self.inside.whole.items c.self.inside.tail c.self.invariant.whole in
    let v = ap length c.self.view_is in
    let a = ap length c.as_mut_slice.ensures.value in
    let within = c.requires in
    omega (arith, l, v, a, within)

pub invariant_of-self : goal.invariant_of-self
invariant_of-self c =
    let old : List (List ℕ) = c.self.inside.whole.items in
    let new : List (List ℕ) = c.put_all.new.blocks in
    let same : length new ≡ length old = c.put_all.auto.blocks ∙ ap length c.as_mut_slice.ensures.value in
    let is : take c.self.inside.whole.len (new ++ drop (length new) old) ≡ new = all_written c.self.inside.whole.len new old same c.self.inside.whole.ok.0 in
    subst (λ (s : List (List ℕ)). AreBlocks s c.put_all.new.tail) (sym is) c.put_all.ensures.kept

pub returns : goal.returns
returns c =
    let old : List (List ℕ) = c.self.inside.whole.items in
    let new : List (List ℕ) = c.put_all.new.blocks in
    let same : length new ≡ length old = c.put_all.auto.blocks ∙ ap length c.as_mut_slice.ensures.value in
    let is : take c.self.inside.whole.len (new ++ drop (length new) old) ≡ new = all_written c.self.inside.whole.len new old same c.self.inside.whole.ok.0 in
    ap (λ (s : List (List ℕ)). joined s c.put_all.new.tail) is
    ∙ (c.put_all.ensures.bytes
    ∙ (ap (λ (s : List (List ℕ)). over (joined s c.self.inside.tail) c.args.offset c.args.bytes.now) c.as_mut_slice.ensures.value
    ∙ ap (λ (s : List ℕ). over s c.args.offset c.args.bytes.now) c.self.view_is))
