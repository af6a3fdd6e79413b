use Rattle.std.proofs.Common.{◌≡◌, ◌-◌, ◌++◌, ℕ, List, OnOk, ap, ◌∙◌, subst, arith, length, take, drop}
use Rattle.file_blocks.specs.Blocks.{joined}
use Rattle.file_blocks.proofs.TailLemmas.{length-joined}
use Rattle.file_blocks.proofs.blocks.Blocks.append.Goals as goal

pub append-requires-clause-within : goal.append-requires-clause-within
append-requires-clause-within c =
    let l = length-joined c.self.inside.whole.items c.self.inside.tail c.self.invariant.whole in
    let v = ap length c.self.view_is in
    let a = ap length c.as_slice.ensures.value in
    let within = c.requires.within in
    omega (arith, l, v, a, within)

pub returns-clause-ok : goal.returns-clause-ok
returns-clause-ok c =
    subst (λ (s : List ℕ). OnOk c.append.result (c.append.new.out ≡ c.args.out.now ++ take (c.args.end - c.args.start) (drop c.args.start s)))
    (ap (λ (b : List (List ℕ)). joined b c.self.inside.tail) c.as_slice.ensures.value ∙ c.self.view_is)
    c.append.ensures.ok
