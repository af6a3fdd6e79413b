-- A part lies in one block, and what is left lies after it.
use Rattle.std.proofs.Common.{◌≡◌, ◌-◌, ◌/◌, ◌%◌, ℕ, List, ap, sym, ◌∙◌, refl, arith, length, take, drop, set}
use Rattle.std.proofs.lemmas.Bool.{eqb-true, eqb-false}
use Rattle.std.proofs.lemmas.List.{take_rest}
use Rattle.file_blocks.specs.Blocks.{over}
use Rattle.file_blocks.proofs.StepLemmas.{put_more, all_put}
use Rattle.file_blocks.proofs.spans.put.Goals as goal

pub pieces-preserved : goal.pieces-preserved
pieces-preserved c =
    let blocks : List (List ℕ) = c.pieces.blocks in
    let rest : List ℕ = c.pieces.rest.now in
    let n : ℕ = c.min-count.result in
    let some = eqb-false (length rest) 0 (sym c.pieces-test.ensures) in
    let made : c.put.new.self ≡ over c.index-blocks-at.result (c.pieces.at % 4096) (take n rest) =
    c.put.ensures ∙ ap (λ (b : List ℕ). over b (c.pieces.at % 4096) (take n rest)) (sym c.index-blocks-at.is) in
    let more = put_more blocks (set blocks (c.pieces.at / 4096) c.put.new.self) c.index-blocks-at.result c.put.new.self (take n rest) (take (length rest - n) (drop n rest)) rest _ c.pieces.at n
    c.pieces.invariant.whole c.pieces.invariant.within c.pieces.invariant.same (omega (arith, some)) c.min-count.ensures c.index-blocks-at.is refl made (take_rest rest n) refl in
    record { whole = more.whole; within = more.within; same = more.same }

pub returns-clause-bytes : goal.returns-clause-bytes
returns-clause-bytes c =
    all_put c.pieces.blocks c.pieces.rest.now _ c.pieces.at (eqb-true (length c.pieces.rest.now) 0 (sym c.pieces-test.ensures)) c.pieces.invariant.same
