use Rattle.std.proofs.Common.{◌≡◌, ◌+◌, ◌-◌, ◌++◌, ℕ, List, ap, ◌∙◌, arith, length, take, drop}
use Rattle.std.proofs.lemmas.List.{length-take, take-append-le}
use Rattle.file_blocks.specs.Blocks.{joined}
use Rattle.file_blocks.proofs.ContentsLemmas.{read_more}
use Rattle.file_blocks.proofs.spans.append.Goals as goal

pub pieces-preserved : goal.pieces-preserved
pieces-preserved c =
    let before : List ℕ = c.args.out.now in
    let out : List ℕ = c.pieces.out in
    let part : List ℕ = c.piece-part.result.now in
    let all : List ℕ = joined c.args.blocks.now c.args.tail.now in
    let n : ℕ = length part in
    let kept = c.pieces.invariant.kept in
    let e : c.extend.new.self ≡ out ++ part = c.in_default.ensures.ok in
    let lk = ap length kept in
    let lt = length-take (length before) out in
    record {
      kept = ap (take (length before)) e ∙ (take-append-le (length before) out part (omega (arith, lk, lt)) ∙ kept);
      within = c.piece-part.ensures.within;
      same = ap (λ (s : List ℕ). s ++ take (c.args.end - (c.pieces.at + n)) (drop (c.pieces.at + n) all)) e
          ∙ read_more all out _ part c.pieces.at c.args.end n c.piece-part.ensures.part c.piece-part.ensures.within c.pieces.invariant.same;
    }
