use Rattle.std.proofs.Common.{◌≡◌, ℕ, ◌+◌, List, [], ◌∷◌, ◌++◌, length, refl, ap, ◌∙◌, arith, append-nil}
use Rattle.std.proofs.lemmas.List.{drop_all}
use Rattle.file_world.specs.TreeEffect.{write_at}
use Rattle.file_blocks.proofs.contents.FileContents.from_bytes.Goals as goal

written_first : (bytes : List ℕ) → write_at [] 0 bytes ≡ bytes
written_first [] = refl
written_first (byte ∷ bytes) =
    let none : List ℕ = [] in
    ap (λ (s : List ℕ). byte ∷ (bytes ++ s)) (drop_all (0 + length (byte ∷ bytes)) none (omega arith)) ∙ append-nil (byte ∷ bytes)

pub returns : goal.returns
returns c =
    let first = written_first c.args.bytes.now in
    cc (first, c.write.ensures.bytes, c.reserve.ensures.bytes, c.new-contents.ensures)
