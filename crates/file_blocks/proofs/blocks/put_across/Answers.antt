use Rattle.std.proofs.Common.{◌≡◌, ◌-◌, ℕ, List, ap, ◌∙◌, refl, arith, length, take, drop, length-drop}
use Rattle.std.proofs.lemmas.List.{take_rest}
use Rattle.file_blocks.proofs.TailLemmas.{put_both, put_kept}
use Rattle.file_blocks.proofs.blocks.put_across.Goals as goal

pub returns-clause-kept : goal.returns-clause-kept
returns-clause-kept c =
    let bytes : List ℕ = c.args.bytes.now in
    let n : ℕ = c.min-count.result in
    let rest : List ℕ = take (length bytes - n) (drop n bytes) in
    let lr : length rest ≡ length bytes - n = ap length (take_rest bytes n) ∙ length-drop n bytes in
    let least = c.min-count.ensures in
    let before = c.requires.before in
    let within = c.requires.within in
    put_kept c.args.blocks.now c.put.new.blocks c.args.tail.now c.put-2.new.self rest 0 c.requires.kept c.put.ensures.whole c.put.auto.blocks (omega (arith, lr, least, before, within)) c.put-2.ensures

pub returns-clause-bytes : goal.returns-clause-bytes
returns-clause-bytes c =
    let bytes : List ℕ = c.args.bytes.now in
    let n : ℕ = c.min-count.result in
    put_both c.args.blocks.now c.put.new.blocks c.args.tail.now c.put-2.new.self bytes (take n bytes) (take (length bytes - n) (drop n bytes)) n c.args.offset
    c.requires.kept.whole c.put.ensures.whole c.put.auto.blocks c.requires.before c.min-count.ensures c.requires.within refl (take_rest bytes n) c.put.ensures.bytes c.put-2.ensures
