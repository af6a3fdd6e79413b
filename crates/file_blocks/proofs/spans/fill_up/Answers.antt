use Rattle.std.proofs.Common.{◌≡◌, List, ℕ, [], ◌∷◌, ◌++◌, ap, arith, length, length-append}
use Rattle.file_blocks.proofs.StepLemmas.{none_added, one_added, whole_added}
use Rattle.file_blocks.proofs.spans.fill_up.Goals as goal

pub loop-added-init : goal.loop-added-init
loop-added-init c = record {
  whole = c.requires;
  counted = omega (arith, c.len-added.ensures, c.args.blocks.now.ok.0);
  bounded = omega arith;
  grows = omega arith;
  bytes = none_added c.args.blocks.now.items;
}

pub loop-added-preserved : goal.loop-added-preserved
loop-added-preserved c =
    let now : List (List ℕ) = c.loop-added.blocks.items in
    let block : List ℕ = c.in_ok-zero.field-0 in
    let made : c.push.new.self.items ≡ now ++ block ∷ [] = c.in_ok-push.ensures.items in
    let kept = c.loop-added.invariant in
    let long = ap length made in
    let more = length-append now (block ∷ []) in
    let counted = kept.counted in
    let grows = kept.grows in
    let test = c.loop-added-test.true in
    record {
      whole = whole_added now c.push.new.self.items block kept.whole c.in_ok-zero.ensures made;
      counted = omega (arith, long, more, counted);
      bounded = omega (arith, long, more, counted, test);
      grows = omega (arith, long, more, grows);
      bytes = one_added c.args.blocks.now.items now c.push.new.self.items block kept.grows kept.bytes c.in_ok-zero.ensures made;
    }
