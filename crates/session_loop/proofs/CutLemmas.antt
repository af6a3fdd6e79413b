-- The items that are cut off the front of bytes, one after the other.
use Rattle.std.proofs.Common.{◌≤◌, ◌+◌, ℕ, List, [], ◌∷◌, ◌++◌, length, arith, length-append}
use Rattle.session_loop.specs.Cutting.{Cutting, CuttingLaws, Cuts, none, one_more}

module _ (c : Cutting) (laws : CuttingLaws c) where
  -- with more bytes after them
  pub cuts_more : (mark to : c.Mark) (left more end : List ℕ) (items : List c.Item) → Cuts c mark left items to end → Cuts c mark (left ++ more) items to (end ++ more)
  cuts_more _ _ _ more _ _ (none mark left) = none mark (left ++ more)
  cuts_more _ _ _ more _ _ (one_more mark left item after rest items to end first others) =
      one_more mark (left ++ more) item after (rest ++ more) items to (end ++ more) (laws.stays mark left item after rest more first) (cuts_more after to rest more end items others)

  -- and more items
  pub cuts_join : (mark mid to : c.Mark) (left between end : List ℕ) (items others : List c.Item) → Cuts c mark left items mid between → Cuts c mid between others to end → Cuts c mark left (items ++ others) to end
  cuts_join _ _ to _ _ end _ others (none mark left) next = next
  cuts_join _ _ to _ _ end _ others (one_more mark left item after rest items mid between first more) next =
      one_more mark left item after rest (items ++ others) to end first (cuts_join after mid to rest between end items others more next)

  -- those of a piece more
  pub cuts_then : (mark mid to : c.Mark) (bytes left piece end : List ℕ) (items others : List c.Item) → Cuts c mark bytes items mid left → Cuts c mid (left ++ piece) others to end → Cuts c mark (bytes ++ piece) (items ++ others) to end
  cuts_then mark mid to bytes left piece end items others first next = cuts_join mark mid to (bytes ++ piece) (left ++ piece) end items others (cuts_more mark mid bytes piece left items first) next

  -- one item
  pub cuts_one : (mark after : c.Mark) (left rest : List ℕ) (item : c.Item) → c.IsNext mark left item after rest → Cuts c mark left (item ∷ []) after rest
  cuts_one mark after left rest item next = one_more mark left item after rest [] after rest next (none after rest)

  -- no more bytes are left than there were
  pub cuts_shorter : (mark to : c.Mark) (left end : List ℕ) (items : List c.Item) → Cuts c mark left items to end → length end ≤ length left
  cuts_shorter _ _ _ _ _ (none mark left) = omega arith
  cuts_shorter _ _ _ _ _ (one_more mark left item after rest items to end first others) = omega (arith, laws.shrinks mark left item after rest first, cuts_shorter after to rest end items others)

  -- what is left of less than an item and a piece
  pub few_rest : (mid to : c.Mark) (left piece end : List ℕ) (others : List c.Item) → c.IsOpen mid left → length piece ≤ 65536 → Cuts c mid (left ++ piece) others to end → length end ≤ c.most + 65536
  few_rest mid to left piece end others is_open small cut = omega (arith, small, laws.few mid left is_open, length-append left piece, cuts_shorter mid to (left ++ piece) end others cut)
