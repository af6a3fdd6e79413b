-- The items of what was taken of an input. If the input does not tell what it has, these are some
-- items (this project's own).
use Rattle.std.specs.Prelude.{◌≡◌, ◌+◌, ◌<◌, ◌≤◌, ℕ, List, ◌++◌, length, Option}
use Rattle.pcfs_ports.specs.declared.pieces.TheConstants.{PIECE_LEN}
use Rattle.pcfs_ports.specs.declared.streams.TheConstants.{INPUT_LIMIT}
use Rattle.pcfs_ports.specs.Observable.{with_front, ReadsToEnd}
use Rattle.session_loop.specs.Cutting.{Cutting, Cuts}

module _ (c : Cutting) where
  -- these items were taken, and then some rest, of no more bytes than less than an item and a
  -- piece; in all no more than the limit of an input
  pub record AreTaken (left left_after : Option (List ℕ)) (items : List c.Item) : Type 0 where
    pub bytes : List ℕ
    pub mark : c.Mark
    pub rest : List ℕ
    pub taken : left ≡ with_front bytes left_after
    pub cut : Cuts c c.first bytes items mark rest
    pub few : length rest ≤ c.most + PIECE_LEN
    pub limit : length bytes ≤ INPUT_LIMIT

  -- these items were taken, and then less than an item, in all no more than that limit
  pub record AreAllTaken (left left_after : Option (List ℕ)) (items : List c.Item) : Type 0 where
    pub bytes : List ℕ
    pub mark : c.Mark
    pub rest : List ℕ
    pub taken : left ≡ with_front bytes left_after
    pub cut : Cuts c c.first bytes items mark rest
    pub is_open : c.IsOpen mark rest
    pub limit : length bytes ≤ INPUT_LIMIT

  -- First some items were taken and then less than an item; and then one piece more, with which
  -- these items were taken, and what comes after them is no item, whatever else comes; in all no
  -- more than that limit.
  pub record IsCutAtBad (left left_after : Option (List ℕ)) (items : List c.Item) : Type 0 where
    pub bytes : List ℕ
    pub piece : List ℕ
    pub taken : left ≡ with_front (bytes ++ piece) left_after
    pub earlier : List c.Item
    pub mark : c.Mark
    pub rest : List ℕ
    pub cut_earlier : Cuts c c.first bytes earlier mark rest
    pub was_open : c.IsOpen mark rest
    pub few : length piece ≤ PIECE_LEN
    pub mark_after : c.Mark
    pub rest_after : List ℕ
    pub cut : Cuts c c.first (bytes ++ piece) items mark_after rest_after
    pub is_bad : c.IsBad mark_after rest_after
    pub few_left : length rest_after ≤ c.most + PIECE_LEN
    pub limit : length (bytes ++ piece) ≤ INPUT_LIMIT

  -- the input, which has fewer bytes than that limit, was read to its end, and these are its items
  pub record IsReadWhole (left left_after : Option (List ℕ)) (items : List c.Item) : Type 0 where
    pub bytes : List ℕ
    pub read : ReadsToEnd left left_after bytes
    pub whole : List c.Item
    pub mark : c.Mark
    pub rest : List ℕ
    pub cut : Cuts c c.first bytes whole mark rest
    pub is_open : c.IsOpen mark rest
    pub last : List c.Item
    pub is_last : c.IsLast mark rest last
    pub items_are : items ≡ whole ++ last
    pub limit : length bytes < INPUT_LIMIT

  -- such an input was read to its end, and what comes after these items is none
  pub record IsCutOff (left left_after : Option (List ℕ)) (items : List c.Item) : Type 0 where
    pub bytes : List ℕ
    pub read : ReadsToEnd left left_after bytes
    pub mark : c.Mark
    pub rest : List ℕ
    pub cut : Cuts c c.first bytes items mark rest
    pub is_open : c.IsOpen mark rest
    pub is_bad : c.IsBadEnd mark rest
    pub limit : length bytes < INPUT_LIMIT
