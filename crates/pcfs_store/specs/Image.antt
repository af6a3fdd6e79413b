-- The image of the state with which an area begins. The format is this project's own. Its numbers
-- are big-endian.
use Rattle.std.specs.Prelude.{ℕ, List, [], ◌∷◌, ◌++◌, codes}
pub use Rattle.checkpoint.specs.Reading.{IsImageOf}

-- the number 0 in four bytes, and in eight
abbrev pub zero_in_four : List ℕ
zero_in_four = 0 ∷ 0 ∷ 0 ∷ 0 ∷ []

abbrev pub zero_in_eight : List ℕ
zero_in_eight = 0 ∷ 0 ∷ 0 ∷ 0 ∷ 0 ∷ 0 ∷ 0 ∷ 0 ∷ []

-- the first moment of the range, -62135596800, in two's complement
abbrev pub first_moment_bytes : List ℕ
first_moment_bytes = 255 ∷ 255 ∷ 255 ∷ 241 ∷ 136 ∷ 110 ∷ 9 ∷ 0 ∷ []

-- the root: its number 1, its kind, a directory's, its owner `admin`, no directory above it, no
-- name, no attributes, and no contents
abbrev pub root_bytes : List ℕ
root_bytes = 0 ∷ 0 ∷ 0 ∷ 0 ∷ 0 ∷ 0 ∷ 0 ∷ 1 ∷ [] ++ 2 ∷ [] ++ 5 ∷ codes "admin" ++ zero_in_eight ++ 0 ∷ [] ++ 0 ∷ [] ++ zero_in_four

-- the image of a store before its first event: the version, the moment, the number of the last
-- event, the next node's number, how many statements there are, how many issues, and how many
-- nodes; the one node; and how many
-- statements were withdrawn
abbrev pub fresh_image : List ℕ
fresh_image =
    2 ∷ [] ++ first_moment_bytes ++ zero_in_eight ++ 0 ∷ 0 ∷ 0 ∷ 0 ∷ 0 ∷ 0 ∷ 0 ∷ 2 ∷ []
    ++ zero_in_four ++ zero_in_four ++ 0 ∷ 0 ∷ 0 ∷ 1 ∷ [] ++ root_bytes ++ zero_in_four
