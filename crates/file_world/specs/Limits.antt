-- The limits of the file system, and the number of its root (this project's own).
use Rattle.std.specs.Prelude.{ℕ}
use Rattle.file_world.specs.declared.limits.TheConstants.{ROOT_NUMBER, MOST_NODES, MOST_BYTES, MOST_BYTES_TOGETHER, MOST_ATTRIBUTES, LONGEST_NAME, LAST_NUMBER}

-- the number of the root
abbrev pub root_number : ℕ
root_number = ROOT_NUMBER

-- how many nodes a tree may have
abbrev pub most_nodes : ℕ
most_nodes = MOST_NODES

-- how many bytes a file may have
abbrev pub most_bytes : ℕ
most_bytes = MOST_BYTES

-- how many bytes all files may have together
abbrev pub most_bytes_together : ℕ
most_bytes_together = MOST_BYTES_TOGETHER

-- how many attributes a node may have
abbrev pub most_attributes : ℕ
most_attributes = MOST_ATTRIBUTES

-- how many bytes the name of a node or of an attribute may have
abbrev pub longest_name : ℕ
longest_name = LONGEST_NAME

-- the next number at which no node is made any more
abbrev pub last_number : ℕ
last_number = LAST_NUMBER
