-- Tables of modes: the principals, their groups, and files with their owner, their group and their
-- modes (after users,
-- groups and modes in POSIX; the form is this project's own).
use Rattle.std.specs.Prelude.{ℕ, List, [], ◌∷◌, ◌++◌, map, Contains}
use Rattle.bl_syntax.specs.declared.terms.NodeId.{NodeId}
use Rattle.mode_policy.specs.declared.entry.Membership.{Membership}
use Rattle.mode_policy.specs.declared.entry.FileModes.{FileModes}
use Rattle.mode_policy.specs.declared.entry.Entry.{Entry}
use Rattle.mode_policy.specs.declared.entry.Entry.TheVariants.{Who, Member, File}

-- a table, in the order of its lines
pub record TableView : Type 0 where
  pub who : List (List ℕ)
  pub members : List Membership
  pub files : List FileModes

abbrev pub no_table : TableView
no_table = record { who = []; members = []; files = [] }

abbrev pub node_of : FileModes → NodeId
node_of f = f.node

abbrev pub nodes_of : TableView → List NodeId
nodes_of t = map node_of t.files

-- the principal that it speaks of is in the table; an entry that adds one speaks of nobody else
abbrev pub IsOfKnown : TableView → Entry → Type 0
IsOfKnown t (Who who) = Unit {0}
IsOfKnown t (Member m) = Contains t.who m.who
IsOfKnown t (File f) = Contains t.who f.owner

-- the principal, the membership or the file is in the table
abbrev pub IsRepeated : TableView → Entry → Type 0
IsRepeated t (Who who) = Contains t.who who
IsRepeated t (Member m) = Contains t.members m
IsRepeated t (File f) = Contains (nodes_of t) f.node

-- the table with one entry more
abbrev pub with_entry : TableView → Entry → TableView
with_entry t (Who who) = record t { who = t.who ++ who ∷ [] }
with_entry t (Member m) = record t { members = t.members ++ m ∷ [] }
with_entry t (File f) = record t { files = t.files ++ f ∷ [] }
