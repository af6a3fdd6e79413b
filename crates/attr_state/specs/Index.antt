-- How the marks that the code keeps stand for those of the nodes, and what holds of them.
use Rattle.std.specs.Prelude.{◌≡◌, ◌≤◌, ℕ, List, [], ◌∷◌, map, Bool, false, Option, Some, None, vec_capacity, nat_eq, zero, suc}
use Rattle.std.specs.List.{AllByRecursion}
use Rattle.std.specs.List.Sorted.{IsStrictlySortedBy}
use Rattle.std.specs.Map.{lookup, remove_entry, keys_of}
use Rattle.std.specs.BTreeMap.{is_at}
use Rattle.std.specs.Ordering.{nat_cmp}
use Rattle.std.specs.declared.cmp.Ordering.TheVariants.{Less}
use Rattle.std.specs.Cmp.Lexicographic.{slice_cmp}
use Rattle.bl_syntax.specs.declared.terms.Term.{Term}
use Rattle.bl_syntax.specs.declared.terms.Term.TheVariants.{Prin, File, Perm, Time, Text, Ctime, Param, Bound}
use Rattle.file_world.specs.Attributes.{Attributes, Mark, Marks, mark_at, AreMarks}
use Rattle.file_world.specs.TreeEffect.{revise}
use Rattle.file_world.specs.AttributeEffect.{new_mark, meta_refusal}
use Rattle.file_world.specs.declared.operation.MetaOp.{MetaOp}
use Rattle.attr_state.specs.declared.mark.KeptMark.{KeptMark as Kept}
use Rattle.attr_state.specs.declared.ready.MetaReady.{MetaReady}
use Rattle.attr_state.specs.declared.ready.MetaReady.TheVariants.{Nothing, Attributes as Room, Made}
use Rattle.attr_state.specs.State.{ready_for}

-- marks as they are kept, under the numbers of their nodes
abbrev pub MarkEntries : Type 0
MarkEntries = List (ℕ × Kept)

abbrev pub shown : Kept → Mark
shown kept = record { owner = kept.owner; parent = kept.parent; attributes = kept.attributes.items }

abbrev pub marks_of : MarkEntries → Marks
marks_of entries = map (λ entry. (entry.0, shown entry.1)) entries

-- the mark that is kept under the number
abbrev pub kept_at : MarkEntries → ℕ → Option Kept
kept_at entries number = lookup (is_at (nat_cmp number)) entries

-- names in byte order
abbrev pub AreSorted : Attributes → Type 0
AreSorted attributes = IsStrictlySortedBy (slice_cmp nat_cmp) (keys_of attributes)

-- the attribute of that name stands at that place, after those with lesser names
abbrev pub IsMarkAt : Attributes → List ℕ → ℕ → Type 0
IsMarkAt [] name place = ⊥
IsMarkAt (attribute ∷ attributes) name zero = attribute.0 ≡ name
IsMarkAt (attribute ∷ attributes) name (suc place) = (slice_cmp nat_cmp attribute.0 name ≡ Less) ×
    IsMarkAt attributes name place

-- an attribute of that name would go to that place: those before it have lesser names, those from
-- it on greater ones
abbrev pub IsGap : Attributes → List ℕ → ℕ → Type 0
IsGap attributes name zero = AllByRecursion (λ other. slice_cmp nat_cmp name other ≡ Less) (keys_of attributes)
IsGap [] name (suc place) = ⊥
IsGap (attribute ∷ attributes) name (suc place) = (slice_cmp nat_cmp attribute.0 name ≡ Less) ×
    IsGap attributes name place

-- the numbers rise, and so do the names of each node's attributes
pub record AreOrdered (entries : MarkEntries) : Type 0 where
  pub rising : IsStrictlySortedBy nat_cmp (keys_of entries)
  pub sorted : (number : ℕ) (kept : Kept) → kept_at entries number ≡ Some kept →
      AreSorted kept.attributes.items

-- the marks without one that is only ready to be made
abbrev pub current : Option MetaReady → MarkEntries → MarkEntries
current None entries = entries
current (Some Nothing) entries = entries
current (Some (Room number len)) entries = entries
current (Some (Made number owner parent)) entries = remove_entry (is_at (nat_cmp number)) entries

-- whether the mark of the node of that number is only ready to be made
abbrev pub is_held : Option MetaReady → ℕ → Bool
is_held None number = false
is_held (Some Nothing) number = false
is_held (Some (Room node len)) number = false
is_held (Some (Made node owner parent)) number = nat_eq node number

-- the marks as contracts see them
abbrev pub marks_in : Option MetaReady → MarkEntries → Marks
marks_in ready entries = marks_of (current ready entries)

-- a mark is kept with room for so many attributes
pub record HasMarkRoom (entries : MarkEntries) (number len : ℕ) : Type 0 where
  pub kept : Kept
  pub found : kept_at entries number ≡ Some kept
  pub room : len ≤ vec_capacity kept.attributes

-- that mark is kept under the number
pub record IsMarkMade (entries : MarkEntries) (number : ℕ) (mark : Mark) : Type 0 where
  pub kept : Kept
  pub found : kept_at entries number ≡ Some kept
  pub shows : shown kept ≡ mark

-- the memory for what is ready is there
abbrev pub IsMetaPrepared : Option MetaReady → MarkEntries → Type 0
IsMetaPrepared None entries = Unit {0}
IsMetaPrepared (Some Nothing) entries = Unit {0}
IsMetaPrepared (Some (Room number len)) entries = HasMarkRoom entries number len
IsMetaPrepared (Some (Made number owner parent)) entries = IsMarkMade entries number (new_mark owner parent)

-- the marks are in order, and what is ready is prepared
pub record IsMarkIndex (entries : MarkEntries) (ready : Option MetaReady) : Type 0 where
  pub ordered : AreOrdered entries
  pub prepared : IsMetaPrepared ready entries

-- the same, and the marks that contracts see are within the limits
pub record IsMetaIndex (entries : MarkEntries) (ready : Option MetaReady) : Type 0 where
  pub index : IsMarkIndex entries ready
  pub within : AreMarks (marks_in ready entries)

-- what is ready is prepared, and the marks are as before
pub record PreparesMeta (old new : MarkEntries) (ready : MetaReady) : Type 0 where
  pub kept : IsMarkIndex new (Some ready)
  pub same : marks_in (Some ready) new ≡ marks_of old

-- nothing is ready, and the marks are as before
pub record MetaStays (old new : MarkEntries) : Type 0 where
  pub ordered : AreOrdered new
  pub same : marks_of new ≡ marks_of old

-- the mark of the node of that number is revised
pub record Revises (old new : MarkEntries) (number : ℕ) (revision : Mark → Mark) : Type 0 where
  pub ordered : AreOrdered new
  pub marks : marks_of new ≡ revise number revision (marks_of old)

-- the operation is not refused, and the memory for it is there
pub record IsMetaChangeable (entries : MarkEntries) (op : MetaOp) : Type 0 where
  pub ordered : AreOrdered entries
  pub free : meta_refusal (marks_of entries) op ≡ None
  pub prepared : IsMetaPrepared (Some (ready_for (marks_of entries) op)) entries

-- the mark of the node that a term names
abbrev pub mark_named : Marks → Term → Option Mark
mark_named marks (File node) = mark_at marks node.0
mark_named marks (Prin principal) = None
mark_named marks (Perm perm) = None
mark_named marks (Time time) = None
mark_named marks (Text text) = None
mark_named marks Ctime = None
mark_named marks (Param number) = None
mark_named marks (Bound number) = None
