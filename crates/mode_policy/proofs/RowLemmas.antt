-- A table is kept by places of names; where names are added, what was kept stands for the same.
use Rattle.std.proofs.Common.{◌≡◌, ◌<◌, ◌≤◌, ℕ, zero, suc, Some, None, List, [], ◌∷◌, ◌++◌, length, map, refl, sym, ap, ◌∙◌, subst, arith}
use Rattle.std.specs.Prelude.{Contains, Result, Ok, Err, IfOk, OnErr}
use Rattle.std.specs.List.{All, slice_get}
use Rattle.std.proofs.lemmas.List.{get_or_append_left, map_push, length-append, append-nil}
use Rattle.std.proofs.lemmas.List.Elements.{All-head, All-tail, All-push, All-weaker, All-contains}
use Rattle.std.proofs.lemmas.Option.{slice_get-get_or, get_or_from_slice_get, slice_get_within}
use Rattle.bl_syntax.specs.declared.lists.NoMemory.{NoMemory}
use Rattle.bl_syntax.specs.declared.terms.NodeId.{NodeId}
use Rattle.bl_rules.proofs.Membership.{Contains-map, Contains-map_cases}
use Rattle.mode_policy.specs.declared.entry.Membership.{Membership}
use Rattle.mode_policy.specs.declared.entry.FileModes.{FileModes}
use Rattle.mode_policy.specs.declared.entry.Entry.TheVariants.{Who, Member, File}
use Rattle.mode_policy.specs.declared.files.FileRow.{FileRow}
use Rattle.mode_policy.specs.declared.modes.Modes.{Modes}
use Rattle.mode_policy.specs.Allowed.{membership}
use Rattle.mode_policy.specs.Places.{IsPlaceOf}
use Rattle.mode_policy.specs.Rows.{number_of, name_at, member_at, file_at, table_view, AreInRange, Extends, GivesPlace}
use Rattle.mode_policy.specs.Table.{TableView, nodes_of, with_entry}
use Rattle.mode_policy.proofs.PlacesLemmas.{IsPlaceOf-push}

-- the place of a name that is added
pub gives_place : (old new : List (List ℕ)) (name : List ℕ) (r : Result ℕ NoMemory) → (Contains old name → ⊥) → IfOk r (λ place. (place ≡ length old) × (new ≡ old ++ name ∷ [])) → OnErr r (new ≡ old) → GivesPlace old name r new
gives_place old new name (Ok place) none ok err =
    ((name ∷ [], ok.1), subst (λ (l : List (List ℕ)). IsPlaceOf l name place) (sym ok.1) (subst (λ (p : ℕ). IsPlaceOf (old ++ name ∷ []) name p) (sym ok.0) (IsPlaceOf-push old name none)))
gives_place old new name (Err refused) none ok err = err

pub gives_known_place : (names : List (List ℕ)) (name : List ℕ) (place : ℕ) → IsPlaceOf names name place → GivesPlace names name (Ok place) names
gives_known_place names name place at = (([], sym (append-nil names)), at)

-- names that were there stay where they were
pub record Keeps (old new : List (List ℕ)) : Type 0 where
  pub at : (place : ℕ) → place < length old → name_at new place ≡ name_at old place
  pub longer : length old ≤ length new

pub Keeps-itself : (names : List (List ℕ)) → Keeps names names
Keeps-itself names = record { at = λ place h. refl; longer = omega arith }

pub Keeps-extended : (old new : List (List ℕ)) → Extends old new → Keeps old new
Keeps-extended old new h = subst (Keeps old) (sym h.1) (record {
  at = λ place within. get_or_append_left old h.0 [] place within;
  longer = omega (arith, length-append old h.0);
})

abbrev pub IsMemberInRange : List (List ℕ) → List (List ℕ) → ℕ × ℕ → Type 0
IsMemberInRange who groups m = (m.0 < length who) × (m.1 < length groups)

abbrev pub IsFileInRange : List (List ℕ) → List (List ℕ) → FileRow → Type 0
IsFileInRange who groups row = (row.owner < length who) × (row.group < length groups)

module _ (who groups who_after groups_after : List (List ℕ)) (keeps_who : Keeps who who_after) (keeps_groups : Keeps groups groups_after) where
  members_kept : (members : List (ℕ × ℕ)) → All (IsMemberInRange who groups) members → map (member_at who_after groups_after) members ≡ map (member_at who groups) members
  members_kept [] h = refl
  members_kept (m ∷ members) h =
      let here = All-head (IsMemberInRange who groups) m members h in
      let same : member_at who_after groups_after m ≡ member_at who groups m =
      ap (λ (k : List ℕ). membership k (name_at groups_after m.1)) (keeps_who.at m.0 here.0) ∙ ap (λ (g : List ℕ). membership (name_at who m.0) g) (keeps_groups.at m.1 here.1) in
      ap (λ (x : Membership). x ∷ map (member_at who_after groups_after) members) same
      ∙ ap (λ (l : List Membership). member_at who groups m ∷ l) (members_kept members (All-tail (IsMemberInRange who groups) m members h))

  abbrev made : FileRow → List ℕ → List ℕ → FileModes
  made row owner group = record { node = record { 0 = row.number }; owner = owner; group = group; modes = row.modes }

  files_kept : (files : List FileRow) → All (IsFileInRange who groups) files → map (file_at who_after groups_after) files ≡ map (file_at who groups) files
  files_kept [] h = refl
  files_kept (row ∷ files) h =
      let here = All-head (IsFileInRange who groups) row files h in
      let same : file_at who_after groups_after row ≡ file_at who groups row =
      ap (λ (k : List ℕ). made row k (name_at groups_after row.group)) (keeps_who.at row.owner here.0) ∙ ap (λ (g : List ℕ). made row (name_at who row.owner) g) (keeps_groups.at row.group here.1) in
      ap (λ (x : FileModes). x ∷ map (file_at who_after groups_after) files) same
      ∙ ap (λ (l : List FileModes). file_at who groups row ∷ l) (files_kept files (All-tail (IsFileInRange who groups) row files h))

  pub range_kept : (members : List (ℕ × ℕ)) (files : List FileRow) → AreInRange who groups members files → AreInRange who_after groups_after members files
  range_kept members files h = record {
    members_in_range = All-weaker (IsMemberInRange who groups) (IsMemberInRange who_after groups_after)
        (λ m (within : IsMemberInRange who groups m). (omega (arith, within.0, keeps_who.longer), omega (arith, within.1, keeps_groups.longer))) members h.members_in_range;
    files_in_range = All-weaker (IsFileInRange who groups) (IsFileInRange who_after groups_after)
        (λ row (within : IsFileInRange who groups row). (omega (arith, within.0, keeps_who.longer), omega (arith, within.1, keeps_groups.longer))) files h.files_in_range;
  }

  pub view_kept : (members : List (ℕ × ℕ)) (files : List FileRow) → AreInRange who groups members files
      → table_view who_after groups_after members files ≡ record (table_view who groups members files) { who = who_after }
  view_kept members files h =
      ap (λ (ms : List Membership). let t : TableView = record { who = who_after; members = ms; files = map (file_at who_after groups_after) files } in t) (members_kept members h.members_in_range)
      ∙ ap (λ (fs : List FileModes). let t : TableView = record { who = who_after; members = map (member_at who groups) members; files = fs } in t) (files_kept files h.files_in_range)

-- ---- one entry more

pub view_with_who : (who groups : List (List ℕ)) (members : List (ℕ × ℕ)) (files : List FileRow) (k : List ℕ) → AreInRange who groups members files
    → table_view (who ++ k ∷ []) groups members files ≡ with_entry (table_view who groups members files) (Who k)
view_with_who who groups members files k h = view_kept who groups (who ++ k ∷ []) groups (Keeps-extended who (who ++ k ∷ []) (k ∷ [], refl)) (Keeps-itself groups) members files h

pub range_with_who : (who groups : List (List ℕ)) (members : List (ℕ × ℕ)) (files : List FileRow) (k : List ℕ) → AreInRange who groups members files → AreInRange (who ++ k ∷ []) groups members files
range_with_who who groups members files k h = range_kept who groups (who ++ k ∷ []) groups (Keeps-extended who (who ++ k ∷ []) (k ∷ [], refl)) (Keeps-itself groups) members files h

module _ (who groups groups_after : List (List ℕ)) (extends : Extends groups groups_after) (members : List (ℕ × ℕ)) (files : List FileRow) (range : AreInRange who groups members files) where
  -- groups alone are added
  pub range_with_groups : AreInRange who groups_after members files
  range_with_groups = range_kept who groups who groups_after (Keeps-itself who) (Keeps-extended groups groups_after extends) members files range

  pub view_with_groups : table_view who groups_after members files ≡ table_view who groups members files
  view_with_groups = view_kept who groups who groups_after (Keeps-itself who) (Keeps-extended groups groups_after extends) members files range

  module _ (k g : List ℕ) (i j : ℕ) (k_at : IsPlaceOf who k i) (g_at : IsPlaceOf groups_after g j) where
    is_that : member_at who groups_after (i, j) ≡ membership k g
    is_that =
        ap (λ (x : List ℕ). membership x (name_at groups_after j)) (get_or_from_slice_get who i k [] k_at.here)
        ∙ ap (λ (x : List ℕ). membership k x) (get_or_from_slice_get groups_after j g [] g_at.here)

    is_in_range : IsMemberInRange who groups_after (i, j)
    is_in_range = (slice_get_within who i k k_at.here, slice_get_within groups_after j g g_at.here)

    pub range_with_member : AreInRange who groups_after (members ++ (i, j) ∷ []) files
    range_with_member = record {
      members_in_range = All-push (IsMemberInRange who groups_after) members (i, j) range_with_groups.members_in_range is_in_range;
      files_in_range = range_with_groups.files_in_range;
    }

    pub view_with_member : table_view who groups_after (members ++ (i, j) ∷ []) files ≡ with_entry (table_view who groups members files) (Member (membership k g))
    view_with_member =
        ap (λ (ms : List Membership). let t : TableView = record { who = who; members = ms; files = map (file_at who groups_after) files } in t)
        (map_push (member_at who groups_after) members (i, j) ∙ ap (λ (m : Membership). map (member_at who groups_after) members ++ m ∷ []) is_that)
        ∙ ap (λ (t : TableView). with_entry t (Member (membership k g))) view_with_groups

    -- the pair is there, if the membership is
    pub pair_there : Contains (map (member_at who groups) members) (membership k g) → Contains members (i, j)
    pair_there h =
        let found = Contains-map_cases (member_at who groups) members (membership k g) h in
        let m : ℕ × ℕ = found.0 in
        let within = All-contains (IsMemberInRange who groups) members m range.members_in_range found.1 in
        let keeps = Keeps-extended groups groups_after extends in
        let who_is : name_at who m.0 ≡ k = ap (λ (x : Membership). x.who) found.2 in
        let group_is : name_at groups_after m.1 ≡ g = keeps.at m.1 within.1 ∙ ap (λ (x : Membership). x.group) found.2 in
        let first : m.0 ≡ i = k_at.only m.0 (slice_get-get_or who m.0 [] within.0 ∙ ap Some who_is) in
        let second : m.1 ≡ j = g_at.only m.1 (slice_get-get_or groups_after m.1 [] (omega (arith, within.1, keeps.longer)) ∙ ap Some group_is) in
        let same : m ≡ (i, j) = ap (λ (x : ℕ). let p : ℕ × ℕ = (x, m.1) in p) first ∙ ap (λ (y : ℕ). let p : ℕ × ℕ = (i, y) in p) second in
        subst (Contains members) same found.1

    -- and the other way round
    pub member_there : Contains members (i, j) → Contains (map (member_at who groups) members) (membership k g)
    member_there h =
        let within = All-contains (IsMemberInRange who groups) members (i, j) range.members_in_range h in
        let keeps = Keeps-extended groups groups_after extends in
        let same : member_at who groups (i, j) ≡ membership k g = ap (λ (x : List ℕ). membership (name_at who i) x) (sym (keeps.at j within.1)) ∙ is_that in
        subst (Contains (map (member_at who groups) members)) same (Contains-map (member_at who groups) members (i, j) h)

  module _ (node : NodeId) (owner group : List ℕ) (modes : Modes) (i j : ℕ) (owner_at : IsPlaceOf who owner i) (group_at : IsPlaceOf groups_after group j) where
    abbrev row : FileRow
    row = record { number = node.0; owner = i; group = j; modes = modes }

    abbrev that : FileModes
    that = record { node = node; owner = owner; group = group; modes = modes }

    abbrev with_names : List ℕ → List ℕ → FileModes
    with_names o g = record { node = node; owner = o; group = g; modes = modes }

    is_that_file : file_at who groups_after row ≡ that
    is_that_file =
        ap (λ (x : List ℕ). with_names x (name_at groups_after j)) (get_or_from_slice_get who i owner [] owner_at.here)
        ∙ ap (λ (x : List ℕ). with_names owner x) (get_or_from_slice_get groups_after j group [] group_at.here)

    pub range_with_file : AreInRange who groups_after members (files ++ row ∷ [])
    range_with_file = record {
      members_in_range = range_with_groups.members_in_range;
      files_in_range = All-push (IsFileInRange who groups_after) files row range_with_groups.files_in_range (slice_get_within who i owner owner_at.here, slice_get_within groups_after j group group_at.here);
    }

    pub view_with_file : table_view who groups_after members (files ++ row ∷ []) ≡ with_entry (table_view who groups members files) (File that)
    view_with_file =
        ap (λ (fs : List FileModes). let t : TableView = record { who = who; members = map (member_at who groups_after) members; files = fs } in t)
        (map_push (file_at who groups_after) files row ∙ ap (λ (f : FileModes). map (file_at who groups_after) files ++ f ∷ []) is_that_file)
        ∙ ap (λ (t : TableView). with_entry t (File that)) view_with_groups

-- ---- the numbers of files

abbrev pub id_of : ℕ → NodeId
id_of number = record { 0 = number }

pub nodes_are : (who groups : List (List ℕ)) (members : List (ℕ × ℕ)) (files : List FileRow) → nodes_of (table_view who groups members files) ≡ map id_of (map number_of files)
nodes_are who groups members [] = refl
nodes_are who groups members (row ∷ files) = ap (λ (l : List NodeId). id_of row.number ∷ l) (nodes_are who groups members files)

pub number_there : (numbers : List ℕ) (node : NodeId) → Contains (map id_of numbers) node → Contains numbers node.0
number_there numbers node h =
    let found = Contains-map_cases id_of numbers node h in
    subst (Contains numbers) (ap (λ (n : NodeId). n.0) found.2) found.1

pub node_there : (numbers : List ℕ) (node : NodeId) → Contains numbers node.0 → Contains (map id_of numbers) node
node_there numbers node h = Contains-map id_of numbers node.0 h

numbers_at : (numbers : List ℕ) (node : NodeId) (place : ℕ) → slice_get (map id_of numbers) place ≡ Some node → slice_get numbers place ≡ Some node.0
numbers_at [] node place h = absurd (let none : None ≡ Some node = h in cc)
numbers_at (n ∷ numbers) node zero h = let one : id_of n ≡ node = cc in ap (λ (x : NodeId). Some x.0) one
numbers_at (n ∷ numbers) node (suc place) h = numbers_at numbers node place h

nodes_at : (numbers : List ℕ) (node : NodeId) (place : ℕ) → slice_get numbers place ≡ Some node.0 → slice_get (map id_of numbers) place ≡ Some node
nodes_at [] node place h = absurd (let none : None ≡ Some node.0 = h in cc)
nodes_at (n ∷ numbers) node zero h = let one : n ≡ node.0 = cc in ap (λ (x : ℕ). Some (id_of x)) one
nodes_at (n ∷ numbers) node (suc place) h = nodes_at numbers node place h

pub place_of_node : (numbers : List ℕ) (node : NodeId) (place : ℕ) → IsPlaceOf numbers node.0 place → IsPlaceOf (map id_of numbers) node place
place_of_node numbers node place h = record {
  here = nodes_at numbers node place h.here;
  only = λ other at. h.only other (numbers_at numbers node other at);
}
