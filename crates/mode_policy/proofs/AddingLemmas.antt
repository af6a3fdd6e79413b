-- An entry is added to a table as it is kept, or the table has it, or speaks of nobody that it names.
use Rattle.std.proofs.Common.{◌≡◌, ℕ, Bool, false, Option, Some, None, MatchOption, List, [], ◌∷◌, ◌++◌, map, IsTrue, sym, ap, ◌∙◌, subst}
use Rattle.std.specs.Prelude.{Contains, Ok, Err}
use Rattle.std.proofs.lemmas.Bool.{false≢true}
use Rattle.std.proofs.lemmas.Bool.Decides.{same_from_decides}
use Rattle.std.proofs.lemmas.List.{append-nil}
use Rattle.std.proofs.lemmas.List.Elements.{All-contains}
use Rattle.std.proofs.lemmas.Option.{slice_get-get_or}
use Rattle.bl_syntax.specs.declared.terms.NodeId.{NodeId}
use Rattle.bl_rules.proofs.Membership.{Contains-map_cases}
use Rattle.mode_policy.specs.declared.entry.Membership.{Membership}
use Rattle.mode_policy.specs.declared.entry.FileModes.{FileModes}
use Rattle.mode_policy.specs.declared.entry.Entry.TheVariants.{Who, Member, File}
use Rattle.mode_policy.specs.declared.fault.LineFault.TheVariants.{Bad, Twice}
use Rattle.mode_policy.specs.declared.files.FileRow.{FileRow}
use Rattle.mode_policy.specs.Adding.{AddsEntry}
use Rattle.mode_policy.specs.Allowed.{membership, is_member}
use Rattle.mode_policy.specs.Places.{IsPlaceOf}
use Rattle.mode_policy.specs.Rows.{number_of, member_at, table_view, AreInRange, Extends}
use Rattle.mode_policy.specs.Table.{TableView, nodes_of}
use Rattle.mode_policy.proofs.ClassLemmas.{is_member-Decides}
use Rattle.mode_policy.proofs.PlacesLemmas.{Contains-get}
use Rattle.mode_policy.proofs.RowLemmas.{view_with_who, view_with_member, view_with_file, pair_there, member_there, nodes_are, number_there, node_there, place_of_node, IsMemberInRange}

module _ (who groups : List (List ℕ)) (members : List (ℕ × ℕ)) (files : List FileRow) (t : TableView) (view : table_view who groups members files ≡ t) (range : AreInRange who groups members files) where
  -- ---- principals

  pub adds_who : (k : List ℕ) (after : List (List ℕ)) → (Contains who k → ⊥) → after ≡ who ++ k ∷ [] → AddsEntry t (Who k) (Ok tt) (table_view after groups members files)
  adds_who k after new after_is =
      subst (λ (x : TableView). AddsEntry x (Who k) (Ok tt) (table_view after groups members files)) view
      (tt, new, ap (λ (l : List (List ℕ)). table_view l groups members files) after_is ∙ view_with_who who groups members files k range)

  pub who_twice : (k : List ℕ) (place : ℕ) (after : TableView) → IsPlaceOf who k place → AddsEntry t (Who k) (Err Twice) after
  who_twice k place after at = subst (λ (x : TableView). AddsEntry x (Who k) (Err Twice) after) view (tt, Contains-get who place k at.here)

  -- ---- memberships

  pub member_unknown : (m : Membership) (after : TableView) → (Contains who m.who → ⊥) → AddsEntry t (Member m) (Err Bad) after
  member_unknown m after none = subst (λ (x : TableView). AddsEntry x (Member m) (Err Bad) after) view none

  pub member_twice : (groups_after : List (List ℕ)) (extends : Extends groups groups_after) (m : Membership) (i j : ℕ) (after : TableView) → IsPlaceOf who m.who i → IsPlaceOf groups_after m.group j → Contains members (i, j)
      → AddsEntry t (Member m) (Err Twice) after
  member_twice groups_after extends m i j after who_at group_at known =
      subst (λ (x : TableView). AddsEntry x (Member m) (Err Twice) after) view
      (Contains-get who i m.who who_at.here, member_there who groups groups_after extends members files range m.who m.group i j who_at group_at known)

  pub adds_member : (groups_after : List (List ℕ)) (extends : Extends groups groups_after) (m : Membership) (i j : ℕ) (after : List (ℕ × ℕ)) → IsPlaceOf who m.who i → IsPlaceOf groups_after m.group j
      → (Contains members (i, j) → ⊥) → after ≡ members ++ (i, j) ∷ [] → AddsEntry t (Member m) (Ok tt) (table_view who groups_after after files)
  adds_member groups_after extends m i j after who_at group_at new after_is =
      subst (λ (x : TableView). AddsEntry x (Member m) (Ok tt) (table_view who groups_after after files)) view (
        Contains-get who i m.who who_at.here,
        λ h. new (pair_there who groups groups_after extends members files range m.who m.group i j who_at group_at h),
        ap (λ (l : List (ℕ × ℕ)). table_view who groups_after l files) after_is ∙ view_with_member who groups groups_after extends members files range m.who m.group i j who_at group_at,
      )

  -- ---- files

  pub owner_unknown : (f : FileModes) (after : TableView) → (Contains who f.owner → ⊥) → AddsEntry t (File f) (Err Bad) after
  owner_unknown f after none = subst (λ (x : TableView). AddsEntry x (File f) (Err Bad) after) view none

  file_known : (f : FileModes) → Contains (map number_of files) f.node.0 → Contains (nodes_of (table_view who groups members files)) f.node
  file_known f h = subst (λ (l : List NodeId). Contains l f.node) (sym (nodes_are who groups members files)) (node_there (map number_of files) f.node h)

  file_is_known : (f : FileModes) → Contains (nodes_of (table_view who groups members files)) f.node → Contains (map number_of files) f.node.0
  file_is_known f h = number_there (map number_of files) f.node (subst (λ (l : List NodeId). Contains l f.node) (nodes_are who groups members files) h)

  pub file_twice : (f : FileModes) (i : ℕ) (after : TableView) → IsPlaceOf who f.owner i → Contains (map number_of files) f.node.0 → AddsEntry t (File f) (Err Twice) after
  file_twice f i after owner_at known =
      subst (λ (x : TableView). AddsEntry x (File f) (Err Twice) after) view (Contains-get who i f.owner owner_at.here, file_known f known)

  pub adds_file : (groups_after : List (List ℕ)) (extends : Extends groups groups_after) (f : FileModes) (i j : ℕ) (after : List FileRow) → IsPlaceOf who f.owner i → IsPlaceOf groups_after f.group j
      → (Contains (map number_of files) f.node.0 → ⊥) → after ≡ files ++ record { number = f.node.0; owner = i; group = j; modes = f.modes } ∷ [] → AddsEntry t (File f) (Ok tt) (table_view who groups_after members after)
  adds_file groups_after extends f i j after owner_at group_at new after_is =
      subst (λ (x : TableView). AddsEntry x (File f) (Ok tt) (table_view who groups_after members after)) view (
        Contains-get who i f.owner owner_at.here,
        λ h. new (file_is_known f h),
        ap (λ (l : List FileRow). table_view who groups_after members l) after_is ∙ view_with_file who groups groups_after extends members files range f.node f.owner f.group f.modes i j owner_at group_at,
      )

  -- ---- what is looked up

  pub no_principal : (k : List ℕ) → (Contains who k → ⊥) → Contains t.who k → ⊥
  no_principal k none = subst (λ (x : TableView). Contains x.who k → ⊥) view none

  pub no_file : (node : NodeId) → (Contains (map number_of files) node.0 → ⊥) → Contains (nodes_of t) node → ⊥
  no_file node none =
      subst (λ (x : TableView). Contains (nodes_of x) node → ⊥) view
      (λ h. none (number_there (map number_of files) node (subst (λ (l : List NodeId). Contains l node) (nodes_are who groups members files) h)))

  pub file_place : (node : NodeId) (place : ℕ) → IsPlaceOf (map number_of files) node.0 place → IsPlaceOf (nodes_of t) node place
  file_place node place at =
      subst (λ (x : TableView). IsPlaceOf (nodes_of x) node place) view
      (subst (λ (l : List NodeId). IsPlaceOf l node place) (sym (nodes_are who groups members files)) (place_of_node (map number_of files) node place at))

  pub finds_file : (node : NodeId) (found : Option ℕ) → MatchOption found (Contains (map number_of files) node.0 → ⊥) (IsPlaceOf (map number_of files) node.0) → MatchOption found (Contains (nodes_of t) node → ⊥) (IsPlaceOf (nodes_of t) node)
  finds_file node None h = no_file node h
  finds_file node (Some place) h = file_place node place h

  -- a member is a principal of the table, and its group one of the groups
  member_is_known : (k g : List ℕ) → Contains (map (member_at who groups) members) (membership k g) → Contains who k × Contains groups g
  member_is_known k g h =
      let found = Contains-map_cases (member_at who groups) members (membership k g) h in
      let within = All-contains (IsMemberInRange who groups) members found.0 range.members_in_range found.1 in (
        Contains-get who found.0.0 k (slice_get-get_or who found.0.0 [] within.0 ∙ ap (λ (m : Membership). Some m.who) found.2),
        Contains-get groups found.0.1 g (slice_get-get_or groups found.0.1 [] within.1 ∙ ap (λ (m : Membership). Some m.group) found.2),
      )

  is_none : (k g : List ℕ) → (Contains (map (member_at who groups) members) (membership k g) → ⊥) → false ≡ is_member t.members k g
  is_none k g none =
      let decides = is_member-Decides (map (member_at who groups) members) k g in
      subst (λ (x : TableView). false ≡ is_member x.members k g) view
      (same_from_decides false (is_member (map (member_at who groups) members) k g) (λ h. absurd (false≢true h), λ h. absurd (none h)) decides)

  pub no_member_who : (k g : List ℕ) → (Contains who k → ⊥) → false ≡ is_member t.members k g
  no_member_who k g none = is_none k g (λ h. none (member_is_known k g h).0)

  pub no_member_group : (k g : List ℕ) → (Contains groups g → ⊥) → false ≡ is_member t.members k g
  no_member_group k g none = is_none k g (λ h. none (member_is_known k g h).1)

  pub member_tested : (k g : List ℕ) (i j : ℕ) (r : Bool) → IsPlaceOf who k i → IsPlaceOf groups g j → (IsTrue r → Contains members (i, j)) × (Contains members (i, j) → IsTrue r) → r ≡ is_member t.members k g
  member_tested k g i j r who_at group_at tests =
      subst (λ (x : TableView). r ≡ is_member x.members k g) view
      (same_from_decides r (is_member (map (member_at who groups) members) k g) (
        λ h. member_there who groups groups (([], sym (append-nil groups))) members files range k g i j who_at group_at (tests.0 h),
        λ h. tests.1 (pair_there who groups groups (([], sym (append-nil groups))) members files range k g i j who_at group_at h),
      )
      (is_member-Decides (map (member_at who groups) members) k g))
