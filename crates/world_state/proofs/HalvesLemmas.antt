-- The halves of a world, and what an operation does to both.
use Rattle.std.proofs.Common.{◌≡◌, ℕ, List, [], ◌∷◌, map, Option, Some, None, Result, Ok, Err, refl, sym, ◌∙◌, ap, ap₂, subst}
use Rattle.std.specs.Prelude.{IsTrue, IsSome, OnErr, unwrap_or}
use Rattle.bl_syntax.specs.Names.{is_principal_name}
use Rattle.file_world.specs.declared.operation.Op.{Op}
use Rattle.file_world.specs.declared.operation.Op.TheVariants.{Read, Write, Truncate, List as ListOf, Lookup, Create, Mkdir, Unlink, Rename, Getattr, Setattr, Delattr, Chown}
use Rattle.file_world.specs.declared.refusal.OpFault.{OpFault}
use Rattle.file_world.specs.declared.refusal.OpFault.TheVariants.{Refused, NoMemory}
use Rattle.file_world.specs.declared.reply.OpReply.{OpReply}
use Rattle.file_world.specs.Attributes.{Marks}
use Rattle.file_world.specs.Effect.{Part, tree_part, meta_part, part_of, IsOperation, refusal_in, refusal, reply_in, world_after}
use Rattle.file_world.specs.Halves.{marks_followed, meta_op_of, tree_half_after}
use Rattle.file_world.specs.Laws.{HalvesKeepStep}
use Rattle.file_world.specs.Tree.{FileTree}
use Rattle.file_world.specs.World.{Item, World, IsWorld, node_of, mark_of, tree_of, marks_of}
use Rattle.file_world.proofs.HalvesLemmas.{halves_after, IsWorld-after}
use Rattle.file_tree.specs.declared.ready.Ready.{Ready as TreeReady}
use Rattle.file_tree.specs.State.{TreeView}
use Rattle.attr_state.specs.declared.ready.MetaReady.{MetaReady}
use Rattle.attr_state.specs.State.{MetaView}
use Rattle.world_state.specs.Halves.{joined_rows, joined, AreHalves, halves_refusal, halves_reply, IsAskedOf, HalvesReserve, op_in}
use Rattle.world_state.specs.State.{Readiness, nothing_ready, WorldState, tree_state, meta_state, AreReady, IsWorldReady, ReservesWorld}

joined_rows-halves : (rows : List (ℕ × Item)) → joined_rows (map (λ row. (row.0, node_of row.1)) rows) (map (λ row. (row.0, mark_of row.1)) rows) ≡ rows
joined_rows-halves [] = refl
joined_rows-halves (row ∷ rows) = ap (λ (others : List (ℕ × Item)). row ∷ others) (joined_rows-halves rows)

-- a world is joined again from its halves
pub joined-halves : (world : World) → joined (tree_of world) (marks_of world) ≡ world
joined-halves world = ap (λ (rows : List (ℕ × Item)). let joined_world : World = record { rows = rows; next = world.next } in joined_world) (joined_rows-halves world.rows)

pub AreHalves-of : (world : World) → IsWorld world → AreHalves (tree_of world) (marks_of world)
AreHalves-of world whole = record {
  tree_is = ap tree_of (joined-halves world);
  marks_are = ap marks_of (joined-halves world);
  whole = subst IsWorld (sym (joined-halves world)) whole;
}

-- a tree and marks that are the halves of a world
pub record Halve (world : World) (tree : FileTree) (marks : Marks) : Type 0 where
  pub kept : AreHalves tree marks
  pub world_is : joined tree marks ≡ world

pub Halve-from : (world : World) (tree : FileTree) (marks : Marks) → IsWorld world → tree ≡ tree_of world → marks ≡ marks_of world → Halve world tree marks
Halve-from world tree marks whole tree_is marks_are =
    subst (λ (t : FileTree). Halve world t marks) (sym tree_is)
    (subst (λ (m : Marks). Halve world (tree_of world) m) (sym marks_are) (record { kept = AreHalves-of world whole; world_is = joined-halves world }))

-- the operation is found again from its half's
op_in-part_of : (op : Op) → op_in (part_of op) ≡ Some op
op_in-part_of (Read file offset len) = refl
op_in-part_of (Write file offset bytes) = refl
op_in-part_of (Truncate file len) = refl
op_in-part_of (ListOf directory) = refl
op_in-part_of (Lookup directory name) = refl
op_in-part_of (Create directory name) = refl
op_in-part_of (Mkdir directory name) = refl
op_in-part_of (Unlink directory name) = refl
op_in-part_of (Rename directory name target renamed) = refl
op_in-part_of (Getattr node name) = refl
op_in-part_of (Setattr node name value) = refl
op_in-part_of (Delattr node name) = refl
op_in-part_of (Chown node owner) = refl

pub given_back : (op : Op) (part : Part) → part ≡ part_of op → IsSome (op_in part)
given_back op part is = subst IsSome (sym (ap op_in is ∙ op_in-part_of op)) refl

pub same_op : (op found : Op) (part : Part) → part ≡ part_of op → op_in part ≡ Some found → found ≡ op
same_op op found part is gives = ap (λ (o : Option Op). unwrap_or o op) (sym gives ∙ ap op_in is ∙ op_in-part_of op)

-- the marks of a world may be asked for what an operation does to them
pub asked_of : HalvesKeepStep → (caller : List ℕ) (world : World) (op : Op) → IsWorld world → IsAskedOf caller (tree_of world) (marks_of world) (part_of op)
asked_of step caller world (Read file offset len) whole = λ free. (step caller (Read file offset len) world whole free).may_follow
asked_of step caller world (Write file offset bytes) whole = λ free. (step caller (Write file offset bytes) world whole free).may_follow
asked_of step caller world (Truncate file len) whole = λ free. (step caller (Truncate file len) world whole free).may_follow
asked_of step caller world (ListOf directory) whole = λ free. (step caller (ListOf directory) world whole free).may_follow
asked_of step caller world (Lookup directory name) whole = λ free. (step caller (Lookup directory name) world whole free).may_follow
asked_of step caller world (Create directory name) whole = λ free. (step caller (Create directory name) world whole free).may_follow
asked_of step caller world (Mkdir directory name) whole = λ free. (step caller (Mkdir directory name) world whole free).may_follow
asked_of step caller world (Unlink directory name) whole = λ free. (step caller (Unlink directory name) world whole free).may_follow
asked_of step caller world (Rename directory name target renamed) whole = λ free. (step caller (Rename directory name target renamed) world whole free).may_follow
asked_of step caller world (Getattr node name) whole = tt
asked_of step caller world (Setattr node name value) whole = tt
asked_of step caller world (Delattr node name) whole = tt
asked_of step caller world (Chown node owner) whole = tt

refusal-halves : (world : World) (part : Part) → halves_refusal (tree_of world) (marks_of world) part ≡ refusal_in world part
refusal-halves world (tree_part op) = refl
refusal-halves world (meta_part op) = refl

reply-halves : (world : World) (part : Part) → halves_reply (tree_of world) (marks_of world) part ≡ reply_in world part
reply-halves world (tree_part op) = refl
reply-halves world (meta_part op) = refl

-- what the two halves of a world answer is the answer of the world
pub reserved : (caller : List ℕ) (world : World) (op : Op) (result : Result OpReply OpFault) (tree : TreeView) (meta : MetaView) (state : WorldState)
    → tree ≡ tree_state state → meta ≡ meta_state state
    → HalvesReserve caller (tree_of world) (marks_of world) (part_of op) result tree meta → ReservesWorld caller world op result state
reserved caller world op (Ok told) tree meta state tree_is meta_is answer = (
  sym (refusal-halves world (part_of op)) ∙ answer.0,
  answer.1 ∙ reply-halves world (part_of op),
  subst (λ (t : TreeView). AreReady caller t (meta_state state) (part_of op)) tree_is (subst (λ (m : MetaView). AreReady caller tree m (part_of op)) meta_is answer.2),
)
reserved caller world op (Err (Refused refused)) tree meta state tree_is meta_is answer = sym (refusal-halves world (part_of op)) ∙ answer
reserved caller world op (Err NoMemory) tree meta state tree_is meta_is answer = sym (refusal-halves world (part_of op)) ∙ answer

-- what is ready is not refused
free_of_part : (caller : List ℕ) (tree : TreeView) (meta : MetaView) (part : Part) → AreReady caller tree meta part → halves_refusal tree.tree meta.marks part ≡ None
free_of_part caller tree meta (tree_part op) ready = ready.tree_ready.free
free_of_part caller tree meta (meta_part op) ready = ready.meta_ready.free

pub IsReady-free : (caller : List ℕ) (state : WorldState) (op : Op) → IsWorldReady caller state op → refusal state.world op ≡ None
IsReady-free caller state op ready = sym (refusal-halves state.world (part_of op)) ∙ free_of_part caller (tree_state state) (meta_state state) (part_of op) ready

-- ---- a world by its two halves

abbrev pub shown : TreeView → MetaView → WorldState
shown tree meta = record { world = joined tree.tree meta.marks; ready = record { tree = tree.ready; meta = meta.ready } }

-- neither half is ready for anything
pub nothing_shown : (tree : TreeView) (meta : MetaView) → tree.ready ≡ None → meta.ready ≡ None → (shown tree meta).ready ≡ nothing_ready
nothing_shown tree meta tree_none meta_none =
    ap₂ (λ (t : Option TreeReady) (m : Option MetaReady). let ready : Readiness = record { tree = t; meta = m } in ready) tree_none meta_none

pub given_up_shown : (answer : Result OpReply OpFault) (tree : TreeView) (meta : MetaView) → OnErr answer (tree.ready ≡ None) → OnErr answer (meta.ready ≡ None) →
    OnErr answer ((shown tree meta).ready ≡ nothing_ready)
given_up_shown (Ok told) tree meta tree_none meta_none = tt
given_up_shown (Err fault) tree meta tree_none meta_none = nothing_shown tree meta tree_none meta_none

pub tree_shown : (tree : TreeView) (meta : MetaView) (state : WorldState) → AreHalves tree.tree meta.marks → shown tree meta ≡ state → tree ≡ tree_state state
tree_shown tree meta state halves is =
    ap (λ (t : FileTree). let tree_with : TreeView = record { tree = t; ready = tree.ready } in tree_with) (sym halves.tree_is) ∙ ap tree_state is

pub meta_shown : (tree : TreeView) (meta : MetaView) (state : WorldState) → AreHalves tree.tree meta.marks → shown tree meta ≡ state → meta ≡ meta_state state
meta_shown tree meta state halves is =
    ap (λ (m : Marks). let meta_with : MetaView = record { marks = m; ready = meta.ready } in meta_with) (sym halves.marks_are) ∙ ap meta_state is

pub whole_shown : (tree : TreeView) (meta : MetaView) (state : WorldState) → AreHalves tree.tree meta.marks → shown tree meta ≡ state → IsWorld state.world
whole_shown tree meta state halves is = subst (λ (s : WorldState). IsWorld s.world) is halves.whole

-- the halves may be asked for what an operation does
pub asked_shown : (caller : List ℕ) (tree : FileTree) (marks : Marks) (op : Op) (part : Part) → AreHalves tree marks → part ≡ part_of op → IsAskedOf caller tree marks part
asked_shown caller tree marks op part halves is =
    subst (λ (p : Part). IsAskedOf caller tree marks p) (sym is)
    (subst (λ (t : FileTree). IsAskedOf caller t marks (part_of op)) halves.tree_is
    (subst (λ (m : Marks). IsAskedOf caller (tree_of (joined tree marks)) m (part_of op)) halves.marks_are
    (asked_of halves_after caller (joined tree marks) op halves.whole)))

pub halves_same : (tree tree_after : FileTree) (marks marks_after : Marks) → tree_after ≡ tree → marks_after ≡ marks → AreHalves tree marks → AreHalves tree_after marks_after
halves_same tree tree_after marks marks_after tree_is marks_are halves =
    subst (λ (t : FileTree). AreHalves t marks_after) (sym tree_is) (subst (λ (m : Marks). AreHalves tree m) (sym marks_are) halves)

pub joined_same : (tree tree_after : FileTree) (marks marks_after : Marks) → tree_after ≡ tree → marks_after ≡ marks → joined tree_after marks_after ≡ joined tree marks
joined_same tree tree_after marks marks_after tree_is marks_are = ap (λ (t : FileTree). joined t marks_after) tree_is ∙ ap (λ (m : Marks). joined tree m) marks_are

reserved_joined : (caller : List ℕ) (tree : FileTree) (marks : Marks) (op : Op) (part : Part) (result : Result OpReply OpFault) (tree_after : TreeView) (meta_after : MetaView)
    → AreHalves tree marks → part ≡ part_of op → tree_after.tree ≡ tree → meta_after.marks ≡ marks
    → HalvesReserve caller tree marks part result tree_after meta_after → ReservesWorld caller (joined tree marks) op result (shown tree_after meta_after)
reserved_joined caller tree marks op part result tree_after meta_after halves is tree_same marks_same answer =
    let still : AreHalves tree_after.tree meta_after.marks = halves_same tree tree_after.tree marks meta_after.marks tree_same marks_same halves in
    reserved caller (joined tree marks) op result tree_after meta_after (shown tree_after meta_after)
    (tree_shown tree_after meta_after (shown tree_after meta_after) still refl) (meta_shown tree_after meta_after (shown tree_after meta_after) still refl)
    (subst (λ (p : Part). HalvesReserve caller (tree_of (joined tree marks)) (marks_of (joined tree marks)) p result tree_after meta_after) is
    (subst (λ (t : FileTree). HalvesReserve caller t (marks_of (joined tree marks)) part result tree_after meta_after) (sym halves.tree_is)
    (subst (λ (m : Marks). HalvesReserve caller tree m part result tree_after meta_after) (sym halves.marks_are) answer)))

pub reserved_shown : (caller : List ℕ) (tree tree_after : TreeView) (meta meta_after : MetaView) (state : WorldState) (op : Op) (part : Part) (result : Result OpReply OpFault)
    → AreHalves tree.tree meta.marks → shown tree meta ≡ state → part ≡ part_of op → tree_after.tree ≡ tree.tree → meta_after.marks ≡ meta.marks
    → HalvesReserve caller tree.tree meta.marks part result tree_after meta_after → ReservesWorld caller state.world op result (shown tree_after meta_after)
reserved_shown caller tree tree_after meta meta_after state op part result halves shows is tree_same marks_same answer =
    subst (λ (s : WorldState). ReservesWorld caller s.world op result (shown tree_after meta_after)) shows
    (reserved_joined caller tree.tree meta.marks op part result tree_after meta_after halves is tree_same marks_same answer)

pub ready_shown : (caller : List ℕ) (tree : TreeView) (meta : MetaView) (state : WorldState) (op : Op) (part : Part) → AreHalves tree.tree meta.marks → shown tree meta ≡ state → part ≡ part_of op
    → IsWorldReady caller state op → AreReady caller tree meta part
ready_shown caller tree meta state op part halves shows is ready =
    subst (λ (p : Part). AreReady caller tree meta p) (sym is)
    (subst (λ (t : TreeView). AreReady caller t meta (part_of op)) (sym (tree_shown tree meta state halves shows))
    (subst (λ (m : MetaView). AreReady caller (tree_state state) m (part_of op)) (sym (meta_shown tree meta state halves shows)) ready))

-- both halves after an operation are those of the world after it
pub applied : (caller : List ℕ) (tree : TreeView) (meta : MetaView) (state : WorldState) (op : Op) (part : Part) (tree_after : FileTree) (marks_after : Marks)
    → AreHalves tree.tree meta.marks → shown tree meta ≡ state → part ≡ part_of op → IsTrue (is_principal_name caller) → IsOperation op → IsWorldReady caller state op
    → tree_after ≡ tree_half_after tree.tree part → marks_after ≡ marks_followed meta.marks (meta_op_of caller tree.tree part)
    → Halve (world_after caller state.world op) tree_after marks_after
applied caller tree meta state op part tree_after marks_after halves shows is named grammar ready tree_is marks_are =
    let whole : IsWorld state.world = whole_shown tree meta state halves shows in
    let free : refusal state.world op ≡ None = IsReady-free caller state op ready in
    let after = halves_after caller op state.world whole free in
    let tree_same : tree.tree ≡ tree_of state.world = ap (λ (t : TreeView). t.tree) (tree_shown tree meta state halves shows) in
    let marks_same : meta.marks ≡ marks_of state.world = ap (λ (m : MetaView). m.marks) (meta_shown tree meta state halves shows) in
    Halve-from (world_after caller state.world op) tree_after marks_after (IsWorld-after caller op state.world whole named grammar free)
    (tree_is ∙ ap (λ (t : FileTree). tree_half_after t part) tree_same ∙ ap (tree_half_after (tree_of state.world)) is ∙ sym after.tree)
    (marks_are ∙ ap (λ (m : Marks). marks_followed m (meta_op_of caller tree.tree part)) marks_same
    ∙ ap (λ (t : FileTree). marks_followed (marks_of state.world) (meta_op_of caller t part)) tree_same
    ∙ ap (λ (p : Part). marks_followed (marks_of state.world) (meta_op_of caller (tree_of state.world) p)) is ∙ sym after.marks)
