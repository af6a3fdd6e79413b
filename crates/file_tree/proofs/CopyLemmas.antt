-- A copy of nodes shows the same rows and names, and what is ready in it can be given up.
use Rattle.std.proofs.Common.{◌≡◌, ℕ, ◌-◌, Bool, true, false, cond, Option, Some, None, List, [], ◌∷◌, ◌++◌, length, take, refl, sym, ap, ap₂, ◌∙◌, subst, nat_cmp}
use Rattle.std.specs.List.{AllZip}
use Rattle.std.specs.Map.{lookup}
use Rattle.std.specs.BTreeMap.{is_at}
use Rattle.std.specs.Cmp.Lexicographic.{slice_cmp}
use Rattle.file_world.specs.Tree.{Node, Nodes, IsTree}
use Rattle.file_tree.specs.declared.node.KeptNode.{KeptNode as Kept}
use Rattle.file_tree.specs.declared.ready.Spot.{Spot}
use Rattle.file_tree.specs.declared.ready.Ready.{Ready}
use Rattle.file_tree.specs.declared.ready.Ready.TheVariants.{Nothing, Contents, Made, Gone, Moved}
use Rattle.file_tree.specs.Index.{Entries, rows_of, kept_at, number_in, reserved_at, reserved_spot, published_nodes, expected_number, IsReservedFree, IsPrepared, IsTreeIndex, IsCopy, unroomed}
use Rattle.file_tree.proofs.IndexLemmas.{take-append_one}

abbrev pub AreCopies : Entries → Entries → Type 0
AreCopies old new = AllZip (λ p q. (q.0 ≡ p.0) × IsCopy p.1 q.1) old new

rows_copied : (old new : Entries) → AreCopies old new → rows_of new ≡ rows_of old
rows_copied [] [] copies = refl
rows_copied [] (new ∷ news) copies = absurd copies
rows_copied (old ∷ olds) [] copies = absurd copies
rows_copied (old ∷ olds) (new ∷ news) copies =
    ap₂ (λ (row : ℕ × Node) (rows : Nodes). row ∷ rows) (ap₂ (λ (number : ℕ) (node : Node). (number, node)) copies.0.0 copies.0.1.0) (rows_copied olds news copies.1)

held_copied : (old new : Entries) (directory : ℕ) (name : List ℕ) → AreCopies old new → reserved_at new directory name ≡ reserved_at old directory name
held_copied [] [] directory name copies = refl
held_copied [] (new ∷ news) directory name copies = absurd copies
held_copied (old ∷ olds) [] directory name copies = absurd copies
held_copied (old ∷ olds) (new ∷ news) directory name copies =
    ap (λ (number : ℕ). number_in (cond (is_at (nat_cmp directory) number) (Some new.1) (kept_at news directory)) name) copies.0.0
    ∙ by (is_at (nat_cmp directory) old.0) (held_copied olds news directory name copies.1)
  where
    by : (b : Bool) → reserved_at news directory name ≡ reserved_at olds directory name → number_in (cond b (Some new.1) (kept_at news directory)) name ≡ number_in (cond b (Some old.1) (kept_at olds directory)) name
    by true rest = ap (lookup (is_at (slice_cmp nat_cmp name))) copies.0.1.1
    by false rest = rest

last_copied : (before : Entries) (next : ℕ) (kept : Kept) (new : Entries) → AreCopies (before ++ (next, kept) ∷ []) new → (rest : Entries) × (copy : Kept) × (new ≡ rest ++ (next, copy) ∷ []) × AreCopies before rest × IsCopy kept copy
last_copied [] next kept [] copies = absurd copies
last_copied [] next kept (new ∷ []) copies = ([], new.1, ap (λ (number : ℕ). (number, new.1) ∷ []) copies.0.0, tt, copies.0.1)
last_copied [] next kept (new ∷ more ∷ news) copies = absurd copies.1
last_copied (old ∷ before) next kept [] copies = absurd copies
last_copied (old ∷ before) next kept (new ∷ news) copies =
    let rest = last_copied before next kept news copies.1 in
    (new ∷ rest.0, rest.1, ap (λ (es : Entries). new ∷ es) rest.2, (copies.0, rest.3), rest.4)

copied_from : (old new : Entries) (next : ℕ) (ready now : Option Ready) → reserved_spot now ≡ reserved_spot ready → IsTreeIndex old next ready → AreCopies old new → rows_of (published_nodes now new) ≡ rows_of (published_nodes ready old) → IsPrepared now new next → IsTreeIndex new next now × (rows_of (published_nodes now new) ≡ rows_of (published_nodes ready old))
copied_from old new next ready now same kept copies rows prepared = (
  record {
    tree = subst (λ (r : Nodes). IsTree (record { rows = r; next = next })) (sym rows) kept.tree;
    index = λ directory name. held_copied old new directory name copies ∙ (kept.index directory name ∙ ap₂ (λ (held : Option Spot) (r : Nodes). expected_number held r directory name) (sym same) (sym rows));
    free = subst (λ (held : Option Spot). IsReservedFree held (rows_of (published_nodes now new))) (sym same) (subst (IsReservedFree (reserved_spot ready)) (sym rows) kept.free);
    prepared = prepared;
  },
  rows,
)

pub copied_kept : (old new : Entries) (next : ℕ) (ready : Option Ready) → IsTreeIndex old next ready → AreCopies old new → IsTreeIndex new next (unroomed ready) × (rows_of (published_nodes (unroomed ready) new) ≡ rows_of (published_nodes ready old))
copied_kept old new next None kept copies = copied_from old new next None None refl kept copies (rows_copied old new copies) tt
copied_kept old new next (Some Nothing) kept copies = copied_from old new next (Some Nothing) (Some Nothing) refl kept copies (rows_copied old new copies) tt
copied_kept old new next (Some (Contents number len)) kept copies = copied_from old new next (Some (Contents number len)) None refl kept copies (rows_copied old new copies) tt
copied_kept old new next (Some (Made kind spot)) kept copies =
    let last = kept.prepared in
    let copy = last_copied last.before next last.kept new (subst (λ (es : Entries). AreCopies es new) last.last copies) in
    let now : rows_of (take (length new - 1) new) ≡ rows_of copy.0 = ap (λ (es : Entries). rows_of (take (length es - 1) es)) copy.2 ∙ ap rows_of (take-append_one copy.0 (next, copy.1)) in
    let then : rows_of (take (length old - 1) old) ≡ rows_of last.before = ap (λ (es : Entries). rows_of (take (length es - 1) es)) last.last ∙ ap rows_of (take-append_one last.before (next, last.kept)) in
    copied_from old new next (Some (Made kind spot)) (Some (Made kind spot)) refl kept copies (now ∙ (rows_copied last.before copy.0 copy.3 ∙ sym then))
    (record { before = copy.0; kept = copy.1; last = copy.2; new = copy.4.0 ∙ last.new; no_names = copy.4.1 ∙ last.no_names })
copied_kept old new next (Some (Gone number spot)) kept copies = copied_from old new next (Some (Gone number spot)) (Some (Gone number spot)) refl kept copies (rows_copied old new copies) tt
copied_kept old new next (Some (Moved number from to)) kept copies = copied_from old new next (Some (Moved number from to)) (Some (Moved number from to)) refl kept copies (rows_copied old new copies) tt
