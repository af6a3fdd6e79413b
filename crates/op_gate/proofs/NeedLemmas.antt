-- Needs in their order, and the procaps in their places, over plain values.
use Rattle.std.proofs.Common.{◌≡◌, ◌≤◌, ◌<◌, ◌+◌, ℕ, zero, suc, List, [], ◌∷◌, ◌++◌, length, take, drop, get_or, refl, sym, ap, subst, ◌∙◌, arith, Option, Some, None}
use Rattle.std.specs.Prelude.{ℤ}
use Rattle.std.specs.List.{AllByRecursion}
use Rattle.std.proofs.lemmas.List.{take-append-drop, drop_more, take_more, take_all, length-take-le}
use Rattle.std.proofs.lemmas.Option.{slice_get_read}
use Rattle.bl_syntax.specs.declared.terms.NodeId.{NodeId}
use Rattle.bl_syntax.specs.declared.terms.Perm.{Perm}
use Rattle.procap.specs.declared.procap.Procap.{Procap}
use Rattle.file_world.specs.declared.operation.Op.{Op}
use Rattle.file_world.specs.declared.operation.Op.TheVariants.{Read, Write, Truncate, List as ListOf, Lookup, Create, Mkdir, Unlink, Rename, Getattr, Setattr, Delattr, Chown}
use Rattle.file_world.specs.Needs.{Need, need as need_at, needs, slots, child_need}
use Rattle.file_world.specs.TreeEffect.{child_of}
use Rattle.file_world.specs.World.{World, tree_of}
use Rattle.world_state.specs.Needed.{placed}
use Rattle.access_history.specs.declared.reply.DenialCause.{DenialCause}
use Rattle.access_history.specs.Base.{BaseView}
use Rattle.access_history.specs.Numbered.{IsNumbered}
use Rattle.access_history.specs.Admission.{Admits, Denies, IsAdmitted, IsDenied, IsNeedMet, Passes, denial_causes, wanted_goal}
use Rattle.bl_syntax.proofs.GrantLemmas.{AllByRecursion-push}
use Rattle.access_history.proofs.NumberedLemmas.{none_fails, numbered_item}

abbrev Pair : Type 0
Pair = NodeId × Perm

-- ---- how many needs there are

child_need-few : (place : ℕ) (child : Option ℕ) → length (child_need place child) ≤ 1
child_need-few place None = omega arith
child_need-few place (Some child) = omega arith

-- there is a slot for each need
pub needs_few : (world : World) (op : Op) → length (needs world op) ≤ slots op
needs_few world (Read file offset len) = omega arith
needs_few world (Write file offset bytes) = omega arith
needs_few world (Truncate file len) = omega arith
needs_few world (ListOf directory) = omega arith
needs_few world (Lookup directory name) = omega arith
needs_few world (Create directory name) = omega arith
needs_few world (Mkdir directory name) = omega arith
needs_few world (Unlink directory name) = omega (arith, child_need-few 2 (child_of (tree_of world).rows directory.0 name))
needs_few world (Rename directory name target renamed) = omega (arith, child_need-few 3 (child_of (tree_of world).rows directory.0 name))
needs_few world (Getattr node name) = omega arith
needs_few world (Setattr node name value) = omega arith
needs_few world (Delattr node name) = omega arith
needs_few world (Chown node owner) = omega arith

length-placed : (from : ℕ) (pairs : List Pair) → length (placed from pairs) ≡ length pairs
length-placed from [] = refl
length-placed from (pair ∷ pairs) = ap suc (length-placed (from + 1) pairs)

-- there is a procap for each pair of node and permission
pub procap_there : (world : World) (op : Op) (pairs : List Pair) (procaps : List Procap) (place : ℕ) → placed 1 pairs ≡ needs world op → length procaps ≡ slots op → place < length pairs → place < length procaps
procap_there world op pairs procaps place same brought within =
    omega (arith, needs_few world op, ap length same, length-placed 1 pairs)

-- ---- needs one after the other

placed-joined : (from : ℕ) (before behind : List Pair) (pair : Pair) → placed from (before ++ pair ∷ behind) ≡ placed from before ++ need_at (length before + from) pair.0 pair.1 ∷ placed (length before + from + 1) behind
placed-joined from [] behind pair =
    let at : from ≡ 0 + from = omega arith in
    ap (λ (n : ℕ). need_at n pair.0 pair.1 ∷ placed (n + 1) behind) at
placed-joined from (first ∷ before) behind pair =
    let at : length before + (from + 1) ≡ length (first ∷ before) + from = omega arith in
    ap (λ (rest : List Need). need_at from first.0 first.1 ∷ rest)
    (placed-joined (from + 1) before behind pair ∙ ap (λ (n : ℕ). placed (from + 1) before ++ need_at n pair.0 pair.1 ∷ placed (n + 1) behind) at)

placed-push : (from : ℕ) (before : List Pair) (pair : Pair) → placed from (before ++ pair ∷ []) ≡ placed from before ++ need_at (length before + from) pair.0 pair.1 ∷ []
placed-push from before pair = placed-joined from before [] pair

-- the procap at a place has the number of its need
procap_numbered : (procaps : List Procap) (place : ℕ) (p : Procap) → place < length procaps → p ≡ get_or procaps place p → IsNumbered procaps (place + 1) p
procap_numbered procaps place p within at = record { place = place; from_one = refl; found = slice_get_read procaps (length procaps) place p refl within at }

-- one more need is met
pub met_more : (key : List ℕ) (state : BaseView) (caller : List ℕ) (procaps : List Procap) (moment : ℤ) (pairs : List Pair) (place : ℕ) (pair : Pair) (p : Procap) → place < length pairs → pair ≡ get_or pairs place pair → place < length procaps → p ≡ get_or procaps place p →
    Admits key state moment (record { who = caller; file = pair.0; perm = pair.1 }) p → AllByRecursion (IsNeedMet key state caller procaps moment) (placed 1 (take place pairs)) →
    AllByRecursion (IsNeedMet key state caller procaps moment) (placed 1 (take (place + 1) pairs))
met_more key state caller procaps moment pairs place pair p within at there read admits met =
    let P = IsNeedMet key state caller procaps moment in
    let count : length (take place pairs) + 1 ≡ place + 1 = ap (λ (n : ℕ). n + 1) (length-take-le place pairs (omega (arith, within))) in
    let one : IsNeedMet key state caller procaps moment (need_at (length (take place pairs) + 1) pair.0 pair.1) =
    record { procap = p; brought = subst (λ (n : ℕ). IsNumbered procaps n p) (sym count) (procap_numbered procaps place p there read); admits = admits } in
    let more : take (place + 1) pairs ≡ take place pairs ++ pair ∷ [] = take_more pairs place pair within ∙ ap (λ (x : Pair). take place pairs ++ x ∷ []) (sym at) in
    subst (λ (xs : List Pair). AllByRecursion P (placed 1 xs)) (sym more)
    (subst (AllByRecursion P) (sym (placed-push 1 (take place pairs) pair)) (AllByRecursion-push P (placed 1 (take place pairs)) (need_at (length (take place pairs) + 1) pair.0 pair.1) met one))

-- all needs are met
pub all_met : (key : List ℕ) (state : BaseView) (caller : List ℕ) (op : Op) (procaps : List Procap) (moment : ℤ) (pairs : List Pair) (place : ℕ) → placed 1 pairs ≡ needs state.world op → length pairs ≤ place →
    AllByRecursion (IsNeedMet key state caller procaps moment) (placed 1 (take place pairs)) → IsAdmitted key state caller op procaps moment
all_met key state caller op procaps moment pairs place same all met =
    let P = IsNeedMet key state caller procaps moment in
    subst (AllByRecursion P) same (subst (λ (xs : List Pair). AllByRecursion P (placed 1 xs)) (take_all place pairs all) met)

-- a need whose procap denies is not met
not_met : (key : List ℕ) (state : BaseView) (caller : List ℕ) (procaps : List Procap) (moment : ℤ) (wanted : Need) (p : Procap) (cause : DenialCause) → IsNumbered procaps wanted.place p → Denies key state moment (wanted_goal caller wanted) p cause →
    IsNeedMet key state caller procaps moment wanted → ⊥
not_met key state caller procaps moment wanted p cause brought denies met =
    let same : met.procap ≡ p = numbered_item procaps wanted.place met.procap p met.brought brought in
    let admits : Admits key state moment (wanted_goal caller wanted) p = subst (λ (q : Procap). Admits key state moment (wanted_goal caller wanted) q) same met.admits in
    none_fails (Passes key state moment (wanted_goal caller wanted) p) (denial_causes state p.grant) denies.place cause admits denies.first

-- the first need that is not met
pub denied_at : (key : List ℕ) (state : BaseView) (caller : List ℕ) (op : Op) (procaps : List Procap) (moment : ℤ) (pairs : List Pair) (place : ℕ) (pair : Pair) (p : Procap) (cause : DenialCause) → placed 1 pairs ≡ needs state.world op →
    place < length pairs → pair ≡ get_or pairs place pair → place < length procaps → p ≡ get_or procaps place p → Denies key state moment (record { who = caller; file = pair.0; perm = pair.1 }) p cause →
    AllByRecursion (IsNeedMet key state caller procaps moment) (placed 1 (take place pairs)) → IsDenied key state caller procaps moment (needs state.world op) (place + 1) cause
denied_at key state caller op procaps moment pairs place pair p cause same within at there read denies met =
    let split : pairs ≡ take place pairs ++ pair ∷ drop (place + 1) pairs =
    sym (take-append-drop place pairs) ∙ ap (λ (xs : List Pair). take place pairs ++ xs) (drop_more pairs place pair within) ∙ ap (λ (x : Pair). take place pairs ++ x ∷ drop (place + 1) pairs) (sym at) in
    let count : length (take place pairs) + 1 ≡ place + 1 = ap (λ (n : ℕ). n + 1) (length-take-le place pairs (omega (arith, within))) in
    let brought : IsNumbered procaps (length (take place pairs) + 1) p = subst (λ (n : ℕ). IsNumbered procaps n p) (sym count) (procap_numbered procaps place p there read) in
    record {
      index = length (placed 1 (take place pairs));
      need = need_at (length (take place pairs) + 1) pair.0 pair.1;
      first = record {
        before = placed 1 (take place pairs);
        behind = placed (length (take place pairs) + 1 + 1) (drop (place + 1) pairs);
        parts = sym same ∙ ap (placed 1) split ∙ placed-joined 1 (take place pairs) (drop (place + 1) pairs) pair;
        place_is = refl;
        holds_before = met;
        fails = not_met key state caller procaps moment (need_at (length (take place pairs) + 1) pair.0 pair.1) p cause brought denies;
      };
      place_is = sym count;
      procap = p;
      brought = brought;
      denies = denies;
    }

-- ---- pairs as they are read

get_or-any : {A : Type 0} (xs : List A) (k : ℕ) (d e : A) → k < length xs → get_or xs k d ≡ get_or xs k e
get_or-any [] k d e within = absurd (omega (arith, within))
get_or-any (x ∷ xs) zero d e within = refl
get_or-any (x ∷ xs) (suc k) d e within = get_or-any xs k d e (omega (arith, within))

pub met_read : (key : List ℕ) (state : BaseView) (caller : List ℕ) (procaps : List Procap) (moment : ℤ) (pairs : List Pair) (place : ℕ) (default : Pair) (p : Procap) → place < length pairs → place < length procaps → p ≡ get_or procaps place p →
    Admits key state moment (record { who = caller; file = (get_or pairs place default).0; perm = (get_or pairs place default).1 }) p → AllByRecursion (IsNeedMet key state caller procaps moment) (placed 1 (take place pairs)) →
    AllByRecursion (IsNeedMet key state caller procaps moment) (placed 1 (take (place + 1) pairs))
met_read key state caller procaps moment pairs place default p within there read admits met =
    met_more key state caller procaps moment pairs place (get_or pairs place default) p within (get_or-any pairs place default (get_or pairs place default) within) there read admits met

pub denied_read : (key : List ℕ) (state : BaseView) (caller : List ℕ) (op : Op) (procaps : List Procap) (moment : ℤ) (pairs : List Pair) (place : ℕ) (default : Pair) (p : Procap) (cause : DenialCause) → placed 1 pairs ≡ needs state.world op →
    place < length pairs → place < length procaps → p ≡ get_or procaps place p → Denies key state moment (record { who = caller; file = (get_or pairs place default).0; perm = (get_or pairs place default).1 }) p cause →
    AllByRecursion (IsNeedMet key state caller procaps moment) (placed 1 (take place pairs)) → IsDenied key state caller procaps moment (needs state.world op) (place + 1) cause
denied_read key state caller op procaps moment pairs place default p cause same within there read denies met =
    denied_at key state caller op procaps moment pairs place (get_or pairs place default) p cause same within (get_or-any pairs place default (get_or pairs place default) within) there read denies met
