-- The class of a principal for a file is one, and computed.
use Rattle.std.proofs.Common.{◌≡◌, ℕ, Bool, true, false, cond, List, [], ◌∷◌, Decides, refl, ap, ◌∙◌, ⊎_elim}
use Rattle.std.specs.Prelude.{Contains, ◌&&◌}
use Rattle.std.specs.Str.{bytes_eq}
use Rattle.std.proofs.lemmas.Bool.{false≢true, and_parts, and_from, or_cases, or_left, or_right}
use Rattle.std.proofs.lemmas.Slice.Eq.{bytes_eq-Decides}
use Rattle.bl_rules.proofs.Membership.{Contains-nothing, Contains-head, Contains-tail, Contains-cons_cases}
use Rattle.mode_policy.specs.declared.entry.Membership.{Membership}
use Rattle.mode_policy.specs.declared.entry.FileModes.{FileModes}
use Rattle.mode_policy.specs.declared.modes.Class.{Class}
use Rattle.mode_policy.specs.declared.modes.Class.TheVariants.{Owner, Group, Other}
use Rattle.mode_policy.specs.Allowed.{membership, IsOfClass, as_owner, as_member, as_other, is_member, class_of}
use Rattle.mode_policy.specs.Table.{TableView}

same_member : (m : Membership) (who group : List ℕ) → (bytes_eq m.who who && bytes_eq m.group group) ≡ true → m ≡ membership who group
same_member m who group h =
    let parts = and_parts (bytes_eq m.who who) (bytes_eq m.group group) h in
    let w : m.who ≡ who = (bytes_eq-Decides m.who who).0 parts.0 in
    let g : m.group ≡ group = (bytes_eq-Decides m.group group).0 parts.1 in
    ap (λ (x : List ℕ). membership x m.group) w ∙ ap (λ (x : List ℕ). membership who x) g

is_same : (m : Membership) (who group : List ℕ) → m ≡ membership who group → (bytes_eq m.who who && bytes_eq m.group group) ≡ true
is_same m who group same =
    and_from (bytes_eq m.who who) (bytes_eq m.group group) ((bytes_eq-Decides m.who who).1 (ap (λ (x : Membership). x.who) same)) ((bytes_eq-Decides m.group group).1 (ap (λ (x : Membership). x.group) same))

member_there : (members : List Membership) (who group : List ℕ) → is_member members who group ≡ true → Contains members (membership who group)
member_there [] who group h = absurd (false≢true h)
member_there (m ∷ members) who group h = ⊎_elim
    (λ (here : (bytes_eq m.who who && bytes_eq m.group group) ≡ true). Contains-head (membership who group) m members (same_member m who group here))
    (λ (later : is_member members who group ≡ true). Contains-tail (membership who group) m members (member_there members who group later))
    (or_cases (bytes_eq m.who who && bytes_eq m.group group) (is_member members who group) h)

there_member : (members : List Membership) (who group : List ℕ) → Contains members (membership who group) → is_member members who group ≡ true
there_member [] who group h = absurd (Contains-nothing (membership who group) h)
there_member (m ∷ members) who group h = ⊎_elim
    (λ (here : m ≡ membership who group). or_left (bytes_eq m.who who && bytes_eq m.group group) (is_member members who group) (is_same m who group here))
    (λ (later : Contains members (membership who group)). or_right (bytes_eq m.who who && bytes_eq m.group group) (is_member members who group) (there_member members who group later))
    (Contains-cons_cases (membership who group) m members h)

pub is_member-Decides : (members : List Membership) (who group : List ℕ) → Decides (is_member members who group) (Contains members (membership who group))
is_member-Decides members who group = (member_there members who group, there_member members who group)

by_tests : (t : TableView) (f : FileModes) (who : List ℕ) (owns member : Bool) → Decides owns (who ≡ f.owner) → Decides member (Contains t.members (membership who f.group))
    → IsOfClass t f who (cond owns Owner (cond member Group Other))
by_tests t f who true member own is = as_owner (own.0 refl)
by_tests t f who false true own is = as_member (λ h. false≢true (own.1 h)) (is.0 refl)
by_tests t f who false false own is = as_other (λ h. false≢true (own.1 h)) (λ h. false≢true (is.1 h))

pub class_of-is : (t : TableView) (f : FileModes) (who : List ℕ) → IsOfClass t f who (class_of t f who)
class_of-is t f who = by_tests t f who (bytes_eq who f.owner) (is_member t.members who f.group) (bytes_eq-Decides who f.owner) (is_member-Decides t.members who f.group)

pub one_class : (t : TableView) (f : FileModes) (who : List ℕ) (c d : Class) → IsOfClass t f who c → IsOfClass t f who d → c ≡ d
one_class t f who _ _ (as_owner h) (as_owner k) = refl
one_class t f who _ _ (as_owner h) (as_member other k) = absurd (other h)
one_class t f who _ _ (as_owner h) (as_other other k) = absurd (other h)
one_class t f who _ _ (as_member other h) (as_owner k) = absurd (other k)
one_class t f who _ _ (as_member other h) (as_member more k) = refl
one_class t f who _ _ (as_member other h) (as_other more k) = absurd (k h)
one_class t f who _ _ (as_other other h) (as_owner k) = absurd (other k)
one_class t f who _ _ (as_other other h) (as_member more k) = absurd (h k)
one_class t f who _ _ (as_other other h) (as_other more k) = refl

pub class_of-same : (t : TableView) (f : FileModes) (who : List ℕ) (c : Class) → IsOfClass t f who c → c ≡ class_of t f who
class_of-same t f who c h = one_class t f who c (class_of t f who) h (class_of-is t f who)
