-- Where the statements of a file and of a class stand.
use Rattle.std.proofs.Common.{◌≡◌, ◌≤◌, ◌+◌, ℕ, zero, suc, Bool, true, false, cond, List, [], ◌∷◌, ◌++◌, length, refl, sym, ap, ◌∙◌, subst, arith}
use Rattle.std.specs.Prelude.{Some, None, Option, option_map}
use Rattle.std.specs.List.{slice_get}
use Rattle.std.proofs.lemmas.Bool.{false≢true}
use Rattle.std.proofs.lemmas.List.{length-map, length-append}
use Rattle.std.proofs.lemmas.Option.{slice_get-map}
use Rattle.bl_syntax.specs.declared.terms.Perm.{Perm as Permission}
use Rattle.bl_syntax.specs.declared.terms.Perm.TheVariants.{Read, Write, Execute, Identity, Govern}
use Rattle.bl_syntax.specs.Formula.{FormulaView}
use Rattle.mode_policy.specs.declared.entry.FileModes.{FileModes}
use Rattle.mode_policy.specs.declared.modes.Class.{Class}
use Rattle.mode_policy.specs.declared.modes.Class.TheVariants.{Owner, Group, Other}
use Rattle.mode_policy.specs.Modes.{digit_of, permits, permitted}
use Rattle.mode_policy.specs.Statements.{rule_said, rules_for, rules_of}

-- ---- a thing of a list that stands before or after another

pub get-left : {X : Type 0} (xs ys : List X) (i : ℕ) (x : X) → slice_get xs i ≡ Some x → slice_get (xs ++ ys) i ≡ Some x
get-left [] ys i x h = absurd (let none : None ≡ Some x = h in cc)
get-left (z ∷ xs) ys zero x h = h
get-left (z ∷ xs) ys (suc i) x h = get-left xs ys i x h

pub get-right : {X : Type 0} (xs ys : List X) (i : ℕ) → slice_get (xs ++ ys) (length xs + i) ≡ slice_get ys i
get-right {X} [] ys i = let same : length {A = X} [] + i ≡ i = omega arith in ap (slice_get ys) same
get-right {X} (z ∷ xs) ys i = let same : length {A = X} (z ∷ xs) + i ≡ suc (length {A = X} xs + i) = omega arith in ap (slice_get (z ∷ (xs ++ ys))) same ∙ get-right xs ys i

-- ---- the permissions of a digit

abbrev pub kept : Bool → Bool → Bool → List Permission
kept r w x = cond r (Read ∷ cond w (Write ∷ cond x (Execute ∷ []) []) (cond x (Execute ∷ []) [])) (cond w (Write ∷ cond x (Execute ∷ []) []) (cond x (Execute ∷ []) []))

abbrev pub one : Bool → ℕ
one b = cond b 1 0

counted : (r w x : Bool) → one r + one w + one x ≡ length (kept r w x)
counted true true true = refl
counted true true false = refl
counted true false true = refl
counted true false false = refl
counted false true true = refl
counted false true false = refl
counted false false true = refl
counted false false false = refl

pub count_is : (digit : ℕ) → one (permits digit Read) + one (permits digit Write) + one (permits digit Execute) ≡ length (permitted digit)
count_is digit = counted (permits digit Read) (permits digit Write) (permits digit Execute)

pub small : (b : Bool) → one b ≤ 1
small true = omega arith
small false = omega arith

pub few_kept : (r w x : Bool) → length (kept r w x) ≤ 3
few_kept r w x = let same = counted r w x in let a = small r in let b = small w in let c = small x in omega arith

pub few_permitted : (digit : ℕ) → length (permitted digit) ≤ 3
few_permitted digit = few_kept (permits digit Read) (permits digit Write) (permits digit Execute)

read_place : (r w x : Bool) → r ≡ true → slice_get (kept r w x) 0 ≡ Some Read
read_place true w x h = refl
read_place false w x h = absurd (false≢true h)

write_place : (r w x : Bool) → w ≡ true → slice_get (kept r w x) (one r) ≡ Some Write
write_place true true x h = refl
write_place false true x h = refl
write_place r false x h = absurd (false≢true h)

execute_place : (r w x : Bool) → x ≡ true → slice_get (kept r w x) (one r + one w) ≡ Some Execute
execute_place true true true h = refl
execute_place true false true h = refl
execute_place false true true h = refl
execute_place false false true h = refl
execute_place r w false h = absurd (false≢true h)

-- where a permission stands among those of a digit
abbrev pub place_in : ℕ → Permission → ℕ
place_in digit Read = 0
place_in digit Write = one (permits digit Read)
place_in digit Execute = one (permits digit Read) + one (permits digit Write)
place_in digit Identity = one (permits digit Read) + one (permits digit Write)
place_in digit Govern = one (permits digit Read) + one (permits digit Write)

pub place_is : (digit : ℕ) (permission : Permission) → permits digit permission ≡ true → slice_get (permitted digit) (place_in digit permission) ≡ Some permission
place_is digit Read h = read_place (permits digit Read) (permits digit Write) (permits digit Execute) h
place_is digit Write h = write_place (permits digit Read) (permits digit Write) (permits digit Execute) h
place_is digit Execute h = execute_place (permits digit Read) (permits digit Write) (permits digit Execute) h
place_is digit Identity h = absurd (false≢true h)
place_is digit Govern h = absurd (false≢true h)

-- ---- the rules of a file

pub rule_at : (f : FileModes) (class : Class) (permission : Permission) (place : ℕ) → slice_get (permitted (digit_of f.modes class)) place ≡ Some permission
    → slice_get (rules_for f class) place ≡ Some (rule_said f.node f.owner class permission)
rule_at f class permission place h =
    slice_get-map (rule_said f.node f.owner class) (permitted (digit_of f.modes class)) place ∙ ap (λ (o : Option Permission). option_map (rule_said f.node f.owner class) o) h

pub length-rules_for : (f : FileModes) (class : Class) → length (rules_for f class) ≡ length (permitted (digit_of f.modes class))
length-rules_for f class = length-map (permitted (digit_of f.modes class)) (rule_said f.node f.owner class)

pub length-rules_of : (f : FileModes) → length (rules_of f) ≡ length (permitted f.modes.owner) + length (permitted f.modes.group) + length (permitted f.modes.other)
length-rules_of f =
    let a = length-rules_for f Owner in let b = length-rules_for f Group in let c = length-rules_for f Other in
    omega (arith, length-append (rules_for f Owner) (rules_for f Group ++ rules_for f Other), length-append (rules_for f Group) (rules_for f Other))

pub owner_rule : (f : FileModes) (said : FormulaView) (place : ℕ) → slice_get (rules_for f Owner) place ≡ Some said → slice_get (rules_of f) place ≡ Some said
owner_rule f said place h = get-left (rules_for f Owner) (rules_for f Group ++ rules_for f Other) place said h

pub group_rule : (f : FileModes) (said : FormulaView) (place : ℕ) → slice_get (rules_for f Group) place ≡ Some said → slice_get (rules_of f) (length (permitted f.modes.owner) + place) ≡ Some said
group_rule f said place h =
    ap (λ (n : ℕ). slice_get (rules_of f) (n + place)) (sym (length-rules_for f Owner))
    ∙ get-right (rules_for f Owner) (rules_for f Group ++ rules_for f Other) place ∙ get-left (rules_for f Group) (rules_for f Other) place said h

pub other_rule : (f : FileModes) (said : FormulaView) (place : ℕ) → slice_get (rules_for f Other) place ≡ Some said
    → slice_get (rules_of f) (length (permitted f.modes.owner) + length (permitted f.modes.group) + place) ≡ Some said
other_rule f said place h =
    let a = length-rules_for f Owner in let b = length-rules_for f Group in
    let there : length (permitted f.modes.owner) + length (permitted f.modes.group) + place ≡ length (rules_for f Owner) + (length (rules_for f Group) + place) = omega (arith, a, b) in
    ap (slice_get (rules_of f)) there ∙ get-right (rules_for f Owner) (rules_for f Group ++ rules_for f Other) (length (rules_for f Group) + place)
    ∙ get-right (rules_for f Group) (rules_for f Other) place ∙ h

-- by the digit of the class
at_class : (f : FileModes) (class known : Class) (permission : Permission) (digit place : ℕ) → class ≡ known → digit ≡ digit_of f.modes class → slice_get (permitted digit) place ≡ Some permission
    → slice_get (rules_for f known) place ≡ Some (rule_said f.node f.owner class permission)
at_class f class known permission digit place is_known digit_is found =
    let there : slice_get (permitted (digit_of f.modes known)) place ≡ Some permission =
    subst (λ (d : ℕ). slice_get (permitted d) place ≡ Some permission) (digit_is ∙ ap (λ (k : Class). digit_of f.modes k) is_known) found in
    subst (λ (k : Class). slice_get (rules_for f known) place ≡ Some (rule_said f.node f.owner k permission)) (sym is_known) (rule_at f known permission place there)

pub group_at : (f : FileModes) (class : Class) (permission : Permission) (digit place n : ℕ) → class ≡ Group → digit ≡ digit_of f.modes class → slice_get (permitted digit) place ≡ Some permission → n ≡ length (permitted f.modes.owner)
    → slice_get (rules_of f) (n + place) ≡ Some (rule_said f.node f.owner class permission)
group_at f class permission digit place n is_group digit_is found n_is =
    ap (λ (m : ℕ). slice_get (rules_of f) (m + place)) n_is ∙ group_rule f (rule_said f.node f.owner class permission) place (at_class f class Group permission digit place is_group digit_is found)

pub other_at : (f : FileModes) (class : Class) (permission : Permission) (digit place n m : ℕ) → class ≡ Other → digit ≡ digit_of f.modes class → slice_get (permitted digit) place ≡ Some permission
    → n ≡ length (permitted f.modes.owner) → m ≡ length (permitted f.modes.group) → slice_get (rules_of f) (n + m + place) ≡ Some (rule_said f.node f.owner class permission)
other_at f class permission digit place n m is_other digit_is found n_is m_is =
    ap (λ (x : ℕ). slice_get (rules_of f) (x + m + place)) n_is ∙ ap (λ (x : ℕ). slice_get (rules_of f) (length (permitted f.modes.owner) + x + place)) m_is
    ∙ other_rule f (rule_said f.node f.owner class permission) place (at_class f class Other permission digit place is_other digit_is found)
