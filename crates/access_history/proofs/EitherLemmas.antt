-- Each of these questions has an answer: it holds, or it does not.
use Rattle.std.proofs.Common.{◌≡◌, ◌∙◌, ◌+◌, ◌<◌, ◌≤◌, ◌⊎◌, ℕ, zero, suc, inl, inr, ⊎_elim, Bool, true, false, nat_lt, IsTrue, List, [], ◌∷◌, length, Some, None, Option, refl, sym, ap, ap₂, arith}
use Rattle.std.specs.Prelude.{ℤ, Contains, ◌==◌}
use Rattle.std.specs.Bool.{Decides}
use Rattle.std.specs.Coded.{Coded}
use Rattle.std.specs.List.{AllByRecursion, slice_get}
use Rattle.std.specs.Str.{bytes_eq}
use base.Stored.{Gv, gnil, gnum, gcons}
use Rattle.std.proofs.lemmas.Bool.{false≢true}
use Rattle.std.proofs.lemmas.Bool.Decides.{Decides-eqb, nat_tests}
use Rattle.std.proofs.lemmas.Slice.Eq.{bytes_eq-Decides}
use Rattle.std.proofs.lemmas.Option.{none-some, slice_get_read}
use Rattle.std.proofs.lemmas.List.Elements.{Contains-append_right}
use Rattle.bl_syntax.specs.declared.terms.Term.{Term}
use Rattle.bl_syntax.specs.declared.terms.Term.TheVariants.{Time}
use Rattle.bl_syntax.specs.declared.terms.Constraint.{Constraint}
use Rattle.bl_syntax.specs.ConditionTests.{is_up_to}
use Rattle.bl_syntax.specs.FirstFailing.{IsFirstFailing}
use Rattle.bl_syntax.specs.Grant.{HoldsAt}
use Rattle.bl_syntax.specs.Terms.{AreInOrder, in_order, term_at}
use Rattle.bl_syntax.proofs.ConditionLemmas.{AreInOrder-times}
use Rattle.bl_syntax.proofs.ConditionTestLemmas.{Decides-is_up_to}
use Rattle.access_history.specs.Numbered.{IsNumbered}
use Rattle.bl_syntax.proofs.GrantLemmas.{Contains-head}
use Rattle.access_history.proofs.ListLemmas.{Contains-cons_cases}

-- it holds, or it does not
abbrev pub OrNot : Type 0 → Type 0
OrNot P = P ⊎ (P → ⊥)

pub or_not : {P : Type 0} (test : Bool) → Decides test P → OrNot P
or_not true decides = inl (decides.0 refl)
or_not false decides = inr (λ holds. false≢true (decides.1 holds))

pub true_or_not : (test : Bool) → OrNot (IsTrue test)
true_or_not true = inl refl
true_or_not false = inr (λ holds. false≢true holds)

pub map_or : {P Q : Type 0} → (P → Q) → (Q → P) → OrNot P → OrNot Q
map_or there back (inl holds) = inl (there holds)
map_or there back (inr fails) = inr (λ q. fails (back q))

pub few_or_full : (n : ℕ) → (n < 4096) ⊎ (4096 ≤ n)
few_or_full n = few (nat_lt n 4096) refl where
  few : (test : Bool) → nat_lt n 4096 ≡ test → (n < 4096) ⊎ (4096 ≤ n)
  few true is = inl (grind (arith, nat_tests, is))
  few false is = inr (grind (arith, nat_tests, is))

pub same_bytes : (a b : List ℕ) → OrNot (a ≡ b)
same_bytes a b = or_not (bytes_eq a b) (bytes_eq-Decides a b)

-- ---- values that can be told apart are the same or not

same_number : (m n : ℕ) → OrNot (m ≡ n)
same_number m n = or_not (m == n) (Decides-eqb m n)

same_pair : (a b c d : Gv) → OrNot (a ≡ c) → OrNot (b ≡ d) → OrNot (gcons a b ≡ gcons c d)
same_pair a b c d (inl first) (inl second) = inl (ap₂ gcons first second)
same_pair a b c d (inl first) (inr other) = inr (λ same. other cc)
same_pair a b c d (inr other) second = inr (λ same. other cc)

same_gv : (a b : Gv) → OrNot (a ≡ b)
same_gv gnil gnil = inl refl
same_gv gnil (gnum n) = inr (λ same. absurd cc)
same_gv gnil (gcons c d) = inr (λ same. absurd cc)
same_gv (gnum m) gnil = inr (λ same. absurd cc)
same_gv (gnum m) (gnum n) = map_or (λ (same : m ≡ n). ap gnum same) (λ (same : gnum m ≡ gnum n). cc) (same_number m n)
same_gv (gnum m) (gcons c d) = inr (λ same. absurd cc)
same_gv (gcons a b) gnil = inr (λ same. absurd cc)
same_gv (gcons a b) (gnum n) = inr (λ same. absurd cc)
same_gv (gcons a b) (gcons c d) = same_pair a b c d (same_gv a c) (same_gv b d)

pub same_coded : {A : Type 0} → Coded A → (a b : A) → OrNot (a ≡ b)
same_coded coded a b = map_or (λ (same : coded.code a ≡ coded.code b). coded.inj a b same) (λ (same : a ≡ b). ap coded.code same) (same_gv (coded.code a) (coded.code b))

-- ---- lists

contains_more : {A : Type 0} (y : A) (ys : List A) (x : A) → OrNot (y ≡ x) → OrNot (Contains ys x) → OrNot (Contains (y ∷ ys) x)
contains_more y ys x (inl same) rest = inl (Contains-head x y ys same)
contains_more y ys x (inr other) (inl there) = inl (Contains-append_right (y ∷ []) ys x there)
contains_more y ys x (inr other) (inr none) = inr (λ here. ⊎_elim other none (Contains-cons_cases y ys x here))

pub contains_or : {A : Type 0} → ((a b : A) → OrNot (a ≡ b)) → (xs : List A) (x : A) → OrNot (Contains xs x)
contains_or same [] x = inr (λ here. absurd (omega (arith, here.1)))
contains_or same (y ∷ ys) x = contains_more y ys x (same y x) (contains_or same ys x)

-- an item that lacks the property is the first of the list that does
pub record HasFailing {A : Type 0} (P : A → Type 0) (items : List A) : Type 0 where
  pub place : ℕ
  pub item : A
  pub first : IsFirstFailing P items place item

failing_more : {A : Type 0} (P : A → Type 0) (x : A) (xs : List A) → OrNot (P x) → AllByRecursion P xs ⊎ HasFailing P xs → AllByRecursion P (x ∷ xs) ⊎ HasFailing P (x ∷ xs)
failing_more {A} P x xs (inr fails) rest = inr (record { place = 0; item = x; first = record { before = []; behind = xs; parts = refl; place_is = refl; holds_before = tt; fails = fails } })
failing_more {A} P x xs (inl holds) (inl all) = inl (holds, all)
failing_more {A} P x xs (inl holds) (inr later) =
    let f = later.first in
    inr (record {
      place = later.place + 1;
      item = later.item;
      first = record { before = x ∷ f.before; behind = f.behind; parts = ap (λ (ys : List A). x ∷ ys) f.parts; place_is = omega (arith, f.place_is); holds_before = (holds, f.holds_before); fails = f.fails };
    })

-- each item has the property, or there is a first one that lacks it
pub all_or_failing : {A : Type 0} (P : A → Type 0) → ((x : A) → OrNot (P x)) → (xs : List A) → AllByRecursion P xs ⊎ HasFailing P xs
all_or_failing P either [] = inl tt
all_or_failing P either (x ∷ xs) = failing_more P x xs (either x) (all_or_failing P either xs)

-- an item with its number
pub record HasItem {A : Type 0} (items : List A) (number : ℕ) : Type 0 where
  pub item : A
  pub numbered : IsNumbered items number item

item_found : {A : Type 0} (items : List A) (place : ℕ) (found : Option A) → slice_get items place ≡ found → HasItem items (suc place) ⊎ ((item : A) → IsNumbered items (suc place) item → ⊥)
item_found items place (Some item) is = inl (record { item = item; numbered = record { place = place; from_one = omega arith; found = is } })
item_found items place None is =
    inr (λ item numbered. let same : place ≡ numbered.place = omega (arith, numbered.from_one) in none-some item (sym is ∙ ap (slice_get items) same ∙ numbered.found))

-- the number has an item, or none
pub item_or_none : {A : Type 0} (items : List A) (number : ℕ) → HasItem items number ⊎ ((item : A) → IsNumbered items number item → ⊥)
item_or_none items zero = inr (λ item numbered. absurd (omega (arith, numbered.from_one)))
item_or_none items (suc place) = item_found items place (slice_get items place) refl

-- a place within the list has an item
record HasItemAt {A : Type 0} (items : List A) (place : ℕ) : Type 0 where
  pub item : A
  pub found : slice_get items place ≡ Some item

item_at : {A : Type 0} (items : List A) (place : ℕ) → place < length items → HasItemAt items place
item_at [] place within = absurd (omega (arith, within))
item_at (x ∷ xs) zero within = record { item = x; found = refl }
item_at (x ∷ xs) (suc place) within = let rest = item_at xs place (omega (arith, within)) in record { item = rest.item; found = rest.found }

-- a number within the list has an item
pub item_of_number : {A : Type 0} (items : List A) (number : ℕ) → 1 ≤ number → number ≤ length items → HasItem items number
item_of_number items zero some few = absurd (omega (arith, some))
item_of_number items (suc place) some few =
    let at = item_at items place (omega (arith, few)) in record { item = at.item; numbered = record { place = place; from_one = omega arith; found = at.found } }

-- what is in a list has a number there
pub record HasPlaceIn {A : Type 0} (items : List A) (item : A) : Type 0 where
  pub number : ℕ
  pub numbered : IsNumbered items number item

pub number_of : {A : Type 0} (items : List A) (item : A) → Contains items item → HasPlaceIn items item
number_of items item (place, within, same) =
    record { number = place + 1; numbered = record { place = place; from_one = refl; found = slice_get_read items (length items) place item refl within (sym same) } }

-- ---- times

-- the term is a time
abbrev IsTimePoint : Term → Type 0
IsTimePoint (Time point) = Unit {0}
IsTimePoint _ = ⊥

both_times : (a b : Term) → AreInOrder a b → IsTimePoint a × IsTimePoint b
both_times _ _ (in_order up_to) = (tt, tt)

in_order_or : (a b : Term) → OrNot (AreInOrder a b)
in_order_or (Time u) (Time v) =
    let exact = AreInOrder-times (Time u) (Time v) u v refl refl in
    map_or exact.1 exact.0 (or_not (is_up_to u v) (Decides-is_up_to u v))
in_order_or (Time u) b = inr (λ ordered. (both_times _ _ ordered).1)
in_order_or a b = inr (λ ordered. (both_times _ _ ordered).0)

pub holds_or : (moment : ℤ) (c : Constraint) → OrNot (HoldsAt moment c)
holds_or moment c = in_order_or (term_at moment c.low) (term_at moment c.high)
