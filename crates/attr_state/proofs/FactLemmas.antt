-- What is true of all nodes is true of the node that it names.
use Rattle.std.proofs.Common.{◌≡◌, ◌≢◌, ◌⊎◌, inl, inr, ℕ, zero, suc, ◌<◌, Bool, true, false, not, Option, Some, None, List, [], ◌∷◌, ◌++◌, map, refl, sym, ap, ◌∙◌, subst, arith, nat_eq, Less}
use Rattle.std.specs.Prelude.{◌==◌, ◌↔◌, Contains, IsTrue}
use Rattle.std.specs.Str.{bytes_eq}
use Rattle.std.proofs.lemmas.Bool.{cond-true, cond-false, false≢true, not-true, eq-eqb, ne_eqb, eqb-true, eqb-false}
use Rattle.std.proofs.lemmas.Option.{none-some, same_Some}
use Rattle.std.proofs.lemmas.List.Elements.{Contains-append_left, Contains-append_right, Contains-append_cases}
use Rattle.std.proofs.lemmas.Slice.Eq.{bytes_eq-Decides}
use Rattle.bl_syntax.specs.declared.terms.Term.{Term}
use Rattle.bl_syntax.specs.declared.terms.Term.TheVariants.{Prin, File, Perm, Time, Text, Ctime, Param, Bound}
use Rattle.bl_syntax.specs.declared.terms.StatePred.{StatePred}
use Rattle.bl_syntax.specs.declared.terms.StatePred.TheVariants.{Owner, HasXattr, InDir}
use Rattle.file_world.specs.Attributes.{Attributes, Mark, Marks, mark_at, value_at}
use Rattle.file_world.specs.Facts.{ownership, possession, containment, facts_of_node, facts_of_marks}
use Rattle.file_world.proofs.RowLemmas.{split, cond_at_true, cond_at_false, lookup_here, lookup_later, above_found, AreRising, rising_head, rising_tail, rising-removed}
use Rattle.attr_state.specs.declared.ready.MetaReady.{MetaReady}
use Rattle.attr_state.specs.declared.ready.MetaReady.TheVariants.{Nothing, Attributes as Room, Made}
use Rattle.attr_state.specs.Index.{MarkEntries, marks_of, marks_in, mark_named, AreSorted, IsMarkIndex}
use Rattle.attr_state.proofs.NameLemmas.{compare, AllAfter, head_after, tail_sorted, apart_from_greater}
use Rattle.attr_state.proofs.MarkLemmas.{rising_marks, marks-removed}

-- ---- members of lists

contains_cons : {A : Type 0} (first : A) (others : List A) (x : A) → Contains (first ∷ others) x → (first ≡ x) ⊎ Contains others x
contains_cons first others x (zero, within, e) = inl e
contains_cons first others x (suc place, within, e) = inr (place, omega (arith, within), e)

contains_first : {A : Type 0} (x : A) (others : List A) → Contains (x ∷ others) x
contains_first x others = (0, omega arith, refl)

contains_later : {A : Type 0} (first : A) (others : List A) (x : A) → Contains others x → Contains (first ∷ others) x
contains_later first others x h = (suc h.0, omega (arith, h.1), h.2)

contains_none : {A : Type 0} (x : A) → Contains [] x → ⊥
contains_none x h = omega (arith, h.1)

-- ---- one node

-- what a predicate speaks of
abbrev subject : StatePred → Term
subject (Owner node owner) = node
subject (HasXattr node name value) = node
subject (InDir node directory) = node

possessed_subject : (number : ℕ) (attributes : Attributes) (s : StatePred) → Contains (map (possession number) attributes) s → subject s ≡ File (record { 0 = number })
possessed_subject number [] s h = absurd (contains_none s h)
possessed_subject number (attribute ∷ attributes) s h =
    elim (contains_cons (possession number attribute) (map (possession number) attributes) s h) [
      | inl e ↦ ap subject (sym e)
      | inr later ↦ possessed_subject number attributes s later
    ]

-- where a fact of a node stands in the list
data FactOf (number : ℕ) (mark : Mark) (s : StatePred) : Type 0 where
  owned : ownership number mark ≡ s → FactOf number mark s
  held : number ≢ 1 → InDir (File (record { 0 = number })) (File (record { 0 = mark.parent })) ≡ s → FactOf number mark s
  possessed : Contains (map (possession number) mark.attributes) s → FactOf number mark s

held_from : (number : ℕ) (mark : Mark) (s : StatePred) → Contains (containment number mark) s → FactOf number mark s
held_from number mark s h =
    split (number == 1)
    (λ t. absurd (contains_none s (subst (λ (facts : List StatePred). Contains facts s) (cond-true (number == 1) [] _ t) h)))
    (λ f. elim (contains_cons _ [] s (subst (λ (facts : List StatePred). Contains facts s) (cond-false (number == 1) [] _ f) h)) [
      | inl e ↦ held (eqb-false number 1 f) e
      | inr none ↦ absurd (contains_none s none)
    ])

FactOf-from : (number : ℕ) (mark : Mark) (s : StatePred) → Contains (facts_of_node number mark) s → FactOf number mark s
FactOf-from number mark s h =
    elim (contains_cons (ownership number mark) (containment number mark ++ map (possession number) mark.attributes) s h) [
      | inl e ↦ owned e
      | inr later ↦ elim (Contains-append_cases (containment number mark) (map (possession number) mark.attributes) s later) [
        | inl here ↦ held_from number mark s here
        | inr there ↦ possessed there
      ]
    ]

facts_from : (number : ℕ) (mark : Mark) (s : StatePred) → FactOf number mark s → Contains (facts_of_node number mark) s
facts_from number mark s (owned e) = subst (Contains (facts_of_node number mark)) e (contains_first (ownership number mark) (containment number mark ++ map (possession number) mark.attributes))
facts_from number mark s (held below e) =
    contains_later (ownership number mark) (containment number mark ++ map (possession number) mark.attributes) s
    (Contains-append_left (containment number mark) (map (possession number) mark.attributes) s
    (subst (λ (facts : List StatePred). Contains facts s) (sym (cond-false (number == 1) [] (InDir (File (record { 0 = number })) (File (record { 0 = mark.parent })) ∷ []) (ne_eqb number 1 below)))
    (subst (Contains (InDir (File (record { 0 = number })) (File (record { 0 = mark.parent })) ∷ [])) e (contains_first (InDir (File (record { 0 = number })) (File (record { 0 = mark.parent }))) []))))
facts_from number mark s (possessed h) =
    contains_later (ownership number mark) (containment number mark ++ map (possession number) mark.attributes) s
    (Contains-append_right (containment number mark) (map (possession number) mark.attributes) s h)

FactOf-subject : (number : ℕ) (mark : Mark) (s : StatePred) → FactOf number mark s → subject s ≡ File (record { 0 = number })
FactOf-subject number mark s (owned e) = ap subject (sym e)
FactOf-subject number mark s (held below e) = ap subject (sym e)
FactOf-subject number mark s (possessed h) = possessed_subject number mark.attributes s h

-- ---- all nodes

record Holder (marks : Marks) (s : StatePred) : Type 0 where
  pub number : ℕ
  pub mark : Mark
  pub found : mark_at marks number ≡ Some mark
  pub fact : FactOf number mark s

holder : (marks : Marks) (s : StatePred) → AreRising marks → Contains (facts_of_marks marks) s → Holder marks s
holder [] s rising h = absurd (contains_none s h)
holder (row ∷ marks) s rising h =
    elim (Contains-append_cases (facts_of_node row.0 row.1) (facts_of_marks marks) s h) [
      | inl here ↦ record { number = row.0; mark = row.1; found = lookup_here (nat_eq row.0) row marks (eq-eqb row.0 row.0 refl); fact = FactOf-from row.0 row.1 s here }
      | inr there ↦
          let rest = holder marks s (rising_tail row marks rising) there in
          let up : row.0 < rest.number = above_found row.0 rest.number rest.mark marks (rising_head row marks rising) rest.found in
          record { number = rest.number; mark = rest.mark; found = lookup_later (nat_eq rest.number) row marks (ne_eqb rest.number row.0 (λ e. omega (arith, e, up))) ∙ rest.found; fact = rest.fact }
    ]

facts_hold : (marks : Marks) (number : ℕ) (mark : Mark) (s : StatePred) → mark_at marks number ≡ Some mark → FactOf number mark s → Contains (facts_of_marks marks) s
facts_hold [] number mark s found fact = absurd (none-some _ found)
facts_hold (row ∷ marks) number mark s found fact =
    split (nat_eq number row.0)
    (λ t. Contains-append_left (facts_of_node row.0 row.1) (facts_of_marks marks) s
    (subst (λ (n : ℕ). Contains (facts_of_node n row.1) s) (eqb-true number row.0 t)
    (subst (λ (m : Mark). Contains (facts_of_node number m) s) (sym (same_Some _ _ (cond_at_true (nat_eq number row.0) _ _ _ t found))) (facts_from number mark s fact))))
    (λ f. Contains-append_right (facts_of_node row.0 row.1) (facts_of_marks marks) s (facts_hold marks number mark s (cond_at_false (nat_eq number row.0) _ _ _ f found) fact))

-- ---- the node that a predicate names

record Named (marks : Marks) (s : StatePred) : Type 0 where
  pub number : ℕ
  pub mark : Mark
  pub names : subject s ≡ File (record { 0 = number })
  pub found : mark_named marks (subject s) ≡ Some mark
  pub fact : FactOf number mark s

named : (marks : Marks) (s : StatePred) → AreRising marks → Contains (facts_of_marks marks) s → Named marks s
named marks s rising h =
    let at = holder marks s rising h in
    let names = FactOf-subject at.number at.mark s at.fact in
    record { number = at.number; mark = at.mark; names = names; found = ap (mark_named marks) names ∙ at.found; fact = at.fact }

pub unnamed : (marks : Marks) (s : StatePred) → AreRising marks → mark_named marks (subject s) ≡ None → Contains (facts_of_marks marks) s → ⊥
unnamed marks s rising none h = none-some _ (sym none ∙ (named marks s rising h).found)

record IsNamed (marks : Marks) (node : Term) (mark : Mark) : Type 0 where
  pub number : ℕ
  pub names : node ≡ File (record { 0 = number })
  pub found : mark_at marks number ≡ Some mark

IsNamed-from : (marks : Marks) (node : Term) (mark : Mark) → mark_named marks node ≡ Some mark → IsNamed marks node mark
IsNamed-from marks (File node) mark e = record { number = node.0; names = refl; found = e }
IsNamed-from marks (Prin principal) mark e = absurd (none-some _ e)
IsNamed-from marks (Perm perm) mark e = absurd (none-some _ e)
IsNamed-from marks (Time time) mark e = absurd (none-some _ e)
IsNamed-from marks (Text text) mark e = absurd (none-some _ e)
IsNamed-from marks Ctime mark e = absurd (none-some _ e)
IsNamed-from marks (Param number) mark e = absurd (none-some _ e)
IsNamed-from marks (Bound number) mark e = absurd (none-some _ e)

-- the mark that a predicate names is the one that is found
same_mark : (marks : Marks) (node : Term) (mark other : Mark) → mark_named marks node ≡ Some mark → mark_named marks node ≡ Some other → other ≡ mark
same_mark marks node mark other e o = same_Some _ _ (sym o ∙ e)

-- ---- owners

abbrev is_xattr : StatePred → Bool
is_xattr (Owner node owner) = false
is_xattr (HasXattr node name value) = true
is_xattr (InDir node directory) = false

possessed_xattr : (number : ℕ) (attributes : Attributes) (s : StatePred) → Contains (map (possession number) attributes) s → is_xattr s ≡ true
possessed_xattr number [] s h = absurd (contains_none s h)
possessed_xattr number (attribute ∷ attributes) s h =
    elim (contains_cons (possession number attribute) (map (possession number) attributes) s h) [
      | inl e ↦ ap is_xattr (sym e)
      | inr later ↦ possessed_xattr number attributes s later
    ]

owner_of_fact : (number : ℕ) (mark : Mark) (node owner : Term) → FactOf number mark (Owner node owner) → owner ≡ Prin mark.owner
owner_of_fact number mark node owner (owned e) = cc
owner_of_fact number mark node owner (held below e) = cc
owner_of_fact number mark node owner (possessed h) = absurd (false≢true (possessed_xattr number mark.attributes (Owner node owner) h))

pub owner_from : (marks : Marks) (node owner : Term) (mark : Mark) → AreRising marks → mark_named marks node ≡ Some mark → Contains (facts_of_marks marks) (Owner node owner) → owner ≡ Prin mark.owner
owner_from marks node owner mark rising e h =
    let at = named marks (Owner node owner) rising h in
    owner_of_fact at.number at.mark node owner at.fact ∙ ap (λ (m : Mark). Prin m.owner) (same_mark marks node mark at.mark e at.found)

pub owner_holds : (marks : Marks) (node owner : Term) (mark : Mark) → mark_named marks node ≡ Some mark → owner ≡ Prin mark.owner → Contains (facts_of_marks marks) (Owner node owner)
owner_holds marks node owner mark e is =
    let at = IsNamed-from marks node mark e in
    let names : node ≡ File (record { 0 = at.number }) = at.names in
    facts_hold marks at.number mark (Owner node owner) at.found (owned cc)

-- ---- directories

directory_of_fact : (number : ℕ) (mark : Mark) (node directory : Term) → FactOf number mark (InDir node directory) → (number ≢ 1) × (directory ≡ File (record { 0 = mark.parent }))
directory_of_fact number mark node directory (owned e) = cc
directory_of_fact number mark node directory (held below e) = (below, cc)
directory_of_fact number mark node directory (possessed h) = absurd (false≢true (possessed_xattr number mark.attributes (InDir node directory) h))

abbrev number_named : Term → ℕ
number_named (File node) = node.0
number_named (Prin principal) = 0
number_named (Perm perm) = 0
number_named (Time time) = 0
number_named (Text text) = 0
number_named Ctime = 0
number_named (Param number) = 0
number_named (Bound number) = 0

pub directory_from : (marks : Marks) (node directory : Term) (mark : Mark) → AreRising marks → mark_named marks node ≡ Some mark → Contains (facts_of_marks marks) (InDir node directory) → (node ≢ File (record { 0 = 1 })) × (directory ≡ File (record { 0 = mark.parent }))
directory_from marks node directory mark rising e h =
    let at = named marks (InDir node directory) rising h in
    let is = directory_of_fact at.number at.mark node directory at.fact in (
      λ root. is.0 (ap number_named (sym at.names ∙ root)),
      is.1 ∙ ap (λ (m : Mark). File (record { 0 = m.parent })) (same_mark marks node mark at.mark e at.found),
    )

pub directory_holds : (marks : Marks) (node directory : Term) (mark : Mark) → mark_named marks node ≡ Some mark → node ≢ File (record { 0 = 1 }) → directory ≡ File (record { 0 = mark.parent }) → Contains (facts_of_marks marks) (InDir node directory)
directory_holds marks node directory mark e below is =
    let at = IsNamed-from marks node mark e in
    let names : node ≡ File (record { 0 = at.number }) = at.names in
    facts_hold marks at.number mark (InDir node directory) at.found
    (held (λ one. below (at.names ∙ ap (λ (n : ℕ). File (record { 0 = n })) one)) cc)

-- ---- attributes

after_found : (bound name value : List ℕ) (attributes : Attributes) → AllAfter bound attributes → value_at attributes name ≡ Some value → compare bound name ≡ Less
after_found bound name value [] after e = absurd (none-some _ e)
after_found bound name value (attribute ∷ attributes) after e =
    split (bytes_eq name attribute.0)
    (λ t. ap (compare bound) ((bytes_eq-Decides name attribute.0).0 t) ∙ after.0)
    (λ f. after_found bound name value attributes after.1 (cond_at_false (bytes_eq name attribute.0) _ _ _ f e))

-- a name and its value
pub record IsValue (attributes : Attributes) (name value : Term) : Type 0 where
  pub name_bytes : List ℕ
  pub value_bytes : List ℕ
  pub name_is : name ≡ Text name_bytes
  pub value_is : value ≡ Text value_bytes
  pub found : value_at attributes name_bytes ≡ Some value_bytes

value_possessed : (number : ℕ) (attributes : Attributes) (node name value : Term) → AreSorted attributes → Contains (map (possession number) attributes) (HasXattr node name value) → IsValue attributes name value
value_possessed number [] node name value sorted h = absurd (contains_none _ h)
value_possessed number (attribute ∷ attributes) node name value sorted h =
    elim (contains_cons (possession number attribute) (map (possession number) attributes) (HasXattr node name value) h) [
      | inl e ↦ record {
        name_bytes = attribute.0;
        value_bytes = attribute.1;
        name_is = cc;
        value_is = cc;
        found = lookup_here (bytes_eq attribute.0) attribute attributes ((bytes_eq-Decides attribute.0 attribute.0).1 refl);
      }
      | inr later ↦
          let rest = value_possessed number attributes node name value (tail_sorted attribute attributes sorted) later in
          let lt = after_found attribute.0 rest.name_bytes rest.value_bytes attributes (head_after attribute attributes sorted) rest.found in
          record {
            name_bytes = rest.name_bytes;
            value_bytes = rest.value_bytes;
            name_is = rest.name_is;
            value_is = rest.value_is;
            found = lookup_later (bytes_eq rest.name_bytes) attribute attributes (apart_from_greater rest.name_bytes attribute.0 lt) ∙ rest.found;
          }
    ]

possessed_value : (number : ℕ) (attributes : Attributes) (name value : List ℕ) → value_at attributes name ≡ Some value → Contains (map (possession number) attributes) (HasXattr (File (record { 0 = number })) (Text name) (Text value))
possessed_value number [] name value e = absurd (none-some _ e)
possessed_value number (attribute ∷ attributes) name value e =
    split (bytes_eq name attribute.0)
    (λ t. let n : name ≡ attribute.0 = (bytes_eq-Decides name attribute.0).0 t in
    let v : attribute.1 ≡ value = same_Some _ _ (cond_at_true (bytes_eq name attribute.0) _ _ _ t e) in
    let same : possession number attribute ≡ HasXattr (File (record { 0 = number })) (Text name) (Text value) = cc in
    subst (Contains (map (possession number) (attribute ∷ attributes))) same (contains_first (possession number attribute) (map (possession number) attributes)))
    (λ f. contains_later (possession number attribute) (map (possession number) attributes) _ (possessed_value number attributes name value (cond_at_false (bytes_eq name attribute.0) _ _ _ f e)))

value_of_fact : (number : ℕ) (mark : Mark) (node name value : Term) → AreSorted mark.attributes → FactOf number mark (HasXattr node name value) → IsValue mark.attributes name value
value_of_fact number mark node name value sorted (owned e) = cc
value_of_fact number mark node name value sorted (held below e) = cc
value_of_fact number mark node name value sorted (possessed h) = value_possessed number mark.attributes node name value sorted h

pub value_from : (marks : Marks) (node name value : Term) (mark : Mark) → AreRising marks → AreSorted mark.attributes → mark_named marks node ≡ Some mark → Contains (facts_of_marks marks) (HasXattr node name value) → IsValue mark.attributes name value
value_from marks node name value mark rising sorted e h =
    let at = named marks (HasXattr node name value) rising h in
    let same = same_mark marks node mark at.mark e at.found in
    subst (λ (m : Mark). IsValue m.attributes name value) same
    (value_of_fact at.number at.mark node name value (subst (λ (m : Mark). AreSorted m.attributes) (sym same) sorted) at.fact)

pub value_holds : (marks : Marks) (node name value : Term) (mark : Mark) → mark_named marks node ≡ Some mark → IsValue mark.attributes name value → Contains (facts_of_marks marks) (HasXattr node name value)
value_holds marks node name value mark e is =
    let at = IsNamed-from marks node mark e in
    let names : node ≡ File (record { 0 = at.number }) = at.names in
    let name_is : name ≡ Text is.name_bytes = is.name_is in
    let value_is : value ≡ Text is.value_bytes = is.value_is in
    let same : HasXattr (File (record { 0 = at.number })) (Text is.name_bytes) (Text is.value_bytes) ≡ HasXattr node name value = cc in
    facts_hold marks at.number mark (HasXattr node name value) at.found
    (possessed (subst (Contains (map (possession at.number) mark.attributes)) same (possessed_value at.number mark.attributes is.name_bytes is.value_bytes is.found)))

-- ---- the marks that contracts see

pub rising_in : (ready : Option MetaReady) (entries : MarkEntries) → IsMarkIndex entries ready → AreRising (marks_in ready entries)
rising_in None entries kept = rising_marks entries kept.ordered.rising
rising_in (Some Nothing) entries kept = rising_marks entries kept.ordered.rising
rising_in (Some (Room number len)) entries kept = rising_marks entries kept.ordered.rising
rising_in (Some (Made number owner parent)) entries kept =
    subst AreRising (sym (marks-removed entries number)) (rising-removed number (marks_of entries) (rising_marks entries kept.ordered.rising))

-- ---- answers

pub no_answer : (marks : Marks) (s : StatePred) → AreRising marks → None ≡ mark_named marks (subject s) → IsTrue false ↔ Contains (facts_of_marks marks) s
no_answer marks s rising none = (λ f. absurd (false≢true f), λ h. absurd (unnamed marks s rising (sym none) h))

pub owner_answer : (marks : Marks) (node owner : Term) (mark : Mark) (answer : Bool) → AreRising marks → Some mark ≡ mark_named marks node → IsTrue answer ↔ (owner ≡ Prin mark.owner) → IsTrue answer ↔ Contains (facts_of_marks marks) (Owner node owner)
owner_answer marks node owner mark answer rising e is =
    (λ t. owner_holds marks node owner mark (sym e) (is.0 t), λ h. is.1 (owner_from marks node owner mark rising (sym e) h))

pub value_answer : (marks : Marks) (node value : Term) (name known : List ℕ) (mark : Mark) (answer : Bool) → AreRising marks → AreSorted mark.attributes → Some mark ≡ mark_named marks node → Some known ≡ value_at mark.attributes name → IsTrue answer ↔ (value ≡ Text known) → IsTrue answer ↔ Contains (facts_of_marks marks) (HasXattr node (Text name) value)
value_answer marks node value name known mark answer rising sorted e found is = (
  λ t. value_holds marks node (Text name) value mark (sym e) (record { name_bytes = name; value_bytes = known; name_is = refl; value_is = is.0 t; found = sym found }),
  λ h. let has = value_from marks node (Text name) value mark rising sorted (sym e) h in
      let same : name ≡ has.name_bytes = (let name_is : Text name ≡ Text has.name_bytes = has.name_is in cc) in
      let known_is : has.value_bytes ≡ known = same_Some _ _ (sym has.found ∙ (ap (value_at mark.attributes) (sym same) ∙ sym found)) in
      is.1 (has.value_is ∙ ap Text known_is),
)

pub value_no_answer : (marks : Marks) (node value : Term) (name : List ℕ) (mark : Mark) → AreRising marks → AreSorted mark.attributes → Some mark ≡ mark_named marks node → None ≡ value_at mark.attributes name → IsTrue false ↔ Contains (facts_of_marks marks) (HasXattr node (Text name) value)
value_no_answer marks node value name mark rising sorted e none = (
  λ f. absurd (false≢true f),
  λ h. let has = value_from marks node (Text name) value mark rising sorted (sym e) h in
      let same : name ≡ has.name_bytes = (let name_is : Text name ≡ Text has.name_bytes = has.name_is in cc) in
      absurd (none-some _ (none ∙ (ap (value_at mark.attributes) same ∙ has.found))),
)

-- no attribute has a name that is no text
pub name_no_answer : (marks : Marks) (node name value : Term) (mark : Mark) → AreRising marks → AreSorted mark.attributes → Some mark ≡ mark_named marks node → ((bytes : List ℕ) → name ≡ Text bytes → ⊥) → IsTrue false ↔ Contains (facts_of_marks marks) (HasXattr node name value)
name_no_answer marks node name value mark rising sorted e other = (
  λ f. absurd (false≢true f),
  λ h. let has = value_from marks node name value mark rising sorted (sym e) h in absurd (other has.name_bytes has.name_is),
)

pub directory_answer : (marks : Marks) (node directory : Term) (mark : Mark) (root answer : Bool) → AreRising marks → Some mark ≡ mark_named marks node → IsTrue root ↔ (node ≡ File (record { 0 = 1 })) → root ≡ false → IsTrue answer ↔ (directory ≡ File (record { 0 = mark.parent })) → IsTrue answer ↔ Contains (facts_of_marks marks) (InDir node directory)
directory_answer marks node directory mark root answer rising e is_root below is = (
  λ t. directory_holds marks node directory mark (sym e) (λ one. false≢true (sym below ∙ is_root.1 one)) (is.0 t),
  λ h. is.1 (directory_from marks node directory mark rising (sym e) h).1,
)

-- the root is in no directory
pub root_answer : (marks : Marks) (node directory : Term) (mark : Mark) (root : Bool) → AreRising marks → Some mark ≡ mark_named marks node → IsTrue root ↔ (node ≡ File (record { 0 = 1 })) → root ≡ true → IsTrue (not root) ↔ Contains (facts_of_marks marks) (InDir node directory)
root_answer marks node directory mark root rising e is_root there = (
  λ t. absurd (false≢true (sym (not-true root t) ∙ there)),
  λ h. absurd ((directory_from marks node directory mark rising (sym e) h).0 (is_root.0 there)),
)
