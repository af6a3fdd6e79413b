-- Statements that are added to others, part after part.
use Rattle.std.proofs.Common.{◌≡◌, ◌<◌, ◌≤◌, ◌+◌, ℕ, zero, suc, Bool, true, false, cond, List, [], ◌∷◌, ◌++◌, length, map, take, get_or, refl, sym, ap, ◌∙◌, subst, arith}
use Rattle.std.specs.Prelude.{Result, Ok, Err, Some, None, IsErrAnd}
use Rattle.std.specs.List.{slice_get}
use Rattle.std.proofs.lemmas.List.{map-append, map_push, length-map, length-append, length-take-le, append_assoc, append-nil, take_more, take_all}
use Rattle.bl_syntax.specs.declared.terms.Perm.{Perm as Permission}
use Rattle.bl_syntax.specs.declared.terms.Perm.TheVariants.{Read, Write, Execute}
use Rattle.bl_syntax.specs.declared.terms.TimePoint.{TimePoint}
use Rattle.bl_syntax.specs.Formula.{FormulaView}
use Rattle.bl_syntax.specs.Statement.{StatementView}
use Rattle.mode_policy.specs.declared.entry.FileModes.{FileModes}
use Rattle.mode_policy.specs.declared.fault.ModeFault.{ModeFault}
use Rattle.mode_policy.specs.declared.fault.ModeFault.TheVariants.{BadLine, Twice, TooMany, NoMemory}
use Rattle.mode_policy.specs.declared.modes.Class.{Class}
use Rattle.mode_policy.specs.Modes.{digit_of, permits}
use Rattle.mode_policy.specs.Statements.{rule_said, rules_for, rule_if, said_of, said_of_all, stated, statements_of}
use Rattle.mode_policy.specs.Stating.{Appends, GivesStatements}
use Rattle.mode_policy.specs.Table.{TableView}

module _ (from to : TimePoint) where
  -- nothing is added
  pub Appends-nothing : (old : List StatementView) → Appends from to [] old (Ok tt) old
  Appends-nothing old = sym (append-nil old)

  -- a part was added, and then the next
  pub Appends-then : (first second : List FormulaView) (old mid new : List StatementView) (r : Result (Unit {0}) ModeFault) → Appends from to first old (Ok tt) mid → Appends from to second mid r new
      → Appends from to (first ++ second) old r new
  Appends-then first second old mid new (Ok u) h k =
      k ∙ ap (λ (l : List StatementView). l ++ map (stated from to) second) h ∙ append_assoc old (map (stated from to) first) (map (stated from to) second) ∙ ap (λ (l : List StatementView). old ++ l) (sym (map-append (stated from to) first second))
  Appends-then first second old mid new (Err TooMany) h k =
      omega (arith, k, ap (λ (l : List StatementView). length l) h, length-append old (map (stated from to) first), length-map first (stated from to), length-append first second)
  Appends-then first second old mid new (Err NoMemory) h k = tt
  Appends-then first second old mid new (Err (BadLine number)) h k = k
  Appends-then first second old mid new (Err (Twice number)) h k = k

  -- a part was not added
  pub Appends-stops : (first second : List FormulaView) (old mid new : List StatementView) (fault : ModeFault) → Appends from to first old (Err fault) mid → Appends from to (first ++ second) old (Err fault) new
  Appends-stops first second old mid new TooMany h = omega (arith, h, length-append first second)
  Appends-stops first second old mid new NoMemory h = tt
  Appends-stops first second old mid new (BadLine number) h = h
  Appends-stops first second old mid new (Twice number) h = h

  pub Appends-same : (first second : List FormulaView) (old new : List StatementView) (r : Result (Unit {0}) ModeFault) → first ≡ second → Appends from to first old r new → Appends from to second old r new
  Appends-same first second old new r same h = subst (λ (l : List FormulaView). Appends from to l old r new) same h

-- ---- the rules of a class, one permission after the other

by_bits : (f : FileModes) (class : Class) (r w x : Bool)
    → map (rule_said f.node f.owner class) (cond r (Read ∷ cond w (Write ∷ cond x (Execute ∷ []) []) (cond x (Execute ∷ []) [])) (cond w (Write ∷ cond x (Execute ∷ []) []) (cond x (Execute ∷ []) [])))
    ≡ cond r (rule_said f.node f.owner class Read ∷ []) [] ++ (cond w (rule_said f.node f.owner class Write ∷ []) [] ++ cond x (rule_said f.node f.owner class Execute ∷ []) [])
by_bits f class true true true = refl
by_bits f class true true false = refl
by_bits f class true false true = refl
by_bits f class true false false = refl
by_bits f class false true true = refl
by_bits f class false true false = refl
by_bits f class false false true = refl
by_bits f class false false false = refl

pub rules_for-parts : (f : FileModes) (class : Class) → rules_for f class ≡ rule_if f class Read ++ (rule_if f class Write ++ rule_if f class Execute)
rules_for-parts f class =
    let digit : ℕ = digit_of f.modes class in
    by_bits f class (permits digit Read) (permits digit Write) (permits digit Execute)

pub rule_if-true : (f : FileModes) (class : Class) (permission : Permission) → permits (digit_of f.modes class) permission ≡ true → rule_if f class permission ≡ rule_said f.node f.owner class permission ∷ []
rule_if-true f class permission h = rw h

pub rule_if-false : (f : FileModes) (class : Class) (permission : Permission) → permits (digit_of f.modes class) permission ≡ false → rule_if f class permission ≡ []
rule_if-false f class permission h = rw h

-- ---- files one after the other

pub said_of_all-push : (t : TableView) (files : List FileModes) (f : FileModes) → said_of_all t (files ++ f ∷ []) ≡ said_of_all t files ++ said_of t f
said_of_all-push t [] f = append-nil (said_of t f)
said_of_all-push t (g ∷ files) f = ap (λ (l : List FormulaView). said_of t g ++ l) (said_of_all-push t files f) ∙ sym (append_assoc (said_of t g) (said_of_all t files) (said_of t f))

pub said_of_all-append : (t : TableView) (files others : List FileModes) → said_of_all t (files ++ others) ≡ said_of_all t files ++ said_of_all t others
said_of_all-append t [] others = refl
said_of_all-append t (g ∷ files) others = ap (λ (l : List FormulaView). said_of t g ++ l) (said_of_all-append t files others) ∙ sym (append_assoc (said_of t g) (said_of_all t files) (said_of_all t others))

some_same : {A : Type 0} (x y : A) → Some x ≡ Some y → x ≡ y
some_same x y h = cc

pub said_more : (t : TableView) (files : List FileModes) (place : ℕ) (f : FileModes) → slice_get files place ≡ Some f → said_of_all t (take (suc place) files) ≡ said_of_all t (take place files) ++ said_of t f
said_more t [] place f h = absurd (let none : None ≡ Some f = h in cc)
said_more t (g ∷ files) zero f h =
    append-nil (said_of t g) ∙ ap (λ (e : FileModes). said_of t e) (some_same g f h)
said_more t (g ∷ files) (suc place) f h =
    ap (λ (l : List FormulaView). said_of t g ++ l) (said_more t files place f h) ∙ sym (append_assoc (said_of t g) (said_of_all t (take place files)) (said_of t f))

pub length_within : (t : TableView) (n : ℕ) (files : List FileModes) → length (said_of_all t (take n files)) ≤ length (said_of_all t files)
length_within t zero files = omega arith
length_within t (suc n) [] = omega arith
length_within t (suc n) (g ∷ files) = omega (arith, length_within t n files, length-append (said_of t g) (said_of_all t (take n files)), length-append (said_of t g) (said_of_all t files))

pub length_after : (t : TableView) (files : List FileModes) (place : ℕ) (f : FileModes) → slice_get files place ≡ Some f
    → length (said_of_all t (take (suc place) files)) ≡ length (said_of_all t (take place files)) + length (said_of t f)
length_after t files place f h = ap (λ (l : List FormulaView). length l) (said_more t files place f h) ∙ length-append (said_of_all t (take place files)) (said_of t f)

-- ---- what a call answers that goes through the principals or the files

pub stops_at : (from to : TimePoint) (said : List FormulaView) (old new : List StatementView) (r : Result (Unit {0}) ModeFault) (fault : ModeFault) → IsErrAnd r (λ (y : ModeFault). y ≡ fault) → Appends from to said old (Err fault) new
    → Appends from to said old r new
stops_at from to said old new (Ok u) fault is h = absurd is
stops_at from to said old new (Err y) fault is h = subst (λ (x : ModeFault). Appends from to said old (Err x) new) (sym is) h

module _ (from to : TimePoint) (said_of_one : List ℕ → FormulaView) (names : List (List ℕ)) (i : ℕ) (old mid : List StatementView) (so_far : Appends from to (map said_of_one (take i names)) old (Ok tt) mid) (within : i < length names) where
  pub one_more : (name : List ℕ) (new : List StatementView) → name ≡ get_or names i name → new ≡ mid ++ stated from to (said_of_one name) ∷ [] → new ≡ old ++ map (stated from to) (map said_of_one (take (i + 1) names))
  one_more name new name_is new_is =
      let taken : take (i + 1) names ≡ take i names ++ name ∷ [] = take_more names i name within ∙ ap (λ (x : List ℕ). take i names ++ x ∷ []) (sym name_is) in
      Appends-then from to (map said_of_one (take i names)) (said_of_one name ∷ []) old mid new (Ok tt) so_far new_is
      ∙ ap (λ (l : List FormulaView). old ++ map (stated from to) l) (sym (map_push said_of_one (take i names) name) ∙ ap (map said_of_one) (sym taken))

  so_many : length mid ≡ length old + i
  so_many =
      let sizes : length mid ≡ length (old ++ map (stated from to) (map said_of_one (take i names))) = ap (λ (l : List StatementView). length l) so_far in
      let front : length (take i names) ≡ i = length-take-le i names (omega (arith, within)) in
      omega (arith, sizes, length-append old (map (stated from to) (map said_of_one (take i names))), length-map (map said_of_one (take i names)) (stated from to), length-map (take i names) said_of_one, front)

  pub one_stops : (x : FormulaView) (part new : List StatementView) (fault : ModeFault) → Appends from to (x ∷ []) mid (Err fault) part → Appends from to (map said_of_one names) old (Err fault) new
  one_stops x part new TooMany h = omega (arith, h, so_many, within, length-map names said_of_one)
  one_stops x part new NoMemory h = tt
  one_stops x part new (BadLine number) h = h
  one_stops x part new (Twice number) h = h

pub all_said : (from to : TimePoint) (said_of_one : List ℕ → FormulaView) (names : List (List ℕ)) (i : ℕ) (old new : List StatementView) → new ≡ old ++ map (stated from to) (map said_of_one (take i names)) → length names ≤ i
    → new ≡ old ++ map (stated from to) (map said_of_one names)
all_said from to said_of_one names i old new h past = h ∙ ap (λ (l : List (List ℕ)). old ++ map (stated from to) (map said_of_one l)) (take_all i names past)

module _ (t : TableView) (from to : TimePoint) (place : ℕ) (f : FileModes) (mid : List StatementView) (is : slice_get t.files place ≡ Some f) (so_far : mid ≡ map (stated from to) (said_of_all t (take place t.files))) where
  pub file_more : (new : List StatementView) → new ≡ mid ++ map (stated from to) (said_of t f) → new ≡ map (stated from to) (said_of_all t (take (place + 1) t.files))
  file_more new new_is =
      let next : suc place ≡ place + 1 = omega arith in
      new_is ∙ ap (λ (l : List StatementView). l ++ map (stated from to) (said_of t f)) so_far
      ∙ sym (map-append (stated from to) (said_of_all t (take place t.files)) (said_of t f))
      ∙ ap (map (stated from to)) (sym (said_more t t.files place f is))
      ∙ ap (λ (n : ℕ). map (stated from to) (said_of_all t (take n t.files))) next

  too_many : 4096 < length mid + length (said_of t f) → 4096 < length (statements_of t from to)
  too_many h =
      let sizes : length mid ≡ length (said_of_all t (take place t.files)) = ap (λ (l : List StatementView). length l) so_far ∙ length-map (said_of_all t (take place t.files)) (stated from to) in
      omega (arith, h, sizes, length_after t t.files place f is, length_within t (suc place) t.files, length-map (said_of_all t t.files) (stated from to))

  pub file_stops : (part : List StatementView) (r : Result (List StatementView) ModeFault) (fault : ModeFault) → IsErrAnd r (λ (y : ModeFault). y ≡ fault) → Appends from to (said_of t f) mid (Err fault) part → GivesStatements t from to r
  file_stops part (Ok s) fault y h = absurd y
  file_stops part (Err TooMany) fault y h = too_many (subst (λ (x : ModeFault). Appends from to (said_of t f) mid (Err x) part) (sym y) h)
  file_stops part (Err NoMemory) fault y h = tt
  file_stops part (Err (BadLine number)) fault y h = subst (λ (x : ModeFault). Appends from to (said_of t f) mid (Err x) part) (sym y) h
  file_stops part (Err (Twice number)) fault y h = subst (λ (x : ModeFault). Appends from to (said_of t f) mid (Err x) part) (sym y) h

pub all_files_said : (t : TableView) (from to : TimePoint) (place : ℕ) (new : List StatementView) → new ≡ map (stated from to) (said_of_all t (take place t.files)) → length t.files ≤ place → new ≡ statements_of t from to
all_files_said t from to place new h past = h ∙ ap (λ (l : List FileModes). map (stated from to) (said_of_all t l)) (take_all place t.files past)
