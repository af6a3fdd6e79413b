-- The parts of a grant: what is read is spelled so, and what is spelled so is read.
use Rattle.std.proofs.Common.{◌≡◌, ℕ, ◌^◌, eqb, List, [], ◌∷◌, ◌++◌, Ok, Err, refl, sym, ap, subst, ◌∙◌, append_assoc}
use Rattle.std.specs.Int.{w64, to_be_bytes}
use Rattle.std.proofs.lemmas.Bool.{eqb-true}
use Rattle.bl_syntax.specs.declared.codec_fault.CodecFault.TheVariants as faults
use Rattle.bl_syntax.specs.declared.terms.NodeId.{NodeId}
use Rattle.bl_syntax.specs.declared.terms.Perm.{Perm as Permission}
use Rattle.bl_syntax.specs.declared.terms.Term.{Term}
use Rattle.bl_syntax.specs.declared.terms.Constraint.{Constraint}
use Rattle.bl_syntax.specs.declared.terms.StatePred.{StatePred}
use Rattle.bl_syntax.specs.declared.terms.StatePred.TheVariants.{Owner, HasXattr, InDir}
use Rattle.bl_syntax.specs.declared.grant.Goal.{Goal}
use Rattle.bl_syntax.specs.Spelling.{with_length, permission_code, term_spelling, IsSpellable}
use Rattle.bl_syntax.specs.FormulaSpelling.{state_spelling}
use Rattle.bl_syntax.specs.FormulaReading.{is_formula_tag}
use Rattle.bl_syntax.specs.Reading.{◌>>=◌, Reading, map_reading, place, number_at, name_at, permission_of, permission_at, term_at}
use Rattle.bl_syntax.specs.Codec.{AreBytes, IsCodec}
use Rattle.bl_syntax.proofs.CodecLemmas.{bind_ok, by_test, ok_is, bind_memoryless, made_ok, made_memoryless, AreBytes-rest, AreBytes-behind, codec}
use Rattle.bl_syntax.proofs.FieldLemmas.{wide64, number_found, number_again, number_memoryless, coded_found, coded_again, coded_memoryless, permission_back, permission_again}
use Rattle.bl_syntax.proofs.FieldCodecs.{name_codec}
use Rattle.bl_syntax.proofs.TermLemmas.{term_codec}
use Rattle.procap.specs.GrantSpelling.{goal_spelling, time_condition_spelling, IsSpellableGoal, IsSpellableTime, IsSpellableState}
use Rattle.procap.specs.GrantReading.{goal_at, both_at, time_condition_at, state_terms_at, state_condition_at}
use Rattle.procap.proofs.ItemsLemmas.{test_memoryless}

-- ---- one, and then another

abbrev pub both_spelling : {A B : Type 0} → (A → List ℕ) → (B → List ℕ) → A × B → List ℕ
both_spelling first second p = first p.0 ++ second p.1

abbrev pub AreBoth : {A B : Type 0} → (A → Type 0) → (B → Type 0) → A × B → Type 0
AreBoth First Second p = First p.0 × Second p.1

both_found : {A B : Type 0} (First : A → Type 0) (first : A → List ℕ) (first_at : ℕ → List ℕ → Reading A) (Second : B → Type 0) (second : B → List ℕ) (second_at : ℕ → List ℕ → Reading B)
    → IsCodec First first first_at → IsCodec Second second second_at
    → (input : ℕ) (bytes rest : List ℕ) (p : A × B) → AreBytes bytes → both_at first_at second_at input bytes ≡ Ok (p, rest) → AreBoth First Second p × (bytes ≡ both_spelling first second p ++ rest)
unfolding both_at
both_found {A} {B} First first first_at Second second second_at f s input bytes rest p fits e =
    let a = bind_ok (first_at input bytes) (λ x. second_at input x.1 >>= λ y. Ok ((x.0, y.0), y.1)) (p, rest) e in
    let b = bind_ok (second_at input a.0.1) (λ y. Ok ((a.0.0, y.0), y.1)) (p, rest) a.2 in
    let one = f.found input bytes a.0.1 a.0.0 fits a.1 in
    let two = s.found input a.0.1 b.0.1 b.0.0 (AreBytes-behind (first a.0.0) a.0.1 (subst AreBytes one.1 fits)) b.1 in
    let whole : bytes ≡ (first a.0.0 ++ second b.0.0) ++ b.0.1 = one.1 ∙ ap (λ (end : List ℕ). first a.0.0 ++ end) two.1 ∙ sym (append_assoc (first a.0.0) (second b.0.0) b.0.1) in
    subst (λ (q : (A × B) × List ℕ). AreBoth First Second q.0 × (bytes ≡ both_spelling first second q.0 ++ q.1)) (ok_is ((a.0.0, b.0.0), b.0.1) (p, rest) b.2) ((one.0, two.0), whole)

both_again : {A B : Type 0} (First : A → Type 0) (first : A → List ℕ) (first_at : ℕ → List ℕ → Reading A) (Second : B → Type 0) (second : B → List ℕ) (second_at : ℕ → List ℕ → Reading B)
    → IsCodec First first first_at → IsCodec Second second second_at
    → (input : ℕ) (p : A × B) (rest : List ℕ) → AreBoth First Second p → both_at first_at second_at input (both_spelling first second p ++ rest) ≡ Ok (p, rest)
unfolding both_at
both_again First first first_at Second second second_at f s input p rest h =
    rw (append_assoc (first p.0) (second p.1) rest, f.again input p.0 (second p.1 ++ rest) h.0, s.again input p.1 rest h.1) refl

both_memoryless : {A B : Type 0} (first_at : ℕ → List ℕ → Reading A) (second_at : ℕ → List ℕ → Reading B) → ((input : ℕ) (bytes : List ℕ) → first_at input bytes ≡ Err faults.NoMemory → ⊥)
    → ((input : ℕ) (bytes : List ℕ) → second_at input bytes ≡ Err faults.NoMemory → ⊥) → (input : ℕ) (bytes : List ℕ) → both_at first_at second_at input bytes ≡ Err faults.NoMemory → ⊥
unfolding both_at
both_memoryless first_at second_at f s input bytes e =
    bind_memoryless (first_at input bytes) (λ x. second_at input x.1 >>= λ y. Ok ((x.0, y.0), y.1)) (f input bytes)
    (λ x h. bind_memoryless (second_at input x.1) (λ y. Ok ((x.0, y.0), y.1)) (s input x.1) (λ y k. cc) h) e

pub both_codec : {A B : Type 0} (First : A → Type 0) (first : A → List ℕ) (first_at : ℕ → List ℕ → Reading A) (Second : B → Type 0) (second : B → List ℕ) (second_at : ℕ → List ℕ → Reading B)
    → IsCodec First first first_at → IsCodec Second second second_at → IsCodec (AreBoth First Second) (both_spelling first second) (both_at first_at second_at)
both_codec First first first_at Second second second_at f s =
    codec (AreBoth First Second) (both_spelling first second) (both_at first_at second_at)
    (both_found First first first_at Second second second_at f s) (both_again First first first_at Second second second_at f s) (both_memoryless first_at second_at f.memoryless s.memoryless)

two : IsCodec (AreBoth IsSpellable IsSpellable) (both_spelling term_spelling term_spelling) (both_at term_at term_at)
two = both_codec IsSpellable term_spelling term_at IsSpellable term_spelling term_at term_codec term_codec

three : IsCodec (AreBoth IsSpellable (AreBoth IsSpellable IsSpellable)) (both_spelling term_spelling (both_spelling term_spelling term_spelling)) (both_at term_at (both_at term_at term_at))
three = both_codec IsSpellable term_spelling term_at (AreBoth IsSpellable IsSpellable) (both_spelling term_spelling term_spelling) (both_at term_at term_at) term_codec two

-- ---- conditions on time

between : Term × Term → Constraint
between t = record { low = t.0; high = t.1 }

time_found : (input : ℕ) (bytes rest : List ℕ) (c : Constraint) → AreBytes bytes → time_condition_at input bytes ≡ Ok (c, rest) → IsSpellableTime c × (bytes ≡ time_condition_spelling c ++ rest)
unfolding time_condition_at time_condition_spelling between
time_found input bytes rest c fits e =
    let m = made_ok between (both_at term_at term_at input bytes) c rest e in
    let it = two.found input bytes rest m.0 fits m.1 in
    subst (λ (d : Constraint). IsSpellableTime d × (bytes ≡ (term_spelling d.low ++ term_spelling d.high) ++ rest)) m.2 (record { low = it.0.0; high = it.0.1 }, it.1)

time_again : (input : ℕ) (c : Constraint) (rest : List ℕ) → IsSpellableTime c → time_condition_at input (time_condition_spelling c ++ rest) ≡ Ok (c, rest)
unfolding time_condition_at time_condition_spelling between
time_again input c rest h = ap (map_reading between) (two.again input (c.low, c.high) rest (h.low, h.high))

time_memoryless : (input : ℕ) (bytes : List ℕ) → time_condition_at input bytes ≡ Err faults.NoMemory → ⊥
unfolding time_condition_at between
time_memoryless input bytes e = made_memoryless between (both_at term_at term_at input bytes) (two.memoryless input bytes) e

pub time_codec : IsCodec IsSpellableTime time_condition_spelling time_condition_at
time_codec = codec IsSpellableTime time_condition_spelling time_condition_at time_found time_again time_memoryless

-- ---- conditions on the server's state

abbrev owner : Term × Term → StatePred
owner t = Owner t.0 t.1

abbrev attribute : Term × (Term × Term) → StatePred
attribute t = HasXattr t.0 t.1.0 t.1.1

abbrev within : Term × Term → StatePred
within t = InDir t.0 t.1

-- the bytes are those of a condition that has a spelling, and the rest
abbrev Spells : List ℕ → StatePred → List ℕ → Type 0
Spells bytes s rest = IsSpellableState s × (bytes ≡ state_spelling s ++ rest)

-- a condition whose terms were read
with_terms : {A : Type 0} (f : A → StatePred) (spelling : A → List ℕ) (IsSpelled : A → Type 0) (code : ℕ)
    → ((x : A) → IsSpelled x → IsSpellableState (f x)) → ((x : A) → state_spelling (f x) ≡ code ∷ spelling x)
    → (tag : ℕ) (more rest : List ℕ) (s : StatePred) (r : Reading A) → tag ≡ code → ((x : A) → r ≡ Ok (x, rest) → IsSpelled x × (more ≡ spelling x ++ rest)) → map_reading f r ≡ Ok (s, rest) → Spells (tag ∷ more) s rest
with_terms f spelling IsSpelled code fits spelled tag more rest s r is found e =
    let m = made_ok f r s rest e in
    let it = found m.0 m.1 in
    subst (λ (u : StatePred). Spells (tag ∷ more) u rest) m.2 (fits m.0 it.0, ap (λ (k : ℕ). k ∷ more) is ∙ ap (λ (b : List ℕ). code ∷ b) it.1 ∙ ap (λ (b : List ℕ). b ++ rest) (sym (spelled m.0)))

terms_found : (input start tag : ℕ) (more rest : List ℕ) (s : StatePred) → AreBytes more → state_terms_at input start tag more ≡ Ok (s, rest) → Spells (tag ∷ more) s rest
unfolding state_terms_at state_spelling
terms_found input start tag more rest s fits e =
    by_test (eqb tag 18) _ _ _ e (λ is h. with_terms owner (both_spelling term_spelling term_spelling) (AreBoth IsSpellable IsSpellable) 18 (λ x k. (k.0, (k.1, tt))) (λ x. refl) tag more rest s (both_at term_at term_at input more) (eqb-true tag 18 is) (λ x k. two.found input more rest x fits k) h) (λ _ e1.
    by_test (eqb tag 19) _ _ _ e1 (λ is h. with_terms attribute (both_spelling term_spelling (both_spelling term_spelling term_spelling)) (AreBoth IsSpellable (AreBoth IsSpellable IsSpellable)) 19 (λ x k. (k.0, (k.1.0, (k.1.1, tt)))) (λ x. refl) tag more rest s (both_at term_at (both_at term_at term_at) input more) (eqb-true tag 19 is) (λ x k. three.found input more rest x fits k) h) (λ _ e2.
    by_test (eqb tag 20) _ _ _ e2 (λ is h. with_terms within (both_spelling term_spelling term_spelling) (AreBoth IsSpellable IsSpellable) 20 (λ x k. (k.0, (k.1, tt))) (λ x. refl) tag more rest s (both_at term_at term_at input more) (eqb-true tag 20 is) (λ x k. two.found input more rest x fits k) h) (λ _ e3.
    by_test (is_formula_tag tag) _ _ _ e3 (λ _ fault. absurd cc) (λ _ fault. absurd cc))))

state_found : (input : ℕ) (bytes rest : List ℕ) (s : StatePred) → AreBytes bytes → state_condition_at input bytes ≡ Ok (s, rest) → Spells bytes s rest
unfolding state_condition_at
state_found input [] rest s fits e = absurd cc
state_found input (tag ∷ more) rest s fits e = terms_found input (place input (tag ∷ more)) tag more rest s (AreBytes-rest tag more fits) e

state_again : (input : ℕ) (s : StatePred) (rest : List ℕ) → IsSpellableState s → state_condition_at input (state_spelling s ++ rest) ≡ Ok (s, rest)
unfolding state_condition_at state_terms_at state_spelling
state_again input (Owner file who) rest h = ap (map_reading owner) (two.again input (file, who) rest (h.0, h.1.0))
state_again input (HasXattr file name value) rest h = ap (map_reading attribute) (three.again input (file, (name, value)) rest (h.0, (h.1.0, h.1.1.0)))
state_again input (InDir file directory) rest h = ap (map_reading within) (two.again input (file, directory) rest (h.0, h.1.0))

state_memoryless : (input : ℕ) (bytes : List ℕ) → state_condition_at input bytes ≡ Err faults.NoMemory → ⊥
unfolding state_condition_at state_terms_at
state_memoryless input [] e = cc
state_memoryless input (tag ∷ more) e =
    test_memoryless (eqb tag 18) _ _ (λ h. made_memoryless owner (both_at term_at term_at input more) (two.memoryless input more) h) (λ e1.
    test_memoryless (eqb tag 19) _ _ (λ h. made_memoryless attribute (both_at term_at (both_at term_at term_at) input more) (three.memoryless input more) h) (λ e2.
    test_memoryless (eqb tag 20) _ _ (λ h. made_memoryless within (both_at term_at term_at input more) (two.memoryless input more) h) (λ e3.
    test_memoryless (is_formula_tag tag) _ _ (λ h. cc) (λ h. cc) e3) e2) e1) e

pub state_codec : IsCodec IsSpellableState state_spelling state_condition_at
state_codec = codec IsSpellableState state_spelling state_condition_at state_found state_again state_memoryless

-- ---- goals

node : ℕ → NodeId
node n = record { 0 = n }

wanted : List ℕ → ℕ → Permission → Goal
wanted who n perm = record { who = who; file = node n; perm = perm }

goal_found : (input : ℕ) (bytes rest : List ℕ) (g : Goal) → AreBytes bytes → goal_at input bytes ≡ Ok (g, rest) → IsSpellableGoal g × (bytes ≡ goal_spelling g ++ rest)
unfolding goal_at goal_spelling node wanted
goal_found input bytes rest g fits e =
    let a = bind_ok (name_at input bytes) (λ who. number_at w64 who.1 >>= λ file. permission_at input file.1 >>= λ perm. Ok (wanted who.0 file.0 perm.0, perm.1)) (g, rest) e in
    let b = bind_ok (number_at w64 a.0.1) (λ file. permission_at input file.1 >>= λ perm. Ok (wanted a.0.0 file.0 perm.0, perm.1)) (g, rest) a.2 in
    let c = bind_ok (permission_at input b.0.1) (λ perm. Ok (wanted a.0.0 b.0.0 perm.0, perm.1)) (g, rest) b.2 in
    let who = name_codec.found input bytes a.0.1 a.0.0 fits a.1 in
    let file = number_found w64 (2 ^ 64) wide64 a.0.1 b.0.0 b.0.1 (AreBytes-behind (with_length a.0.0) a.0.1 (subst AreBytes who.1 fits)) b.1 in
    let perm : b.0.1 ≡ permission_code c.0.0 ∷ c.0.1 = coded_found permission_of permission_code permission_back input b.0.1 c.0.1 c.0.0 c.1 in
    let end : a.0.1 ≡ (to_be_bytes w64 b.0.0 ++ permission_code c.0.0 ∷ []) ++ c.0.1 = file.1 ∙ ap (λ (end : List ℕ). to_be_bytes w64 b.0.0 ++ end) perm ∙ sym (append_assoc (to_be_bytes w64 b.0.0) (permission_code c.0.0 ∷ []) c.0.1) in
    let whole : bytes ≡ (with_length a.0.0 ++ (to_be_bytes w64 b.0.0 ++ permission_code c.0.0 ∷ [])) ++ c.0.1 = who.1 ∙ ap (λ (end : List ℕ). with_length a.0.0 ++ end) end ∙ sym (append_assoc (with_length a.0.0) (to_be_bytes w64 b.0.0 ++ permission_code c.0.0 ∷ []) c.0.1) in
    let at_end : IsSpellableGoal (wanted a.0.0 b.0.0 c.0.0) = record { who = who.0; file = file.0 } in
    subst (λ (q : Goal × List ℕ). IsSpellableGoal q.0 × (bytes ≡ (with_length q.0.who ++ (to_be_bytes w64 q.0.file.0 ++ permission_code q.0.perm ∷ [])) ++ q.1)) (ok_is (wanted a.0.0 b.0.0 c.0.0, c.0.1) (g, rest) c.2) (at_end, whole)

goal_again : (input : ℕ) (g : Goal) (rest : List ℕ) → IsSpellableGoal g → goal_at input (goal_spelling g ++ rest) ≡ Ok (g, rest)
unfolding goal_at goal_spelling
goal_again input g rest h =
    rw (
      append_assoc (with_length g.who) (to_be_bytes w64 g.file.0 ++ permission_code g.perm ∷ []) rest,
      append_assoc (to_be_bytes w64 g.file.0) (permission_code g.perm ∷ []) rest,
      name_codec.again input g.who (to_be_bytes w64 g.file.0 ++ permission_code g.perm ∷ rest) h.who,
      number_again w64 (2 ^ 64) wide64 g.file.0 (permission_code g.perm ∷ rest) h.file,
      coded_again permission_of permission_code permission_again input g.perm rest,
    )
    refl

goal_memoryless : (input : ℕ) (bytes : List ℕ) → goal_at input bytes ≡ Err faults.NoMemory → ⊥
unfolding goal_at
goal_memoryless input bytes e =
    bind_memoryless (name_at input bytes) _ (name_codec.memoryless input bytes)
    (λ who h. bind_memoryless (number_at w64 who.1) _ (number_memoryless w64 who.1)
    (λ file k. bind_memoryless (permission_at input file.1) _ (λ m. coded_memoryless permission_of input file.1 m) (λ perm n. cc) k) h) e

pub goal_codec : IsCodec IsSpellableGoal goal_spelling goal_at
goal_codec = codec IsSpellableGoal goal_spelling goal_at goal_found goal_again goal_memoryless
