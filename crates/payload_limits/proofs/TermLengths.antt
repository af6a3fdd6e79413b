-- How long terms, formulas, statements and grants are.
use Rattle.std.proofs.Common.{◌≡◌, ℕ, ◌+◌, ◌*◌, ◌≤◌, List, [], ◌∷◌, ◌++◌, length, ap, ⊎_elim, arith}
use Rattle.std.specs.List.{flat_map, AllByRecursion}
use Rattle.std.proofs.lemmas.List.{length-append}
use Rattle.bl_syntax.specs.declared.terms.Term.{Term}
use Rattle.bl_syntax.specs.declared.terms.Term.TheVariants as terms
use Rattle.bl_syntax.specs.declared.terms.TimePoint.{TimePoint}
use Rattle.bl_syntax.specs.declared.terms.TimePoint.TheVariants as times
use Rattle.bl_syntax.specs.declared.terms.Constraint.{Constraint}
use Rattle.bl_syntax.specs.declared.terms.StatePred.{StatePred}
use Rattle.bl_syntax.specs.declared.terms.StatePred.TheVariants.{Owner, HasXattr, InDir}
use Rattle.std.specs.Int.{w64, to_be_bytes}
use Rattle.bl_syntax.specs.declared.grant.Goal.{Goal}
use Rattle.bl_syntax.specs.Spelling.{IsSpellable, with_length, permission_code, time_spelling, term_spelling}
use Rattle.bl_syntax.specs.Formula.{FormulaView, atom, compare, state, both, either, implies, truth, falsity, forall_, exists_, says, on}
use Rattle.bl_syntax.specs.FormulaSpelling.{state_spelling, formula_spelling, statement_spelling, AreNamed, IsSpellableStatement}
use Rattle.bl_syntax.specs.Statement.{StatementView, AllTerms}
use Rattle.bl_syntax.specs.WellSorted.{size, terms_of_state}
use Rattle.bl_syntax.specs.Grant.{GrantView, MayName}
use Rattle.bl_syntax.proofs.WordLemmas.{short_name, short_predicate, short_text}
use Rattle.procap.specs.declared.procap.Procap.{Procap}
use Rattle.procap.specs.GrantSpelling.{goal_spelling, time_condition_spelling, names_spelling, name_spelling, list_spelling, parts_spelling, version_of, grant_spelling, IsSpellableGoal, IsSpellableTime, IsSpellableState, IsSpellableGrant}
use Rattle.procap.specs.Procap.{procap_spelling, IsSpellableProcap}

-- ---- terms

time_length : (t : TimePoint) → length (time_spelling t) ≤ 9
unfolding time_spelling
time_length times.NegInf = omega arith
time_length (times.At second) = omega arith
time_length times.PosInf = omega arith

pub term_length : (t : Term) → IsSpellable t → length (term_spelling t) ≤ 130
unfolding term_spelling
term_length (terms.Prin name) h = omega (arith, (short_name name h).not_above)
term_length (terms.File node) h = omega arith
term_length (terms.Perm permission) h = omega arith
term_length (terms.Time point) h = omega (arith, time_length point)
term_length (terms.Text text) h = omega (arith, (short_text text h).not_above)
term_length terms.Ctime h = omega arith
term_length (terms.Param n) h = omega arith
term_length (terms.Bound n) h = omega arith

terms_length : (ts : List Term) → AllByRecursion IsSpellable ts → length (flat_map term_spelling ts) ≤ 130 * length ts
terms_length [] h = omega arith
terms_length (t ∷ ts) h = omega (arith, term_length t h.0, terms_length ts h.1, length-append (term_spelling t) (flat_map term_spelling ts))

-- ---- formulas

state_length : (s : StatePred) → AllByRecursion IsSpellable (terms_of_state s) → length (state_spelling s) ≤ 391
unfolding state_spelling
state_length (Owner file owner) h = omega (arith, term_length file h.0, term_length owner h.1.0, length-append (term_spelling file) (term_spelling owner))
state_length (HasXattr file name value) h =
    omega (
      arith,
      term_length file h.0,
      term_length name h.1.0,
      term_length value h.1.1.0,
      length-append (term_spelling file) (term_spelling name ++ term_spelling value),
      length-append (term_spelling name) (term_spelling value),
    )
state_length (InDir file directory) h = omega (arith, term_length file h.0, term_length directory h.1.0, length-append (term_spelling file) (term_spelling directory))

state_nodes : (s : StatePred) → 3 ≤ 1 + length (terms_of_state s)
state_nodes (Owner file owner) = omega arith
state_nodes (HasXattr file name value) = omega arith
state_nodes (InDir file directory) = omega arith

two_parts : (tag : ℕ) (first second : List ℕ) (nodes others : ℕ) → length first ≤ 263 * nodes → length second ≤ 263 * others → length (tag ∷ (first ++ second)) ≤ 263 * (1 + nodes + others)
two_parts tag first second nodes others short shorter = omega (arith, length-append first second, short, shorter)

formula_length : (f : FormulaView) → AreNamed f → AllTerms IsSpellable f → length (formula_spelling f) ≤ 263 * size f
unfolding formula_spelling
formula_length (atom name ts) named spelled =
    omega (arith, (short_predicate name named).not_above, terms_length ts spelled, length-append (with_length name) (length ts ∷ flat_map term_spelling ts))
formula_length (compare c) named spelled = omega (arith, term_length c.low spelled.0, term_length c.high spelled.1, length-append (term_spelling c.low) (term_spelling c.high))
formula_length (state s) named spelled = omega (arith, state_length s spelled, state_nodes s)
formula_length (both a b) named spelled = two_parts 21 (formula_spelling a) (formula_spelling b) (size a) (size b) (formula_length a named.0 spelled.0) (formula_length b named.1 spelled.1)
formula_length (either a b) named spelled = two_parts 22 (formula_spelling a) (formula_spelling b) (size a) (size b) (formula_length a named.0 spelled.0) (formula_length b named.1 spelled.1)
formula_length (implies a b) named spelled = two_parts 23 (formula_spelling a) (formula_spelling b) (size a) (size b) (formula_length a named.0 spelled.0) (formula_length b named.1 spelled.1)
formula_length truth named spelled = omega arith
formula_length falsity named spelled = omega arith
formula_length (forall_ s a) named spelled = omega (arith, formula_length a named spelled)
formula_length (exists_ s a) named spelled = omega (arith, formula_length a named spelled)
formula_length (says k a) named spelled = omega (arith, term_length k spelled.0, formula_length a named spelled.1, length-append (term_spelling k) (formula_spelling a))
formula_length (on a u v) named spelled =
    omega (
      arith,
      formula_length a named spelled.0,
      term_length u spelled.1.0,
      term_length v spelled.1.1,
      length-append (formula_spelling a) (term_spelling u ++ term_spelling v),
      length-append (term_spelling u) (term_spelling v),
    )

pub statement_length : (s : StatementView) → IsSpellableStatement s → length (statement_spelling s) ≤ 135000
unfolding statement_spelling
statement_length s is =
    omega (
      arith,
      (short_name s.who is.who).not_above,
      formula_length s.body is.body.names is.body.terms,
      is.body.within_limits.nodes,
      time_length s.from,
      time_length s.to,
      length-append (with_length s.who) (formula_spelling s.body ++ (time_spelling s.from ++ time_spelling s.to)),
      length-append (formula_spelling s.body) (time_spelling s.from ++ time_spelling s.to),
      length-append (time_spelling s.from) (time_spelling s.to),
    )

-- ---- grants

condition_length : (c : Constraint) → IsSpellableTime c → length (time_condition_spelling c) ≤ 260
unfolding time_condition_spelling
condition_length c is = omega (arith, term_length c.low is.low, term_length c.high is.high, length-append (term_spelling c.low) (term_spelling c.high))

conditions_length : (cs : List Constraint) → AllByRecursion IsSpellableTime cs → length (flat_map time_condition_spelling cs) ≤ 391 * length cs
conditions_length [] h = omega arith
conditions_length (c ∷ cs) h = omega (arith, condition_length c h.0, conditions_length cs h.1, length-append (time_condition_spelling c) (flat_map time_condition_spelling cs))

states_length : (ss : List StatePred) → AllByRecursion IsSpellableState ss → length (flat_map state_spelling ss) ≤ 391 * length ss
states_length [] h = omega arith
states_length (s ∷ ss) h = omega (arith, state_length s h.0, states_length ss h.1, length-append (state_spelling s) (flat_map state_spelling ss))

pub numbers_length : (spelling : ℕ → List ℕ) → ((n : ℕ) → length (spelling n) ≡ 4) → (ns : List ℕ) → length (flat_map spelling ns) ≡ 4 * length ns
numbers_length spelling each [] = omega arith
numbers_length spelling each (n ∷ ns) = omega (arith, each n, numbers_length spelling each ns, length-append (spelling n) (flat_map spelling ns))

names_length : (ns : List ℕ) → length ns ≤ 64 → length (names_spelling ns) ≤ 257
names_length [] few = omega arith
names_length (n ∷ ns) few = omega (arith, few, numbers_length name_spelling (λ m. omega arith) (n ∷ ns))

few_names : (ns : List ℕ) → MayName ns → length ns ≤ 64
few_names ns may = ⊎_elim (λ none. none_few (ap length none)) (λ named. named.few) may
  where
    none_few : length ns ≡ 0 → length ns ≤ 64
    none_few none = omega (arith, none)

goal_length : (goal : Goal) → IsSpellableGoal goal → length (goal_spelling goal) ≤ 42
unfolding goal_spelling
goal_length goal is =
    let number : List ℕ = to_be_bytes w64 goal.file.0 in
    let code : List ℕ = permission_code goal.perm ∷ [] in
    let eight : length number ≡ 8 = omega arith in
    omega (arith, (short_name goal.who is.who).not_above, eight, length-append (with_length goal.who) (number ++ code), length-append number code)

-- the conditions, and the statements that are named
parts_length : (times states names : List ℕ) (few many : ℕ) → length times ≤ 1 + 391 * few → length states ≤ 1 + 391 * many → length names ≤ 257 → few + many ≤ 64 → length (times ++ (states ++ names)) ≤ 25283
parts_length times states names few many one two three most = omega (arith, one, two, three, most, length-append times (states ++ names), length-append states names)

times_list : (cs : List Constraint) → AllByRecursion IsSpellableTime cs → length (list_spelling time_condition_spelling cs) ≤ 1 + 391 * length cs
times_list cs h = omega (arith, conditions_length cs h)

states_list : (ss : List StatePred) → AllByRecursion IsSpellableState ss → length (list_spelling state_spelling ss) ≤ 1 + 391 * length ss
states_list ss h = omega (arith, states_length ss h)

with_head : (version : ℕ) (goal parts : List ℕ) → length goal ≤ 42 → length parts ≤ 25283 → length (71 ∷ version ∷ (goal ++ parts)) ≤ 26000
with_head version goal parts short few = omega (arith, short, few, length-append goal parts)

pub grant_length : (g : GrantView) → IsSpellableGrant g → length (grant_spelling g) ≤ 26000
unfolding grant_spelling
grant_length g is =
    with_head (version_of g.cited) (goal_spelling g.goal) (parts_spelling g) (goal_length g.goal is.goal)
    (parts_length (list_spelling time_condition_spelling g.times) (list_spelling state_spelling g.states) (names_spelling g.cited) (length g.times) (length g.states) (times_list g.times is.times) (states_list g.states is.states)
    (names_length g.cited (few_names g.cited is.grant.names)) is.grant.count)

procap_length : (p : Procap) → IsSpellableProcap p → length (procap_spelling p) ≤ 26032
unfolding procap_spelling
procap_length p is = omega (arith, grant_length p.grant is.grant, is.length_of_tag, length-append (grant_spelling p.grant) p.tag)

pub procaps_length : (ps : List Procap) → AllByRecursion IsSpellableProcap ps → length (flat_map procap_spelling ps) ≤ 26032 * length ps
procaps_length [] h = omega arith
procaps_length (p ∷ ps) h = omega (arith, procap_length p h.0, procaps_length ps h.1, length-append (procap_spelling p) (flat_map procap_spelling ps))
