-- Names and texts that are in their grammars hold no byte that ends a line; nor does what has a spelling.
use Rattle.std.proofs.Common.{◌≡◌, ℕ, Bool, true, false, ◌&&◌, not, IsTrue, List, [], ◌∷◌, length, refl, subst}
use Rattle.std.specs.Prelude.{◌==◌, nat_le, codes}
use Rattle.std.specs.List.{list_all, AllByRecursion}
use Rattle.std.specs.Str.{bytes_eq}
use Rattle.std.proofs.lemmas.Bool.{and_parts, and_from, false≢true, eqb-true}
use Rattle.bl_syntax.specs.declared.terms.Term.{Term}
use Rattle.bl_syntax.specs.declared.terms.Term.TheVariants.{Prin, File, Perm, Time, Text, Ctime, Param, Bound}
use Rattle.bl_syntax.specs.declared.terms.Constraint.{Constraint}
use Rattle.bl_syntax.specs.declared.terms.StatePred.{StatePred}
use Rattle.bl_syntax.specs.declared.terms.StatePred.TheVariants.{Owner, HasXattr, InDir}
use Rattle.bl_syntax.specs.Formula.{FormulaView, atom, compare, state, both, either, implies, truth, falsity, forall_, exists_, says, on}
use Rattle.bl_syntax.specs.FormulaSpelling.{IsSpellableStatement}
use Rattle.bl_syntax.specs.Grant.{GrantView}
use Rattle.bl_syntax.specs.Names.{is_lower_case, is_name_byte, is_identifier, reserved_words, is_among, is_principal_name, is_text_byte, is_text}
use Rattle.bl_syntax.specs.Spelling.{IsSpellable}
use Rattle.bl_syntax.specs.Statement.{StatementView, AllTerms}
use Rattle.bl_syntax.specs.WellSorted.{terms_of_state}
use Rattle.proof_term.specs.Proof.{ProofView, init, cons_r, inter_r, and_r, or_r1, or_r2, true_r, imp_r, forall_r, exists_r, says_r, at_r, cons_l, inter_l, and_l, or_l, false_l, imp_l, forall_l, exists_l, says_l, claim, at_l}
use Rattle.proof_term.specs.ProofSpelling.{NamesSpellable, IsSpellableProof}
use Rattle.procap.specs.GrantSpelling.{IsSpellableTime, IsSpellableState, IsSpellableGrant}
use Rattle.file_world.specs.FileNames.{is_node_name_byte, is_node_name}
use Rattle.file_world.specs.Limits.{longest_name}
use Rattle.access_history.proofs.ListLemmas.{AllByRecursion-weaker}
use Rattle.line_wire.specs.Unbroken.{IsUnbroken, IsUnbrokenTerm, IsUnbrokenConstraint, IsUnbrokenState, IsUnbrokenGrant}
use Rattle.reply_laws.specs.Brought.{IsUnbrokenStatement, HasUnbrokenTerms}

-- ---- bytes

-- a byte that is none, by its test
other_byte : (byte : ℕ) (test : Bool) → (byte == 10) ≡ test → (byte ≡ 10 → ⊥) → IsTrue (not test)
other_byte byte true is other = absurd (other (eqb-true byte 10 is))
other_byte byte false is other = refl

-- bytes that pass a test which the end of a line does not pass
tested_unbroken : (test : ℕ → Bool) → (IsTrue (test 10) → ⊥) → (bytes : List ℕ) → IsTrue (list_all test bytes) → IsUnbroken bytes
tested_unbroken test none [] h = refl
tested_unbroken test none (byte ∷ bytes) h =
    let parts = and_parts (test byte) (list_all test bytes) h in
    and_from (not (byte == 10)) (list_all (λ b. not (b == 10)) bytes)
    (other_byte byte (byte == 10) refl (λ same. none (subst (λ (b : ℕ). IsTrue (test b)) same parts.0)))
    (tested_unbroken test none bytes parts.1)

identifier_unbroken : (name : List ℕ) → IsTrue (is_identifier name) → IsUnbroken name
identifier_unbroken [] h = refl
identifier_unbroken (first ∷ others) h =
    let parts = and_parts (is_lower_case first) (list_all is_name_byte others) (and_parts (is_lower_case first && list_all is_name_byte others) (nat_le (length others) 31) h).0 in
    and_from (not (first == 10)) (list_all (λ b. not (b == 10)) others)
    (other_byte first (first == 10) refl (λ same. false≢true (subst (λ (b : ℕ). IsTrue (is_lower_case b)) same parts.0)))
    (tested_unbroken is_name_byte false≢true others parts.1)

pub principal_unbroken : (name : List ℕ) → IsTrue (is_principal_name name) → IsUnbroken name
principal_unbroken name h = identifier_unbroken name (and_parts (is_identifier name) (not (is_among reserved_words name)) h).0

pub text_unbroken : (text : List ℕ) → IsTrue (is_text text) → IsUnbroken text
text_unbroken text h = tested_unbroken is_text_byte false≢true text (and_parts (list_all is_text_byte text) (nat_le (length text) 128) h).0

pub node_name_unbroken : (name : List ℕ) → IsTrue (is_node_name name) → IsUnbroken name
unfolding is_node_name
node_name_unbroken name h =
    let no_dots = and_parts (nat_le 1 (length name) && nat_le (length name) longest_name && list_all is_node_name_byte name && not (bytes_eq name (codes "."))) (not (bytes_eq name (codes ".."))) h in
    let no_dot = and_parts (nat_le 1 (length name) && nat_le (length name) longest_name && list_all is_node_name_byte name) (not (bytes_eq name (codes "."))) no_dots.0 in
    tested_unbroken is_node_name_byte false≢true name (and_parts (nat_le 1 (length name) && nat_le (length name) longest_name) (list_all is_node_name_byte name) no_dot.0).1

-- ---- terms

pub term_unbroken : (t : Term) → IsSpellable t → IsUnbrokenTerm t
term_unbroken (Prin name) h = principal_unbroken name h
term_unbroken (File node) h = tt
term_unbroken (Perm permission) h = tt
term_unbroken (Time point) h = tt
term_unbroken (Text constant) h = text_unbroken constant h
term_unbroken Ctime h = tt
term_unbroken (Param n) h = tt
term_unbroken (Bound n) h = tt

terms_unbroken : (ts : List Term) → AllByRecursion IsSpellable ts → AllByRecursion IsUnbrokenTerm ts
terms_unbroken ts h = AllByRecursion-weaker IsSpellable IsUnbrokenTerm ts term_unbroken h

formula_unbroken : (f : FormulaView) → AllTerms IsSpellable f → AllTerms IsUnbrokenTerm f
formula_unbroken (atom name terms) h = terms_unbroken terms h
formula_unbroken (compare c) h = (term_unbroken c.low h.0, term_unbroken c.high h.1)
formula_unbroken (state s) h = terms_unbroken (terms_of_state s) h
formula_unbroken (both a b) h = (formula_unbroken a h.0, formula_unbroken b h.1)
formula_unbroken (either a b) h = (formula_unbroken a h.0, formula_unbroken b h.1)
formula_unbroken (implies a b) h = (formula_unbroken a h.0, formula_unbroken b h.1)
formula_unbroken truth h = tt
formula_unbroken falsity h = tt
formula_unbroken (forall_ s a) h = formula_unbroken a h
formula_unbroken (exists_ s a) h = formula_unbroken a h
formula_unbroken (says k a) h = (term_unbroken k h.0, formula_unbroken a h.1)
formula_unbroken (on a u v) h = (formula_unbroken a h.0, (term_unbroken u h.1.0, term_unbroken v h.1.1))

pub statement_unbroken : (s : StatementView) → IsSpellableStatement s → IsUnbrokenStatement s
statement_unbroken s is = record { who = principal_unbroken s.who is.who; terms = formula_unbroken s.body is.body.terms }

-- ---- proofs

names_unbroken : (d : ProofView) → NamesSpellable d → HasUnbrokenTerms d
names_unbroken (init h) is = tt
names_unbroken cons_r is = tt
names_unbroken inter_r is = tt
names_unbroken (and_r p q) is = (names_unbroken p is.1.0, names_unbroken q is.1.1)
names_unbroken (or_r1 p) is = names_unbroken p is.1
names_unbroken (or_r2 p) is = names_unbroken p is.1
names_unbroken true_r is = tt
names_unbroken (imp_r p) is = names_unbroken p is.1
names_unbroken (forall_r p) is = names_unbroken p is.1
names_unbroken (exists_r t p) is = (term_unbroken t is.0, names_unbroken p is.1)
names_unbroken (says_r p) is = names_unbroken p is.1
names_unbroken (at_r p) is = names_unbroken p is.1
names_unbroken (cons_l h p) is = names_unbroken p is.1
names_unbroken (inter_l h p) is = names_unbroken p is.1
names_unbroken (and_l h p) is = names_unbroken p is.1
names_unbroken (or_l h p q) is = (names_unbroken p is.1.0, names_unbroken q is.1.1)
names_unbroken (false_l h) is = tt
names_unbroken (imp_l h t1 t2 p q) is = ((term_unbroken t1 is.0.1.0, term_unbroken t2 is.0.1.1), (names_unbroken p is.1.0, names_unbroken q is.1.1))
names_unbroken (forall_l h t p) is = (term_unbroken t is.0.1, names_unbroken p is.1)
names_unbroken (exists_l h p) is = names_unbroken p is.1
names_unbroken (says_l h p) is = names_unbroken p is.1
names_unbroken (claim h p) is = names_unbroken p is.1
names_unbroken (at_l h p) is = names_unbroken p is.1

pub proof_unbroken : (d : ProofView) → IsSpellableProof d → HasUnbrokenTerms d
proof_unbroken d is = names_unbroken d is.names

-- ---- grants

constraint_unbroken : (c : Constraint) → IsSpellableTime c → IsUnbrokenConstraint c
constraint_unbroken c is = (term_unbroken c.low is.low, term_unbroken c.high is.high)

-- a predicate on the state, by its terms
pub state_unbroken : (s : StatePred) → AllByRecursion IsUnbrokenTerm (terms_of_state s) → IsUnbrokenState s
state_unbroken (Owner file owner) h = (h.0, h.1.0)
state_unbroken (HasXattr file name value) h = (h.0, h.1.0, h.1.1.0)
state_unbroken (InDir file directory) h = (h.0, h.1.0)

pub grant_unbroken : (g : GrantView) → IsSpellableGrant g → IsUnbrokenGrant g
grant_unbroken g is = (
  AllByRecursion-weaker IsSpellableTime IsUnbrokenConstraint g.times constraint_unbroken is.times,
  AllByRecursion-weaker IsSpellableState IsUnbrokenState g.states (λ s h. state_unbroken s (terms_unbroken (terms_of_state s) h)) is.states,
)
