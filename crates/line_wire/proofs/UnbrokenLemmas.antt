-- Numbers, words and conditions hold no byte that ends a line, if the names and texts in them do not.
use Rattle.std.proofs.Common.{◌≡◌, ℕ, ℤ, pos, negsuc, zero, suc, ◌-◌, ◌/◌, ◌%◌, ◌<◌, List, [], ◌∷◌, ◌++◌, Bool, true, false, not, IsTrue, length, map, codes, slice_index, refl, subst, arith}
use Rattle.std.specs.Prelude.{◌==◌, if◌then◌else◌}
use Rattle.std.specs.Fmt.{decimal, signed_decimal, digits, digits_onto, digit_glyph}
use Rattle.std.specs.List.{list_all, AllByRecursion}
use Rattle.std.proofs.lemmas.Bool.{and_parts, and_from, false≢true, eqb-true}
use Rattle.hex.specs.Hex.{encode_with, encode_lower, lower_digits}
use Rattle.bl_syntax.specs.declared.terms.Perm.{Perm}
use Rattle.bl_syntax.specs.declared.terms.Perm.TheVariants as permissions
use Rattle.bl_syntax.specs.declared.terms.TimePoint.{TimePoint}
use Rattle.bl_syntax.specs.declared.terms.TimePoint.TheVariants as times
use Rattle.bl_syntax.specs.declared.terms.Term.{Term}
use Rattle.bl_syntax.specs.declared.terms.Term.TheVariants as terms
use Rattle.bl_syntax.specs.declared.terms.Constraint.{Constraint}
use Rattle.bl_syntax.specs.declared.terms.StatePred.{StatePred}
use Rattle.bl_syntax.specs.declared.terms.StatePred.TheVariants.{Owner, HasXattr, InDir}
use Rattle.bl_syntax.specs.Grant.{GrantView}
use Rattle.bl_tokens.specs.declared.faults.TextFault.{TextFault}
use Rattle.bl_tokens.specs.declared.faults.TextFault.TheVariants as texts
use Rattle.bl_text.specs.Printed.{time_text, permission_text, term_text, constraint_text, state_text}
use Rattle.line_text.specs.HexWord.{hex_word}
use Rattle.proof_verifier.specs.declared.fault.CheckFault.{CheckFault}
use Rattle.proof_verifier.specs.declared.fault.CheckFault.TheVariants as faults
use Rattle.procap.specs.Procap.{procap_spelling}
use Rattle.file_world.specs.declared.reply.NamedNode.{NamedNode}
use Rattle.file_world.specs.declared.reply.TreeReply.{TreeReply}
use Rattle.file_world.specs.declared.reply.TreeReply.TheVariants as trees
use Rattle.file_world.specs.declared.reply.MetaReply.{MetaReply}
use Rattle.file_world.specs.declared.reply.MetaReply.TheVariants as metas
use Rattle.file_world.specs.declared.reply.OpReply.{OpReply}
use Rattle.file_world.specs.declared.reply.OpReply.TheVariants.{Tree, Meta}
use Rattle.line_forms.specs.declared.fault.LineFault.{LineFault}
use Rattle.line_forms.specs.declared.fault.LineFault.TheVariants as lines
use Rattle.access_history.specs.declared.reply.Rejection.{Rejection}
use Rattle.access_history.specs.declared.reply.Rejection.TheVariants.{BadSignature, RegistryFull, Duplicate}
use Rattle.access_history.specs.declared.reply.DenialCause.{DenialCause}
use Rattle.access_history.specs.declared.reply.DenialCause.TheVariants as causes
use Rattle.access_history.specs.declared.reply.StepReply.{StepReply}
use Rattle.access_history.specs.declared.reply.StepReply.TheVariants as steps
use Rattle.line_wire.specs.declared.reply.LineReply.{LineReply}
use Rattle.line_wire.specs.declared.reply.LineReply.TheVariants as replies
use Rattle.line_wire.specs.CheckedText.{listed_text, conditions_of, checked_text}
use Rattle.line_wire.specs.FaultText.{unproved_text, bad_text_text, fault_text}
use Rattle.line_wire.specs.GateText.{cause_text, refusal_number, rejection_text}
use Rattle.line_wire.specs.OperationText.{named_text, names_text, tree_text, attribute_text, operation_text}
use Rattle.line_wire.specs.ReplyText.{step_text, reply_text}
use Rattle.line_wire.specs.Unbroken.{IsUnbroken, IsUnbrokenTerm, IsUnbrokenConstraint, IsUnbrokenState, IsUnbrokenGrant, IsUnbrokenCause, IsUnbrokenNode, IsUnbrokenTree, IsUnbrokenAttribute, IsUnbrokenOperation, IsUnbrokenStep, IsUnbrokenReply}

-- a byte that is none, by its test
is_other : (byte : ℕ) (test : Bool) → (byte == 10) ≡ test → (byte ≡ 10 → ⊥) → IsTrue (not test)
is_other byte true is other = absurd (other (eqb-true byte 10 is))
is_other byte false is other = refl

cons_unbroken : (byte : ℕ) (bytes : List ℕ) → (byte ≡ 10 → ⊥) → IsUnbroken bytes → IsUnbroken (byte ∷ bytes)
cons_unbroken byte bytes other h = and_from (not (byte == 10)) (list_all (λ b. not (b == 10)) bytes) (is_other byte (byte == 10) refl other) h

append_unbroken : (front rest : List ℕ) → IsUnbroken front → IsUnbroken rest → IsUnbroken (front ++ rest)
append_unbroken [] rest h k = k
append_unbroken (byte ∷ bytes) rest h k =
    let parts = and_parts (not (byte == 10)) (list_all (λ b. not (b == 10)) bytes) h in
    and_from (not (byte == 10)) (list_all (λ b. not (b == 10)) (bytes ++ rest)) parts.0 (append_unbroken bytes rest parts.1 k)

-- ---- numbers

digit_unbroken : (d : ℕ) → d < 10 → digit_glyph false d ≡ 10 → ⊥
digit_unbroken d small same = grind (arith)

by_end : (done : Bool) (x y : List ℕ) → IsUnbroken x → IsUnbroken y → IsUnbroken (if done then x else y)
by_end true x y h k = h
by_end false x y h k = k

digits_unbroken : (k n : ℕ) (acc : List ℕ) → IsUnbroken acc → IsUnbroken (digits_onto k 10 false n acc)
digits_unbroken zero n acc h = h
digits_unbroken (suc k) n acc h =
    let here : IsUnbroken (digit_glyph false (n % 10) ∷ acc) = cons_unbroken (digit_glyph false (n % 10)) acc (digit_unbroken (n % 10) (omega arith)) h in
    by_end (n / 10 == 0) (digit_glyph false (n % 10) ∷ acc) (digits_onto k 10 false (n / 10) (digit_glyph false (n % 10) ∷ acc)) here (digits_unbroken k (n / 10) (digit_glyph false (n % 10) ∷ acc) here)

decimal_unbroken : (n : ℕ) → IsUnbroken (decimal n)
unfolding digits
decimal_unbroken n = digits_unbroken 64 n [] refl

signed_unbroken : (z : ℤ) → IsUnbroken (signed_decimal z)
signed_unbroken (pos n) = decimal_unbroken n
signed_unbroken (negsuc n) = cons_unbroken 45 (decimal (suc n)) (λ same. absurd (omega (arith, same))) (decimal_unbroken (suc n))

-- a number, and what stands after it
counted_unbroken : (n : ℕ) (rest : List ℕ) → IsUnbroken rest → IsUnbroken (decimal n ++ rest)
counted_unbroken n rest h = append_unbroken (decimal n) rest (decimal_unbroken n) h

-- ---- bytes in hexadecimal

at_unbroken : (bytes : List ℕ) (k : ℕ) → IsUnbroken bytes → slice_index bytes k ≡ 10 → ⊥
at_unbroken [] k h same = absurd (omega (arith, same))
at_unbroken (byte ∷ bytes) zero h same =
    let parts = and_parts (not (byte == 10)) (list_all (λ b. not (b == 10)) bytes) h in
    false≢true (subst (λ b. IsTrue (not (b == 10))) same parts.0)
at_unbroken (byte ∷ bytes) (suc k) h same = at_unbroken bytes k (and_parts (not (byte == 10)) (list_all (λ b. not (b == 10)) bytes) h).1 same

glyph_unbroken : (k : ℕ) → slice_index lower_digits k ≡ 10 → ⊥
glyph_unbroken k same = at_unbroken lower_digits k refl same

encoded_unbroken : (bytes : List ℕ) → IsUnbroken (encode_lower bytes)
unfolding encode_with
encoded_unbroken [] = refl
encoded_unbroken (byte ∷ bytes) =
    cons_unbroken (slice_index lower_digits (byte / 16)) (slice_index lower_digits (byte % 16) ∷ encode_lower bytes) (glyph_unbroken (byte / 16))
    (cons_unbroken (slice_index lower_digits (byte % 16)) (encode_lower bytes) (glyph_unbroken (byte % 16)) (encoded_unbroken bytes))

hex_unbroken : (bytes : List ℕ) → IsUnbroken (hex_word bytes)
hex_unbroken [] = refl
hex_unbroken (byte ∷ bytes) = encoded_unbroken (byte ∷ bytes)

-- ---- conditions

time_unbroken : (point : TimePoint) → IsUnbroken (time_text point)
time_unbroken times.NegInf = refl
time_unbroken (times.At second) = signed_unbroken second
time_unbroken times.PosInf = refl

permission_unbroken : (permission : Perm) → IsUnbroken (permission_text permission)
permission_unbroken permissions.Read = refl
permission_unbroken permissions.Write = refl
permission_unbroken permissions.Execute = refl
permission_unbroken permissions.Identity = refl
permission_unbroken permissions.Govern = refl

term_unbroken : (t : Term) → IsUnbrokenTerm t → IsUnbroken (term_text 0 t)
term_unbroken (terms.Prin name) h = h
term_unbroken (terms.File number) h = decimal_unbroken number.0
term_unbroken (terms.Perm permission) h = permission_unbroken permission
term_unbroken (terms.Time point) h = time_unbroken point
term_unbroken (terms.Text constant) h = append_unbroken constant (codes "\"") h refl
term_unbroken terms.Ctime h = refl
term_unbroken (terms.Param n) h = decimal_unbroken n
term_unbroken (terms.Bound n) h = decimal_unbroken (0 - n - 1)

constraint_unbroken : (c : Constraint) → IsUnbrokenConstraint c → IsUnbroken (constraint_text 0 c)
constraint_unbroken c h = append_unbroken (term_text 0 c.low) (codes " <= " ++ term_text 0 c.high) (term_unbroken c.low h.0) (term_unbroken c.high h.1)

-- a term, and what stands after it
then_unbroken : (t : Term) (rest : List ℕ) → IsUnbrokenTerm t → IsUnbroken rest → IsUnbroken (term_text 0 t ++ rest)
then_unbroken t rest h k = append_unbroken (term_text 0 t) rest (term_unbroken t h) k

state_unbroken : (s : StatePred) → IsUnbrokenState s → IsUnbroken (state_text 0 s)
state_unbroken (Owner file owner) h = then_unbroken file (codes "," ++ (term_text 0 owner ++ codes ")")) h.0 (then_unbroken owner (codes ")") h.1 refl)
state_unbroken (HasXattr file name value) h =
    then_unbroken file (codes "," ++ (term_text 0 name ++ (codes "," ++ (term_text 0 value ++ codes ")")))) h.0
    (then_unbroken name (codes "," ++ (term_text 0 value ++ codes ")")) h.1 (then_unbroken value (codes ")") h.2 refl))
state_unbroken (InDir file directory) h = then_unbroken file (codes "," ++ (term_text 0 directory ++ codes ")")) h.0 (then_unbroken directory (codes ")") h.1 refl)

listed_unbroken : (lead : List ℕ) (items : List (List ℕ)) → IsUnbroken lead → AllByRecursion IsUnbroken items → IsUnbroken (listed_text lead items)
listed_unbroken lead [] h k = refl
listed_unbroken lead (first ∷ others) h k =
    append_unbroken lead (first ++ listed_text (codes "; ") others) h (append_unbroken first (listed_text (codes "; ") others) k.0 (listed_unbroken (codes "; ") others refl k.1))

states_unbroken : (states : List StatePred) → AllByRecursion IsUnbrokenState states → AllByRecursion IsUnbroken (map (state_text 0) states)
states_unbroken [] h = tt
states_unbroken (s ∷ states) h = (state_unbroken s h.0, states_unbroken states h.1)

conditions_unbroken : (times : List Constraint) (states : List StatePred) → AllByRecursion IsUnbrokenConstraint times → AllByRecursion IsUnbrokenState states → AllByRecursion IsUnbroken (map (constraint_text 0) times ++ map (state_text 0) states)
conditions_unbroken [] states h k = states_unbroken states k
conditions_unbroken (c ∷ times) states h k = (constraint_unbroken c h.0, conditions_unbroken times states h.1 k)

checked_unbroken : (g : GrantView) → IsUnbrokenGrant g → IsUnbroken (checked_text g)
checked_unbroken g h =
    counted_unbroken (length g.times) (codes " state " ++ (decimal (length g.states) ++ listed_text (codes " ") (conditions_of g)))
    (counted_unbroken (length g.states) (listed_text (codes " ") (conditions_of g)) (listed_unbroken (codes " ") (conditions_of g) refl (conditions_unbroken g.times g.states h.0 h.1)))

-- ---- what the gate denies, refuses and rejects

cause_unbroken : (cause : DenialCause) → IsUnbrokenCause cause → IsUnbroken (cause_text cause)
cause_unbroken causes.Seal h = refl
cause_unbroken causes.Principal h = refl
cause_unbroken causes.File h = refl
cause_unbroken causes.Permission h = refl
cause_unbroken (causes.Time place c) h = counted_unbroken place (codes " " ++ constraint_text 0 c) (constraint_unbroken c h)
cause_unbroken (causes.State place s) h = counted_unbroken place (codes " " ++ state_text 0 s) (state_unbroken s h)
cause_unbroken (causes.Withdrawn number) h = decimal_unbroken number

rejection_unbroken : (rejection : Rejection) → IsUnbroken (rejection_text rejection)
rejection_unbroken BadSignature = refl
rejection_unbroken RegistryFull = refl
rejection_unbroken (Duplicate number) = decimal_unbroken number

-- ---- what operations return

names_unbroken : (names : List NamedNode) → AllByRecursion IsUnbrokenNode names → IsUnbroken (names_text names)
names_unbroken [] h = refl
names_unbroken (named ∷ names) h =
    append_unbroken (named_text named) (names_text names) (append_unbroken named.name (codes "#" ++ decimal named.node.0) h.0 (decimal_unbroken named.node.0)) (names_unbroken names h.1)

tree_unbroken : (reply : TreeReply) → IsUnbrokenTree reply → IsUnbroken (tree_text reply)
tree_unbroken trees.Done h = refl
tree_unbroken (trees.Bytes bytes) h = hex_unbroken bytes
tree_unbroken (trees.Names names) h = names_unbroken names h
tree_unbroken (trees.Node node) h = decimal_unbroken node.0

attribute_unbroken : (reply : MetaReply) → IsUnbrokenAttribute reply → IsUnbroken (attribute_text reply)
attribute_unbroken metas.Done h = refl
attribute_unbroken (metas.Text value) h = append_unbroken value (codes "\"") h refl

operation_unbroken : (reply : OpReply) → IsUnbrokenOperation reply → IsUnbroken (operation_text reply)
operation_unbroken (Tree reply) h = tree_unbroken reply h
operation_unbroken (Meta reply) h = attribute_unbroken reply h

-- ---- faults

placed_unbroken : (number place : ℕ) → IsUnbroken (decimal number ++ (codes " " ++ decimal place))
placed_unbroken number place = counted_unbroken number (codes " " ++ decimal place) (decimal_unbroken place)

unproved_unbroken : (fault : CheckFault) → IsUnbroken (unproved_text fault)
unproved_unbroken (faults.NoHypothesis node) = placed_unbroken 1 node
unproved_unbroken (faults.WrongShape node) = placed_unbroken 2 node
unproved_unbroken (faults.NotEntailed node) = placed_unbroken 3 node
unproved_unbroken (faults.NotInState node) = placed_unbroken 4 node
unproved_unbroken (faults.ViewTooWeak node) = placed_unbroken 5 node
unproved_unbroken (faults.BadTerm node) = placed_unbroken 6 node
unproved_unbroken (faults.TooManyConditions node) = placed_unbroken 7 node
unproved_unbroken faults.NoMemory = refl

text_unbroken : (fault : TextFault) → IsUnbroken (bad_text_text fault)
text_unbroken (texts.Unexpected at) = placed_unbroken 1 at
text_unbroken (texts.UnknownName at) = placed_unbroken 2 at
text_unbroken (texts.BadDate at) = placed_unbroken 3 at
text_unbroken (texts.Sort at) = placed_unbroken 4 at
text_unbroken (texts.TooLarge at) = placed_unbroken 5 at
text_unbroken texts.NoMemory = refl

fault_unbroken : (fault : LineFault) → IsUnbroken (fault_text fault)
fault_unbroken (lines.BadWord place) = decimal_unbroken place
fault_unbroken lines.BadCount = refl
fault_unbroken (lines.BadText fault) = text_unbroken fault
fault_unbroken lines.NoMemory = refl

-- ---- replies

step_unbroken : (step : StepReply) → IsUnbrokenStep step → IsUnbroken (step_text step)
step_unbroken (steps.Statement number) h = decimal_unbroken number
step_unbroken steps.Withdrawn h = refl
step_unbroken (steps.Issue number times states) h =
    counted_unbroken number (codes " time " ++ (decimal times ++ (codes " state " ++ decimal states))) (counted_unbroken times (codes " state " ++ decimal states) (decimal_unbroken states))
step_unbroken (steps.Procap p) h = hex_unbroken (procap_spelling p)
step_unbroken (steps.Operation reply) h = operation_unbroken reply h
step_unbroken (steps.Denied denial) h =
    counted_unbroken denial.need (codes " " ++ (cause_text denial.cause ++ (codes " at " ++ decimal denial.at)))
    (append_unbroken (cause_text denial.cause) (codes " at " ++ decimal denial.at) (cause_unbroken denial.cause h) (decimal_unbroken denial.at))
step_unbroken (steps.Refused refusal at) h = counted_unbroken (refusal_number refusal) (codes " at " ++ decimal at) (decimal_unbroken at)
step_unbroken (steps.Rejected rejection) h = rejection_unbroken rejection
step_unbroken (steps.Absent number) h = decimal_unbroken number

pub reply_unbroken : (reply : LineReply) → IsUnbrokenReply reply → IsUnbroken (reply_text reply)
reply_unbroken replies.Done h = refl
reply_unbroken (replies.Step step) h = step_unbroken step h
reply_unbroken (replies.Checked g) h = checked_unbroken g h
reply_unbroken (replies.Unproved fault) h = unproved_unbroken fault
reply_unbroken (replies.Faulty fault) h = fault_unbroken fault
reply_unbroken replies.TooLong h = refl
reply_unbroken replies.NotLoggedIn h = refl
reply_unbroken replies.Checkpointed h = refl
reply_unbroken replies.Full h = refl
reply_unbroken replies.Stopped h = refl
reply_unbroken replies.NoMemory h = refl
