-- The texts of what turns of this front reply fit the count of an Rerror.
use Rattle.std.proofs.Common.{◌≡◌, ◌≤◌, ◌+◌, inl, inr, ℕ, zero, suc, ℤ, pos, negsuc, Bool, true, false, cond, IsTrue, List, [], ◌∷◌, ◌++◌, length, take, Option, Some, None, refl, sym, subst, arith, length-append, length-take}
use Rattle.std.specs.Prelude.{codes, ◌-◌, ◌/◌, ◌%◌, ◌==◌}
use Rattle.std.proofs.lemmas.Bool.{false≢true}
use Rattle.std.specs.Fmt.{digits, decimal, signed_decimal, digits_onto, digit_glyph}
use Rattle.bl_syntax.specs.declared.terms.NodeId.{NodeId}
use Rattle.bl_syntax.specs.declared.terms.Perm.{Perm}
use Rattle.bl_syntax.specs.declared.terms.Perm.TheVariants as perms
use Rattle.bl_syntax.specs.declared.terms.TimePoint.{TimePoint}
use Rattle.bl_syntax.specs.declared.terms.TimePoint.TheVariants as points
use Rattle.bl_syntax.specs.declared.terms.Term.{Term}
use Rattle.bl_syntax.specs.declared.terms.Term.TheVariants as terms
use Rattle.bl_syntax.specs.declared.terms.Constraint.{Constraint}
use Rattle.bl_syntax.specs.declared.terms.StatePred.{StatePred}
use Rattle.bl_syntax.specs.declared.terms.StatePred.TheVariants as state_preds
use Rattle.bl_syntax.specs.Names.{is_principal_name, is_text}
use Rattle.bl_syntax.proofs.WordLemmas.{short_name, short_text}
use Rattle.bl_text.specs.Printed.{time_text, permission_text, term_text, constraint_text, state_text}
use Rattle.file_world.specs.declared.operation.Op.TheVariants as operations
use Rattle.file_world.specs.declared.refusal.Refusal.{Refusal}
use Rattle.file_world.specs.declared.reply.TreeReply.{TreeReply}
use Rattle.file_world.specs.declared.reply.TreeReply.TheVariants as trees
use Rattle.file_world.specs.declared.reply.OpReply.{OpReply}
use Rattle.file_world.specs.declared.reply.OpReply.TheVariants as replies_of_operations
use Rattle.journal_records.specs.declared.event.Event.{Event}
use Rattle.access_history.specs.declared.request.StepRequest.{StepRequest}
use Rattle.access_history.specs.declared.reply.DenialCause.{DenialCause}
use Rattle.access_history.specs.declared.reply.DenialCause.TheVariants as causes
use Rattle.access_history.specs.declared.reply.Denial.{Denial}
use Rattle.access_history.specs.declared.reply.Rejection.{Rejection}
use Rattle.access_history.specs.declared.reply.Rejection.TheVariants.{BadSignature, RegistryFull, Duplicate}
use Rattle.access_history.specs.declared.reply.StepReply.{StepReply}
use Rattle.access_history.specs.declared.reply.StepReply.TheVariants as step_replies
use Rattle.access_history.specs.Answer.{Answers, unsigned, duplicate, registry_full, registered, not_live, unsigned_withdrawal, withdrawn, moved, issued, denied, refused, acted, not_shown, shown}
use Rattle.access_history.specs.Authority.{Authority}
use Rattle.access_history.specs.Base.{BaseView}
use Rattle.line_wire.specs.GateText.{cause_text, denial_text, refusal_number, refused_text, rejection_text}
use Rattle.line_wire.specs.OperationText.{tree_text}
use Rattle.line_wire.specs.ReplyText.{step_text}
use Rattle.pcfs_store.specs.Entries.{Root, StoreEntry, state_of_entries}
use Rattle.session_history.specs.declared.request.TurnRequest.{TurnRequest}
use Rattle.session_history.specs.declared.reply.TurnReply.{TurnReply}
use Rattle.session_history.specs.Turn.{StorePass, authority_of_root, AnswersTurn, Turn}
use Rattle.session_history.specs.Turn as turns
use Rattle.tree_lock.specs.Seen.{PassView}
use Rattle.shared_store.specs.declared.entry.LockEntry.{LockEntry}
use Rattle.shared_store.specs.Turning.{pass_at}
use Rattle.shared_store.specs.Asking.{HasAsked}
use Rattle.nine_messages.specs.Requests.{IsText}
use Rattle.nine_fids.specs.declared.error.NineError.{NineError}
use Rattle.nine_fids.specs.declared.error.NineError.TheVariants as errors
use Rattle.nine_fids.specs.Errors.{error_text}
use Rattle.nine_messages.specs.Replies.{rerror}
use Rattle.nine_front.specs.Asking.{step_reply_view}
use Rattle.nine_front.specs.Short.{is_operation, IsShortTerm, IsShortState, IsShortCause, HasShortNames, IsShortTree, IsShortStep, IsShortReply, IsShortlyDone, IsShortAct, IsShortTurn}
use Rattle.nine_front.specs.Walked.{MayHaveAsked, MayHaveLooked}

-- ---- names and texts

pub name_few : (name : List ℕ) → IsTrue (is_principal_name name) → length name ≤ 128
name_few name is = let short = short_name name is in omega (arith, short.not_above)

pub text_few : (text : List ℕ) → IsTrue (is_text text) → length text ≤ 128
text_few text is = let short = short_text text is in omega (arith, short.not_above)

-- ---- numbers

digits_few : (k n : ℕ) (acc : List ℕ) → length (digits_onto k 10 false n acc) ≤ k + length acc
digits_few zero n acc = omega arith
digits_few (suc k) n acc =
    let rest = digits_few k (n / 10) (digit_glyph false (n % 10) ∷ acc) in
    one_or_more (n / 10 == 0) (digit_glyph false (n % 10) ∷ acc) (digits_onto k 10 false (n / 10) (digit_glyph false (n % 10) ∷ acc)) (omega arith) (omega (arith, rest))
  where
    one_or_more : (b : Bool) (xs ys : List ℕ) → length xs ≤ suc k + length acc → length ys ≤ suc k + length acc → length (cond b xs ys) ≤ suc k + length acc
    one_or_more true xs ys one more = one
    one_or_more false xs ys one more = more

few_digits : (k n : ℕ) → length (digits_onto k 10 false n []) ≤ k
few_digits k n = omega (arith, digits_few k n [])

-- whatever the number
decimal_few : (n : ℕ) → length (decimal n) ≤ 64
unfolding digits
decimal_few n = few_digits 64 n

signed_few : (z : ℤ) → length (signed_decimal z) ≤ 65
signed_few (pos n) = omega (arith, decimal_few n)
signed_few (negsuc n) = omega (arith, decimal_few (suc n))

-- ---- conditions

time_few : (point : TimePoint) → length (time_text point) ≤ 65
time_few points.NegInf = omega arith
time_few (points.At second) = signed_few second
time_few points.PosInf = omega arith

permission_few : (permission : Perm) → length (permission_text permission) ≤ 8
permission_few perms.Read = omega arith
permission_few perms.Write = omega arith
permission_few perms.Execute = omega arith
permission_few perms.Identity = omega arith
permission_few perms.Govern = omega arith

term_few : (t : Term) → IsShortTerm t → length (term_text 0 t) ≤ 200
term_few (terms.Prin name) short = omega (arith, short)
term_few (terms.File number) short = omega (arith, length-append (codes "#") (decimal number.0), decimal_few number.0)
term_few (terms.Perm permission) short = omega (arith, permission_few permission)
term_few (terms.Time point) short = omega (arith, time_few point)
term_few (terms.Text constant) short =
    omega (arith, short, length-append (codes "\"") (constant ++ codes "\""), length-append constant (codes "\""))
term_few terms.Ctime short = omega arith
term_few (terms.Param n) short = omega (arith, length-append (codes "?") (decimal n), decimal_few n)
term_few (terms.Bound n) short = omega (arith, length-append (codes "X") (decimal (0 - n - 1)), decimal_few (0 - n - 1))

constraint_few : (c : Constraint) → IsShortTerm c.low → IsShortTerm c.high → length (constraint_text 0 c) ≤ 500
constraint_few c low high =
    omega (arith, term_few c.low low, term_few c.high high, length-append (term_text 0 c.low) (codes " <= " ++ term_text 0 c.high), length-append (codes " <= ") (term_text 0 c.high))

-- two terms, or three, within a word, commas and a parenthesis
two_few : (word one other : List ℕ) → length word ≤ 10 → length one ≤ 200 → length other ≤ 200 → length (word ++ (one ++ (codes "," ++ (other ++ codes ")")))) ≤ 1000
two_few word one other w o p =
    omega (arith, length-append word (one ++ (codes "," ++ (other ++ codes ")"))), length-append one (codes "," ++ (other ++ codes ")")), length-append (codes ",") (other ++ codes ")"), length-append other (codes ")"))

three_few : (word one other last : List ℕ) → length word ≤ 10 → length one ≤ 200 → length other ≤ 200 → length last ≤ 200 → length (word ++ (one ++ (codes "," ++ (other ++ (codes "," ++ (last ++ codes ")")))))) ≤ 1000
three_few word one other last w o p l =
    let ends : length (last ++ codes ")") ≡ length last + length (codes ")") = length-append last (codes ")") in
    let comma : length (codes "," ++ (last ++ codes ")")) ≡ length (codes ",") + length (last ++ codes ")") = length-append (codes ",") (last ++ codes ")") in
    let second : length (other ++ (codes "," ++ (last ++ codes ")"))) ≡ length other + length (codes "," ++ (last ++ codes ")")) = length-append other (codes "," ++ (last ++ codes ")")) in
    omega (arith, length-append word (one ++ (codes "," ++ (other ++ (codes "," ++ (last ++ codes ")"))))), length-append one (codes "," ++ (other ++ (codes "," ++ (last ++ codes ")")))), length-append (codes ",") (other ++ (codes "," ++ (last ++ codes ")"))))

state_few : (s : StatePred) → IsShortState s → length (state_text 0 s) ≤ 1000
state_few (state_preds.Owner file owner) short = two_few (codes "owner(") (term_text 0 file) (term_text 0 owner) (omega arith) (term_few file short.0) (term_few owner short.1)
state_few (state_preds.HasXattr file name value) short =
    three_few (codes "has_xattr(") (term_text 0 file) (term_text 0 name) (term_text 0 value) (omega arith) (term_few file short.0) (term_few name short.1.0) (term_few value short.1.1)
state_few (state_preds.InDir file directory) short = two_few (codes "in_dir(") (term_text 0 file) (term_text 0 directory) (omega arith) (term_few file short.0) (term_few directory short.1)

-- a word, a number, a space and a text
placed_few : (word : List ℕ) (place : ℕ) (text : List ℕ) → length word ≤ 10 → length text ≤ 1000 → length (word ++ (decimal place ++ (codes " " ++ text))) ≤ 1100
placed_few word place text w t =
    omega (arith, w, t, decimal_few place, length-append word (decimal place ++ (codes " " ++ text)), length-append (decimal place) (codes " " ++ text), length-append (codes " ") text)

cause_few : (cause : DenialCause) → IsShortCause cause → length (cause_text cause) ≤ 1100
cause_few causes.Seal short = omega arith
cause_few causes.Principal short = omega arith
cause_few causes.File short = omega arith
cause_few causes.Permission short = omega arith
cause_few (causes.Time place c) short = placed_few (codes "time ") place (constraint_text 0 c) (omega arith) (omega (arith, constraint_few c short.0 short.1))
cause_few (causes.State place s) short = placed_few (codes "state ") place (state_text 0 s) (omega arith) (state_few s short)
cause_few (causes.Withdrawn number) short = omega (arith, length-append (codes "withdrawn ") (decimal number), decimal_few number)

-- ---- lines

denial_few : (d : Denial) → IsShortCause d.cause → length (denial_text d) ≤ 2000
denial_few d short =
    omega (
      arith,
      cause_few d.cause short,
      decimal_few d.need,
      decimal_few d.at,
      length-append (codes "denied ") (decimal d.need ++ (codes " " ++ (cause_text d.cause ++ (codes " at " ++ decimal d.at)))),
      length-append (decimal d.need) (codes " " ++ (cause_text d.cause ++ (codes " at " ++ decimal d.at))),
      length-append (codes " ") (cause_text d.cause ++ (codes " at " ++ decimal d.at)),
      length-append (cause_text d.cause) (codes " at " ++ decimal d.at),
      length-append (codes " at ") (decimal d.at),
    )

refused_few : (refusal : Refusal) (at : ℕ) → length (refused_text refusal at) ≤ 2000
refused_few refusal at =
    omega (
      arith,
      decimal_few (refusal_number refusal),
      decimal_few at,
      length-append (codes "refused ") (decimal (refusal_number refusal) ++ (codes " at " ++ decimal at)),
      length-append (decimal (refusal_number refusal)) (codes " at " ++ decimal at),
      length-append (codes " at ") (decimal at),
    )

rejection_few : (rejection : Rejection) → length (rejection_text rejection) ≤ 2000
rejection_few BadSignature = omega arith
rejection_few RegistryFull = omega arith
rejection_few (Duplicate number) = omega (arith, length-append (codes "rejected 3 ") (decimal number), decimal_few number)

tree_few : (reply : TreeReply) → IsShortTree 0 reply → length (tree_text reply) ≤ 2000
tree_few trees.Done short = omega arith
tree_few (trees.Bytes []) short = omega arith
tree_few (trees.Bytes (x ∷ xs)) short = absurd (omega arith)
tree_few (trees.Names names) short = absurd short
tree_few (trees.Node node) short = omega (arith, length-append (codes "ok node #") (decimal node.0), decimal_few node.0)

-- the text of what a turn replied fits
pub step_text_fits : (reply : StepReply) → IsShortStep 0 reply → HasShortNames reply → IsText (step_text reply)
step_text_fits (step_replies.Statement number) short names = absurd short
step_text_fits step_replies.Withdrawn short names = absurd short
step_text_fits (step_replies.Issue number times states) short names = absurd short
step_text_fits (step_replies.Procap p) short names = absurd short
step_text_fits (step_replies.Operation (replies_of_operations.Tree reply)) short names = omega (arith, tree_few reply short)
step_text_fits (step_replies.Operation (replies_of_operations.Meta reply)) short names = absurd short
step_text_fits (step_replies.Denied denial) short names = omega (arith, denial_few denial names)
step_text_fits (step_replies.Refused refusal at) short names = omega (arith, refused_few refusal at)
step_text_fits (step_replies.Rejected rejection) short names = omega (arith, rejection_few rejection)
step_text_fits (step_replies.Absent number) short names = absurd short

-- what an operation returns
pub operation_known : (reply : StepReply) → is_operation reply ≡ true → ((r : OpReply) → reply ≡ step_replies.Operation r → ⊥) → ⊥
operation_known (step_replies.Statement number) is other = false≢true is
operation_known step_replies.Withdrawn is other = false≢true is
operation_known (step_replies.Issue number times states) is other = false≢true is
operation_known (step_replies.Procap p) is other = false≢true is
operation_known (step_replies.Operation reply) is other = other reply refl
operation_known (step_replies.Denied denial) is other = false≢true is
operation_known (step_replies.Refused refusal at) is other = false≢true is
operation_known (step_replies.Rejected rejection) is other = false≢true is
operation_known (step_replies.Absent number) is other = false≢true is

-- one that is of no operation
pub other_step_fits : (most : ℕ) (reply : StepReply) → is_operation reply ≡ false → IsShortStep most reply → HasShortNames reply → IsText (step_text reply)
other_step_fits most (step_replies.Statement number) other short names = absurd short
other_step_fits most step_replies.Withdrawn other short names = absurd short
other_step_fits most (step_replies.Issue number times states) other short names = absurd short
other_step_fits most (step_replies.Procap p) other short names = absurd short
other_step_fits most (step_replies.Operation reply) other short names = absurd (false≢true (sym other))
other_step_fits most (step_replies.Denied denial) other short names = omega (arith, denial_few denial names)
other_step_fits most (step_replies.Refused refusal at) other short names = omega (arith, refused_few refusal at)
other_step_fits most (step_replies.Rejected rejection) other short names = omega (arith, rejection_few rejection)
other_step_fits most (step_replies.Absent number) other short names = absurd short

pub other_step_view : (count : ℕ) (reply : StepReply) → is_operation reply ≡ false → rerror (step_text reply) ≡ step_reply_view count reply
other_step_view count (step_replies.Statement number) other = refl
other_step_view count step_replies.Withdrawn other = refl
other_step_view count (step_replies.Issue number times states) other = refl
other_step_view count (step_replies.Procap p) other = refl
other_step_view count (step_replies.Operation reply) other = absurd (false≢true (sym other))
other_step_view count (step_replies.Denied denial) other = refl
other_step_view count (step_replies.Refused refusal at) other = refl
other_step_view count (step_replies.Rejected rejection) other = refl
other_step_view count (step_replies.Absent number) other = refl

-- and so does that of an error
pub error_fits : (error : NineError) → IsText (error_text error)
error_fits errors.NotServed = omega arith
error_fits errors.LowSize = omega arith
error_fits errors.VersionFirst = omega arith
error_fits errors.NoFid = omega arith
error_fits errors.FidInUse = omega arith
error_fits errors.TooManyFids = omega arith
error_fits errors.NoSuchTree = omega arith
error_fits errors.TooManyNames = omega arith
error_fits errors.IsOpen = omega arith
error_fits errors.IsDirectory = omega arith
error_fits errors.OtherMode = omega arith
error_fits errors.NotOpen = omega arith
error_fits errors.NoControl = omega arith
error_fits errors.PurseFull = omega arith
error_fits errors.NotLoggedIn = omega arith
error_fits errors.NoProcap = omega arith

-- ---- what a turn replies

taken_few : (n : ℕ) (xs : List ℕ) → n ≤ 65536 → length (take n xs) ≤ 65536
taken_few n xs few = omega (arith, few, length-take n xs)

pub read_shortly : (node : NodeId) (offset len : ℕ) → len ≤ 65536 → IsShortlyDone 65536 (operations.Read node offset len)
read_shortly node offset len few = λ world. taken_few len _ few

pub write_shortly : (node : NodeId) (offset : ℕ) (bytes : List ℕ) → IsShortlyDone 65536 (operations.Write node offset bytes)
write_shortly node offset bytes = λ world. tt

pub lookup_shortly : (directory : NodeId) (name : List ℕ) → IsShortlyDone 0 (operations.Lookup directory name)
lookup_shortly directory name = λ world. tt

module _ (most : ℕ) where
  answers_short : (authority : Authority) (state : BaseView) (pass : ℕ) (clock : ℤ) (request : StepRequest) (reply : StepReply) (event : Option Event) → IsShortAct most request → Answers authority state pass clock request reply event → IsShortStep most reply
  answers_short authority state pass clock _ _ _ short (unsigned statement signature not) = absurd short
  answers_short authority state pass clock _ _ _ short (duplicate statement signature number is found) = absurd short
  answers_short authority state pass clock _ _ _ short (registry_full statement signature is new full) = absurd short
  answers_short authority state pass clock _ _ _ short (registered statement signature may) = absurd short
  answers_short authority state pass clock _ _ _ short (not_live number signature not) = absurd short
  answers_short authority state pass clock _ _ _ short (unsigned_withdrawal number signature statement is not) = absurd short
  answers_short authority state pass clock _ _ _ short (withdrawn number signature may) = absurd short
  answers_short authority state pass clock _ _ _ short (moved checked number is) = absurd short
  answers_short authority state pass clock _ _ _ short (issued checked rising is stand) = absurd short
  answers_short authority state pass clock _ _ _ short (denied caller op procaps place cause is) = tt
  answers_short authority state pass clock _ _ _ short (refused caller op procaps why admitted is) = tt
  answers_short authority state pass clock _ _ _ short (acted caller op procaps admitted free) = short state.world
  answers_short authority state pass clock _ _ _ short (not_shown number who not) = absurd short
  answers_short authority state pass clock _ _ _ short (shown number who issue is) = absurd short

  turn_answer_short : (root : Root) (state : BaseView) (pass : ℕ) (clock : ℤ) (request : TurnRequest) (reply : TurnReply) (entry : Option StoreEntry) → IsShortTurn most request → AnswersTurn root state pass clock request reply entry → IsShortReply most reply
  turn_answer_short root state pass clock _ _ _ short (turns.steps request reply event answers) = answers_short (authority_of_root root) state pass clock request reply event short answers
  turn_answer_short root state pass clock _ _ _ short turns.makes = absurd short
  turn_answer_short root state pass clock _ _ _ short (turns.cites numbers cited found) = absurd short
  turn_answer_short root state pass clock _ _ _ short (turns.cites_none numbers number absent) = absurd short
  turn_answer_short root state pass clock _ _ _ short (turns.logs_in who nonce signature is) = tt
  turn_answer_short root state pass clock _ _ _ short (turns.rejects who nonce signature is) = tt

  pub turn_short : (gives : List StoreEntry → ℤ → Type 0) (p : StorePass) (before : List StoreEntry) (request : TurnRequest) (reply : TurnReply) (given : List StoreEntry) → IsShortTurn most request → Turn gives p before request reply given → IsShortReply most reply
  turn_short gives p before request _ _ short (turns.was_stopped is) = tt
  turn_short gives p before request _ _ short (turns.answered clock answer running gave answers) = turn_answer_short p.root (state_of_entries p.root before) p.number clock request answer None short answers
  turn_short gives p before request _ _ short (turns.full clock answer entry running gave answers is_full) = tt
  turn_short gives p before request _ _ short (turns.kept clock answer entry running gave answers room) = turn_answer_short p.root (state_of_entries p.root before) p.number clock request answer (Some entry) short answers
  turn_short gives p before request _ _ short (turns.failed clock answer entry running gave answers room) = tt
  turn_short gives p before request _ _ short turns.without_memory = tt

  module _ {D : Type 0} (gives : List StoreEntry → ℤ → Type 0) (request : TurnRequest) (old new : PassView (LockEntry D)) where
    pub asked_short : (reply : TurnReply) → IsShortTurn most request → HasAsked gives request old new reply → IsShortReply most reply
    asked_short reply short a = turn_short gives (pass_at a.root old.number) a.found request reply a.given short a.turn

    pub may_asked_short : (reply : TurnReply) → IsShortTurn most request → MayHaveAsked gives request old new reply → IsShortReply most reply
    may_asked_short reply short (inl a) = asked_short reply short a
    may_asked_short reply short (inr none) = subst (IsShortReply most) (sym none.1) tt

    pub may_looked_short : (reply : TurnReply) (kind : Bool) → IsShortTurn most request → MayHaveLooked gives request old new reply kind → IsShortReply most reply
    may_looked_short reply kind short (inl l) = asked_short reply short l.asked
    may_looked_short reply kind short (inr none) = subst (IsShortReply most) (sym none.1) tt
