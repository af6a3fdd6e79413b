-- In which mode a line says what.
use Rattle.std.proofs.Common.{◌≡◌, ℕ, Bool, true, false, cond, List, [], ◌∷◌, ◌++◌, length, Option, Some, None, Result, Ok, Err, IsTrue, refl, sym, ap, ◌∙◌, subst}
use Rattle.std.specs.Prelude.{IsSome, codes, not, ◌||◌}
use Rattle.std.specs.Str.{bytes_eq}
use Rattle.std.specs.List.{AllByRecursion}
use Rattle.std.proofs.lemmas.Bool.{false≢true, and_parts}
use Rattle.line_words.specs.Cutting.{first_cut}
use Rattle.line_words.specs.Kinds.{blank, Sets, kind_in, kinds_in}
use Rattle.line_words.specs.Reading.{AreWords}
use Rattle.line_words.specs.declared.kinds.WordKind.{WordKind}
use Rattle.line_words.specs.declared.kinds.WordKind.TheVariants as kinds
use Rattle.line_words.specs.declared.arguments.Arguments.{Arguments}
use Rattle.line_words.specs.declared.procap_word.ProcapWord.{ProcapWord}
use Rattle.line_words.specs.declared.procap_word.ProcapWord.TheVariants as words
use Rattle.line_forms.specs.declared.asked.Line.{Line}
use Rattle.line_forms.specs.declared.mode.Mode.{Mode}
use Rattle.line_forms.specs.declared.mode.Mode.TheVariants.{Operator, Guest, User, Inquiry}
use Rattle.line_forms.specs.declared.mode.Modes.{Modes}
use Rattle.line_forms.specs.declared.forms.Form.{Form}
use Rattle.line_forms.specs.declared.forms.Form.TheVariants.{At, As, Login, Register, Withdraw, Procap, Checkpoint, Verify, Check, Do, Statement, Goal}
use Rattle.line_forms.specs.declared.forms.Operation.{Operation}
use Rattle.line_forms.specs.declared.fault.LineFault.{LineFault}
use Rattle.line_forms.specs.Forms.{form_named, operation_named, kinds_of_operation}
use Rattle.line_forms.specs.Heads.{Head, by_form, by_operation, do_head, head_in}
use Rattle.line_forms.specs.Lines.{IsAsked, kinds_said, IsLineIn}
use Rattle.line_forms.specs.Modes.{modes_of, is_admin, is_in, known, is_session}
use Rattle.line_forms.specs.Said.{IsWrittenOut, IsSaidInScript, IsSaidInSession, IsSaidByUser, IsSaidInInquiry, IsSaidIn}
use Rattle.line_forms.proofs.LimitLemmas.{others, last}

-- ---- the form of a line is known in its mode

-- a head has a form that is known
abbrev IsKnown : Mode → Result Head LineFault → Type 0
IsKnown mode (Ok head) = IsTrue (is_in mode (modes_of head.0))
IsKnown mode (Err fault) = Unit {0}

either : (mode : Mode) (b : Bool) (x y : Result Head LineFault) → IsKnown mode x → IsKnown mode y → IsKnown mode (cond b x y)
either mode true x y first second = first
either mode false x y first second = second

known_form : (mode : Mode) (behind : List ℕ) (form : Form) (test : Bool) → is_in mode (modes_of form) ≡ test → IsKnown mode (by_form behind (cond test (Some form) None))
known_form mode behind form true is = is
known_form mode behind form false is = tt

by_form_known : (mode : Mode) (behind : List ℕ) (form : Option Form) → IsKnown mode (by_form behind (known mode form))
by_form_known mode behind None = tt
by_form_known mode behind (Some form) = known_form mode behind form (is_in mode (modes_of form)) refl

operation_known : (mode : Mode) (whole : ℕ) (line : List ℕ) (operation : Option Operation) → (IsTrue (is_in mode (record { operator = true; session = true; of_admin_alone = false; inquiry = false }))) → IsKnown mode (by_operation whole line operation)
operation_known mode whole line None is = tt
operation_known mode whole line (Some operation) is = is

do_known : (mode : Mode) (whole : ℕ) (behind : List ℕ) → IsKnown mode (do_head mode whole behind)
do_known Operator whole [] = tt
do_known Operator whole (space ∷ line) = operation_known Operator whole line (operation_named (first_cut line).word) refl
do_known Guest whole [] = tt
do_known Guest whole (space ∷ line) = operation_known Guest whole line (operation_named (first_cut line).word) refl
do_known (User who) whole [] = tt
do_known (User who) whole (space ∷ line) = operation_known (User who) whole line (operation_named (first_cut line).word) refl
do_known Inquiry whole behind = tt

head_known : (mode : Mode) (line : List ℕ) (head : Result Head LineFault) → head_in mode line ≡ head → IsKnown mode head
head_known mode line head is =
    subst (IsKnown mode) is
    (either mode (bytes_eq (first_cut line).word (codes "do")) _ _ (do_known mode (length line) (first_cut line).behind) (by_form_known mode (first_cut line).behind (form_named (first_cut line).word)))

-- ---- procaps that are written out

AllHeld-append : (before others : List ProcapWord) → AllByRecursion IsWrittenOut before → AllByRecursion IsWrittenOut others → AllByRecursion IsWrittenOut (before ++ others)
AllHeld-append [] others h k = k
AllHeld-append (word ∷ before) others h k = (h.0, AllHeld-append before others h.1 k)

kept : (before after plain : Arguments) → after ≡ plain → plain.procaps ≡ before.procaps → AllByRecursion IsWrittenOut before.procaps → AllByRecursion IsWrittenOut after.procaps
kept before after plain same procaps h = subst (AllByRecursion IsWrittenOut) (sym procaps ∙ sym (ap (λ (a : Arguments). a.procaps) same)) h

one_out : (kind : WordKind) (word : List ℕ) (before after : Arguments) → Sets (kind_in true kind) word before after → AllByRecursion IsWrittenOut before.procaps → AllByRecursion IsWrittenOut after.procaps
one_out kinds.Node word before after set h = kept before after _ set.1 refl h
one_out kinds.Target word before after set h = kept before after _ set.1 refl h
one_out kinds.Name word before after set h = kept before after _ set.1 refl h
one_out kinds.NewName word before after set h = kept before after _ set.1 refl h
one_out kinds.Offset word before after set h = kept before after _ set.1 refl h
one_out kinds.Len word before after set h = kept before after _ set.1 refl h
one_out kinds.Most word before after set h = kept before after _ set.1 refl h
one_out kinds.Data word before after set h = kept before after _ set.1 refl h
one_out kinds.Value word before after set h = kept before after _ set.1 refl h
one_out kinds.Who word before after set h = kept before after _ set.1 refl h
one_out kinds.Permission word before after set h = kept before after _ set.1 refl h
one_out kinds.Second word before after set h = kept before after _ set.1 refl h
one_out kinds.Issue word before after set h = kept before after _ set.1 refl h
one_out kinds.Number word before after set h = kept before after _ set.1 refl h
one_out kinds.Cited word before after set h = kept before after _ set.1 refl h
one_out kinds.Signature word before after set h = kept before after _ set.2 refl h
one_out kinds.Procap word before after set h = subst (AllByRecursion IsWrittenOut) (sym (ap (λ (a : Arguments). a.procaps) set.2)) (AllHeld-append before.procaps (words.Procap set.0 ∷ []) h (tt, tt))
one_out kinds.SignatureHex word before after set h = kept before after _ set.2 refl h
one_out kinds.ProcapHex word before after set h = subst (AllByRecursion IsWrittenOut) (sym (ap (λ (a : Arguments). a.procaps) set.2)) (AllHeld-append before.procaps (words.Procap set.0 ∷ []) h (tt, tt))

all_out : (kinds : List WordKind) (behind : List ℕ) (before after : Arguments) (rest : List ℕ) → AreWords (kinds_in true kinds) behind before after rest → AllByRecursion IsWrittenOut before.procaps → AllByRecursion IsWrittenOut after.procaps
all_out [] behind before after rest words h = subst (AllByRecursion IsWrittenOut) (sym (ap (λ (a : Arguments). a.procaps) words.0)) h
all_out (kind ∷ kinds) [] before after rest words h = absurd words
all_out (kind ∷ kinds) (space ∷ line) before after rest words h = all_out kinds (first_cut line).behind words.0 after rest words.2 (one_out kind (first_cut line).word before words.0 words.1 h)

-- a signature that is written out
has_signature : (behind : List ℕ) (before a : Arguments) (rest : List ℕ) → AreWords (kinds_in true (kinds.Signature ∷ [])) behind before a rest → IsSome a.signature
has_signature behind before a rest words =
    let signature = last kinds.SignatureHex behind before a rest words in
    subst (λ (s : Option (List ℕ)). IsSome s) (sym (ap (λ (x : Arguments). x.signature) signature.set.2)) refl

-- after a number
has_second_signature : (behind : List ℕ) (a : Arguments) (rest : List ℕ) → AreWords (kinds_in true (kinds.Number ∷ kinds.Signature ∷ [])) behind blank a rest → IsSome a.signature
has_second_signature behind a rest words =
    let second = others kinds.Number (kinds.SignatureHex ∷ []) behind blank a rest words in
    has_signature second.behind second.before a rest second.words

-- ---- what is said

by_mode : (mode : Mode) (modes : Modes) (asked : Line) → IsTrue (is_in mode modes) → (IsTrue modes.operator → IsSaidInScript asked) → (IsTrue modes.session → is_session mode ≡ true → IsSaidInSession asked) → (IsTrue modes.inquiry → IsSaidInInquiry asked)
    → ((who : List ℕ) → IsTrue (not modes.of_admin_alone || is_admin who) → IsSaidInSession asked → IsSaidByUser who asked) → IsSaidIn mode asked
by_mode Operator modes asked is script session inquiry user = script is
by_mode Guest modes asked is script session inquiry user = session is refl
by_mode (User who) modes asked is script session inquiry user = user who (and_parts modes.session (not modes.of_admin_alone || is_admin who) is).1 (session (and_parts modes.session (not modes.of_admin_alone || is_admin who) is).0 refl)
by_mode Inquiry modes asked is script session inquiry user = inquiry is

said_asked : (mode : Mode) (form : Form) (behind : List ℕ) (a : Arguments) (rest text : List ℕ) (asked : Line) → IsTrue (is_in mode (modes_of form)) → AreWords (kinds_said mode form) behind blank a rest → IsAsked form a text asked → IsSaidIn mode asked
said_asked mode At behind a rest text asked is words h = by_mode mode (modes_of At) asked is (λ _. subst IsSaidInScript (sym h) tt) (λ no _. absurd (false≢true no)) (λ no. absurd (false≢true no)) (λ who _ no. absurd (subst IsSaidInSession h no))
said_asked mode As behind a rest text asked is words h = by_mode mode (modes_of As) asked is (λ _. subst IsSaidInScript (sym h) tt) (λ no _. absurd (false≢true no)) (λ no. absurd (false≢true no)) (λ who _ no. absurd (subst IsSaidInSession h no))
said_asked mode Login behind a rest text asked is words h = by_mode mode (modes_of Login) asked is (λ no. absurd (false≢true no)) (λ _ _. subst IsSaidInSession (sym h) tt) (λ no. absurd (false≢true no)) (λ who _ _. subst (IsSaidByUser who) (sym h) tt)
said_asked mode Register behind a rest text asked is words h =
    by_mode mode (modes_of Register) asked is (λ _. subst IsSaidInScript (sym h.2) tt)
    (λ _ session. subst IsSaidInSession (sym h.2) (has_signature behind blank a rest (subst (λ (out : Bool). AreWords (kinds_in out (kinds.Signature ∷ [])) behind blank a rest) session words))) (λ no. absurd (false≢true no)) (λ who _ said. subst (IsSaidByUser who) (sym h.2) (subst IsSaidInSession h.2 said, tt))
said_asked mode Withdraw behind a rest text asked is words h =
    by_mode mode (modes_of Withdraw) asked is (λ _. subst IsSaidInScript (sym h) tt)
    (λ _ session. subst IsSaidInSession (sym h) (has_second_signature behind a rest (subst (λ (out : Bool). AreWords (kinds_in out (kinds.Number ∷ kinds.Signature ∷ [])) behind blank a rest) session words)))
    (λ no. absurd (false≢true no)) (λ who _ said. subst (IsSaidByUser who) (sym h) (subst IsSaidInSession h said, tt))
said_asked mode Procap behind a rest text asked is words h = by_mode mode (modes_of Procap) asked is (λ _. subst IsSaidInScript (sym h) tt) (λ _ _. subst IsSaidInSession (sym h) tt) (λ no. absurd (false≢true no)) (λ who _ _. subst (IsSaidByUser who) (sym h) (tt, tt))
said_asked mode Checkpoint behind a rest text asked is words h = by_mode mode (modes_of Checkpoint) asked is (λ _. subst IsSaidInScript (sym h) tt) (λ _ _. subst IsSaidInSession (sym h) tt) (λ no. absurd (false≢true no)) (λ who admin _. subst (IsSaidByUser who) (sym h) (tt, admin))
said_asked mode Verify behind a rest text asked is words h = by_mode mode (modes_of Verify) asked is (λ _. subst IsSaidInScript (sym h.2) tt) (λ _ _. subst IsSaidInSession (sym h.2) tt) (λ no. absurd (false≢true no)) (λ who _ _. subst (IsSaidByUser who) (sym h.2) (tt, tt))
said_asked mode Check behind a rest text asked is words h = by_mode mode (modes_of Check) asked is (λ _. subst IsSaidInScript (sym h.2) tt) (λ no _. absurd (false≢true no)) (λ no. absurd (false≢true no)) (λ who _ no. absurd (subst IsSaidInSession h.2 no))
said_asked mode (Do operation) behind a rest text asked is words h =
    by_mode mode (modes_of (Do operation)) asked is (λ _. subst IsSaidInScript (sym h) tt)
    (λ _ session. subst IsSaidInSession (sym h) (all_out (kinds_of_operation operation) behind blank a rest (subst (λ (out : Bool). AreWords (kinds_in out (kinds_of_operation operation)) behind blank a rest) session words) tt))
    (λ no. absurd (false≢true no)) (λ who _ said. subst (IsSaidByUser who) (sym h) (subst IsSaidInSession h said, tt))
said_asked mode Statement behind a rest text asked is words h = by_mode mode (modes_of Statement) asked is (λ no. absurd (false≢true no)) (λ no _. absurd (false≢true no)) (λ _. subst IsSaidInInquiry (sym h.2) tt) (λ who _ no. absurd (subst IsSaidInSession h.2 no))
said_asked mode Goal behind a rest text asked is words h = by_mode mode (modes_of Goal) asked is (λ no. absurd (false≢true no)) (λ no _. absurd (false≢true no)) (λ _. subst IsSaidInInquiry (sym h.2) tt) (λ who _ no. absurd (subst IsSaidInSession h.2 no))

-- the form of a line is known in its mode
pub form_in_mode : {mode : Mode} {line : List ℕ} {asked : Line} → (h : IsLineIn mode line asked) → IsTrue (is_in mode (modes_of h.form))
form_in_mode {mode} {line} h = head_known mode line (Ok (h.form, h.has_words.behind)) h.has_words.head_is

pub said_in_mode : {mode : Mode} {line : List ℕ} {asked : Line} → IsLineIn mode line asked → IsSaidIn mode asked
said_in_mode {mode} {line} {asked} h =
    said_asked mode h.form h.has_words.behind h.arguments h.rest _ asked (form_in_mode h) h.has_words.words h.asked
