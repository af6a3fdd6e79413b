-- The lines of an inquiry, one after the other.
use Rattle.std.proofs.Common.{◌≡◌, ◌<◌, ◌≤◌, ◌+◌, ℕ, suc, List, [], ◌∷◌, ◌++◌, length, refl, sym, ap, subst, ◌∙◌, append_assoc, ⊎_elim, arith, Bool, true, false, None, Some, Result, Ok, Err}
use Rattle.std.specs.Prelude.{◌≢◌, IfOk, OnErr, MatchResult, codes, if◌then◌else◌}
use Rattle.std.specs.Str.{bytes_eq}
use Rattle.std.proofs.lemmas.Bool.{cases_lt}
use Rattle.std.proofs.lemmas.Slice.Eq.{bytes_eq-Decides}
use Rattle.std.proofs.lemmas.List.{append-nil, length-append}
use Rattle.bl_syntax.specs.declared.grant.Goal.{Goal}
use Rattle.bl_syntax.specs.Statement.{StatementView}
use Rattle.bl_syntax.specs.declared.lists.NoMemory.{NoMemory as OutOfMemory}
use Rattle.pcfs_ports.specs.declared.streams.TakeFault.{TakeFault}
use Rattle.pcfs_ports.specs.declared.streams.TakeFault.TheVariants.{Failed, TooLong}
use Rattle.pcfs_inquiry.specs.declared.answering.InquiryEnd.{InquiryEnd}
use Rattle.proof_term.specs.Proof.{ProofView}
use Rattle.proof_verifier.specs.declared.cites.Cite.{Cite}
use Rattle.proof_verifier.specs.Cited.{AreCited, DoCitesRise, statements_of}
use Rattle.line_words.specs.declared.arguments.Arguments.{Arguments}
use Rattle.line_forms.specs.declared.asked.Line.{Line}
use Rattle.line_forms.specs.declared.asked.Line.TheVariants as asked
use Rattle.line_forms.specs.declared.fault.LineFault.{LineFault}
use Rattle.line_forms.specs.declared.fault.LineFault.TheVariants.{BadWord, BadCount, BadText, NoMemory}
use Rattle.line_forms.specs.declared.forms.Form.{Form}
use Rattle.line_forms.specs.declared.forms.Form.TheVariants as forms
use Rattle.line_forms.specs.declared.mode.Mode.TheVariants.{Inquiry}
use Rattle.line_forms.specs.Heads.{Head, by_form, do_head, head_in}
use Rattle.line_forms.specs.Modes.{known}
use Rattle.line_words.specs.Cutting.{first_cut}
use Rattle.line_forms.specs.Lines.{IsAsked, IsLineIn, IsUnreadIn}
use Rattle.line_text.specs.Lines.{lines_of}
use Rattle.pcfs_inquiry.specs.Inquiry.{AreSaid, HasFirstFault, IsBadAfter, IsOutOfPlace, SaysStatement, after_goal, early_goal, faulty, in_line, late_statement, no_goal, numbered_from}
use Rattle.pcfs_inquiry.specs.Reading.{IsAskedAfter, IsEnding, IsRead, IsUnread, IsUnreadAfter, fault_at}

-- ---- statements by their numbers

numbered_more : (number : ℕ) (statements : List StatementView) (s : StatementView) → numbered_from number (statements ++ s ∷ []) ≡ numbered_from number statements ++ record { number = number + length statements; statement = s } ∷ []
numbered_more number [] s =
    let at : number ≡ number + 0 = omega arith in
    ap (λ (n : ℕ). record { number = n; statement = s } ∷ []) at
numbered_more number (first ∷ others) s =
    let at : number + 1 + length others ≡ number + length (first ∷ others) = omega arith in
    ap (λ (cs : List Cite). record { number = number; statement = first } ∷ cs)
    (numbered_more (number + 1) others s ∙ ap (λ (n : ℕ). numbered_from (number + 1) others ++ record { number = n; statement = s } ∷ []) at)

length-numbered : (number : ℕ) (statements : List StatementView) → length (numbered_from number statements) ≡ length statements
length-numbered number [] = refl
length-numbered number (first ∷ others) = ap suc (length-numbered (number + 1) others)

numbers_rise : (number : ℕ) (statements : List StatementView) → DoCitesRise (numbered_from number statements)
numbers_rise number [] = tt
numbers_rise number (first ∷ []) = tt
numbers_rise number (first ∷ second ∷ others) = (omega arith, numbers_rise (number + 1) (second ∷ others))

pub statements_of-numbered : (number : ℕ) (statements : List StatementView) → statements_of (numbered_from number statements) ≡ statements
statements_of-numbered number [] = refl
statements_of-numbered number (first ∷ others) = ap (λ (ss : List StatementView). first ∷ ss) (statements_of-numbered (number + 1) others)

-- 1 to 64 statements can be cited
pub AreCited-numbered : (statements : List StatementView) → 1 ≤ length statements → length statements ≤ 64 → AreCited (numbered_from 1 statements)
AreCited-numbered statements some few =
    let count = length-numbered 1 statements in
    record { some = omega (arith, some, count); few = omega (arith, few, count); rising = numbers_rise 1 statements }

-- ---- lines that say statements

pub said_more : (lines : List (List ℕ)) (statements : List StatementView) (line : List ℕ) (s : StatementView) → AreSaid lines statements → SaysStatement line s → AreSaid (lines ++ line ∷ []) (statements ++ s ∷ [])
said_more [] [] line s are here = (here, tt)
said_more [] (first ∷ others) line s are here = absurd are
said_more (l ∷ lines) [] line s are here = absurd are
said_more (l ∷ lines) (first ∷ others) line s are here = (are.0, said_more lines others line s are.1 here)

pub length-said : (lines : List (List ℕ)) (statements : List StatementView) → AreSaid lines statements → length lines ≡ length statements
length-said [] [] are = refl
length-said [] (first ∷ others) are = absurd are
length-said (l ∷ lines) [] are = absurd are
length-said (l ∷ lines) (first ∷ others) are = ap suc (length-said lines others are.1)

-- ---- forms

pub statement_form : (form : Form) (arguments : Arguments) (text : List ℕ) (s : StatementView) → IsAsked form arguments text (asked.Statement s) → form ≡ forms.Statement
statement_form forms.At arguments text s is = absurd cc
statement_form forms.As arguments text s is = absurd cc
statement_form forms.Login arguments text s is = absurd cc
statement_form forms.Register arguments text s is = let other = is.2 in absurd cc
statement_form forms.Withdraw arguments text s is = absurd cc
statement_form forms.Procap arguments text s is = absurd cc
statement_form forms.Checkpoint arguments text s is = absurd cc
statement_form forms.Verify arguments text s is = let other = is.2 in absurd cc
statement_form forms.Check arguments text s is = let other = is.2 in absurd cc
statement_form (forms.Do operation) arguments text s is = absurd cc
statement_form forms.Statement arguments text s is = refl
statement_form forms.Goal arguments text s is = let other = is.2 in absurd cc

pub goal_form : (form : Form) (arguments : Arguments) (text : List ℕ) (goal : Goal) (proof : ProofView) → IsAsked form arguments text (asked.Goal goal proof) → form ≡ forms.Goal
goal_form forms.At arguments text goal proof is = absurd cc
goal_form forms.As arguments text goal proof is = absurd cc
goal_form forms.Login arguments text goal proof is = absurd cc
goal_form forms.Register arguments text goal proof is = let other = is.2 in absurd cc
goal_form forms.Withdraw arguments text goal proof is = absurd cc
goal_form forms.Procap arguments text goal proof is = absurd cc
goal_form forms.Checkpoint arguments text goal proof is = absurd cc
goal_form forms.Verify arguments text goal proof is = let other = is.2 in absurd cc
goal_form forms.Check arguments text goal proof is = let other = is.2 in absurd cc
goal_form (forms.Do operation) arguments text goal proof is = absurd cc
goal_form forms.Statement arguments text goal proof is = let other = is.2 in absurd cc
goal_form forms.Goal arguments text goal proof is = refl

-- the head of a line of an inquiry, by the tests of its first word
abbrev head_by : List ℕ → ℕ → Bool → Bool → Bool → Bool → Bool → Bool → Bool → Bool → Bool → Bool → Bool → Bool → Result Head LineFault
head_by behind whole is_do is_at is_as is_login is_register is_withdraw is_procap is_checkpoint is_verify is_check is_statement is_goal =
    if is_do then do_head Inquiry whole behind
    else by_form behind (known Inquiry
    (if is_at then Some forms.At else
    if is_as then Some forms.As else
    if is_login then Some forms.Login else
    if is_register then Some forms.Register else
    if is_withdraw then Some forms.Withdraw else
    if is_procap then Some forms.Procap else
    if is_checkpoint then Some forms.Checkpoint else
    if is_verify then Some forms.Verify else
    if is_check then Some forms.Check else
    if is_statement then Some forms.Statement else
    if is_goal then Some forms.Goal else
    None))

abbrev head_form : Result Head LineFault → Form
head_form (Ok head) = head.0
head_form (Err fault) = forms.At

statement_by : (behind : List ℕ) (whole : ℕ) (a b c d e w f k g h s t : Bool) (rest : List ℕ) → head_by behind whole a b c d e w f k g h s t ≡ Ok (forms.Statement, rest) → s ≡ true
statement_by behind whole true b c d e w f k g h s t rest is = absurd cc
statement_by behind whole false true c d e w f k g h s t rest is = absurd cc
statement_by behind whole false false true d e w f k g h s t rest is = absurd cc
statement_by behind whole false false false true e w f k g h s t rest is = absurd cc
statement_by behind whole false false false false true w f k g h s t rest is = absurd cc
statement_by behind whole false false false false false true f k g h s t rest is = absurd cc
statement_by behind whole false false false false false false true k g h s t rest is = absurd cc
statement_by behind whole false false false false false false false true g h s t rest is = absurd cc
statement_by behind whole false false false false false false false false true h s t rest is = absurd cc
statement_by behind whole false false false false false false false false false true s t rest is = absurd cc
statement_by behind whole false false false false false false false false false false true t rest is = refl
statement_by behind whole false false false false false false false false false false false true rest is = let same : forms.Goal ≡ forms.Statement = ap head_form is in absurd cc
statement_by behind whole false false false false false false false false false false false false rest is = absurd cc

goal_by : (behind : List ℕ) (whole : ℕ) (a b c d e w f k g h s t : Bool) (rest : List ℕ) → head_by behind whole a b c d e w f k g h s t ≡ Ok (forms.Goal, rest) → t ≡ true
goal_by behind whole true b c d e w f k g h s t rest is = absurd cc
goal_by behind whole false true c d e w f k g h s t rest is = absurd cc
goal_by behind whole false false true d e w f k g h s t rest is = absurd cc
goal_by behind whole false false false true e w f k g h s t rest is = absurd cc
goal_by behind whole false false false false true w f k g h s t rest is = absurd cc
goal_by behind whole false false false false false true f k g h s t rest is = absurd cc
goal_by behind whole false false false false false false true k g h s t rest is = absurd cc
goal_by behind whole false false false false false false false true g h s t rest is = absurd cc
goal_by behind whole false false false false false false false false true h s t rest is = absurd cc
goal_by behind whole false false false false false false false false false true s t rest is = absurd cc
goal_by behind whole false false false false false false false false false false true t rest is = let same : forms.Statement ≡ forms.Goal = ap head_form is in absurd cc
goal_by behind whole false false false false false false false false false false false true rest is = refl
goal_by behind whole false false false false false false false false false false false false rest is = absurd cc

-- the first word of a line that says a statement, and of one with a goal
pub statement_word : (line : List ℕ) (s : StatementView) → SaysStatement line s → (first_cut line).word ≡ codes "statement"
statement_word line s says =
    let word = (first_cut line).word in
    let form = statement_form says.form says.arguments _ s says.asked in
    let head : head_in Inquiry line ≡ Ok (forms.Statement, says.has_words.behind) = says.has_words.head_is ∙ ap (λ (f : Form). Ok (f, says.has_words.behind)) form in
    (bytes_eq-Decides word (codes "statement")).0
    (statement_by (first_cut line).behind (length line) (bytes_eq word (codes "do")) (bytes_eq word (codes "at")) (bytes_eq word (codes "as")) (bytes_eq word (codes "login")) (bytes_eq word (codes "register")) (bytes_eq word (codes "withdraw"))
    (bytes_eq word (codes "procap")) (bytes_eq word (codes "checkpoint")) (bytes_eq word (codes "verify")) (bytes_eq word (codes "check")) (bytes_eq word (codes "statement")) (bytes_eq word (codes "goal")) says.has_words.behind head)

pub goal_word : (line : List ℕ) (goal : Goal) (proof : ProofView) → IsLineIn Inquiry line (asked.Goal goal proof) → (first_cut line).word ≡ codes "goal"
goal_word line goal proof asks =
    let word = (first_cut line).word in
    let form = goal_form asks.form asks.arguments _ goal proof asks.asked in
    let head : head_in Inquiry line ≡ Ok (forms.Goal, asks.has_words.behind) = asks.has_words.head_is ∙ ap (λ (f : Form). Ok (f, asks.has_words.behind)) form in
    (bytes_eq-Decides word (codes "goal")).0
    (goal_by (first_cut line).behind (length line) (bytes_eq word (codes "do")) (bytes_eq word (codes "at")) (bytes_eq word (codes "as")) (bytes_eq word (codes "login")) (bytes_eq word (codes "register")) (bytes_eq word (codes "withdraw"))
    (bytes_eq word (codes "procap")) (bytes_eq word (codes "checkpoint")) (bytes_eq word (codes "verify")) (bytes_eq word (codes "check")) (bytes_eq word (codes "statement")) (bytes_eq word (codes "goal")) asks.has_words.behind head)

-- a statement comes after fewer than 64, and the goal after one at least
pub statement_few : (count : ℕ) (line : List ℕ) (s : StatementView) → IsAskedAfter count line (asked.Statement s) → count < 64
statement_few count line s is = ⊎_elim (λ few. few) (λ many. absurd (is.in_place (late_statement (statement_word line s is.asks) many))) (cases_lt count 64)

pub goal_some : (count : ℕ) (line : List ℕ) (goal : Goal) (proof : ProofView) → IsAskedAfter count line (asked.Goal goal proof) → 1 ≤ count
goal_some count line goal proof is =
    ⊎_elim (λ none. absurd (is.in_place (early_goal (goal_word line goal proof is.asks) (omega (arith, none))))) (λ some. some) (cases_lt count 1)

-- ---- reading

-- some lines were read as these statements, and the rest is left
pub record IsReading (lines : List (List ℕ)) (cites : List Cite) (rest : List ℕ) : Type 0 where
  pub said : List (List ℕ)
  pub statements : List StatementView
  pub parts : lines ≡ said ++ lines_of rest
  pub are_said : AreSaid said statements
  pub cites_are : cites ≡ numbered_from 1 statements
  pub few : length statements ≤ 64

counted : (lines : List (List ℕ)) (cites : List Cite) (rest : List ℕ) (is : IsReading lines cites rest) → length cites ≡ length is.said
counted lines cites rest is = ap length is.cites_are ∙ length-numbered 1 is.statements ∙ sym (length-said is.said is.statements is.are_said)

pub IsReading-none : (input : List ℕ) → IsReading (lines_of input) [] input
IsReading-none input = record { said = []; statements = []; parts = refl; are_said = tt; cites_are = refl; few = omega arith }

pub IsReading-more : (lines : List (List ℕ)) (cites new : List Cite) (rest line others : List ℕ) (s : StatementView) → IsReading lines cites rest → lines_of rest ≡ line ∷ lines_of others → IsAskedAfter (length cites) line (asked.Statement s) →
    new ≡ cites ++ record { number = length cites + 1; statement = s } ∷ [] → IsReading lines new others
IsReading-more lines cites new rest line others s is next asked_for more =
    let count : length cites ≡ length is.statements = ap length is.cites_are ∙ length-numbered 1 is.statements in
    let number : length cites + 1 ≡ 1 + length is.statements = omega (arith, count) in
    record {
      said = is.said ++ line ∷ [];
      statements = is.statements ++ s ∷ [];
      parts = is.parts ∙ ap (λ (ls : List (List ℕ)). is.said ++ ls) next ∙ sym (append_assoc is.said (line ∷ []) (lines_of others));
      are_said = said_more is.said is.statements line s is.are_said asked_for.asks;
      cites_are = more ∙ ap (λ (cs : List Cite). cs ++ record { number = length cites + 1; statement = s } ∷ []) is.cites_are
          ∙ ap (λ (n : ℕ). numbered_from 1 is.statements ++ record { number = n; statement = s } ∷ []) number ∙ sym (numbered_more 1 is.statements s);
      few = omega (arith, count, statement_few (length cites) line s asked_for, length-append is.statements (s ∷ []));
    }

-- the goal comes next
pub IsEnding-next : (lines : List (List ℕ)) (cites : List Cite) (rest line others : List ℕ) (goal : Goal) (proof : ProofView) → IsReading lines cites rest → lines_of rest ≡ line ∷ lines_of others → IsAskedAfter (length cites) line (asked.Goal goal proof) →
    IsEnding lines cites goal proof (lines_of others)
IsEnding-next lines cites rest line others goal proof is next asked_for = record {
  said = is.said;
  statements = is.statements;
  last = line;
  parts = is.parts ∙ ap (λ (ls : List (List ℕ)). is.said ++ ls) next;
  are_said = is.are_said;
  cites_are = is.cites_are;
  few = is.few;
  asked_after = subst (λ (n : ℕ). IsAskedAfter n line (asked.Goal goal proof)) (counted lines cites rest is) asked_for;
}

-- a line is wrong
bad_next : (lines : List (List ℕ)) (cites : List Cite) (rest line others : List ℕ) (fault : LineFault) → IsReading lines cites rest → lines_of rest ≡ line ∷ lines_of others → IsBadAfter (length cites) line fault → HasFirstFault lines (length cites + 1) fault
bad_next lines cites rest line others fault is next bad =
    let count = counted lines cites rest is in
    let few : length is.said ≤ 64 = omega (arith, is.few, length-said is.said is.statements is.are_said) in
    subst (λ (n : ℕ). HasFirstFault lines (n + 1) fault) (sym count)
    (in_line is.said is.statements line (lines_of others) fault (is.parts ∙ ap (λ (ls : List (List ℕ)). is.said ++ ls) next) is.are_said few (subst (λ (n : ℕ). IsBadAfter n line fault) count bad))

pub IsUnread-next : (lines : List (List ℕ)) (cites : List Cite) (rest line others : List ℕ) (fault : LineFault) → IsReading lines cites rest → lines_of rest ≡ line ∷ lines_of others → IsUnreadAfter (length cites) line fault →
    IsUnread lines (fault_at (length cites + 1) fault)
IsUnread-next lines cites rest line others (BadWord place) is next bad = bad_next lines cites rest line others (BadWord place) is next bad
IsUnread-next lines cites rest line others BadCount is next bad = bad_next lines cites rest line others BadCount is next bad
IsUnread-next lines cites rest line others (BadText fault) is next bad = bad_next lines cites rest line others (BadText fault) is next bad
IsUnread-next lines cites rest line others NoMemory is next bad = tt

-- the goal is missing
pub no_goal_left : (lines : List (List ℕ)) (cites : List Cite) (rest : List ℕ) → IsReading lines cites rest → rest ≡ [] → HasFirstFault lines (length cites + 1) (BadWord 0)
no_goal_left lines cites rest is none =
    let same : lines ≡ is.said = is.parts ∙ ap (λ (bs : List ℕ). is.said ++ lines_of bs) none ∙ append-nil is.said in
    let count : length cites ≡ length lines = counted lines cites rest is ∙ sym (ap length same) in
    subst (λ (n : ℕ). HasFirstFault lines (n + 1) (BadWord 0)) (sym count)
    (no_goal is.statements (subst (λ (ls : List (List ℕ)). AreSaid ls is.statements) (sym same) is.are_said) (omega (arith, ap length same, is.few, length-said is.said is.statements is.are_said)))

-- ---- a line that is read, and one with the goal

pub read_there : (r : Result Line LineFault) (count : ℕ) (line : List ℕ) → (IsOutOfPlace count line → ⊥) → MatchResult r (IsLineIn Inquiry line) (IsUnreadIn Inquiry line) → MatchResult r (IsAskedAfter count line) (IsUnreadAfter count line)
read_there (Ok asked_for) count line placed told = record { in_place = placed; asks = told }
read_there (Err (BadWord place)) count line placed told = faulty (BadWord place) placed told
read_there (Err BadCount) count line placed told = faulty BadCount placed told
read_there (Err (BadText fault)) count line placed told = faulty (BadText fault) placed told
read_there (Err NoMemory) count line placed told = tt

-- a line comes after the goal
pub after_goal_bad : (lines : List (List ℕ)) (cites : List Cite) (goal : Goal) (proof : ProofView) (others : List (List ℕ)) (next : List ℕ) (rest : List (List ℕ)) → IsEnding lines cites goal proof others → others ≡ next ∷ rest →
    HasFirstFault lines (length cites + 2) (BadWord 0)
after_goal_bad lines cites goal proof others next rest is others_are =
    let same = length-said is.said is.statements is.are_said in
    let count : length cites ≡ length is.said = ap length is.cites_are ∙ length-numbered 1 is.statements ∙ sym same in
    let few : length is.said ≤ 64 = omega (arith, is.few, same) in
    subst (λ (n : ℕ). HasFirstFault lines (n + 2) (BadWord 0)) (sym count)
    (after_goal is.said is.statements is.last next rest goal proof (is.parts ∙ ap (λ (os : List (List ℕ)). is.said ++ is.last ∷ os) others_are) is.are_said (goal_some (length is.said) is.last goal proof is.asked_after) few is.asked_after.asks)

-- nothing comes after the goal
pub goal_read : (lines : List (List ℕ)) (cites kept : List Cite) (goal : Goal) (proof : ProofView) (rest : List ℕ) → IsEnding lines cites goal proof (lines_of rest) → rest ≡ [] → kept ≡ cites → IsRead lines (record { cites = kept; goal = goal; proof = proof })
goal_read lines cites kept goal proof rest is none same =
    let some : 1 ≤ length is.said = goal_some (length is.said) is.last goal proof is.asked_after in
    let count : length is.said ≡ length is.statements = length-said is.said is.statements is.are_said in
    record {
      statements = is.statements;
      cites_are = same ∙ is.cites_are;
      is_inquiry = record {
        said = is.said;
        last = is.last;
        parts = is.parts ∙ ap (λ (bytes : List ℕ). is.said ++ is.last ∷ lines_of bytes) none;
        are_said = is.are_said;
        some = omega (arith, some, count);
        few = is.few;
        asks = is.asked_after.asks;
      };
    }

-- ---- how it ends

pub ends_with : (r : Result InquiryEnd OutOfMemory) (line : Result (List ℕ) OutOfMemory) (status : ℕ) (text : List ℕ) (Ends : ℕ → List ℕ → Type 0) → IfOk r (λ (end : InquiryEnd). end.status ≡ status) → IfOk r (λ (end : InquiryEnd). line ≡ Ok end.line) →
    IfOk line (λ (l : List ℕ). l ≡ text ++ 10 ∷ []) → Ends status text → IfOk r (λ (end : InquiryEnd). (x : List ℕ) × (end.line ≡ x ++ 10 ∷ []) × Ends end.status x)
ends_with (Ok end) line status text Ends status_is line_is told ends =
    (text, subst (λ (l : Result (List ℕ) OutOfMemory). IfOk l (λ (bytes : List ℕ). bytes ≡ text ++ 10 ∷ [])) line_is told, subst (λ (n : ℕ). Ends n text) (sym status_is) ends)
ends_with (Err refused) line status text Ends status_is line_is told ends = tt

-- what holds anyhow holds if memory ran out
pub on_err : (r : Result InquiryEnd OutOfMemory) (P : Type 0) → P → OnErr r P
on_err (Ok end) P p = tt
on_err (Err refused) P p = p

-- an input that is too long has not failed
pub not_failed : (r : Result (List ℕ) TakeFault) → r ≡ Err TooLong → r ≢ Err Failed
not_failed r long failed = cc
