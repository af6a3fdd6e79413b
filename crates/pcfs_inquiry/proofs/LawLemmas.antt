-- Lines are one inquiry or have one first fault.
use Rattle.std.proofs.Common.{◌≡◌, ◌⊎◌, ◌<◌, ◌≤◌, ◌+◌, ℕ, List, [], ◌∷◌, ◌++◌, length, refl, sym, ap, subst, ◌∙◌, inl, inr, ⊎_elim, append_assoc, arith}
use Rattle.std.specs.Prelude.{codes}
use Rattle.std.specs.Str.{bytes_eq}
use Rattle.std.proofs.lemmas.Bool.{cases_Bool, cases_lt, false≢true}
use Rattle.std.proofs.lemmas.Slice.Eq.{bytes_eq-Decides}
use Rattle.std.proofs.lemmas.List.{append-nil, length-append}
use Rattle.bl_syntax.specs.declared.grant.Goal.{Goal}
use Rattle.bl_syntax.specs.Statement.{StatementView}
use Rattle.proof_term.specs.Proof.{ProofView}
use Rattle.line_forms.specs.declared.asked.Line.{Line}
use Rattle.line_forms.specs.declared.asked.Line.TheVariants as asked
use Rattle.line_forms.specs.declared.fault.LineFault.{LineFault}
use Rattle.line_forms.specs.declared.fault.LineFault.TheVariants.{BadWord, BadCount}
use Rattle.line_forms.specs.declared.mode.Mode.TheVariants.{Inquiry}
use Rattle.line_words.specs.Cutting.{first_cut}
use Rattle.line_forms.specs.Lines.{IsLineIn}
use Rattle.line_forms.specs.Said.{IsSaidInInquiry}
use Rattle.line_forms.proofs.LineLemmas.{line_or_fault, one_fault, one_line}
use Rattle.line_forms.proofs.SaidLemmas.{said_in_mode}
use Rattle.line_forms.proofs.TotalLemmas.{line_or_a_fault}
use Rattle.pcfs_inquiry.specs.Inquiry.{AreSaid, HasFirstFault, IsBadAfter, IsInquiry, IsOutOfPlace, SaysStatement, after_goal, early_goal, faulty, in_line, late_statement, no_goal, out_of_place}
use Rattle.pcfs_inquiry.proofs.InquiryLemmas.{goal_some, goal_word, length-said, said_more, statement_few, statement_word}

-- ---- what stops the statements

-- no statement may be said next, after so many
abbrev IsStop : ℕ → List (List ℕ) → Type 0
IsStop count rest = (line : List ℕ) (others : List (List ℕ)) (s : StatementView) → rest ≡ line ∷ others → SaysStatement line s → count < 64 → ⊥

head_same : (x y : List ℕ) (xs ys : List (List ℕ)) → x ∷ xs ≡ y ∷ ys → x ≡ y
head_same x y xs ys same = cc

tail_same : (x y : List ℕ) (xs ys : List (List ℕ)) → x ∷ xs ≡ y ∷ ys → xs ≡ ys
tail_same x y xs ys same = cc

stop_none : (count : ℕ) → IsStop count []
stop_none count line others s same says few = absurd cc

stop_goal : (count : ℕ) (last : List ℕ) (rest : List (List ℕ)) (goal : Goal) (proof : ProofView) → IsLineIn Inquiry last (asked.Goal goal proof) → IsStop count (last ∷ rest)
stop_goal count last rest goal proof asks line others s same says few =
    let both : asked.Statement s ≡ asked.Goal goal proof = one_line says (subst (λ (l : List ℕ). IsLineIn Inquiry l (asked.Goal goal proof)) (head_same last line rest others same) asks) in
    absurd cc

-- a line that says a statement may come after fewer than 64
statement_in_place : (count : ℕ) (line : List ℕ) (s : StatementView) → SaysStatement line s → count < 64 → IsOutOfPlace count line → ⊥
statement_in_place count line s says few (late_statement word many) = omega (arith, few, many)
statement_in_place count line s says few (early_goal word none) = let both = sym (statement_word line s says) ∙ word in absurd cc

goal_in_place : (count : ℕ) (line : List ℕ) (goal : Goal) (proof : ProofView) → IsLineIn Inquiry line (asked.Goal goal proof) → 1 ≤ count → IsOutOfPlace count line → ⊥
goal_in_place count line goal proof asks some (late_statement word many) = let both = sym (goal_word line goal proof asks) ∙ word in absurd cc
goal_in_place count line goal proof asks some (early_goal word none) = omega (arith, some, none)

not_late : (count : ℕ) (line : List ℕ) → count < 64 → ((first_cut line).word ≡ codes "goal" → ⊥) → IsOutOfPlace count line → ⊥
not_late count line few other (late_statement word many) = omega (arith, few, many)
not_late count line few other (early_goal word none) = other word

not_early : (count : ℕ) (line : List ℕ) → 1 ≤ count → ((first_cut line).word ≡ codes "statement" → ⊥) → IsOutOfPlace count line → ⊥
not_early count line some other (late_statement word many) = other word
not_early count line some other (early_goal word none) = omega (arith, some, none)

neither : (count : ℕ) (line : List ℕ) → ((first_cut line).word ≡ codes "statement" → ⊥) → ((first_cut line).word ≡ codes "goal" → ⊥) → IsOutOfPlace count line → ⊥
neither count line other another (late_statement word many) = other word
neither count line other another (early_goal word none) = another word

-- a line may come there or not
in_or_out : (count : ℕ) (line : List ℕ) → IsOutOfPlace count line ⊎ (IsOutOfPlace count line → ⊥)
in_or_out count line =
    ⊎_elim
    (λ is_statement.
    ⊎_elim (λ few. inr (λ out. not_late count line few (λ word. let both = sym ((bytes_eq-Decides (first_cut line).word (codes "statement")).0 is_statement) ∙ word in absurd cc) out))
    (λ many. inl (late_statement ((bytes_eq-Decides (first_cut line).word (codes "statement")).0 is_statement) many)) (cases_lt count 64))
    (λ other.
    ⊎_elim
    (λ is_goal.
    ⊎_elim (λ none. inl (early_goal ((bytes_eq-Decides (first_cut line).word (codes "goal")).0 is_goal) (omega (arith, none))))
    (λ some. inr (λ out. not_early count line some (λ word. false≢true (sym other ∙ (bytes_eq-Decides (first_cut line).word (codes "statement")).1 word)) out)) (cases_lt count 1))
    (λ no_goal_word. inr (λ out. neither count line (λ word. false≢true (sym other ∙ (bytes_eq-Decides (first_cut line).word (codes "statement")).1 word))
    (λ word. false≢true (sym no_goal_word ∙ (bytes_eq-Decides (first_cut line).word (codes "goal")).1 word)) out))
    (cases_Bool (bytes_eq (first_cut line).word (codes "goal"))))
    (cases_Bool (bytes_eq (first_cut line).word (codes "statement")))

-- what may come there and asks for something is not wrong there
not_bad : (count : ℕ) (line : List ℕ) (asked_for : Line) (fault : LineFault) → (IsOutOfPlace count line → ⊥) → IsLineIn Inquiry line asked_for → IsBadAfter count line fault → ⊥
not_bad count line asked_for fault in_place asks (out_of_place out) = in_place out
not_bad count line asked_for fault in_place asks (faulty fault' placed bad) = line_or_fault asks bad

stop_bad : (count : ℕ) (bad : List ℕ) (rest : List (List ℕ)) (fault : LineFault) → IsBadAfter count bad fault → IsStop count (bad ∷ rest)
stop_bad count bad rest fault is line others s same says few =
    not_bad count line (asked.Statement s) fault (statement_in_place count line s says few) says (subst (λ (l : List ℕ). IsBadAfter count l fault) (head_same bad line rest others same) is)

-- ---- lines are parted in one way

same_said : (count : ℕ) (said rest said' rest' : List (List ℕ)) (statements statements' : List StatementView) → said ++ rest ≡ said' ++ rest' → AreSaid said statements → AreSaid said' statements' → count + length said ≤ 64 → count + length said' ≤ 64 →
    IsStop (count + length said) rest → IsStop (count + length said') rest' → (said ≡ said') × (rest ≡ rest')
same_said count [] rest [] rest' statements statements' same are are' few few' stop stop' = (refl, same)
same_said count [] rest (line ∷ said') rest' statements [] same are are' few few' stop stop' = absurd are'
same_said count [] rest (line ∷ said') rest' statements (s ∷ statements') same are are' few few' stop stop' = absurd (stop line (said' ++ rest') s same are'.0 (omega (arith, few')))
same_said count (line ∷ said) rest [] rest' [] statements' same are are' few few' stop stop' = absurd are
same_said count (line ∷ said) rest [] rest' (s ∷ statements) statements' same are are' few few' stop stop' = absurd (stop' line (said ++ rest) s (sym same) are.0 (omega (arith, few)))
same_said count (line ∷ said) rest (line' ∷ said') rest' [] statements' same are are' few few' stop stop' = absurd are
same_said count (line ∷ said) rest (line' ∷ said') rest' (s ∷ statements) [] same are are' few few' stop stop' = absurd are'
same_said count (line ∷ said) rest (line' ∷ said') rest' (s ∷ statements) (s' ∷ statements') same are are' few few' stop stop' =
    let one : count + length (line ∷ said) ≡ count + 1 + length said = omega arith in
    let one' : count + length (line' ∷ said') ≡ count + 1 + length said' = omega arith in
    let others = same_said (count + 1) said rest said' rest' statements statements' (tail_same line line' (said ++ rest) (said' ++ rest') same) are.1 are'.1 (omega (arith, few)) (omega (arith, few'))
    (subst (λ (n : ℕ). IsStop n rest) one stop) (subst (λ (n : ℕ). IsStop n rest') one' stop') in (
      ap (λ (l : List ℕ). l ∷ said) (head_same line line' (said ++ rest) (said' ++ rest') same) ∙ ap (λ (ls : List (List ℕ)). line' ∷ ls) others.0,
      others.1,
    )

from_zero : (n : ℕ) → n ≡ 0 + n
from_zero n = omega arith

same_parts : (said rest said' rest' : List (List ℕ)) (statements statements' : List StatementView) → said ++ rest ≡ said' ++ rest' → AreSaid said statements → AreSaid said' statements' → length said ≤ 64 → length said' ≤ 64 →
    IsStop (length said) rest → IsStop (length said') rest' → (said ≡ said') × (rest ≡ rest')
same_parts said rest said' rest' statements statements' same are are' few few' stop stop' =
    same_said 0 said rest said' rest' statements statements' same are are' (omega (arith, few)) (omega (arith, few')) (subst (λ (n : ℕ). IsStop n rest) (from_zero (length said)) stop) (subst (λ (n : ℕ). IsStop n rest') (from_zero (length said')) stop')

same_statement : (line : List ℕ) (s s' : StatementView) → SaysStatement line s → SaysStatement line s' → s ≡ s'
same_statement line s s' says says' = let both : asked.Statement s ≡ asked.Statement s' = one_line says says' in cc

same_statements : (said : List (List ℕ)) (statements statements' : List StatementView) → AreSaid said statements → AreSaid said statements' → statements ≡ statements'
same_statements [] [] [] are are' = refl
same_statements [] [] (s' ∷ statements') are are' = absurd are'
same_statements [] (s ∷ statements) statements' are are' = absurd are
same_statements (line ∷ said) [] statements' are are' = absurd are
same_statements (line ∷ said) (s ∷ statements) [] are are' = absurd are'
same_statements (line ∷ said) (s ∷ statements) (s' ∷ statements') are are' =
    ap (λ (t : StatementView). t ∷ statements) (same_statement line s s' are.0 are'.0) ∙ ap (λ (ts : List StatementView). s' ∷ ts) (same_statements said statements statements' are.1 are'.1)

-- ---- laws

-- where the statements of an inquiry end
few_said : (lines : List (List ℕ)) (statements : List StatementView) (goal : Goal) (proof : ProofView) (is : IsInquiry lines statements goal proof) → length is.said ≤ 64
few_said lines statements goal proof is = omega (arith, is.few, length-said is.said statements is.are_said)

some_said : (lines : List (List ℕ)) (statements : List StatementView) (goal : Goal) (proof : ProofView) (is : IsInquiry lines statements goal proof) → 1 ≤ length is.said
some_said lines statements goal proof is = omega (arith, is.some, length-said is.said statements is.are_said)

same_goal : (last : List ℕ) (goal other : Goal) (proof another : ProofView) → IsLineIn Inquiry last (asked.Goal goal proof) → IsLineIn Inquiry last (asked.Goal other another) → (goal ≡ other) × (proof ≡ another)
same_goal last goal other proof another asks asks' = let both : asked.Goal goal proof ≡ asked.Goal other another = one_line asks asks' in (cc, cc)

pub one_inquiry : (lines : List (List ℕ)) (first second : List StatementView) (goal other : Goal) (proof another : ProofView) → IsInquiry lines first goal proof → IsInquiry lines second other another → (first ≡ second) × (goal ≡ other) × (proof ≡ another)
one_inquiry lines first second goal other proof another is is' =
    let parts = same_parts is.said (is.last ∷ []) is'.said (is'.last ∷ []) first second (sym is.parts ∙ is'.parts) is.are_said is'.are_said (few_said lines first goal proof is) (few_said lines second other another is')
    (stop_goal (length is.said) is.last [] goal proof is.asks) (stop_goal (length is'.said) is'.last [] other another is'.asks) in
    let goals = same_goal is'.last goal other proof another (subst (λ (l : List ℕ). IsLineIn Inquiry l (asked.Goal goal proof)) (head_same is.last is'.last [] [] parts.1) is.asks) is'.asks in
    (same_statements is'.said first second (subst (λ (ls : List (List ℕ)). AreSaid ls first) parts.0 is.are_said) is'.are_said, goals.0, goals.1)

-- what a first fault says of the lines: the statements before it, and what stops them
data IsFaultAt (count : ℕ) : List (List ℕ) → ℕ → LineFault → Type 0 where
  at_line : (bad : List ℕ) (rest : List (List ℕ)) (fault : LineFault) → IsBadAfter count bad fault → IsFaultAt count (bad ∷ rest) (count + 1) fault
  at_next : (last next : List ℕ) (rest : List (List ℕ)) (goal : Goal) (proof : ProofView) → 1 ≤ count → IsLineIn Inquiry last (asked.Goal goal proof) → IsFaultAt count (last ∷ next ∷ rest) (count + 2) (BadWord 0)
  at_end : IsFaultAt count [] (count + 1) (BadWord 0)

record IsParted (lines : List (List ℕ)) (number : ℕ) (fault : LineFault) : Type 0 where
  said : List (List ℕ)
  statements : List StatementView
  rest : List (List ℕ)
  parts : lines ≡ said ++ rest
  are_said : AreSaid said statements
  few : length said ≤ 64
  at : IsFaultAt (length said) rest number fault

parted : (lines : List (List ℕ)) (number : ℕ) (fault : LineFault) → HasFirstFault lines number fault → IsParted lines number fault
parted lines number fault (in_line said statements bad rest fault' parts are few is) =
    record { said = said; statements = statements; rest = bad ∷ rest; parts = parts; are_said = are; few = few; at = at_line bad rest fault is }
parted lines number fault (after_goal said statements last next rest goal proof parts are some few asks) =
    record { said = said; statements = statements; rest = last ∷ next ∷ rest; parts = parts; are_said = are; few = few; at = at_next last next rest goal proof some asks }
parted lines number fault (no_goal statements are few) =
    record { said = lines; statements = statements; rest = []; parts = sym (append-nil lines); are_said = are; few = few; at = at_end }

stop_at : (count : ℕ) (rest : List (List ℕ)) (number : ℕ) (fault : LineFault) → IsFaultAt count rest number fault → IsStop count rest
stop_at count rest number fault (at_line bad others fault' is) = stop_bad count bad others fault is
stop_at count rest number fault (at_next last next others goal proof some asks) = stop_goal count last (next ∷ others) goal proof asks
stop_at count rest number fault at_end = stop_none count

same_bad : (count : ℕ) (bad : List ℕ) (first second : LineFault) → IsBadAfter count bad first → IsBadAfter count bad second → first ≡ second
same_bad count bad first second (out_of_place out) (out_of_place out') = refl
same_bad count bad first second (out_of_place out) (faulty fault placed is) = absurd (placed out)
same_bad count bad first second (faulty fault placed is) (out_of_place out) = absurd (placed out)
same_bad count bad first second (faulty fault placed is) (faulty fault' placed' is') = one_fault is second is'

same_at : (count : ℕ) (rest rest' : List (List ℕ)) (first second : ℕ) (fault other : LineFault) → rest ≡ rest' → IsFaultAt count rest first fault → IsFaultAt count rest' second other → (first ≡ second) × (fault ≡ other)
same_at count rest rest' first second fault other same (at_line bad others fault' is) (at_line bad' others' other' is') =
    (refl, same_bad count bad' fault other (subst (λ (l : List ℕ). IsBadAfter count l fault) (head_same bad bad' others others' same) is) is')
same_at count rest rest' first second fault other same (at_line bad others fault' is) (at_next last next others' goal proof some asks) =
    absurd (not_bad count last (asked.Goal goal proof) fault (goal_in_place count last goal proof asks some) asks (subst (λ (l : List ℕ). IsBadAfter count l fault) (head_same bad last others (next ∷ others') same) is))
same_at count rest rest' first second fault other same (at_line bad others fault' is) at_end = absurd cc
same_at count rest rest' first second fault other same (at_next last next others goal proof some asks) (at_line bad' others' other' is') =
    absurd (not_bad count last (asked.Goal goal proof) other (goal_in_place count last goal proof asks some) asks (subst (λ (l : List ℕ). IsBadAfter count l other) (sym (head_same last bad' (next ∷ others) others' same)) is'))
same_at count rest rest' first second fault other same (at_next last next others goal proof some asks) (at_next last' next' others' goal' proof' some' asks') = (refl, refl)
same_at count rest rest' first second fault other same (at_next last next others goal proof some asks) at_end = absurd cc
same_at count rest rest' first second fault other same at_end (at_line bad' others' other' is') = absurd cc
same_at count rest rest' first second fault other same at_end (at_next last' next' others' goal' proof' some' asks') = absurd cc
same_at count rest rest' first second fault other same at_end at_end = (refl, refl)

pub one_first_fault : (lines : List (List ℕ)) (first second : ℕ) (fault other : LineFault) → HasFirstFault lines first fault → HasFirstFault lines second other → (first ≡ second) × (fault ≡ other)
one_first_fault lines first second fault other has has' =
    let is = parted lines first fault has in
    let is' = parted lines second other has' in
    let parts = same_parts is.said is.rest is'.said is'.rest is.statements is'.statements (sym is.parts ∙ is'.parts) is.are_said is'.are_said is.few is'.few (stop_at (length is.said) is.rest first fault is.at) (stop_at (length is'.said) is'.rest second other is'.at) in
    same_at (length is'.said) is.rest is'.rest first second fault other parts.1 (subst (λ (ls : List (List ℕ)). IsFaultAt (length ls) is.rest first fault) parts.0 is.at) is'.at

no_fault_at : (count : ℕ) (last : List ℕ) (rest : List (List ℕ)) (number : ℕ) (fault : LineFault) (goal : Goal) (proof : ProofView) → last ∷ [] ≡ rest → 1 ≤ count → IsLineIn Inquiry last (asked.Goal goal proof) → IsFaultAt count rest number fault → ⊥
no_fault_at count last rest number fault goal proof same some asks (at_line bad others fault' is) =
    not_bad count last (asked.Goal goal proof) fault (goal_in_place count last goal proof asks some) asks (subst (λ (l : List ℕ). IsBadAfter count l fault) (sym (head_same last bad [] others same)) is)
no_fault_at count last rest number fault goal proof same some asks (at_next last' next others goal' proof' some' asks') = let none = tail_same last last' [] (next ∷ others) same in absurd cc
no_fault_at count last rest number fault goal proof same some asks at_end = absurd cc

pub no_fault_of_inquiry : (lines : List (List ℕ)) (statements : List StatementView) (goal : Goal) (proof : ProofView) (number : ℕ) (fault : LineFault) → IsInquiry lines statements goal proof → HasFirstFault lines number fault → ⊥
no_fault_of_inquiry lines statements goal proof number fault is has =
    let at = parted lines number fault has in
    let parts = same_parts is.said (is.last ∷ []) at.said at.rest statements at.statements (sym is.parts ∙ at.parts) is.are_said at.are_said (few_said lines statements goal proof is) at.few
    (stop_goal (length is.said) is.last [] goal proof is.asks) (stop_at (length at.said) at.rest number fault at.at) in
    no_fault_at (length is.said) is.last at.rest number fault goal proof parts.1 (some_said lines statements goal proof is) is.asks
    (subst (λ (ls : List (List ℕ)). IsFaultAt (length ls) at.rest number fault) (sym parts.0) at.at)

-- ---- an inquiry, or a first fault

abbrev IsEither : List (List ℕ) → Type 0
IsEither lines = ((statements : List StatementView) × (goal : Goal) × (proof : ProofView) × IsInquiry lines statements goal proof) ⊎ ((number : ℕ) × (fault : LineFault) × HasFirstFault lines number fault)

module _ (lines : List (List ℕ)) where
  at_goal : (said : List (List ℕ)) (statements : List StatementView) (line : List ℕ) (others : List (List ℕ)) (goal : Goal) (proof : ProofView) → lines ≡ said ++ line ∷ others → AreSaid said statements → length said ≤ 64 → 1 ≤ length said →
      IsLineIn Inquiry line (asked.Goal goal proof) → IsEither lines
  at_goal said statements line [] goal proof parts are few some asks =
      let count = length-said said statements are in
      inl (statements, goal, proof, record { said = said; last = line; parts = parts; are_said = are; some = omega (arith, some, count); few = omega (arith, few, count); asks = asks })
  at_goal said statements line (next ∷ others) goal proof parts are few some asks =
      inr (length said + 2, BadWord 0, after_goal said statements line next others goal proof parts are some few asks)

  by_asked : (said : List (List ℕ)) (statements : List StatementView) (line : List ℕ) (others : List (List ℕ)) (asked_for : Line) → lines ≡ said ++ line ∷ others → AreSaid said statements → length said ≤ 64 →
      ((s : StatementView) → SaysStatement line s → length said < 64 → IsEither lines) → IsLineIn Inquiry line asked_for → (IsOutOfPlace (length said) line → ⊥) → IsSaidInInquiry asked_for → IsEither lines
  by_asked said statements line others (asked.Command command) parts are few go_on asks placed is_said = absurd is_said
  by_asked said statements line others (asked.Login who signature) parts are few go_on asks placed is_said = absurd is_said
  by_asked said statements line others (asked.Statement s) parts are few go_on asks placed is_said = go_on s asks (statement_few (length said) line s (record { in_place = placed; asks = asks }))
  by_asked said statements line others (asked.Goal goal proof) parts are few go_on asks placed is_said =
      at_goal said statements line others goal proof parts are few (goal_some (length said) line goal proof (record { in_place = placed; asks = asks })) asks

  by_line : (said : List (List ℕ)) (statements : List StatementView) (line : List ℕ) (others : List (List ℕ)) → lines ≡ said ++ line ∷ others → AreSaid said statements → length said ≤ 64 →
      ((s : StatementView) → SaysStatement line s → length said < 64 → IsEither lines) → IsEither lines
  by_line said statements line others parts are few go_on =
      ⊎_elim
      (λ out. inr (length said + 1, BadCount, in_line said statements line others BadCount parts are few (out_of_place out)))
      (λ placed.
      ⊎_elim
      (λ one. by_asked said statements line others one.0 parts are few go_on one.1 placed (said_in_mode one.1))
      (λ bad. inr (length said + 1, bad.0, in_line said statements line others bad.0 parts are few (faulty bad.0 placed bad.1)))
      (line_or_a_fault Inquiry line))
      (in_or_out (length said) line)

  either_from : (said rest : List (List ℕ)) (statements : List StatementView) → lines ≡ said ++ rest → AreSaid said statements → length said ≤ 64 → IsEither lines
  either_from said [] statements parts are few =
      let same : said ≡ lines = sym (parts ∙ append-nil said) in
      inr (length lines + 1, BadWord 0, no_goal statements (subst (λ (ls : List (List ℕ)). AreSaid ls statements) same are) (subst (λ (ls : List (List ℕ)). length ls ≤ 64) same few))
  either_from said (line ∷ others) statements parts are few =
      by_line said statements line others parts are few
      (λ s says fewer. either_from (said ++ line ∷ []) others (statements ++ s ∷ []) (parts ∙ sym (append_assoc said (line ∷ []) others)) (said_more said statements line s are says) (omega (arith, fewer, length-append said (line ∷ []))))

pub inquiry_or_fault : (lines : List (List ℕ)) → IsEither lines
inquiry_or_fault lines = either_from lines [] lines [] refl tt (omega arith)
