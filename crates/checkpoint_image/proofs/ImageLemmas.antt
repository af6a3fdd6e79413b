-- Images: what is read is spelled so, and what is spelled so is read.
use Rattle.std.proofs.Common.{◌≡◌, ℕ, ℤ, ◌-◌, ◌^◌, false, cond, eqb, List, [], ◌∷◌, ◌++◌, length, map, Result, Ok, Err, refl, sym, ap, subst, ◌∙◌, append_assoc, arith}
use Rattle.std.specs.Prelude.{IsErr, ◌&&◌, nat_lt, nat_le}
use Rattle.std.specs.Int.{w32}
use Rattle.std.specs.List.{AllByRecursion}
use Rattle.std.proofs.lemmas.Bool.{eqb-true, ltb-true, lt-ltb, leb-true, le-leb, and_parts, and_from}
use Rattle.std.proofs.lemmas.List.{append-nil, length-append, length-map}
use Rattle.bl_syntax.specs.declared.codec_fault.CodecFault.{CodecFault}
use Rattle.bl_syntax.specs.declared.codec_fault.CodecFault.TheVariants as faults
use Rattle.bl_syntax.specs.TimeOrder.{IsMoment}
use Rattle.bl_syntax.specs.Reading.{◌>>=◌, Reading, place}
use Rattle.bl_syntax.specs.Codec.{AreBytes, IsCodec}
use Rattle.bl_syntax.proofs.CodecLemmas.{bind_ok, by_test, ok_is, bind_memoryless, AreBytes-rest, AreBytes-behind, codec}
use Rattle.bl_syntax.proofs.FieldLemmas.{wide32, number_again}
use Rattle.procap.specs.GrantReading.{both_at}
use Rattle.procap.specs.Procap.{at_end}
use Rattle.procap.proofs.ItemsLemmas.{test_memoryless}
use Rattle.procap.proofs.PartLemmas.{both_spelling, AreBoth, both_codec}
use Rattle.policy_statement.specs.Registered.{RegisteredView}
use Rattle.policy_statement.specs.Withdrawal.{withdrawn_from}
use Rattle.file_world.specs.World.{Item}
use Rattle.access_history.specs.declared.event.Issue.{Issue}
use Rattle.access_history.specs.Base.{BaseView}
use Rattle.record_parts.specs.Fields.{u32_at, u64_at, number_spelling, IsSpellableNumber, moment_spelling, moment_field_at}
use Rattle.record_parts.specs.RecordSpelling.{Registration, IsRegistration, registration_spelling, cited_spelling, Issuing, IsIssuing, issuing_spelling}
use Rattle.record_parts.specs.RecordReading.{registered_at, issued_at}
use Rattle.record_parts.proofs.CodecLemmas.{done, made_codec, remade_codec}
use Rattle.record_parts.proofs.FieldsLemmas.{u32_codec, u64_codec, moment_codec}
use Rattle.record_parts.proofs.RecordLemmas.{registered_codec, issued_codec}
use Rattle.checkpoint_image.specs.NodeSpelling.{nodes_spelling, AreSpellableNodes}
use Rattle.checkpoint_image.specs.NodeReading.{nodes_at}
use Rattle.checkpoint_image.specs.Chain.{long_list_spelling}
use Rattle.checkpoint_image.specs.WithdrawnNumbers.{AreStanding, withdrawn_numbers_spelling, IsNumberWithin, withdrawn_number_at, number_left, withdrawn_numbers_at, AreWithdrawnNumbers}
use Rattle.checkpoint_image.specs.ImageSpelling.{head_spelling, entry_spelling, IsSpellableEntry, statements_spelling, issue_spelling, IsSpellableIssue, issues_spelling, fields_spelling, image_spelling, AreSpelledIn, IsSpellableImage, AreFieldsOf}
use Rattle.checkpoint_image.specs.ImageReading.{counts_at, head_at, entry_of, entry_at, statements_at, issue_of, issue_at, issues_at, issues_and_nodes_at, lists_at, parts_at, base_of_parts, fields_at, with_withdrawn, state_at, image_at, whole_image}
use Rattle.checkpoint_image.proofs.ChainLemmas.{alone_codec, long_codec}
use Rattle.checkpoint_image.proofs.NodeLemmas.{nodes_codec}
use Rattle.checkpoint_image.proofs.WithdrawnLemmas.{statements_spelling-marked_all, AreSpelledIn-marked_all, standing, with_mark, all_standing, statements_spelling-standing, AreSpelledIn-standing, numbers_of_marks, marks_of_numbers, numbers_of_entries}

-- ---- the head

abbrev AreCounts : ℕ × ℕ → Type 0
AreCounts = AreBoth IsSpellableNumber IsSpellableNumber

abbrev counts_spelling : ℕ × ℕ → List ℕ
counts_spelling = both_spelling number_spelling number_spelling

counts_codec : IsCodec AreCounts counts_spelling (λ input. counts_at)
unfolding both_at counts_at
counts_codec = both_codec IsSpellableNumber number_spelling (λ input. u64_at) IsSpellableNumber number_spelling (λ input. u64_at) u64_codec u64_codec

abbrev IsHead : ℤ × (ℕ × ℕ) → Type 0
IsHead = AreBoth IsMoment AreCounts

abbrev heads_spelling : ℤ × (ℕ × ℕ) → List ℕ
heads_spelling = both_spelling moment_spelling counts_spelling

head_codec : IsCodec IsHead heads_spelling head_at
unfolding both_at head_at
head_codec = both_codec IsMoment moment_spelling moment_field_at AreCounts counts_spelling (λ input. counts_at) moment_codec counts_codec

-- ---- statements and issues

abbrev registration_of : RegisteredView → Registration
registration_of entry = (entry.statement, entry.signature)

-- an entry of which its registration tells all
abbrev IsStandingEntry : RegisteredView → Type 0
IsStandingEntry entry = IsSpellableEntry entry × (entry.withdrawn ≡ false)

-- an entry that was not withdrawn comes back
comes_back : (entry : RegisteredView) → IsStandingEntry entry → entry_of (registration_of entry) ≡ entry
comes_back entry h = ap (with_mark entry) (sym h.1)

entry_codec : IsCodec IsStandingEntry entry_spelling entry_at
entry_codec = remade_codec IsRegistration registration_spelling registered_at IsStandingEntry entry_spelling entry_of registration_of registered_codec (λ r h. (h, refl)) (λ entry h. h.0) (λ r. refl) comes_back

statements_codec : IsCodec (AreSpelledIn IsStandingEntry) statements_spelling statements_at
statements_codec = alone_codec IsStandingEntry entry_spelling entry_at entry_codec

each_spelled : (entries : List RegisteredView) → AllByRecursion IsStandingEntry entries → AllByRecursion IsSpellableEntry entries
each_spelled [] h = tt
each_spelled (entry ∷ entries) h = (h.0.0, each_spelled entries h.1)

each_stands : (entries : List RegisteredView) → AllByRecursion IsStandingEntry entries → AreStanding entries
each_stands [] h = tt
each_stands (entry ∷ entries) h = (h.0.1, each_stands entries h.1)

each_standing : (entries : List RegisteredView) → AllByRecursion IsSpellableEntry entries → AreStanding entries → AllByRecursion IsStandingEntry entries
each_standing [] spelled stands = tt
each_standing (entry ∷ entries) spelled stands = ((spelled.0, stands.0), each_standing entries spelled.1 stands.1)

abbrev issuing_of : Issue → Issuing
issuing_of issue = (issue.cited, (issue.proof, issue.grant))

issue_codec : IsCodec IsSpellableIssue issue_spelling issue_at
issue_codec = made_codec IsIssuing issuing_spelling issued_at IsSpellableIssue issue_spelling issue_of issuing_of issued_codec (λ i h. h) (λ issue h. h) (λ i. refl) (λ issue. refl)

issues_codec : IsCodec (AreSpelledIn IsSpellableIssue) issues_spelling issues_at
issues_codec = alone_codec IsSpellableIssue issue_spelling issue_at issue_codec

-- ---- all lists

abbrev AreIssuesAndNodes : List Issue × List (ℕ × Item) → Type 0
AreIssuesAndNodes = AreBoth (AreSpelledIn IsSpellableIssue) AreSpellableNodes

abbrev issues_and_nodes_spelling : List Issue × List (ℕ × Item) → List ℕ
issues_and_nodes_spelling = both_spelling issues_spelling nodes_spelling

issues_and_nodes_codec : IsCodec AreIssuesAndNodes issues_and_nodes_spelling issues_and_nodes_at
unfolding both_at issues_and_nodes_at
issues_and_nodes_codec = both_codec (AreSpelledIn IsSpellableIssue) issues_spelling issues_at AreSpellableNodes nodes_spelling nodes_at issues_codec nodes_codec

abbrev AreLists : List RegisteredView × (List Issue × List (ℕ × Item)) → Type 0
AreLists = AreBoth (AreSpelledIn IsStandingEntry) AreIssuesAndNodes

abbrev lists_spelling : List RegisteredView × (List Issue × List (ℕ × Item)) → List ℕ
lists_spelling = both_spelling statements_spelling issues_and_nodes_spelling

lists_codec : IsCodec AreLists lists_spelling lists_at
unfolding both_at lists_at
lists_codec = both_codec (AreSpelledIn IsStandingEntry) statements_spelling statements_at AreIssuesAndNodes issues_and_nodes_spelling issues_and_nodes_at statements_codec issues_and_nodes_codec

-- ---- the fields

abbrev Parts : Type 0
Parts = (ℤ × (ℕ × ℕ)) × (List RegisteredView × (List Issue × List (ℕ × Item)))

parts_codec : IsCodec (AreBoth IsHead AreLists) (both_spelling heads_spelling lists_spelling) parts_at
unfolding both_at parts_at
parts_codec = both_codec IsHead heads_spelling head_at AreLists lists_spelling lists_at head_codec lists_codec

abbrev parts_of_base : BaseView → Parts
parts_of_base base = ((base.moment, (base.count, base.world.next)), (base.statements, (base.issues, base.world.rows)))

fields_from : (p : Parts) → AreBoth IsHead AreLists p → AreFieldsOf (base_of_parts p)
fields_from p h = record {
  spelled = record {
    moment = h.0.0;
    count = h.0.1.0;
    next = h.0.1.1;
    statements = record { few = h.1.0.few; each = each_spelled p.1.0 h.1.0.each };
    issues = h.1.1.0;
    nodes = h.1.1.1;
  };
  standing = each_stands p.1.0 h.1.0.each;
}

fields_are : (base : BaseView) → AreFieldsOf base → AreBoth IsHead AreLists (parts_of_base base)
fields_are base h =
    let is = h.spelled in
    ((is.moment, (is.count, is.next)), (record { few = is.statements.few; each = each_standing base.statements is.statements.each h.standing }, (is.issues, is.nodes)))

pub fields_codec : IsCodec AreFieldsOf fields_spelling fields_at
unfolding head_spelling fields_spelling
fields_codec =
    made_codec (AreBoth IsHead AreLists) (both_spelling heads_spelling lists_spelling) parts_at AreFieldsOf fields_spelling base_of_parts parts_of_base
    parts_codec fields_from fields_are (λ p. refl) (λ base. refl)

-- a state with other statements
abbrev with_statements : BaseView → List RegisteredView → BaseView
with_statements base entries = record { world = base.world; statements = entries; issues = base.issues; moment = base.moment; count = base.count }

same_fields : (base : BaseView) (entries : List RegisteredView) → statements_spelling entries ≡ statements_spelling base.statements → fields_spelling (with_statements base entries) ≡ fields_spelling base
unfolding fields_spelling
same_fields base entries same =
    ap (λ (bytes : List ℕ). head_spelling base.moment base.count base.world.next ++ (bytes ++ (issues_spelling base.issues ++ nodes_spelling base.world.rows))) same

spellable_with : (base : BaseView) (entries : List RegisteredView) → AreSpelledIn IsSpellableEntry entries → IsSpellableImage base → IsSpellableImage (with_statements base entries)
spellable_with base entries spelled h = record { moment = h.moment; count = h.count; next = h.next; statements = spelled; issues = h.issues; nodes = h.nodes }

-- ---- the numbers of the withdrawn statements

number_found : (most previous input : ℕ) (bytes rest : List ℕ) (number : ℕ) → AreBytes bytes → withdrawn_number_at most previous input bytes ≡ Ok (number, rest)
    → IsNumberWithin most previous number × (bytes ≡ cited_spelling number ++ rest)
unfolding withdrawn_number_at
number_found most previous input bytes rest number fits e =
    let a = bind_ok (u32_at bytes) (λ n. cond (nat_lt previous n.0 && nat_le n.0 most) (done n) (Err (faults.NotCanonical (place input bytes)))) (number, rest) e in
    by_test (nat_lt previous a.0.0 && nat_le a.0.0 most) _ _ _ a.2 (λ is found.
    let both = and_parts (nat_lt previous a.0.0) (nat_le a.0.0 most) is in
    let it = u32_codec.found input bytes a.0.1 a.0.0 fits a.1 in
    let within : IsNumberWithin most previous a.0.0 = record { above = ltb-true previous a.0.0 both.0; within = leb-true a.0.0 most both.1; spelled = it.0 } in
    subst (λ (p : ℕ × List ℕ). IsNumberWithin most previous p.0 × (bytes ≡ cited_spelling p.0 ++ p.1)) (ok_is a.0 (number, rest) found) (within, it.1)) (λ _ fault. absurd cc)

number_read : (most previous input number : ℕ) (rest : List ℕ) → IsNumberWithin most previous number → withdrawn_number_at most previous input (cited_spelling number ++ rest) ≡ Ok (number, rest)
unfolding withdrawn_number_at
number_read most previous input number rest h =
    rw (number_again w32 (2 ^ 32) wide32 number rest h.spelled, and_from (nat_lt previous number) (nat_le number most) (lt-ltb previous number h.above) (le-leb number most h.within)) refl

number_memoryless : (most previous input : ℕ) (bytes : List ℕ) → withdrawn_number_at most previous input bytes ≡ Err faults.NoMemory → ⊥
unfolding withdrawn_number_at
number_memoryless most previous input bytes e =
    bind_memoryless (u32_at bytes) (λ n. cond (nat_lt previous n.0 && nat_le n.0 most) (done n) (Err (faults.NotCanonical (place input bytes)))) (u32_codec.memoryless input bytes)
    (λ n h. test_memoryless (nat_lt previous n.0 && nat_le n.0 most) _ _ (λ k. cc) (λ k. cc) h) e

number_codec : (most previous : ℕ) → IsCodec (IsNumberWithin most previous) cited_spelling (withdrawn_number_at most previous)
number_codec most previous =
    codec (IsNumberWithin most previous) cited_spelling (withdrawn_number_at most previous) (number_found most previous) (λ input number rest h. number_read most previous input number rest h) (number_memoryless most previous)

pub numbers_codec : (most : ℕ) → IsCodec (AreWithdrawnNumbers most) (long_list_spelling cited_spelling) (withdrawn_numbers_at most)
numbers_codec most = long_codec (IsNumberWithin most) number_left 0 cited_spelling (withdrawn_number_at most) (number_codec most)

-- ---- a state: its fields, and these numbers

abbrev state_spelling : BaseView → List ℕ
state_spelling base = fields_spelling base ++ withdrawn_numbers_spelling base.statements

-- what the numbers make of the fields before them
abbrev then_numbers : ℕ → BaseView × List ℕ → Reading BaseView
then_numbers input fields = withdrawn_numbers_at (length fields.0.statements) input fields.1 >>= λ numbers. done (with_withdrawn fields.0 numbers.0, numbers.1)

-- a state that was marked is spelled as its fields and the numbers
marked_spelling : (base : BaseView) (numbers : List ℕ) → AreStanding base.statements → AreWithdrawnNumbers (length base.statements) numbers
    → state_spelling (with_withdrawn base numbers) ≡ fields_spelling base ++ long_list_spelling cited_spelling numbers
marked_spelling base numbers stands h =
    ap (λ (front : List ℕ). front ++ withdrawn_numbers_spelling (with_withdrawn base numbers).statements)
    (same_fields base (with_withdrawn base numbers).statements (statements_spelling-marked_all base.statements numbers))
    ∙ ap (λ (ns : List ℕ). fields_spelling base ++ long_list_spelling cited_spelling ns) (numbers_of_marks base.statements numbers stands h)

state_found : (input : ℕ) (bytes rest : List ℕ) (base : BaseView) → AreBytes bytes → state_at input bytes ≡ Ok (base, rest) → IsSpellableImage base × (bytes ≡ state_spelling base ++ rest)
unfolding state_at
state_found input bytes rest base fits e =
    let a = bind_ok (fields_at input bytes) (then_numbers input) (base, rest) e in
    let fields = fields_codec.found input bytes a.0.1 a.0.0 fits a.1 in
    let behind : AreBytes a.0.1 = AreBytes-behind (fields_spelling a.0.0) a.0.1 (subst AreBytes fields.1 fits) in
    let most : ℕ = length a.0.0.statements in
    let b = bind_ok (withdrawn_numbers_at most input a.0.1) (λ numbers. done (with_withdrawn a.0.0 numbers.0, numbers.1)) (base, rest) a.2 in
    let numbers = (numbers_codec most).found input a.0.1 b.0.1 b.0.0 behind b.1 in
    let same = marked_spelling a.0.0 b.0.0 fields.0.standing numbers.0 in
    let whole : bytes ≡ state_spelling (with_withdrawn a.0.0 b.0.0) ++ b.0.1 =
    fields.1 ∙ ap (λ (end : List ℕ). fields_spelling a.0.0 ++ end) numbers.1 ∙ sym (append_assoc (fields_spelling a.0.0) (long_list_spelling cited_spelling b.0.0) b.0.1)
    ∙ ap (λ (front : List ℕ). front ++ b.0.1) (sym same) in
    let spelled = fields.0.spelled in
    let spellable = spellable_with a.0.0 (with_withdrawn a.0.0 b.0.0).statements (AreSpelledIn-marked_all a.0.0.statements b.0.0 spelled.statements) spelled in
    subst (λ (p : BaseView × List ℕ). IsSpellableImage p.0 × (bytes ≡ state_spelling p.0 ++ p.1)) (ok_is (with_withdrawn a.0.0 b.0.0, b.0.1) (base, rest) b.2) (spellable, whole)

-- the state before the withdrawals
abbrev before_withdrawals : BaseView → BaseView
before_withdrawals base = with_statements base (map standing base.statements)

fields_before : (base : BaseView) → IsSpellableImage base → AreFieldsOf (before_withdrawals base)
fields_before base h = record {
  spelled = spellable_with base (map standing base.statements) (AreSpelledIn-standing base.statements h.statements) h;
  standing = all_standing base.statements;
}

numbers_before : (base : BaseView) → IsSpellableImage base → AreWithdrawnNumbers (length (before_withdrawals base).statements) (withdrawn_from 1 base.statements)
numbers_before base h =
    subst (λ (most : ℕ). AreWithdrawnNumbers most (withdrawn_from 1 base.statements)) (sym (length-map base.statements standing)) (numbers_of_entries base.statements h.statements.few)

state_again : (input : ℕ) (base : BaseView) (rest : List ℕ) → IsSpellableImage base → state_at input (state_spelling base ++ rest) ≡ Ok (base, rest)
unfolding state_at
state_again input base rest h =
    let before : BaseView = before_withdrawals base in
    let behind : List ℕ = withdrawn_numbers_spelling base.statements ++ rest in
    let same : fields_spelling before ≡ fields_spelling base = same_fields base (map standing base.statements) (statements_spelling-standing base.statements) in
    let front : state_spelling base ++ rest ≡ fields_spelling before ++ behind =
    append_assoc (fields_spelling base) (withdrawn_numbers_spelling base.statements) rest ∙ ap (λ (bytes : List ℕ). bytes ++ behind) (sym same) in
    let fields : fields_at input (fields_spelling before ++ behind) ≡ Ok (before, behind) = fields_codec.again input before behind (fields_before base h) in
    let numbers : withdrawn_numbers_at (length before.statements) input behind ≡ Ok (withdrawn_from 1 base.statements, rest) =
    (numbers_codec (length before.statements)).again input (withdrawn_from 1 base.statements) rest (numbers_before base h) in
    let restored : with_withdrawn before (withdrawn_from 1 base.statements) ≡ base = ap (with_statements base) (marks_of_numbers base.statements) in
    ap (λ (bytes : List ℕ). fields_at input bytes >>= then_numbers input) front
    ∙ ap (λ (read : Reading BaseView). read >>= then_numbers input) fields
    ∙ ap (λ (read : Reading (List ℕ)). read >>= λ ns. done (with_withdrawn before ns.0, ns.1)) numbers
    ∙ ap (λ (b : BaseView). done (b, rest)) restored

state_memoryless : (input : ℕ) (bytes : List ℕ) → state_at input bytes ≡ Err faults.NoMemory → ⊥
unfolding state_at
state_memoryless input bytes e =
    bind_memoryless (fields_at input bytes) (then_numbers input) (fields_codec.memoryless input bytes)
    (λ fields h. bind_memoryless (withdrawn_numbers_at (length fields.0.statements) input fields.1) (λ numbers. done (with_withdrawn fields.0 numbers.0, numbers.1))
    ((numbers_codec (length fields.0.statements)).memoryless input fields.1) (λ numbers k. cc) h) e

-- ---- an image

image_found : (input : ℕ) (bytes rest : List ℕ) (base : BaseView) → AreBytes bytes → image_at input bytes ≡ Ok (base, rest) → IsSpellableImage base × (bytes ≡ image_spelling base ++ rest)
unfolding image_at image_spelling
image_found input [] rest base fits e = absurd cc
image_found input (version ∷ more) rest base fits e =
    by_test (eqb version 2) _ _ _ e (λ is read.
    let it = state_found input more rest base (AreBytes-rest version more fits) read in
    (it.0, ap (λ (byte : ℕ). byte ∷ more) (eqb-true version 2 is) ∙ ap (λ (bytes : List ℕ). 2 ∷ bytes) it.1)) (λ _ fault. absurd cc)

image_again : (input : ℕ) (base : BaseView) (rest : List ℕ) → IsSpellableImage base → image_at input (image_spelling base ++ rest) ≡ Ok (base, rest)
unfolding image_at image_spelling
image_again input base rest h = state_again input base rest h

image_memoryless : (input : ℕ) (bytes : List ℕ) → image_at input bytes ≡ Err faults.NoMemory → ⊥
unfolding image_at
image_memoryless input [] e = cc
image_memoryless input (version ∷ more) e = test_memoryless (eqb version 2) _ _ (λ h. state_memoryless input more h) (λ h. cc) e

pub image_codec : IsCodec IsSpellableImage image_spelling image_at
image_codec = codec IsSpellableImage image_spelling image_at image_found image_again image_memoryless

-- ---- images that are the whole input

pub whole_again : (base : BaseView) → IsSpellableImage base → whole_image (image_spelling base) ≡ Ok base
unfolding whole_image
whole_again base h =
    let read : image_at (length (image_spelling base)) (image_spelling base) ≡ Ok (base, []) =
    ap (image_at (length (image_spelling base))) (sym (append-nil (image_spelling base))) ∙ image_codec.again (length (image_spelling base)) base [] h in
    rw read refl

abbrev not_canonical : ℕ → Result BaseView CodecFault
not_canonical at = Err (faults.NotCanonical at)

pub left_over : (base : BaseView) (byte : ℕ) (rest : List ℕ) → IsSpellableImage base → whole_image (image_spelling base ++ byte ∷ rest) ≡ Err (faults.NotCanonical (length (image_spelling base)))
unfolding whole_image
left_over base byte rest h =
    let bytes : List ℕ = image_spelling base ++ byte ∷ rest in
    let read : image_at (length bytes) bytes ≡ Ok (base, byte ∷ rest) = image_codec.again (length bytes) base (byte ∷ rest) h in
    let at : length bytes - length (byte ∷ rest) ≡ length (image_spelling base) = omega (arith, length-append (image_spelling base) (byte ∷ rest)) in
    ap (λ (r : Reading BaseView). r >>= at_end (length bytes)) read ∙ ap not_canonical at

nothing_is_more : (front rest : List ℕ) (byte : ℕ) → [] ≡ front ++ byte ∷ rest → ⊥
nothing_is_more front rest byte e = omega (arith, ap length e, length-append front (byte ∷ rest))

-- what is cut short spells nothing
pub cut : (base : BaseView) (input : ℕ) (front : List ℕ) (byte : ℕ) (rest : List ℕ) → AreBytes front → IsSpellableImage base → image_spelling base ≡ front ++ byte ∷ rest → IsErr (image_at input front)
cut base input front byte rest fits h is =
    (image_codec.refused input front fits).1 (λ other behind spelled e.
    let whole : image_spelling base ++ [] ≡ image_spelling other ++ (behind ++ byte ∷ rest) =
    append-nil (image_spelling base) ∙ is ∙ ap (λ (b : List ℕ). b ++ byte ∷ rest) e ∙ append_assoc (image_spelling other) behind (byte ∷ rest) in
    nothing_is_more behind rest byte (image_codec.apart base other [] (behind ++ byte ∷ rest) h spelled whole).1)
