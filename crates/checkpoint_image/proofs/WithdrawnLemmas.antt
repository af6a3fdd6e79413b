-- The numbers of the withdrawn statements, and the marks of those statements, undo each other.
use Rattle.std.proofs.Common.{◌≡◌, ◌≤◌, ◌<◌, ◌+◌, ◌^◌, ℕ, zero, suc, List, [], ◌∷◌, ◌++◌, length, map, Bool, true, false, cond, take, get_or, set, refl, sym, ap, ◌∙◌, append_assoc, arith}
use Rattle.std.specs.List.{AllByRecursion, flat_map}
use Rattle.std.specs.Int.{w32, to_be_bytes}
use Rattle.std.proofs.lemmas.List.{append-nil, length-append, length-map, length-take, take_all, take_more}
use Rattle.policy_statement.specs.Registered.{RegisteredView}
use Rattle.policy_statement.specs.Withdrawal.{ended, marked, withdrawn_from}
use Rattle.policy_statement.proofs.WithdrawalLemmas.{length-marked}
use Rattle.record_parts.specs.RecordSpelling.{cited_spelling}
use Rattle.checkpoint_image.specs.Chain.{AreChained}
use Rattle.checkpoint_image.specs.ImageSpelling.{entry_spelling, IsSpellableEntry, statements_spelling, AreSpelledIn}
use Rattle.checkpoint_image.specs.WithdrawnNumbers.{AreStanding, marked_all, number_if, IsNumberWithin, number_left, AreWithdrawnNumbers}

-- ---- what marks leave as it was

pub length-marked_all : (entries : List RegisteredView) (numbers : List ℕ) → length (marked_all entries numbers) ≡ length entries
length-marked_all entries [] = refl
length-marked_all entries (number ∷ numbers) = length-marked_all (marked entries number) numbers ∙ length-marked entries number

entries_spelled : (entries : List RegisteredView) (number : ℕ) → flat_map entry_spelling (marked entries number) ≡ flat_map entry_spelling entries
entries_spelled [] number = refl
entries_spelled (entry ∷ entries) zero = refl
entries_spelled (entry ∷ entries) (suc zero) = refl
entries_spelled (entry ∷ entries) (suc (suc number)) = ap (λ (bytes : List ℕ). entry_spelling entry ++ bytes) (entries_spelled entries (suc number))

statements_spelled : (entries : List RegisteredView) (number : ℕ) → statements_spelling (marked entries number) ≡ statements_spelling entries
statements_spelled entries number =
    ap (λ (count : ℕ). to_be_bytes w32 count ++ flat_map entry_spelling (marked entries number)) (length-marked entries number)
    ∙ ap (λ (bytes : List ℕ). to_be_bytes w32 (length entries) ++ bytes) (entries_spelled entries number)

-- statements are spelled without their marks
pub statements_spelling-marked_all : (entries : List RegisteredView) (numbers : List ℕ) → statements_spelling (marked_all entries numbers) ≡ statements_spelling entries
statements_spelling-marked_all entries [] = refl
statements_spelling-marked_all entries (number ∷ numbers) = statements_spelling-marked_all (marked entries number) numbers ∙ statements_spelled entries number

each_spellable : (entries : List RegisteredView) (number : ℕ) → AllByRecursion IsSpellableEntry entries → AllByRecursion IsSpellableEntry (marked entries number)
each_spellable [] number each = tt
each_spellable (entry ∷ entries) zero each = each
each_spellable (entry ∷ entries) (suc zero) each = each
each_spellable (entry ∷ entries) (suc (suc number)) each = (each.0, each_spellable entries (suc number) each.1)

all_spellable : (entries : List RegisteredView) (numbers : List ℕ) → AllByRecursion IsSpellableEntry entries → AllByRecursion IsSpellableEntry (marked_all entries numbers)
all_spellable entries [] each = each
all_spellable entries (number ∷ numbers) each = all_spellable (marked entries number) numbers (each_spellable entries number each)

pub AreSpelledIn-marked_all : (entries : List RegisteredView) (numbers : List ℕ) → AreSpelledIn IsSpellableEntry entries → AreSpelledIn IsSpellableEntry (marked_all entries numbers)
AreSpelledIn-marked_all entries numbers h =
    let same = length-marked_all entries numbers in
    record { few = omega (arith, same, h.few); each = all_spellable entries numbers h.each }

-- one mark more
pub marked_all-push : (entries : List RegisteredView) (numbers : List ℕ) (number : ℕ) → marked_all entries (numbers ++ number ∷ []) ≡ marked (marked_all entries numbers) number
marked_all-push entries [] number = refl
marked_all-push entries (first ∷ numbers) number = marked_all-push (marked entries first) numbers number

-- ---- the entries without their marks

abbrev pub standing : RegisteredView → RegisteredView
standing entry = record { statement = entry.statement; signature = entry.signature; withdrawn = false }

pub all_standing : (entries : List RegisteredView) → AreStanding (map standing entries)
all_standing [] = tt
all_standing (entry ∷ entries) = (refl, all_standing entries)

standing_spelled : (entries : List RegisteredView) → flat_map entry_spelling (map standing entries) ≡ flat_map entry_spelling entries
standing_spelled [] = refl
standing_spelled (entry ∷ entries) = ap (λ (bytes : List ℕ). entry_spelling entry ++ bytes) (standing_spelled entries)

pub statements_spelling-standing : (entries : List RegisteredView) → statements_spelling (map standing entries) ≡ statements_spelling entries
statements_spelling-standing entries =
    ap (λ (count : ℕ). to_be_bytes w32 count ++ flat_map entry_spelling (map standing entries)) (length-map entries standing)
    ∙ ap (λ (bytes : List ℕ). to_be_bytes w32 (length entries) ++ bytes) (standing_spelled entries)

standing_spellable : (entries : List RegisteredView) → AllByRecursion IsSpellableEntry entries → AllByRecursion IsSpellableEntry (map standing entries)
standing_spellable [] each = tt
standing_spellable (entry ∷ entries) each = (each.0, standing_spellable entries each.1)

pub AreSpelledIn-standing : (entries : List RegisteredView) → AreSpelledIn IsSpellableEntry entries → AreSpelledIn IsSpellableEntry (map standing entries)
AreSpelledIn-standing entries h =
    let same = length-map entries standing in
    record { few = omega (arith, same, h.few); each = standing_spellable entries h.each }

-- ---- the numbers of what was marked are those of the marks

-- the entries after so many stand
abbrev StandBehind : ℕ → List RegisteredView → Type 0
StandBehind count [] = Unit {0}
StandBehind zero (entry ∷ entries) = (entry.withdrawn ≡ false) × StandBehind zero entries
StandBehind (suc count) (entry ∷ entries) = StandBehind count entries

behind_none : (entries : List RegisteredView) → AreStanding entries → StandBehind 0 entries
behind_none [] h = tt
behind_none (entry ∷ entries) h = (h.0, behind_none entries h.1)

behind_more : (count more : ℕ) (entries : List RegisteredView) → count ≤ more → StandBehind count entries → StandBehind more entries
behind_more count more [] le h = tt
behind_more zero zero (entry ∷ entries) le h = h
behind_more zero (suc more) (entry ∷ entries) le h = behind_more zero more entries (omega arith) h.1
behind_more (suc count) zero (entry ∷ entries) le h = absurd (omega (arith, le))
behind_more (suc count) (suc more) (entry ∷ entries) le h = behind_more count more entries (omega (arith, le)) h

behind_marked : (place : ℕ) (entries : List RegisteredView) → StandBehind place entries → StandBehind (suc place) (marked entries (suc place))
behind_marked place [] h = tt
behind_marked zero (entry ∷ entries) h = h.1
behind_marked (suc place) (entry ∷ entries) h = behind_marked place entries h

none_withdrawn : (number : ℕ) (entries : List RegisteredView) → StandBehind 0 entries → withdrawn_from number entries ≡ []
none_withdrawn number [] h = refl
none_withdrawn number (entry ∷ entries) h =
    ap (λ (b : Bool). cond b (number ∷ withdrawn_from (number + 1) entries) (withdrawn_from (number + 1) entries)) h.0 ∙ none_withdrawn (number + 1) entries h.1

-- a number, if so, before others
listed_push : (b : Bool) (number last : ℕ) (xs ys : List ℕ) → xs ≡ ys ++ last ∷ [] → cond b (number ∷ xs) xs ≡ cond b (number ∷ ys) ys ++ last ∷ []
listed_push true number last xs ys e = ap (λ (zs : List ℕ). number ∷ zs) e
listed_push false number last xs ys e = e

marked_is_last : (number place : ℕ) (entries : List RegisteredView) → StandBehind place entries → place < length entries
    → withdrawn_from number (marked entries (suc place)) ≡ withdrawn_from number entries ++ (number + place) ∷ []
marked_is_last number place [] h lt = absurd (omega (arith, lt))
marked_is_last number zero (entry ∷ entries) h lt =
    let none : withdrawn_from number (entry ∷ entries) ≡ [] = none_withdrawn number (entry ∷ entries) h in
    let others : withdrawn_from (number + 1) entries ≡ [] = none_withdrawn (number + 1) entries h.1 in
    let same : number ≡ number + 0 = omega arith in
    ap (λ (rest : List ℕ). number ∷ rest) others ∙ ap (λ (n : ℕ). n ∷ []) same ∙ ap (λ (front : List ℕ). front ++ (number + 0) ∷ []) (sym none)
marked_is_last number (suc place) (entry ∷ entries) h lt =
    let same : (number + 1) + place ≡ number + suc place = omega arith in
    let others : withdrawn_from (number + 1) (marked entries (suc place)) ≡ withdrawn_from (number + 1) entries ++ (number + suc place) ∷ [] =
    marked_is_last (number + 1) place entries h (omega (arith, lt)) ∙ ap (λ (n : ℕ). withdrawn_from (number + 1) entries ++ n ∷ []) same in
    listed_push entry.withdrawn number (number + suc place) (withdrawn_from (number + 1) (marked entries (suc place))) (withdrawn_from (number + 1) entries) others

numbers_added : (most previous : ℕ) (entries : List RegisteredView) (numbers : List ℕ) → most ≡ length entries → StandBehind previous entries → AreChained (IsNumberWithin most) number_left previous numbers
    → withdrawn_from 1 (marked_all entries numbers) ≡ withdrawn_from 1 entries ++ numbers
numbers_added most previous entries [] all h chained = sym (append-nil (withdrawn_from 1 entries))
numbers_added most previous entries (zero ∷ numbers) all h chained = absurd (omega (arith, chained.0.above))
numbers_added most previous entries (suc place ∷ numbers) all h chained =
    let after : StandBehind place entries = behind_more previous place entries (omega (arith, chained.0.above)) h in
    let same : most ≡ length (marked entries (suc place)) = all ∙ sym (length-marked entries (suc place)) in
    let rest = numbers_added most (suc place) (marked entries (suc place)) numbers same (behind_marked place entries after) chained.1 in
    let last = marked_is_last 1 place entries after (omega (arith, all, chained.0.within)) in
    let number : 1 + place ≡ suc place = omega arith in
    rest ∙ ap (λ (front : List ℕ). front ++ numbers) last ∙ append_assoc (withdrawn_from 1 entries) ((1 + place) ∷ []) numbers ∙ ap (λ (n : ℕ). withdrawn_from 1 entries ++ n ∷ numbers) number

-- after entries that stand were marked, the numbers of the withdrawn ones are those of the marks
pub numbers_of_marks : (entries : List RegisteredView) (numbers : List ℕ) → AreStanding entries → AreWithdrawnNumbers (length entries) numbers → withdrawn_from 1 (marked_all entries numbers) ≡ numbers
numbers_of_marks entries numbers stand h =
    let none = behind_none entries stand in
    numbers_added (length entries) 0 entries numbers refl none h.chained ∙ ap (λ (front : List ℕ). front ++ numbers) (none_withdrawn 1 entries none)

-- ---- the marks of the numbers of the withdrawn ones are theirs

marked_next : (front : List RegisteredView) (entry : RegisteredView) (entries : List RegisteredView) → marked (front ++ entry ∷ entries) (suc (length front)) ≡ front ++ ended entry ∷ entries
marked_next [] entry entries = refl
marked_next (first ∷ front) entry entries = ap (λ (all : List RegisteredView). first ∷ all) (marked_next front entry entries)

-- an entry with the mark that it has
abbrev pub with_mark : RegisteredView → Bool → RegisteredView
with_mark entry mark = record { statement = entry.statement; signature = entry.signature; withdrawn = mark }

marks_next : (mark : Bool) (front : List RegisteredView) (entry : RegisteredView) (entries : List RegisteredView) (numbers : List ℕ) → entry.withdrawn ≡ mark
    → marked_all (front ++ standing entry ∷ entries) (cond mark (suc (length front) ∷ numbers) numbers) ≡ marked_all (front ++ entry ∷ entries) numbers
marks_next true front entry entries numbers is =
    let here : front ++ ended (standing entry) ∷ entries ≡ front ++ entry ∷ entries = ap (λ (mark : Bool). front ++ with_mark entry mark ∷ entries) (sym is) in
    ap (λ (all : List RegisteredView). marked_all all numbers) (marked_next front (standing entry) entries ∙ here)
marks_next false front entry entries numbers is = ap (λ (mark : Bool). marked_all (front ++ with_mark entry mark ∷ entries) numbers) (sym is)

marks_restored : (front entries : List RegisteredView) → marked_all (front ++ map standing entries) (withdrawn_from (suc (length front)) entries) ≡ front ++ entries
marks_restored front [] = refl
marks_restored front (entry ∷ entries) =
    let more : List RegisteredView = front ++ entry ∷ [] in
    let numbers : List ℕ = withdrawn_from (suc (length front) + 1) entries in
    let count : suc (length front) + 1 ≡ suc (length more) = omega (arith, length-append front (entry ∷ [])) in
    let first = marks_next entry.withdrawn front entry (map standing entries) numbers refl in
    let grouped : marked_all (front ++ entry ∷ map standing entries) numbers ≡ marked_all (more ++ map standing entries) numbers =
    ap (λ (all : List RegisteredView). marked_all all numbers) (sym (append_assoc front (entry ∷ []) (map standing entries))) in
    let counted : marked_all (more ++ map standing entries) numbers ≡ marked_all (more ++ map standing entries) (withdrawn_from (suc (length more)) entries) =
    ap (λ (n : ℕ). marked_all (more ++ map standing entries) (withdrawn_from n entries)) count in
    first ∙ grouped ∙ counted ∙ marks_restored more entries ∙ append_assoc front (entry ∷ []) entries

-- what is marked by the numbers of the withdrawn entries is as it was
pub marks_of_numbers : (entries : List RegisteredView) → marked_all (map standing entries) (withdrawn_from 1 entries) ≡ entries
marks_of_numbers entries = marks_restored [] entries

-- ---- the numbers rise, and are those of entries

chained_if : (b : Bool) (most previous number : ℕ) (numbers : List ℕ) → IsNumberWithin most previous number → AreChained (IsNumberWithin most) number_left number numbers → AreChained (IsNumberWithin most) number_left previous numbers
    → AreChained (IsNumberWithin most) number_left previous (cond b (number ∷ numbers) numbers)
chained_if true most previous number numbers here after before = (here, after)
chained_if false most previous number numbers here after before = before

numbers_chained : (most previous number : ℕ) (entries : List RegisteredView) → previous < number → number + length entries ≤ most + 1 → most < 2 ^ 32
    → AreChained (IsNumberWithin most) number_left previous (withdrawn_from number entries)
numbers_chained most previous number [] lt within low = tt
numbers_chained most previous number (entry ∷ entries) lt within low =
    chained_if entry.withdrawn most previous number (withdrawn_from (number + 1) entries)
    (record { above = lt; within = omega (arith, within); spelled = omega (arith, within, low) })
    (numbers_chained most number (number + 1) entries (omega arith) (omega (arith, within)) low)
    (numbers_chained most previous (number + 1) entries (omega (arith, lt)) (omega (arith, within)) low)

few_if : (b : Bool) (number most : ℕ) (numbers : List ℕ) → length numbers ≤ most → length (cond b (number ∷ numbers) numbers) ≤ suc most
few_if true number most numbers le = omega (arith, le)
few_if false number most numbers le = omega (arith, le)

few_numbers : (number : ℕ) (entries : List RegisteredView) → length (withdrawn_from number entries) ≤ length entries
few_numbers number [] = omega arith
few_numbers number (entry ∷ entries) =
    few_if entry.withdrawn number (length entries) (withdrawn_from (number + 1) entries) (few_numbers (number + 1) entries)

pub numbers_of_entries : (entries : List RegisteredView) → length entries < 2 ^ 32 → AreWithdrawnNumbers (length entries) (withdrawn_from 1 entries)
numbers_of_entries entries low =
    let few = few_numbers 1 entries in
    record { few = omega (arith, few, low); chained = numbers_chained (length entries) 0 1 entries (omega arith) (omega arith) low }

-- ---- one entry more

listed_front : (b : Bool) (number : ℕ) (xs ys zs : List ℕ) → xs ≡ ys ++ zs → cond b (number ∷ xs) xs ≡ cond b (number ∷ ys) ys ++ zs
listed_front true number xs ys zs e = ap (λ (all : List ℕ). number ∷ all) e
listed_front false number xs ys zs e = e

withdrawn_from-push : (number : ℕ) (entries : List RegisteredView) (entry : RegisteredView) → withdrawn_from number (entries ++ entry ∷ []) ≡ withdrawn_from number entries ++ number_if (number + length entries) entry
withdrawn_from-push number [] entry = ap (λ (n : ℕ). number_if n entry) (let same : number ≡ number + 0 = omega arith in same)
withdrawn_from-push number (first ∷ entries) entry =
    let same : (number + 1) + length entries ≡ number + suc (length entries) = omega arith in
    let others = withdrawn_from-push (number + 1) entries entry ∙ ap (λ (n : ℕ). withdrawn_from (number + 1) entries ++ number_if n entry) same in
    listed_front first.withdrawn number (withdrawn_from (number + 1) (entries ++ entry ∷ [])) (withdrawn_from (number + 1) entries) (number_if (number + suc (length entries)) entry) others

pub numbers-push : (entries : List RegisteredView) (entry : RegisteredView) → withdrawn_from 1 (entries ++ entry ∷ []) ≡ withdrawn_from 1 entries ++ number_if (length entries + 1) entry
numbers-push entries entry =
    let same : 1 + length entries ≡ length entries + 1 = omega arith in
    withdrawn_from-push 1 entries entry ∙ ap (λ (n : ℕ). withdrawn_from 1 entries ++ number_if n entry) same

-- ---- the numbers as loops count and write them

pub number_of : (number : ℕ) (entry : RegisteredView) → entry.withdrawn ≡ true → number_if number entry ≡ number ∷ []
number_of number entry is = ap (λ (b : Bool). cond b (number ∷ []) []) is

pub no_number : (number : ℕ) (entry : RegisteredView) → entry.withdrawn ≡ false → number_if number entry ≡ []
no_number number entry is = ap (λ (b : Bool). cond b (number ∷ []) []) is

-- so many numbers as places at most
pub few_so_far : (entries : List RegisteredView) (place count : ℕ) → count ≡ length (withdrawn_from 1 (take place entries)) → count ≤ place
few_so_far entries place count is =
    let few = few_numbers 1 (take place entries) in
    omega (arith, is, few, length-take place entries)

one_or_none : (b : Bool) (one other : ℕ) → length (cond b (one ∷ []) []) ≡ length (cond b (other ∷ []) [])
one_or_none true one other = refl
one_or_none false one other = refl

-- the numbers of the entries so far, and that of the next one
numbers_next : (entries : List RegisteredView) (place : ℕ) (entry : RegisteredView) → place < length entries → entry ≡ get_or entries place entry
    → withdrawn_from 1 (take (place + 1) entries) ≡ withdrawn_from 1 (take place entries) ++ number_if (place + 1) entry
numbers_next entries place entry within read =
    let more : take (place + 1) entries ≡ take place entries ++ entry ∷ [] = take_more entries place entry within ∙ ap (λ (e : RegisteredView). take place entries ++ e ∷ []) (sym read) in
    let count : length (take place entries) ≡ place = omega (arith, length-take place entries, within) in
    ap (withdrawn_from 1) more ∙ numbers-push (take place entries) entry ∙ ap (λ (n : ℕ). withdrawn_from 1 (take place entries) ++ number_if (n + 1) entry) count

pub numbers_counted : (entries : List RegisteredView) (place : ℕ) (entry : RegisteredView) (count next : ℕ) → place < length entries → entry ≡ get_or entries place entry
    → count ≡ length (withdrawn_from 1 (take place entries)) → next ≡ count + length (number_if 0 entry) → next ≡ length (withdrawn_from 1 (take (place + 1) entries))
numbers_counted entries place entry count next within read so_far added =
    let all : length (withdrawn_from 1 (take (place + 1) entries)) ≡ length (withdrawn_from 1 (take place entries)) + length (number_if (place + 1) entry) =
    ap length (numbers_next entries place entry within read) ∙ length-append (withdrawn_from 1 (take place entries)) (number_if (place + 1) entry) in
    let one : length (number_if 0 entry) ≡ length (number_if (place + 1) entry) = one_or_none entry.withdrawn 0 (place + 1) in
    omega (arith, all, one, so_far, added)

pub numbers_all : (entries : List RegisteredView) (place count : ℕ) → length entries ≤ place → count ≡ length (withdrawn_from 1 (take place entries)) → count ≡ length (withdrawn_from 1 entries)
numbers_all entries place count le so_far = so_far ∙ ap (λ (es : List RegisteredView). length (withdrawn_from 1 es)) (take_all place entries le)

flat_map_append : {A : Type 0} (spelling : A → List ℕ) (xs ys : List A) → flat_map spelling (xs ++ ys) ≡ flat_map spelling xs ++ flat_map spelling ys
flat_map_append spelling [] ys = refl
flat_map_append spelling (x ∷ xs) ys = ap (λ (bytes : List ℕ). spelling x ++ bytes) (flat_map_append spelling xs ys) ∙ sym (append_assoc (spelling x) (flat_map spelling xs) (flat_map spelling ys))

pub numbers_written : (entries : List RegisteredView) (place number : ℕ) (entry : RegisteredView) (start out new : List ℕ) → place < length entries → entry ≡ get_or entries place entry → number ≡ place
    → out ≡ start ++ flat_map cited_spelling (withdrawn_from 1 (take place entries)) → new ≡ out ++ flat_map cited_spelling (number_if (number + 1) entry)
    → new ≡ start ++ flat_map cited_spelling (withdrawn_from 1 (take (place + 1) entries))
numbers_written entries place number entry start out new within read same so_far added =
    let before : List ℕ = withdrawn_from 1 (take place entries) in
    let here : List ℕ = number_if (place + 1) entry in
    let spelled : flat_map cited_spelling (withdrawn_from 1 (take (place + 1) entries)) ≡ flat_map cited_spelling before ++ flat_map cited_spelling here =
    ap (flat_map cited_spelling) (numbers_next entries place entry within read) ∙ flat_map_append cited_spelling before here in
    added ∙ ap (λ (n : ℕ). out ++ flat_map cited_spelling (number_if (n + 1) entry)) same ∙ ap (λ (bytes : List ℕ). bytes ++ flat_map cited_spelling here) so_far
    ∙ append_assoc start (flat_map cited_spelling before) (flat_map cited_spelling here) ∙ ap (λ (bytes : List ℕ). start ++ bytes) (sym spelled)

pub numbers_all_written : (entries : List RegisteredView) (place : ℕ) (start out : List ℕ) → length entries ≤ place → out ≡ start ++ flat_map cited_spelling (withdrawn_from 1 (take place entries))
    → out ≡ start ++ flat_map cited_spelling (withdrawn_from 1 entries)
numbers_all_written entries place start out le so_far = so_far ∙ ap (λ (es : List RegisteredView). start ++ flat_map cited_spelling (withdrawn_from 1 es)) (take_all place entries le)

-- ---- marks as they are made

-- no entry has the number 0
pub marked_none : (entries : List RegisteredView) (number : ℕ) → number ≡ 0 → entries ≡ marked entries number
marked_none [] number is = refl
marked_none (entry ∷ entries) zero is = refl
marked_none (entry ∷ entries) (suc number) is = absurd (omega (arith, is))

set_marks : (entries : List RegisteredView) (place : ℕ) (entry : RegisteredView) → place < length entries → entry ≡ get_or entries place entry → set entries place (ended entry) ≡ marked entries (suc place)
set_marks [] place entry within read = absurd (omega (arith, within))
set_marks (first ∷ entries) zero entry within read = ap (λ (e : RegisteredView). ended e ∷ entries) read
set_marks (first ∷ entries) (suc place) entry within read = ap (λ (all : List RegisteredView). first ∷ all) (set_marks entries place entry (omega (arith, within)) read)

-- to mark an entry is to write it into its place
pub marked_at : (entries : List RegisteredView) (place : ℕ) (entry made : RegisteredView) → place < length entries → entry ≡ get_or entries place entry → made ≡ ended entry → set entries place made ≡ marked entries (place + 1)
marked_at entries place entry made within read is =
    let number : suc place ≡ place + 1 = omega arith in
    ap (set entries place) is ∙ set_marks entries place entry within read ∙ ap (marked entries) number

beyond : (entries : List RegisteredView) (place : ℕ) → length entries ≤ place → entries ≡ marked entries (suc place)
beyond [] place le = refl
beyond (entry ∷ entries) zero le = absurd (omega (arith, le))
beyond (entry ∷ entries) (suc place) le = ap (λ (all : List RegisteredView). entry ∷ all) (beyond entries place (omega (arith, le)))

-- no entry stands behind the last one
pub marked_beyond : (entries : List RegisteredView) (place : ℕ) → length entries ≤ place → entries ≡ marked entries (place + 1)
marked_beyond entries place le =
    let number : suc place ≡ place + 1 = omega arith in
    beyond entries place le ∙ ap (marked entries) number

-- the marks of the numbers so far, and that of the next one
pub marks_more : (entries now new : List RegisteredView) (numbers : List ℕ) (place number : ℕ) → place < length numbers → number ≡ get_or numbers place 0 → now ≡ marked_all entries (take place numbers) → new ≡ marked now number
    → new ≡ marked_all entries (take (place + 1) numbers)
marks_more entries now new numbers place number within read so_far made =
    let more : take (place + 1) numbers ≡ take place numbers ++ number ∷ [] = take_more numbers place 0 within ∙ ap (λ (n : ℕ). take place numbers ++ n ∷ []) (sym read) in
    made ∙ ap (λ (es : List RegisteredView). marked es number) so_far ∙ sym (marked_all-push entries (take place numbers) number) ∙ ap (marked_all entries) (sym more)

pub marks_all : (entries now : List RegisteredView) (numbers : List ℕ) (place : ℕ) → length numbers ≤ place → now ≡ marked_all entries (take place numbers) → now ≡ marked_all entries numbers
marks_all entries now numbers place le so_far = so_far ∙ ap (marked_all entries) (take_all place numbers le)
