-- Statements by their numbers: what a number holds, which statements stand, what numbers come to, and that an issue stays good if statements are added.
use Rattle.std.proofs.Common.{◌≡◌, ◌∙◌, ◌⊎◌, ◌+◌, inl, inr, ℕ, zero, suc, List, [], ◌∷◌, ◌++◌, length, Bool, true, false, if◌then◌else◌, Option, Some, None, IsSome, Result, Ok, Err, refl, sym, ap, subst, ⊎_elim, arith}
use Rattle.std.specs.Prelude.{◌↔◌, IsTrue, Contains, find, option_and_then}
use Rattle.std.specs.List.{AllByRecursion, slice_get}
use Rattle.std.specs.Option.{option_map, option_map_or}
use Rattle.std.proofs.lemmas.Bool.{false≢true}
use Rattle.std.proofs.lemmas.List.{length-map, map-append}
use Rattle.std.proofs.lemmas.List.Elements.{Contains-append_right}
use Rattle.std.proofs.lemmas.Option.{none-some, same_Some, slice_get-map}
use Rattle.bl_syntax.specs.Citable.{AreCitable, AreNamed, DoRise}
use Rattle.bl_syntax.specs.declared.grant.Goal.{Goal}
use Rattle.bl_syntax.specs.Grant.{GrantView, IsGrant}
use Rattle.bl_syntax.specs.Statement.{StatementView}
use Rattle.bl_syntax.proofs.CitableLemmas.{AreNamed-citable}
use Rattle.bl_syntax.proofs.GrantLemmas.{Contains-head, IsGrant-naming}
use Rattle.bl_rules.specs.Allowed.{SoundGrant}
use Rattle.bl_rules.specs.Richer.{Includes}
use Rattle.policy_statement.specs.Registered.{RegisteredView}
use Rattle.policy_statement.specs.Withdrawal.{ended, entry_of_number, is_withdrawn, live_of_number, live_statement, marked}
use Rattle.proof_term.specs.Proof.{ProofView}
use Rattle.proof_verifier.specs.declared.cites.Cite.{Cite}
use Rattle.proof_verifier.specs.Cited.{AreCited, DoCitesRise, statements_of}
use Rattle.proof_verifier.specs.CheckedView.{CheckedView, IsChecked, IsGranted}
use Rattle.proof_verifier.specs.Run.{IsFault}
use Rattle.proof_verifier.specs.Verdict.{verdict}
use Rattle.proof_verifier.specs.declared.fault.CheckFault.{CheckFault}
use Rattle.proof_verifier.specs.declared.fault.CheckFault.TheVariants as checks
use Rattle.proof_verifier.proofs.SoundnessVerdict.{cited-verdict}
use Rattle.access_history.specs.declared.event.Issue.{Issue}
use Rattle.policy_statement.specs.Registry.{sayings}
use Rattle.access_history.specs.Base.{BaseView}
use Rattle.access_history.specs.Books.{Book, whole_book, live_book, statements_in, book_of}
use Rattle.access_history.specs.Citing.{numbers_of, StandsUnderNumber, IsHeld, AreFound, IsAbsent, IsGrantOf, as_proved, naming, issued_grant, IsGrantedFrom, IsGoodIssue, MayBeIssued}
use Rattle.access_history.specs.Numbered.{IsNumbered, HasNumber}
use Rattle.access_history.proofs.EitherLemmas.{OrNot, HasFailing, all_or_failing, HasItem, item_or_none}
use Rattle.access_history.proofs.ListLemmas.{AllByRecursion-weaker, AllByRecursion-contains}
use Rattle.access_history.proofs.NumberedLemmas.{HasNumber-item, numbered_item, none_fails, first_failing}

-- ---- what a number holds

slice_get-more : {A : Type 0} (xs ys : List A) (place : ℕ) (x : A) → slice_get xs place ≡ Some x → slice_get (xs ++ ys) place ≡ Some x
slice_get-more [] ys place x found = cc
slice_get-more (first ∷ xs) ys zero x found = found
slice_get-more (first ∷ xs) ys (suc place) x found = slice_get-more xs ys place x found

IsNumbered-more : {A : Type 0} (xs ys : List A) (number : ℕ) (x : A) → IsNumbered xs number x → IsNumbered (xs ++ ys) number x
IsNumbered-more xs ys number x numbered = record { place = numbered.place; from_one = numbered.from_one; found = slice_get-more xs ys numbered.place x numbered.found }

-- a number holds one statement
pub one_held : (book : Book) (number : ℕ) (first second : StatementView) → IsNumbered book number (Some first) → IsNumbered book number (Some second) → first ≡ second
one_held book number first second one other = same_Some first second (numbered_item book number (Some first) (Some second) one other)

held_item : (book : Book) (number : ℕ) (item : Option StatementView) → IsNumbered book number item → OrNot (IsHeld book number)
held_item book number (Some s) numbered = inl (s, numbered)
held_item book number None numbered = inr (λ held. none-some held.0 (numbered_item book number None (Some held.0) numbered held.1))

held_or : (book : Book) (number : ℕ) → HasItem book number ⊎ ((item : Option StatementView) → IsNumbered book number item → ⊥) → OrNot (IsHeld book number)
held_or book number (inl found) = held_item book number found.item found.numbered
held_or book number (inr none) = inr (λ held. none (Some held.0) held.1)

-- a number holds a statement, or it does not
pub held_or_not : (book : Book) (number : ℕ) → OrNot (IsHeld book number)
held_or_not book number = held_or book number (item_or_none book number)

-- what is held is among the statements of the book
Contains-held : (book : Book) (place : ℕ) (s : StatementView) → slice_get book place ≡ Some (Some s) → Contains (statements_in book) s
Contains-held [] place s found = absurd cc
Contains-held (None ∷ book) zero s found = absurd cc
Contains-held (None ∷ book) (suc place) s found = Contains-held book place s found
Contains-held (Some t ∷ book) zero s found =
    let same : t ≡ s = cc in Contains-head s t (statements_in book) same
Contains-held (Some t ∷ book) (suc place) s found = Contains-append_right (t ∷ []) (statements_in book) s (Contains-held book place s found)

-- ---- statements of entries

abbrev statement_of : RegisteredView → StatementView
statement_of entry = entry.statement

-- a statement has the number of its entry
pub said_numbered : (entries : List RegisteredView) (number : ℕ) (entry : RegisteredView) → IsNumbered entries number entry → IsNumbered (sayings entries) number entry.statement
said_numbered entries number entry n = record { place = n.place; from_one = n.from_one; found = slice_get-map statement_of entries n.place ∙ ap (option_map statement_of) n.found }

-- there are as many statements as entries
pub said_length : (entries : List RegisteredView) → length (sayings entries) ≡ length entries
said_length entries = length-map entries statement_of

pub said_has : (entries : List RegisteredView) (number : ℕ) → HasNumber (sayings entries) number → HasNumber entries number
said_has entries number has = (has.0, omega (arith, has.1, said_length entries))

-- ---- books in which each number holds a statement

abbrev held_as : StatementView → Option StatementView
held_as s = Some s

-- what such a book holds is the statement of that number
pub IsNumbered-whole : (statements : List StatementView) (number : ℕ) (s : StatementView) → IsNumbered statements number s → IsNumbered (whole_book statements) number (Some s)
IsNumbered-whole statements number s numbered =
    record { place = numbered.place; from_one = numbered.from_one; found = slice_get-map held_as statements numbered.place ∙ ap (option_map held_as) numbered.found }

held_twice : (found : Option StatementView) (s : StatementView) → option_map held_as found ≡ Some (Some s) → found ≡ Some s
held_twice None s is = cc
held_twice (Some t) s is = same_Some (Some t) (Some s) is

pub IsNumbered-from_whole : (statements : List StatementView) (number : ℕ) (s : StatementView) → IsNumbered (whole_book statements) number (Some s) → IsNumbered statements number s
IsNumbered-from_whole statements number s numbered =
    record { place = numbered.place; from_one = numbered.from_one; found = held_twice (slice_get statements numbered.place) s (sym (slice_get-map held_as statements numbered.place) ∙ numbered.found) }

-- its numbers are those of the statements
pub HasNumber-held : (statements : List StatementView) (number : ℕ) → IsHeld (whole_book statements) number → HasNumber statements number
HasNumber-held statements number held = HasNumber-item statements number held.0 (IsNumbered-from_whole statements number held.0 held.1)

-- and the numbers of the entries of which they are the statements
pub entry_held : (entries : List RegisteredView) (number : ℕ) (entry : RegisteredView) → IsNumbered entries number entry → IsNumbered (whole_book (sayings entries)) number (Some entry.statement)
entry_held entries number entry numbered = IsNumbered-whole (sayings entries) number entry.statement (said_numbered entries number entry numbered)

pub held_has : (entries : List RegisteredView) (number : ℕ) → IsHeld (whole_book (sayings entries)) number → HasNumber entries number
held_has entries number held = said_has entries number (HasNumber-held (sayings entries) number held)

-- its statements are these
pub statements_in-whole : (statements : List StatementView) → statements_in (whole_book statements) ≡ statements
statements_in-whole [] = refl
statements_in-whole (s ∷ statements) = ap (λ (ss : List StatementView). s ∷ ss) (statements_in-whole statements)

-- ---- statements that stand

-- what a book holds of an entry that was withdrawn or not
abbrev held_if : Bool → StatementView → Option StatementView
held_if out s = if out then None else Some s

standing_more : (P : StatementView → Type 0) (out : Bool) (s : StatementView) (book : Book) → P s → AllByRecursion P (statements_in book) → AllByRecursion P (statements_in (held_if out s ∷ book))
standing_more P true s book here all = all
standing_more P false s book here all = (here, all)

all_live : (P : StatementView → Type 0) (entries : List RegisteredView) → AllByRecursion P (sayings entries) → AllByRecursion P (statements_in (live_book entries))
all_live P [] all = tt
all_live P (entry ∷ entries) all = standing_more P entry.withdrawn entry.statement (live_book entries) all.0 (all_live P entries all.1)

-- what holds of each registered statement holds of those that stand
pub all_standing : (P : StatementView → Type 0) (state : BaseView) → AllByRecursion P (sayings state.statements) → AllByRecursion P (statements_in (book_of state))
all_standing P state all = all_live P state.statements all

-- the entry of a number, which was not withdrawn, with its statement
pub record IsLiveEntry (entries : List RegisteredView) (number : ℕ) (s : StatementView) : Type 0 where
  pub entry : RegisteredView
  pub numbered : IsNumbered entries number entry
  pub stands : entry.withdrawn ≡ false
  pub said : entry.statement ≡ s

held_if_some : (out : Bool) (t s : StatementView) → held_if out t ≡ Some s → (out ≡ false) × (t ≡ s)
held_if_some true t s is = absurd cc
held_if_some false t s is = (refl, same_Some t s is)

live_entry_by : (entries : List RegisteredView) (place : ℕ) (s : StatementView) (found : Option RegisteredView) → slice_get entries place ≡ found → option_and_then live_statement found ≡ Some s → IsLiveEntry entries (place + 1) s
live_entry_by entries place s None at is = absurd cc
live_entry_by entries place s (Some entry) at is =
    let live = held_if_some entry.withdrawn entry.statement s is in
    record { entry = entry; numbered = record { place = place; from_one = refl; found = at }; stands = live.0; said = live.1 }

held_twice_live : (found : Option RegisteredView) (s : StatementView) → option_map live_statement found ≡ Some (Some s) → option_and_then live_statement found ≡ Some s
held_twice_live None s is = absurd cc
held_twice_live (Some entry) s is = same_Some (live_statement entry) (Some s) is

-- a statement that stands under a number is that of an entry that was not withdrawn
pub live_entry : (entries : List RegisteredView) (number : ℕ) (s : StatementView) → IsNumbered (live_book entries) number (Some s) → IsLiveEntry entries number s
live_entry entries number s numbered =
    let at = held_twice_live (slice_get entries numbered.place) s (sym (slice_get-map live_statement entries numbered.place) ∙ numbered.found) in
    subst (λ (n : ℕ). IsLiveEntry entries n s) (sym numbered.from_one) (live_entry_by entries numbered.place s (slice_get entries numbered.place) refl at)

-- the statement of an entry that was not withdrawn stands under its number
pub live_numbered : (entries : List RegisteredView) (number : ℕ) (entry : RegisteredView) → IsNumbered entries number entry → entry.withdrawn ≡ false → IsNumbered (live_book entries) number (Some entry.statement)
live_numbered entries number entry numbered stands =
    let is : live_statement entry ≡ Some entry.statement = ap (λ (out : Bool). held_if out entry.statement) stands in
    record { place = numbered.place; from_one = numbered.from_one; found = slice_get-map live_statement entries numbered.place ∙ (ap (option_map live_statement) numbered.found ∙ ap (λ (o : Option StatementView). Some o) is) }

-- a statement that stands was registered under that number
pub live_said : (entries : List RegisteredView) (number : ℕ) (s : StatementView) → IsNumbered (live_book entries) number (Some s) → IsNumbered (sayings entries) number s
live_said entries number s numbered =
    let live = live_entry entries number s numbered in
    subst (λ (t : StatementView). IsNumbered (sayings entries) number t) live.said (said_numbered entries number live.entry live.numbered)

pub stand_live : (entries : List RegisteredView) (cites : List Cite) → AllByRecursion (StandsUnderNumber (live_book entries)) cites → AllByRecursion (StandsUnderNumber (whole_book (sayings entries))) cites
stand_live entries [] stand = tt
stand_live entries (cite ∷ cites) stand =
    (IsNumbered-whole (sayings entries) cite.number cite.statement (live_said entries cite.number cite.statement stand.0), stand_live entries cites stand.1)

-- each statement that stands in a state is one that was registered under that number
pub stand_registered : (state : BaseView) (cites : List Cite) → AllByRecursion (StandsUnderNumber (book_of state)) cites → AllByRecursion (StandsUnderNumber (whole_book (sayings state.statements))) cites
stand_registered state cites stand = stand_live state.statements cites stand

-- the numbers of the statements that stand are those of entries
pub live_has : (entries : List RegisteredView) (number : ℕ) → IsHeld (live_book entries) number → HasNumber entries number
live_has entries number held = said_has entries number (HasNumber-item (sayings entries) number held.0 (live_said entries number held.0 held.1))

-- what the registry has under a number is what stands there
pub live_from_registry : (entries : List RegisteredView) (number : ℕ) (s : StatementView) → live_of_number entries number ≡ Some s → IsNumbered (live_book entries) number (Some s)
live_from_registry entries zero s found = absurd cc
live_from_registry entries (suc place) s found =
    let live = live_entry_by entries place s (slice_get entries place) refl found in
    let number : place + 1 ≡ suc place = omega arith in
    let held = live_numbered entries (place + 1) live.entry live.numbered live.stands in
    subst (λ (n : ℕ). IsNumbered (live_book entries) n (Some s)) number (subst (λ (t : StatementView). IsNumbered (live_book entries) (place + 1) (Some t)) live.said held)

entry_numbered : (entries : List RegisteredView) (number : ℕ) (entry : RegisteredView) → IsNumbered entries number entry → entry_of_number entries number ≡ Some entry
entry_numbered entries number entry numbered =
    let at : number ≡ suc numbered.place = omega (arith, numbered.from_one) in ap (entry_of_number entries) at ∙ numbered.found

-- and what stands there is what the registry has
pub live_in_registry : (entries : List RegisteredView) (number : ℕ) (s : StatementView) → IsNumbered (live_book entries) number (Some s) → live_of_number entries number ≡ Some s
live_in_registry entries number s numbered =
    let live = live_entry entries number s numbered in
    ap (option_and_then live_statement) (entry_numbered entries number live.entry live.numbered)
    ∙ (ap (λ (out : Bool). held_if out live.entry.statement) live.stands
    ∙ ap (λ (t : StatementView). Some t) live.said)

-- if the registry has nothing there, nothing stands there
pub none_in_registry : (entries : List RegisteredView) (number : ℕ) → live_of_number entries number ≡ None → IsHeld (live_book entries) number → ⊥
none_in_registry entries number none held = none-some held.0 (sym none ∙ live_in_registry entries number held.0 held.1)

some_is : {A : Type 0} (found : Option A) (x : A) → found ≡ Some x → IsSome found
some_is found x is = subst IsSome (sym is) refl

-- what stands can be withdrawn
pub some_in_registry : (entries : List RegisteredView) (number : ℕ) (s : StatementView) → IsNumbered (live_book entries) number (Some s) → IsSome (live_of_number entries number)
some_in_registry entries number s numbered = some_is (live_of_number entries number) s (live_in_registry entries number s numbered)

-- a statement with its entry
record IsSaidBy (entries : List RegisteredView) (number : ℕ) (s : StatementView) : Type 0 where
  pub entry : RegisteredView
  pub numbered : IsNumbered entries number entry
  pub said : entry.statement ≡ s

said_by : (entries : List RegisteredView) (number place : ℕ) (s : StatementView) (found : Option RegisteredView) → number ≡ place + 1 → slice_get entries place ≡ found → option_map statement_of found ≡ Some s → IsSaidBy entries number s
said_by entries number place s None from at is = absurd cc
said_by entries number place s (Some entry) from at is = record { entry = entry; numbered = record { place = place; from_one = from; found = at }; said = same_Some entry.statement s is }

said_entry : (entries : List RegisteredView) (number : ℕ) (s : StatementView) → IsNumbered (sayings entries) number s → IsSaidBy entries number s
said_entry entries number s numbered =
    said_by entries number numbered.place s (slice_get entries numbered.place) numbered.from_one refl (sym (slice_get-map statement_of entries numbered.place) ∙ numbered.found)

-- a statement that was registered and not withdrawn stands
pub stands_if : (entries : List RegisteredView) (number : ℕ) (s : StatementView) → IsNumbered (whole_book (sayings entries)) number (Some s) → is_withdrawn entries number ≡ false → IsNumbered (live_book entries) number (Some s)
stands_if entries number s numbered stands =
    let by = said_entry entries number s (IsNumbered-from_whole (sayings entries) number s numbered) in
    let out : by.entry.withdrawn ≡ false =
    sym (ap (λ (o : Option RegisteredView). option_map_or (λ (entry : RegisteredView). entry.withdrawn) o false) (entry_numbered entries number by.entry by.numbered)) ∙ stands in
    subst (λ (t : StatementView). IsNumbered (live_book entries) number (Some t)) by.said (live_numbered entries number by.entry by.numbered out)

found_none : (test : ℕ → Bool) (number : ℕ) (numbers : List ℕ) (here : Bool) → test number ≡ here → find test (number ∷ numbers) ≡ None → (test number ≡ false) × (find test numbers ≡ None)
found_none test number numbers true is none =
    absurd (none-some number (sym none ∙ ap (λ (b : Bool). if b then Some number else find test numbers) is))
found_none test number numbers false is none = (is, sym (ap (λ (b : Bool). if b then Some number else find test numbers) is) ∙ none)

-- statements that were registered, of which none was withdrawn, stand
pub stand_if_none : (entries : List RegisteredView) (cites : List Cite) → AllByRecursion (StandsUnderNumber (whole_book (sayings entries))) cites → find (is_withdrawn entries) (numbers_of cites) ≡ None → AllByRecursion (StandsUnderNumber (live_book entries)) cites
stand_if_none entries [] stand none = tt
stand_if_none entries (cite ∷ cites) stand none =
    let each = found_none (is_withdrawn entries) cite.number (numbers_of cites) (is_withdrawn entries cite.number) refl none in
    (stands_if entries cite.number cite.statement stand.0 each.0, stand_if_none entries cites stand.1 each.1)

-- statements that were registered and whose numbers hold statements that stand are those
pub stand_if_held : (entries : List RegisteredView) (cites : List Cite) → AllByRecursion (StandsUnderNumber (whole_book (sayings entries))) cites → AllByRecursion (IsHeld (live_book entries)) (numbers_of cites) → AllByRecursion (StandsUnderNumber (live_book entries)) cites
stand_if_held entries [] stand held = tt
stand_if_held entries (cite ∷ cites) stand held =
    let registered = IsNumbered-from_whole (sayings entries) cite.number cite.statement stand.0 in
    let same : held.0.0 ≡ cite.statement = numbered_item (sayings entries) cite.number held.0.0 cite.statement (live_said entries cite.number held.0.0 held.0.1) registered in
    (subst (λ (s : StatementView). IsNumbered (live_book entries) cite.number (Some s)) same held.0.1, stand_if_held entries cites stand.1 held.1)

-- ---- one that is withdrawn

-- each statement stays
pub sayings-marked : (entries : List RegisteredView) (number : ℕ) → sayings (marked entries number) ≡ sayings entries
sayings-marked [] number = refl
sayings-marked (entry ∷ entries) zero = refl
sayings-marked (entry ∷ entries) (suc zero) = refl
sayings-marked (entry ∷ entries) (suc (suc number)) = ap (λ (ss : List StatementView). entry.statement ∷ ss) (sayings-marked entries (suc number))

-- what holds of each entry, whether it was withdrawn or not, holds of each afterwards
pub all_marked : (P : RegisteredView → Type 0) → ((entry : RegisteredView) → P entry → P (ended entry)) → (entries : List RegisteredView) (number : ℕ) → AllByRecursion P entries → AllByRecursion P (marked entries number)
all_marked P stays [] number all = tt
all_marked P stays (entry ∷ entries) zero all = all
all_marked P stays (entry ∷ entries) (suc zero) all = (stays entry all.0, all.1)
all_marked P stays (entry ∷ entries) (suc (suc number)) all = (all.0, all_marked P stays entries (suc number) all.1)

-- ---- what numbers come to

pub have_numbers : (book : Book) (cites : List Cite) → AllByRecursion (StandsUnderNumber book) cites → AllByRecursion (IsHeld book) (numbers_of cites)
have_numbers book [] stand = tt
have_numbers book (cite ∷ cites) stand = ((cite.statement, stand.0), have_numbers book cites stand.1)

abbrev cite_of : ℕ → StatementView → Cite
cite_of number statement = record { number = number; statement = statement }

-- numbers have one list of statements that stand under them
pub same_cites : (book : Book) (xs ys : List Cite) → numbers_of xs ≡ numbers_of ys → AllByRecursion (StandsUnderNumber book) xs → AllByRecursion (StandsUnderNumber book) ys → xs ≡ ys
same_cites book [] [] numbers one other = refl
same_cites book [] (b ∷ ys) numbers one other = absurd cc
same_cites book (a ∷ xs) [] numbers one other = absurd cc
same_cites book (a ∷ xs) (b ∷ ys) numbers one other =
    let number : a.number ≡ b.number = cc in
    let others : numbers_of xs ≡ numbers_of ys = cc in
    let statement : a.statement ≡ b.statement = one_held book b.number a.statement b.statement (subst (λ (n : ℕ). IsNumbered book n (Some a.statement)) number one.0) other.0 in
    ap (λ (n : ℕ). cite_of n a.statement ∷ xs) number ∙ ap (λ (s : StatementView). cite_of b.number s ∷ xs) statement ∙ ap (λ (cs : List Cite). b ∷ cs) (same_cites book xs ys others one.1 other.1)

pub found_once : (book : Book) (numbers : List ℕ) (xs ys : List Cite) → AreFound book numbers xs → AreFound book numbers ys → xs ≡ ys
found_once book numbers xs ys one other = same_cites book xs ys (one.numbers_are ∙ sym other.numbers_are) one.stand other.stand

pub absent_once : (book : Book) (numbers : List ℕ) (first second : ℕ) → IsAbsent book numbers first → IsAbsent book numbers second → first ≡ second
absent_once book numbers first second one other = (first_failing (IsHeld book) numbers one.place other.place first second one.first other.first).1

-- what is found holds a statement by each number
pub found_held : (book : Book) (numbers : List ℕ) (cites : List Cite) → AreFound book numbers cites → AllByRecursion (IsHeld book) numbers
found_held book numbers cites found = subst (AllByRecursion (IsHeld book)) found.numbers_are (have_numbers book cites found.stand)

pub absent_not_found : (book : Book) (numbers : List ℕ) (number : ℕ) (cites : List Cite) → IsAbsent book numbers number → AreFound book numbers cites → ⊥
absent_not_found book numbers number cites absent found = none_fails (IsHeld book) numbers absent.place number (found_held book numbers cites found) absent.first

all_found : (book : Book) (numbers : List ℕ) → AllByRecursion (IsHeld book) numbers → (cites : List Cite) × AreFound book numbers cites
all_found book [] all = ([], record { numbers_are = refl; stand = tt })
all_found book (number ∷ numbers) all =
    let rest = all_found book numbers all.1 in
    (cite_of number all.0.0 ∷ rest.0, record { numbers_are = ap (λ (ns : List ℕ). number ∷ ns) rest.1.numbers_are; stand = (all.0.1, rest.1.stand) })

-- the statements of the numbers, or the first number that holds none
abbrev pub IsToldOfNumbers : Book → List ℕ → Type 0
IsToldOfNumbers book numbers = ((cites : List Cite) × AreFound book numbers cites) ⊎ ((number : ℕ) × IsAbsent book numbers number)

by_failing : (book : Book) (numbers : List ℕ) → AllByRecursion (IsHeld book) numbers ⊎ HasFailing (IsHeld book) numbers → IsToldOfNumbers book numbers
by_failing book numbers (inl all) = inl (all_found book numbers all)
by_failing book numbers (inr failing) = inr (failing.item, record { place = failing.place; first = failing.first })

pub found_or_absent : (book : Book) (numbers : List ℕ) → IsToldOfNumbers book numbers
found_or_absent book numbers = by_failing book numbers (all_or_failing (IsHeld book) (held_or_not book) numbers)

-- ---- numbers that can be cited

-- as many numbers as citations
pub numbers_length : (cites : List Cite) → length (numbers_of cites) ≡ length cites
numbers_length cites = length-map cites (λ (c : Cite). c.number)

numbers_rise : (cites : List Cite) → DoCitesRise cites → DoRise (numbers_of cites)
numbers_rise [] rises = tt
numbers_rise (first ∷ []) rises = tt
numbers_rise (first ∷ second ∷ others) rises = (rises.0, numbers_rise (second ∷ others) rises.1)

cites_rise : (cites : List Cite) → DoRise (numbers_of cites) → DoCitesRise cites
cites_rise [] rises = tt
cites_rise (first ∷ []) rises = tt
cites_rise (first ∷ second ∷ others) rises = (rises.0, cites_rise (second ∷ others) rises.1)

-- what can be cited has numbers that can be cited, and the other way round
pub AreCitable-numbers : (cites : List Cite) → AreCited cites → AreCitable (numbers_of cites)
AreCitable-numbers cites are =
    let count = numbers_length cites in
    record { some = omega (arith, count, are.some); few = omega (arith, count, are.few); rising = numbers_rise cites are.rising }

pub AreCited-numbers : (cites : List Cite) → AreCitable (numbers_of cites) → AreCited cites
AreCited-numbers cites are =
    let count = numbers_length cites in
    record { some = omega (arith, count, are.some); few = omega (arith, count, are.few); rising = cites_rise cites are.rising }

-- what is found of numbers that can be cited can be cited
pub AreCited-found : (book : Book) (numbers : List ℕ) (cites : List Cite) → AreFound book numbers cites → AreCitable numbers → AreCited cites
AreCited-found book numbers cites found citable = AreCited-numbers cites (subst AreCitable (sym found.numbers_are) citable)

-- ---- the statements that are cited

-- what holds of each statement of a book holds of those that are cited from it
pub all_cited : (P : StatementView → Type 0) (book : Book) (cites : List Cite) → AllByRecursion P (statements_in book) → AllByRecursion (StandsUnderNumber book) cites → AllByRecursion P (statements_of cites)
all_cited P book [] all stand = tt
all_cited P book (cite ∷ cites) all stand =
    (AllByRecursion-contains P (statements_in book) cite.statement all (Contains-held book stand.0.place cite.statement stand.0.found), all_cited P book cites all stand.1)

each_among : (xs all : List StatementView) → ((s : StatementView) → Contains xs s → Contains all s) → AllByRecursion (Contains all) xs
each_among [] all among = tt
each_among (s ∷ xs) all among = (among s (Contains-head s s xs refl), each_among xs all (λ t here. among t (Contains-append_right (s ∷ []) xs t here)))

-- they are among the statements of the book
pub Includes-cited : (book : Book) (cites : List Cite) → AllByRecursion (StandsUnderNumber book) cites → Includes (statements_in book) (statements_of cites)
Includes-cited book cites stand x among =
    let statements = statements_in book in
    let all : AllByRecursion (Contains statements) (statements_of cites) = all_cited (Contains statements) book cites (each_among statements statements (λ s here. here)) stand in
    AllByRecursion-contains (Contains statements) (statements_of cites) x all among

-- ---- issues

-- one more entry is one more statement
pub sayings-push : (entries : List RegisteredView) (entry : RegisteredView) → sayings (entries ++ entry ∷ []) ≡ sayings entries ++ entry.statement ∷ []
sayings-push [] entry = refl
sayings-push (first ∷ entries) entry = ap (λ (ss : List StatementView). first.statement ∷ ss) (sayings-push entries entry)

pub sayings-more : (entries : List RegisteredView) (statement : StatementView) (signature : List ℕ) → sayings (entries ++ record { statement = statement; signature = signature; withdrawn = false } ∷ []) ≡ sayings entries ++ statement ∷ []
sayings-more entries statement signature = sayings-push entries (record { statement = statement; signature = signature; withdrawn = false })

stands_more : (statements more : List StatementView) (cite : Cite) → StandsUnderNumber (whole_book statements) cite → StandsUnderNumber (whole_book (statements ++ more)) cite
stands_more statements more cite stands =
    subst (λ (book : Book). StandsUnderNumber book cite) (sym (map-append held_as statements more)) (IsNumbered-more (whole_book statements) (whole_book more) cite.number (Some cite.statement) stands)

-- an issue stays good if statements are added
pub IsGoodIssue-more : (statements more : List StatementView) (issue : Issue) → IsGoodIssue statements issue → IsGoodIssue (statements ++ more) issue
IsGoodIssue-more statements more issue good = record {
  cites = good.cites;
  cited = good.cited;
  rising = good.rising;
  stand = AllByRecursion-weaker (StandsUnderNumber (whole_book statements)) (StandsUnderNumber (whole_book (statements ++ more))) good.cites (stands_more statements more) good.stand;
  granted = good.granted;
}

-- what is issued of a sound grant is sound: what it allows does not rest on what it names
SoundGrant-form : (statements : List StatementView) (proved g : GrantView) (numbers : List ℕ) → IsGrantOf proved numbers g → SoundGrant statements proved → SoundGrant statements g
SoundGrant-form statements proved _ numbers as_proved sound = sound
SoundGrant-form statements proved _ numbers naming sound = record { allows = λ moment facts holds. sound.allows moment facts (record { times = holds.times; states = holds.states }) }

-- and a grant, if the numbers may be named
IsGrant-form : (proved g : GrantView) (numbers : List ℕ) → AreNamed numbers → IsGrantOf proved numbers g → IsGrant proved → IsGrant g
IsGrant-form proved _ numbers named as_proved is = is
IsGrant-form proved _ numbers named naming is = IsGrant-naming proved numbers is (inr named)

-- what stands under its number has a number from 1 on, so that what is cited may be named
pub AreNamed-stand : (book : Book) (cites : List Cite) → AreCited cites → AllByRecursion (StandsUnderNumber book) cites → AreNamed (numbers_of cites)
AreNamed-stand book [] cited stand = let citable = AreCitable-numbers [] cited in absurd (omega (arith, citable.some))
AreNamed-stand book (cite ∷ cites) cited stand =
    AreNamed-citable cite.number (numbers_of cites) (AreCitable-numbers (cite ∷ cites) cited) (omega (arith, stand.0.from_one))

pub SoundGrant-granted : (cites : List Cite) (proof : ProofView) (g : GrantView) → IsGrantedFrom cites proof g → SoundGrant (statements_of cites) g
SoundGrant-granted cites proof g granted = SoundGrant-form (statements_of cites) granted.proved g (numbers_of cites) granted.form granted.granted.sound

-- and the grant of a good issue is one
pub IsGrant-good : (statements : List StatementView) (issue : Issue) → IsGoodIssue statements issue → IsGrant issue.grant
IsGrant-good statements issue good =
    IsGrant-form good.granted.proved issue.grant (numbers_of good.cites) (AreNamed-stand (whole_book statements) good.cites good.rising good.stand) good.granted.form good.granted.granted.is_grant

named_form : (proved g : GrantView) (numbers : List ℕ) (number : ℕ) (others : List ℕ) → IsGrantOf proved numbers g → proved.cited ≡ [] → g.cited ≡ number ∷ others → numbers ≡ number ∷ others
named_form proved _ numbers number others as_proved none names = let both = sym none ∙ names in absurd cc
named_form proved _ numbers number others naming none names = names

-- what the grant of a good issue names is what the issue cites
pub cited_named : (statements : List StatementView) (issue : Issue) (number : ℕ) (others : List ℕ) → IsGoodIssue statements issue → issue.grant.cited ≡ number ∷ others → issue.cited ≡ number ∷ others
cited_named statements issue number others good names =
    good.cited
    ∙ named_form good.granted.proved issue.grant (numbers_of good.cites) number others good.granted.form
    (cited-verdict (statements_of good.cites) issue.grant.goal issue.proof good.granted.proved good.granted.granted.verdict_is) names

-- a grant that is the proved one has the form
pub proved_form : (proved g : GrantView) (numbers : List ℕ) (same : Bool) → same ≡ true → IsTrue same ↔ (g ≡ proved) → IsTrue same ↔ IsGrantOf proved numbers g
proved_form proved g numbers same is decides = (λ so. subst (IsGrantOf proved numbers) (sym (decides.0 so)) as_proved, λ form. is)

-- and one that is another has it if it is the proved one with these numbers
pub naming_form : (proved g : GrantView) (numbers : List ℕ) (same with_names : Bool) → same ≡ false → IsTrue same ↔ (g ≡ proved) → IsTrue with_names ↔ (g ≡ record proved { cited = numbers }) →
    IsTrue with_names ↔ IsGrantOf proved numbers g
naming_form proved g numbers same with_names differs is_same is_naming = (
  λ so. subst (IsGrantOf proved numbers) (sym (is_naming.0 so)) naming,
  λ form. told g form is_same is_naming,
) where
  told : (h : GrantView) → IsGrantOf proved numbers h → IsTrue same ↔ (h ≡ proved) → IsTrue with_names ↔ (h ≡ record proved { cited = numbers }) → IsTrue with_names
  told _ as_proved is_same is_naming = absurd (false≢true (sym differs ∙ is_same.1 refl))
  told _ naming is_same is_naming = is_naming.1 refl

-- what a proof grants is granted from what it cites
pub granted_as : (cites : List Cite) (goal : Goal) (proof : ProofView) (proved g : GrantView) → IsGranted (statements_of cites) goal proof proved → goal ≡ g.goal → IsGrantOf proved (numbers_of cites) g → IsGrantedFrom cites proof g
granted_as cites goal proof proved g granted of_goal form = record {
  proved = proved;
  granted = subst (λ (w : Goal). IsGranted (statements_of cites) w proof proved) of_goal granted;
  form = form;
}

-- the grant of a checked proof is, in the form in which it is issued
pub IsGrantedFrom-checked : (checked : CheckedView) → IsChecked checked → IsGrantedFrom checked.cited checked.proof (issued_grant checked.grant (numbers_of checked.cited))
IsGrantedFrom-checked checked is = granted_as checked.cited checked.goal checked.proof checked.grant (issued_grant checked.grant (numbers_of checked.cited)) is (sym is.same_goal) naming

abbrev graded : GrantView → Result GrantView CheckFault
graded g = Ok g

abbrev refusal_of : CheckFault → Result GrantView CheckFault
refusal_of fault = Err fault

same_graded : (first second : GrantView) → graded first ≡ graded second → first ≡ second
same_graded first second same = cc

-- and it is in one of the two forms
pub granted_is : (cites : List Cite) (goal : Goal) (proof : ProofView) (proved g : GrantView) → verdict (statements_of cites) goal proof ≡ Ok proved → goal ≡ g.goal → IsGrantedFrom cites proof g → IsGrantOf proved (numbers_of cites) g
granted_is cites goal proof proved g is of_goal from =
    let both : graded proved ≡ graded from.proved = sym is ∙ ap (λ (w : Goal). verdict (statements_of cites) w proof) of_goal ∙ from.granted.verdict_is in
    subst (λ (p : GrantView). IsGrantOf p (numbers_of cites) g) (sym (same_graded proved from.proved both)) from.form

-- a proof that is refused grants nothing
pub refused_grants_none : (cites : List Cite) (proof : ProofView) (g : GrantView) (fault : CheckFault) → (fault ≡ checks.NoMemory → ⊥) → IsFault fault (verdict (statements_of cites) g.goal proof) → IsGrantedFrom cites proof g → ⊥
refused_grants_none cites proof g fault not_memory fails from =
    ⊎_elim (λ memory. not_memory memory) (λ is. let both : graded from.proved ≡ refusal_of fault = sym from.granted.verdict_is ∙ is in absurd cc) fails

-- an issue that is good may come next, if each number that it cites holds a statement
pub MayBeIssued-good : (state : BaseView) (issue : Issue) → IsGoodIssue (sayings state.statements) issue → AllByRecursion (IsHeld (book_of state)) issue.cited → MayBeIssued state issue
MayBeIssued-good state issue good held = record { good = good; held = held }

-- the statements that an issue cites that may come next are found among those that stand
pub MayBeIssued-found : (state : BaseView) (issue : Issue) (may : MayBeIssued state issue) → AreFound (book_of state) issue.cited may.good.cites
MayBeIssued-found state issue may = record {
  numbers_are = sym may.good.cited;
  stand = stand_if_held state.statements may.good.cites may.good.stand (subst (AllByRecursion (IsHeld (book_of state))) may.good.cited may.held);
}
