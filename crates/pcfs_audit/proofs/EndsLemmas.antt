-- Before which event each statement was withdrawn, event by event.
use Rattle.std.proofs.Common.{◌≡◌, ◌<◌, ◌≤◌, ◌+◌, ◌-◌, ℕ, zero, suc, List, [], ◌∷◌, ◌++◌, length, take, get_or, map, set, Bool, true, false, cond, ◌||◌, Option, Some, None, is_none, is_some, min, refl, sym, ap, subst, ◌∙◌, arith}
use Rattle.std.specs.Prelude.{find, nat_le}
use Rattle.std.specs.List.{AllByRecursion}
use Rattle.std.proofs.lemmas.Bool.{false≢true, le-leb, lt-leb, leb-true, leb-false}
use Rattle.std.proofs.lemmas.List.{length-append, take-append-le, take_all, take_more}
use Rattle.bl_syntax.proofs.GrantLemmas.{AllByRecursion-push}
use Rattle.policy_statement.specs.Registered.{RegisteredView}
use Rattle.policy_statement.specs.Withdrawal.{is_withdrawn, marked}
use Rattle.policy_statement.proofs.WithdrawalLemmas.{is_withdrawn-push, length-marked}
use Rattle.journal_records.specs.declared.event.Event.{Event}
use Rattle.journal_records.specs.declared.event.Event.TheVariants.{Registered, Withdrawn, Issued, Acted}
use Rattle.access_history.specs.Base.{BaseView}
use Rattle.access_history.specs.Replay.{next_state, replay}
use Rattle.access_history.proofs.ReplayLemmas.{replay-more}
use Rattle.pcfs_audit.specs.Ends.{AreEnds, IsEndWithin, NeverEnds, base_end, earlier_end, end_of, ended_at, ends_with, first_end, first_of_both, is_ended, is_past}

by_test : {P : Type 0} (b : Bool) → (b ≡ true → P) → (b ≡ false → P) → P
by_test true when_true when_false = when_true refl
by_test false when_true when_false = when_false refl

-- ---- the end of a number, as it is read

pub end_of_none : (ends : List (Option ℕ)) (number : ℕ) → number ≡ 0 → None ≡ end_of ends number
end_of_none [] number is = refl
end_of_none (end ∷ ends) zero is = refl
end_of_none (end ∷ ends) (suc number) is = absurd (omega (arith, is))

end_past : (ends : List (Option ℕ)) (place : ℕ) → length ends ≤ place → None ≡ end_of ends (suc place)
end_past [] place le = refl
end_past (end ∷ ends) zero le = absurd (omega (arith, le))
end_past (end ∷ ends) (suc place) le = end_past ends place (omega (arith, le))

pub end_beyond : (ends : List (Option ℕ)) (number : ℕ) → length ends < number → None ≡ end_of ends number
end_beyond ends zero lt = absurd (omega (arith, lt))
end_beyond ends (suc place) lt = end_past ends place (omega (arith, lt))

end_at : (ends : List (Option ℕ)) (place : ℕ) (default : Option ℕ) → place < length ends → get_or ends place default ≡ end_of ends (suc place)
end_at [] place default lt = absurd (omega (arith, lt))
end_at (end ∷ ends) zero default lt = refl
end_at (end ∷ ends) (suc place) default lt = end_at ends place default (omega (arith, lt))

pub end_read : (ends : List (Option ℕ)) (number : ℕ) (default : Option ℕ) → (number ≡ 0 → ⊥) → number ≤ length ends → get_or ends (number - 1) default ≡ end_of ends number
end_read ends zero default some le = absurd (some refl)
end_read ends (suc place) default some le =
    let at : suc place - 1 ≡ place = omega arith in
    ap (λ (p : ℕ). get_or ends p default) at ∙ end_at ends place default (omega (arith, le))

-- what never ends is not past
pub never_past : (ends : List (Option ℕ)) (number place : ℕ) → AllByRecursion NeverEnds ends → is_ended ends number place ≡ false
never_past [] number place never = refl
never_past (end ∷ ends) zero place never = refl
never_past (end ∷ ends) (suc zero) place never = ap (λ (e : Option ℕ). is_past e place) never.0
never_past (end ∷ ends) (suc (suc number)) place never = never_past ends (suc number) place never.1

never_if : (end : Option ℕ) → is_some end ≡ false → NeverEnds end
never_if None none = refl
never_if (Some end) none = absurd (false≢true (sym none))

-- none so far, and this one
pub never_more : (ends : List (Option ℕ)) (place : ℕ) (default : Option ℕ) → place < length ends → is_some (get_or ends place default) ≡ false → AllByRecursion NeverEnds (take place ends) → AllByRecursion NeverEnds (take (place + 1) ends)
never_more ends place default within none before =
    let end = get_or ends place default in
    subst (AllByRecursion NeverEnds) (sym (take_more ends place default within)) (AllByRecursion-push NeverEnds (take place ends) end before (never_if end none))

pub never_all : (ends : List (Option ℕ)) (place : ℕ) → length ends ≤ place → AllByRecursion NeverEnds (take place ends) → AllByRecursion NeverEnds ends
never_all ends place le before = subst (AllByRecursion NeverEnds) (take_all place ends le) before

-- ---- later places

past_later : (end : Option ℕ) (before place : ℕ) → IsEndWithin before end → before ≤ place → is_past end place ≡ is_past end before
past_later None before place within le = refl
past_later (Some end) before place within le = le-leb end place (omega (arith, within, le)) ∙ sym (le-leb end before within)

end_within : (ends : List (Option ℕ)) (number place : ℕ) → AllByRecursion (IsEndWithin place) ends → IsEndWithin place (end_of ends number)
end_within [] number place within = tt
end_within (end ∷ ends) zero place within = tt
end_within (end ∷ ends) (suc zero) place within = within.0
end_within (end ∷ ends) (suc (suc number)) place within = end_within ends (suc number) place within.1

ended_later : (ends : List (Option ℕ)) (number before place : ℕ) → AllByRecursion (IsEndWithin before) ends → before ≤ place → is_ended ends number place ≡ is_ended ends number before
ended_later ends number before place within le = past_later (end_of ends number) before place (end_within ends number before within) le

within_later_one : (end : Option ℕ) (before place : ℕ) → IsEndWithin before end → before ≤ place → IsEndWithin place end
within_later_one None before place within le = tt
within_later_one (Some end) before place within le = omega (arith, within, le)

within_later : (ends : List (Option ℕ)) (before place : ℕ) → AllByRecursion (IsEndWithin before) ends → before ≤ place → AllByRecursion (IsEndWithin place) ends
within_later [] before place within le = tt
within_later (end ∷ ends) before place within le = (within_later_one end before place within.0 le, within_later ends before place within.1 le)

-- ---- one statement more

end_of-push : (ends : List (Option ℕ)) (number : ℕ) → end_of (ends ++ None ∷ []) number ≡ end_of ends number
end_of-push [] zero = refl
end_of-push [] (suc zero) = refl
end_of-push [] (suc (suc number)) = refl
end_of-push (end ∷ ends) zero = refl
end_of-push (end ∷ ends) (suc zero) = refl
end_of-push (end ∷ ends) (suc (suc number)) = end_of-push ends (suc number)

-- ---- a statement that is withdrawn

length-ended_at : (ends : List (Option ℕ)) (number place : ℕ) → length (ended_at ends number place) ≡ length ends
length-ended_at [] number place = refl
length-ended_at (end ∷ ends) zero place = refl
length-ended_at (end ∷ ends) (suc zero) place = refl
length-ended_at (end ∷ ends) (suc (suc number)) place = ap suc (length-ended_at ends (suc number) place)

first_before : (end : Option ℕ) (place before : ℕ) → before < place → is_past (first_of_both end place) before ≡ is_past end before
first_before None place before lt = lt-leb place before lt
first_before (Some end) place before lt = refl

-- it changes nothing before
ended_before : (ends : List (Option ℕ)) (number place other before : ℕ) → before < place → is_ended (ended_at ends number place) other before ≡ is_ended ends other before
ended_before [] number place other before lt = refl
ended_before (end ∷ ends) zero place other before lt = refl
ended_before (end ∷ ends) (suc zero) place zero before lt = refl
ended_before (end ∷ ends) (suc zero) place (suc zero) before lt = first_before end place before lt
ended_before (end ∷ ends) (suc zero) place (suc (suc other)) before lt = refl
ended_before (end ∷ ends) (suc (suc number)) place zero before lt = refl
ended_before (end ∷ ends) (suc (suc number)) place (suc zero) before lt = refl
ended_before (end ∷ ends) (suc (suc number)) place (suc (suc other)) before lt = ended_before ends (suc number) place (suc other) before lt

first_within : (end : Option ℕ) (place : ℕ) → IsEndWithin place end → IsEndWithin place (first_of_both end place)
first_within None place within = omega arith
first_within (Some end) place within = within

ended_within : (ends : List (Option ℕ)) (number place : ℕ) → AllByRecursion (IsEndWithin place) ends → AllByRecursion (IsEndWithin place) (ended_at ends number place)
ended_within [] number place within = tt
ended_within (end ∷ ends) zero place within = within
ended_within (end ∷ ends) (suc zero) place within = (first_within end place within.0, within.1)
ended_within (end ∷ ends) (suc (suc number)) place within = (within.0, ended_within ends (suc number) place within.1)

first_past : (end : Option ℕ) (place : ℕ) → IsEndWithin place end → true ≡ is_past (first_of_both end place) place
first_past None place within = sym (le-leb place place (omega arith))
first_past (Some end) place within = sym (le-leb end place within)

-- the ends tell which of the entries were withdrawn
abbrev TellEnds : ℕ → List RegisteredView → List (Option ℕ) → Type 0
TellEnds place entries ends = (number : ℕ) → is_withdrawn entries number ≡ is_ended ends number place

tell_rest : (place : ℕ) (entry : RegisteredView) (entries : List RegisteredView) (end : Option ℕ) (ends : List (Option ℕ)) → TellEnds place (entry ∷ entries) (end ∷ ends) → TellEnds place entries ends
tell_rest place entry entries end [] tell zero = refl
tell_rest place entry entries end (next ∷ ends) tell zero = refl
tell_rest place entry entries end ends tell (suc number) = tell (suc (suc number))

marked_tells : (place : ℕ) (entries : List RegisteredView) (ends : List (Option ℕ)) (number : ℕ) → length ends ≡ length entries → AllByRecursion (IsEndWithin place) ends → TellEnds place entries ends →
    TellEnds place (marked entries number) (ended_at ends number place)
marked_tells place [] [] number same within tell other = tell other
marked_tells place [] (end ∷ ends) number same within tell other = absurd (omega (arith, same))
marked_tells place (entry ∷ entries) [] number same within tell other = absurd (omega (arith, same))
marked_tells place (entry ∷ entries) (end ∷ ends) zero same within tell other = tell other
marked_tells place (entry ∷ entries) (end ∷ ends) (suc zero) same within tell zero = refl
marked_tells place (entry ∷ entries) (end ∷ ends) (suc zero) same within tell (suc zero) = first_past end place within.0
marked_tells place (entry ∷ entries) (end ∷ ends) (suc zero) same within tell (suc (suc other)) = tell (suc (suc other))
marked_tells place (entry ∷ entries) (end ∷ ends) (suc (suc number)) same within tell zero = refl
marked_tells place (entry ∷ entries) (end ∷ ends) (suc (suc number)) same within tell (suc zero) = tell (suc zero)
marked_tells place (entry ∷ entries) (end ∷ ends) (suc (suc number)) same within tell (suc (suc other)) =
    marked_tells place entries ends (suc number) (omega (arith, same)) within.1 (tell_rest place entry entries end ends tell) (suc other)

-- ---- one event more

-- an event changes nothing of what its ends tell before the next
with_before : (ends : List (Option ℕ)) (place : ℕ) (event : Event) (number before : ℕ) → before < place → is_ended (ends_with ends place event) number before ≡ is_ended ends number before
with_before ends place (Registered pass statement signature) number before lt = ap (λ (end : Option ℕ). is_past end before) (end_of-push ends number)
with_before ends place (Withdrawn pass withdrawn signature) number before lt = ended_before ends withdrawn place number before lt
with_before ends place (Issued pass cited proof g) number before lt = refl
with_before ends place (Acted pass caller op procaps moment) number before lt = refl

-- what they tell after it
next_tells : (place : ℕ) (state : BaseView) (ends : List (Option ℕ)) (event : Event) → length ends ≡ length state.statements → AllByRecursion (IsEndWithin place) ends → TellEnds place state.statements ends →
    TellEnds place (next_state state event).statements (ends_with ends place event)
next_tells place state ends (Registered pass statement signature) same within tell number =
    is_withdrawn-push state.statements (record { statement = statement; signature = signature; withdrawn = false }) number refl
    ∙ (tell number ∙ ap (λ (end : Option ℕ). is_past end place) (sym (end_of-push ends number)))
next_tells place state ends (Withdrawn pass withdrawn signature) same within tell number = marked_tells place state.statements ends withdrawn same within tell number
next_tells place state ends (Issued pass cited proof g) same within tell number = tell number
next_tells place state ends (Acted pass caller op procaps moment) same within tell number = tell number

pub ends_counted-more : (state : BaseView) (ends : List (Option ℕ)) (place : ℕ) (event : Event) → length ends ≡ length state.statements → length (ends_with ends place event) ≡ length (next_state state event).statements
ends_counted-more state ends place (Registered pass statement signature) same =
    let entry : RegisteredView = record { statement = statement; signature = signature; withdrawn = false } in
    omega (arith, same, length-append ends (None ∷ []), length-append state.statements (entry ∷ []))
ends_counted-more state ends place (Withdrawn pass number signature) same = length-ended_at ends number place ∙ same ∙ sym (length-marked state.statements number)
ends_counted-more state ends place (Issued pass cited proof g) same = same
ends_counted-more state ends place (Acted pass caller op procaps moment) same = same

ends_within-next : (ends : List (Option ℕ)) (place : ℕ) (event : Event) → AllByRecursion (IsEndWithin place) ends → AllByRecursion (IsEndWithin place) (ends_with ends place event)
ends_within-next ends place (Registered pass statement signature) within = AllByRecursion-push (IsEndWithin place) ends None within tt
ends_within-next ends place (Withdrawn pass number signature) within = ended_within ends number place within
ends_within-next ends place (Issued pass cited proof g) within = within
ends_within-next ends place (Acted pass caller op procaps moment) within = within

pub ends_within-more : (events : List Event) (event : Event) (ends : List (Option ℕ)) → AllByRecursion (IsEndWithin (length events)) ends → AllByRecursion (IsEndWithin (length (events ++ event ∷ []))) (ends_with ends (length events + 1) event)
ends_within-more events event ends within =
    let more : length (events ++ event ∷ []) ≡ length events + 1 = length-append events (event ∷ []) in
    subst (λ (n : ℕ). AllByRecursion (IsEndWithin n) (ends_with ends (length events + 1) event)) (sym more)
    (ends_within-next ends (length events + 1) event (within_later ends (length events) (length events + 1) within (omega arith)))

module _ (base : BaseView) (events : List Event) (event : Event) (ends : List (Option ℕ)) (same : length ends ≡ length (replay base events).statements) (within : AllByRecursion (IsEndWithin (length events)) ends) (are : AreEnds base events ends) where
  abbrev next_place : ℕ
  next_place = length events + 1

  -- before the events that were there
  earlier_tells : (place number : ℕ) → place ≤ length events → is_withdrawn (replay base (take place (events ++ event ∷ []))).statements number ≡ is_ended (ends_with ends next_place event) number place
  earlier_tells place number le =
      let front : take place (events ++ event ∷ []) ≡ take place events = take-append-le place events (event ∷ []) le in
      ap (λ (es : List Event). is_withdrawn (replay base es).statements number) front ∙ are place number le ∙ sym (with_before ends next_place event number place (omega (arith, le)))

  stays : (number : ℕ) → is_withdrawn (replay base events).statements number ≡ is_ended ends number next_place
  stays number =
      let all : take (length events) events ≡ events = take_all (length events) events (omega arith) in
      ap (λ (es : List Event). is_withdrawn (replay base es).statements number) (sym all) ∙ are (length events) number (omega arith) ∙ sym (ended_later ends number (length events) next_place within (omega arith))

  last_tells : (number : ℕ) → is_withdrawn (replay base (take next_place (events ++ event ∷ []))).statements number ≡ is_ended (ends_with ends next_place event) number next_place
  last_tells number =
      let all : take next_place (events ++ event ∷ []) ≡ events ++ event ∷ [] = take_all next_place (events ++ event ∷ []) (omega (arith, length-append events (event ∷ []))) in
      ap (λ (es : List Event). is_withdrawn (replay base es).statements number) all
      ∙ (ap (λ (b : BaseView). is_withdrawn b.statements number) (replay-more base events event)
      ∙ next_tells next_place (replay base events) ends event same (within_later ends (length events) next_place within (omega arith)) stays number)

  pub AreEnds-more : AreEnds base (events ++ event ∷ []) (ends_with ends (length events + 1) event)
  AreEnds-more place number le =
      by_test (nat_le place (length events)) (λ is. earlier_tells place number (leb-true place (length events) is)) (λ is.
      let last : next_place ≡ place = omega (arith, leb-false place (length events) is, le, length-append events (event ∷ [])) in
      subst (λ (p : ℕ). is_withdrawn (replay base (take p (events ++ event ∷ []))).statements number ≡ is_ended (ends_with ends next_place event) number p) last (last_tells number))

-- ---- the base

base_past : (b : Bool) → b ≡ is_past (cond b (Some 0) None) 0
base_past true = refl
base_past false = refl

base_tells : (entries : List RegisteredView) → TellEnds 0 entries (map base_end entries)
base_tells [] zero = refl
base_tells [] (suc number) = refl
base_tells (entry ∷ entries) zero = refl
base_tells (entry ∷ entries) (suc zero) = base_past entry.withdrawn
base_tells (entry ∷ entries) (suc (suc number)) = base_tells entries (suc number)

pub AreEnds-base : (base : BaseView) → AreEnds base [] (map base_end base.statements)
AreEnds-base base place number le =
    let first : 0 ≡ place = omega (arith, le) in
    let events : List Event = [] in
    let none : take place events ≡ events = take_all place events (omega arith) in
    ap (λ (es : List Event). is_withdrawn (replay base es).statements number) none
    ∙ subst (λ (p : ℕ). is_withdrawn base.statements number ≡ is_ended (map base_end base.statements) number p) first (base_tells base.statements number)

base_within_one : (b : Bool) → IsEndWithin 0 (cond b (Some 0) None)
base_within_one true = omega arith
base_within_one false = tt

pub base_within : (entries : List RegisteredView) → AllByRecursion (IsEndWithin 0) (map base_end entries)
base_within [] = tt
base_within (entry ∷ entries) = (base_within_one entry.withdrawn, base_within entries)

-- ---- the first end of some statements

or_false : (b : Bool) → b ≡ (b || false)
or_false true = refl
or_false false = refl

past_min : (one other place : ℕ) → nat_le (min one other) place ≡ (nat_le one place || nat_le other place)
past_min one other place =
    by_test (nat_le one place)
    (λ is. le-leb (min one other) place (omega (arith, leb-true one place is)) ∙ ap (λ (b : Bool). b || nat_le other place) (sym is))
    (λ not_one. by_test (nat_le other place)
    (λ is. le-leb (min one other) place (omega (arith, leb-true other place is)) ∙ (sym is ∙ ap (λ (b : Bool). b || nat_le other place) (sym not_one)))
    (λ not_other.
    lt-leb (min one other) place (omega (arith, leb-false one place not_one, leb-false other place not_other)) ∙ (sym not_other ∙ ap (λ (b : Bool). b || nat_le other place) (sym not_one))))

past_earlier : (one other : Option ℕ) (place : ℕ) → is_past (earlier_end one other) place ≡ (is_past one place || is_past other place)
past_earlier None other place = refl
past_earlier (Some end) None place = or_false (nat_le end place)
past_earlier (Some end) (Some other) place = past_min end other place

some_or : (b : Bool) (number : ℕ) (found : Option ℕ) → is_some (cond b (Some number) found) ≡ (b || is_some found)
some_or true number found = refl
some_or false number found = refl

-- it is past exactly if one of them was withdrawn
pub first_end_tells : (ends : List (Option ℕ)) (numbers : List ℕ) (place : ℕ) → is_past (first_end ends numbers) place ≡ is_some (find (λ (number : ℕ). is_ended ends number place) numbers)
first_end_tells ends [] place = refl
first_end_tells ends (number ∷ numbers) place =
    past_earlier (end_of ends number) (first_end ends numbers) place
    ∙ (ap (λ (b : Bool). is_ended ends number place || b) (first_end_tells ends numbers place)
    ∙ sym (some_or (is_ended ends number place) number (find (λ (n : ℕ). is_ended ends n place) numbers)))

-- ---- ends as they are written

-- nothing has the number 0
pub ended_none : (ends : List (Option ℕ)) (number place : ℕ) → number ≡ 0 → ends ≡ ended_at ends number place
ended_none [] number place is = refl
ended_none (end ∷ ends) zero place is = refl
ended_none (end ∷ ends) (suc number) place is = absurd (omega (arith, is))

set_end : (ends : List (Option ℕ)) (index place : ℕ) (end : Option ℕ) → index < length ends → end ≡ get_or ends index end → end ≡ None → set ends index (Some place) ≡ ended_at ends (suc index) place
set_end [] index place end within read none = absurd (omega (arith, within))
set_end (first ∷ ends) zero place end within read none = ap (λ (e : Option ℕ). first_of_both e place ∷ ends) (sym none ∙ read)
set_end (first ∷ ends) (suc index) place end within read none = ap (λ (es : List (Option ℕ)). first ∷ es) (set_end ends index place end (omega (arith, within)) read none)

-- what did not end before ends there
pub ended_entry : (ends : List (Option ℕ)) (index place : ℕ) (end : Option ℕ) → index < length ends → end ≡ get_or ends index end → end ≡ None → set ends index (Some place) ≡ ended_at ends (index + 1) place
ended_entry ends index place end within read none =
    let number : suc index ≡ index + 1 = omega arith in
    set_end ends index place end within read none ∙ ap (λ (n : ℕ). ended_at ends n place) number

keep_end : (ends : List (Option ℕ)) (index place before : ℕ) (end : Option ℕ) → index < length ends → end ≡ get_or ends index end → end ≡ Some before → ends ≡ ended_at ends (suc index) place
keep_end [] index place before end within read some = absurd (omega (arith, within))
keep_end (first ∷ ends) zero place before end within read some =
    let is : first ≡ Some before = sym read ∙ some in
    ap (λ (e : Option ℕ). e ∷ ends) is ∙ ap (λ (e : Option ℕ). first_of_both e place ∷ ends) (sym is)
keep_end (first ∷ ends) (suc index) place before end within read some = ap (λ (es : List (Option ℕ)). first ∷ es) (keep_end ends index place before end (omega (arith, within)) read some)

some_or_none : (end : Option ℕ) → is_none end ≡ false → (before : ℕ) × (end ≡ Some before)
some_or_none None is = absurd (false≢true (sym is))
some_or_none (Some before) is = (before, refl)

-- what ended before stays
pub ended_kept : (ends : List (Option ℕ)) (index place : ℕ) (end : Option ℕ) → index < length ends → end ≡ get_or ends index end → is_none end ≡ false → ends ≡ ended_at ends (index + 1) place
ended_kept ends index place end within read some =
    let number : suc index ≡ index + 1 = omega arith in
    let before = some_or_none end some in
    keep_end ends index place before.0 end within read before.1 ∙ ap (λ (n : ℕ). ended_at ends n place) number

past_all : (ends : List (Option ℕ)) (index place : ℕ) → length ends ≤ index → ends ≡ ended_at ends (suc index) place
past_all [] index place le = refl
past_all (end ∷ ends) zero place le = absurd (omega (arith, le))
past_all (end ∷ ends) (suc index) place le = ap (λ (es : List (Option ℕ)). end ∷ es) (past_all ends index place (omega (arith, le)))

-- nothing stands behind the last one
pub ended_beyond : (ends : List (Option ℕ)) (index place : ℕ) → length ends ≤ index → ends ≡ ended_at ends (index + 1) place
ended_beyond ends index place le =
    let number : suc index ≡ index + 1 = omega arith in
    past_all ends index place le ∙ ap (λ (n : ℕ). ended_at ends n place) number
