-- The first events of a lawful history are one, and lead to a world within its limits.
use Rattle.std.proofs.Common.{◌≡◌, ◌<◌, ◌≤◌, ◌+◌, ◌-◌, ℕ, List, [], ◌∷◌, ◌++◌, length, take, refl, sym, ap, ◌∙◌, subst, ⊎_elim, arith}
use Rattle.std.proofs.lemmas.Bool.{cases_lt}
use Rattle.std.proofs.lemmas.List.{length-append, take-append-le, take_all}
use Rattle.journal_records.specs.declared.event.Event.{Event}
use Rattle.access_history.specs.Authority.{Authority}
use Rattle.access_history.specs.Base.{BaseView}
use Rattle.access_history.specs.Lawful.{AreLawful, IsLawful, no_event, one_more}
use Rattle.access_history.proofs.LawfulLemmas.{IsWorld-lawful}
use Rattle.file_world.specs.World.{IsWorld}
use Rattle.pcfs_store.specs.Entries.{Root, StoreEntry, happened, checkpointed, stopped, events_among, state_of_entries}
use Rattle.session_history.specs.Turn.{authority_of_root}

taken_lawful : (authority : Authority) (base : BaseView) (events : List Event) → AreLawful authority base events → (place : ℕ) → AreLawful authority base (take place events)
taken_lawful authority base _ no_event place = subst (AreLawful authority base) (sym (take_all place [] (omega arith))) no_event
taken_lawful authority base _ (one_more before event lawful follows) place =
    ⊎_elim
    (λ (past : length before < place). subst (AreLawful authority base) (sym (take_all place (before ++ event ∷ []) (omega (arith, past, length-append before (event ∷ []))))) (one_more before event lawful follows))
    (λ (within : place ≤ length before). subst (AreLawful authority base) (sym (take-append-le place before (event ∷ []) within)) (taken_lawful authority base before lawful place))
    (cases_lt (length before) place)

taken_front : (xs ys : List Event) → take (length xs) (xs ++ ys) ≡ xs
taken_front xs ys = take-append-le (length xs) xs ys (omega arith) ∙ take_all (length xs) xs (omega arith)

front_lawful : (authority : Authority) (base : BaseView) (xs ys : List Event) → IsLawful authority base (xs ++ ys) → IsLawful authority base xs
front_lawful authority base xs ys lawful = record {
  lawful_base = lawful.lawful_base;
  counted = omega (arith, lawful.counted, length-append xs ys);
  each = subst (AreLawful authority base) (taken_front xs ys) (taken_lawful authority base (xs ++ ys) lawful.each (length xs));
}

-- the events of entries, and of others after them
events_after : (before after : List StoreEntry) → events_among (before ++ after) ≡ events_among before ++ events_among after
events_after [] after = refl
events_after (happened event ∷ before) after = ap (λ (es : List Event). event ∷ es) (events_after before after)
events_after (checkpointed pass ∷ before) after = events_after before after
events_after (stopped pass met ∷ before) after = events_after before after

-- the world that the first entries of a lawful history left
pub world_before : (root : Root) (history before after : List StoreEntry) → history ≡ before ++ after → IsLawful (authority_of_root root) root.base (events_among history) → IsWorld (state_of_entries root before).world
world_before root history before after parts lawful =
    IsWorld-lawful (authority_of_root root) root.base (events_among before)
    (front_lawful (authority_of_root root) root.base (events_among before) (events_among after)
    (subst (IsLawful (authority_of_root root) root.base) (ap events_among parts ∙ events_after before after) lawful))
