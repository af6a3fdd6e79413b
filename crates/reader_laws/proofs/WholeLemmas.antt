-- Procaps, events and images as whole inputs.
use Rattle.std.proofs.Common.{◌≡◌, ℕ, List, [], ◌∷◌, ◌++◌, length, true, false, Err, refl, sym, ap, ◌∙◌}
use Rattle.std.proofs.lemmas.List.{append-nil}
use Rattle.bl_syntax.specs.declared.codec_fault.CodecFault.TheVariants.{Short, NotCanonical}
use Rattle.bl_syntax.specs.Reading.{reading}
use Rattle.procap.specs.Procap.{procap_spelling, IsSpellableProcap, procap_at, whole_procap}
use Rattle.procap.proofs.ProcapLemmas.{procap_codec}
use Rattle.journal_records.specs.declared.event.Event.{Event}
use Rattle.journal_records.specs.Passes.{erase}
use Rattle.access_history.specs.Base.{BaseView}
use Rattle.access_history.proofs.PassLemmas.{erase_twice}
use Rattle.journal_records.specs.EventSpelling.{event_spelling, IsSpellableEvent, IsReadEvent}
use Rattle.journal_records.specs.EventReading.{event_at, whole_event}
use Rattle.journal_records.proofs.EventLemmas.{erased_spellable, event_codec, same_spelling}
use Rattle.checkpoint_image.specs.ImageSpelling.{fields_spelling, image_spelling, AreFieldsOf, IsSpellableImage}
use Rattle.checkpoint_image.specs.ImageReading.{fields_at, image_at, is_versioned, stored_image_at, whole_image}
use Rattle.checkpoint_image.proofs.ImageLemmas.{fields_codec, image_codec}
use Rattle.checkpoint_image.proofs.StoredLemmas.{current_begins, cut_old, nothing_is_short, old_begins, stored_current, stored_old}
use Rattle.checkpoint.specs.Reading.{IsSpelledAs, current, old, ReadsImage, field}
use Rattle.reader_laws.specs.Cuts.{AreCutsRefused, IsLeftOverRefused, AreCutImagesShort}
use Rattle.reader_laws.proofs.CutLemmas.{cut_at, cuts, whole_cuts, left_over}
use Rattle.reader_laws.proofs.GrantLemmas.{procaps}
use Rattle.reader_laws.proofs.RecordLemmas.{events}
use Rattle.reader_laws.proofs.ImageLemmas.{fields, images}

pub cut_procaps : AreCutsRefused Short IsSpellableProcap procap_spelling whole_procap
unfolding whole_procap
cut_procaps = whole_cuts IsSpellableProcap procap_spelling procap_at procap_codec procaps

pub procap_left_over : IsLeftOverRefused IsSpellableProcap procap_spelling whole_procap
unfolding whole_procap
procap_left_over = left_over IsSpellableProcap procap_spelling procap_at procap_codec

-- the event of pass 0 is read
erased : (e : Event) → IsSpellableEvent e → IsReadEvent (erase e)
erased e spelled = record { spelled = erased_spellable e spelled; erased = erase_twice e }

cut_read_events : AreCutsRefused Short IsReadEvent event_spelling whole_event
unfolding whole_event
cut_read_events = whole_cuts IsReadEvent event_spelling event_at event_codec events

read_event_left_over : IsLeftOverRefused IsReadEvent event_spelling whole_event
unfolding whole_event
read_event_left_over = left_over IsReadEvent event_spelling event_at event_codec

pub cut_events : AreCutsRefused Short IsSpellableEvent event_spelling whole_event
cut_events e front byte rest spelled is = cut_read_events (erase e) front byte rest (erased e spelled) (same_spelling e ∙ is)

pub event_left_over : IsLeftOverRefused IsSpellableEvent event_spelling whole_event
event_left_over e byte rest spelled =
    ap (λ (bytes : List ℕ). whole_event (bytes ++ byte ∷ rest)) (sym (same_spelling e))
    ∙ read_event_left_over (erase e) byte rest (erased e spelled)
    ∙ ap (λ (bytes : List ℕ). Err (NotCanonical (length bytes))) (same_spelling e)

pub cut_images : AreCutsRefused Short IsSpellableImage image_spelling whole_image
unfolding whole_image
cut_images = whole_cuts IsSpellableImage image_spelling image_at image_codec images

pub cut_old_images : AreCutsRefused Short AreFieldsOf fields_spelling (reading fields_at)
cut_old_images = cuts AreFieldsOf fields_spelling fields_at fields_codec fields

-- an image of version 2 that is cut begins with its version, or is nothing
cut_current : (input : ℕ) (base : BaseView) (front : List ℕ) (byte : ℕ) (rest : List ℕ) → IsSpellableImage base → image_spelling base ≡ front ++ byte ∷ rest → stored_image_at input front ≡ Err Short
cut_current input base [] byte rest spelled is = stored_old input [] refl ∙ nothing_is_short input
cut_current input base (version ∷ front) byte rest spelled is =
    let begins : is_versioned (version ∷ front) ≡ true = ap is_versioned (sym is ∙ sym (append-nil (image_spelling base))) ∙ current_begins base [] in
    stored_current input (version ∷ front) begins ∙ cut_at IsSpellableImage image_spelling image_at image_codec images input base (version ∷ front) byte rest spelled is

-- one of version 1 that is cut has none
cut_fields : (input : ℕ) (base : BaseView) (front : List ℕ) (byte : ℕ) (rest : List ℕ) → AreFieldsOf base → fields_spelling base ≡ front ++ byte ∷ rest → stored_image_at input front ≡ Err Short
cut_fields input base front byte rest fields_are is =
    let begins : is_versioned front ≡ false = cut_old front byte rest (ap is_versioned (sym is ∙ sym (append-nil (fields_spelling base))) ∙ old_begins base [] fields_are) in
    stored_old input front begins ∙ cut_at AreFieldsOf fields_spelling fields_at fields_codec fields input base front byte rest fields_are is

-- a spelling of a state that is cut
cut_spelling : (base : BaseView) (image front : List ℕ) (byte : ℕ) (rest : List ℕ) → IsSpelledAs base image → image ≡ front ++ byte ∷ rest → ReadsImage front (Err Short)
cut_spelling base _ front byte rest (current spelled) is = field Short (cut_current (length front) base front byte rest spelled is)
cut_spelling base _ front byte rest (old fields_are) is = field Short (cut_fields (length front) base front byte rest fields_are is)

pub cut_states : AreCutImagesShort
cut_states base front byte rest image = cut_spelling base (front ++ byte ∷ rest) front byte rest image.spelled refl
