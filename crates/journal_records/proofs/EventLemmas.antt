-- Events: what is read is spelled so, and what is spelled so is read, up to its pass.
use Rattle.std.proofs.Common.{◌≡◌, ℕ, eqb, List, [], ◌∷◌, ◌++◌, length, Result, Ok, Err, refl, sym, ap, subst, ◌∙◌}
use Rattle.std.specs.Prelude.{IfOk}
use Rattle.std.proofs.lemmas.Bool.{eqb-true}
use Rattle.std.proofs.lemmas.List.{append-nil}
use Rattle.bl_syntax.specs.declared.codec_fault.CodecFault.{CodecFault}
use Rattle.bl_syntax.specs.declared.codec_fault.CodecFault.TheVariants as faults
use Rattle.bl_syntax.specs.Reading.{◌>>=◌, Reading, map_reading, GivesReading}
use Rattle.bl_syntax.specs.Codec.{AreBytes, IsCodec, ReportsFault, GivesReadingOrReports}
use Rattle.bl_syntax.proofs.CodecLemmas.{bind_ok, by_test, ok_is, made_ok, made_memoryless, AreBytes-rest, codec}
use Rattle.bl_syntax.proofs.ReportsFaultLemmas.{stops, hands_on, stops_with}
use Rattle.procap.specs.Procap.{at_end}
use Rattle.procap.proofs.ItemsLemmas.{test_memoryless}
use Rattle.journal_records.specs.declared.event.Event.{Event}
use Rattle.journal_records.specs.declared.event.Event.TheVariants.{Registered, Withdrawn, Issued, Acted}
use Rattle.record_parts.specs.RecordSpelling.{Registration, IsRegistration, registration_spelling, Withdrawal, IsWithdrawal, withdrawal_spelling, Issuing, IsIssuing, issuing_spelling, Action, IsAction, action_spelling}
use Rattle.record_parts.specs.RecordReading.{registered_at, withdrawn_at, issued_at, acted_at}
use Rattle.record_parts.proofs.OperationLemmas.{spelled_fits}
use Rattle.record_parts.proofs.RecordLemmas.{registered_codec, withdrawn_codec, issued_codec, acted_codec}
use Rattle.journal_records.specs.Passes.{erase, event_pass, with_pass}
use Rattle.journal_records.specs.EventRecord.{IsRecordOf}
use Rattle.journal_records.specs.EventSpelling.{event_spelling, IsSpellableEvent, HasFittingFields, IsReadEvent}
use Rattle.journal_records.specs.EventReading.{event_at, whole_event, ReadsWholeEvent}

abbrev registered : Registration → Event
registered r = Registered 0 r.0 r.1

abbrev issued : Issuing → Event
issued i = Issued 0 i.0 i.1.0 i.1.1

abbrev acted : Action → Event
acted a = Acted 0 a.0 a.1.0 a.1.1.0 a.1.1.1

abbrev withdrawn : Withdrawal → Event
withdrawn w = Withdrawn 0 w.0 w.1

abbrev Spells : List ℕ → Event → List ℕ → Type 0
Spells bytes e rest = IsReadEvent e × (bytes ≡ event_spelling e ++ rest)

-- an event of which all after the tag was read
with_tag : {A : Type 0} (IsSpelled : A → Type 0) (spelling : A → List ℕ) (at : ℕ → List ℕ → Reading A) (f : A → Event) (code : ℕ) → IsCodec IsSpelled spelling at
    → ((x : A) → IsSpelled x → IsReadEvent (f x)) → ((x : A) → event_spelling (f x) ≡ code ∷ spelling x)
    → (input tag : ℕ) (more rest : List ℕ) (e : Event) → AreBytes more → tag ≡ code → map_reading f (at input more) ≡ Ok (e, rest) → Spells (tag ∷ more) e rest
with_tag IsSpelled spelling at f code c there same input tag more rest e fits is read =
    let m = made_ok f (at input more) e rest read in
    let it = c.found input more rest m.0 fits m.1 in
    subst (λ (d : Event). Spells (tag ∷ more) d rest) m.2 (there m.0 it.0, ap (λ (k : ℕ). k ∷ more) is ∙ ap (λ (b : List ℕ). code ∷ b) it.1 ∙ ap (λ (b : List ℕ). b ++ rest) (sym (same m.0)))

event_found : (input : ℕ) (bytes rest : List ℕ) (e : Event) → AreBytes bytes → event_at input bytes ≡ Ok (e, rest) → IsReadEvent e × (bytes ≡ event_spelling e ++ rest)
unfolding event_at event_spelling
event_found input [] rest e fits read = absurd cc
event_found input (tag ∷ more) rest e fits read =
    let behind : AreBytes more = AreBytes-rest tag more fits in
    by_test (eqb tag 1) _ _ _ read (λ is h. with_tag IsRegistration registration_spelling registered_at registered 1 registered_codec (λ x k. record { spelled = k; erased = refl }) (λ x. refl) input tag more rest e behind (eqb-true tag 1 is) h) (λ _ e1.
    by_test (eqb tag 2) _ _ _ e1 (λ is h. with_tag IsIssuing issuing_spelling issued_at issued 2 issued_codec (λ x k. record { spelled = k; erased = refl }) (λ x. refl) input tag more rest e behind (eqb-true tag 2 is) h) (λ _ e2.
    by_test (eqb tag 3) _ _ _ e2 (λ is h. with_tag IsAction action_spelling acted_at acted 3 acted_codec (λ x k. record { spelled = k; erased = refl }) (λ x. refl) input tag more rest e behind (eqb-true tag 3 is) h) (λ _ e3.
    by_test (eqb tag 4) _ _ _ e3 (λ is h. with_tag IsWithdrawal withdrawal_spelling (λ input. withdrawn_at) withdrawn 4 withdrawn_codec (λ x k. record { spelled = k; erased = refl }) (λ x. refl) input tag more rest e behind (eqb-true tag 4 is) h) (λ _ fault. absurd cc))))

-- whatever its pass
spelled_again : (input : ℕ) (e : Event) (rest : List ℕ) → IsSpellableEvent e → event_at input (event_spelling e ++ rest) ≡ Ok (erase e, rest)
unfolding event_at event_spelling
spelled_again input (Registered pass statement signature) rest h = ap (map_reading registered) (registered_codec.again input (statement, signature) rest h)
spelled_again input (Issued pass cited proof grant) rest h = ap (map_reading issued) (issued_codec.again input (cited, (proof, grant)) rest h)
spelled_again input (Acted pass caller op procaps moment) rest h = ap (map_reading acted) (acted_codec.again input (caller, (op, (procaps, moment))) rest h)
spelled_again input (Withdrawn pass number signature) rest h = ap (map_reading withdrawn) (withdrawn_codec.again input (number, signature) rest h)

abbrev done : {A : Type 0} → A → Result A CodecFault
done x = Ok x

event_again : (input : ℕ) (e : Event) (rest : List ℕ) → IsReadEvent e → event_at input (event_spelling e ++ rest) ≡ Ok (e, rest)
event_again input e rest h = spelled_again input e rest h.spelled ∙ ap (λ (d : Event). done (d, rest)) h.erased

event_memoryless : (input : ℕ) (bytes : List ℕ) → event_at input bytes ≡ Err faults.NoMemory → ⊥
unfolding event_at
event_memoryless input [] e = cc
event_memoryless input (tag ∷ more) e =
    test_memoryless (eqb tag 1) _ _ (λ h. made_memoryless registered (registered_at input more) (registered_codec.memoryless input more) h) (λ e1.
    test_memoryless (eqb tag 2) _ _ (λ h. made_memoryless issued (issued_at input more) (issued_codec.memoryless input more) h) (λ e2.
    test_memoryless (eqb tag 3) _ _ (λ h. made_memoryless acted (acted_at input more) (acted_codec.memoryless input more) h) (λ e3.
    test_memoryless (eqb tag 4) _ _ (λ h. made_memoryless withdrawn (withdrawn_at more) (withdrawn_codec.memoryless input more) h) (λ h. cc) e3) e2) e1) e

pub event_codec : IsCodec IsReadEvent event_spelling event_at
event_codec = codec IsReadEvent event_spelling event_at event_found event_again event_memoryless

-- ---- passes

pub same_spelling : (e : Event) → event_spelling (erase e) ≡ event_spelling e
unfolding event_spelling
same_spelling (Registered pass statement signature) = refl
same_spelling (Issued pass cited proof grant) = refl
same_spelling (Acted pass caller op procaps moment) = refl
same_spelling (Withdrawn pass number signature) = refl

pub erased_spellable : (e : Event) → IsSpellableEvent e → IsSpellableEvent (erase e)
erased_spellable (Registered pass statement signature) is = is
erased_spellable (Issued pass cited proof grant) is = is
erased_spellable (Acted pass caller op procaps moment) is = is
erased_spellable (Withdrawn pass number signature) is = is

pub apart : (e d : Event) (rest others : List ℕ) → IsSpellableEvent e → IsSpellableEvent d → event_spelling e ++ rest ≡ event_spelling d ++ others → (erase e ≡ erase d) × (rest ≡ others)
apart e d rest others first second is =
    let pair = ok_is (erase e, rest) (erase d, others) (sym (spelled_again 0 e rest first) ∙ ap (event_at 0) is ∙ spelled_again 0 d others second) in
    (ap (λ (p : Event × List ℕ). p.0) pair, ap (λ (p : Event × List ℕ). p.1) pair)

-- ---- events that are the whole input

at_end_ok : (input : ℕ) (r : Event × List ℕ) (x : Event) → at_end input r ≡ Ok x → (r.0 ≡ x) × (r.1 ≡ [])
at_end_ok input (y, []) x e = (ok_is y x e, refl)
at_end_ok input (y, byte ∷ rest) x e = absurd cc

whole_found : (bytes : List ℕ) (e : Event) → AreBytes bytes → whole_event bytes ≡ Ok e → IsReadEvent e × (bytes ≡ event_spelling e)
unfolding whole_event
whole_found bytes e fits read =
    let a = bind_ok (event_at (length bytes) bytes) (at_end (length bytes)) e read in
    let end = at_end_ok (length bytes) a.0 e a.2 in
    let it = event_found (length bytes) bytes a.0.1 a.0.0 fits a.1 in
    let ended : bytes ≡ event_spelling a.0.0 = it.1 ∙ ap (λ (rest : List ℕ). event_spelling a.0.0 ++ rest) end.1 ∙ append-nil (event_spelling a.0.0) in
    subst (λ (d : Event). IsReadEvent d × (bytes ≡ event_spelling d)) end.0 (it.0, ended)

pub whole_again : (e : Event) → IsSpellableEvent e → whole_event (event_spelling e) ≡ Ok (erase e)
unfolding whole_event
whole_again e h =
    let read : event_at (length (event_spelling e)) (event_spelling e) ≡ Ok (erase e, []) =
    ap (event_at (length (event_spelling e))) (sym (append-nil (event_spelling e))) ∙ spelled_again (length (event_spelling e)) e [] h in
    rw read refl

reads_ok : (bytes : List ℕ) (e : Event) → AreBytes bytes → whole_event bytes ≡ Ok e → ReadsWholeEvent bytes (Ok e)
reads_ok bytes e fits read = record { found = whole_found bytes e fits read; refused = tt }

differ : (e : Event) (fault : CodecFault) (r : Result Event CodecFault) → r ≡ Ok e → r ≡ Err fault → ⊥
differ e fault r x y = cc

reads_err : (bytes : List ℕ) (fault : CodecFault) → ((fault ≡ faults.NoMemory → ⊥) → whole_event bytes ≡ Err fault) → ReadsWholeEvent bytes (Err fault)
reads_err bytes fault read = record {
  found = tt;
  refused = λ memory e spelled is. differ (erase e) fault (whole_event bytes) (ap whole_event is ∙ whole_again e spelled) (read memory);
}

-- ---- calls that read the whole input

pub event_stops : (bytes : List ℕ) (fault : CodecFault) → ReportsFault fault (event_at (length bytes) bytes) → ReportsFault fault (whole_event bytes)
unfolding whole_event
event_stops bytes fault h = hands_on fault (event_at (length bytes) bytes) (at_end (length bytes)) h

pub ends : (bytes rest : List ℕ) (e : Event) (result : Result Event CodecFault) → event_at (length bytes) bytes ≡ Ok (e, rest) → GivesReading (λ d. d) result (at_end (length bytes) (e, rest))
    → GivesReadingOrReports (λ d. d) result (whole_event bytes)
unfolding whole_event
ends bytes rest e (Ok d) read h = ap (λ (r : Reading Event). r >>= at_end (length bytes)) read ∙ h
ends bytes rest e (Err fault) read h = stops fault (whole_event bytes) (ap (λ (r : Reading Event). r >>= at_end (length bytes)) read ∙ h)

reads_stop : (bytes : List ℕ) (fault : CodecFault) → ReportsFault fault (whole_event bytes) → ReadsWholeEvent bytes (Err fault)
reads_stop bytes fault h = reads_err bytes fault (λ memory. stops_with fault (whole_event bytes) h memory)

pub reads : (bytes : List ℕ) (result : Result Event CodecFault) → AreBytes bytes → GivesReadingOrReports (λ d. d) result (whole_event bytes) → ReadsWholeEvent bytes result
reads bytes (Ok e) fits h = reads_ok bytes e fits h
reads bytes (Err fault) fits h = reads_stop bytes fault h

-- an event that has a spelling may be written
pub spellable_fits : (e : Event) → IsSpellableEvent e → HasFittingFields e
spellable_fits (Registered pass statement signature) h = h.signed
spellable_fits (Issued pass cited proof grant) h = h.numbers.few
spellable_fits (Acted pass caller op procaps moment) h = (spelled_fits op h.words, (h.sealed.few, h.timed))
spellable_fits (Withdrawn pass number signature) h = h.signed

pub reads_what_fits : (bytes : List ℕ) (result : Result Event CodecFault) → AreBytes bytes → GivesReadingOrReports (λ d. d) result (whole_event bytes) → IfOk result HasFittingFields
reads_what_fits bytes (Ok e) fits h = spellable_fits e (whole_found bytes e fits h).0.spelled
reads_what_fits bytes (Err fault) fits h = tt

-- ---- records

passed_again : (e : Event) → with_pass (event_pass e) (erase e) ≡ e
passed_again (Registered pass statement signature) = refl
passed_again (Issued pass cited proof grant) = refl
passed_again (Acted pass caller op procaps moment) = refl
passed_again (Withdrawn pass number signature) = refl

-- what is read of an event's record, with its pass, is the event
pub kept_again : (e d : Event) (pass : ℕ) (payload bytes : List ℕ) → IsRecordOf e pass payload → bytes ≡ payload → ReadsWholeEvent bytes (Ok d) → with_pass pass d ≡ e
kept_again e d pass payload bytes kept bytes_are read =
    let found = read.found in
    let same : erase e ≡ erase d = (apart e d [] [] kept.spelled found.0.spelled (ap (λ (b : List ℕ). b ++ []) (sym kept.written ∙ (sym bytes_are ∙ found.1)))).0 in
    ap (λ (p : ℕ). with_pass p d) kept.passed ∙ ap (with_pass (event_pass e)) (sym found.0.erased ∙ sym same) ∙ passed_again e

pub recorded : (e : Event) → IsSpellableEvent e → IsRecordOf e (event_pass e) (event_spelling e)
recorded e spelled = record { spelled = spelled; passed = refl; written = refl }

pub one_record : (e d : Event) (pass : ℕ) (payload : List ℕ) → IsRecordOf e pass payload → IsRecordOf d pass payload → e ≡ d
one_record e d pass payload first second =
    let same : erase e ≡ erase d = (apart e d [] [] first.spelled second.spelled (ap (λ (b : List ℕ). b ++ []) (sym first.written ∙ second.written))).0 in
    sym (passed_again e)
    ∙ (ap (λ (p : ℕ). with_pass p (erase e)) (sym first.passed ∙ second.passed)
    ∙ (ap (with_pass (event_pass d)) same ∙ passed_again d))

pub read_again : (e d : Event) (pass : ℕ) (payload : List ℕ) → IsRecordOf e pass payload → whole_event payload ≡ Ok d → with_pass pass d ≡ e
read_again e d pass payload kept read =
    let same : erase e ≡ d = ok_is (erase e) d (sym (whole_again e kept.spelled) ∙ (ap whole_event (sym kept.written) ∙ read)) in
    ap (λ (p : ℕ). with_pass p d) kept.passed ∙ (ap (with_pass (event_pass e)) (sym same) ∙ passed_again e)
