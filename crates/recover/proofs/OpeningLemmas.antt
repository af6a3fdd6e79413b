-- What an opening finds and reports, over plain values.
use Rattle.std.proofs.Common.{◌≡◌, ◌≢◌, ◌≤◌, ◌⊎◌, ℕ, List, [], ◌∷◌, length, get_or, refl, sym, ap, subst, ◌∙◌, arith, lt-ltb, le-ltb, ne_eqb, inl, inr, ⊎_elim, cond, Some, None, IfSome}
use Rattle.std.specs.Prelude.{Option, Bool, true, false, nat_eq, nat_lt}
use Rattle.std.specs.Option.{option_map}
use Rattle.std.specs.List.{AllByRecursion}
use Rattle.std.proofs.lemmas.Bool.{cases_lt}
use Rattle.pcfs_ports.specs.Faults.{HasRisen}
use Rattle.policy_statement.specs.Ring.{KeyView}
use Rattle.journal_core.specs.Area.{area_bytes, generation_of, IsArea, IsBroken, IsGeneration, IsShut, StandsForBody}
use Rattle.journal_core.specs.declared.scan.ScanFault.{ScanFault}
use Rattle.journal_core.specs.declared.scan.ScanFault.TheVariants as scans
use Rattle.journal_core.proofs.RestsLemmas.{if_told, at_told, some_same}
use Rattle.journal_records.specs.declared.event.Event.{Event}
use Rattle.access_history.specs.Authority.{Authority}
use Rattle.access_history.specs.History.{authority_with}
use Rattle.journal_records.specs.EventSpelling.{IsReadEvent}
use Rattle.op_gate.specs.Decision.{GateView}
use Rattle.pcfs_store.specs.Newest.{newer, newest, one_of}
use Rattle.pcfs_store.specs.Ready.{IsBehind}
use Rattle.pcfs_store.specs.StoredHistory.{payloads_of, AreSpellable, StandsFor}
use Rattle.pcfs_store.specs.StoreView.{StoreView, body_of}
use Rattle.recover.specs.declared.fault.OpenFault.{OpenFault}
use Rattle.recover.specs.declared.fault.OpenFault.TheVariants.{NoStore, Damaged, Disk, NoMemory}
use Rattle.pcfs_store.proofs.SurvivalLemmas.{generation_stands}
use Rattle.recover.specs.AreaDamage.{IsDamagedArea}
use Rattle.recover.specs.Opening.{HoldsArea, IsHandled, IsNewestHistory, IsNotOpened, IsOpened, IsRead, IsScanned, IsWhy, HasCause}
use Rattle.recover.specs.Reading.{HoldsHistory}
use Rattle.recover.proofs.DiskLemmas.{handled_then, read_then, then_risen}

-- what is read has a spelling
pub all_spellable : (events : List Event) → AllByRecursion IsReadEvent events → AreSpellable events
all_spellable [] each = tt
all_spellable (event ∷ events) each = (each.0.spelled, all_spellable events each.1)

-- ---- one area

-- the history of what a scan found is that of the area
pub holds_area : (key : List ℕ) (ring : List KeyView) (end generation : ℕ) (image : List ℕ) (payloads : List (List ℕ)) (gate : GateView) → IsGeneration generation → end ≡ length (area_bytes generation image payloads) → HoldsHistory key ring image payloads gate →
    HoldsArea key ring end generation image gate
holds_area key ring end generation image payloads gate generated end_is holds = record {
  generated = generated;
  end_is = end_is ∙ ap (λ (ps : List (List ℕ)). length (area_bytes generation image ps)) holds.read.payloads_are;
  key_is = holds.key_is;
  ring_is = holds.ring_is;
  image_is = holds.image_is;
  idle = holds.idle;
  each = holds.read.each;
  lawful = holds.lawful;
}

pub area_read : (key : List ℕ) (ring : List KeyView) (bytes : List ℕ) (generation : ℕ) (image : List ℕ) (payloads : List (List ℕ)) (gate : GateView) → HoldsHistory key ring image payloads gate → IsArea bytes generation image payloads →
    IsArea bytes generation image (payloads_of gate.events)
area_read key ring bytes generation image payloads gate holds area = subst (IsArea bytes generation image) holds.read.payloads_are area

-- the same of the generation and the image as they were told
pub held_as : {key : List ℕ} {ring : List KeyView} {end generation told : ℕ} {image shown : List ℕ} {gate : GateView} → told ≡ generation → shown ≡ image → HoldsArea key ring end generation image gate → HoldsArea key ring end told shown gate
held_as {key} {ring} {end} {generation} {told} {image} {shown} {gate} generation_is image_is holds =
    subst (λ (g : ℕ). HoldsArea key ring end g shown gate) (sym generation_is) (subst (λ (i : List ℕ). HoldsArea key ring end generation i gate) (sym image_is) holds)

pub area_as : (bytes : Option (List ℕ)) (told generation : ℕ) (shown image : List ℕ) (payloads : List (List ℕ)) → told ≡ generation → shown ≡ image → IfSome bytes (λ b. IsArea b generation image payloads) → IfSome bytes (λ b. IsArea b told shown payloads)
area_as bytes told generation shown image payloads generation_is image_is area =
    subst (λ (g : ℕ). IfSome bytes (λ b. IsArea b g shown payloads)) (sym generation_is) (subst (λ (i : List ℕ). IfSome bytes (λ b. IsArea b generation i payloads)) (sym image_is) area)

-- what a scan says of the bytes
pub scanned : (fault : ScanFault) (told : Option (List ℕ)) → (fault ≡ scans.Closed → IfSome told IsShut) → ((number : ℕ) → fault ≡ scans.Broken number → IfSome told (IsBroken number)) → IfSome told (IsScanned fault)
scanned scans.Closed told closed broken = closed refl
scanned (scans.Broken number) told closed broken = broken number refl
scanned scans.Disk told closed broken = if_told told (λ b. Unit {0}) (λ b is. tt)
scanned scans.NoMemory told closed broken = if_told told (λ b. Unit {0}) (λ b is. tt)

-- why no history is found where a scan found no area
pub area_why : (authority : Authority) (fault : ScanFault) (result : OpenFault) (told left : Option (List ℕ)) → (fault ≢ scans.Disk → left ≡ told) → (fault ≡ scans.Disk → result ≡ Disk) → IfSome told (IsScanned fault) →
    IfSome left (λ bytes. IsScanned fault bytes → IsWhy authority bytes result) → IfSome told (λ bytes. IsWhy authority bytes result)
area_why authority scans.Closed result told left same disk said why = if_told told (λ bytes. IsWhy authority bytes result)
    (λ bytes is. at_told left (λ bytes. IsScanned scans.Closed bytes → IsWhy authority bytes result) bytes (same (λ e. cc) ∙ is) why (at_told told (IsScanned scans.Closed) bytes is said))
area_why authority (scans.Broken number) result told left same disk said why = if_told told (λ bytes. IsWhy authority bytes result)
    (λ bytes is. at_told left (λ bytes. IsScanned (scans.Broken number) bytes → IsWhy authority bytes result) bytes (same (λ e. cc) ∙ is) why (at_told told (IsScanned (scans.Broken number)) bytes is said))
area_why authority scans.Disk result told left same disk said why = if_told told (λ bytes. IsWhy authority bytes result) (λ bytes is. subst (λ (f : OpenFault). IsWhy authority bytes f) (sym (disk refl)) tt)
area_why authority scans.NoMemory result told left same disk said why = if_told told (λ bytes. IsWhy authority bytes result)
    (λ bytes is. at_told left (λ bytes. IsScanned scans.NoMemory bytes → IsWhy authority bytes result) bytes (same (λ e. cc) ∙ is) why tt)

-- ---- the newest of two

behind_second : (first second : Option ℕ) (generation : ℕ) → newer first second ≡ Some false → first ≡ Some generation → IsBehind false generation second
behind_second first None generation newer_is is = tt
behind_second None (Some found) generation newer_is is = absurd cc
behind_second (Some shown) (Some found) generation newer_is is =
    ⊎_elim (λ less. let other : nat_lt shown found ≡ true = lt-ltb shown found less in absurd cc) (λ more. let same : shown ≡ generation = cc in omega (arith, more, same)) (cases_lt shown found)

behind_first : (first second : Option ℕ) (generation : ℕ) → newer first second ≡ Some true → second ≡ Some generation → IsBehind true generation first
behind_first None second generation newer_is is = tt
behind_first (Some found) None generation newer_is is = absurd cc
behind_first (Some found) (Some shown) generation newer_is is =
    ⊎_elim (λ less. let same : shown ≡ generation = cc in omega (arith, less, same)) (λ more. let other : nat_lt found shown ≡ false = le-ltb found shown more in absurd cc) (cases_lt found shown)

-- the first or the second area counts
newest_first : (x y : List ℕ) → Some false ≡ newer (generation_of x) (generation_of y) → newest x y ≡ Some x
newest_first x y is = sym (ap (option_map (one_of x y)) is)

newest_second : (x y : List ℕ) → Some true ≡ newer (generation_of x) (generation_of y) → newest x y ≡ Some y
newest_second x y is = sym (ap (option_map (one_of x y)) is)

-- an area that is not open has no generation
none_if : (b : Bool) (x : Option ℕ) → b ≡ false → cond b x None ≡ None
none_if true x is = absurd cc
none_if false x is = refl

shut_none : (bytes : List ℕ) → IsShut bytes → generation_of bytes ≡ None
shut_none bytes shut = none_if (nat_eq (get_or bytes 0 0) 1) _ (ne_eqb (get_or bytes 0 0) 1 shut)

first_open : (first second : Option ℕ) → newer first second ≡ Some false → first ≡ None → ⊥
first_open None None newer_is none = absurd cc
first_open None (Some found) newer_is none = absurd cc
first_open (Some shown) second newer_is none = absurd cc

second_open : (first second : Option ℕ) → newer first second ≡ Some true → second ≡ None → ⊥
second_open None None newer_is none = absurd cc
second_open (Some shown) None newer_is none = absurd cc
second_open first (Some found) newer_is none = absurd cc

-- what is told of two disks
both_told : (first second : Option (List ℕ)) (P : List ℕ → List ℕ → Type 0) (x y : List ℕ) → first ≡ Some x → second ≡ Some y → IfSome first (λ x. IfSome second (λ y. P x y)) → P x y
both_told first second P x y first_is second_is holds = at_told second (λ y. P x y) y second_is (at_told first (λ x. IfSome second (λ y. P x y)) x first_is holds)

holds_told : (told : Option (List ℕ)) (P : List ℕ → Type 0) (bytes : List ℕ) → told ≡ Some bytes → P bytes → IfSome told P
holds_told told P bytes is holds = if_told told P (λ b b_is. subst P (some_same bytes b (sym is ∙ b_is)) holds)

-- ---- two disks

stands_there : (bytes : List ℕ) (key : List ℕ) (ring : List KeyView) (end generation : ℕ) (found : List ℕ) (gate : GateView) → HoldsArea key ring end generation found gate → IsArea bytes generation found (payloads_of gate.events) → StandsFor bytes generation gate.base gate.events
stands_there bytes key ring end generation found gate holds area =
    record { image = found; is_image = holds.image_is; spelled = all_spellable gate.events holds.each; is_area = area }

newest_history : (bytes x y : List ℕ) (key : List ℕ) (ring : List KeyView) (end generation : ℕ) (found : List ℕ) (gate : GateView) → HoldsArea key ring end generation found gate → IsArea bytes generation found (payloads_of gate.events) → newest x y ≡ Some bytes →
    IsNewestHistory (authority_with key ring) generation found gate.base gate.events x y
unfolding stands_there
newest_history bytes x y key ring end generation found gate holds area counts =
    record { bytes = bytes; counts = counts; stands = stands_there bytes key ring end generation found gate holds area; image_is = refl; each = holds.each; lawful = holds.lawful }

module _ {D : Type 0} (clock : D → ℕ) (left_since : D → ℕ → List ℕ → Type 0) (image : D → Option (List ℕ)) (faults : D → ℕ)
    (earlier : (disk : D) (t u : ℕ) (b : List ℕ) → t ≤ u → left_since disk u b → left_since disk t b)
    (may_stay : (disk : D) (b : List ℕ) → image disk ≡ Some b → left_since disk (clock disk) b)
    (a b a1 b1 : D) (key : List ℕ) (ring : List KeyView) (read_a : IsRead clock left_since image faults a a1) (read_b : IsRead clock left_since image faults b b1) where
  -- the store of the first disk's area
  module _ (a2 : D) (read_area : IsRead clock left_since image faults a1 a2) (end generation : ℕ) (found : List ℕ) (gate : GateView) (holds : HoldsArea key ring end generation found gate)
      (which : IfSome (image a) (λ x. IfSome (image b) (λ y. Some false ≡ newer (generation_of x) (generation_of y))))
      (area : IfSome (image a1) (λ bytes. IsArea bytes generation found (payloads_of gate.events))) where
    abbrev store_first : StoreView D
    store_first = record { active = a2; other = b1; second_active = false; generation = generation; used = end; key = gate.key; ring = gate.ring; base = gate.base; opened = found; events = gate.events; checkpoints = []; stop = None; met = None }

    area_first : (x : List ℕ) → image a ≡ Some x → IsArea x generation found (payloads_of gate.events)
    area_first x told = at_told (image a1) (λ bytes. IsArea bytes generation found (payloads_of gate.events)) x (read_a.same ∙ told) area

    which_first : (x y : List ℕ) → image a ≡ Some x → image b ≡ Some y → Some false ≡ newer (generation_of x) (generation_of y)
    which_first x y told_a told_b = both_told (image a) (image b) (λ x y. Some false ≡ newer (generation_of x) (generation_of y)) x y told_a told_b which

    behind_there : (x y : List ℕ) → image a ≡ Some x → image b ≡ Some y → IsBehind false generation (generation_of y)
    behind_there x y told_a told_b =
        behind_second (generation_of x) (generation_of y) generation (sym (which_first x y told_a told_b)) (generation_stands x generation gate.base gate.events (stands_there x key ring end generation found gate holds (area_first x told_a)))

    pub opened_first : IsOpened clock left_since image faults a b key ring store_first
    opened_first = record {
      first_read = read_then clock left_since image faults earlier may_stay a a1 a2 read_a read_area;
      second_read = read_b;
      key_is = holds.key_is;
      ring_is = holds.ring_is;
      unsettled = refl;
      lawful = holds.lawful;
      each = holds.each;
      running = refl;
      newest_history = λ x y told_a told_b. newest_history x x y key ring end generation found gate holds (area_first x told_a) (newest_first x y (which_first x y told_a told_b));
      current = λ x y told_a told_b. record {
        running = refl;
        active = holds_told (image a2) (StandsForBody (body_of store_first)) x (read_area.same ∙ read_a.same ∙ told_a) (area_first x told_a).stands;
        other = holds_told (image b1) (λ bytes. IsBehind false generation (generation_of bytes)) y (read_b.same ∙ told_b) (behind_there x y told_a told_b);
      };
      ready = λ x y told_a told_b closed.
          let same : x ≡ closed.bytes = some_same x closed.bytes (sym (newest_first x y (which_first x y told_a told_b)) ∙ closed.counts) in
          record {
            running = refl;
            rests = record {
              bytes = x;
              told = read_area.same ∙ read_a.same ∙ told_a;
              closed = record { stands = (area_first x told_a).stands; gate = omega (arith, closed.gate, ap length same) };
              pinned = read_area.pinned;
            };
            other_bytes = y;
            other_told = read_b.same ∙ told_b;
            other_pinned = read_b.pinned;
            behind = behind_there x y told_a told_b;
          };
    }

  -- the store of the second disk's area
  module _ (b2 : D) (read_area : IsRead clock left_since image faults b1 b2) (end generation : ℕ) (found : List ℕ) (gate : GateView) (holds : HoldsArea key ring end generation found gate)
      (which : IfSome (image a) (λ x. IfSome (image b) (λ y. Some true ≡ newer (generation_of x) (generation_of y))))
      (area : IfSome (image b1) (λ bytes. IsArea bytes generation found (payloads_of gate.events))) where
    abbrev store_second : StoreView D
    store_second = record { active = b2; other = a1; second_active = true; generation = generation; used = end; key = gate.key; ring = gate.ring; base = gate.base; opened = found; events = gate.events; checkpoints = []; stop = None; met = None }

    area_second : (y : List ℕ) → image b ≡ Some y → IsArea y generation found (payloads_of gate.events)
    area_second y told = at_told (image b1) (λ bytes. IsArea bytes generation found (payloads_of gate.events)) y (read_b.same ∙ told) area

    which_second : (x y : List ℕ) → image a ≡ Some x → image b ≡ Some y → Some true ≡ newer (generation_of x) (generation_of y)
    which_second x y told_a told_b = both_told (image a) (image b) (λ x y. Some true ≡ newer (generation_of x) (generation_of y)) x y told_a told_b which

    behind_here : (x y : List ℕ) → image a ≡ Some x → image b ≡ Some y → IsBehind true generation (generation_of x)
    behind_here x y told_a told_b =
        behind_first (generation_of x) (generation_of y) generation (sym (which_second x y told_a told_b)) (generation_stands y generation gate.base gate.events (stands_there y key ring end generation found gate holds (area_second y told_b)))

    pub opened_second : IsOpened clock left_since image faults a b key ring store_second
    opened_second = record {
      first_read = read_a;
      second_read = read_then clock left_since image faults earlier may_stay b b1 b2 read_b read_area;
      key_is = holds.key_is;
      ring_is = holds.ring_is;
      unsettled = refl;
      lawful = holds.lawful;
      each = holds.each;
      running = refl;
      newest_history = λ x y told_a told_b. newest_history y x y key ring end generation found gate holds (area_second y told_b) (newest_second x y (which_second x y told_a told_b));
      current = λ x y told_a told_b. record {
        running = refl;
        active = holds_told (image b2) (StandsForBody (body_of store_second)) y (read_area.same ∙ read_b.same ∙ told_b) (area_second y told_b).stands;
        other = holds_told (image a1) (λ bytes. IsBehind true generation (generation_of bytes)) x (read_a.same ∙ told_a) (behind_here x y told_a told_b);
      };
      ready = λ x y told_a told_b closed.
          let same : y ≡ closed.bytes = some_same y closed.bytes (sym (newest_second x y (which_second x y told_a told_b)) ∙ closed.counts) in
          record {
            running = refl;
            rests = record {
              bytes = y;
              told = read_area.same ∙ read_b.same ∙ told_b;
              closed = record { stands = (area_second y told_b).stands; gate = omega (arith, closed.gate, ap length same) };
              pinned = read_area.pinned;
            };
            other_bytes = x;
            other_told = read_a.same ∙ told_a;
            other_pinned = read_a.pinned;
            behind = behind_here x y told_a told_b;
          };
    }

  -- the first area counts, and no history was found in it
  first_cause : (a2 : D) (fault : OpenFault) → IfSome (image a) (λ x. IfSome (image b) (λ y. Some false ≡ newer (generation_of x) (generation_of y))) → IfSome (image a1) (λ bytes. IsWhy (authority_with key ring) bytes fault) →
      (fault ≡ Disk → HasRisen (faults a1) (faults a2)) → HasCause clock left_since image faults a b (authority_with key ring) fault a2 b1
  first_cause a2 NoStore which why risen = λ x y told_a told_b.
      let counts = both_told (image a) (image b) (λ x y. Some false ≡ newer (generation_of x) (generation_of y)) x y told_a told_b which in
      absurd (first_open (generation_of x) (generation_of y) (sym counts) (shut_none x (at_told (image a1) IsShut x (read_a.same ∙ told_a) why)))
  first_cause a2 (Damaged number damage) which why risen = λ x y told_a told_b.
      let counts = both_told (image a) (image b) (λ x y. Some false ≡ newer (generation_of x) (generation_of y)) x y told_a told_b which in
      record { bytes = x; counts = newest_first x y counts; damaged = at_told (image a1) (λ bytes. IsDamagedArea (authority_with key ring) bytes number damage) x (read_a.same ∙ told_a) why }
  first_cause a2 Disk which why risen = inl (then_risen (faults a) (faults a1) (faults a2) read_a.handled.never_falls (risen refl))
  first_cause a2 NoMemory which why risen = tt

  pub not_opened_first : (a2 : D) (fault : OpenFault) → IfSome (image a) (λ x. IfSome (image b) (λ y. Some false ≡ newer (generation_of x) (generation_of y))) → IfSome (image a1) (λ bytes. IsWhy (authority_with key ring) bytes fault) →
      (fault ≡ Disk → HasRisen (faults a1) (faults a2)) → IsHandled clock left_since image faults a1 a2 → (fault ≢ Disk → image a2 ≡ image a1) → (fault ≢ Disk → faults a2 ≡ faults a1) → IsNotOpened clock left_since image faults a b (authority_with key ring) fault a2 b1
  not_opened_first a2 fault which why risen handled_area same no_fault = record {
    cause = first_cause a2 fault which why risen;
    first_handled = handled_then clock left_since image faults earlier may_stay a a1 a2 read_a.handled handled_area;
    second_handled = read_b.handled;
    first_same = λ not_disk. same not_disk ∙ read_a.same;
    second_same = λ not_disk. read_b.same;
    first_no_fault = λ not_disk. no_fault not_disk ∙ read_a.no_fault;
    second_no_fault = λ not_disk. read_b.no_fault;
  }

  -- the second area counts, and no history was found in it
  second_cause : (b2 : D) (fault : OpenFault) → IfSome (image a) (λ x. IfSome (image b) (λ y. Some true ≡ newer (generation_of x) (generation_of y))) → IfSome (image b1) (λ bytes. IsWhy (authority_with key ring) bytes fault) →
      (fault ≡ Disk → HasRisen (faults b1) (faults b2)) → HasCause clock left_since image faults a b (authority_with key ring) fault a1 b2
  second_cause b2 NoStore which why risen = λ x y told_a told_b.
      let counts = both_told (image a) (image b) (λ x y. Some true ≡ newer (generation_of x) (generation_of y)) x y told_a told_b which in
      absurd (second_open (generation_of x) (generation_of y) (sym counts) (shut_none y (at_told (image b1) IsShut y (read_b.same ∙ told_b) why)))
  second_cause b2 (Damaged number damage) which why risen = λ x y told_a told_b.
      let counts = both_told (image a) (image b) (λ x y. Some true ≡ newer (generation_of x) (generation_of y)) x y told_a told_b which in
      record { bytes = y; counts = newest_second x y counts; damaged = at_told (image b1) (λ bytes. IsDamagedArea (authority_with key ring) bytes number damage) y (read_b.same ∙ told_b) why }
  second_cause b2 Disk which why risen = inr (then_risen (faults b) (faults b1) (faults b2) read_b.handled.never_falls (risen refl))
  second_cause b2 NoMemory which why risen = tt

  pub not_opened_second : (b2 : D) (fault : OpenFault) → IfSome (image a) (λ x. IfSome (image b) (λ y. Some true ≡ newer (generation_of x) (generation_of y))) → IfSome (image b1) (λ bytes. IsWhy (authority_with key ring) bytes fault) →
      (fault ≡ Disk → HasRisen (faults b1) (faults b2)) → IsHandled clock left_since image faults b1 b2 → (fault ≢ Disk → image b2 ≡ image b1) → (fault ≢ Disk → faults b2 ≡ faults b1) → IsNotOpened clock left_since image faults a b (authority_with key ring) fault a1 b2
  not_opened_second b2 fault which why risen handled_area same no_fault = record {
    cause = second_cause b2 fault which why risen;
    first_handled = read_a.handled;
    second_handled = handled_then clock left_since image faults earlier may_stay b b1 b2 read_b.handled handled_area;
    first_same = λ not_disk. read_a.same;
    second_same = λ not_disk. same not_disk ∙ read_b.same;
    first_no_fault = λ not_disk. read_a.no_fault;
    second_no_fault = λ not_disk. no_fault not_disk ∙ read_b.no_fault;
  }

  -- neither area is open
  pub not_opened_none : IfSome (image a) (λ x. IfSome (image b) (λ y. None ≡ newer (generation_of x) (generation_of y))) → IsNotOpened clock left_since image faults a b (authority_with key ring) NoStore a1 b1
  not_opened_none which = record {
    cause = λ x y told_a told_b. ap (option_map (one_of x y)) (sym (both_told (image a) (image b) (λ x y. None ≡ newer (generation_of x) (generation_of y)) x y told_a told_b which));
    first_handled = read_a.handled;
    second_handled = read_b.handled;
    first_same = λ not_disk. read_a.same;
    second_same = λ not_disk. read_b.same;
    first_no_fault = λ not_disk. read_a.no_fault;
    second_no_fault = λ not_disk. read_b.no_fault;
  }

-- a disk failed before
pub not_opened_failed : {D : Type 0} (clock : D → ℕ) (left_since : D → ℕ → List ℕ → Type 0) (image : D → Option (List ℕ)) (faults : D → ℕ) (a b a1 b1 : D) (key : List ℕ) (ring : List KeyView) →
    HasRisen (faults a) (faults a1) ⊎ HasRisen (faults b) (faults b1) → IsHandled clock left_since image faults a a1 → IsHandled clock left_since image faults b b1 → IsNotOpened clock left_since image faults a b (authority_with key ring) Disk a1 b1
not_opened_failed clock left_since image faults a b a1 b1 key ring risen handled_a handled_b = record {
  cause = risen;
  first_handled = handled_a;
  second_handled = handled_b;
  first_same = λ not_disk. absurd (not_disk refl);
  second_same = λ not_disk. absurd (not_disk refl);
  first_no_fault = λ not_disk. absurd (not_disk refl);
  second_no_fault = λ not_disk. absurd (not_disk refl);
}
