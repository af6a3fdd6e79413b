-- One constraint more among those to which chains lead, and among those from which they do.
use Rattle.std.proofs.Common.{◌≡◌, ◌⊎◌, inl, inr, ℕ, zero, suc, ◌+◌, ◌-◌, ◌<◌, ◌≤◌, List, [], ◌∷◌, ◌++◌, take, length, get_or, Bool, refl, sym, subst, ap, ◌∙◌, arith}
use Rattle.std.specs.Prelude.{◌↔◌, Some, IsTrue}
use Rattle.std.specs.List.{slice_get}
use Rattle.std.proofs.lemmas.List.{take_more, take_all, take-map, take_at, take-take, take-append-le, length-append, length-map, length-take, length-take-le, get_or-map}
use Rattle.std.proofs.lemmas.Option.{slice_get-get_or, slice_get_within, same_Some}
use Rattle.bl_syntax.specs.declared.terms.Term.{Term}
use Rattle.bl_syntax.specs.declared.terms.Constraint.{Constraint}
use Rattle.bl_syntax.specs.Entailment.{IsLink, IsChain, link, IsContradictory}
use Rattle.bl_syntax.proofs.EntailmentLemmas.{IsChain-joined}
use Rattle.bl_constraints.specs.declared.tracked.Tracked.{Tracked}
use Rattle.bl_constraints.specs.Places.{HasPlace, Meet}
use Rattle.bl_constraints.specs.Reached.{StandsAt, IsLedTo, LeadsTo, AreAfter, AreBefore, IsOnward, IsTracked, AreTracked, constraints_of}
use Rattle.bl_constraints.proofs.LinkLemmas.{link_in}
use Rattle.bl_constraints.proofs.ChainLemmas.{no_contradiction, by_cases, stands_before, stands_last, stands_cases, stands_contained, contained_stands, through, chain_before, chain_through, chain_parts, HasLast, last_of_chain}

-- a set with one place more, and then with the places of another
abbrev pub IsWith : List ℕ → ℕ → List ℕ → List ℕ → Type 0
IsWith old last others new = (place : ℕ) → HasPlace new place ↔ (((place ≡ last) ⊎ HasPlace old place) ⊎ HasPlace others place)

pub with_both : (old middle new others : List ℕ) (last : ℕ) → ((k : ℕ) → HasPlace middle k ↔ ((k ≡ last) ⊎ HasPlace old k)) → ((k : ℕ) → HasPlace new k ↔ (HasPlace middle k ⊎ HasPlace others k))
    → IsWith old last others new
with_both old middle new others last first second place = (
  λ h. by_cases ((second place).0 h) (λ m. inl ((first place).0 m)) inr,
  λ h. (second place).1 (by_cases h (λ m. inl ((first place).1 m)) inr),
)

module _ (psi : List Constraint) (c : Constraint) (before after : List ℕ) (are_before : AreBefore psi c.low before) (are_after : AreAfter psi c.high after) where
  module _ (u : Term) (reached : List ℕ) (so_far : AreAfter psi u reached) where
    by_meeting : Meet reached before → IsChain psi u c.low
    by_meeting m =
        let led = (so_far.each m.place).0 m.here in
        let leads = (are_before.each m.place).0 m.there in
        let same : led.constraint ≡ leads.constraint = same_Some led.constraint leads.constraint (sym led.stands ∙ leads.stands) in
        IsChain-joined psi led.chain
        (IsChain-joined psi (through psi led.constraint (stands_contained psi m.place led.constraint led.stands)) (subst (λ (x : Constraint). IsChain psi x.high c.low) (sym same) leads.chain))

    meeting : HasLast psi u c.low → Meet reached before
    meeting h =
        let stands = contained_stands psi h.constraint h.contained in
        record {
          place = h.contained.0;
          here = (so_far.each h.contained.0).1 (record { constraint = h.constraint; stands = stands; chain = h.front });
          there = (are_before.each h.contained.0).1 (record { constraint = h.constraint; stands = stands; chain = link h.constraint.high c.low (link_in psi h.onto) });
        }

    -- a chain leads to the constraint exactly if the term is linked to it, or one that is reached leads to it
    pub led_or_not : (IsLink [] u c.low ⊎ Meet reached before) ↔ IsChain psi u c.low
    led_or_not = (λ h. by_cases h (λ l. link u c.low (link_in psi l)) by_meeting, λ p. by_cases (last_of_chain psi p) inl (λ h. inr (meeting h)))

    still_led : (place : ℕ) → IsLedTo psi u place → IsLedTo (psi ++ c ∷ []) u place
    still_led place led = record { constraint = led.constraint; stands = stands_before psi c led.constraint place led.stands; chain = chain_before psi c led.chain }

    -- the constraint is reached, and with it what it led to
    pub reached_more : (new : List ℕ) → IsWith reached (length psi) after new → IsChain psi u c.low → AreAfter (psi ++ c ∷ []) u new
    reached_more new added chain = record {
      each = λ place. (
        λ h. by_cases ((added place).0 h)
            (λ first. by_cases first
            (λ last. record { constraint = c; stands = subst (λ (k : ℕ). StandsAt (psi ++ c ∷ []) k c) (sym last) (stands_last psi c); chain = chain_before psi c chain })
            (λ old. still_led place ((so_far.each place).0 old)))
            (λ behind.
            let led = (are_after.each place).0 behind in
            record { constraint = led.constraint; stands = stands_before psi c led.constraint place led.stands; chain = chain_through psi c chain led.chain }),
        λ led. (added place).1
            (by_cases (stands_cases psi c led.constraint place led.stands)
            (λ stands. by_cases (chain_parts psi c led.chain)
            (λ p. inl (inr ((so_far.each place).1 (record { constraint = led.constraint; stands = stands; chain = p }))))
            (λ parts. inr ((are_after.each place).1 (record { constraint = led.constraint; stands = stands; chain = parts.1 }))))
            (λ last. inl (inl last.0))),
      );
    }

    -- it is not
    pub reached_same : (IsChain psi u c.low → ⊥) → AreAfter (psi ++ c ∷ []) u reached
    reached_same no_chain = record {
      each = λ place. (
        λ h. still_led place ((so_far.each place).0 h),
        λ led. by_cases (chain_parts psi c led.chain)
            (λ p. by_cases (stands_cases psi c led.constraint place led.stands)
            (λ stands. (so_far.each place).1 (record { constraint = led.constraint; stands = stands; chain = p }))
            (λ last. absurd (no_chain (subst (λ (x : Constraint). IsChain psi u x.low) (sym last.1) p))))
            (λ parts. absurd (no_chain parts.0)),
      );
    }

  module _ (t : Term) (leading : List ℕ) (so_far : AreBefore psi t leading) where
    through_meeting : Meet after leading → IsChain psi c.high t
    through_meeting m =
        let led = (are_after.each m.place).0 m.here in
        let leads = (so_far.each m.place).0 m.there in
        let same : led.constraint ≡ leads.constraint = same_Some led.constraint leads.constraint (sym led.stands ∙ leads.stands) in
        IsChain-joined psi led.chain
        (IsChain-joined psi (through psi led.constraint (stands_contained psi m.place led.constraint led.stands)) (subst (λ (x : Constraint). IsChain psi x.high t) (sym same) leads.chain))

    meeting_on : HasLast psi c.high t → Meet after leading
    meeting_on h =
        let stands = contained_stands psi h.constraint h.contained in
        record {
          place = h.contained.0;
          here = (are_after.each h.contained.0).1 (record { constraint = h.constraint; stands = stands; chain = h.front });
          there = (so_far.each h.contained.0).1 (record { constraint = h.constraint; stands = stands; chain = link h.constraint.high t (link_in psi h.onto) });
        }

    -- a chain leads from the constraint exactly if it is linked to the term, or leads to one that leads there
    pub leads_or_not : (IsLink [] c.high t ⊎ Meet after leading) ↔ IsChain psi c.high t
    leads_or_not = (λ h. by_cases h (λ l. link c.high t (link_in psi l)) through_meeting, λ p. by_cases (last_of_chain psi p) inl (λ h. inr (meeting_on h)))

    still_leads : (place : ℕ) → LeadsTo psi t place → LeadsTo (psi ++ c ∷ []) t place
    still_leads place leads = record { constraint = leads.constraint; stands = stands_before psi c leads.constraint place leads.stands; chain = chain_before psi c leads.chain }

    pub leading_more : (new : List ℕ) → IsWith leading (length psi) before new → IsChain psi c.high t → AreBefore (psi ++ c ∷ []) t new
    leading_more new added chain = record {
      each = λ place. (
        λ h. by_cases ((added place).0 h)
            (λ first. by_cases first
            (λ last. record { constraint = c; stands = subst (λ (k : ℕ). StandsAt (psi ++ c ∷ []) k c) (sym last) (stands_last psi c); chain = chain_before psi c chain })
            (λ old. still_leads place ((so_far.each place).0 old)))
            (λ ahead.
            let leads = (are_before.each place).0 ahead in
            record { constraint = leads.constraint; stands = stands_before psi c leads.constraint place leads.stands; chain = chain_through psi c leads.chain chain }),
        λ leads. (added place).1
            (by_cases (stands_cases psi c leads.constraint place leads.stands)
            (λ stands. by_cases (chain_parts psi c leads.chain)
            (λ p. inl (inr ((so_far.each place).1 (record { constraint = leads.constraint; stands = stands; chain = p }))))
            (λ parts. inr ((are_before.each place).1 (record { constraint = leads.constraint; stands = stands; chain = parts.0 }))))
            (λ last. inl (inl last.0))),
      );
    }

    pub leading_same : (IsChain psi c.high t → ⊥) → AreBefore (psi ++ c ∷ []) t leading
    leading_same no_chain = record {
      each = λ place. (
        λ h. still_leads place ((so_far.each place).0 h),
        λ leads. by_cases (chain_parts psi c leads.chain)
            (λ p. by_cases (stands_cases psi c leads.constraint place leads.stands)
            (λ stands. (so_far.each place).1 (record { constraint = leads.constraint; stands = stands; chain = p }))
            (λ last. absurd (no_chain (subst (λ (x : Constraint). IsChain psi x.high t) (sym last.1) p))))
            (λ parts. absurd (no_chain parts.1)),
      );
    }

-- at the start nothing is reached
pub reached_none : (u : Term) (words : List ℕ) → ((place : ℕ) → HasPlace words place → ⊥) → AreAfter [] u words
reached_none u words none = record { each = λ place. (λ h. absurd (none place h), λ led. absurd (nothing_stands place led.constraint led.stands)) }
  where
    nothing_stands : (place : ℕ) (c : Constraint) → StandsAt [] place c → ⊥
    nothing_stands place c e = cc

pub leading_none : (t : Term) (words : List ℕ) → ((place : ℕ) → HasPlace words place → ⊥) → AreBefore [] t words
leading_none t words none = record { each = λ place. (λ h. absurd (none place h), λ leads. absurd (nothing_stands place leads.constraint leads.stands)) }
  where
    nothing_stands : (place : ℕ) (c : Constraint) → StandsAt [] place c → ⊥
    nothing_stands place c e = cc

-- what stands at a place is there whatever the default
pub is_itself : (items : List Tracked) (place : ℕ) (d : Tracked) → place < length items → get_or items place d ≡ get_or items place (get_or items place d)
is_itself items place d within =
    let here : slice_get items place ≡ Some (get_or items place d) = slice_get-get_or items place d within in
    let there : slice_get items place ≡ Some (get_or items place (get_or items place d)) = slice_get-get_or items place (get_or items place d) within in
    same_Some (get_or items place d) (get_or items place (get_or items place d)) (sym here ∙ there)

-- the constraint at a place comes after those before it
module _ (items : List Tracked) (place : ℕ) (item : Tracked) (within : place < length items) (is : item ≡ get_or items place item) where
  pub stands_here : slice_get items place ≡ Some item
  stands_here = slice_get-get_or items place item within ∙ ap Some (sym is)

  within_constraints : place < length (constraints_of items)
  within_constraints = subst (λ (n : ℕ). place < n) (sym (length-map items (λ (x : Tracked). x.constraint))) within

  pub constraint_here : get_or (constraints_of items) place item.constraint ≡ item.constraint
  constraint_here = get_or-map (λ (x : Tracked). x.constraint) items place item item.constraint within ∙ ap (λ (x : Tracked). x.constraint) (sym is)

  pub constraint_stands : StandsAt (constraints_of items) place item.constraint
  constraint_stands = slice_get-get_or (constraints_of items) place item.constraint within_constraints ∙ ap Some constraint_here

  pub taken_more : take (place + 1) (constraints_of items) ≡ take place (constraints_of items) ++ item.constraint ∷ []
  taken_more = take_more (constraints_of items) place item.constraint within_constraints ∙ ap (λ (c : Constraint). take place (constraints_of items) ++ c ∷ []) constraint_here

  pub taken_length : length (take place (constraints_of items)) ≡ place
  taken_length = length-take-le place (constraints_of items) (omega (arith, within_constraints))

  module _ (tracked : AreTracked items) where
    here : IsTracked (take place (constraints_of items)) item
    here = tracked.each place item stands_here

    pub after_more : (u : Term) (old middle new : List ℕ) (led : Bool)
        → AreAfter (take place (constraints_of items)) u old
        → (IsTrue led ↔ (IsLink [] u item.constraint.low ⊎ Meet old item.before.words)) → IsTrue led
        → ((k : ℕ) → HasPlace middle k ↔ ((k ≡ place) ⊎ HasPlace old k)) → ((k : ℕ) → HasPlace new k ↔ (HasPlace middle k ⊎ HasPlace item.after.words k))
        → AreAfter (take (place + 1) (constraints_of items)) u new
    after_more u old middle new led so_far test holds first second =
        rw taken_more
        (reached_more (take place (constraints_of items)) item.constraint item.before.words item.after.words here.before here.after u old so_far new
        (subst (λ (n : ℕ). IsWith old n item.after.words new) (sym taken_length) (with_both old middle new item.after.words place first second))
        ((led_or_not (take place (constraints_of items)) item.constraint item.before.words item.after.words here.before here.after u old so_far).0 (test.0 holds)))

    pub after_same : (u : Term) (old : List ℕ) (led : Bool)
        → AreAfter (take place (constraints_of items)) u old
        → (IsTrue led ↔ (IsLink [] u item.constraint.low ⊎ Meet old item.before.words)) → (IsTrue led → ⊥)
        → AreAfter (take (place + 1) (constraints_of items)) u old
    after_same u old led so_far test fails =
        rw taken_more
        (reached_same (take place (constraints_of items)) item.constraint item.before.words item.after.words here.before here.after u old so_far
        (λ p. fails (test.1 ((led_or_not (take place (constraints_of items)) item.constraint item.before.words item.after.words here.before here.after u old so_far).1 p))))

    pub before_more : (t : Term) (old middle new : List ℕ) (leads : Bool)
        → AreBefore (take place (constraints_of items)) t old
        → (IsTrue leads ↔ (IsLink [] item.constraint.high t ⊎ Meet item.after.words old)) → IsTrue leads
        → ((k : ℕ) → HasPlace middle k ↔ ((k ≡ place) ⊎ HasPlace old k)) → ((k : ℕ) → HasPlace new k ↔ (HasPlace middle k ⊎ HasPlace item.before.words k))
        → AreBefore (take (place + 1) (constraints_of items)) t new
    before_more t old middle new leads so_far test holds first second =
        rw taken_more
        (leading_more (take place (constraints_of items)) item.constraint item.before.words item.after.words here.before here.after t old so_far new
        (subst (λ (n : ℕ). IsWith old n item.before.words new) (sym taken_length) (with_both old middle new item.before.words place first second))
        ((leads_or_not (take place (constraints_of items)) item.constraint item.before.words item.after.words here.before here.after t old so_far).0 (test.0 holds)))

    pub before_same : (t : Term) (old : List ℕ) (leads : Bool)
        → AreBefore (take place (constraints_of items)) t old
        → (IsTrue leads ↔ (IsLink [] item.constraint.high t ⊎ Meet item.after.words old)) → (IsTrue leads → ⊥)
        → AreBefore (take (place + 1) (constraints_of items)) t old
    before_same t old leads so_far test fails =
        rw taken_more
        (leading_same (take place (constraints_of items)) item.constraint item.before.words item.after.words here.before here.after t old so_far
        (λ p. fails (test.1 ((leads_or_not (take place (constraints_of items)) item.constraint item.before.words item.after.words here.before here.after t old so_far).1 p))))

-- all of them
pub taken_all : (items : List Tracked) (place : ℕ) → length items ≤ place → take place (constraints_of items) ≡ constraints_of items
taken_all items place all = take_all place (constraints_of items) (subst (λ (n : ℕ). n ≤ place) (sym (length-map items (λ (x : Tracked). x.constraint))) all)

-- a chain from what is reached, by a link
pub onward_chain : (psi : List Constraint) (u v : Term) (words : List ℕ) → AreAfter psi u words → IsOnward psi words v → IsChain psi u v
onward_chain psi u v words are_after h =
    let led = (are_after.each h.place).0 h.has_place in
    let same : led.constraint ≡ h.constraint = same_Some led.constraint h.constraint (sym led.stands ∙ h.stands) in
    IsChain-joined psi led.chain
    (IsChain-joined psi (through psi led.constraint (stands_contained psi h.place led.constraint led.stands))
    (subst (λ (x : Constraint). IsChain psi x.high v) (sym same) (link h.constraint.high v (link_in psi h.onto))))

pub chain_onward : (psi : List Constraint) (u v : Term) (words : List ℕ) → AreAfter psi u words → (IsLink [] u v → ⊥) → IsChain psi u v → IsOnward psi words v
chain_onward psi u v words are_after unlinked p = by_cases (last_of_chain psi p) (λ l. absurd (unlinked l)) (λ h.
    let stands = contained_stands psi h.constraint h.contained in
    record {
      place = h.contained.0;
      constraint = h.constraint;
      has_place = (are_after.each h.contained.0).1 (record { constraint = h.constraint; stands = stands; chain = h.front });
      stands = stands;
      onto = h.onto;
    })

-- whether the constraints contradict one another is kept of the last
pub no_items_contradict : (items : List Tracked) → length items ≡ 0 → IsContradictory (constraints_of items) → ⊥
no_items_contradict [] e k = no_contradiction k
no_items_contradict (item ∷ items) e k = absurd (omega (arith, e))

pub last_tells : (items : List Tracked) (d : Tracked) → 0 < length items → AreTracked items → IsTrue (get_or items (length items - 1) d).contradicts ↔ IsContradictory (constraints_of items)
last_tells items d some tracked =
    let within : length items - 1 < length items = omega (arith, some) in
    let last : Tracked = get_or items (length items - 1) d in
    let stands : slice_get items (length items - 1) ≡ Some last = slice_get-get_or items (length items - 1) d within in
    let is : last ≡ get_or items (length items - 1) last = same_Some last (get_or items (length items - 1) last) (sym stands ∙ slice_get-get_or items (length items - 1) last within) in
    let told = (tracked.each (length items - 1) last stands).contradicts in
    let all : take (length items - 1) (constraints_of items) ++ last.constraint ∷ [] ≡ constraints_of items =
    sym (taken_more items (length items - 1) last within is) ∙ taken_all items (length items - 1 + 1) (omega (arith, some)) in
    subst (λ (psi : List Constraint). IsTrue last.contradicts ↔ IsContradictory psi) all told

-- the view of one more, and of fewer
pub constraints_pushed : (items : List Tracked) (item : Tracked) → constraints_of (items ++ item ∷ []) ≡ constraints_of items ++ item.constraint ∷ []
constraints_pushed [] item = refl
constraints_pushed (x ∷ items) item = ap (λ (l : List Constraint). x.constraint ∷ l) (constraints_pushed items item)

pub constraints_taken : (items : List Tracked) (n : ℕ) → constraints_of (take n items) ≡ take n (constraints_of items)
constraints_taken items n = sym (take-map (λ (x : Tracked). x.constraint) n items)

item_cases : (items : List Tracked) (item other : Tracked) (place : ℕ) → slice_get (items ++ item ∷ []) place ≡ Some other → (slice_get items place ≡ Some other) ⊎ ((place ≡ length items) × (item ≡ other))
item_cases [] item other zero e = inr (refl, same_Some item other e)
item_cases [] item other (suc place) e = cc
item_cases (x ∷ items) item other zero e = inl e
item_cases (x ∷ items) item other (suc place) e = by_cases (item_cases items item other place e) inl (λ h. inr (ap suc h.0, h.1))

pub tracked_none : AreTracked []
tracked_none = record { few = omega arith; each = λ place item e. cc }

pub tracked_pushed : (items : List Tracked) (item : Tracked) → AreTracked items → length items < 512 → IsTracked (constraints_of items) item → AreTracked (items ++ item ∷ [])
tracked_pushed items item tracked has_room is_tracked = record {
  few = omega (arith, length-append items (item ∷ []), has_room);
  each = λ place other e.
      by_cases (item_cases items item other place e)
      (λ old.
      let within : place < length items = slice_get_within items place other old in
      let same : take place (constraints_of (items ++ item ∷ [])) ≡ take place (constraints_of items) =
      ap (take place) (constraints_pushed items item) ∙ take-append-le place (constraints_of items) (item.constraint ∷ []) (subst (λ (n : ℕ). place ≤ n) (sym (length-map items (λ (x : Tracked). x.constraint))) (omega (arith, within))) in
      subst (λ (psi : List Constraint). IsTracked psi other) (sym same) (tracked.each place other old))
      (λ last.
      let same : take place (constraints_of (items ++ item ∷ [])) ≡ constraints_of items =
      ap (take place) (constraints_pushed items item) ∙ take_at (constraints_of items) (item.constraint ∷ []) place (length-map items (λ (x : Tracked). x.constraint) ∙ sym last.0) in
      subst (λ (psi : List Constraint). IsTracked psi other) (sym same) (subst (IsTracked (constraints_of items)) last.1 is_tracked));
}

taken_stands : (items : List Tracked) (n place : ℕ) (item : Tracked) → slice_get (take n items) place ≡ Some item → (slice_get items place ≡ Some item) × (place < n)
taken_stands items zero place item e = cc
taken_stands [] (suc n) place item e = cc
taken_stands (x ∷ items) (suc n) zero item e = (e, omega arith)
taken_stands (x ∷ items) (suc n) (suc place) item e = let h = taken_stands items n place item e in (h.0, omega (arith, h.1))

pub tracked_taken : (items : List Tracked) (n : ℕ) → AreTracked items → AreTracked (take n items)
tracked_taken items n tracked = record {
  few = omega (arith, length-take n items, tracked.few);
  each = λ place item e.
      let h = taken_stands items n place item e in
      let same : take place (constraints_of (take n items)) ≡ take place (constraints_of items) = ap (take place) (constraints_taken items n) ∙ take-take place n (constraints_of items) (omega (arith, h.1)) in
      subst (λ (psi : List Constraint). IsTracked psi item) (sym same) (tracked.each place item h.0);
}
