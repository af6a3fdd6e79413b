-- The doorman's steps keep the rule, and what a closed table tells.
use Rattle.std.proofs.Common.{◌≡◌, ◌≢◌, ◌⊎◌, ℕ, suc, ◌+◌, ◌-◌, ◌^◌, ◌<◌, ◌≤◌, List, [], ◌∷◌, ◌++◌, map, length, get_or, set, Bool, eqb, true, false, ne_eqb, refl, sym, ap, ◌∙◌, subst, ⊎_elim, inl, inr, arith}
use Rattle.std.specs.Prelude as std
use Rattle.std.specs.Prelude.{Some}
use Rattle.std.specs.List.{AllByRecursion, IsDistinct}
use mathlib.Core.Option.{Option, some, none, some-injective, some-ne-none}
use mathlib.Core.List.{IsPrefix}
use mathlib.Core.Logic.{dite}
use native.Mathlib.Decide.{ℕ_discrete}
use lib.ListN.{get_elem?}
use Rattle.atomic_table.specs.Table.{State, Me, step, keeps, opening, Allows, Splits, Joins, Final, Seen}
use Rattle.atomic_table.proofs.Lists.{at_longer, set_here, set_else, set_again}
use Rattle.tree_lock.specs.declared.view.Knowledge.{Knowledge}
use Rattle.tree_lock.specs.declared.view.Stage.TheVariants.{Idle}
use Rattle.tree_lock.specs.Entries.{of_number, AllOfNumber}
use Rattle.tree_lock.specs.Seen.{Retired, AreNumbers, AreOwn, PassView}
use Rattle.tree_lock.specs.Seats.{doorman_view}
use Rattle.tree_lock.specs.Knowledge.{tickets_at, is_holding, tickets_out, opening_view, spent_view, after_making, made_by, after_retiring, after_look}
use Rattle.tree_lock.specs.Rule.{IsAtStage, IsKnown, Fits, IsSpent, IsDoorman, HasSeenAll, IsLongest, IsHome, IsAway, Kept}
use Rattle.tree_lock.specs.Steps.{look_step, Looks}
use Rattle.tree_lock.specs.Closing.{TakesIn, IsClosed}
use Rattle.atomic_table.specs.Seated.{TableId}
use Rattle.tree_lock.proofs.EntryLemmas.{of_number-all, of_number-none, prefix_refl, prefix_nil, prefix_trans}
use Rattle.tree_lock.proofs.NumberLemmas.{retired-le, each_made}
use Rattle.tree_lock.proofs.SeatLemmas.{at_default, each_set, each_snoc, at_within, length-set, length-snoc, tickets_out-set, tickets_out-snoc}
use Rattle.tree_lock.proofs.StepLemmas.{each_weaker, known_out, is_known, true_is_not_false, spent_set}
use Rattle.tree_lock.proofs.SeenLemmas.{between, seen_set}

module _ {E : Type 0} where
  idle_of : (history : List (ℕ × E)) (i : ℕ) (v : Knowledge E) (b : Bool) → b ≡ false → IsKnown history i v b → v.stage ≡ Idle
  idle_of history i v true e known = absurd (true_is_not_false e)
  idle_of history i v false e known = known

module _ {V E : Type 0} (entries : V → List (ℕ × E)) where
  abbrev Table : Type 0
  Table = State (std.Option V) (Knowledge E)

  -- a new lock
  pub opens : (words : List ℕ) (value : V) → 32 < length words → get_or words 0 0 ≡ 0 → get_or words 16 0 ≡ 0 → AllOfNumber 0 (entries value) → Kept entries (opening words (Some value ∷ []) (opening_view (entries value)))
  unfolding IsDistinct
  opens words value wide drawn served all =
      let history : List (ℕ × E) = entries value in
      let door : Knowledge E = opening_view history in
      let own : of_number 0 history ≡ history = of_number-all 0 history all in
      let F : ℕ → Knowledge E → Type 0 = Fits history 0 0 (λ t. 0) in
      let free : ℕ → Knowledge E → Type 0 = λ j u. is_holding u.stage ≡ false in record {
        history = history;
        served = 0;
        drawn = 0;
        seat_of = λ t. 0;
        door = door;
        wide = wide;
        slots = refl;
        drawn_is = drawn;
        served_is = served;
        counted = refl;
        doorman = record { here = refl; out = refl; idle = refl; made = refl; bound = omega arith; numbers = record { distinct = tt; within = tt }; own = tt; spent = tt };
        none_above = λ n above. of_number-none n 0 history (λ e. omega arith) all;
        each = each_snoc F [] door (λ j u e. absurd (some-ne-none u (sym e))) record { seen = prefix_refl history; told = prefix_nil history; known = (refl, own); stage = tt };
        longest = inl record { seat = 0; view = door; here = refl; out = refl; all = refl };
        slot = inl record { value = value; here = refl; is = refl; free = each_snoc free [] door (λ j u e. absurd (some-ne-none u (sym e))) refl };
      }

  -- the doorman's seat has the doorman's view
  door_is : (s : Table) (r : Kept entries s) (v : Knowledge E) → get_elem? s.views 0 ≡ some v → r.door ≡ v
  door_is s r v at = some-injective r.door v (sym r.doorman.here ∙ at)

  doorman_at : (s : Table) (r : Kept entries s) (v : Knowledge E) → get_elem? s.views 0 ≡ some v → IsDoorman r.history s.views v
  doorman_at s r v at = subst (IsDoorman r.history s.views) (door_is s r v at) r.doorman

  -- where an idle seat changes its view, and is idle after, the slot is as it was
  slot_stays : (s : Table) (r : Kept entries s) (id : ℕ) (v w : Knowledge E) → get_elem? s.views id ≡ some v → is_holding v.stage ≡ false → is_holding w.stage ≡ false
      → (views : List (Knowledge E)) (homes : List (Option (std.Option V))) → IsHome entries r.history views homes ⊎ IsAway views → get_elem? views id ≡ some v → IsHome entries r.history (set views id w) homes ⊎ IsAway (set views id w)
  slot_stays s r id v w _ free still views homes slot at = ⊎_elim
      (λ (home : IsHome entries r.history views homes). inl record {
        value = home.value;
        here = home.here;
        is = home.is;
        free = each_set (λ j (u : Knowledge E). is_holding u.stage ≡ false) views id w (λ j u _ e. home.free j u e) still;
      })
      (λ (away : IsAway views). inr record {
        holder = away.holder;
        view = away.view;
        here = set_else views id away.holder w
            (λ e. true_is_not_false (sym away.holding ∙ ap (λ (u : Knowledge E). is_holding u.stage) (some-injective away.view v (sym away.here ∙ ap (λ j. get_elem? views j) e ∙ at)) ∙ free)) ∙ away.here;
        holding = away.holding;
      })
      slot

  -- a pass is made
  pub makes_keeps : (v : Knowledge E) → v.made + 1 < 2 ^ 64 → Splits (Kept entries) 0 v (after_making v) (made_by v)
  makes_keeps v room s r at =
      let d = doorman_at s r v at in
      let left : Knowledge E = after_making v in
      let right : Knowledge E = made_by v in
      let views : List (Knowledge E) = set s.views 0 left in
      let fits = r.each 0 v at in
      let known = known_out r.history 0 v v.out d.out fits.known in
      let made : v.made + 1 ≡ length s.views = d.made in
      let long : length views ≡ length s.views = length-set s.views 0 left in
      let longer : length (views ++ right ∷ []) ≡ length views + 1 = length-snoc views right in
      let count : tickets_out views + tickets_at v.stage ≡ tickets_out s.views + tickets_at v.stage = tickets_out-set s.views 0 v left at in
      let counts : tickets_out (views ++ right ∷ []) ≡ tickets_out views + 0 = tickets_out-snoc views right in
      let before : r.served + tickets_out s.views ≡ r.drawn = r.counted in
      let F : ℕ → Knowledge E → Type 0 = Fits r.history r.served r.drawn r.seat_of in
      let here : v.made + 1 ≡ length views = made ∙ sym long in
      let none : of_number (length views) r.history ≡ [] = r.none_above (length views) (omega arith) in
      let free : ℕ → Knowledge E → Type 0 = λ j u. is_holding u.stage ≡ false in
      let slot : IsHome entries r.history views s.homes ⊎ IsAway views = slot_stays s r 0 v left at (ap is_holding d.idle) (ap is_holding d.idle) s.views s.homes r.slot at in record {
        history = r.history;
        served = r.served;
        drawn = r.drawn;
        seat_of = r.seat_of;
        door = left;
        wide = r.wide;
        slots = r.slots;
        drawn_is = r.drawn_is;
        served_is = r.served_is;
        counted = omega arith;
        doorman = record {
          here = at_longer views (right ∷ []) 0 left (set_here s.views 0 left (at_within s.views 0 v at));
          out = d.out;
          idle = d.idle;
          made = omega arith;
          bound = room;
          numbers = record { distinct = d.numbers.distinct; within = each_weaker (λ (x : Retired E). (1 ≤ x.0) × (x.0 ≤ v.made)) (λ (x : Retired E). (1 ≤ x.0) × (x.0 ≤ v.made + 1)) v.retired (λ x within. let le : x.0 ≤ v.made = within.1 in (within.0, omega arith)) d.numbers.within };
          own = d.own;
          spent = each_weaker (λ (x : Retired E). IsSpent s.views x.0) (λ (x : Retired E). IsSpent (views ++ right ∷ []) x.0) v.retired
              (λ x spent. let still = spent_set s.views 0 v left x.0 at d.out spent in record { view = still.view; here = at_longer views (right ∷ []) x.0 still.view still.here; spent = still.spent }) d.spent;
        };
        none_above = λ n above. r.none_above n (let le : length (views ++ right ∷ []) ≤ n = above in omega arith);
        each = each_snoc F views right (each_set F s.views 0 left (λ j u _ e. r.each j u e) record { seen = fits.seen; told = fits.told; known = fits.known; stage = fits.stage })
            record { seen = fits.seen; told = prefix_nil r.history; known = (here, none); stage = tt };
        longest = ⊎_elim
            (λ (a : HasSeenAll r.history s.views). let b = seen_set r.history s.views 0 v left at refl refl a in inl record { seat = b.seat; view = b.view; here = at_longer views (right ∷ []) b.seat b.view b.here; out = b.out; all = b.all })
            (λ (told : r.door.told ≡ r.history). inr (ap (λ (u : Knowledge E). u.told) (sym (door_is s r v at)) ∙ told))
            r.longest;
        slot = ⊎_elim
            (λ (home : IsHome entries r.history views s.homes). inl record { value = home.value; here = home.here; is = home.is; free = each_snoc free views right home.free refl })
            (λ (away : IsAway views). inr record { holder = away.holder; view = away.view; here = at_longer views (right ∷ []) away.holder away.view away.here; holding = away.holding })
            slot;
      }

  -- the numbers of spent passes differ from that of one that is out
  apart_from_spent : (views : List (Knowledge E)) (i : ℕ) (w : Knowledge E) (retired : List (Retired E)) → get_elem? views i ≡ some w → w.out ≡ true → AllByRecursion (λ (x : Retired E). IsSpent views x.0) retired
      → AllByRecursion (λ y. eqb i y ≡ false) (map (λ (x : Retired E). x.0) retired)
  apart_from_spent views i w [] at out spent = tt
  apart_from_spent views i w (x ∷ xs) at out spent =
      let gone = spent.0 in (
        ne_eqb i x.0 (λ e. true_is_not_false (sym out ∙ ap (λ (u : Knowledge E). u.out) (some-injective w gone.view (sym at ∙ ap (λ j. get_elem? views j) e ∙ gone.here)) ∙ gone.spent)),
        apart_from_spent views i w xs at out spent.1,
      )

  -- who had seen the whole history has, or was the pass that is taken in, of which the doorman is told it
  after_retiring_longest : (s : Table) (r : Kept entries s) (v : Knowledge E) (other : ℕ) (w : Knowledge E) → IsPrefix v.told v.seen → get_elem? s.views 0 ≡ some v → other ≢ 0 → get_elem? s.views other ≡ some w
      → IsLongest r.history (set (set s.views 0 (after_retiring v w)) other spent_view) (after_retiring v w)
  after_retiring_longest s r v other w earlier at ne at_w =
      let d = doorman_at s r v at in
      let both : Knowledge E = after_retiring v w in
      let mid : List (Knowledge E) = set s.views 0 both in
      let has : HasSeenAll r.history s.views → IsLongest r.history (set mid other spent_view) both = λ a.
      let b = seen_set r.history s.views 0 v both at refl refl a in
      dite (ℕ_discrete b.seat other)
      (λ here. let same : b.view ≡ w = some-injective b.view w (sym b.here ∙ ap (λ j. get_elem? mid j) here ∙ set_else s.views 0 other both ne ∙ at_w) in inr (ap (λ (u : Knowledge E). u.seen) (sym same) ∙ b.all))
      (λ apart. inl record { seat = b.seat; view = b.view; here = set_else mid other b.seat spent_view apart ∙ b.here; out = b.out; all = b.all }) in
      ⊎_elim has
      (λ (told : r.door.told ≡ r.history).
      let told_v : v.told ≡ r.history = ap (λ (u : Knowledge E). u.told) (sym (door_is s r v at)) ∙ told in
      has record { seat = 0; view = v; here = at; out = d.out; all = between v.told v.seen r.history earlier (r.each 0 v at).seen told_v })
      r.longest

  -- a pass is taken in
  pub retires_keeps : (v : Knowledge E) (other : ℕ) (w : Knowledge E) → IsPrefix v.told v.seen → w.out ≡ true → 1 ≤ w.number → w.stage ≡ Idle → Joins (Kept entries) 0 v other w (after_retiring v w) spent_view
  unfolding IsDistinct
  retires_keeps v other w earlier out number idle s r at ne at_other =
      let both : Knowledge E = after_retiring v w in
      let gone : Knowledge E = spent_view in
      let d = doorman_at s r v at in
      let mid : List (Knowledge E) = set s.views 0 both in
      let views : List (Knowledge E) = set mid other gone in
      let at_w : get_elem? s.views other ≡ some w = sym (set_else s.views 0 other both ne) ∙ at_other in
      let fits = r.each 0 v at in
      let fits_w = r.each other w at_w in
      let known = known_out r.history 0 v v.out d.out fits.known in
      let known_w = known_out r.history other w w.out out fits_w.known in
      let is : w.number ≡ other = known_w.0 in
      let made : v.made + 1 ≡ length s.views = d.made in
      let within : other < length s.views = at_within s.views other w at_w in
      let long_mid : length mid ≡ length s.views = length-set s.views 0 both in
      let long : length views ≡ length mid = length-set mid other gone in
      let count_mid : tickets_out mid + tickets_at v.stage ≡ tickets_out s.views + tickets_at v.stage = tickets_out-set s.views 0 v both at in
      let count : tickets_out views + tickets_at w.stage ≡ tickets_out mid + 0 = tickets_out-set mid other w gone at_other in
      let no_ticket : tickets_at w.stage ≡ 0 = ap tickets_at idle in
      let before : r.served + tickets_out s.views ≡ r.drawn = r.counted in
      let F : ℕ → Knowledge E → Type 0 = Fits r.history r.served r.drawn r.seat_of in
      let slot_mid = slot_stays s r 0 v both at (ap is_holding d.idle) (ap is_holding d.idle) s.views s.homes r.slot at in
      let apart : AllByRecursion (λ y. eqb w.number y ≡ false) (map (λ (x : Retired E). x.0) v.retired) =
      subst (λ n. AllByRecursion (λ y. eqb n y ≡ false) (map (λ (x : Retired E). x.0) v.retired)) (sym is) (apart_from_spent s.views other w v.retired at_w out d.spent) in record {
        history = r.history;
        served = r.served;
        drawn = r.drawn;
        seat_of = r.seat_of;
        door = both;
        wide = r.wide;
        slots = r.slots;
        drawn_is = r.drawn_is;
        served_is = r.served_is;
        counted = omega arith;
        doorman = record {
          here = set_else mid other 0 gone (λ e. ne (sym e)) ∙ set_here s.views 0 both (at_within s.views 0 v at);
          out = d.out;
          idle = d.idle;
          made = omega arith;
          bound = d.bound;
          numbers = record { distinct = (apart, d.numbers.distinct); within = ((number, omega arith), d.numbers.within) };
          own = (ap (λ n. of_number n r.history) is ∙ known_w.1, d.own);
          spent = (
            subst (IsSpent views) (sym is) record { view = gone; here = set_here mid other gone (omega arith); spent = refl },
            each_weaker (λ (x : Retired E). IsSpent s.views x.0) (λ (x : Retired E). IsSpent views x.0) v.retired
                (λ x spent. spent_set mid other w gone x.0 at_other out (spent_set s.views 0 v both x.0 at d.out spent)) d.spent,
          );
        };
        none_above = λ n above. r.none_above n (let le : length views ≤ n = above in omega arith);
        each = each_set F mid other gone
            (λ j u _ e. each_set F s.views 0 both (λ k x _ h. r.each k x h) record { seen = fits.seen; told = fits_w.seen; known = fits.known; stage = fits.stage } j u e)
            record { seen = prefix_nil r.history; told = prefix_nil r.history; known = refl; stage = tt };
        longest = after_retiring_longest s r v other w earlier at ne at_w;
        slot = slot_stays s r other w gone at_w (ap is_holding idle) refl mid s.homes slot_mid at_other;
      }

  -- the doorman looks at the history
  pub looks_keeps : (slots : ℕ) (me : Me (std.Option V) (Knowledge E)) → Allows (Kept entries) slots 0 me 0 (λ n. n) (look_step (step slots 0 0 0 none) me)
  looks_keeps slots me s r _ at _ =
      let v : Knowledge E = me.0 in
      let w : Knowledge E = after_look v r.history in
      let found : ℕ = get_or s.words 0 0 in
      let wide : 32 < length s.words = r.wide in
      let words : set s.words 0 found ≡ s.words = set_again s.words 0 found (at_default s.words 0 0 (omega arith)) in
      let d = doorman_at s r v at in
      let fits = r.each 0 v at in
      let views : List (Knowledge E) = set s.views 0 w in
      let long : length views ≡ length s.views = length-set s.views 0 w in
      let made : v.made + 1 ≡ length s.views = d.made in
      let count : tickets_out views + tickets_at v.stage ≡ tickets_out s.views + tickets_at v.stage = tickets_out-set s.views 0 v w at in
      let before : r.served + tickets_out s.views ≡ r.drawn = r.counted in (
        w,
        keeps,
        tt,
        subst (λ (words : List ℕ). Kept entries record { words = words; homes = s.homes; views = views }) (sym words) record {
          history = r.history;
          served = r.served;
          drawn = r.drawn;
          seat_of = r.seat_of;
          door = w;
          wide = r.wide;
          slots = r.slots;
          drawn_is = r.drawn_is;
          served_is = r.served_is;
          counted = omega arith;
          doorman = record {
            here = set_here s.views 0 w (at_within s.views 0 v at);
            out = d.out;
            idle = d.idle;
            made = omega arith;
            bound = d.bound;
            numbers = d.numbers;
            own = d.own;
            spent = each_weaker (λ (x : Retired E). IsSpent s.views x.0) (λ (x : Retired E). IsSpent views x.0) v.retired (λ x spent. spent_set s.views 0 v w x.0 at d.out spent) d.spent;
          };
          none_above = λ n above. r.none_above n (let le : length views ≤ n = above in omega arith);
          each = each_set (Fits r.history r.served r.drawn r.seat_of) s.views 0 w (λ j u _ e. r.each j u e)
              record { seen = prefix_refl r.history; told = fits.told; known = let k = known_out r.history 0 v v.out d.out fits.known in is_known r.history 0 w w.out d.out k.0 k.1; stage = subst (IsAtStage r.history r.served r.drawn r.seat_of 0 r.history) (sym d.idle) tt };
          longest = inl record { seat = 0; view = w; here = set_here s.views 0 w (at_within s.views 0 v at); out = d.out; all = refl };
          slot = slot_stays s r 0 v w at (ap is_holding d.idle) (ap is_holding d.idle) s.views s.homes r.slot at;
        },
        (
          record {
            history = r.history;
            seen = fits.seen;
            told = fits.told;
            numbers = d.numbers;
            within = retired-le v.made v.retired d.numbers;
            own = d.own;
            opening = (known_out r.history 0 v v.out d.out fits.known).1;
            none_above = λ n above. r.none_above n (let le : v.made + 1 ≤ n = above in omega arith);
            is = refl;
          },
          refl,
        ),
      )

  -- no pass holds the value where all were retired
  none_holds : (s : Table) (r : Kept entries s) (v : Knowledge E) → get_elem? s.views 0 ≡ some v → length v.retired ≡ v.made → IsAway s.views → ⊥
  none_holds s r v at all away =
      let d = doorman_at s r v at in
      let u : Knowledge E = away.view in
      let made : v.made + 1 ≡ length s.views = d.made in
      let within : away.holder < length s.views = at_within s.views away.holder u away.here in
      let not_door : away.holder ≢ 0 = λ e. true_is_not_false (sym away.holding ∙ ap (λ (x : Knowledge E). is_holding x.stage) (some-injective u v (sym away.here ∙ ap (λ j. get_elem? s.views j) e ∙ at)) ∙ ap is_holding d.idle) in
      let spent : IsSpent s.views away.holder = each_made (IsSpent s.views) v.made v.retired away.holder d.numbers all d.spent (omega arith) (omega arith) in
      let same : spent.view ≡ u = some-injective spent.view u (sym spent.here ∙ away.here) in
      let idle : u.stage ≡ Idle = idle_of r.history away.holder u u.out (sym (ap (λ (x : Knowledge E). x.out) same) ∙ spent.spent) (r.each away.holder u away.here).known in
      true_is_not_false (sym away.holding ∙ ap is_holding idle)

  -- the doorman has seen the whole history where all were retired
  door_has_seen : (s : Table) (r : Kept entries s) (v : Knowledge E) → get_elem? s.views 0 ≡ some v → IsPrefix v.told v.seen → length v.retired ≡ v.made → v.seen ≡ r.history
  door_has_seen s r v at earlier all =
      let d = doorman_at s r v at in
      let made : v.made + 1 ≡ length s.views = d.made in ⊎_elim
      (λ (a : HasSeenAll r.history s.views).
      dite (ℕ_discrete a.seat 0)
      (λ here. ap (λ (u : Knowledge E). u.seen) (sym (some-injective a.view v (sym a.here ∙ ap (λ j. get_elem? s.views j) here ∙ at))) ∙ a.all)
      (λ ne.
      let within : a.seat < length s.views = at_within s.views a.seat a.view a.here in
      let spent : IsSpent s.views a.seat = each_made (IsSpent s.views) v.made v.retired a.seat d.numbers all d.spent (omega arith) (omega arith) in
      absurd (true_is_not_false (sym a.out ∙ ap (λ (u : Knowledge E). u.out) (some-injective a.view spent.view (sym a.here ∙ spent.here)) ∙ spent.spent))))
      (λ (told : r.door.told ≡ r.history). between v.told v.seen r.history earlier (r.each 0 v at).seen (ap (λ (u : Knowledge E). u.told) (sym (door_is s r v at)) ∙ told))
      r.longest

  -- a table whose passes were all retired has the value, with the history for its entries
  pub closes : (v : Knowledge E) (words : List ℕ) (slots : List (std.Option V)) → IsPrefix v.told v.seen → length v.retired ≡ v.made → Final (Seen (Kept entries) 0 v) words slots
      → (value : V) × (get_elem? slots 0 ≡ some (Some value)) × IsPrefix v.seen (entries value) × AreNumbers v.made v.retired × AreOwn (entries value) v.retired × (of_number 0 (entries value) ≡ v.own)
      × ((n : ℕ) → v.made + 1 ≤ n → of_number n (entries value) ≡ []) × (entries value ≡ v.seen)
  closes v words slots earlier all final =
      let s : Table = final.0 in
      let r = final.1.0 in
      let at = final.1.1 in
      let d = doorman_at s r v at in
      let fits = r.each 0 v at in
      let made : v.made + 1 ≡ length s.views = d.made in
      let home : IsHome entries r.history s.views s.homes = ⊎_elim (λ h. h) (λ (away : IsAway s.views). absurd (none_holds s r v at all away)) r.slot in
      let is : r.history ≡ entries home.value = sym home.is in (
        home.value,
        final.4 0 (Some home.value) home.here,
        subst (IsPrefix v.seen) is fits.seen,
        d.numbers,
        subst (λ h. AreOwn h v.retired) is d.own,
        ap (of_number 0) (sym is) ∙ (known_out r.history 0 v v.out d.out fits.known).1,
        λ n above. ap (of_number n) (sym is) ∙ r.none_above n (let le : v.made + 1 ≤ n = above in omega arith),
        sym is ∙ sym (door_has_seen s r v at earlier all),
      )

  -- what a closed lock gives
  pub closed_is : (v : Knowledge E) (lock : TableId) (out : ℕ) (words : List ℕ) (slots : List (std.Option V)) (value : V) → length v.retired ≡ v.made → IsPrefix v.own v.seen → IsPrefix v.told v.seen → Final (Seen (Kept entries) 0 v) words slots
      → get_elem? slots 0 ≡ some (Some value) → IsClosed (doorman_view v lock out) (entries value)
  closed_is v lock out words slots value all opened earlier final at =
      let told = closes v words slots earlier all final in
      let options : ◌≡◌ {A = std.Option V} (Some told.0) (Some value) = some-injective (Some told.0) (Some value) (sym told.1 ∙ at) in
      let same : told.0 ≡ value = cc in
      let P : V → Type 0 = λ x. IsClosed (doorman_view v lock out) (entries x) in
      subst P same record { all = all; knows = record { opened = prefix_trans v.own v.seen (entries told.0) opened told.2; seen = told.2; numbers = told.3; own = told.4; opening = told.5; none_above = told.6 }; whole = told.7 }

module _ {E : Type 0} where
  -- what the doorman's look comes to, after a pass was taken in
  pub takes_in : (v w : Knowledge E) (lock : TableId) (out : ℕ) (pass : PassView E) (new : Knowledge E) → IsPrefix v.own v.seen → out + length v.retired ≡ v.made → pass.number ≡ w.number → pass.own ≡ w.own → pass.seen ≡ w.seen
      → Looks (after_retiring v w) new → TakesIn pass (doorman_view v lock out) (doorman_view new lock (out - 1))
  takes_in v w lock out pass new opened counted number own seen look =
      let within : suc (length v.retired) ≤ v.made = look.within in
      let opened_new : IsPrefix v.own look.history = prefix_trans v.own v.seen look.history opened look.seen in
      let P : Knowledge E → Type 0 = λ x. TakesIn pass (doorman_view v lock out) (doorman_view x lock (out - 1)) in
      subst P (sym look.is) record {
        lock = refl;
        opening = refl;
        made = refl;
        retired = λ i. (sym number i, sym own i) ∷ v.retired;
        out = omega arith;
        seen = look.seen;
        told = subst (λ l. IsPrefix l look.history) (sym seen) look.told;
        knows = record { opened = opened_new; seen = prefix_refl look.history; numbers = look.numbers; own = look.own; opening = look.opening; none_above = look.none_above };
      }
