-- The steps of a turn keep the rule.
use Rattle.std.proofs.Common.{◌≡◌, ◌≢◌, ◌⊎◌, ℕ, ◌+◌, ◌^◌, ◌%◌, ◌<◌, ◌≤◌, List, [], ◌∷◌, ◌++◌, length, get_or, set, Bool, cond, eqb, true, false, true≢false, eq-eqb, ne_eqb, refl, sym, ap, ◌∙◌, subst, ⊎_elim, inl, inr, arith, get_or-set_same, get_or-set_other}
use Rattle.std.proofs.Math.Nat.{mod-add-mod}
use Rattle.std.specs.Prelude as std
use Rattle.std.specs.Prelude.{Some}
use Rattle.std.specs.List.{AllByRecursion}
use mathlib.Core.Option.{some, none, some-injective}
use mathlib.Core.List.{IsPrefix}
use mathlib.Core.Logic.{dite}
use native.Mathlib.Decide.{ℕ_discrete}
use lib.ListN.{get_elem?}
use Rattle.atomic_table.specs.Table.{State, Me, step, keeps, takes, gives, Allows}
use Rattle.atomic_table.proofs.Lists.{set_here, set_else, set_again, one_turn}
use Rattle.tree_lock.specs.declared.view.Knowledge.{Knowledge}
use Rattle.tree_lock.specs.declared.view.Stage.{Stage}
use Rattle.tree_lock.specs.declared.view.Stage.TheVariants.{Idle, Waiting, Holding}
use Rattle.tree_lock.specs.Entries.{of_number, AllOfNumber, Appends}
use Rattle.tree_lock.specs.Seen.{Retired, AreOwn}
use Rattle.tree_lock.specs.Knowledge.{tickets_at, is_holding, tickets_out, at_stage, holding, after_work}
use Rattle.tree_lock.specs.Rule.{IsOut, IsAtStage, IsKnown, Fits, IsSpent, IsDoorman, IsHome, IsAway, Kept}
use Rattle.tree_lock.specs.Steps.{draw_step, wait_step, tell_step, serve_step, Takes}
use Rattle.tree_lock.proofs.EntryLemmas.{of_number-others, prefix_refl, prefix_more}
use Rattle.tree_lock.proofs.SeatLemmas.{at_default, each_set, at_within, length-set, tickets_out-set, tickets_out-le}
use Rattle.tree_lock.proofs.SeenLemmas.{longest_set}

pub each_weaker : {X : Type 0} (P Q : X → Type 0) (xs : List X) → ((x : X) → P x → Q x) → AllByRecursion P xs → AllByRecursion Q xs
each_weaker P Q [] weaker all = tt
each_weaker P Q (x ∷ xs) weaker all = (weaker x all.0, each_weaker P Q xs weaker all.1)

pub true_is_not_false : true ≡ false → ⊥
true_is_not_false e = true≢false e

module _ {E : Type 0} where
  -- what is known of a seat that has not been retired
  pub known_out : (history : List (ℕ × E)) (i : ℕ) (v : Knowledge E) (b : Bool) → b ≡ true → IsKnown history i v b → (v.number ≡ i) × (of_number i history ≡ v.own)
  known_out history i v true e known = known
  known_out history i v false e known = absurd (true_is_not_false (sym e))

  pub is_known : (history : List (ℕ × E)) (i : ℕ) (v : Knowledge E) (b : Bool) → b ≡ true → v.number ≡ i → of_number i history ≡ v.own → IsKnown history i v b
  is_known history i v true e number own = (number, own)
  is_known history i v false e number own = absurd (true_is_not_false (sym e))

  -- what is known of a seat stays as it is where the history goes on with the entries of another
  pub known_more : (history added : List (ℕ × E)) (m i : ℕ) (v : Knowledge E) (b : Bool) → m ≢ i → AllOfNumber m added → IsKnown history i v b → IsKnown (history ++ added) i v b
  known_more history added m i v true ne all known = (known.0, of_number-others i m history added ne all ∙ known.1)
  known_more history added m i v false ne all known = known

  pub spent_set : (views : List (Knowledge E)) (id : ℕ) (v w : Knowledge E) (i : ℕ) → get_elem? views id ≡ some v → v.out ≡ true → IsSpent views i → IsSpent (set views id w) i
  spent_set views id v w i at out spent =
      let ne : i ≢ id = λ e. true_is_not_false (sym out ∙ ap (λ (u : Knowledge E). u.out) (some-injective v spent.view (sym at ∙ ap (λ j. get_elem? views j) (sym e) ∙ spent.here)) ∙ spent.spent) in
      record { view = spent.view; here = set_else views id i w ne ∙ spent.here; spent = spent.spent }

  pub own_at_home : (history : List (ℕ × E)) (served drawn : ℕ) (seat_of : ℕ → ℕ) (i : ℕ) (v : Knowledge E) → Fits history served drawn seat_of i v → v.out ≡ true → (v.number ≡ i) × (of_number i history ≡ v.own)
  own_at_home history served drawn seat_of i v fits out = known_out history i v v.out out fits.known

  pub waits_of : (history : List (ℕ × E)) (served drawn : ℕ) (seat_of : ℕ → ℕ) (i : ℕ) (seen : List (ℕ × E)) (stage : Stage) (t : ℕ) → stage ≡ Waiting t → IsAtStage history served drawn seat_of i seen stage → IsOut served drawn seat_of i t
  waits_of history served drawn seat_of i seen stage t is at = subst (IsAtStage history served drawn seat_of i seen) is at

  pub holds_of : (history : List (ℕ × E)) (served drawn : ℕ) (seat_of : ℕ → ℕ) (i : ℕ) (seen : List (ℕ × E)) (stage : Stage) → is_holding stage ≡ true → IsAtStage history served drawn seat_of i seen stage → (seat_of served ≡ i) × (seen ≡ history)
  holds_of history served drawn seat_of i seen Idle is at = absurd (true_is_not_false (sym is))
  holds_of history served drawn seat_of i seen (Waiting t) is at = absurd (true_is_not_false (sym is))
  holds_of history served drawn seat_of i seen (Holding t) is at = (ap seat_of (sym at.0) ∙ at.1.here, at.2)

module _ {V E : Type 0} (entries : V → List (ℕ × E)) where
  abbrev Table : Type 0
  Table = State (std.Option V) (Knowledge E)

  -- the doorman, where another seat changed
  pub doorman_stays : (history next : List (ℕ × E)) (views : List (Knowledge E)) (door : Knowledge E) (id : ℕ) (v w : Knowledge E) → IsDoorman history views door → id ≢ 0 → get_elem? views id ≡ some v → v.out ≡ true
      → AreOwn next door.retired → IsDoorman next (set views id w) door
  doorman_stays history next views door id v w d apart at out own = record {
    here = set_else views id 0 w (λ e. apart (sym e)) ∙ d.here;
    out = d.out;
    idle = d.idle;
    made = d.made ∙ sym (length-set views id w);
    bound = d.bound;
    numbers = d.numbers;
    own = own;
    spent = each_weaker (λ (r : Retired E). IsSpent views r.0) (λ (r : Retired E). IsSpent (set views id w) r.0) door.retired (λ r spent. spent_set views id v w r.0 at out spent) d.spent;
  }

  -- the seat of a pass is not the doorman's
  pub apart_from_door : (s : Table) (r : Kept entries s) (id : ℕ) (v : Knowledge E) → get_elem? s.views id ≡ some v → v.out ≡ true → 1 ≤ v.number → id ≢ 0
  apart_from_door s r id v at out number e = let here = (own_at_home r.history r.served r.drawn r.seat_of id v (r.each id v at) out).0 in omega arith

  -- nobody else holds the value where a seat holds none and has the ticket that is served
  pub is_home : (s : Table) (r : Kept entries s) (id : ℕ) (v : Knowledge E) → get_elem? s.views id ≡ some v → is_holding v.stage ≡ false → r.seat_of r.served ≡ id → IsHome entries r.history s.views s.homes
  is_home s r id v at free here = ⊎_elim
      (λ home. home)
      (λ (away : IsAway s.views).
      let fits = r.each away.holder away.view away.here in
      let same : id ≡ away.holder = sym here ∙ (holds_of r.history r.served r.drawn r.seat_of away.holder away.view.seen away.view.stage away.holding fits.stage).0 in
      absurd (true_is_not_false (sym away.holding ∙ ap (λ (u : Knowledge E). is_holding u.stage) (some-injective away.view v (sym away.here ∙ ap (λ j. get_elem? s.views j) (sym same) ∙ at)) ∙ free)))
      r.slot

  -- where a seat changes that did not hold the value, and does not after, the slot is as it was
  pub slot_stays : (s : Table) (r : Kept entries s) (id : ℕ) (v w : Knowledge E) → get_elem? s.views id ≡ some v → is_holding v.stage ≡ false → is_holding w.stage ≡ false
      → IsHome entries r.history (set s.views id w) s.homes ⊎ IsAway (set s.views id w)
  slot_stays s r id v w at free still = ⊎_elim
      (λ (home : IsHome entries r.history s.views s.homes). inl record {
        value = home.value;
        here = home.here;
        is = home.is;
        free = each_set (λ j (u : Knowledge E). is_holding u.stage ≡ false) s.views id w (λ j u _ e. home.free j u e) still;
      })
      (λ (away : IsAway s.views). inr record {
        holder = away.holder;
        view = away.view;
        here = set_else s.views id away.holder w
            (λ e. true_is_not_false (sym away.holding ∙ ap (λ (u : Knowledge E). is_holding u.stage) (some-injective away.view v (sym away.here ∙ ap (λ j. get_elem? s.views j) e ∙ at)) ∙ free)) ∙ away.here;
        holding = away.holding;
      })
      r.slot

  -- a ticket is drawn
  pub draws_keeps : (slots id : ℕ) (me : Me (std.Option V) (Knowledge E)) → me.0.out ≡ true → 1 ≤ me.0.number → me.0.stage ≡ Idle
      → Allows (Kept entries) slots id me 0 (λ n. (n + 1) % 2 ^ 64) (draw_step (step slots 0 1 0 none) me)
  draws_keeps slots id me out number idle s r _ at _ =
      let v : Knowledge E = me.0 in
      let w : Knowledge E = at_stage v (Waiting r.drawn) in
      let found : ℕ = get_or s.words 0 0 in
      let next : ℕ = (found + 1) % 2 ^ 64 in
      let apart = apart_from_door s r id v at out number in
      let wide : 32 < length s.words = r.wide in
      let seat_of : ℕ → ℕ = λ t. cond (eqb t r.drawn) id (r.seat_of t) in
      let fits = r.each id v at in
      let before : r.served + tickets_out s.views ≡ r.drawn = r.counted in
      let count : tickets_out (set s.views id w) + tickets_at v.stage ≡ tickets_out s.views + 1 = tickets_out-set s.views id v w at in
      let none_out : tickets_at v.stage ≡ 0 = ap tickets_at idle in
      let stays : (j t : ℕ) → IsOut r.served r.drawn r.seat_of j t → IsOut r.served (r.drawn + 1) seat_of j t = λ j t o. let below : t < r.drawn = o.exists in record {
        wait_step = o.wait_step;
        exists = omega arith;
        here = ap (λ b. cond b id (r.seat_of t)) (ne_eqb t r.drawn (λ e. omega arith)) ∙ o.here;
      } in
      let at_stage_stays : (j : ℕ) (seen : List (ℕ × E)) (stage : Stage) → IsAtStage r.history r.served r.drawn r.seat_of j seen stage → IsAtStage r.history r.served (r.drawn + 1) seat_of j seen stage = λ j seen.
      elim [ Idle ↦ λ _. tt | Waiting t ↦ λ o. stays j t o | Holding t ↦ λ h. (h.0, stays j t h.1, h.2) ] in (
        w,
        keeps,
        tt,
        record {
          history = r.history;
          served = r.served;
          drawn = r.drawn + 1;
          seat_of = seat_of;
          door = r.door;
          wide = subst (λ n. 32 < n) (sym (length-set s.words 0 next)) wide;
          slots = r.slots;
          drawn_is = get_or-set_same s.words 0 next 0 (omega arith) ∙ ap (λ n. (n + 1) % 2 ^ 64) r.drawn_is ∙ mod-add-mod r.drawn (2 ^ 64) 1;
          served_is = get_or-set_other s.words 0 16 next 0 (λ e. omega arith) ∙ r.served_is;
          counted = omega arith;
          doorman = doorman_stays r.history r.history s.views r.door id v w r.doorman apart at out r.doorman.own;
          none_above = λ n above. r.none_above n (subst (λ m. m ≤ n) (length-set s.views id w) above);
          each = each_set (Fits r.history r.served (r.drawn + 1) seat_of) s.views id w
              (λ j u _ e. let f = r.each j u e in record { seen = f.seen; told = f.told; known = f.known; stage = at_stage_stays j u.seen u.stage f.stage })
              record {
                seen = fits.seen;
                told = fits.told;
                known = let k = known_out r.history id v v.out out fits.known in is_known r.history id w w.out out k.0 k.1;
                stage = record { wait_step = omega arith; exists = omega arith; here = ap (λ b. cond b id (r.seat_of r.drawn)) (eq-eqb r.drawn r.drawn refl) };
              };
          longest = longest_set r.history s.views r.door id v w at refl refl r.longest;
          slot = slot_stays s r id v w at (ap is_holding idle) refl;
        },
        (r.drawn, r.drawn_is, refl),
      )

  -- a step that changes neither its word nor its view
  pub nothing_changes : (s : Table) (i id : ℕ) (v : Knowledge E) → Kept entries s → get_elem? s.views id ≡ some v → i < length s.words
      → Kept entries record { words = set s.words i (get_or s.words i 0); homes = s.homes; views = set s.views id v }
  nothing_changes s i id v r at within =
      let words : s.words ≡ set s.words i (get_or s.words i 0) = sym (set_again s.words i (get_or s.words i 0) (at_default s.words i 0 within)) in
      let views : s.views ≡ set s.views id v = sym (set_again s.views id v at) in
      subst (Kept entries) (λ k. record { words = words k; homes = s.homes; views = views k }) r

  -- a word changes of which the rule says nothing
  pub signals_keeps : (slots id word : ℕ) (me : Me (std.Option V) (Knowledge E)) (f : ℕ → ℕ) → 32 ≤ word → Allows (Kept entries) slots id me word f (λ found after. after ≡ me)
  signals_keeps slots id word me f far s r _ at _ =
      let next : ℕ = f (get_or s.words word 0) in
      let wide : 32 < length s.words = r.wide in
      let views : set s.views id me.0 ≡ s.views = set_again s.views id me.0 at in (
        me.0,
        keeps,
        tt,
        subst (λ (views : List (Knowledge E)). Kept entries record { words = set s.words word next; homes = s.homes; views = views }) (sym views) record {
          history = r.history;
          served = r.served;
          drawn = r.drawn;
          seat_of = r.seat_of;
          door = r.door;
          wide = subst (λ n. 32 < n) (sym (length-set s.words word next)) wide;
          slots = r.slots;
          drawn_is = get_or-set_other s.words word 0 next 0 (λ e. omega arith) ∙ r.drawn_is;
          served_is = get_or-set_other s.words word 16 next 0 (λ e. omega arith) ∙ r.served_is;
          counted = r.counted;
          doorman = r.doorman;
          none_above = r.none_above;
          each = r.each;
          longest = r.longest;
          slot = r.slot;
        },
        refl,
      )

  -- what a waiting pass is told, by its ticket
  told_at : (me : Me (std.Option V) (Knowledge E)) (t found : ℕ) (after : Me (std.Option V) (Knowledge E)) → me.0.stage ≡ Waiting t
      → (found ≡ t % 2 ^ 64 → Takes entries t me after) × (found ≢ t % 2 ^ 64 → after ≡ me) → wait_step entries (step 1 16 0 0 none) me found after
  told_at me t found after is told u also =
      let same : t ≡ u = cc in subst (λ n. (found ≡ n % 2 ^ 64 → Takes entries n me after) × (found ≢ n % 2 ^ 64 → after ≡ me)) same told

  -- the ticket that is served is the one of which the word has the remainder
  served_is : (s : Table) (r : Kept entries s) (id t : ℕ) → IsOut r.served r.drawn r.seat_of id t → get_or s.words 16 0 ≡ t % 2 ^ 64 → r.served ≡ t
  served_is s r id t o found =
      let few : tickets_out s.views ≤ length s.views = tickets_out-le s.views in
      let made : r.door.made + 1 ≡ length s.views = r.doorman.made in
      let bound : r.door.made < 2 ^ 64 = r.doorman.bound in
      let counted : r.served + tickets_out s.views ≡ r.drawn = r.counted in
      let wait_step : r.served ≤ t = o.wait_step in
      let exists : t < r.drawn = o.exists in
      one_turn r.served t (2 ^ 64) wait_step (omega arith) (sym r.served_is ∙ found)

  -- a ticket is waited for: the value is taken if it is served
  pub waits_keeps : (slots id : ℕ) (me : Me (std.Option V) (Knowledge E)) (t : ℕ) → me.0.out ≡ true → 1 ≤ me.0.number → me.0.stage ≡ Waiting t
      → Allows (Kept entries) slots id me 16 (λ n. n) (wait_step entries (step slots 16 0 0 none) me)
  waits_keeps slots id me t out number waiting s r _ at _ =
      let v : Knowledge E = me.0 in
      let found : ℕ = get_or s.words 16 0 in
      let wide : 32 < length s.words = r.wide in
      let fits = r.each id v at in
      let o : IsOut r.served r.drawn r.seat_of id t = waits_of r.history r.served r.drawn r.seat_of id v.seen v.stage t waiting fits.stage in
      dite (ℕ_discrete found (t % 2 ^ 64))
      (λ hit.
      let now : r.served ≡ t = served_is s r id t o hit in
      let home = is_home s r id v at (ap is_holding waiting) (ap r.seat_of now ∙ o.here) in
      let w : Knowledge E = holding v t (entries home.value) in
      let known = known_out r.history id v v.out out fits.known in
      let own : of_number v.number (entries home.value) ≡ v.own = ap (of_number v.number) home.is ∙ ap (λ n. of_number n r.history) known.0 ∙ known.1 in
      let words : set s.words 16 found ≡ s.words = set_again s.words 16 found (at_default s.words 16 0 (omega arith)) in
      let apart = apart_from_door s r id v at out number in
      let same : tickets_out (set s.views id w) + tickets_at v.stage ≡ tickets_out s.views + 1 = tickets_out-set s.views id v w at in
      let one : tickets_at v.stage ≡ 1 = ap tickets_at waiting in
      let before : r.served + tickets_out s.views ≡ r.drawn = r.counted in
      let slots : length s.homes ≡ 1 = r.slots in (
        w,
        takes 0 (Some home.value),
        home.here,
        subst (λ (words : List ℕ). Kept entries record { words = words; homes = set s.homes 0 none; views = set s.views id w }) (sym words) record {
          history = r.history;
          served = r.served;
          drawn = r.drawn;
          seat_of = r.seat_of;
          door = r.door;
          wide = wide;
          slots = length-set s.homes 0 none ∙ slots;
          drawn_is = r.drawn_is;
          served_is = r.served_is;
          counted = omega arith;
          doorman = doorman_stays r.history r.history s.views r.door id v w r.doorman apart at out r.doorman.own;
          none_above = λ n above. r.none_above n (subst (λ m. m ≤ n) (length-set s.views id w) above);
          each = each_set (Fits r.history r.served r.drawn r.seat_of) s.views id w (λ j u _ e. r.each j u e) record {
            seen = subst (λ l. IsPrefix l r.history) (sym home.is) (prefix_refl r.history);
            told = fits.told;
            known = is_known r.history id w w.out out known.0 known.1;
            stage = (sym now, o, home.is);
          };
          longest = inl record { seat = id; view = w; here = set_here s.views id w (at_within s.views id v at); out = out; all = home.is };
          slot = inr record { holder = id; view = w; here = set_here s.views id w (at_within s.views id v at); holding = refl };
        },
        told_at me t found (w, (0, Some home.value) ∷ me.1) waiting
            ((λ _. record { value = home.value; seen = subst (IsPrefix v.seen) (sym home.is) fits.seen; own = own; is = refl }), (λ miss. absurd (miss hit))),
      ))
      (λ miss. (v, keeps, tt, nothing_changes s 16 id v r at (omega arith), told_at me t found me waiting ((λ hit. absurd (miss hit)), (λ _. refl))))

  -- the lists of retired passes stay their own where the history goes on with the entries of a pass that is out
  own_more : (history added : List (ℕ × E)) (views : List (Knowledge E)) (id : ℕ) (v : Knowledge E) (retired : List (Retired E)) → get_elem? views id ≡ some v → v.out ≡ true → AllOfNumber id added
      → AllByRecursion (λ (r : Retired E). IsSpent views r.0) retired → AreOwn history retired → AreOwn (history ++ added) retired
  own_more history added views id v [] at out all spent own = tt
  own_more history added views id v (x ∷ xs) at out all spent own =
      let gone = spent.0 in
      let ne : id ≢ x.0 = λ e. true_is_not_false (sym out ∙ ap (λ (u : Knowledge E). u.out) (some-injective v gone.view (sym at ∙ ap (λ j. get_elem? views j) e ∙ gone.here)) ∙ gone.spent) in
      (of_number-others x.0 id history added ne all ∙ own.0, own_more history added views id v xs at out all spent.1 own.1)

  -- what was appended is told, and the value is still out
  told_keeps : (slots id : ℕ) (v : Knowledge E) (t : ℕ) (value : V) → v.out ≡ true → 1 ≤ v.number → v.stage ≡ Holding t
      → Appends v.number v.seen (entries value) → Allows (Kept entries) slots id (v, (0, Some value) ∷ []) 16 (λ n. n) (tell_step entries (step slots 16 0 0 none) (v, (0, Some value) ∷ []))
  told_keeps slots id v t value out number holding_is appends s r _ at _ =
      let found : ℕ = get_or s.words 16 0 in
      let added : List (ℕ × E) = appends.added in
      let fits = r.each id v at in
      let known = known_out r.history id v v.out out fits.known in
      let holds = holds_of r.history r.served r.drawn r.seat_of id v.seen v.stage (ap is_holding holding_is) fits.stage in
      let here : r.seat_of r.served ≡ id = holds.0 in
      let history : List (ℕ × E) = r.history ++ added in
      let is : entries value ≡ history = appends.is ∙ ap (λ l. l ++ added) holds.1 in
      let all : AllOfNumber id added = subst (λ n. AllOfNumber n added) known.0 appends.of_number in
      let w : Knowledge E = after_work v (entries value) (of_number v.number (entries value)) in
      let wide : 32 < length s.words = r.wide in
      let words : set s.words 16 found ≡ s.words = set_again s.words 16 found (at_default s.words 16 0 (omega arith)) in
      let apart = apart_from_door s r id v at out number in
      let within : id < length s.views = at_within s.views id v at in
      let count : tickets_out (set s.views id w) + tickets_at v.stage ≡ tickets_out s.views + tickets_at v.stage = tickets_out-set s.views id v w at in
      let before : r.served + tickets_out s.views ≡ r.drawn = r.counted in
      let mine : IsAtStage r.history r.served r.drawn r.seat_of id v.seen (Holding t) = subst (IsAtStage r.history r.served r.drawn r.seat_of id v.seen) holding_is fits.stage in
      let stage_stays : (j : ℕ) (seen : List (ℕ × E)) → j ≢ id → (stage : Stage) → IsAtStage r.history r.served r.drawn r.seat_of j seen stage → IsAtStage history r.served r.drawn r.seat_of j seen stage = λ j seen ne.
      elim [ Idle ↦ λ _. tt | Waiting t ↦ λ o. o | Holding t ↦ λ h. absurd (ne (sym h.1.here ∙ ap r.seat_of h.0 ∙ here)) ] in (
        w,
        keeps,
        tt,
        subst (λ (words : List ℕ). Kept entries record { words = words; homes = s.homes; views = set s.views id w }) (sym words) record {
          history = history;
          served = r.served;
          drawn = r.drawn;
          seat_of = r.seat_of;
          door = r.door;
          wide = wide;
          slots = r.slots;
          drawn_is = r.drawn_is;
          served_is = r.served_is;
          counted = omega arith;
          doorman = doorman_stays r.history history s.views r.door id v w r.doorman apart at out (own_more r.history added s.views id v r.door.retired at out all r.doorman.spent r.doorman.own);
          none_above = λ n above.
              let above' : length s.views ≤ n = subst (λ m. m ≤ n) (length-set s.views id w) above in of_number-others n id r.history added (λ e. omega arith) all ∙ r.none_above n above';
          each = each_set (Fits history r.served r.drawn r.seat_of) s.views id w
              (λ j u ne e. let f = r.each j u e in record {
                seen = prefix_more u.seen r.history added f.seen;
                told = prefix_more u.told r.history added f.told;
                known = known_more r.history added id j u u.out (λ e'. ne (sym e')) all f.known;
                stage = stage_stays j u.seen ne u.stage f.stage;
              })
              record {
                seen = subst (λ l. IsPrefix l history) (sym is) (prefix_refl history);
                told = prefix_more v.told r.history added fits.told;
                known = is_known history id w w.out out known.0 (ap (of_number id) (sym is) ∙ ap (λ n. of_number n (entries value)) (sym known.0));
                stage = subst (IsAtStage history r.served r.drawn r.seat_of id (entries value)) (sym holding_is) (mine.0, mine.1, is);
              };
          longest = inl record { seat = id; view = w; here = set_here s.views id w within; out = out; all = is };
          slot = inr record { holder = id; view = w; here = set_here s.views id w within; holding = ap is_holding holding_is };
        },
        refl,
      )

  -- the value is given back, and the next ticket served
  gives_keeps : (slots id : ℕ) (v : Knowledge E) (t : ℕ) (value : V) → v.out ≡ true → 1 ≤ v.number → v.stage ≡ Holding t
      → v.seen ≡ entries value → Allows (Kept entries) slots id (v, (0, Some value) ∷ []) 16 (λ n. (n + 1) % 2 ^ 64) (serve_step (step slots 16 1 0 none) (v, (0, Some value) ∷ []))
  gives_keeps slots id v t value out number holding_is told s r _ at _ =
      let found : ℕ = get_or s.words 16 0 in
      let next : ℕ = (found + 1) % 2 ^ 64 in
      let fits = r.each id v at in
      let known = known_out r.history id v v.out out fits.known in
      let holds = holds_of r.history r.served r.drawn r.seat_of id v.seen v.stage (ap is_holding holding_is) fits.stage in
      let here : r.seat_of r.served ≡ id = holds.0 in
      let is : entries value ≡ r.history = sym told ∙ holds.1 in
      let w : Knowledge E = at_stage v Idle in
      let wide : 32 < length s.words = r.wide in
      let apart = apart_from_door s r id v at out number in
      let count : tickets_out (set s.views id w) + tickets_at v.stage ≡ tickets_out s.views + 0 = tickets_out-set s.views id v w at in
      let one : tickets_at v.stage ≡ 1 = ap tickets_at holding_is in
      let before : r.served + tickets_out s.views ≡ r.drawn = r.counted in
      let slots_is : length s.homes ≡ 1 = r.slots in
      let not_mine : (j t : ℕ) → j ≢ id → IsOut r.served r.drawn r.seat_of j t → IsOut (r.served + 1) r.drawn r.seat_of j t = λ j t ne o.
      let wait_step : r.served ≤ t = o.wait_step in
      let other : r.served ≢ t = λ e. ne (sym o.here ∙ ap r.seat_of (sym e) ∙ here) in
      record { wait_step = omega arith; exists = o.exists; here = o.here } in
      let stage_stays : (j : ℕ) (seen : List (ℕ × E)) → j ≢ id → (stage : Stage) → IsAtStage r.history r.served r.drawn r.seat_of j seen stage → IsAtStage r.history (r.served + 1) r.drawn r.seat_of j seen stage = λ j seen ne.
      elim [ Idle ↦ λ _. tt | Waiting t ↦ λ o. not_mine j t ne o | Holding t ↦ λ h. absurd (ne (sym h.1.here ∙ ap r.seat_of h.0 ∙ here)) ] in
      let free : (j : ℕ) (u : Knowledge E) → j ≢ id → get_elem? s.views j ≡ some u → (b : Bool) → is_holding u.stage ≡ b → b ≡ false = λ j u ne e.
      elim [ true ↦ λ h. absurd (ne (sym (holds_of r.history r.served r.drawn r.seat_of j u.seen u.stage h (r.each j u e).stage).0 ∙ here)) | false ↦ λ h. refl ] in (
        w,
        gives,
        tt,
        record {
          history = r.history;
          served = r.served + 1;
          drawn = r.drawn;
          seat_of = r.seat_of;
          door = r.door;
          wide = subst (λ n. 32 < n) (sym (length-set s.words 16 next)) wide;
          slots = length-set s.homes 0 (some (Some value)) ∙ slots_is;
          drawn_is = get_or-set_other s.words 16 0 next 0 (λ e. omega arith) ∙ r.drawn_is;
          served_is = get_or-set_same s.words 16 next 0 (omega arith) ∙ ap (λ n. (n + 1) % 2 ^ 64) r.served_is ∙ mod-add-mod r.served (2 ^ 64) 1;
          counted = omega arith;
          doorman = doorman_stays r.history r.history s.views r.door id v w r.doorman apart at out r.doorman.own;
          none_above = λ n above. r.none_above n (subst (λ m. m ≤ n) (length-set s.views id w) above);
          each = each_set (Fits r.history (r.served + 1) r.drawn r.seat_of) s.views id w
              (λ j u ne e. let f = r.each j u e in record { seen = f.seen; told = f.told; known = f.known; stage = stage_stays j u.seen ne u.stage f.stage })
              record { seen = fits.seen; told = fits.told; known = is_known r.history id w w.out out known.0 known.1; stage = tt };
          longest = longest_set r.history s.views r.door id v w at refl refl r.longest;
          slot = inl record {
            value = value;
            here = set_here s.homes 0 (some (Some value)) (omega arith);
            is = is;
            free = each_set (λ j (u : Knowledge E). is_holding u.stage ≡ false) s.views id w (λ j u ne e. free j u ne e (is_holding u.stage) refl) refl;
          };
        },
        refl,
      )

  -- the same of a seat that has this value
  pub tells_keeps : (slots id : ℕ) (me : Me (std.Option V) (Knowledge E)) (t : ℕ) (value : V) → me.1 ≡ (0, Some value) ∷ [] → me.0.out ≡ true → 1 ≤ me.0.number → me.0.stage ≡ Holding t
      → Appends me.0.number me.0.seen (entries value) → Allows (Kept entries) slots id me 16 (λ n. n) (tell_step entries (step slots 16 0 0 none) me)
  tells_keeps slots id me t value is out number holding_is appends =
      let P : Me (std.Option V) (Knowledge E) → Type 0 = λ m. Allows (Kept entries) slots id m 16 (λ n. n) (tell_step entries (step slots 16 0 0 none) m) in
      let same : ◌≡◌ {A = Me (std.Option V) (Knowledge E)} (me.0, (0, Some value) ∷ []) me = λ k. (me.0, sym is k) in
      subst P same (told_keeps slots id me.0 t value out number holding_is appends)

  pub serves_keeps : (slots id : ℕ) (me : Me (std.Option V) (Knowledge E)) (t : ℕ) (value : V) → me.1 ≡ (0, Some value) ∷ [] → me.0.out ≡ true → 1 ≤ me.0.number → me.0.stage ≡ Holding t
      → me.0.seen ≡ entries value → Allows (Kept entries) slots id me 16 (λ n. (n + 1) % 2 ^ 64) (serve_step (step slots 16 1 0 none) me)
  serves_keeps slots id me t value is out number holding_is told =
      let P : Me (std.Option V) (Knowledge E) → Type 0 = λ m. Allows (Kept entries) slots id m 16 (λ n. (n + 1) % 2 ^ 64) (serve_step (step slots 16 1 0 none) m) in
      let same : ◌≡◌ {A = Me (std.Option V) (Knowledge E)} (me.0, (0, Some value) ∷ []) me = λ k. (me.0, sym is k) in
      subst P same (gives_keeps slots id me.0 t value out number holding_is told)
