-- What the steps of a turn come to.
use Rattle.std.proofs.Common.{◌≡◌, ◌≤◌, ℕ, List, [], ◌∷◌, ◌++◌, refl, sym, ap, ◌∙◌, subst}
use Rattle.std.specs.Prelude.{Option, Some, None}
use mathlib.Core.List.{IsPrefix}
use Rattle.atomic_table.specs.Table.{Me}
use Rattle.atomic_table.specs.Seated.{TableId}
use Rattle.atomic_table.specs.declared.shared.Seat.{Seat}
use Rattle.tree_lock.specs.declared.view.Knowledge.{Knowledge}
use Rattle.tree_lock.specs.Entries.{of_number, AllOfNumber, Appends}
use Rattle.tree_lock.specs.Seen.{PassView, one_more}
use Rattle.tree_lock.specs.declared.view.Stage.TheVariants.{Idle}
use Rattle.tree_lock.specs.Knowledge.{at_stage, after_work, holding}
use Rattle.tree_lock.specs.Seats.{seat_view, IsHolding}
use Rattle.tree_lock.specs.Steps.{Takes, entries_held}
use Rattle.tree_lock.specs.Turned.{Turned}
use Rattle.tree_lock.proofs.EntryLemmas.{of_number-added, prefix_more}

module _ {V : Type 0} where
  first_of : V → List (ℕ × Option V) → V
  first_of d [] = d
  first_of d (x ∷ xs) = elim (x.1) [ Some v ↦ v | None ↦ d ]

  same_value : (k : ℕ) (x y : V) (xs ys : List (ℕ × Option V)) → ◌≡◌ {A = List (ℕ × Option V)} ((k, Some x) ∷ xs) ((k, Some y) ∷ ys) → x ≡ y
  unfolding first_of
  same_value k x y xs ys e = ap (first_of x) e

module _ {V E : Type 0} where
  pub same_view : (s t : Seat (Option V) (Knowledge E)) → t.table_id ≡ s.table_id → t.me ≡ s.me → seat_view 0 t ≡ seat_view 0 s
  same_view s t table me = λ i. record { lock = table i; number = (me i).0.number; seen = (me i).0.seen; own = (me i).0.own; turns = 0 }

module _ {V E : Type 0} (entries : V → List (ℕ × E)) where
  abbrev T : Type 0
  T = Seat (Option V) (Knowledge E)

  -- what the pass told of it
  abbrev pub Told : T → T → Type 0
  Told s3 s4 = (value : V) × (s3.me.1 ≡ (0, Some value) ∷ []) × (s4.me.0 ≡ after_work s3.me.0 (entries value) (of_number s3.me.0.number (entries value)))

  -- what the pass knows after it
  pub telling : (table : TableId) (s3 s4 : T) (value : V) → IsHolding table s3 value → s4.table_id ≡ s3.table_id
      → s4.me ≡ (after_work s3.me.0 (entries_held entries s3.me.1) (of_number s3.me.0.number (entries_held entries s3.me.1)), s3.me.1)
      → IsHolding table s4 value × (s4.me.0.seen ≡ entries value) × (s3.me.1 ≡ (0, Some value) ∷ []) × (s4.me.0 ≡ after_work s3.me.0 (entries value) (of_number s3.me.0.number (entries value)))
  telling table s3 s4 value h same step =
      let me : s4.me ≡ (after_work s3.me.0 (entries value) (of_number s3.me.0.number (entries value)), (0, Some value) ∷ []) =
      step ∙ ap (λ (l : List (ℕ × Option V)). (after_work s3.me.0 (entries_held entries l) (of_number s3.me.0.number (entries_held entries l)), l)) h.held in
      let view : s4.me.0 ≡ after_work s3.me.0 (entries value) (of_number s3.me.0.number (entries value)) = ap (λ (m : Me (Option V) (Knowledge E)). m.0) me in (
        record {
          at = record {
            lock = h.at.lock;
            here = same ∙ h.at.here;
            out = ap (λ (v : Knowledge E). v.out) view ∙ h.at.out;
            number = subst (λ n. 1 ≤ n) (sym (ap (λ (v : Knowledge E). v.number) view)) h.at.number;
          };
          held = ap (λ (m : Me (Option V) (Knowledge E)). m.1) me;
          full = h.full;
          stage = ap (λ (v : Knowledge E). v.stage) view ∙ h.stage;
        },
        ap (λ (v : Knowledge E). v.seen) view,
        h.held,
        view,
      )

module _ {V E Out : Type 0} (entries : V → List (ℕ × E)) (done : V → ℕ → V → Out → Type 0) where
  abbrev S : Type 0
  S = Seat (Option V) (Knowledge E)

  -- what the job's work says
  abbrev pub Worked : S → ℕ → Out → S → Type 0
  Worked s2 number result s3 = (before after : V) × (s2.me.1 ≡ (0, Some before) ∷ []) × done before number after result × Appends number (entries before) (entries after) × (s3.table_id ≡ s2.table_id)
      × (s3.me ≡ (s2.me.0, (0, Some after) ∷ []))

  pub turned : (s0 s1 s2 s3 s4 s5 s6 : S) (number t : ℕ) (result : Out) → number ≡ s0.me.0.number → seat_view 0 s1 ≡ seat_view 0 s0 → s2.table_id ≡ s1.table_id → Takes entries t s1.me s2.me → Worked s2 number result s3
      → Told entries s3 s4 → s5.table_id ≡ s3.table_id → s5.me.0 ≡ at_stage s4.me.0 Idle
      → s6.table_id ≡ s5.table_id → s6.me ≡ s5.me → (turns : ℕ) → Turned entries done (seat_view turns s0) (seat_view (one_more turns) s6) result
  turned s0 s1 s2 s3 s4 s5 s6 number t result is drawn waited takes work told served gave rung same turns =
      let before : V = work.0 in
      let after : V = work.1 in
      let appends = work.4 in
      let added : List (ℕ × E) = appends.added in
      let value_is : takes.value ≡ before = same_value 0 takes.value before s1.me.1 [] (sym (ap (λ (m : Me (Option V) (Knowledge E)). m.1) takes.is) ∙ work.2) in
      let told_is : told.0 ≡ after = same_value 0 told.0 after [] [] (sym told.1 ∙ ap (λ (m : Me (Option V) (Knowledge E)). m.1) work.6) in
      let number1 : s1.me.0.number ≡ s0.me.0.number = ap (λ (p : PassView E). p.number) drawn in
      let own1 : s1.me.0.own ≡ s0.me.0.own = ap (λ (p : PassView E). p.own) drawn in
      let seen1 : s1.me.0.seen ≡ s0.me.0.seen = ap (λ (p : PassView E). p.seen) drawn in
      let view3 : s3.me.0 ≡ holding s1.me.0 t (entries takes.value) = ap (λ (m : Me (Option V) (Knowledge E)). m.0) work.6 ∙ ap (λ (m : Me (Option V) (Knowledge E)). m.0) takes.is in
      let number3 : s3.me.0.number ≡ s0.me.0.number = ap (λ (v : Knowledge E). v.number) view3 ∙ number1 in
      let view4 : s4.me.0 ≡ after_work s3.me.0 (entries after) (of_number s3.me.0.number (entries after)) = told.2 ∙ ap (λ (v : V). after_work s3.me.0 (entries v) (of_number s3.me.0.number (entries v))) told_is in
      let view6 : s6.me.0 ≡ at_stage (after_work s3.me.0 (entries after) (of_number s3.me.0.number (entries after))) Idle = ap (λ (m : Me (Option V) (Knowledge E)). m.0) same ∙ gave ∙ ap (λ (v : Knowledge E). at_stage v Idle) view4 in
      let all : AllOfNumber s0.me.0.number added = subst (λ (n : ℕ). AllOfNumber n added) is appends.of_number in
      let own_before : of_number s0.me.0.number (entries before) ≡ s0.me.0.own = ap (λ (n : ℕ). of_number n (entries before)) (sym number1) ∙ ap (λ (v : V). of_number s1.me.0.number (entries v)) (sym value_is) ∙ takes.own ∙ own1 in
      let number6 : s6.me.0.number ≡ s0.me.0.number = ap (λ (v : Knowledge E). v.number) view6 ∙ number3 in
      let own6 : s6.me.0.own ≡ of_number s0.me.0.number (entries after) = ap (λ (v : Knowledge E). v.own) view6 ∙ ap (λ (n : ℕ). of_number n (entries after)) number3 in
      record {
        before = before;
        after = after;
        added = added;
        worked = subst (λ (n : ℕ). done before n after result) is work.3;
        found = subst (λ (l : List (ℕ × E)). IsPrefix l (entries before)) seen1 (subst (λ (v : V). IsPrefix s1.me.0.seen (entries v)) value_is takes.seen);
        left = appends.is;
        of_pass = all;
        seen = ap (λ (v : Knowledge E). v.seen) view6;
        own = own6 ∙ ap (of_number s0.me.0.number) appends.is ∙ of_number-added s0.me.0.number (entries before) added all ∙ ap (λ (l : List (ℕ × E)). l ++ added) own_before;
        lock = rung ∙ served ∙ work.5 ∙ waited ∙ ap (λ (p : PassView E). p.lock) drawn;
        number = number6;
        turns = refl;
        own_before = own_before;
        own_after = ap (λ (n : ℕ). of_number n (entries after)) number6 ∙ sym own6;
      }

module _ {V E Out : Type 0} (entries : V → List (ℕ × E)) (done : V → ℕ → V → Out → Type 0) (old new : PassView E) (result : Out) where
  -- what a pass has seen begins what it has seen after a turn
  pub seen_grew : Turned entries done old new result → IsPrefix old.seen new.seen
  seen_grew t = subst (IsPrefix old.seen) (sym t.left ∙ sym t.seen) (prefix_more old.seen (entries t.before) t.added t.found)

  -- what is a pass's own begins what is its own after a turn
  pub own_grew : Turned entries done old new result → IsPrefix old.own new.own
  own_grew t = (t.added, sym t.own)
