-- A history that keeps one more event.
use Rattle.std.proofs.Common.{◌≡◌, ℕ, ◌+◌, ◌-◌, ◌^◌, ◌<◌, Bool, Bor, cond, List, [], ◌∷◌, ◌++◌, length, refl, sym, ap, subst, ◌∙◌, arith}
use Rattle.std.specs.Prelude.{Result, Ok, find, is_ok, ℤ, MatchOption, Option, Some, None}
use Rattle.std.proofs.lemmas.List.{length-append}
use Rattle.std.specs.Int.{w64}
use Rattle.std.specs.Option.{option_copied}
use Rattle.std.proofs.lemmas.Int.{ints}
use mir.Val.{SFits}
use Rattle.bl_syntax.specs.TimeOrder.{IsMoment}
use Rattle.policy_statement.specs.Ring.{KeyView}
use Rattle.bl_syntax.specs.Grant.{GrantView}
use Rattle.bl_syntax.specs.Statement.{StatementView}
use Rattle.policy_statement.specs.Registered.{RegisteredView}
use Rattle.policy_statement.specs.Withdrawal.{is_withdrawn, live_of_number}
use Rattle.procap.specs.Genuine.{IsGenuine}
use Rattle.procap.specs.declared.procap.Procap.{Procap}
use Rattle.file_world.specs.declared.operation.Op.{Op}
use Rattle.file_world.specs.declared.refusal.OpFault.{OpFault}
use Rattle.file_world.specs.declared.reply.OpReply.{OpReply}
use Rattle.file_world.specs.World.{World}
use Rattle.world_state.specs.State.{WorldState, ReservesWorld}
use Rattle.access_history.specs.declared.event.Addition.{Addition}
use Rattle.access_history.specs.declared.event.Issue.{Issue}
use Rattle.journal_records.specs.declared.event.Event.{Event}
use Rattle.journal_records.specs.declared.event.Event.TheVariants.{Registered, Withdrawn, Issued, Acted}
use Rattle.issue_standings.specs.Index.{IsIndexOf, Knows}
use Rattle.issue_standings.specs.GrantStanding.{gone_by, standing_of}
use Rattle.access_history.specs.declared.history.History.TheInside.{Inside}
use Rattle.access_history.specs.Base.{BaseView}
use Rattle.access_history.specs.Books.{live_book}
use Rattle.access_history.specs.Citing.{IsHeld}
use Rattle.access_history.specs.Gone.{bearings, gone, gone_by_issues, gone_by_names, gone_naming}
use Rattle.access_history.specs.Numbered.{IsNumbered}
use Rattle.access_history.specs.Authority.{Authority}
use Rattle.access_history.specs.History.{HistoryView, authority_with, authority_of, state_of, world_of, IsReadyFor, IsReadyIn}
use Rattle.access_history.specs.HistoryParts.{kept_by, shown_state, IsKeeping}
use Rattle.access_history.specs.Keeping.{HasMomentInRange, HasPlaceAmong}
use Rattle.access_history.specs.Lawful.{IsLawful, one_more, MayFollow}
use Rattle.access_history.specs.Replay.{world_next, moment_next, statements_with, issues_with, addition_of, replay, next_state}
use Rattle.access_history.proofs.CitingLemmas.{live_from_registry, none_in_registry, said_length, some_in_registry}
use Rattle.access_history.proofs.ReplayLemmas.{replay-more, count-replay}

-- a push that did not fail
pub pushed : {A T E : Type 0} (before after : List A) (x : A) (r : Result T E) (done : T) → after ≡ cond (is_ok r) (before ++ x ∷ []) before → r ≡ Ok done → after ≡ before ++ x ∷ []
pushed before after x r done e ok = e ∙ ap (λ (b : Bool). cond b (before ++ x ∷ []) before) (ap is_ok ok)

abbrev pub state_with : World → List RegisteredView → List Issue → ℤ → ℕ → BaseView
state_with world statements issues moment count = record { world = world; statements = statements; issues = issues; moment = moment; count = count }

-- the fields after an event show the state after it
pub shown_next : (h after : Inside) (event : Event) → after.world.world ≡ world_next h.world.world event → after.statements.entries ≡ statements_with h.statements.entries (addition_of event) → after.issues.items ≡ issues_with h.issues.items (addition_of event) →
    after.moment ≡ moment_next h.moment event → after.count ≡ h.count + 1 → shown_state after ≡ next_state (shown_state h) event
shown_next h after event world statements issues moment count =
    ap (λ (w : World). state_with w after.statements.entries after.issues.items after.moment after.count) world
    ∙ ap (λ (ss : List RegisteredView). state_with (world_next h.world.world event) ss after.issues.items after.moment after.count) statements
    ∙ ap (λ (is : List Issue). state_with (world_next h.world.world event) (statements_with h.statements.entries (addition_of event)) is after.moment after.count) issues
    ∙ ap (λ (m : ℤ). state_with (world_next h.world.world event) (statements_with h.statements.entries (addition_of event)) (issues_with h.issues.items (addition_of event)) m after.count) moment
    ∙ ap (λ (n : ℕ). state_with (world_next h.world.world event) (statements_with h.statements.entries (addition_of event)) (issues_with h.issues.items (addition_of event)) (moment_next h.moment event) n) count

-- the fields show the state after one more event, and the events have one more at their end
pub IsKeeping-more : (h after : Inside) (event : Event) → IsKeeping h → MayFollow (authority_of (kept_by h)) (state_of (kept_by h)) event → (state_of (kept_by h)).count < 2 ^ 48 - 1 →
    after.key ≡ h.key → after.ring ≡ h.ring → after.base ≡ h.base → after.events.items ≡ h.events.items ++ event ∷ [] → shown_state after ≡ next_state (shown_state h) event → IsIndexOf after.key after.statements.entries (bearings after.issues.items) after.standings → IsKeeping after
IsKeeping-more h after event keeping follows counted same_key same_ring same_base more shown standings =
    let events = h.events.items ++ event ∷ [] in
    let lawful : IsLawful (authority_with h.key h.ring) h.base events = record {
      lawful_base = keeping.lawful.lawful_base;
      counted = omega (arith, counted, count-replay h.base h.events.items, length-append h.events.items (event ∷ []));
      each = one_more h.events.items event keeping.lawful.each follows;
    } in
    let state : shown_state after ≡ replay h.base events = shown ∙ ap (λ (s : BaseView). next_state s event) keeping.state_is ∙ sym (replay-more h.base h.events.items event) in
    record {
      lawful = subst (λ (k : List ℕ). IsLawful (authority_with k after.ring) after.base after.events.items) (sym same_key)
          (subst (λ (r : List KeyView). IsLawful (authority_with h.key r) after.base after.events.items) (sym same_ring)
          (subst (λ (b : BaseView). IsLawful (authority_with h.key h.ring) b after.events.items) (sym same_base)
          (subst (λ (es : List Event). IsLawful (authority_with h.key h.ring) h.base es) (sym more) lawful)));
      state_is = state ∙ ap (λ (es : List Event). replay h.base es) (sym more) ∙ ap (λ (b : BaseView). replay b after.events.items) (sym same_base);
      standings = standings;
    }

-- a moment fits a signed word
pub SFits-moment : (moment : ℤ) → IsMoment moment → SFits w64 moment
SFits-moment moment m = omega (arith, ints, m.not_before, m.not_after)

-- an event that may come next has a moment of the range, if it has one
pub HasMoment-follows : (authority : Authority) (state : BaseView) (event : Event) → MayFollow authority state event → HasMomentInRange event
HasMoment-follows authority state (Registered pass statement signature) may = tt
HasMoment-follows authority state (Withdrawn pass number signature) may = tt
HasMoment-follows authority state (Issued pass cited proof grant) may = tt
HasMoment-follows authority state (Acted pass caller op procaps moment) may = may.in_range

-- and there is a place for its statement, if it has one, or its statement stands
pub HasPlace-follows : (authority : Authority) (state : BaseView) (event : Event) → MayFollow authority state event → HasPlaceAmong state.statements (addition_of event)
HasPlace-follows authority state (Registered pass statement signature) may = omega (arith, may.can.room, said_length state.statements)
HasPlace-follows authority state (Withdrawn pass number signature) may = some_in_registry state.statements number may.statement may.live
HasPlace-follows authority state (Issued pass cited proof grant) may = tt
HasPlace-follows authority state (Acted pass caller op procaps moment) may = tt

-- ---- the world

-- the world that the fields show is that of the state
pub world_shown : (h : Inside) → IsKeeping h → h.world ≡ world_of (kept_by h)
world_shown h keeping = ap (λ (w : World). let state : WorldState = record { world = w; ready = h.world.ready } in state) (ap (λ (s : BaseView). s.world) keeping.state_is)

-- a world of which only what it is ready for differs
pub IsKeeping-world : (h : Inside) (w : WorldState) → w.world ≡ h.world.world → IsKeeping h → IsKeeping (record h { world = w })
IsKeeping-world h w same keeping = record {
  lawful = keeping.lawful;
  state_is = ap (λ (v : World). state_with v h.statements.entries h.issues.items h.moment h.count) same ∙ keeping.state_is;
  standings = keeping.standings;
}

-- what the world returned is what the state's world returns
pub reserved_shown : (h : Inside) (w : WorldState) (k : HistoryView) (caller : List ℕ) (op : Op) (answer : Result OpReply OpFault) → IsKeeping h → kept_by h ≡ k → w.world ≡ h.world.world →
    ReservesWorld caller h.world.world op answer w → ReservesWorld caller (state_of k).world op answer (world_of (kept_by (record h { world = w })))
reserved_shown h w k caller op answer keeping is same reserves =
    subst (λ (v : HistoryView). ReservesWorld caller (state_of v).world op answer (world_of (kept_by (record h { world = w })))) is
    (subst (λ (s : BaseView). ReservesWorld caller s.world op answer (world_of (kept_by (record h { world = w })))) keeping.state_is
    (subst (λ (v : WorldState). ReservesWorld caller h.world.world op answer v) (world_shown (record h { world = w }) (IsKeeping-world h w same keeping)) reserves))

-- what the history is ready for, its world is ready for
pub ready_shown : (h : Inside) (k : HistoryView) (event : Event) → IsKeeping h → kept_by h ≡ k → IsReadyFor k event → IsReadyIn h.world event
ready_shown h k event keeping is ready =
    subst (λ (w : WorldState). IsReadyIn w event) (sym (world_shown h keeping)) (subst (λ (v : HistoryView). IsReadyFor v event) (sym is) ready)

-- there is a place for what the state keeps of an event that may come next
pub place_shown : (h : Inside) (k : HistoryView) (event : Event) (addition : Addition) → IsKeeping h → kept_by h ≡ k → addition ≡ addition_of event → MayFollow (authority_of k) (state_of k) event → HasPlaceAmong h.statements.entries addition
place_shown h k event addition keeping is addition_is may =
    subst (λ (e : Addition). HasPlaceAmong h.statements.entries e) (sym addition_is)
    (subst (λ (s : BaseView). HasPlaceAmong s.statements (addition_of event)) (sym keeping.state_is)
    (subst (λ (v : HistoryView). HasPlaceAmong (state_of v).statements (addition_of event)) (sym is) (HasPlace-follows (authority_of k) (state_of k) event may)))

-- the fields after an event that may come next: each part changed as the event changes it, and the event, which was given back, at the end
pub IsKeeping-kept : (h after : Inside) (k : HistoryView) (event given : Event) (addition : Addition) → IsKeeping h → kept_by h ≡ k → MayFollow (authority_of k) (state_of k) event → (state_of k).count < 2 ^ 48 - 1 → addition ≡ addition_of event → given ≡ event
    → after.key ≡ h.key → after.ring ≡ h.ring → after.base ≡ h.base
    → after.world.world ≡ world_next h.world.world event → after.moment ≡ moment_next h.moment event
    → after.statements.entries ≡ statements_with h.statements.entries addition → after.issues.items ≡ issues_with h.issues.items addition
    → after.events.items ≡ h.events.items ++ given ∷ [] → after.count ≡ h.count + 1 → IsIndexOf after.key after.statements.entries (bearings after.issues.items) after.standings → IsKeeping after
IsKeeping-kept h after k event given addition keeping is follows counted addition_is given_is same_key same_ring same_base world moment statements issues more count standings =
    IsKeeping-more h after event keeping (subst (λ (v : HistoryView). MayFollow (authority_of v) (state_of v) event) (sym is) follows) (subst (λ (v : HistoryView). (state_of v).count < 2 ^ 48 - 1) (sym is) counted) same_key same_ring same_base
    (more ∙ ap (λ (e : Event). h.events.items ++ e ∷ []) given_is)
    (shown_next h after event world (statements ∙ ap (statements_with h.statements.entries) addition_is) (issues ∙ ap (issues_with h.issues.items) addition_is) moment count) standings

-- ---- statements that stand, and grants that are gone

told_live : (entries : List RegisteredView) (number : ℕ) (result : Option (Bor StatementView)) → option_copied result ≡ live_of_number entries number →
    MatchOption result (IsHeld (live_book entries) number → ⊥) (λ (s : Bor StatementView). IsNumbered (live_book entries) number (Some s.now))
told_live entries number None is = none_in_registry entries number (sym is)
told_live entries number (Some s) is = live_from_registry entries number s.now (sym is)

-- what the registry tells of a number is what stands there
pub live_told : (entries shown : List RegisteredView) (number : ℕ) (result : Option (Bor StatementView)) → shown ≡ entries → option_copied result ≡ live_of_number shown number →
    MatchOption result (IsHeld (live_book entries) number → ⊥) (λ (s : Bor StatementView). IsNumbered (live_book entries) number (Some s.now))
live_told entries shown number result shown_is is = told_live entries number result (is ∙ ap (λ (es : List RegisteredView). live_of_number es number) shown_is)

-- the index knows the procap, which is sealed under the key of the history, and whose grant names no statements
pub knows_shown : (h : Inside) (k : HistoryView) (p : Procap) → IsKeeping h → kept_by h ≡ k → (shown : List Issue) → shown ≡ h.issues.items → IsGenuine k.key p → p.grant.cited ≡ [] → Knows h.statements.entries (bearings shown) h.standings p
knows_shown h k p keeping is shown shown_is genuine unnamed = record {
  key = h.key;
  indexed = subst (λ (is : List Issue). IsIndexOf h.key h.statements.entries (bearings is) h.standings) (sym shown_is) keeping.standings;
  genuine = subst (λ (v : HistoryView). IsGenuine v.key p) (sym is) genuine;
  unnamed = unnamed;
}

-- what the index tells of a grant holds of the state
pub gone_shown : (h : Inside) (k : HistoryView) (g : GrantView) (shown : List Issue) (found : Option ℕ) → IsKeeping h → kept_by h ≡ k → shown ≡ h.issues.items → found ≡ gone_by (standing_of (is_withdrawn h.statements.entries) g (bearings shown)) → found ≡ gone_by_issues (state_of k) g
gone_shown h k g shown found keeping is shown_is found_is =
    found_is
    ∙ (ap (λ (is : List Issue). gone_by (standing_of (is_withdrawn h.statements.entries) g (bearings is))) shown_is
    ∙ ap (λ (s : BaseView). gone_by_issues s g) (keeping.state_is ∙ ap state_of is))

-- a list of no items
pub no_items : {A : Type 0} (items : List A) → length items ≡ 0 → items ≡ []
no_items [] none = refl
no_items (item ∷ items) none = absurd (omega (arith, none))

-- a grant that names no statements is gone by its issues
pub gone_plain : (k : HistoryView) (g : GrantView) (found : Option ℕ) (named : List ℕ) → named ≡ g.cited → named ≡ [] → found ≡ gone_by_issues (state_of k) g → found ≡ gone (state_of k) g
gone_plain k g found named named_is none found_is = found_is ∙ ap (gone_naming (state_of k) g) (sym none ∙ named_is)

-- some numbers are looked at, and none else
by_names : (state : BaseView) (g : GrantView) (named : List ℕ) → (named ≡ [] → ⊥) → gone_by_names state named ≡ gone_naming state g named
by_names state g [] some = absurd (some refl)
by_names state g (number ∷ numbers) some = refl

-- one that names some is gone by these
pub gone_named : (h : Inside) (k : HistoryView) (g : GrantView) (named : List ℕ) (found : Option ℕ) → IsKeeping h → kept_by h ≡ k → named ≡ g.cited → (named ≡ [] → ⊥) → found ≡ find (is_withdrawn h.statements.entries) named → found ≡ gone (state_of k) g
gone_named h k g named found keeping is named_is some found_is =
    found_is ∙ (ap (λ (s : BaseView). gone_by_names s named) (keeping.state_is ∙ ap state_of is) ∙ (by_names (state_of k) g named some ∙ ap (gone_naming (state_of k) g) named_is))
