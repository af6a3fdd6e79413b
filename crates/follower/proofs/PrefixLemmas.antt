-- Histories that are parts of one, as lists of events without passes.
use Rattle.std.proofs.Common.{◌≡◌, ◌+◌, ◌≤◌, ℕ, List, [], ◌∷◌, ◌++◌, length, take, drop, map, refl, sym, ap, ◌∙◌, arith, append_assoc, length-append}
use Rattle.std.proofs.lemmas.List.{map-append, length-map, append-nil, take-append-drop, take-take, take_at, drop_at, take_all, length-take-le, length-drop}
use Rattle.journal_records.specs.declared.event.Event.{Event}
use Rattle.access_history.specs.Base.{BaseView}
use Rattle.journal_records.specs.Passes.{erase}
use Rattle.access_history.specs.Replay.{replay, next_state}
use Rattle.access_history.proofs.ReplayLemmas.{count-replay}
use Rattle.pcfs_store.specs.StoredHistory.{Resumes}
use Rattle.recover.proofs.FollowingLemmas.{erased_again, erased_replay}
use Rattle.follower.specs.Following.{ArePrefix}

-- ---- states

replay-append : (state : BaseView) (events more : List Event) → replay state (events ++ more) ≡ replay (replay state events) more
replay-append state [] more = refl
replay-append state (event ∷ events) more = replay-append (next_state state event) events more

-- events that differ in their passes alone lead to one state
same_state : (state : BaseView) (events others : List Event) → map erase events ≡ map erase others → replay state events ≡ replay state others
same_state state events others same = sym (erased_replay state events) ∙ ap (replay state) same ∙ erased_replay state others

-- ---- lists

same_head : {x y : Event} {xs ys : List Event} → x ∷ xs ≡ y ∷ ys → x ≡ y
same_head same = cc

same_tail : {x y : Event} {xs ys : List Event} → x ∷ xs ≡ y ∷ ys → xs ≡ ys
same_tail same = cc

none_left : (events : List Event) → length events ≡ 0 → events ≡ []
none_left [] none = refl
none_left (event ∷ events) none = absurd (omega (arith, none))

-- two ways to part a list at one place
parted : (front other rest others : List Event) → front ++ rest ≡ other ++ others → length front ≡ length other → (front ≡ other) × (rest ≡ others)
parted front other rest others same long = (
  sym (take_at front rest (length front) refl) ∙ ap (take (length front)) same ∙ take_at other others (length front) (sym long),
  sym (drop_at front rest (length front) refl) ∙ ap (drop (length front)) same ∙ drop_at other others (length front) (sym long),
)

-- events that are parted without their passes
record IsParted (events front rest : List Event) : Type 0 where
  pub first : List Event
  pub second : List Event
  pub parts : events ≡ first ++ second
  pub first_is : map erase first ≡ front
  pub second_is : map erase second ≡ rest

part : (events front rest : List Event) → map erase events ≡ front ++ rest → IsParted events front rest
part events [] rest same = record { first = []; second = events; parts = refl; first_is = refl; second_is = same }
part [] (front ∷ fronts) rest same = absurd cc
part (event ∷ events) (front ∷ fronts) rest same =
    let others = part events fronts rest (same_tail same) in
    record {
      first = event ∷ others.first;
      second = others.second;
      parts = ap (λ (es : List Event). event ∷ es) others.parts;
      first_is = ap (λ (e : Event). e ∷ map erase others.first) (same_head same) ∙ ap (λ (es : List Event). front ∷ es) others.first_is;
      second_is = others.second_is;
    }

-- the first event of others
record HasFirst (events : List Event) (first : Event) : Type 0 where
  pub own : Event
  pub others : List Event
  pub parts : events ≡ own ∷ others
  pub own_is : erase own ≡ first

first_of : (events rest : List Event) (first : Event) → map erase events ≡ first ∷ rest → HasFirst events first
first_of [] rest first same = absurd cc
first_of (event ∷ events) rest first same = record { own = event; others = events; parts = refl; own_is = same_head same }

-- ---- a part of a history

-- a base and events are those of a history from some event on up to the event `kept`
pub record IsPart (found_base : BaseView) (found : List Event) (base : BaseView) (events : List Event) (kept : ℕ) : Type 0 where
  pub before : List Event
  pub middle : List Event
  pub after : List Event
  pub parts : events ≡ (before ++ middle) ++ after
  pub base_is : found_base ≡ replay base before
  pub same : map erase found ≡ map erase middle
  pub count : length before + length middle ≡ kept

is_part : (found_base : BaseView) (found : List Event) (base : BaseView) (events : List Event) (kept : ℕ) → Resumes found_base (map erase found) base events kept → IsPart found_base found base events kept
is_part found_base found base events kept r =
    let front : List Event = take kept events in
    record {
      before = take r.skipped events;
      middle = drop r.skipped front;
      after = drop kept events;
      parts =
          sym (take-append-drop kept events)
          ∙ ap (λ (es : List Event). es ++ drop kept events) (sym (take-append-drop r.skipped front) ∙ ap (λ (es : List Event). es ++ drop r.skipped front) (take-take r.skipped kept events r.skipped_few));
      base_is = r.base_is;
      same = r.events_are;
      count = let few : r.skipped ≤ length events = omega (arith, r.skipped_few, r.kept_few) in
          omega (arith, length-take-le r.skipped events few, length-drop r.skipped front, length-take-le kept events r.kept_few, r.skipped_few);
    }

resumed : (found_base : BaseView) (found : List Event) (base : BaseView) (events : List Event) (kept : ℕ) → IsPart found_base found base events kept → Resumes found_base (map erase found) base events kept
resumed found_base found base events kept p =
    let front : List Event = p.before ++ p.middle in
    let long : length front ≡ kept = length-append p.before p.middle ∙ p.count in
    let taken : take kept events ≡ front = ap (take kept) p.parts ∙ take_at front p.after kept long in
    let skipped : take (length p.before) events ≡ p.before = ap (take (length p.before)) (p.parts ∙ append_assoc p.before p.middle p.after) ∙ take_at p.before (p.middle ++ p.after) (length p.before) refl in
    record {
      skipped = length p.before;
      skipped_few = omega (arith, p.count);
      kept_few = omega (arith, ap length p.parts, length-append front p.after, long);
      base_is = p.base_is ∙ ap (replay base) (sym skipped);
      events_are = p.same ∙ ap (map erase) (sym (ap (drop (length p.before)) taken ∙ drop_at p.before p.middle (length p.before) refl));
    }

-- a part up to the end
whole : (found_base : BaseView) (found : List Event) (base : BaseView) (events : List Event) → (p : IsPart found_base found base events (length events)) → events ≡ p.before ++ p.middle
whole found_base found base events p =
    let none : length p.after ≡ 0 = omega (arith, ap length p.parts, length-append (p.before ++ p.middle) p.after, length-append p.before p.middle, p.count) in
    p.parts ∙ ap (λ (es : List Event). (p.before ++ p.middle) ++ es) (none_left p.after none) ∙ append-nil (p.before ++ p.middle)

-- the state to which a part leads
pub part_state : (found_base : BaseView) (found : List Event) (base : BaseView) (events : List Event) (kept : ℕ) → (p : IsPart found_base found base events kept) → replay found_base found ≡ replay base (p.before ++ p.middle)
part_state found_base found base events kept p = same_state found_base found p.middle p.same ∙ ap (λ (b : BaseView). replay b p.middle) p.base_is ∙ sym (replay-append base p.before p.middle)

part_count : (found_base : BaseView) (found : List Event) (base : BaseView) (events : List Event) (kept : ℕ) → (p : IsPart found_base found base events kept) → (replay found_base found).count ≡ base.count + kept
part_count found_base found base events kept p =
    ap (λ (s : BaseView). s.count) (part_state found_base found base events kept p) ∙ count-replay base (p.before ++ p.middle) ∙ ap (λ (n : ℕ). base.count + n) (length-append p.before p.middle ∙ p.count)

module _ (leader_base : BaseView) (leader : List Event) (follower_base : BaseView) (follower : List Event) (p : ArePrefix leader_base leader follower_base follower) where
  pub led : IsPart leader_base leader p.base p.events (length p.events)
  led = is_part leader_base leader p.base p.events (length p.events) p.leads

  pub following : IsPart follower_base follower p.base p.events p.kept
  following = is_part follower_base follower p.base p.events p.kept p.follows

  -- ---- the leader has an event more

  pub leader_more : (event : Event) → ArePrefix leader_base (leader ++ event ∷ []) follower_base follower
  leader_more event =
      let l = led in
      let f = following in
      let more : List Event = p.events ++ event ∷ [] in
      let all : p.events ≡ l.before ++ l.middle = whole leader_base leader p.base p.events l in
      record {
        base = p.base;
        events = more;
        kept = p.kept;
        leads = resumed leader_base (leader ++ event ∷ []) p.base more (length more) (record {
          before = l.before;
          middle = l.middle ++ event ∷ [];
          after = [];
          parts = ap (λ (es : List Event). es ++ event ∷ []) all ∙ append_assoc l.before l.middle (event ∷ []) ∙ sym (append-nil (l.before ++ (l.middle ++ event ∷ [])));
          base_is = l.base_is;
          same = map-append erase leader (event ∷ []) ∙ ap (λ (es : List Event). es ++ erase event ∷ []) l.same ∙ sym (map-append erase l.middle (event ∷ []));
          count = omega (arith, l.count, length-append l.middle (event ∷ []), length-append p.events (event ∷ []));
        });
        follows = resumed follower_base follower p.base more p.kept (record {
          before = f.before;
          middle = f.middle;
          after = f.after ++ event ∷ [];
          parts = ap (λ (es : List Event). es ++ event ∷ []) f.parts ∙ append_assoc (f.before ++ f.middle) f.after (event ∷ []);
          base_is = f.base_is;
          same = f.same;
          count = f.count;
        });
      }

  -- ---- the follower has the leader's next event

  -- the event of the leader that has the follower's next number
  pub record IsNext (earlier : List Event) (event : Event) : Type 0 where
    pub own : Event
    pub others : List Event
    pub parts : p.events ≡ (following.before ++ following.middle) ++ own ∷ others
    pub own_is : erase own ≡ erase event
    pub state_is : replay leader_base earlier ≡ replay follower_base follower

  pub is_next : (earlier later : List Event) (event : Event) → leader ≡ earlier ++ event ∷ later → leader_base.count + length earlier ≡ (replay follower_base follower).count → IsNext earlier event
  is_next earlier later event parts numbered =
      let l = led in
      let f = following in
      let cut = part l.middle (map erase earlier) (erase event ∷ map erase later) (sym l.same ∙ ap (map erase) parts ∙ map-append erase earlier (event ∷ later)) in
      let first = first_of cut.second (map erase later) (erase event) cut.second_is in
      let here : p.events ≡ (l.before ++ cut.first) ++ first.own ∷ first.others =
      whole leader_base leader p.base p.events l ∙ ap (λ (es : List Event). l.before ++ es) (cut.parts ∙ ap (λ (es : List Event). cut.first ++ es) first.parts) ∙ sym (append_assoc l.before cut.first (first.own ∷ first.others)) in
      let start : leader_base.count ≡ p.base.count + length l.before = ap (λ (s : BaseView). s.count) l.base_is ∙ count-replay p.base l.before in
      let until : (replay follower_base follower).count ≡ p.base.count + p.kept = part_count follower_base follower p.base p.events p.kept f in
      let short : length cut.first ≡ length earlier = sym (length-map cut.first erase) ∙ ap length cut.first_is ∙ length-map earlier erase in
      let long : length (f.before ++ f.middle) ≡ length (l.before ++ cut.first) =
      omega (arith, length-append f.before f.middle, f.count, length-append l.before cut.first, start, until, short, numbered) in
      let both = parted (f.before ++ f.middle) (l.before ++ cut.first) f.after (first.own ∷ first.others) (sym f.parts ∙ here) long in
      record {
        own = first.own;
        others = first.others;
        parts = f.parts ∙ ap (λ (es : List Event). (f.before ++ f.middle) ++ es) both.1;
        own_is = first.own_is;
        state_is =
            same_state leader_base earlier cut.first (sym cut.first_is) ∙ ap (λ (b : BaseView). replay b cut.first) l.base_is ∙ sym (replay-append p.base l.before cut.first)
            ∙ ap (replay p.base) (sym both.0) ∙ sym (part_state follower_base follower p.base p.events p.kept f);
      }

  pub follower_more : (earlier : List Event) (event taken : Event) → IsNext earlier event → erase taken ≡ erase event → ArePrefix leader_base leader follower_base (follower ++ taken ∷ [])
  follower_more earlier event taken n same =
      let f = following in record {
        base = p.base;
        events = p.events;
        kept = p.kept + 1;
        leads = p.leads;
        follows = resumed follower_base (follower ++ taken ∷ []) p.base p.events (p.kept + 1) (record {
          before = f.before;
          middle = f.middle ++ n.own ∷ [];
          after = n.others;
          parts = n.parts ∙ sym (append_assoc (f.before ++ f.middle) (n.own ∷ []) n.others) ∙ ap (λ (es : List Event). es ++ n.others) (append_assoc f.before f.middle (n.own ∷ []));
          base_is = f.base_is;
          same =
              map-append erase follower (taken ∷ []) ∙ ap (λ (es : List Event). es ++ erase taken ∷ []) f.same ∙ ap (λ (e : Event). map erase f.middle ++ e ∷ []) (same ∙ sym n.own_is)
              ∙ sym (map-append erase f.middle (n.own ∷ []));
          count = omega (arith, f.count, length-append f.middle (n.own ∷ []));
        });
      }

  -- ---- the follower is opened again

  pub follower_again : (next_base : BaseView) (next : List Event) → Resumes next_base next follower_base follower (length follower) → ArePrefix leader_base leader next_base next
  follower_again next_base next r =
      let f = following in
      let front : List Event = take r.skipped follower in
      let rest : List Event = drop r.skipped follower in
      let both : map erase f.middle ≡ map erase front ++ map erase rest = sym f.same ∙ ap (map erase) (sym (take-append-drop r.skipped follower)) ∙ map-append erase front rest in
      let cut = part f.middle (map erase front) (map erase rest) both in
      let next_is : next ≡ map erase rest = r.events_are ∙ ap (λ (es : List Event). map erase (drop r.skipped es)) (take_all (length follower) follower (omega arith)) in
      record {
        base = p.base;
        events = p.events;
        kept = p.kept;
        leads = p.leads;
        follows = resumed next_base next p.base p.events p.kept (record {
          before = f.before ++ cut.first;
          middle = cut.second;
          after = f.after;
          parts = f.parts ∙ ap (λ (es : List Event). es ++ f.after) (ap (λ (es : List Event). f.before ++ es) cut.parts ∙ sym (append_assoc f.before cut.first cut.second));
          base_is =
              r.base_is ∙ same_state follower_base front cut.first (sym cut.first_is) ∙ ap (λ (b : BaseView). replay b cut.first) f.base_is ∙ sym (replay-append p.base f.before cut.first);
          same = ap (map erase) next_is ∙ erased_again rest ∙ sym cut.second_is;
          count = omega (arith, f.count, ap length cut.parts, length-append cut.first cut.second, length-append f.before cut.first);
        });
      }
