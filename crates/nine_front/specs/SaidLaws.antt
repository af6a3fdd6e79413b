-- The laws of messages that are said, for the place of a connection among the talks: they are
-- answered one after the other.
use Rattle.std.proofs.Common.{◌≡◌, ◌≢◌, ◌∙◌, ◌+◌, ◌⊎◌, ⊎_elim, inl, inr, ℕ, zero, suc, List, [], ◌∷◌, ◌++◌, length, refl, sym, ap, subst, arith, append_assoc, append-nil, length-append}
use Rattle.std.specs.Prelude.{ℤ}
use mathlib.Core.List.{IsPrefix}
use Rattle.tree_lock.specs.Seen.{PassView}
use Rattle.tree_lock.proofs.EntryLemmas.{prefix_trans}
use Rattle.pcfs_store.specs.Entries.{StoreEntry}
use Rattle.pcfs_store.specs.StoreView.{StoreView}
use Rattle.session_history.specs.Turn.{StorePass}
use Rattle.shared_store.specs.declared.entry.LockEntry.{LockEntry}
use Rattle.shared_store.specs.LockHistory.{lock_history}
use Rattle.shared_store.specs.Turning.{pass_at}
use Rattle.shared_store.specs.Asking.{entries_seen, HasHistory}
use Rattle.shared_store.proofs.AskingLemmas.{seen_later}
use Rattle.session_lines.proofs.DoneLemmas.{stays, goes_further}
use Rattle.session_lines.proofs.TurnCountLemmas.{no_turn, turns_then}
use Rattle.nine_messages.specs.Requests.{MessageView}
use Rattle.nine_messages.specs.Replies.{ReplyView}
use Rattle.nine_fids.specs.declared.connection.Connection.{Connection}
use Rattle.nine_fids.specs.States.{begun_with}
use Rattle.nine_front.specs.Placed.{MessagesPlaced, no_message, one_more}
use Rattle.nine_front.specs.Turns.{message_turns, messages_turns}
use Rattle.nine_front.specs.Said.{IsStopped, SaysStopped, IsPlacedFrom, HasAnswered, AreAnswered, none_yet, next_one, AreSaidFrom, HasSaid, Speaks}

-- ---- in a history

module _ (gives : List StoreEntry → ℤ → Type 0) (p : StorePass) (history : List StoreEntry) (start : Connection) (from : ℕ) where
  -- these messages, in so many turns
  abbrev pub ArePlaced : List MessageView → List ReplyView → Connection → ℕ → List StoreEntry → ℕ →
      Type 0
  ArePlaced messages replies end to given count = (all : MessagesPlaced gives p history start from messages replies end to given) ×
      (length (messages_turns all) ≡ count)

  -- the same messages, said otherwise
  as_messages : (messages also : List MessageView) (replies others : List ReplyView) (end : Connection) (to : ℕ) (given added : List StoreEntry)
      (count : ℕ) → messages ≡ also → replies ≡ others → given ≡ added →
      ArePlaced messages replies end to given count → ArePlaced also others end to added count
  as_messages messages also replies others end to given added count one two three placed =
      subst (λ (l : List MessageView). ArePlaced l others end to added count) one
      (subst (λ (a : List ReplyView). ArePlaced messages a end to added count) two
      (subst (λ (g : List StoreEntry). ArePlaced messages replies end to g count) three placed))

  -- more messages after messages
  pub ArePlaced-then : (messages : List MessageView) (replies : List ReplyView) (mid : Connection) (at : ℕ) (given : List StoreEntry) (count : ℕ)
      (others : List MessageView) (more : List ReplyView) (end : Connection) (to : ℕ) (added : List StoreEntry) →
      ArePlaced messages replies mid at given count →
      (later : MessagesPlaced gives p history mid at others more end to added) →
      ArePlaced (messages ++ others) (replies ++ more) end to (given ++ added) (count + length (messages_turns later))
  ArePlaced-then messages replies mid at given count _ _ _ _ _ first no_message =
      as_messages messages (messages ++ []) replies (replies ++ []) mid at given (given ++ []) (count + 0) (sym (append-nil messages))
      (sym (append-nil replies)) (sym (append-nil given)) (first.0, omega (arith, first.1))
  ArePlaced-then messages replies mid at given count _ _ _ _ _ first (one_more others more s then_at added m reply after to last placed here) =
      let both = ArePlaced-then messages replies mid at given count others more s then_at added first placed in
      as_messages ((messages ++ others) ++ m ∷ []) (messages ++ (others ++ m ∷ [])) ((replies ++ more) ++ reply ∷ [])
      (replies ++ (more ++ reply ∷ [])) after to ((given ++ added) ++ last) (given ++ (added ++ last))
      (count + length (messages_turns placed ++ message_turns here)) (append_assoc messages others (m ∷ [])) (append_assoc replies more (reply ∷ []))
      (append_assoc given added last) (
        one_more (messages ++ others) (replies ++ more) s then_at (given ++ added) m reply after to last both.0 here,
        omega (arith, both.1, length-append (messages_turns both.0) (message_turns here), length-append (messages_turns placed) (message_turns here)),
      )

-- ---- that the store is stopped

only_stopped : (reply : ReplyView) → SaysStopped (reply ∷ []) → IsStopped reply
only_stopped reply (inl is) = is
only_stopped reply (inr none) = absurd none

either_stopped : (replies more : List ReplyView) → SaysStopped (replies ++ more) →
    SaysStopped replies ⊎ SaysStopped more
either_stopped [] more says = inr says
either_stopped (reply ∷ replies) more (inl is) = inl (inl is)
either_stopped (reply ∷ replies) more (inr says) = ⊎_elim (λ (first : SaysStopped replies). inl (inr first)) (λ (other : SaysStopped more). inr other)
    (either_stopped replies more says)

-- ---- under a pass

module _ {D : Type 0} (faults : D → ℕ) (gives : List StoreEntry → ℤ → Type 0) where
  -- ---- each at its own moments

  -- the same messages, said otherwise
  as_answered : (start : Connection) (old : PassView (LockEntry D)) (messages also : List MessageView) (replies others : List ReplyView) (end : Connection)
      (new : PassView (LockEntry D)) → messages ≡ also → replies ≡ others →
      AreAnswered faults gives start old messages replies end new →
      AreAnswered faults gives start old also others end new
  as_answered start old messages also replies others end new one two all =
      subst (λ (l : List MessageView). AreAnswered faults gives start old l others end new) one
      (subst (λ (a : List ReplyView). AreAnswered faults gives start old messages a end new) two all)

  -- more messages after messages
  AreAnswered-then : (start : Connection) (old : PassView (LockEntry D)) (messages : List MessageView) (replies : List ReplyView) (mid : Connection)
      (between : PassView (LockEntry D)) (others : List MessageView) (more : List ReplyView) (end : Connection) (new : PassView (LockEntry D)) →
      AreAnswered faults gives start old messages replies mid between →
      AreAnswered faults gives mid between others more end new →
      AreAnswered faults gives start old (messages ++ others) (replies ++ more) end new
  AreAnswered-then start old messages replies mid between _ _ _ _ first none_yet =
      as_answered start old messages (messages ++ []) replies (replies ++ []) mid between (sym (append-nil messages)) (sym (append-nil replies)) first
  AreAnswered-then start old messages replies mid between _ _ _ _ first (next_one others more s at m reply after new before here) =
      as_answered start old ((messages ++ others) ++ m ∷ []) (messages ++ (others ++ m ∷ [])) ((replies ++ more) ++ reply ∷ [])
      (replies ++ (more ++ reply ∷ [])) after new
      (append_assoc messages others (m ∷ [])) (append_assoc replies more (reply ∷ []))
      (next_one (messages ++ others) (replies ++ more) s at m reply after new
      (AreAnswered-then start old messages replies mid between others more s at first before) here)

  -- ---- the last turn

  -- where the turns of both came, if there are any
  came_then : (further count at to seen seen_after : ℕ) → (count ≢ 0 → at ≡ seen) →
      (further ≢ 0 → to ≡ seen_after) → (further ≡ 0 → to ≡ at) →
      (further ≡ 0 → seen_after ≡ seen) → count + further ≢ 0 → to ≡ seen_after
  came_then zero count at to seen seen_after first later still same some = still refl ∙ first (λ none. some (omega (arith, none))) ∙ sym (same refl)
  came_then (suc n) count at to seen seen_after first later still same some = later (λ none. absurd (omega (arith, none)))

  -- what the pass has seen then
  known_then : (further count : ℕ) (between new : PassView (LockEntry D)) →
      (count ≢ 0 → (opening : StoreView D) × HasHistory opening between) →
      (further ≢ 0 → (opening : StoreView D) × HasHistory opening new) →
      ((opening : StoreView D) → HasHistory opening between → HasHistory opening new) →
      count + further ≢ 0 → (opening : StoreView D) × HasHistory opening new
  known_then zero count between new first later on some = let seen = first (λ none. some (omega (arith, none))) in (seen.0, on seen.0 seen.1)
  known_then (suc n) count between new first later on some = later (λ none. absurd (omega (arith, none)))

  -- ---- one after the other

  pub HasSaid-none : (s : Connection) (pass : PassView (LockEntry D)) →
      HasSaid faults gives s pass pass [] [] s
  HasSaid-none s pass =
      record {
        given = [];
        goes_on = stays pass;
        count = 0;
        turns = no_turn 0 pass.turns;
        known = λ some. absurd (some refl);
        still = λ none. refl;
        placed = λ from within. record {
          to = from;
          within = within;
          latest = λ some. absurd (some refl);
          still = λ none. refl;
          placed = λ opening entries begins. (no_message, refl);
        };
        each = refl;
        stopped = λ says. absurd says;
        answered = none_yet;
      }

  said_message : (s : Connection) (m : MessageView) (old new : PassView (LockEntry D)) (after : Connection) (reply : ReplyView) (given : List StoreEntry)
      (count from : ℕ) →
      IsPlacedFrom faults gives s m.request old new reply after given count from →
      AreSaidFrom faults gives s old new (m ∷ []) (reply ∷ []) after given count from
  said_message s m old new after reply given count from at = record {
    to = at.to;
    within = at.within;
    latest = at.latest;
    still = at.still;
    placed = λ opening entries begins.
        let one = at.placed opening entries begins in
        (one_more [] [] s from [] m reply after at.to given no_message one.0, one.1);
  }

  pub HasSaid-message : (s : Connection) (m : MessageView) (old new : PassView (LockEntry D)) (after : Connection) (reply : ReplyView) →
      HasAnswered faults gives s m.request old new reply after →
      HasSaid faults gives s old new (m ∷ []) (reply ∷ []) after
  HasSaid-message s m old new after reply a =
      record {
        given = a.given;
        goes_on = a.goes_on;
        count = a.count;
        turns = a.turns;
        known = a.known;
        still = a.still;
        placed = λ from within. said_message s m old new after reply a.given a.count from (a.placed from within);
        each = refl;
        stopped = λ says. a.stopped (only_stopped reply says);
        answered = next_one [] [] s old m reply after new none_yet a;
      }

  module _ (start mid end : Connection) (old between new : PassView (LockEntry D)) (messages others : List MessageView) (replies more : List ReplyView) where
    said_then : (given added : List StoreEntry) (count further from : ℕ) →
        between.number ≡ old.number → IsPrefix between.seen new.seen →
        (further ≡ 0 → new ≡ between) →
        (a : AreSaidFrom faults gives start old between messages replies mid given count from) →
        AreSaidFrom faults gives mid between new others more end added further a.to →
        AreSaidFrom faults gives start old new (messages ++ others) (replies ++ more) end (given ++ added) (count + further) from
    said_then given added count further from same seen stands a b = record {
      to = b.to;
      within = b.within;
      latest = came_then further count a.to b.to (entries_seen between) (entries_seen new) a.latest b.latest b.still
          (λ none. ap (λ (p : PassView (LockEntry D)). entries_seen p) (stands none));
      still = λ none. b.still (omega (arith, none)) ∙ a.still (omega (arith, none));
      placed = λ opening entries begins.
          let later =
          subst (λ (n : ℕ). (all : MessagesPlaced gives (pass_at opening n) entries mid a.to others more end b.to added) ×
          (length (messages_turns all) ≡ further)) same (b.placed opening entries begins) in
          let all =
          ArePlaced-then gives (pass_at opening old.number) entries start from messages replies mid a.to given count others more end b.to added
          (a.placed opening entries (prefix_trans between.seen new.seen (lock_history opening entries) seen begins)) later.0 in
          (all.0, omega (arith, all.1, later.1));
    }

    pub HasSaid-then : HasSaid faults gives start old between messages replies mid →
        HasSaid faults gives mid between new others more end →
        HasSaid faults gives start old new (messages ++ others) (replies ++ more) end
    HasSaid-then one other = record {
      given = one.given ++ other.given;
      goes_on = goes_further old between new one.given other.given one.goes_on other.goes_on;
      count = one.count + other.count;
      turns = turns_then one.count other.count one.count other.count old.turns between.turns new.turns one.turns other.turns;
      known = known_then other.count one.count between new one.known other.known other.goes_on.history;
      still = λ none. other.still (omega (arith, none)) ∙ one.still (omega (arith, none));
      placed = λ from within. said_then one.given other.given one.count other.count from one.goes_on.number other.goes_on.seen other.still
          (one.placed from within) (other.placed (one.placed from within).to (one.placed from within).within);
      each = omega (arith, one.each, other.each, length-append messages others, length-append replies more);
      stopped = λ says. ⊎_elim (λ (first : SaysStopped replies). seen_later faults between new other.goes_on.seen (one.stopped first)) other.stopped
          (either_stopped replies more says);
      answered = AreAnswered-then start old messages replies mid between others more end new one.answered other.answered;
    }

  -- a connection that begins under the pass
  pub Speaks-said : (nonce : List ℕ) (end : Connection) (old new : PassView (LockEntry D)) (messages : List MessageView) (replies : List ReplyView) →
      HasSaid faults gives (begun_with nonce) old new messages replies end →
      Speaks faults gives nonce old new messages replies
  Speaks-said nonce end old new messages replies said =
      let all = said.placed (entries_seen old) (omega arith) in
      record {
        end = end;
        to = all.to;
        within = all.within;
        given = said.given;
        goes_on = said.goes_on;
        count = said.count;
        turns = said.turns;
        placed = all.placed;
        each = said.each;
        stopped = said.stopped;
        latest = all.latest;
        known = said.known;
        still = said.still;
        answered = said.answered;
      }
