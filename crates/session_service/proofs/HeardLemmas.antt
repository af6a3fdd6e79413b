-- A line that came next, or last, is answered.
use Rattle.std.proofs.Common.{◌≡◌, ◌∙◌, ◌≤◌, ℕ, Bool, List, [], ◌∷◌, length, Option, refl, sym, ap, subst}
use Rattle.std.specs.Prelude.{ℤ}
use Rattle.line_text.specs.Lines.{lines_of}
use Rattle.line_text.specs.Words.{HasNo}
use Rattle.line_framer.specs.Framing.{FramerState, IsLine}
use Rattle.line_framer.proofs.FramingLemmas.{last_line}
use Rattle.line_wire.specs.declared.reply.LineReply.{LineReply}
use Rattle.line_wire.specs.declared.reply.LineReply.TheVariants.{Stopped}
use Rattle.tree_lock.specs.Seen.{PassView}
use Rattle.pcfs_store.specs.Entries.{StoreEntry}
use Rattle.session_history.specs.SessionState.{SessionState}
use Rattle.session_lines.specs.Replied.{HasReplied}
use Rattle.session_loop.specs.declared.heard.Heard.TheVariants as heards
use Rattle.session_loop.specs.Heard.{HasHeard, IsAnswered, HasHeardLast, IsLastAnswered}
use Rattle.shared_store.specs.declared.entry.LockEntry.{LockEntry}
use Rattle.shared_store.specs.Asking.{HasSeenFault}
use Rattle.session_service.specs.LineTalking.{line_talking, reply_line, AreSaid, IsHeld, short, long, StandsAt}
use Rattle.session_service.specs.Said.{session_of}
use Rattle.session_service.specs.SaidLaws.{HasSaid-line}
use Rattle.session_service.proofs.HeldLemmas.{TakesLine, not_open}

module _ {D : Type 0} (faults : D → ℕ) (gives : List StoreEntry → ℤ → Type 0) where
  pub AreSaid-line : (state : SessionState) (line : List ℕ) (old new : PassView (LockEntry D)) (after : SessionState) (reply : LineReply) → HasReplied gives state line old new after reply → (reply ≡ Stopped → HasSeenFault faults new) → AreSaid faults gives state old new (line ∷ []) (reply ∷ []) after
  AreSaid-line state line old new after reply replied stopped = record { said = HasSaid-line faults gives state line old new after reply replied stopped; each = refl }

  module _ (nonce : List ℕ) (caller caller_after : Option (List ℕ)) (framer after : FramerState) (is_long : Bool) (left line : List ℕ) (old new : PassView (LockEntry D)) (reply : LineReply) (said : AreSaid faults gives (session_of nonce caller) old new (line ∷ []) (reply ∷ []) (session_of nonce caller_after)) where
    pub IsAnswered-line : TakesLine framer after is_long left line → IsAnswered (line_talking faults gives) (StandsAt nonce caller_after after is_long) (session_of nonce caller) tt left old new
    IsAnswered-line t = record { item = line; after = tt; rest = t.rest; reply = reply; end = session_of nonce caller_after; next = t.next; said = said; stands = record { state_is = refl; held = t.held } }

    -- and its reply was spelled
    pub HasHeard-line : (out : List ℕ) → out ≡ reply_line line reply → TakesLine framer after is_long left line → HasHeard (line_talking faults gives) (StandsAt nonce caller_after after is_long) (session_of nonce caller) tt left old new out heards.Answered
    unfolding IsAnswered-line
    HasHeard-line out spelled t = (IsAnswered-line t, spelled)

  -- ---- the last line

  module _ (start end : SessionState) (left line : List ℕ) (old new : PassView (LockEntry D)) (reply : LineReply) (said : AreSaid faults gives start old new (line ∷ []) (reply ∷ []) end) (same : line ≡ left) (one : HasNo 10 line) (some : 1 ≤ length line) where
    pub IsLastAnswered-line : IsLastAnswered (line_talking faults gives) start tt left old new
    IsLastAnswered-line = record { item = line; reply = reply; end = end; last = sym (last_line line one some) ∙ ap lines_of same; said = said }

    pub HasHeardLast-line : (out : List ℕ) → out ≡ reply_line line reply → HasHeardLast (line_talking faults gives) start tt left old new out heards.Answered
    unfolding IsLastAnswered-line
    HasHeardLast-line out spelled = (IsLastAnswered-line, spelled)

-- ---- where a session is

-- what is so of what a session holds is so of the state that it is in
pub at_state : (nonce : List ℕ) (caller : Option (List ℕ)) (framer : FramerState) (is_long : Bool) (s : SessionState) (mark : Unit {0}) (left : List ℕ) (Q : SessionState → Type 0) → StandsAt nonce caller framer is_long s mark left → Q (session_of nonce caller) → Q s
at_state nonce caller framer is_long s mark left Q stands here = subst Q stands.state_is here

at_held : (framer : FramerState) (is_long : Bool) (left : List ℕ) (Q : List ℕ → Type 0) → IsLine left → IsHeld framer is_long left → (IsLine framer.left → Q framer.left) → Q left
at_held framer is_long left Q is (short not_long all same) here =
    let bytes : framer.left ≡ left = ap (λ (f : FramerState). f.left) same in
    subst Q bytes (here (subst IsLine (sym bytes) is))
at_held framer is_long left Q is (long lines was has same) here = absurd (not_open left lines is has)

pub at_last : (nonce : List ℕ) (caller : Option (List ℕ)) (framer : FramerState) (is_long : Bool) (s : SessionState) (mark : Unit {0}) (left : List ℕ) (Q : SessionState → List ℕ → Type 0) → StandsAt nonce caller framer is_long s mark left → IsLine left →
    (IsLine framer.left → Q (session_of nonce caller) framer.left) → Q s left
at_last nonce caller framer is_long s mark left Q stands is here =
    subst (λ (state : SessionState). Q state left) stands.state_is (at_held framer is_long left (Q (session_of nonce caller)) is stands.held here)
