-- A message that came next is answered and taken.
use Rattle.std.proofs.Common.{◌≡◌, ◌∙◌, ◌<◌, ◌-◌, ℕ, List, [], ◌++◌, length, drop, refl, sym, ap, subst}
use Rattle.std.specs.Prelude.{ℤ}
use Rattle.tree_lock.specs.Seen.{PassView}
use Rattle.pcfs_store.specs.Entries.{StoreEntry}
use Rattle.shared_store.specs.declared.entry.LockEntry.{LockEntry}
use Rattle.session_loop.specs.declared.heard.Heard.TheVariants as heards
use Rattle.session_loop.specs.Heard.{IsAnswered, HasHeard}
use Rattle.nine_messages.specs.Requests.{MessageView}
use Rattle.nine_messages.specs.Replies.{ReplyView, reply_spelling}
use Rattle.nine_messages.specs.Cutting.{IsNext, agreed_after}
use Rattle.nine_messages.proofs.CuttingLemmas.{next_shrinks}
use Rattle.nine_fids.specs.declared.connection.Connection.{Connection}
use Rattle.nine_front.specs.declared.replying.NineReply.{NineReply}
use Rattle.nine_front.specs.Framing.{FramerState}
use Rattle.nine_front.specs.NineTalking.{nine_talking, StandsAt}
use Rattle.nine_front.specs.Said.{HasAnswered}
use Rattle.nine_front.specs.SaidLaws.{HasSaid-message}
use Rattle.nine_front.specs.Views.{reply_view_of}
use Rattle.nine_front.proofs.CutLemmas.{left_after}

-- what is so of a connection and a framer is so of the state that they are in
pub at_state : (connection s : Connection) (framer : FramerState) (agreed : ℕ) (left : List ℕ) (Q : Connection → ℕ → List ℕ → Type 0) → StandsAt connection framer s agreed left → Q connection framer.agreed framer.left → Q s agreed left
at_state connection s framer agreed left Q stands here =
    subst (λ (f : FramerState). Q s f.agreed f.left) stands.framer_is (subst (λ (c : Connection). Q c framer.agreed framer.left) stands.connection_is here)

module _ (framer after : FramerState) (m : MessageView) (rest : List ℕ) (count agreed next : ℕ) (is : IsNext framer.agreed framer.left m rest) (taken : after ≡ record { left = drop count framer.left; agreed = next }) (counted : count ≡ length framer.left - length rest) where
  rest_left : after.left ≡ rest
  rest_left = ap (λ (f : FramerState). f.left) taken ∙ left_after framer.agreed framer.left rest m count is counted

  -- fewer bytes are left
  pub fewer_left : length after.left < length framer.left
  fewer_left = subst (λ (b : List ℕ). length b < length framer.left) (sym rest_left) (next_shrinks framer.agreed framer.left rest m is)

  module _ {D : Type 0} (faults : D → ℕ) (gives : List StoreEntry → ℤ → Type 0) (s end : Connection) (old new : PassView (LockEntry D)) (reply : ReplyView) where
    pub IsAnswered-message : agreed ≡ framer.agreed → next ≡ agreed_after agreed m.request → HasAnswered faults gives s m.request old new reply end → IsAnswered (nine_talking faults gives) (StandsAt end after) s framer.agreed framer.left old new
    IsAnswered-message same agrees a =
        let size_is : next ≡ agreed_after framer.agreed m.request = agrees ∙ ap (λ (n : ℕ). agreed_after n m.request) same in
        record {
          item = m;
          after = next;
          rest = rest;
          reply = reply;
          end = end;
          next = record { next = is; agrees = size_is };
          said = HasSaid-message faults gives s m old new end reply a;
          stands = record { connection_is = refl; framer_is = taken ∙ ap (λ (b : List ℕ). let f : FramerState = record { left = b; agreed = next } in f) (left_after framer.agreed framer.left rest m count is counted) };
        }

    -- and its reply was spelled
    pub HasHeard-message : (out : List ℕ) → out ≡ reply_spelling m.tag reply → agreed ≡ framer.agreed → next ≡ agreed_after agreed m.request → HasAnswered faults gives s m.request old new reply end → HasHeard (nine_talking faults gives) (StandsAt end after) s framer.agreed framer.left old new out heards.Answered
    unfolding IsAnswered-message
    HasHeard-message out spelled same agrees a = (IsAnswered-message same agrees a, spelled)

-- the reply of a connection whose nonce stays
pub spelled_by : (out before : List ℕ) (tag : ℕ) (nonce nonce_after : List ℕ) (reply : NineReply) → before ≡ [] → nonce_after ≡ nonce → out ≡ before ++ reply_spelling tag (reply_view_of nonce_after reply) → out ≡ reply_spelling tag (reply_view_of nonce reply)
spelled_by out before tag nonce nonce_after reply empty same is =
    subst (λ (n : List ℕ). out ≡ reply_spelling tag (reply_view_of n reply)) same (is ∙ ap (λ (b : List ℕ). b ++ reply_spelling tag (reply_view_of nonce_after reply)) empty)
