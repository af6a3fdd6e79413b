-- Each entry that was added by 9P2000 has its message, and without messages nothing is added.
use Rattle.std.proofs.Common.{◌≡◌, ℕ, ◌+◌, ◌-◌, ◌≤◌, List, [], ◌∷◌, ◌++◌, map, length, Option, Some, refl, sym, subst, ap, arith}
use Rattle.std.specs.Prelude.{ℤ}
use Rattle.std.specs.List.{AllByRecursion}
use Rattle.pcfs_store.specs.Entries.{Root, StoreEntry}
use Rattle.session_history.specs.Passes.{AllOfPass}
use Rattle.session_history.specs.Turn.{StorePass}
use Rattle.session_service.specs.Connections.{AreOfConnections, no_more, was_attended, was_not_attended}
use Rattle.session_service.specs.Sessions.{inputs_of}
use Rattle.nine_messages.specs.Cutting.{Cuts}
use Rattle.nine_messages.specs.Cutting as cutting
use Rattle.nine_messages.specs.Requests.{MessageView}
use Rattle.nine_messages.specs.Replies.{ReplyView}
use Rattle.nine_messages.proofs.CuttingLemmas.{next_facts}
use Rattle.nine_fids.specs.declared.connection.Connection.{Connection}
use Rattle.nine_fids.specs.States.{begun_with}
use Rattle.nine_front.specs.Asked.{IsAskedByMessage, AreAskedByMessages, IsByLogin}
use Rattle.nine_front.specs.Placed.{MessagesPlaced, no_message, one_more}
use Rattle.nine_service.specs.Passes.{NineSources, AreFirstMessages, MaySend, AreOfNine}
use Rattle.pcfs_run.specs.NineLaws.{HasMessage}
use Rattle.pcfs_run.proofs.UnsaidLemmas.{get_empty}

-- ---- the entries of a connection

module _ (sources : NineSources) (root : Root) (history : List StoreEntry) where
  messages_of_entries : (number : ℕ) (nonce : List ℕ) (from : ℕ) (messages : List MessageView) → sources.may_send number nonce messages → (entries : List StoreEntry) → AllOfPass number entries →
      AreAskedByMessages sources.gives (record { root = root; number = number }) history (begun_with nonce) from messages entries → AllByRecursion (IsByLogin sources.gives (record { root = root; number = number }) history nonce from messages) entries →
      AllByRecursion (HasMessage sources root history) entries
  messages_of_entries number nonce from messages sent [] of asked by = tt
  messages_of_entries number nonce from messages sent (entry ∷ entries) of asked by = (
    record {
      nonce = nonce;
      from = from;
      messages = messages;
      sent = subst (λ (n : ℕ). sources.may_send n nonce messages) (sym of.0) sent;
      asked = subst (λ (n : ℕ). IsAskedByMessage sources.gives (record { root = root; number = n }) history (begun_with nonce) from messages entry) (sym of.0) asked.0;
      caller = subst (λ (n : ℕ). IsByLogin sources.gives (record { root = root; number = n }) history nonce from messages entry) (sym of.0) by.0;
    },
    messages_of_entries number nonce from messages sent entries of.1 asked.1 by.1,
  )

  pub each_with_message : (attended : ℕ) (passes : List (ℕ × List StoreEntry)) → AllByRecursion (λ (p : ℕ × List StoreEntry). AllOfPass p.0 p.1) passes →
      AreOfConnections (λ (number : ℕ) (own : List StoreEntry). AreOfNine sources (record { root = root; number = number }) history own) attended passes →
      AllByRecursion (λ l. AllByRecursion (HasMessage sources root history) l) (map (λ (p : ℕ × List StoreEntry). p.1) passes)
  each_with_message _ _ own no_more = tt
  each_with_message _ _ own (was_attended count number entries passes s are) =
      (messages_of_entries number s.nonce s.from s.messages s.sent entries own.0 s.asked s.callers, each_with_message count passes own.1 are)
  each_with_message _ _ own (was_not_attended count number passes are) = (tt, each_with_message count passes own.1 are)

-- ---- without messages

not_empty : (messages : List MessageView) (m : MessageView) → messages ++ m ∷ [] ≡ [] → ⊥
not_empty [] m is = cc
not_empty (first ∷ messages) m is = cc

none_given : (gives : List StoreEntry → ℤ → Type 0) (p : StorePass) (history : List StoreEntry) (start : Connection) (from : ℕ) (messages : List MessageView) (replies : List ReplyView) (end : Connection) (to : ℕ) (given : List StoreEntry) →
    MessagesPlaced gives p history start from messages replies end to given → messages ≡ [] → given ≡ []
none_given gives p history start from _ _ _ _ _ no_message is = refl
none_given gives p history start from _ _ _ _ _ (one_more messages replies s at given m reply after to more placed here) is = absurd (not_empty messages m is)

module _ (sources : NineSources) (none_sent : (number : ℕ) (nonce : List ℕ) (messages : List MessageView) → sources.may_send number nonce messages → messages ≡ []) where
  no_entries : (p : StorePass) (history own : List StoreEntry) → AreOfNine sources p history own → own ≡ []
  no_entries p history own s = none_given sources.gives p history (begun_with s.nonce) s.from s.messages s.replies s.end s.to own s.placed (none_sent p.number s.nonce s.messages s.sent)

  pub all_unsent : (root : Root) (history : List StoreEntry) (attended : ℕ) (passes : List (ℕ × List StoreEntry)) → AreOfConnections (λ (number : ℕ) (own : List StoreEntry). AreOfNine sources (record { root = root; number = number }) history own) attended passes →
      AllByRecursion (λ l. l ≡ []) (map (λ (p : ℕ × List StoreEntry). p.1) passes)
  all_unsent root history _ _ no_more = tt
  all_unsent root history _ _ (was_attended count number own passes s are) = (no_entries (record { root = root; number = number }) history own s, all_unsent root history count passes are)
  all_unsent root history _ _ (was_not_attended count number passes are) = (refl, all_unsent root history count passes are)

-- ---- inputs that are empty

too_few : (all len rest : ℕ) → all ≡ len + rest → 7 ≤ len → all ≡ 0 → ⊥
too_few all len rest together least none = omega arith

-- no bytes begin with no message
none_of_none : (agreed : ℕ) (left : List ℕ) (messages : List MessageView) (to : ℕ) (end : List ℕ) → Cuts agreed left messages to end → left ≡ [] → messages ≡ []
none_of_none _ _ _ _ _ (cutting.none agreed left) is = refl
none_of_none _ _ _ _ _ (cutting.one_more agreed left m rest messages to end next more) is =
    let facts = next_facts agreed left rest m next in
    absurd (too_few (length left) _ (length rest) facts.together facts.least (ap length is))

first_of_none : (messages : List MessageView) → AreFirstMessages (Some []) messages → messages ≡ []
first_of_none messages first = none_of_none 65536 [] messages first.agreed first.rest first.cut refl

pub none_sent_of_empty : {I O : Type 0} (left : I → Option (List ℕ)) (connections : List (I × O)) (nonces : Option (List ℕ)) (number : ℕ) (nonce : List ℕ) (messages : List MessageView) → AllByRecursion (λ c. left c.0 ≡ Some []) connections →
    MaySend left (inputs_of left (Some connections)) nonces number nonce messages → messages ≡ []
none_sent_of_empty left connections nonces number nonce messages empty sends =
    first_of_none messages (subst (λ (told : Option (List ℕ)). AreFirstMessages told messages) (get_empty left connections (number - 1) (left sends.input) empty sends.accepted) sends.first)
