-- What becomes of a walk, name by name.
use Rattle.std.proofs.Common.{◌≡◌, ◌∙◌, ◌+◌, inl, inr, ◌≤◌, ℕ, Bool, List, [], ◌∷◌, ◌++◌, length, Option, Some, None, IsSome, IfSome, unwrap_or, refl, sym, ap, subst, arith, append_assoc, append-nil}
use Rattle.std.specs.Prelude.{ℤ}
use Rattle.std.proofs.lemmas.List.{length-map}
use Rattle.std.proofs.lemmas.Bool.{false≢true}
use Rattle.std.proofs.lemmas.Option.{none-some}
use Rattle.tree_lock.specs.Seen.{PassView}
use Rattle.tree_lock.proofs.EntryLemmas.{prefix_trans}
use Rattle.bl_syntax.specs.declared.terms.NodeId.{NodeId}
use Rattle.bl_syntax.specs.declared.terms.Perm.{Perm}
use Rattle.bl_syntax.specs.declared.terms.Perm.TheVariants as perms
use Rattle.procap.specs.declared.procap.Procap.{Procap}
use Rattle.line_wire.specs.declared.reply.LineReply.{LineReply}
use Rattle.line_wire.specs.declared.reply.LineReply.TheVariants as lines
use Rattle.line_wire.specs.ReplyText.{reply_text}
use Rattle.pcfs_store.specs.Entries.{StoreEntry}
use Rattle.session_history.specs.declared.request.TurnRequest.{TurnRequest}
use Rattle.session_history.specs.declared.reply.TurnReply.{TurnReply}
use Rattle.session_history.specs.Turn.{StorePass}
use Rattle.session_history.specs.Placed.{IsReplyOf}
use Rattle.shared_store.specs.declared.entry.LockEntry.{LockEntry}
use Rattle.shared_store.specs.LockHistory.{lock_history}
use Rattle.shared_store.specs.Turning.{pass_at}
use Rattle.shared_store.specs.Asking.{entries_seen, HasSeenFault}
use Rattle.shared_store.specs.Looking.{node_named, LookPlaced}
use Rattle.session_lines.proofs.DoneLemmas.{stays, goes_further}
use Rattle.session_lines.proofs.TurnCountLemmas.{no_turn, one_turn, turns_then}
use Rattle.nine_messages.specs.Requests.{twalk, IsText}
use Rattle.nine_messages.specs.Replies.{ReplyView, rversion, rattach, rflush, rwalk, ropen, rread, rwrite, rclunk, rerror, IsWritableReply}
use Rattle.nine_fids.specs.declared.error.NineError.TheVariants as errors
use Rattle.nine_fids.specs.declared.fid.FidFile.{FidFile}
use Rattle.nine_fids.specs.declared.fid.FidFile.TheVariants as files
use Rattle.nine_fids.specs.declared.step.Step.TheVariants as steps
use Rattle.nine_fids.specs.declared.connection.Connection.{Connection}
use Rattle.nine_fids.specs.Errors.{error_text}
use Rattle.nine_fids.specs.Files.{qid_of}
use Rattle.nine_fids.specs.Purse.{fitting}
use Rattle.nine_fids.specs.Tests.{fitting_of}
use Rattle.nine_fids.specs.Walks.{walked}
use Rattle.nine_front.specs.Asking.{look_of}
use Rattle.nine_front.specs.Placed.{WalksPlaced, all_found, goes_on, ends, no_procap, lacks_memory, walk_reply, walks}
use Rattle.nine_front.specs.Said.{IsStopped, HasAnswered}
use Rattle.nine_front.specs.declared.replying.WalkError.{WalkError}
use Rattle.nine_front.specs.Views.{walk_error_text, walk_end}
use Rattle.nine_front.specs.Turns.{walk_turns}
use Rattle.nine_front.specs.Walked.{IsLatest, MayHaveLooked, HasFound, HasWalked, ComesTo}
use Rattle.nine_front.proofs.StepLemmas.{walk_decided}
use Rattle.nine_front.proofs.AnsweredLemmas.{seen_history}

abbrev error_in : ReplyView → Option (List ℕ)
error_in (rversion msize version) = None
error_in (rattach qid) = None
error_in rflush = None
error_in (rwalk qids) = None
error_in (ropen qid) = None
error_in (rread bytes) = None
error_in (rwrite count) = None
error_in rclunk = None
error_in (rerror ename) = Some ename

-- only an error of the first name says that the store is stopped
walk_stopped : (found : List FidFile) (end : Option (List ℕ)) → IsStopped (walk_reply found end) → end ≡ Some (reply_text lines.Stopped)
walk_stopped [] (Some error) is = ap error_in is
walk_stopped [] None is = absurd (none-some _ (ap error_in is))
walk_stopped (file ∷ found) end is = absurd (none-some _ (ap error_in is))

-- a turn that told a kind is not before an earlier place
look_earlier : (gives : List StoreEntry → ℤ → Type 0) (p : StorePass) (history : List StoreEntry) (from at : ℕ) (request : TurnRequest) (reply : TurnReply) (kind : Bool) (to : ℕ) (given : List StoreEntry) → from ≤ at → LookPlaced gives p history at request reply kind to given → LookPlaced gives p history from request reply kind to given
look_earlier gives p history from at request reply kind to given before l =
    let t = l.placed in
    record {
      placed = record { before = t.before; after = t.after; parts = t.parts; not_earlier = omega (arith, before, t.not_earlier); place = t.place; turn = t.turn };
      told = l.told;
    }

-- where a walk came that took a turn, or that goes on from a turn
latest_turn : {D : Type 0} (old new : PassView (LockEntry D)) (count from to : ℕ) → (count ≡ 0 → ⊥) → IsLatest old new count from to → to ≡ entries_seen new
latest_turn old new count from to some (inl is) = is
latest_turn old new count from to some (inr none) = absurd (some none.0)

came_last : {D : Type 0} (mid new : PassView (LockEntry D)) (count to : ℕ) → IsLatest mid new count (entries_seen mid) to → to ≡ entries_seen new
came_last mid new count to (inl is) = is
came_last {D} mid new count to (inr none) = none.1.1 ∙ ap (λ (p : PassView (LockEntry D)). entries_seen p) (sym none.1.0)

module _ {D : Type 0} (gives : List StoreEntry → ℤ → Type 0) (purse : List Procap) (who : List ℕ) where
  -- all names were found
  pub walked_all : (node : NodeId) (old : PassView (LockEntry D)) → HasWalked gives purse who old old node [] [] None
  walked_all node old = record {
    given = [];
    goes_on = stays old;
    count = 0;
    turns = no_turn 0 old.turns;
    known = λ some. absurd (some refl);
    still = λ none. refl;
    placed = λ from within. record { to = from; within = within; latest = inr (refl, (refl, refl)); still = λ none. refl; placed = λ opening entries begins. (all_found from node, refl) };
  }

  -- no procap fits
  pub walked_to_no_procap : (node : NodeId) (name : List ℕ) (names : List (List ℕ)) (old : PassView (LockEntry D)) → fitting purse who node perms.Execute ≡ None → HasWalked gives purse who old old node (name ∷ names) [] (Some (error_text errors.NoProcap))
  walked_to_no_procap node name names old none = record {
    given = [];
    goes_on = stays old;
    count = 0;
    turns = no_turn 0 old.turns;
    known = λ some. absurd (some refl);
    still = λ none. refl;
    placed = λ from within. record { to = from; within = within; latest = inr (refl, (refl, refl)); still = λ none. refl; placed = λ opening entries begins. (no_procap from node name names none, refl) };
  }

  -- memory ran out before the turn
  pub walked_without_memory : (node : NodeId) (name : List ℕ) (names : List (List ℕ)) (q : Procap) (old : PassView (LockEntry D)) → fitting purse who node perms.Execute ≡ Some q → HasWalked gives purse who old old node (name ∷ names) [] (Some (reply_text lines.NoMemory))
  walked_without_memory node name names q old fits = record {
    given = [];
    goes_on = stays old;
    count = 0;
    turns = no_turn 0 old.turns;
    known = λ some. absurd (some refl);
    still = λ none. refl;
    placed = λ from within. record { to = from; within = within; latest = inr (refl, (refl, refl)); still = λ none. refl; placed = λ opening entries begins. (lacks_memory from node name names q fits, refl) };
  }

  -- the turn named no node
  pub walked_to_end : (node : NodeId) (name : List ℕ) (names : List (List ℕ)) (q : Procap) (old new : PassView (LockEntry D)) (replied : TurnReply) (kind : Bool) (line : LineReply) →
      fitting purse who node perms.Execute ≡ Some q → MayHaveLooked gives (look_of who node name q) old new replied kind → node_named replied ≡ None → IsReplyOf replied line → HasWalked gives purse who old new node (name ∷ names) [] (Some (reply_text line))
  walked_to_end node name names q old new replied kind line fits (inl l) none says = record {
    given = l.asked.given;
    goes_on = l.asked.goes_on;
    count = 1;
    turns = one_turn old.turns new.turns l.asked.turns;
    known = λ some. seen_history gives (look_of who node name q) old new replied l.asked;
    still = λ none. absurd (omega (arith, none));
    placed = λ from within. record {
      to = entries_seen new;
      within = omega arith;
      latest = inl refl;
      still = λ none. absurd (omega (arith, none));
      placed = λ opening entries begins. (
        ends from (entries_seen new) node name names q replied kind line l.asked.given fits
            (look_earlier gives (pass_at opening old.number) entries from (entries_seen old) (look_of who node name q) replied kind (entries_seen new) l.asked.given within (l.placed opening entries begins)) none says,
        refl,
      );
    };
  }
  walked_to_end node name names q old new replied kind line fits (inr lacks) none says =
      let told : line ≡ lines.NoMemory = subst (λ (r : TurnReply). IsReplyOf r line) lacks.1 says in
      subst (λ (l : LineReply). HasWalked gives purse who old new node (name ∷ names) [] (Some (reply_text l))) (sym told)
      (subst (λ (n : PassView (LockEntry D)). HasWalked gives purse who old n node (name ∷ names) [] (Some (reply_text lines.NoMemory))) (sym lacks.0) (walked_without_memory node name names q old fits))

  -- the turn named a node
  pub found_node : (node child : NodeId) (name : List ℕ) (q : Procap) (old new : PassView (LockEntry D)) (replied : TurnReply) (kind : Bool) →
      fitting purse who node perms.Execute ≡ Some q → MayHaveLooked gives (look_of who node name q) old new replied kind → node_named replied ≡ Some child → HasFound gives purse who old new node name child kind
  found_node node child name q old new replied kind fits (inl l) named = record { procap = q; fits = fits; replied = replied; looked = l; named = named }
  found_node node child name q old new replied kind fits (inr lacks) named =
      absurd (none-some child (subst (λ (r : TurnReply). node_named r ≡ Some child) lacks.1 named))

  -- and the walk went on from it
  pub walked_on : (node child : NodeId) (name : List ℕ) (names : List (List ℕ)) (kind : Bool) (found : List FidFile) (end : Option (List ℕ)) (old mid new : PassView (LockEntry D)) →
      HasFound gives purse who old mid node name child kind → HasWalked gives purse who mid new child names found end → HasWalked gives purse who old new node (name ∷ names) (files.Node child kind ∷ found) end
  walked_on node child name names kind found end old mid new f w =
      let a = f.looked.asked in
      let rest = w.placed (entries_seen mid) (omega arith) in
      record {
        given = a.given ++ w.given;
        goes_on = goes_further old mid new a.given w.given a.goes_on w.goes_on;
        count = 1 + w.count;
        turns = turns_then 1 w.count 1 w.count old.turns mid.turns new.turns (one_turn old.turns mid.turns a.turns) w.turns;
        known = λ some.
            let seen = seen_history gives (look_of who node name f.procap) old mid f.replied a in
            (seen.0, w.goes_on.history seen.0 seen.1);
        still = λ none. absurd (omega (arith, none));
        placed = λ from within. record {
          to = rest.to;
          within = rest.within;
          latest = inl (came_last mid new w.count rest.to rest.latest);
          still = λ none. absurd (omega (arith, none));
          placed = λ opening entries begins.
              let left =
              subst (λ (n : ℕ). (walk : WalksPlaced gives (pass_at opening n) entries purse who (entries_seen mid) child names found end rest.to w.given) × (length (walk_turns walk) ≡ w.count))
              a.goes_on.number (rest.placed opening entries begins) in (
                goes_on from (entries_seen mid) rest.to node child name names f.procap f.replied kind found end a.given w.given f.fits
                    (look_earlier gives (pass_at opening old.number) entries from (entries_seen old) (look_of who node name f.procap) f.replied kind (entries_seen mid) a.given within
                    (f.looked.placed opening entries (prefix_trans mid.seen new.seen (lock_history opening entries) w.goes_on.seen begins)))
                    f.named left.0,
                omega (arith, left.1),
              );
        };
      }

module _ {D : Type 0} (faults : D → ℕ) (gives : List StoreEntry → ℤ → Type 0) (s : Connection) where
  -- a walk was made
  pub answered_by_walk : (fid newfid : ℕ) (names : List (List ℕ)) (node : NodeId) (who : List ℕ) (found : List FidFile) (end : Option (List ℕ)) (old new : PassView (LockEntry D)) →
      ComesTo s (twalk fid newfid names) (steps.Walk node) → s.caller ≡ Some who → HasWalked gives s.purse who old new node names found end → (end ≡ Some (reply_text lines.Stopped) → HasSeenFault faults new) →
      HasAnswered faults gives s (twalk fid newfid names) old new (walk_reply found end) (walked s newfid (length names) found)
  answered_by_walk fid newfid names node who found end old new c caller w fault = record {
    given = w.given;
    goes_on = w.goes_on;
    count = w.count;
    turns = w.turns;
    known = w.known;
    still = w.still;
    placed = λ from within.
        let p = w.placed from within in
        record {
          to = p.to;
          within = p.within;
          latest = λ some. latest_turn old new w.count from p.to some p.latest;
          still = p.still;
          placed = λ opening entries begins.
              let walk = p.placed opening entries begins in
              (walks fid newfid names node who found end p.to w.given refl (walk_decided s fid newfid names node c) caller walk.0, walk.1);
        };
    stopped = λ is. fault (walk_stopped found end is);
  }

-- the reply to a walk of at most 16 names fits
pub walk_fits : (found : List FidFile) (end : Option (List ℕ)) → length found ≤ 16 → ((error : List ℕ) → end ≡ Some error → IsText error) → IsWritableReply (walk_reply found end)
walk_fits [] (Some error) few fits = fits error refl
walk_fits [] None few fits = omega arith
walk_fits (file ∷ found) end few fits = omega (arith, few, length-map (file ∷ found) qid_of)

-- ---- as the code does it

-- what fits who is logged in
pub fitting_somebody : (s : Connection) (who : List ℕ) (node : NodeId) (permission : Perm) (found : Option Procap) → s.caller ≡ Some who → found ≡ fitting_of s s.caller node permission → fitting s.purse who node permission ≡ found
fitting_somebody s who node permission found caller is = sym (is ∙ ap (λ (c : Option (List ℕ)). fitting_of s c node permission) caller)

some_procap : (found : Option Procap) → IsSome found → (q : Procap) × (found ≡ Some q)
some_procap None some = absurd (false≢true some)
some_procap (Some q) some = (q, refl)

pub fitting_there : (s : Connection) (who : List ℕ) (node : NodeId) (permission : Perm) → s.caller ≡ Some who → IsSome (fitting_of s s.caller node permission) → (q : Procap) × (fitting s.purse who node permission ≡ Some q)
fitting_there s who node permission caller some =
    let found = some_procap (fitting_of s s.caller node permission) some in
    (found.0, fitting_somebody s who node permission (Some found.0) caller (sym found.1))

-- the text with which a walk ended early
pub no_end : (text : List ℕ) → walk_end None ≡ Some text → ⊥
no_end text is = none-some text is

pub end_is : (error : WalkError) (text : List ℕ) → walk_end (Some error) ≡ Some text → walk_error_text error ≡ text
end_is error text is = ap (λ (o : Option (List ℕ)). unwrap_or o []) is

-- it fits
pub end_fits : (end : Option WalkError) → IfSome end (λ e. IsText (walk_error_text e)) → (error : List ℕ) → walk_end end ≡ Some error → IsText error
end_fits None fits error is = absurd (none-some error is)
end_fits (Some e) fits error is = let same : walk_error_text e ≡ error = ap (λ (o : Option (List ℕ)). unwrap_or o []) is in subst IsText same fits

module _ {D : Type 0} (faults : D → ℕ) (gives : List StoreEntry → ℤ → Type 0) (s : Connection) (fid newfid : ℕ) (names : List (List ℕ)) (node : NodeId) where
  pub was_walked : (who : List ℕ) (start found others seen : List FidFile) (end : Option (List ℕ)) (count : ℕ) (old new : PassView (LockEntry D)) (after : Connection) →
      ComesTo s (twalk fid newfid names) (steps.Walk node) → s.caller ≡ Some who → start ≡ [] → found ≡ start ++ others → HasWalked gives s.purse who old new node names others end →
      (end ≡ Some (reply_text lines.Stopped) → HasSeenFault faults new) → count ≡ length names → seen ≡ found → after ≡ walked s newfid count seen →
      HasAnswered faults gives s (twalk fid newfid names) old new (walk_reply found end) after
  was_walked who start found others seen end count old new after c caller none is w fault counts same later =
      let all : found ≡ others = is ∙ ap (λ (l : List FidFile). l ++ others) none in
      let made : after ≡ walked s newfid (length names) found = later ∙ ap (λ (n : ℕ). walked s newfid n seen) counts ∙ ap (walked s newfid (length names)) same in
      subst (λ (a : Connection). HasAnswered faults gives s (twalk fid newfid names) old new (walk_reply found end) a) (sym made)
      (answered_by_walk faults gives s fid newfid names node who found end old new c caller (subst (λ (l : List FidFile). HasWalked gives s.purse who old new node names l end) (sym all) w) fault)

-- the names from this one on: those that were found before, this one, and those after it
pub walked_from : {D : Type 0} (gives : List StoreEntry → ℤ → Type 0) (purse : List Procap) (who : List ℕ) (node child : NodeId) (name : List ℕ) (names whole : List (List ℕ)) (kind : Bool) (start pushed last : List FidFile) (end : Option (List ℕ)) (old mid new : PassView (LockEntry D)) →
    whole ≡ name ∷ names → pushed ≡ start ++ files.Node child kind ∷ [] → HasFound gives purse who old mid node name child kind →
    (found : List FidFile) × (last ≡ pushed ++ found) × HasWalked gives purse who mid new child names found end →
    (found : List FidFile) × (last ≡ start ++ found) × HasWalked gives purse who old new node whole found end
walked_from gives purse who node child name names whole kind start pushed last end old mid new is more f rest = (
  files.Node child kind ∷ rest.0,
  rest.1 ∙ ap (λ (l : List FidFile). l ++ rest.0) more ∙ append_assoc start (files.Node child kind ∷ []) rest.0,
  subst (λ (l : List (List ℕ)). HasWalked gives purse who old new node l (files.Node child kind ∷ rest.0) end) (sym is) (walked_on gives purse who node child name names kind rest.0 end old mid new f rest.2),
)

pub walked_no_further : {D : Type 0} (gives : List StoreEntry → ℤ → Type 0) (purse : List Procap) (who : List ℕ) (node : NodeId) (name : List ℕ) (names whole : List (List ℕ)) (start : List FidFile) (error : List ℕ) (old new : PassView (LockEntry D)) →
    whole ≡ name ∷ names → ((others : List (List ℕ)) → HasWalked gives purse who old new node (name ∷ others) [] (Some error)) →
    (found : List FidFile) × (start ≡ start ++ found) × HasWalked gives purse who old new node whole found (Some error)
walked_no_further gives purse who node name names whole start error old new is walks_none =
    ([], sym (append-nil start), subst (λ (l : List (List ℕ)). HasWalked gives purse who old new node l [] (Some error)) (sym is) (walks_none names))

pub walked_nowhere : {D : Type 0} (gives : List StoreEntry → ℤ → Type 0) (purse : List Procap) (who : List ℕ) (node : NodeId) (whole : List (List ℕ)) (start : List FidFile) (old : PassView (LockEntry D)) →
    whole ≡ [] → (found : List FidFile) × (start ≡ start ++ found) × HasWalked gives purse who old old node whole found None
walked_nowhere gives purse who node whole start old is =
    ([], sym (append-nil start), subst (λ (l : List (List ℕ)). HasWalked gives purse who old old node l [] None) (sym is) (walked_all gives purse who node old))

-- a turn does not change the lock
pub looked_lock : {D : Type 0} (gives : List StoreEntry → ℤ → Type 0) (request : TurnRequest) (old new : PassView (LockEntry D)) (replied : TurnReply) (kind : Bool) → MayHaveLooked gives request old new replied kind → new.lock ≡ old.lock
looked_lock {D} gives request old new replied kind (inl l) = l.asked.goes_on.lock
looked_lock {D} gives request old new replied kind (inr none) = ap (λ (p : PassView (LockEntry D)). p.lock) none.0
