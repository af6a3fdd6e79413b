-- At given turns a message has one end, if memory does not run out before one of them.
use Rattle.std.proofs.Common.{◌≡◌, ◌∙◌, ℕ, List, [], ◌∷◌, ◌++◌, length, Bool, false, Option, Some, None, refl, sym, ap, ap₂, subst}
use Rattle.std.specs.Prelude.{ℤ}
use Rattle.std.proofs.lemmas.Option.{none-some}
use Rattle.bl_syntax.specs.declared.terms.NodeId.{NodeId}
use Rattle.procap.specs.declared.procap.Procap.{Procap}
use Rattle.line_wire.specs.declared.reply.LineReply.{LineReply}
use Rattle.line_wire.specs.ReplyText.{reply_text}
use Rattle.pcfs_store.specs.Entries.{StoreEntry}
use Rattle.session_history.specs.declared.request.TurnRequest.{TurnRequest}
use Rattle.session_history.specs.declared.reply.TurnReply.{TurnReply}
use Rattle.session_history.specs.declared.reply.TurnReply.TheVariants as turn_replies
use Rattle.session_history.specs.Turn.{StorePass}
use Rattle.session_history.specs.Placed.{IsReplyOf}
use Rattle.shared_store.specs.Looking.{node_named}
use Rattle.nine_messages.specs.Requests.{RequestView, twalk}
use Rattle.nine_messages.specs.Replies.{ReplyView, rerror}
use Rattle.nine_fids.specs.declared.connection.Connection.{Connection}
use Rattle.nine_fids.specs.declared.control.Control.{Control}
use Rattle.nine_fids.specs.declared.error.NineError.{NineError}
use Rattle.nine_fids.specs.declared.fid.FidFile.{FidFile}
use Rattle.nine_fids.specs.declared.fid.FidFile.TheVariants as files
use Rattle.nine_fids.specs.declared.step.Answer.{Answer}
use Rattle.nine_fids.specs.declared.step.Step.{Step}
use Rattle.nine_fids.specs.declared.step.Step.TheVariants as steps
use Rattle.nine_fids.specs.Errors.{error_text}
use Rattle.nine_fids.specs.Steps.{Outcome, answer_view, decided}
use Rattle.nine_fids.specs.Tests.{IsAskedBy}
use Rattle.nine_fids.specs.Walks.{walked}
use Rattle.nine_front.specs.Asking.{bytes_of, IsTurnOf, IsReplyTo, after_turn}
use Rattle.nine_front.specs.Placed.{WalksPlaced, all_found, goes_on, no_procap, lacks_memory, walk_reply, MessagePlaced, refused, answered, in_a_turn, walks, without_memory}
use Rattle.nine_front.specs.Placed as places
use Rattle.nine_front.specs.Turns.{TurnTold, told_by, walk_turns, WalkHadMemory, message_turns, HadMemory}
use Rattle.nine_front.proofs.OneLemmas.{asked_by_once, reply_once}

-- ---- lists of turns

first_same : (one other : TurnTold) (ones others : List TurnTold) → one ∷ ones ≡ other ∷ others → one ≡ other
first_same one other ones others same = cc

rest_same : (one other : TurnTold) (ones others : List TurnTold) → one ∷ ones ≡ other ∷ others → ones ≡ others
rest_same one other ones others same = cc

none_first : {P : Type 0} (one : TurnTold) (ones : List TurnTold) → one ∷ ones ≡ [] → P
none_first one ones same = absurd cc

line_once : (replied : TurnReply) (line other : LineReply) → IsReplyOf replied line → IsReplyOf replied other → line ≡ other
line_once (turn_replies.Step answer) line other one two = one ∙ sym two
line_once (turn_replies.Cited cites) line other one two = absurd one
line_once turn_replies.LoggedIn line other one two = one ∙ sym two
line_once turn_replies.Checkpointed line other one two = one ∙ sym two
line_once turn_replies.Full line other one two = one ∙ sym two
line_once turn_replies.Stopped line other one two = one ∙ sym two
line_once turn_replies.NoMemory line other one two = one ∙ sym two

some_once : (child other : NodeId) → Some child ≡ Some other → child ≡ other
some_once child other same = cc

abbrev outcome : Step → Connection → Outcome
outcome step after = (step, after)

module _ (gives : List StoreEntry → ℤ → Type 0) (p : StorePass) (history : List StoreEntry) where
  -- ---- walks

  record AreOneWalk (found others : List FidFile) (end stop : Option (List ℕ)) (to last : ℕ) (given more : List StoreEntry) : Type 0 where
    found_same : found ≡ others
    end_same : end ≡ stop
    to_same : to ≡ last
    given_same : given ≡ more

  module _ (purse : List Procap) (who : List ℕ) where
    walk_once : (from at : ℕ) (node other : NodeId) (names : List (List ℕ)) (found others : List FidFile) (end stop : Option (List ℕ)) (to last : ℕ) (given more : List StoreEntry)
        (one : WalksPlaced gives p history purse who from node names found end to given) (two : WalksPlaced gives p history purse who at other names others stop last more) → from ≡ at → node ≡ other →
        WalkHadMemory one → WalkHadMemory two → walk_turns one ≡ walk_turns two → AreOneWalk found others end stop to last given more
    walk_once _ _ _ _ _ _ _ _ _ _ _ _ _ (all_found from node) (all_found at other) place here had also turns = record { found_same = refl; end_same = refl; to_same = place; given_same = refl }
    walk_once _ _ _ _ _ _ _ _ _ _ _ _ _ (goes_on from at to node child name names q replied kind found end given more fits turn named rest)
        (goes_on from' at' to' node' child' _ _ q' replied' kind' found' end' given' more' fits' turn' named' rest') place here had also turns =
        let first = first_same (told_by replied kind at given) (told_by replied' kind' at' given') (walk_turns rest) (walk_turns rest') turns in
        let reply_is : replied ≡ replied' = ap (λ (t : TurnTold). t.reply) first in
        let child_is : child ≡ child' = some_once child child' (sym named ∙ ap node_named reply_is ∙ named') in
        let later = walk_once at at' child child' names found found' end end' to to' more more' rest rest' (ap (λ (t : TurnTold). t.to) first) child_is had also
        (rest_same (told_by replied kind at given) (told_by replied' kind' at' given') (walk_turns rest) (walk_turns rest') turns) in
        record {
          found_same = ap₂ (λ (f : FidFile) (fs : List FidFile). f ∷ fs) (ap₂ (λ (n : NodeId) (k : Bool). files.Node n k) child_is (ap (λ (t : TurnTold). t.kind) first)) later.found_same;
          end_same = later.end_same;
          to_same = later.to_same;
          given_same = ap₂ (λ (g h : List StoreEntry). g ++ h) (ap (λ (t : TurnTold). t.given) first) later.given_same;
        }
    walk_once _ _ _ _ _ _ _ _ _ _ _ _ _ (goes_on from at to node child name names q replied kind found end given more fits turn named rest)
        (places.ends from' to' node' _ _ q' replied' kind' line' given' fits' turn' named' is') place here had also turns =
        let first = first_same (told_by replied kind at given) (told_by replied' kind' to' given') (walk_turns rest) [] turns in
        absurd (none-some child (sym named' ∙ sym (ap node_named (ap (λ (t : TurnTold). t.reply) first)) ∙ named))
    walk_once _ _ _ _ _ _ _ _ _ _ _ _ _ (goes_on from at to node child name names q replied kind found end given more fits turn named rest) (no_procap from' node' _ _ none') place here had also turns =
        none_first (told_by replied kind at given) (walk_turns rest) turns
    walk_once _ _ _ _ _ _ _ _ _ _ _ _ _ (goes_on from at to node child name names q replied kind found end given more fits turn named rest) (lacks_memory from' node' _ _ q' fits') place here had also turns = absurd also
    walk_once _ _ _ _ _ _ _ _ _ _ _ _ _ (places.ends from to node name names q replied kind line given fits turn named is)
        (goes_on from' at' to' node' child' _ _ q' replied' kind' found' end' given' more' fits' turn' named' rest') place here had also turns =
        let first = first_same (told_by replied kind to given) (told_by replied' kind' at' given') [] (walk_turns rest') turns in
        absurd (none-some child' (sym named ∙ ap node_named (ap (λ (t : TurnTold). t.reply) first) ∙ named'))
    walk_once _ _ _ _ _ _ _ _ _ _ _ _ _ (places.ends from to node name names q replied kind line given fits turn named is)
        (places.ends from' to' node' _ _ q' replied' kind' line' given' fits' turn' named' is') place here had also turns =
        let first = first_same (told_by replied kind to given) (told_by replied' kind' to' given') [] [] turns in
        let told = subst (λ (r : TurnReply). IsReplyOf r line) (ap (λ (t : TurnTold). t.reply) first) is in
        record {
          found_same = refl;
          end_same = ap (λ (l : LineReply). Some (reply_text l)) (line_once replied' line line' told is');
          to_same = ap (λ (t : TurnTold). t.to) first;
          given_same = ap (λ (t : TurnTold). t.given) first;
        }
    walk_once _ _ _ _ _ _ _ _ _ _ _ _ _ (places.ends from to node name names q replied kind line given fits turn named is) (no_procap from' node' _ _ none') place here had also turns =
        none_first (told_by replied kind to given) [] turns
    walk_once _ _ _ _ _ _ _ _ _ _ _ _ _ (places.ends from to node name names q replied kind line given fits turn named is) (lacks_memory from' node' _ _ q' fits') place here had also turns = absurd also
    walk_once _ _ _ _ _ _ _ _ _ _ _ _ _ (no_procap from node name names none) (goes_on from' at' to' node' child' _ _ q' replied' kind' found' end' given' more' fits' turn' named' rest') place here had also turns =
        none_first (told_by replied' kind' at' given') (walk_turns rest') (sym turns)
    walk_once _ _ _ _ _ _ _ _ _ _ _ _ _ (no_procap from node name names none) (places.ends from' to' node' _ _ q' replied' kind' line' given' fits' turn' named' is') place here had also turns =
        none_first (told_by replied' kind' to' given') [] (sym turns)
    walk_once _ _ _ _ _ _ _ _ _ _ _ _ _ (no_procap from node name names none) (no_procap from' node' _ _ none') place here had also turns = record { found_same = refl; end_same = refl; to_same = place; given_same = refl }
    walk_once _ _ _ _ _ _ _ _ _ _ _ _ _ (no_procap from node name names none) (lacks_memory from' node' _ _ q' fits') place here had also turns = absurd also
    walk_once _ _ _ _ _ _ _ _ _ _ _ _ _ (lacks_memory from node name names q fits) two place here had also turns = absurd had

  -- ---- messages

  module _ (from : ℕ) (s : Connection) (m : RequestView) where
    -- what a request comes to is one
    decided_once : (asked other : Option Control) (one two : Outcome) → IsAskedBy s m asked → IsAskedBy s m other → decided s asked m ≡ one → decided s other m ≡ two → one ≡ two
    decided_once asked other one two asks also is is' = sym is ∙ ap (λ (a : Option Control). decided s a m) (asked_by_once s m asked other asks also) ∙ is'

    -- a walk asks nothing of the control file
    walk_asks : (fid newfid : ℕ) (names : List (List ℕ)) → m ≡ twalk fid newfid names → IsAskedBy s m None
    walk_asks fid newfid names same = subst (λ (r : RequestView). IsAskedBy s r None) (sym same) refl

    pub record AreOneEnd (reply other : ReplyView) (after next : Connection) (to last : ℕ) (given more : List StoreEntry) : Type 0 where
      pub reply_same : reply ≡ other
      pub after_same : after ≡ next
      pub to_same : to ≡ last
      pub given_same : given ≡ more

    -- steps of two kinds are two
    refused_answered : {P : Type 0} (error : NineError) (answer : Answer) (after next : Connection) → outcome (steps.Refused error) after ≡ outcome (steps.Answered answer) next → P
    refused_answered error answer after next same =
        let both : steps.Refused error ≡ steps.Answered answer = ap (λ (o : Outcome). o.0) same in
        absurd cc

    refused_walk : {P : Type 0} (error : NineError) (node : NodeId) (after next : Connection) → outcome (steps.Refused error) after ≡ outcome (steps.Walk node) next → P
    refused_walk error node after next same =
        let both : steps.Refused error ≡ steps.Walk node = ap (λ (o : Outcome). o.0) same in
        absurd cc

    answered_walk : {P : Type 0} (answer : Answer) (node : NodeId) (after next : Connection) → outcome (steps.Answered answer) after ≡ outcome (steps.Walk node) next → P
    answered_walk answer node after next same =
        let both : steps.Answered answer ≡ steps.Walk node = ap (λ (o : Outcome). o.0) same in
        absurd cc

    -- what is one turn is none of these
    turn_is : (step other : Step) (request : TurnRequest) (after next : Connection) → outcome step after ≡ outcome other next → IsTurnOf s m step request → IsTurnOf s m other request
    turn_is step other request after next same turns = subst (λ (o : Outcome). IsTurnOf s m o.0 request) same turns

    -- a walk of these names by this principal that has one end with another
    abbrev HasOneEnd : (newfid : ℕ) (names : List (List ℕ)) (node : NodeId) (who : List ℕ) (found : List FidFile) (end : Option (List ℕ)) (to : ℕ) (given : List StoreEntry) → List TurnTold → ReplyView → Connection → ℕ → List StoreEntry → Type 0
    HasOneEnd newfid names node who found end to given turns reply after last more = (walk : WalksPlaced gives p history s.purse who from node names found end to given) → WalkHadMemory walk → turns ≡ walk_turns walk →
        AreOneEnd reply (walk_reply found end) after (walked s newfid (length names) found) last to more given

    one_walk : (newfid : ℕ) (names : List (List ℕ)) (node node' : NodeId) (who : List ℕ) (found found' : List FidFile) (end end' : Option (List ℕ)) (to to' : ℕ) (given given' : List StoreEntry) → node ≡ node' →
        (walk : WalksPlaced gives p history s.purse who from node names found end to given) → WalkHadMemory walk → HasOneEnd newfid names node' who found' end' to' given' (walk_turns walk) (walk_reply found end) (walked s newfid (length names) found) to given
    one_walk newfid names node node' who found found' end end' to to' given given' node_is walk had = λ walk' also turns.
        let w = walk_once s.purse who from from node node' names found found' end end' to to' given given' walk walk' refl node_is had also turns in
        record { reply_same = ap₂ walk_reply w.found_same w.end_same; after_same = ap (walked s newfid (length names)) w.found_same; to_same = w.to_same; given_same = w.given_same }

    -- two walks of one request
    walks_once : (fid fid' newfid newfid' : ℕ) (names names' : List (List ℕ)) (node node' : NodeId) (who who' : List ℕ) (found found' : List FidFile) (end end' : Option (List ℕ)) (to to' : ℕ) (given given' : List StoreEntry) → twalk fid newfid names ≡ twalk fid' newfid' names' →
        outcome (steps.Walk node) s ≡ outcome (steps.Walk node') s → Some who ≡ Some who' →
        (walk : WalksPlaced gives p history s.purse who from node names found end to given) (walk' : WalksPlaced gives p history s.purse who' from node' names' found' end' to' given') → WalkHadMemory walk → WalkHadMemory walk' → walk_turns walk ≡ walk_turns walk' →
        AreOneEnd (walk_reply found end) (walk_reply found' end') (walked s newfid (length names) found) (walked s newfid' (length names') found') to to' given given'
    walks_once fid fid' newfid newfid' names names' node node' who who' found found' end end' to to' given given' requests outcomes callers walk walk' had also turns =
        let newfid_is : newfid ≡ newfid' = cc in
        let names_are : names ≡ names' = cc in
        let who_is : who ≡ who' = cc in
        let step : steps.Walk node ≡ steps.Walk node' = ap (λ (o : Outcome). o.0) outcomes in
        let node_is : node ≡ node' = cc in
        subst (λ (n : ℕ). HasOneEnd n names' node' who' found' end' to' given' (walk_turns walk) (walk_reply found end) (walked s newfid (length names) found) to given) newfid_is
        (subst (λ (ns : List (List ℕ)). HasOneEnd newfid ns node' who' found' end' to' given' (walk_turns walk) (walk_reply found end) (walked s newfid (length names) found) to given) names_are
        (subst (λ (w : List ℕ). HasOneEnd newfid names node' w found' end' to' given' (walk_turns walk) (walk_reply found end) (walked s newfid (length names) found) to given) who_is
        (one_walk newfid names node node' who found found' end end' to to' given given' node_is walk had)))
        walk' also turns

    pub message_once : (reply other : ReplyView) (after next : Connection) (to last : ℕ) (given more : List StoreEntry) (one : MessagePlaced gives p history from s m reply after to given) (two : MessagePlaced gives p history from s m other next last more) →
        HadMemory one → HadMemory two → message_turns one ≡ message_turns two → AreOneEnd reply other after next to last given more
    message_once _ _ _ _ _ _ _ _ (refused asked error asks is) (refused asked' error' asks' is') had also turns_same =
        let step : steps.Refused error ≡ steps.Refused error' = ap (λ (o : Outcome). o.0) (decided_once asked asked' (outcome (steps.Refused error) s) (outcome (steps.Refused error') s) asks asks' is is') in
        let same : error ≡ error' = cc in
        record { reply_same = ap (λ (e : NineError). rerror (error_text e)) same; after_same = refl; to_same = refl; given_same = refl }
    message_once _ _ _ _ _ _ _ _ (refused asked error asks is) (answered asked' answer' after' asks' is') had also turns_same =
        refused_answered error answer' s after' (decided_once asked asked' (outcome (steps.Refused error) s) (outcome (steps.Answered answer') after') asks asks' is is')
    message_once _ _ _ _ _ _ _ _ (refused asked error asks is) (in_a_turn asked' step' request' replied' reply' to' given' asks' is' turns' turn' told') had also turns_same =
        absurd (turn_is step' (steps.Refused error) request' s s (sym (decided_once asked asked' (outcome (steps.Refused error) s) (outcome step' s) asks asks' is is')) turns')
    message_once _ _ _ _ _ _ _ _ (refused asked error asks is) (walks fid' newfid' names' node' who' found' end' to' given' same' is' caller' walk') had also turns_same =
        refused_walk error node' s s (decided_once asked None (outcome (steps.Refused error) s) (outcome (steps.Walk node') s) asks (walk_asks fid' newfid' names' same') is is')
    message_once _ _ _ _ _ _ _ _ (answered asked answer after asks is) (refused asked' error' asks' is') had also turns_same =
        refused_answered error' answer s after (sym (decided_once asked asked' (outcome (steps.Answered answer) after) (outcome (steps.Refused error') s) asks asks' is is'))
    message_once _ _ _ _ _ _ _ _ (answered asked answer after asks is) (answered asked' answer' after' asks' is') had also turns_same =
        let same = decided_once asked asked' (outcome (steps.Answered answer) after) (outcome (steps.Answered answer') after') asks asks' is is' in
        let step : steps.Answered answer ≡ steps.Answered answer' = ap (λ (o : Outcome). o.0) same in
        let answer_is : answer ≡ answer' = cc in
        record { reply_same = ap (answer_view s.nonce) answer_is; after_same = ap (λ (o : Outcome). o.1) same; to_same = refl; given_same = refl }
    message_once _ _ _ _ _ _ _ _ (answered asked answer after asks is) (in_a_turn asked' step' request' replied' reply' to' given' asks' is' turns' turn' told') had also turns_same =
        absurd (turn_is step' (steps.Answered answer) request' s after (sym (decided_once asked asked' (outcome (steps.Answered answer) after) (outcome step' s) asks asks' is is')) turns')
    message_once _ _ _ _ _ _ _ _ (answered asked answer after asks is) (walks fid' newfid' names' node' who' found' end' to' given' same' is' caller' walk') had also turns_same =
        answered_walk answer node' after s (decided_once asked None (outcome (steps.Answered answer) after) (outcome (steps.Walk node') s) asks (walk_asks fid' newfid' names' same') is is')
    message_once _ _ _ _ _ _ _ _ (in_a_turn asked step request replied reply to given asks is turns turn told) (refused asked' error' asks' is') had also turns_same =
        absurd (turn_is step (steps.Refused error') request s s (decided_once asked asked' (outcome step s) (outcome (steps.Refused error') s) asks asks' is is') turns)
    message_once _ _ _ _ _ _ _ _ (in_a_turn asked step request replied reply to given asks is turns turn told) (answered asked' answer' after' asks' is') had also turns_same =
        absurd (turn_is step (steps.Answered answer') request s after' (decided_once asked asked' (outcome step s) (outcome (steps.Answered answer') after') asks asks' is is') turns)
    message_once _ _ _ _ _ _ _ _ (in_a_turn asked step request replied reply to given asks is turns turn told) (in_a_turn asked' step' request' replied' reply' to' given' asks' is' turns' turn' told') had also turns_same =
        let first = first_same (told_by replied false to given) (told_by replied' false to' given') [] [] turns_same in
        let replied_is : replied ≡ replied' = ap (λ (t : TurnTold). t.reply) first in
        let step_is : step ≡ step' = ap (λ (o : Outcome). o.0) (decided_once asked asked' (outcome step s) (outcome step' s) asks asks' is is') in
        record {
          reply_same = reply_once (length (bytes_of m)) replied' reply reply' (subst (λ (r : TurnReply). IsReplyTo (length (bytes_of m)) r reply) replied_is told) told';
          after_same = ap₂ (after_turn s) step_is replied_is;
          to_same = ap (λ (t : TurnTold). t.to) first;
          given_same = ap (λ (t : TurnTold). t.given) first;
        }
    message_once _ _ _ _ _ _ _ _ (in_a_turn asked step request replied reply to given asks is turns turn told) (walks fid' newfid' names' node' who' found' end' to' given' same' is' caller' walk') had also turns_same =
        absurd (turn_is step (steps.Walk node') request s s (decided_once asked None (outcome step s) (outcome (steps.Walk node') s) asks (walk_asks fid' newfid' names' same') is is') turns)
    message_once _ _ _ _ _ _ _ _ (walks fid newfid names node who found end to given same is caller walk) (refused asked' error' asks' is') had also turns_same =
        refused_walk error' node s s (sym (decided_once None asked' (outcome (steps.Walk node) s) (outcome (steps.Refused error') s) (walk_asks fid newfid names same) asks' is is'))
    message_once _ _ _ _ _ _ _ _ (walks fid newfid names node who found end to given same is caller walk) (answered asked' answer' after' asks' is') had also turns_same =
        answered_walk answer' node after' s (sym (decided_once None asked' (outcome (steps.Walk node) s) (outcome (steps.Answered answer') after') (walk_asks fid newfid names same) asks' is is'))
    message_once _ _ _ _ _ _ _ _ (walks fid newfid names node who found end to given same is caller walk) (in_a_turn asked' step' request' replied' reply' to' given' asks' is' turns' turn' told') had also turns_same =
        absurd (turn_is step' (steps.Walk node) request' s s (sym (decided_once None asked' (outcome (steps.Walk node) s) (outcome step' s) (walk_asks fid newfid names same) asks' is is')) turns')
    message_once _ _ _ _ _ _ _ _ (walks fid newfid names node who found end to given same is caller walk) (walks fid' newfid' names' node' who' found' end' to' given' same' is' caller' walk') had also turns_same =
        walks_once fid fid' newfid newfid' names names' node node' who who' found found' end end' to to' given given' (sym same ∙ same') (decided_once None None (outcome (steps.Walk node) s) (outcome (steps.Walk node') s) (walk_asks fid newfid names same) (walk_asks fid' newfid' names' same') is is') (sym caller ∙ caller') walk walk' had also turns_same
    message_once _ _ _ _ _ _ _ _ (refused asked error asks is) (without_memory may) had also turns_same = absurd also
    message_once _ _ _ _ _ _ _ _ (answered asked answer after asks is) (without_memory may) had also turns_same = absurd also
    message_once _ _ _ _ _ _ _ _ (in_a_turn asked step request replied reply to given asks is turns turn told) (without_memory may) had also turns_same = absurd also
    message_once _ _ _ _ _ _ _ _ (walks fid newfid names node who found end to given same is caller walk) (without_memory may) had also turns_same = absurd also
    message_once _ _ _ _ _ _ _ _ (without_memory may) two had also turns_same = absurd had
