-- Texts that say that the store is stopped, or that memory ran out: no text of a step or of an error is one of them.
use Rattle.std.proofs.Common.{◌≡◌, ◌∙◌, ℕ, List, [], true, false, true≢false, refl, sym, ap, codes}
use Rattle.std.specs.Str.{bytes_eq}
use Rattle.line_words.specs.Cutting.{first_cut}
use Rattle.file_world.specs.declared.reply.TreeReply.{TreeReply}
use Rattle.file_world.specs.declared.reply.TreeReply.TheVariants as trees
use Rattle.file_world.specs.declared.reply.OpReply.{OpReply}
use Rattle.file_world.specs.declared.reply.OpReply.TheVariants as operations
use Rattle.access_history.specs.declared.reply.StepReply.{StepReply}
use Rattle.access_history.specs.declared.reply.StepReply.TheVariants as step_replies
use Rattle.line_wire.specs.declared.reply.LineReply.TheVariants as lines
use Rattle.line_wire.specs.FirstWord.{step_word}
use Rattle.line_wire.specs.ReplyText.{step_text}
use Rattle.line_wire.proofs.FirstWordLemmas.{reply_first}
use Rattle.nine_messages.specs.Replies.{ReplyView, rversion, rattach, rflush, rwalk, ropen, rread, rwrite, rclunk, rerror}
use Rattle.nine_fids.specs.declared.error.NineError.{NineError}
use Rattle.nine_fids.specs.declared.error.NineError.TheVariants as errors
use Rattle.nine_fids.specs.declared.step.Answer.{Answer}
use Rattle.nine_fids.specs.declared.step.Answer.TheVariants as answers
use Rattle.nine_fids.specs.Errors.{error_text}
use Rattle.nine_fids.specs.Steps.{answer_view}
use Rattle.nine_front.specs.Asking.{tree_reply_view, operation_reply_view, step_reply_view}

-- one word, which is none of those that a step's text begins with
pub record IsApart (word : List ℕ) : Type 0 where
  pub first : (first_cut word).word ≡ word
  pub same : bytes_eq word word ≡ true
  pub none : bytes_eq [] word ≡ false
  pub ok : bytes_eq (codes "ok") word ≡ false
  pub checkpoint : bytes_eq (codes "ok checkpoint") word ≡ false
  pub full : bytes_eq (codes "full") word ≡ false
  pub denied : bytes_eq (codes "denied") word ≡ false
  pub refused : bytes_eq (codes "refused") word ≡ false
  pub rejected : bytes_eq (codes "rejected") word ≡ false
  pub absent : bytes_eq (codes "absent") word ≡ false
  pub errors : (error : NineError) → bytes_eq (error_text error) word ≡ false

stopped_errors : (error : NineError) → bytes_eq (error_text error) (codes "stopped") ≡ false
stopped_errors errors.NotServed = refl
stopped_errors errors.LowSize = refl
stopped_errors errors.VersionFirst = refl
stopped_errors errors.NoFid = refl
stopped_errors errors.FidInUse = refl
stopped_errors errors.TooManyFids = refl
stopped_errors errors.NoSuchTree = refl
stopped_errors errors.TooManyNames = refl
stopped_errors errors.IsOpen = refl
stopped_errors errors.IsDirectory = refl
stopped_errors errors.OtherMode = refl
stopped_errors errors.NotOpen = refl
stopped_errors errors.NoControl = refl
stopped_errors errors.PurseFull = refl
stopped_errors errors.NotLoggedIn = refl
stopped_errors errors.NoProcap = refl

memory_errors : (error : NineError) → bytes_eq (error_text error) (codes "nomemory") ≡ false
memory_errors errors.NotServed = refl
memory_errors errors.LowSize = refl
memory_errors errors.VersionFirst = refl
memory_errors errors.NoFid = refl
memory_errors errors.FidInUse = refl
memory_errors errors.TooManyFids = refl
memory_errors errors.NoSuchTree = refl
memory_errors errors.TooManyNames = refl
memory_errors errors.IsOpen = refl
memory_errors errors.IsDirectory = refl
memory_errors errors.OtherMode = refl
memory_errors errors.NotOpen = refl
memory_errors errors.NoControl = refl
memory_errors errors.PurseFull = refl
memory_errors errors.NotLoggedIn = refl
memory_errors errors.NoProcap = refl

pub stopped_apart : IsApart (codes "stopped")
stopped_apart =
    record { first = refl; same = refl; none = refl; ok = refl; checkpoint = refl; full = refl; denied = refl; refused = refl; rejected = refl; absent = refl; errors = stopped_errors }

pub memory_apart : IsApart (codes "nomemory")
memory_apart =
    record { first = refl; same = refl; none = refl; ok = refl; checkpoint = refl; full = refl; denied = refl; refused = refl; rejected = refl; absent = refl; errors = memory_errors }

-- the text of an error; none if it is another reply
abbrev pub text_in : ReplyView → List ℕ
text_in (rversion msize version) = []
text_in (rattach qid) = []
text_in rflush = []
text_in (rwalk qids) = []
text_in (ropen qid) = []
text_in (rread bytes) = []
text_in (rwrite count) = []
text_in rclunk = []
text_in (rerror ename) = ename

module _ (word : List ℕ) (apart : IsApart word) where
  -- bytes that differ from it
  pub not_it : (bytes : List ℕ) → bytes_eq bytes word ≡ false → bytes ≡ word → ⊥
  not_it bytes differs is = true≢false (sym apart.same ∙ sym (ap (λ (b : List ℕ). bytes_eq b word) is) ∙ differs)

  no_step_word : (reply : StepReply) → step_word reply ≡ word → ⊥
  no_step_word (step_replies.Statement number) is = not_it (codes "ok") apart.ok is
  no_step_word step_replies.Withdrawn is = not_it (codes "ok") apart.ok is
  no_step_word (step_replies.Issue number times states) is = not_it (codes "ok") apart.ok is
  no_step_word (step_replies.Procap p) is = not_it (codes "ok") apart.ok is
  no_step_word (step_replies.Operation reply) is = not_it (codes "ok") apart.ok is
  no_step_word (step_replies.Denied denial) is = not_it (codes "denied") apart.denied is
  no_step_word (step_replies.Refused refusal at) is = not_it (codes "refused") apart.refused is
  no_step_word (step_replies.Rejected rejection) is = not_it (codes "rejected") apart.rejected is
  no_step_word (step_replies.Absent number) is = not_it (codes "absent") apart.absent is

  pub no_step_text : (reply : StepReply) → step_text reply ≡ word → ⊥
  no_step_text reply is = no_step_word reply (sym (reply_first (lines.Step reply)) ∙ ap (λ (b : List ℕ). (first_cut b).word) is ∙ apart.first)

  pub no_error : (error : NineError) → error_text error ≡ word → ⊥
  no_error error is = not_it (error_text error) (apart.errors error) is

  -- no reply but an error
  pub no_text : (reply : ReplyView) → text_in reply ≡ [] → reply ≡ rerror word → ⊥
  no_text reply none is = not_it [] apart.none (sym none ∙ ap text_in is)

  pub no_answer : (nonce : List ℕ) (answer : Answer) → answer_view nonce answer ≡ rerror word → ⊥
  no_answer nonce (answers.Version msize served) is = no_text (answer_view nonce (answers.Version msize served)) refl is
  no_answer nonce (answers.Attach qid) is = no_text (answer_view nonce (answers.Attach qid)) refl is
  no_answer nonce answers.Flush is = no_text (answer_view nonce answers.Flush) refl is
  no_answer nonce answers.Walk is = no_text (answer_view nonce answers.Walk) refl is
  no_answer nonce (answers.Open qid) is = no_text (answer_view nonce (answers.Open qid)) refl is
  no_answer nonce (answers.Greeting count) is = no_text (answer_view nonce (answers.Greeting count)) refl is
  no_answer nonce (answers.Written count) is = no_text (answer_view nonce (answers.Written count)) refl is
  no_answer nonce answers.Clunk is = no_text (answer_view nonce answers.Clunk) refl is

  no_tree : (count : ℕ) (reply : TreeReply) → tree_reply_view count reply ≡ rerror word → ⊥
  no_tree count trees.Done is = no_text (tree_reply_view count trees.Done) refl is
  no_tree count (trees.Bytes bytes) is = no_text (tree_reply_view count (trees.Bytes bytes)) refl is
  no_tree count (trees.Names names) is = no_step_text (step_replies.Operation (operations.Tree (trees.Names names))) (ap text_in is)
  no_tree count (trees.Node node) is = no_step_text (step_replies.Operation (operations.Tree (trees.Node node))) (ap text_in is)

  no_operation : (count : ℕ) (reply : OpReply) → operation_reply_view count reply ≡ rerror word → ⊥
  no_operation count (operations.Tree reply) is = no_tree count reply is
  no_operation count (operations.Meta reply) is = no_step_text (step_replies.Operation (operations.Meta reply)) (ap text_in is)

  pub no_step : (count : ℕ) (reply : StepReply) → step_reply_view count reply ≡ rerror word → ⊥
  no_step count (step_replies.Statement number) is = no_step_text (step_replies.Statement number) (ap text_in is)
  no_step count step_replies.Withdrawn is = no_step_text step_replies.Withdrawn (ap text_in is)
  no_step count (step_replies.Issue number times states) is = no_step_text (step_replies.Issue number times states) (ap text_in is)
  no_step count (step_replies.Procap p) is = no_step_text (step_replies.Procap p) (ap text_in is)
  no_step count (step_replies.Operation reply) is = no_operation count reply is
  no_step count (step_replies.Denied denial) is = no_step_text (step_replies.Denied denial) (ap text_in is)
  no_step count (step_replies.Refused refusal at) is = no_step_text (step_replies.Refused refusal at) (ap text_in is)
  no_step count (step_replies.Rejected rejection) is = no_step_text (step_replies.Rejected rejection) (ap text_in is)
  no_step count (step_replies.Absent number) is = no_step_text (step_replies.Absent number) (ap text_in is)
