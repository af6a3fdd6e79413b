-- The answer to a line over a state (this project's own). What a look at the state makes of a
-- command, and what is decided of it then, stand apart: another may have its turn between them.
-- That somebody may
-- set the clock and the caller, or leave a signature to the ring, is a matter of the lines that
-- they have; what they may see is said by who asks.
use Rattle.std.specs.Prelude.{ℕ, ℤ, List, [], Option, Some, None, unwrap_or}
use Rattle.bl_syntax.specs.declared.grant.Goal.{Goal}
use Rattle.bl_syntax.specs.Statement.{StatementView}
use Rattle.bl_syntax.specs.Grant.{GrantView}
use Rattle.policy_statement.specs.Messages.{statement_message, withdraw_message}
use Rattle.policy_statement.specs.Ring.{KeyView, tag_of}
use Rattle.policy_statement.specs.Withdrawal.{live_of_number}
use Rattle.procap.specs.declared.procap.Procap.{Procap as Sealed}
use Rattle.proof_term.specs.Proof.{ProofView}
use Rattle.proof_verifier.specs.declared.cites.Cite.{Cite}
use Rattle.proof_verifier.specs.CheckedView.{checked_view}
use Rattle.pcfs_secrets.specs.declared.secrets.Secrets.{Secrets}
use Rattle.file_world.specs.declared.operation.Op.{Op}
use Rattle.journal_records.specs.declared.event.Event.{Event}
use Rattle.access_history.specs.declared.request.StepRequest.{StepRequest}
use Rattle.access_history.specs.declared.request.StepRequest.TheVariants as requests
use Rattle.access_history.specs.declared.reply.StepReply.{StepReply}
use Rattle.access_history.specs.declared.reply.StepReply.TheVariants.{Absent}
use Rattle.access_history.specs.Base.{BaseView}
use Rattle.access_history.specs.Answer.{Answers}
use Rattle.access_history.specs.Authority.{Authority}
use Rattle.access_history.specs.Books.{book_of}
use Rattle.access_history.specs.History.{authority_with}
use Rattle.line_words.specs.declared.procap_word.ProcapWord.{ProcapWord}
use Rattle.line_forms.specs.declared.command.Command.{Command}
use Rattle.line_forms.specs.declared.command.Command.TheVariants.{At, As, Register, Withdraw, Procap, Checkpoint, Verify, Check, Do}
use Rattle.line_forms.specs.declared.fault.LineFault.{LineFault}
use Rattle.line_forms.specs.Lines.{IsLine, IsLineFault}
use Rattle.line_wire.specs.declared.reply.LineReply.{LineReply}
use Rattle.line_wire.specs.declared.reply.LineReply.TheVariants as replies
use Rattle.std.specs.Option.{option_map}
use Rattle.pcfs_store.specs.Entries.{StoreEntry, happened, checkpointed}
use Rattle.pcfs_session.specs.ScriptContext.{ScriptContext, asker_after}
use Rattle.pcfs_session.specs.Procaps.{AreBrought, IsFirstUnissued}
use Rattle.pcfs_session.specs.Proved.{IsUnproved, IsProved}

-- the authority of these secrets: their key, and what their ring accepts
abbrev pub authority_under : Secrets → Authority
authority_under secrets = authority_with secrets.seal_key secrets.ring

-- the signature under which a statement is registered: the one that the line gives, or the tag of
-- its message under the key of who says it. If that name has no key there is none,
-- and no bytes stand for it, which are not accepted
abbrev pub signature_under : List KeyView → StatementView → Option (List ℕ) → List ℕ
signature_under ring statement (Some signature) = signature
signature_under ring statement None = unwrap_or (tag_of ring statement.who (statement_message statement)) []

-- the signature that the ring makes for who said a statement, to withdraw it: the tag of the
-- message of its withdrawal. If that name has no key, or no statement stands, there is none, and no
-- bytes stand for it; these are not accepted,
-- and where no statement stands, that is reported before any signature is looked at
abbrev pub withdrawal_by_ring : List KeyView → Option StatementView → List ℕ
withdrawal_by_ring ring None = []
withdrawal_by_ring ring (Some statement) = unwrap_or (tag_of ring statement.who (withdraw_message statement)) []

-- the signature under which the statement of a number is withdrawn over a state: the one that the
-- line gives, or the one that the ring makes
abbrev pub withdrawal_under : List KeyView → BaseView → ℕ → Option (List ℕ) → List ℕ
withdrawal_under ring state number (Some signature) = signature
withdrawal_under ring state number None = withdrawal_by_ring ring (live_of_number state.statements number)

-- what a look at the state makes of a command: a reply, a request that is to be decided, or a
-- checkpoint that is to be made
pub data Look : Type 0 where
  replied : LineReply → Look
  requested : StepRequest → Look
  checkpoint : Look

-- what a look at the state makes of the command
pub data ComesTo (secrets : Secrets) (state : BaseView) (asker : ScriptContext) : Command → Look →
    Type 0 where
  sets_clock : (second : ℤ) → ComesTo secrets state asker (At second) (replied replies.Done)
  sets_caller : (who : List ℕ) → ComesTo secrets state asker (As who) (replied replies.Done)
  registers : (signature : Option (List ℕ)) (statement : StatementView) →
      ComesTo secrets state asker (Register signature statement) (requested (requests.Register statement (signature_under secrets.ring statement signature)))
  withdraws : (number : ℕ) (signature : Option (List ℕ)) →
      ComesTo secrets state asker (Withdraw number signature) (requested (requests.Withdraw number (withdrawal_under secrets.ring state number signature)))
  shows : (number : ℕ) → ComesTo secrets state asker (Procap number) (requested (requests.ShowProcap number asker.sees))
  makes_checkpoint : ComesTo secrets state asker Checkpoint checkpoint
  verifies_nothing : (goal : Goal) (numbers : List ℕ) (proof : ProofView) (reply : LineReply) →
      IsUnproved (book_of state) goal numbers proof reply →
      ComesTo secrets state asker (Verify goal numbers proof) (replied reply)
  verifies : (goal : Goal) (numbers : List ℕ) (proof : ProofView) (cites : List Cite) (g : GrantView) → IsProved (book_of state) goal numbers proof cites g →
      ComesTo secrets state asker (Verify goal numbers proof) (requested (requests.Issue (checked_view cites goal proof g)))
  checks_nothing : (goal : Goal) (numbers : List ℕ) (proof : ProofView) (reply : LineReply) →
      IsUnproved (book_of state) goal numbers proof reply →
      ComesTo secrets state asker (Check goal numbers proof) (replied reply)
  checks : (goal : Goal) (numbers : List ℕ) (proof : ProofView) (cites : List Cite) (g : GrantView) → IsProved (book_of state) goal numbers proof cites g →
      ComesTo secrets state asker (Check goal numbers proof) (replied (replies.Checked g))
  acts_under_none : (op : Op) (words : List ProcapWord) (number : ℕ) →
      IsFirstUnissued state.issues words number →
      ComesTo secrets state asker (Do op words) (replied (replies.Step (Absent number)))
  acts : (op : Op) (words : List ProcapWord) (procaps : List Sealed) →
      AreBrought secrets.seal_key state.issues words procaps →
      ComesTo secrets state asker (Do op words) (requested (requests.Act asker.caller op procaps))

-- the answer to a command over a state, and the entry to add if there is one: an event, or a
-- checkpoint
pub data AnswersCommand (secrets : Secrets) (state : BaseView) (asker : ScriptContext) (command : Command) : LineReply → Option StoreEntry → Type 0 where
  at_once : (reply : LineReply) → ComesTo secrets state asker command (replied reply) →
      AnswersCommand secrets state asker command reply None
  decided : (request : StepRequest) (reply : StepReply) (event : Option Event) →
      ComesTo secrets state asker command (requested request) →
      Answers (authority_under secrets) state asker.pass asker.clock request reply event →
      AnswersCommand secrets state asker command (replies.Step reply) (option_map happened event)
  made : ComesTo secrets state asker command checkpoint → AnswersCommand secrets state asker command replies.Checkpointed (Some (checkpointed asker.pass))

-- how the bytes of a line are answered, the entry to add if there is one, and who asks then: the
-- line has a fault, or asks for a command
pub data AnswersLine (secrets : Secrets) (state : BaseView) (asker : ScriptContext) (line : List ℕ) : LineReply → Option StoreEntry →
    ScriptContext → Type 0 where
  faulty : (fault : LineFault) → IsLineFault line fault →
      AnswersLine secrets state asker line (replies.Faulty fault) None asker
  asks : (command : Command) (reply : LineReply) (entry : Option StoreEntry) → IsLine line command →
      AnswersCommand secrets state asker command reply entry →
      AnswersLine secrets state asker line reply entry (asker_after asker command)
