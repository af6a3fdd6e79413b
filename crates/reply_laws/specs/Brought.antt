-- What lines and requests bring, if each name and each text in it stands on one line (this
-- project's own).
use Rattle.std.specs.List.{AllByRecursion}
use Rattle.bl_syntax.specs.declared.grant.Goal.{Goal}
use Rattle.bl_syntax.specs.Statement.{StatementView, AllTerms}
use Rattle.proof_term.specs.Proof.{ProofView, init, cons_r, inter_r, and_r, or_r1, or_r2, true_r, imp_r, forall_r, exists_r, says_r, at_r, cons_l, inter_l, and_l, or_l, false_l, imp_l, forall_l, exists_l, says_l, claim, at_l}
use Rattle.procap.specs.declared.procap.Procap.{Procap as Sealed}
use Rattle.access_history.specs.declared.request.StepRequest.{StepRequest}
use Rattle.access_history.specs.declared.request.StepRequest.TheVariants as requests
use Rattle.line_words.specs.declared.procap_word.ProcapWord.{ProcapWord}
use Rattle.line_words.specs.declared.procap_word.ProcapWord.TheVariants as words
use Rattle.line_forms.specs.declared.command.Command.{Command}
use Rattle.line_forms.specs.declared.command.Command.TheVariants.{At, As, Register, Withdraw, Procap, Checkpoint, Verify, Check, Do}
use Rattle.line_forms.specs.declared.asked.Line.{Line}
use Rattle.line_forms.specs.declared.asked.Line.TheVariants as lines
use Rattle.line_wire.specs.Unbroken.{IsUnbroken, IsUnbrokenTerm, IsUnbrokenGrant}

-- the statement stands on one line
pub record IsUnbrokenStatement (s : StatementView) : Type 0 where
  pub who : IsUnbroken s.who
  pub terms : AllTerms IsUnbrokenTerm s.body

-- so does each term that the proof names
abbrev pub HasUnbrokenTerms : ProofView → Type 0
HasUnbrokenTerms (init h) = Unit {0}
HasUnbrokenTerms cons_r = Unit {0}
HasUnbrokenTerms inter_r = Unit {0}
HasUnbrokenTerms (and_r p q) = HasUnbrokenTerms p × HasUnbrokenTerms q
HasUnbrokenTerms (or_r1 p) = HasUnbrokenTerms p
HasUnbrokenTerms (or_r2 p) = HasUnbrokenTerms p
HasUnbrokenTerms true_r = Unit {0}
HasUnbrokenTerms (imp_r p) = HasUnbrokenTerms p
HasUnbrokenTerms (forall_r p) = HasUnbrokenTerms p
HasUnbrokenTerms (exists_r t p) = IsUnbrokenTerm t × HasUnbrokenTerms p
HasUnbrokenTerms (says_r p) = HasUnbrokenTerms p
HasUnbrokenTerms (at_r p) = HasUnbrokenTerms p
HasUnbrokenTerms (cons_l h p) = HasUnbrokenTerms p
HasUnbrokenTerms (inter_l h p) = HasUnbrokenTerms p
HasUnbrokenTerms (and_l h p) = HasUnbrokenTerms p
HasUnbrokenTerms (or_l h p q) = HasUnbrokenTerms p × HasUnbrokenTerms q
HasUnbrokenTerms (false_l h) = Unit {0}
HasUnbrokenTerms (imp_l h t1 t2 p q) = (IsUnbrokenTerm t1 × IsUnbrokenTerm t2) ×
    (HasUnbrokenTerms p × HasUnbrokenTerms q)
HasUnbrokenTerms (forall_l h t p) = IsUnbrokenTerm t × HasUnbrokenTerms p
HasUnbrokenTerms (exists_l h p) = HasUnbrokenTerms p
HasUnbrokenTerms (says_l h p) = HasUnbrokenTerms p
HasUnbrokenTerms (claim h p) = HasUnbrokenTerms p
HasUnbrokenTerms (at_l h p) = HasUnbrokenTerms p

-- the goal, and the proof of it
pub record AreUnbroken (goal : Goal) (proof : ProofView) : Type 0 where
  pub who : IsUnbroken goal.who
  pub terms : HasUnbrokenTerms proof

-- the conditions of the procap
abbrev pub IsUnbrokenProcap : Sealed → Type 0
IsUnbrokenProcap p = IsUnbrokenGrant p.grant

-- the procap that a word writes out; one that is named by its issue is looked up
abbrev pub IsUnbrokenWord : ProcapWord → Type 0
IsUnbrokenWord (words.Procap p) = IsUnbrokenProcap p
IsUnbrokenWord (words.Issue number) = Unit {0}

-- what a command brings
abbrev pub IsUnbrokenCommand : Command → Type 0
IsUnbrokenCommand (At second) = Unit {0}
IsUnbrokenCommand (As who) = IsUnbroken who
IsUnbrokenCommand (Register signature statement) = IsUnbrokenStatement statement
IsUnbrokenCommand (Withdraw number signature) = Unit {0}
IsUnbrokenCommand (Procap number) = Unit {0}
IsUnbrokenCommand Checkpoint = Unit {0}
IsUnbrokenCommand (Verify goal numbers proof) = AreUnbroken goal proof
IsUnbrokenCommand (Check goal numbers proof) = AreUnbroken goal proof
IsUnbrokenCommand (Do op procaps) = AllByRecursion IsUnbrokenWord procaps

-- what a line brings
abbrev pub IsUnbrokenLine : Line → Type 0
IsUnbrokenLine (lines.Command command) = IsUnbrokenCommand command
IsUnbrokenLine (lines.Login who signature) = IsUnbroken who
IsUnbrokenLine (lines.Statement statement) = IsUnbrokenStatement statement
IsUnbrokenLine (lines.Goal goal proof) = AreUnbroken goal proof

-- the procaps that a request brings
abbrev pub BringsUnbroken : StepRequest → Type 0
BringsUnbroken (requests.Register statement signature) = Unit {0}
BringsUnbroken (requests.Withdraw number signature) = Unit {0}
BringsUnbroken (requests.Issue checked) = Unit {0}
BringsUnbroken (requests.Act caller op procaps) = AllByRecursion IsUnbrokenProcap procaps
BringsUnbroken (requests.ShowProcap number who) = Unit {0}
