-- Replies in which no name and no text holds the byte that ends a line (this project's own).
use Rattle.std.specs.Prelude.{ℕ, List}
use Rattle.std.specs.List.{AllByRecursion}
use Rattle.bl_syntax.specs.declared.terms.Term.{Term}
use Rattle.bl_syntax.specs.declared.terms.Term.TheVariants as terms
use Rattle.bl_syntax.specs.declared.terms.Constraint.{Constraint}
use Rattle.bl_syntax.specs.declared.terms.StatePred.{StatePred}
use Rattle.bl_syntax.specs.declared.terms.StatePred.TheVariants.{Owner, HasXattr, InDir}
use Rattle.bl_syntax.specs.Grant.{GrantView}
use Rattle.line_text.specs.Words.{HasNo}
use Rattle.file_world.specs.declared.reply.NamedNode.{NamedNode}
use Rattle.file_world.specs.declared.reply.TreeReply.{TreeReply}
use Rattle.file_world.specs.declared.reply.TreeReply.TheVariants as trees
use Rattle.file_world.specs.declared.reply.MetaReply.{MetaReply}
use Rattle.file_world.specs.declared.reply.MetaReply.TheVariants as metas
use Rattle.file_world.specs.declared.reply.OpReply.{OpReply}
use Rattle.file_world.specs.declared.reply.OpReply.TheVariants.{Tree, Meta}
use Rattle.access_history.specs.declared.reply.DenialCause.{DenialCause}
use Rattle.access_history.specs.declared.reply.DenialCause.TheVariants as causes
use Rattle.access_history.specs.declared.reply.StepReply.{StepReply}
use Rattle.access_history.specs.declared.reply.StepReply.TheVariants as steps
use Rattle.line_wire.specs.declared.reply.LineReply.{LineReply}
use Rattle.line_wire.specs.declared.reply.LineReply.TheVariants as replies

-- the bytes stand on one line
abbrev pub IsUnbroken : List ℕ → Type 0
IsUnbroken bytes = HasNo 10 bytes

abbrev pub IsUnbrokenTerm : Term → Type 0
IsUnbrokenTerm (terms.Prin name) = IsUnbroken name
IsUnbrokenTerm (terms.File number) = Unit {0}
IsUnbrokenTerm (terms.Perm permission) = Unit {0}
IsUnbrokenTerm (terms.Time point) = Unit {0}
IsUnbrokenTerm (terms.Text constant) = IsUnbroken constant
IsUnbrokenTerm terms.Ctime = Unit {0}
IsUnbrokenTerm (terms.Param n) = Unit {0}
IsUnbrokenTerm (terms.Bound n) = Unit {0}

abbrev pub IsUnbrokenConstraint : Constraint → Type 0
IsUnbrokenConstraint c = IsUnbrokenTerm c.low × IsUnbrokenTerm c.high

abbrev pub IsUnbrokenState : StatePred → Type 0
IsUnbrokenState (Owner file owner) = IsUnbrokenTerm file × IsUnbrokenTerm owner
IsUnbrokenState (HasXattr file name value) = IsUnbrokenTerm file × IsUnbrokenTerm name ×
    IsUnbrokenTerm value
IsUnbrokenState (InDir file directory) = IsUnbrokenTerm file × IsUnbrokenTerm directory

abbrev pub IsUnbrokenGrant : GrantView → Type 0
IsUnbrokenGrant g = AllByRecursion IsUnbrokenConstraint g.times ×
    AllByRecursion IsUnbrokenState g.states

abbrev pub IsUnbrokenCause : DenialCause → Type 0
IsUnbrokenCause causes.Seal = Unit {0}
IsUnbrokenCause causes.Principal = Unit {0}
IsUnbrokenCause causes.File = Unit {0}
IsUnbrokenCause causes.Permission = Unit {0}
IsUnbrokenCause (causes.Time place c) = IsUnbrokenConstraint c
IsUnbrokenCause (causes.State place s) = IsUnbrokenState s
IsUnbrokenCause (causes.Withdrawn number) = Unit {0}

abbrev pub IsUnbrokenNode : NamedNode → Type 0
IsUnbrokenNode named = IsUnbroken named.name

abbrev pub IsUnbrokenTree : TreeReply → Type 0
IsUnbrokenTree trees.Done = Unit {0}
IsUnbrokenTree (trees.Bytes bytes) = Unit {0}
IsUnbrokenTree (trees.Names names) = AllByRecursion IsUnbrokenNode names
IsUnbrokenTree (trees.Node node) = Unit {0}

abbrev pub IsUnbrokenAttribute : MetaReply → Type 0
IsUnbrokenAttribute metas.Done = Unit {0}
IsUnbrokenAttribute (metas.Text value) = IsUnbroken value

abbrev pub IsUnbrokenOperation : OpReply → Type 0
IsUnbrokenOperation (Tree reply) = IsUnbrokenTree reply
IsUnbrokenOperation (Meta reply) = IsUnbrokenAttribute reply

abbrev pub IsUnbrokenStep : StepReply → Type 0
IsUnbrokenStep (steps.Statement number) = Unit {0}
IsUnbrokenStep steps.Withdrawn = Unit {0}
IsUnbrokenStep (steps.Issue number times states) = Unit {0}
IsUnbrokenStep (steps.Procap p) = Unit {0}
IsUnbrokenStep (steps.Operation reply) = IsUnbrokenOperation reply
IsUnbrokenStep (steps.Denied denial) = IsUnbrokenCause denial.cause
IsUnbrokenStep (steps.Refused refusal at) = Unit {0}
IsUnbrokenStep (steps.Rejected rejection) = Unit {0}
IsUnbrokenStep (steps.Absent number) = Unit {0}

abbrev pub IsUnbrokenReply : LineReply → Type 0
IsUnbrokenReply replies.Done = Unit {0}
IsUnbrokenReply (replies.Step step) = IsUnbrokenStep step
IsUnbrokenReply (replies.Checked g) = IsUnbrokenGrant g
IsUnbrokenReply (replies.Unproved fault) = Unit {0}
IsUnbrokenReply (replies.Faulty fault) = Unit {0}
IsUnbrokenReply replies.TooLong = Unit {0}
IsUnbrokenReply replies.NotLoggedIn = Unit {0}
IsUnbrokenReply replies.Checkpointed = Unit {0}
IsUnbrokenReply replies.Full = Unit {0}
IsUnbrokenReply replies.Stopped = Unit {0}
IsUnbrokenReply replies.NoMemory = Unit {0}
