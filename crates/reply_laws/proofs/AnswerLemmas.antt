-- The answer to a request stands on one line, over a world within its limits.
use Rattle.std.proofs.Common.{ℕ, ◌+◌, List, [], ◌∷◌, ◌++◌, Option, Some, None}
use Rattle.std.specs.Prelude.{ℤ}
use Rattle.std.specs.List.{AllByRecursion}
use Rattle.bl_syntax.specs.declared.terms.Constraint.{Constraint}
use Rattle.bl_syntax.specs.declared.terms.StatePred.{StatePred}
use Rattle.bl_syntax.specs.Grant.{GrantView}
use Rattle.procap.specs.declared.procap.Procap.{Procap}
use Rattle.file_world.specs.Needs.{Need}
use Rattle.file_world.specs.World.{IsWorld}
use Rattle.journal_records.specs.declared.event.Event.{Event}
use Rattle.access_history.specs.declared.request.StepRequest.{StepRequest}
use Rattle.access_history.specs.declared.reply.DenialCause.{DenialCause}
use Rattle.access_history.specs.declared.reply.DenialCause.TheVariants as causes
use Rattle.access_history.specs.declared.reply.StepReply.{StepReply}
use Rattle.access_history.specs.Admission.{causes_from, condition_causes, withdrawal_causes, denial_causes, Passes, IsDenied, wanted_goal}
use Rattle.access_history.specs.Answer.{Answers}
use Rattle.access_history.specs.Answer as answers
use Rattle.access_history.specs.Authority.{Authority}
use Rattle.access_history.specs.Base.{BaseView}
use Rattle.access_history.specs.Gone.{gone}
use Rattle.access_history.specs.Lawful.{IsLawful}
use Rattle.access_history.specs.Replay.{replay}
use Rattle.access_history.proofs.LawfulLemmas.{IsWorld-lawful}
use Rattle.access_history.proofs.ListLemmas.{AllByRecursion-contains}
use Rattle.access_history.proofs.NumberedLemmas.{Contains-numbered, Contains-failing}
use Rattle.line_wire.specs.declared.reply.LineReply.TheVariants as replies
use Rattle.line_wire.specs.ReplyText.{reply_text}
use Rattle.line_wire.specs.Unbroken.{IsUnbroken, IsUnbrokenConstraint, IsUnbrokenState, IsUnbrokenGrant, IsUnbrokenCause, IsUnbrokenStep}
use Rattle.line_wire.proofs.UnbrokenLemmas.{reply_unbroken as written_unbroken}
use Rattle.reply_laws.specs.Brought.{IsUnbrokenProcap, BringsUnbroken}
use Rattle.reply_laws.proofs.WorldLemmas.{reply_unbroken}

-- ---- causes of denials

joined : {A : Type 0} (P : A → Type 0) (xs ys : List A) → AllByRecursion P xs → AllByRecursion P ys → AllByRecursion P (xs ++ ys)
joined P [] ys h k = k
joined P (x ∷ xs) ys h k = (h.0, joined P xs ys h.1 k)

time_causes : (place : ℕ) (times : List Constraint) → AllByRecursion IsUnbrokenConstraint times → AllByRecursion IsUnbrokenCause (causes_from causes.Time place times)
time_causes place [] h = tt
time_causes place (c ∷ times) h = (h.0, time_causes (place + 1) times h.1)

state_causes : (place : ℕ) (states : List StatePred) → AllByRecursion IsUnbrokenState states → AllByRecursion IsUnbrokenCause (causes_from causes.State place states)
state_causes place [] h = tt
state_causes place (s ∷ states) h = (h.0, state_causes (place + 1) states h.1)

gone_causes : (number : Option ℕ) → AllByRecursion IsUnbrokenCause (withdrawal_causes number)
gone_causes None = tt
gone_causes (Some number) = (tt, tt)

-- each cause for which a procap can be denied
causes_unbroken : (state : BaseView) (g : GrantView) → IsUnbrokenGrant g → AllByRecursion IsUnbrokenCause (denial_causes state g)
causes_unbroken state g h = (
  tt,
  (
    tt,
    (
      tt,
      (
        tt,
        joined IsUnbrokenCause (condition_causes g) (withdrawal_causes (gone state g))
            (joined IsUnbrokenCause (causes_from causes.Time 1 g.times) (causes_from causes.State 1 g.states) (time_causes 1 g.times h.0) (state_causes 1 g.states h.1))
            (gone_causes (gone state g)),
      ),
    ),
  ),
)

-- the cause of a denial is one of those of a procap that was brought
denial_unbroken : (key : List ℕ) (state : BaseView) (caller : List ℕ) (procaps : List Procap) (moment : ℤ) (wants : List Need) (place : ℕ) (cause : DenialCause) →
    AllByRecursion IsUnbrokenProcap procaps → IsDenied key state caller procaps moment wants place cause → IsUnbrokenCause cause
denial_unbroken key state caller procaps moment wants place cause brought denied =
    let p = denied.procap in
    let conditions : IsUnbrokenProcap p = AllByRecursion-contains IsUnbrokenProcap procaps p brought (Contains-numbered procaps denied.need.place p denied.brought) in
    AllByRecursion-contains IsUnbrokenCause (denial_causes state p.grant) cause (causes_unbroken state p.grant conditions)
    (Contains-failing (Passes key state moment (wanted_goal caller denied.need) p) (denial_causes state p.grant) denied.denies.place cause denied.denies.first)

-- ---- answers

pub answer_unbroken : (authority : Authority) (state : BaseView) (pass : ℕ) (clock : ℤ) (request : StepRequest) (reply : StepReply) (event : Option Event) →
    IsWorld state.world → BringsUnbroken request → Answers authority state pass clock request reply event → IsUnbrokenStep reply
answer_unbroken authority state pass clock _ _ _ world brings (answers.unsigned statement signature unaccepted) = tt
answer_unbroken authority state pass clock _ _ _ world brings (answers.duplicate statement signature number signed there) = tt
answer_unbroken authority state pass clock _ _ _ world brings (answers.registry_full statement signature signed new full) = tt
answer_unbroken authority state pass clock _ _ _ world brings (answers.registered statement signature may) = tt
answer_unbroken authority state pass clock _ _ _ world brings (answers.not_live number signature none) = tt
answer_unbroken authority state pass clock _ _ _ world brings (answers.unsigned_withdrawal number signature statement there unaccepted) = tt
answer_unbroken authority state pass clock _ _ _ world brings (answers.withdrawn number signature may) = tt
answer_unbroken authority state pass clock _ _ _ world brings (answers.moved checked number is) = tt
answer_unbroken authority state pass clock _ _ _ world brings (answers.issued checked cited is stand) = tt
answer_unbroken authority state pass clock _ _ _ world brings (answers.denied caller op procaps place cause is) = denial_unbroken authority.key state caller procaps _ _ place cause brings is
answer_unbroken authority state pass clock _ _ _ world brings (answers.refused caller op procaps why admitted is) = tt
answer_unbroken authority state pass clock _ _ _ world brings (answers.acted caller op procaps admitted is) = reply_unbroken state.world op world
answer_unbroken authority state pass clock _ _ _ world brings (answers.not_shown number who none) = tt
answer_unbroken authority state pass clock _ _ _ world brings (answers.shown number who issue is) = tt

pub lawful_answer : (authority : Authority) (base : BaseView) (events : List Event) (pass : ℕ) (clock : ℤ) (request : StepRequest) (reply : StepReply) (event : Option Event) →
    IsLawful authority base events → BringsUnbroken request → Answers authority (replay base events) pass clock request reply event → IsUnbroken (reply_text (replies.Step reply))
lawful_answer authority base events pass clock request reply event lawful brings answer =
    written_unbroken (replies.Step reply) (answer_unbroken authority (replay base events) pass clock request reply event (IsWorld-lawful authority base events lawful) brings answer)
