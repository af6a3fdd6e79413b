-- A history may begin with the state of a lawful history: its world, its statements and its issues are as lawful as the base's.
use Rattle.std.proofs.Common.{◌≡◌, ◌<◌, ◌≤◌, ◌+◌, ◌-◌, ◌^◌, ℕ, List, [], ◌∷◌, ◌++◌, false, length, sym, subst, arith}
use Rattle.std.specs.Prelude.{ℤ}
use Rattle.std.specs.List.{AllByRecursion}
use Rattle.std.proofs.lemmas.List.{length-append}
use Rattle.bl_syntax.specs.Statement.{StatementView, IsStatement}
use Rattle.bl_syntax.specs.Grant.{GrantView, AreDistinct}
use Rattle.policy_statement.specs.Registered.{RegisteredView}
use Rattle.policy_statement.proofs.WithdrawalLemmas.{length-marked}
use Rattle.procap.specs.declared.procap.Procap.{Procap}
use Rattle.proof_term.specs.Proof.{ProofView}
use Rattle.file_world.specs.declared.operation.Op.{Op}
use Rattle.file_world.specs.World.{IsWorld}
use Rattle.file_world.proofs.HalvesLemmas.{IsWorld-after}
use Rattle.journal_records.specs.declared.event.Event.{Event}
use Rattle.journal_records.specs.declared.event.Event.TheVariants.{Registered, Withdrawn, Issued, Acted}
use Rattle.access_history.specs.Base.{BaseView}
use Rattle.access_history.specs.Authority.{Authority, MayBeRegistered, IsSignedEntry}
use Rattle.policy_statement.specs.Registry.{sayings}
use Rattle.access_history.specs.Books.{book_of}
use Rattle.access_history.specs.Citing.{IsGoodIssue, MayBeIssued, MayBeWithdrawn}
use Rattle.access_history.specs.Replay.{next_state, replay}
use Rattle.access_history.specs.Lawful.{MayAct, MayFollow, AreLawful, no_event, one_more, IsLawfulBase, IsLawful}
use Rattle.bl_syntax.proofs.GrantLemmas.{AllByRecursion-push, AreDistinct-push}
use Rattle.access_history.proofs.ListLemmas.{AllByRecursion-weaker}
use Rattle.access_history.proofs.ReplayLemmas.{world_left-after, replay-more, count-replay}
use Rattle.access_history.proofs.CitingLemmas.{said_length, sayings-more, sayings-marked, all_marked, IsGoodIssue-more}

module _ (authority : Authority) (state : BaseView) (base : IsLawfulBase authority state) (below : state.count < 2 ^ 48 - 1) where
  registered_base : (pass : ℕ) (statement : StatementView) (signature : List ℕ) → MayBeRegistered authority state.statements statement signature → IsLawfulBase authority (next_state state (Registered pass statement signature))
  registered_base pass statement signature may =
      let entry : RegisteredView = record { statement = statement; signature = signature; withdrawn = false } in
      let more : sayings (state.statements ++ entry ∷ []) ≡ sayings state.statements ++ statement ∷ [] = sayings-more state.statements statement signature in
      record {
        tree = base.tree;
        statements_differ = subst (λ (ss : List StatementView). AreDistinct ss) (sym more) (AreDistinct-push (sayings state.statements) statement base.statements_differ may.can.new);
        statements_formed = subst (λ (ss : List StatementView). AllByRecursion IsStatement ss) (sym more) (AllByRecursion-push IsStatement (sayings state.statements) statement base.statements_formed may.statement);
        statements_signed = AllByRecursion-push (IsSignedEntry authority) state.statements entry base.statements_signed may.signed;
        statements_fit = omega (arith, may.can.room, said_length state.statements, length-append state.statements (entry ∷ []));
        moment_in_range = base.moment_in_range;
        good_issues = subst (λ (ss : List StatementView). AllByRecursion (IsGoodIssue ss) state.issues) (sym more)
            (AllByRecursion-weaker (IsGoodIssue (sayings state.statements)) (IsGoodIssue (sayings state.statements ++ statement ∷ [])) state.issues (IsGoodIssue-more (sayings state.statements) (statement ∷ [])) base.good_issues);
        counted = omega (arith, below);
      }

  withdrawn_base : (pass number : ℕ) (signature : List ℕ) → MayBeWithdrawn authority (book_of state) number signature → IsLawfulBase authority (next_state state (Withdrawn pass number signature))
  withdrawn_base pass number signature may =
      let same = sayings-marked state.statements number in
      let fit = base.statements_fit in
      record {
        tree = base.tree;
        statements_differ = subst (λ (ss : List StatementView). AreDistinct ss) (sym same) base.statements_differ;
        statements_formed = subst (λ (ss : List StatementView). AllByRecursion IsStatement ss) (sym same) base.statements_formed;
        statements_signed = all_marked (IsSignedEntry authority) (λ entry signed. signed) state.statements number base.statements_signed;
        statements_fit = omega (arith, fit, length-marked state.statements number);
        moment_in_range = base.moment_in_range;
        good_issues = subst (λ (ss : List StatementView). AllByRecursion (IsGoodIssue ss) state.issues) (sym same) base.good_issues;
        counted = omega (arith, below);
      }

  issued_base : (pass : ℕ) (cited : List ℕ) (proof : ProofView) (g : GrantView) → MayBeIssued state (record { cited = cited; proof = proof; grant = g }) → IsLawfulBase authority (next_state state (Issued pass cited proof g))
  issued_base pass cited proof g may = record {
    tree = base.tree;
    statements_differ = base.statements_differ;
    statements_formed = base.statements_formed;
    statements_signed = base.statements_signed;
    statements_fit = base.statements_fit;
    moment_in_range = base.moment_in_range;
    good_issues = AllByRecursion-push (IsGoodIssue (sayings state.statements)) state.issues (record { cited = cited; proof = proof; grant = g }) base.good_issues may.good;
    counted = omega (arith, below);
  }

  acted_base : (pass : ℕ) (caller : List ℕ) (op : Op) (procaps : List Procap) (moment : ℤ) → MayAct authority state caller op procaps moment → IsLawfulBase authority (next_state state (Acted pass caller op procaps moment))
  acted_base pass caller op procaps moment may = record {
    tree = subst IsWorld (sym (world_left-after caller op state.world may.not_refused)) (IsWorld-after caller op state.world base.tree may.formed.named may.formed.operation may.not_refused);
    statements_differ = base.statements_differ;
    statements_formed = base.statements_formed;
    statements_signed = base.statements_signed;
    statements_fit = base.statements_fit;
    moment_in_range = may.in_range;
    good_issues = base.good_issues;
    counted = omega (arith, below);
  }

  -- after an event that may come next
  IsLawfulBase-next : (event : Event) → MayFollow authority state event → IsLawfulBase authority (next_state state event)
  IsLawfulBase-next (Registered pass statement signature) may = registered_base pass statement signature may
  IsLawfulBase-next (Withdrawn pass number signature) may = withdrawn_base pass number signature may
  IsLawfulBase-next (Issued pass cited proof g) may = issued_base pass cited proof g may
  IsLawfulBase-next (Acted pass caller op procaps moment) may = acted_base pass caller op procaps moment may

IsLawfulBase-replay : (authority : Authority) (base : BaseView) (events : List Event) → IsLawfulBase authority base → base.count + length events ≤ 2 ^ 48 - 1 → AreLawful authority base events → IsLawfulBase authority (replay base events)
IsLawfulBase-replay authority base events start counted no_event = start
IsLawfulBase-replay authority base events start counted (one_more before event lawful follows) =
    let more = length-append before (event ∷ []) in
    let earlier : IsLawfulBase authority (replay base before) = IsLawfulBase-replay authority base before start (omega (arith, counted, more)) lawful in
    rw (replay-more base before event) (IsLawfulBase-next authority (replay base before) earlier (omega (arith, counted, more, count-replay base before)) event follows)

-- a history may begin with the state after a lawful history
pub IsLawfulBase-lawful : (authority : Authority) (base : BaseView) (events : List Event) → IsLawful authority base events → IsLawfulBase authority (replay base events)
IsLawfulBase-lawful authority base events lawful = IsLawfulBase-replay authority base events lawful.lawful_base lawful.counted lawful.each

-- the world of the state after a lawful history is within its limits
pub IsWorld-lawful : (authority : Authority) (base : BaseView) (events : List Event) → IsLawful authority base events → IsWorld (replay base events).world
IsWorld-lawful authority base events lawful = (IsLawfulBase-lawful authority base events lawful).tree
