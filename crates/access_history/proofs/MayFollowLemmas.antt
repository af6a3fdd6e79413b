-- The event of an answer may come next.
use Rattle.std.proofs.Common.{ℕ, refl, arith, Some}
use Rattle.std.specs.Prelude.{ℤ, ◌≤ℤ◌}
use Rattle.std.specs.Int.{int_max}
use Rattle.std.proofs.lemmas.Int.{ints, int_max_is}
use Rattle.bl_syntax.specs.TimeOrder.{IsMoment}
use Rattle.journal_records.specs.declared.event.Event.{Event}
use Rattle.access_history.specs.declared.request.StepRequest.{StepRequest}
use Rattle.access_history.specs.declared.reply.StepReply.{StepReply}
use Rattle.access_history.specs.Base.{BaseView}
use Rattle.access_history.specs.Books.{book_of}
use Rattle.access_history.specs.Authority.{Authority}
use Rattle.access_history.specs.Answer.{Answers, registered, withdrawn, issued, acted, moment_of}
use Rattle.access_history.specs.WellFormed.{IsWellFormed}
use Rattle.access_history.specs.Lawful.{IsLawfulBase, MayFollow}
use Rattle.access_history.proofs.AdmissionLemmas.{AreDerived-admitted}
use Rattle.access_history.proofs.CitingLemmas.{IsGrantedFrom-checked, have_numbers, stand_registered}

-- the greater of two moments is a moment, and not before the second
max_in_range : (a b : ℤ) → IsMoment a → IsMoment b → IsMoment (int_max a b)
max_in_range a b m n = record { not_before = omega (arith, ints, int_max_is a b, m.not_before, n.not_before); not_after = omega (arith, ints, int_max_is a b, m.not_after, n.not_after) }

last_up_to_max : (a b : ℤ) → b ≤ℤ int_max a b
last_up_to_max a b = omega (arith, ints, int_max_is a b)

-- the event of an answer may come next
pub MayFollow-answered : (authority : Authority) (state : BaseView) (pass : ℕ) (clock : ℤ) (request : StepRequest) (answer : StepReply) (event : Event)
    → IsLawfulBase authority state → IsMoment clock → IsWellFormed request → Answers authority state pass clock request answer (Some event) → MayFollow authority state event
MayFollow-answered authority state pass clock request answer event base at formed (registered statement signature may) = may
MayFollow-answered authority state pass clock request answer event base at formed (withdrawn number signature may) = may
MayFollow-answered authority state pass clock request answer event base at formed (issued checked rising granted stand) =
    record {
      good = record { cites = checked.cited; cited = refl; rising = rising; stand = stand_registered state checked.cited stand; granted = IsGrantedFrom-checked checked granted };
      held = have_numbers (book_of state) checked.cited stand;
    }
MayFollow-answered authority state pass clock request answer event base at formed (acted caller op procaps admitted free) = record {
  not_before = last_up_to_max clock state.moment;
  in_range = max_in_range clock state.moment at base.moment_in_range;
  formed = formed;
  admitted = admitted;
  not_refused = free;
  derived = AreDerived-admitted authority.key state caller op procaps (moment_of state clock) base.good_issues admitted;
}
