-- What is drawn for the rounds of a generated script, from the upper bits of a linear congruential
-- generator (its multiplier and increment are those of Knuth's MMIX).
use Rattle.std.specs.Prelude.{ℕ, ◌+◌, ◌*◌, ◌/◌, ◌%◌, ◌^◌, ◌==◌, if◌then◌else◌}
use Rattle.generated_script.specs.declared.drawing.Kind.{Kind}
use Rattle.generated_script.specs.declared.drawing.Kind.TheVariants.{Create, Prove, Again, Give}
use Rattle.generated_script.specs.declared.drawing.Round.{Round}

-- the state of the draws after one more
unfoldable pub state_after : ℕ → ℕ
state_after state = ((state * 6364136223846793005) % 2 ^ 64 + 1442695040888963407) % 2 ^ 64

-- what is drawn in a state, below a limit
unfoldable pub drawn : ℕ → ℕ → ℕ
drawn state limit = (state / 2 ^ 33) % limit

-- what a round does, by the number that is drawn for it
abbrev pub kind_of : ℕ → Kind
kind_of number =
    if number == 0 then Create else
    if number == 1 then Prove else
    if number == 2 then Again else
    Give

-- what is drawn for a round, from the state before it
unfoldable pub round_from : ℕ → Round
round_from state =
    let first = state_after state in
    let second = state_after first in
    let third = state_after second in
    let fourth = state_after third in
    record { user = drawn first 8; file = 2 + drawn second 16; kind = kind_of (drawn third 4); choice = drawn fourth 8; state = fourth }
