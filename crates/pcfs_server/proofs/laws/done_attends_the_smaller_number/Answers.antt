use Rattle.std.proofs.Common.{◌≡◌, ◌+◌, min, arith, inl, inr}
use Rattle.pcfs_server.proofs.laws.done_attends_the_smaller_number.Goals as goal

pub returns : goal.returns
returns g c n count old new taken cause =
    let all : old ≡ new + n = cc in
    elim cause as (λ _. n ≡ min count old) [
      | inl same ↦ omega arith
      | inr few ↦ let none : new ≡ 0 = few.2 in omega arith
    ]
