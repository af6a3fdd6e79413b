-- Each number is looked up among the statements.
use Rattle.std.proofs.Common.{◌≡◌, ℕ, List, take, refl, sym, subst, arith}
use Rattle.std.proofs.lemmas.List.{take_all}
use Rattle.proof_verifier.specs.declared.cites.Cite.{Cite}
use Rattle.access_history.specs.Citing.{AreFound}
use Rattle.op_gate.specs.Citations.{book_among}
use Rattle.op_gate.proofs.CitingLemmas.{IsAbsent-at, AreFound-more}
use Rattle.op_gate.proofs.cite.cite.Goals as goal

pub returns-in-None : goal.returns-in-None
returns-in-None c =
    IsAbsent-at (book_among c.args.among c.args.entries.now) c.args.numbers.now c.loop-number.number-index _ c.loop-number.cites.items c.loop-number-test.true refl c.loop-number.invariant c.in-None.ensures

pub loop-number-preserved : goal.loop-number-preserved
loop-number-preserved c =
    AreFound-more (book_among c.args.among c.args.entries.now) c.args.numbers.now c.loop-number.number-index _ c.loop-number.cites.items c.push.new.self.items c.in-Some.statement.now c.in_ok-copy-in-Some.field-0 c.loop-number-test.true refl c.loop-number.invariant
    c.in-Some.ensures c.in_ok-copy-in-Some.ensures c.in_ok-push-in-Some.ensures.items

pub returns : goal.returns
returns c =
    let book = book_among c.args.among c.args.entries.now in
    let all : take c.loop-number.number-index c.args.numbers.now ≡ c.args.numbers.now = take_all c.loop-number.number-index c.args.numbers.now (omega (arith, c.loop-number-test.false)) in
    let found = subst (λ (ns : List ℕ). AreFound book ns c.loop-number.cites.items) all c.loop-number.invariant in
    subst (λ (cs : List Cite). AreFound book c.args.numbers.now cs) (sym c.new.ensures) found
