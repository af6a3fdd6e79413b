-- After the four bytes stands what was written.
use Rattle.std.proofs.Common.{◌≡◌, ◌++◌, drop, sym, ap, ◌∙◌}
use Rattle.std.proofs.lemmas.List.{drop_at}
use Rattle.journal_records.specs.EventSpelling.{event_spelling}
use Rattle.op_gate.proofs.KeepLemmas.{on_no_err}
use Rattle.pcfs_store.proofs.keeping.record_of.Goals as goal

pub returns-in-Ok-clause-ok : goal.returns-in-Ok-clause-ok
returns-in-Ok-clause-ok c =
    let written : c.add_payload.new.out ≡ c.in_ok-bytes.bytes ++ event_spelling c.args.event.now =
    on_no_err (c.add_payload.new.out ≡ c.in_ok-bytes.bytes ++ event_spelling c.args.event.now) c.add_payload.result (sym c.is_err.ensures.value ∙ c.if-is_err.false) c.add_payload.ensures.ok in
    c.in-Ok.ensures ∙ ap (drop 4) written ∙ drop_at c.in_ok-bytes.bytes (event_spelling c.args.event.now) 4 c.in_ok-bytes.ensures.ok
