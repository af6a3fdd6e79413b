-- The line may not come there, or it is read.
use Rattle.std.proofs.Common.{sym, ◌∙◌}
use Rattle.std.proofs.lemmas.Bool.{false≢true}
use Rattle.pcfs_inquiry.specs.Inquiry.{out_of_place}
use Rattle.pcfs_inquiry.proofs.InquiryLemmas.{read_there}
use Rattle.pcfs_inquiry.proofs.reading.read_after.Goals as goal

pub returns-then-is_out_of_place : goal.returns-then-is_out_of_place
returns-then-is_out_of_place c = out_of_place (c.is_out_of_place.ensures.0 c.if-is_out_of_place.true)

pub returns : goal.returns
returns c = read_there c.read_line_in.result c.args.count c.args.line.now (λ out. false≢true (sym c.if-is_out_of_place.false ∙ c.is_out_of_place.ensures.1 out)) c.read_line_in.ensures
