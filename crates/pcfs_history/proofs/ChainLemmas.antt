-- The states at both ends of a lawful history have images.
use Rattle.std.proofs.Common.{◌<◌, ◌^◌, length}
use Rattle.access_history.specs.History.{HistoryView, authority_of, state_of}
use Rattle.access_history.specs.Lawful.{IsLawful}
use Rattle.access_history.proofs.LawfulLemmas.{IsLawfulBase-lawful}
use Rattle.checkpoint.specs.Laws.{LawfulStatesFit}
use Rattle.checkpoint.specs.Writing.{FitsImage}

-- the state at the end of a lawful history fits an image
pub end_fits : (h : HistoryView) → LawfulStatesFit → IsLawful (authority_of h) h.base h.events → length (state_of h).issues < 2 ^ 32 → FitsImage (state_of h)
end_fits h fit lawful few = fit h.key h.ring (state_of h) (IsLawfulBase-lawful (authority_of h) h.base h.events lawful) few

-- and that at its begin
pub begin_fits : (h : HistoryView) → LawfulStatesFit → IsLawful (authority_of h) h.base h.events → length h.base.issues < 2 ^ 32 → FitsImage h.base
begin_fits h fit lawful few = fit h.key h.ring h.base lawful.lawful_base few
