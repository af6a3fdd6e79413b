use Rattle.std.proofs.Common.{sym, ◌∙◌, ap, Some}
use Rattle.nine_fids.proofs.FidLemmas.{Entry, fid_in-found, fid_in-missing}
use Rattle.nine_fids.proofs.fids.fid_among.Goals as goal

pub returns-in-Ok : goal.returns-in-Ok
returns-in-Ok c =
    ap Some (c.fid.ensures ∙ ap (λ (e : Entry). e.1) c.index-entries-place.is)
    ∙ sym (fid_in-found c.args.entries.now c.args.number c.in-Ok.place _ c.in-Ok.ensures.found)

pub returns-in-Err : goal.returns-in-Err
returns-in-Err c = sym (fid_in-missing c.args.entries.now c.args.number _ c.in-Err.ensures.absent)
