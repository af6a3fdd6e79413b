-- The fid at the place of the number goes.
use Rattle.std.proofs.Common.{sym, ◌∙◌, subst}
use Rattle.file_world.proofs.RowLemmas.{rising-removed}
use Rattle.nine_fids.specs.Fids.{FidList}
use Rattle.nine_fids.specs.Index.{AreRising, IsFidAt, IsGap}
use Rattle.nine_fids.proofs.FidLemmas.{without_entry-found, without_entry-missing}
use Rattle.nine_fids.proofs.fids.take_out.Goals as goal

pub returns-in-Ok-clause-taken : goal.returns-in-Ok-clause-taken
returns-in-Ok-clause-taken c =
    let at = subst (λ (items : FidList). IsFidAt items c.args.number c.in-Ok.place) c.as_slice.ensures.value c.in-Ok.ensures.found in
    c.remove.ensures.items ∙ sym (without_entry-found c.args.entries.now.items c.args.number c.in-Ok.place at)

pub returns-in-Ok-clause-rising : goal.returns-in-Ok-clause-rising
returns-in-Ok-clause-rising c =
    let at = subst (λ (items : FidList). IsFidAt items c.args.number c.in-Ok.place) c.as_slice.ensures.value c.in-Ok.ensures.found in
    subst AreRising (sym (c.remove.ensures.items ∙ sym (without_entry-found c.args.entries.now.items c.args.number c.in-Ok.place at)))
    (rising-removed c.args.number c.args.entries.now.items c.requires)

pub returns-in_default-clause-taken : goal.returns-in_default-clause-taken
returns-in_default-clause-taken c =
    sym (without_entry-missing c.args.entries.now.items c.args.number c.in_default.field-0 (subst (λ (items : FidList). IsGap items c.args.number c.in_default.field-0) c.as_slice.ensures.value c.in_default.ensures.absent))
