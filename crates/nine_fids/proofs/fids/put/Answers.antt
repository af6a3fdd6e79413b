-- The fid goes to the place of the number, or to the gap for it.
use Rattle.std.proofs.Common.{◌≡◌, is_ok, set, sym, ap, ◌∙◌, arith, subst}
use Rattle.std.specs.List.{insert}
use Rattle.std.proofs.lemmas.Bool.{cond-true}
use Rattle.nine_fids.specs.Fids.{FidList, with_entry}
use Rattle.nine_fids.specs.Index.{AreRising, IsFidAt, IsGap}
use Rattle.nine_fids.proofs.FidLemmas.{Entry, fid_in-missing, with_entry-found, with_entry-missing, AreRising-with, length-with_missing}
use Rattle.nine_fids.proofs.fids.put.Goals as goal

pub unwrap-requires : goal.unwrap-requires
unwrap-requires c =
    let gap = subst (λ (items : FidList). IsGap items c.args.number c.in-Err.place) c.as_slice.ensures.value c.in-Err.ensures.absent in
    let more = length-with_missing c.args.entries.now.items c.args.number c.args.fid (fid_in-missing c.args.entries.now.items c.args.number c.in-Err.place gap) in
    c.insert-put.ensures.succeeds (omega (arith, more, c.requires.room, c.args.entries.now.ok.0))

pub returns-in-Ok-clause-put : goal.returns-in-Ok-clause-put
returns-in-Ok-clause-put c =
    let at = subst (λ (items : FidList). IsFidAt items c.args.number c.in-Ok.place) c.as_slice.ensures.value c.in-Ok.ensures.found in
    ap (λ (e : Entry). set c.args.entries.now.items c.in-Ok.place e) c.new.ensures
    ∙ sym (with_entry-found c.args.entries.now.items c.args.number c.args.fid c.in-Ok.place at)

pub returns-in-Ok-clause-rising : goal.returns-in-Ok-clause-rising
returns-in-Ok-clause-rising c =
    let at = subst (λ (items : FidList). IsFidAt items c.args.number c.in-Ok.place) c.as_slice.ensures.value c.in-Ok.ensures.found in
    let is = ap (λ (e : Entry). set c.args.entries.now.items c.in-Ok.place e) c.new.ensures ∙ sym (with_entry-found c.args.entries.now.items c.args.number c.args.fid c.in-Ok.place at) in
    subst AreRising (sym is) (AreRising-with c.args.entries.now.items c.args.number c.args.fid c.requires.rising)

pub returns-in-Err-clause-put : goal.returns-in-Err-clause-put
returns-in-Err-clause-put c =
    let gap = subst (λ (items : FidList). IsGap items c.args.number c.in-Err.place) c.as_slice.ensures.value c.in-Err.ensures.absent in
    c.insert-put.ensures.items
    ∙ (cond-true (is_ok c.insert-put.result) _ _ (ap is_ok c.unwrap.ensures)
    ∙ ap (λ (e : Entry). insert c.args.entries.now.items c.in-Err.place e) c.new-entry.ensures
    ∙ sym (with_entry-missing c.args.entries.now.items c.args.number c.args.fid c.in-Err.place gap))

pub returns-in-Err-clause-rising : goal.returns-in-Err-clause-rising
returns-in-Err-clause-rising c =
    let gap = subst (λ (items : FidList). IsGap items c.args.number c.in-Err.place) c.as_slice.ensures.value c.in-Err.ensures.absent in
    let is : c.insert-put.new.self.items ≡ with_entry c.args.entries.now.items c.args.number c.args.fid =
    c.insert-put.ensures.items
    ∙ (cond-true (is_ok c.insert-put.result) _ _ (ap is_ok c.unwrap.ensures)
    ∙ ap (λ (e : Entry). insert c.args.entries.now.items c.in-Err.place e) c.new-entry.ensures
    ∙ sym (with_entry-missing c.args.entries.now.items c.args.number c.args.fid c.in-Err.place gap)) in
    subst AreRising (sym is) (AreRising-with c.args.entries.now.items c.args.number c.args.fid c.requires.rising)
