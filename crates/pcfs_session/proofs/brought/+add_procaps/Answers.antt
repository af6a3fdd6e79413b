-- One word after the other.
use Rattle.std.proofs.Common.{◌-◌, length, take, drop}
use Rattle.std.proofs.lemmas.Result.{IfOk-weaker}
use Rattle.pcfs_session.proofs.BroughtLemmas.{AreAdded-more, AreAdded-unissued, first_word, first_and_others}
use Rattle.pcfs_session.proofs.brought.+add_procaps.Goals as goal

pub returns-in_ok-push-in-Procap : goal.returns-in_ok-push-in-Procap
returns-in_ok-push-in-Procap n c =
    IfOk-weaker c.add_procaps.result _ _ (λ told added.
    AreAdded-more _ _ c.args.words.now c.first-item.result (take (length c.args.words.now - 1) (drop 1 c.args.words.now)) c.args.procaps.now c.push.new.self c.add_procaps.new.procaps c.in_ok-procap-in-len1-up.field-0 c.in-Procap.procap told
    (first_and_others c.args.words.now c.first-item.result c.in-len1-up.len_at_least c.first-item.is) c.in-Procap.is c.in_ok-procap-in-len1-up.ensures c.in_ok-push-in-Procap.ensures.ok added) c.add_procaps.ensures

pub returns-in-Unissued : goal.returns-in-Unissued
returns-in-Unissued n c =
    AreAdded-unissued _ _ c.args.words.now c.first-item.result (drop 1 c.args.words.now) c.args.procaps.now c.args.procaps.now c.in_ok-procap-in-len1-up.field-0 c.in-Unissued.number
    (first_word c.args.words.now c.first-item.result c.in-len1-up.len_at_least c.first-item.is) c.in-Unissued.is c.in_ok-procap-in-len1-up.ensures
