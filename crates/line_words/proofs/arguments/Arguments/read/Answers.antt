-- A word without a value of the kind is not of it.
use Rattle.std.proofs.Common.{IfOk, false, ◌≡◌, sym, subst}
use Rattle.line_words.specs.Numbers.{IsFile}
use Rattle.line_words.specs.Kinds.{Sets, IsOutside}
use Rattle.line_words.proofs.ArgumentLemmas.{put_outside}
use Rattle.line_words.proofs.arguments.Arguments.read.Goals as goal

pub returns-in-Node-clause-outside : goal.returns-in-Node-clause-outside
returns-in-Node-clause-outside c none before after h =
    let set = subst (λ kind. Sets kind c.args.word.now before after) c.in-Node.is h in
    put_outside (IsFile c.args.word.now) c.file.result c.put.result c.put.new.field c.file.ensures.found c.put.ensures.found c.put.ensures.outside none after.node set.0

pub returns-in-Target-clause-outside : goal.returns-in-Target-clause-outside
returns-in-Target-clause-outside c none before after h =
    let set = subst (λ kind. Sets kind c.args.word.now before after) c.in-Target.is h in
    put_outside (IsFile c.args.word.now) c.file-in-Target.result c.put-in-Target.result c.put-in-Target.new.field c.file-in-Target.ensures.found c.put-in-Target.ensures.found c.put-in-Target.ensures.outside none after.target set.0

pub returns-in-Procap-clause-outside : goal.returns-in-Procap-clause-outside
returns-in-Procap-clause-outside c =
    subst (λ kind. IfOk c.add_procap.result (λ fits. fits ≡ false → IsOutside kind c.args.word.now)) (sym c.in-Procap.is) c.add_procap.ensures.outside

pub returns-in-SignatureHex-clause-outside : goal.returns-in-SignatureHex-clause-outside
returns-in-SignatureHex-clause-outside c =
    subst (λ kind. IfOk c.set_signature.result (λ fits. fits ≡ false → IsOutside kind c.args.word.now)) (sym c.in-SignatureHex.is) c.set_signature.ensures.outside

pub returns-in-ProcapHex-clause-outside : goal.returns-in-ProcapHex-clause-outside
returns-in-ProcapHex-clause-outside c =
    subst (λ kind. IfOk c.add_written_procap.result (λ fits. fits ≡ false → IsOutside kind c.args.word.now)) (sym c.in-ProcapHex.is) c.add_written_procap.ensures.outside
