-- The digit of the principal's class at the file of that number decides.
use Rattle.std.proofs.Common.{◌≡◌, ◌∙◌, ℕ, ap}
use Rattle.mode_policy.specs.declared.modes.Class.{Class}
use Rattle.mode_policy.specs.Allowed.{class_of}
use Rattle.mode_policy.specs.Modes.{digit_of, permits}
use Rattle.mode_policy.proofs.AllowsLemmas.{allowed_iff}
use Rattle.mode_policy.proofs.PlacesLemmas.{Contains-get}
use Rattle.mode_policy.proofs.table.ModeTable.allows.Goals as goal

pub returns-in-Some-find_file : goal.returns-in-Some-find_file
returns-in-Some-find_file c =
    let t = c.args.self.now in
    let f = c.file-f.result in
    let digit : c.digit.result ≡ digit_of c.file-f.result.modes (class_of c.args.self.now c.file-f.result c.args.who.now) =
    c.digit.ensures ∙ ap (λ (k : Class). digit_of c.file-f.result.modes k) c.class_of.ensures in
    allowed_iff t c.args.who.now c.args.file c.args.perm c.in-Some-find_file.place c.in-Some-find_file.ensures f c.file-f.ensures c.permits.result
    (Contains-get t.who c.in-Some.field-0 c.args.who.now c.in-Some.ensures.here) (c.permits.ensures ∙ ap (λ (d : ℕ). permits d c.args.perm) digit)
