-- One member after the other.
use Rattle.std.proofs.Common.{◌≡◌, ◌++◌, List, ℕ, subst}
use Rattle.std.specs.Prelude.{OnOk, codes}
use Rattle.std.specs.Fmt.{decimal}
use Rattle.history_text.specs.Strings.{string_text}
use Rattle.bl_text.specs.Printed.{permission_text}
use Rattle.history_text.specs.Objects.{need_members, text_member}
use Rattle.history_text.proofs.TextLemmas.{joined4}
use Rattle.history_text.proofs.objects.put_need.Goals as goal

pub returns : goal.returns
returns c =
    let out = c.args.out.now in
    let one = c.args.one.now in
    let whole : c.put_counted.new.out ++ text_member (codes ",\"path\":") one.path ≡ out ++ need_members one =
    joined4 out c.put_text.new.out c.put_permission_string.new.out c.put_counted.new.out (codes "{\"permission\":") (string_text (permission_text one.permission)) (codes ",\"file\":" ++ decimal one.file.0) (text_member (codes ",\"path\":") one.path)
    c.in_ok-put_text.ensures.ok c.in_ok-put_permission_string.ensures c.in_ok-put_counted.ensures.ok in
    subst (λ (text : List ℕ). OnOk c.put_path.result (c.put_path.new.out ≡ text)) whole c.put_path.ensures
