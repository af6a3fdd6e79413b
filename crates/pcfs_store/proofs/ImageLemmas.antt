-- Which states have an image.
use Rattle.std.proofs.Common.{◌≡◌, [], false, refl, sym, subst, arith}
use Rattle.access_history.specs.Replay.{fresh}
use Rattle.access_history.specs.Authority.{Authority}
use Rattle.access_history.proofs.FreshLemmas.{IsLawfulBase-fresh}
use Rattle.record_parts.specs.Fields.{number_spelling, moment_spelling, sized_bytes_spelling}
use Rattle.checkpoint_image.specs.NodeSpelling.{node_head_spelling, node_tail_spelling}
use Rattle.checkpoint_image.specs.ImageSpelling.{head_spelling, fields_spelling, image_spelling, IsSpellableImage}
use Rattle.checkpoint_image.proofs.WorldLemmas.{worlds_have_images}
use Rattle.checkpoint.specs.Reading.{IsSpelledAs, current}
use Rattle.pcfs_store.specs.Image.{fresh_image, IsImageOf}

-- ---- the state before the first event

fresh_is : (authority : Authority) → IsSpellableImage fresh
fresh_is authority =
    let lawful = IsLawfulBase-fresh authority in
    record {
      moment = lawful.moment_in_range;
      count = omega arith;
      next = omega arith;
      statements = record { few = omega arith; each = tt };
      issues = record { few = omega arith; each = tt };
      nodes = worlds_have_images fresh.world lawful.tree;
    }

pub fresh_spelling : fresh_image ≡ image_spelling fresh
unfolding image_spelling fields_spelling head_spelling moment_spelling number_spelling node_head_spelling node_tail_spelling sized_bytes_spelling
fresh_spelling = refl

nobody : Authority
nobody = record { key = []; accepts = λ who message signature. false }

pub fresh_has_image : IsImageOf fresh fresh_image
fresh_has_image = record { world = (IsLawfulBase-fresh nobody).tree; spelled = subst (IsSpelledAs fresh) (sym fresh_spelling) (current (fresh_is nobody)) }
