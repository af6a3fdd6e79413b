use Rattle.checkpoint_image.proofs.ImageLemmas.{whole_again, left_over, cut}
use Rattle.checkpoint_image.proofs.laws.images_are_whole.Goals as goal

pub returns : goal.returns
returns c = record { again = whole_again; left_over = left_over; cut = cut }
