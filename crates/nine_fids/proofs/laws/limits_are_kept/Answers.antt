use Rattle.nine_fids.proofs.LawLemmas.{within_begun, within_decided, within_walked}
use Rattle.nine_fids.proofs.laws.limits_are_kept.Goals as goal

pub returns-clause-begun : goal.returns-clause-begun
returns-clause-begun c = λ nonce. within_begun nonce

pub returns-clause-decided : goal.returns-clause-decided
returns-clause-decided c = λ s asked m within. within_decided s asked m within

pub returns-clause-walked : goal.returns-clause-walked
returns-clause-walked c = λ s newfid names found within room. within_walked s newfid names found within room
