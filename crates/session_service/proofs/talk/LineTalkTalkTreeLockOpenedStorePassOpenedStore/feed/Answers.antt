-- The piece is held, or a line is too long.
use Rattle.session_service.proofs.HeldLemmas.{held_long}
use Rattle.session_service.proofs.talk.LineTalkTalkTreeLockOpenedStorePassOpenedStore.feed.Goals as goal

pub returns-in-Err-TooLong : goal.returns-in-Err-TooLong
returns-in-Err-TooLong g c clock state mark left stands is =
    let too_long = rw c.in-Err-TooLong.field-0-is at c.in-Err-TooLong.ensures in
    record { state_is = stands.state_is; held = held_long c.args.self.now.framer c.feed.new.self c.args.self.now.is_long left c.args.piece.now is stands.held too_long }
