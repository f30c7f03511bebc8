use Rattle.frames.proofs.ReadBack as proved
use Rattle.frames.proofs.telegram_laws_hold.Goals as goal

pub returns : goal.returns
returns c = record { apart = proved.good_is_apart; good = proved.good_is_good }
