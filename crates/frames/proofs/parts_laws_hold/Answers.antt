use Rattle.frames.proofs.Inverted as proved
use Rattle.frames.proofs.parts_laws_hold.Goals as goal

pub returns : goal.returns
returns c = record { wrapper = proved.wrapper_is_its_parts; notice = proved.notice_is_its_parts; authenticate = proved.authenticate_is_its_parts }
