use Rattle.frames.proofs.ReadBack as proved
use Rattle.frames.proofs.read_back_laws_hold.Goals as goal

pub returns : goal.returns
returns c = record {
  wrapper = proved.wrapper_read_back;
  notice = proved.notice_read_back;
  response = proved.response_read_back;
  no_session = proved.no_session_read_back;
  status = proved.status_read_back;
  authenticate = proved.authenticate_read_back;
}
