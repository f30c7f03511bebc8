use Rattle.frames.proofs.ReadBack as proved
use Rattle.frames.proofs.sealed_laws_hold.Goals as goal

pub returns : goal.returns
returns g c =
    let s = g.S.Sealer in
    record {
      wrapper = proved.sealed_wrapper_read_back s.ciphertext s.mac s.opened s.long s.wide s.complete;
      notice = proved.sealed_notice_read_back s.mac s.wide;
      response = proved.sealed_response_read_back s.mac s.wide;
    }
