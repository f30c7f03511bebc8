use Rattle.rules.specs.Meaning.{meaning}
use Rattle.std.proofs.Common.{arith}
use Rattle.steps.proofs.Lengths.{notice_length, put_front, put_length}
use Rattle.steps.proofs.sealed.notify.Goals as goal

pub returns : goal.returns
returns g c =
    let out = c.args.out.now in
    let long = notice_length (meaning g.S.Sealer) c.args.key.now c.told-key c.args.stamp.number c.args.stamp.serial c.args.stamp.tag in
    let is = c.seal_notice.ensures.length in
    record {
      length = put_length _ _ out long (omega (arith, c.told-out)) _ is _ _ c.ok_or.ensures.value;
      out = put_front _ _ out long (omega (arith, c.told-out)) _ is _ c.seal_notice.ensures.out;
    }
