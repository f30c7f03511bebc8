use Rattle.rules.specs.Meaning.{meaning}
use Rattle.std.proofs.Common.{arith}
use Rattle.steps.proofs.Lengths.{put_front, put_length, response_length}
use Rattle.steps.proofs.sealed.respond.Goals as goal

pub returns : goal.returns
returns g c =
    let out = c.args.out.now in
    let long = response_length (meaning g.S.Sealer) c.args.key.now c.told-key c.args.session c.args.x.now c.args.y.now c.told-y in
    let is = c.seal_response.ensures.length in
    record {
      length = put_length _ _ out long (omega (arith, c.told-out)) _ is _ _ c.ok_or.ensures.value;
      out = put_front _ _ out long (omega (arith, c.told-out)) _ is _ c.seal_response.ensures.out;
    }
