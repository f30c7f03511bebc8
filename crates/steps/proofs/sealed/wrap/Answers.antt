use Rattle.rules.specs.Meaning.{meaning}
use Rattle.std.proofs.Common.{◌∙◌, arith}
use Rattle.steps.proofs.Lengths.{put_front, put_length, small_room, wrapper_length}
use Rattle.steps.proofs.sealed.wrap.Goals as goal

pub returns : goal.returns
returns g c =
    let t = c.args.telegram.now in
    let out = c.args.out.now in
    let long = wrapper_length (meaning g.S.Sealer) c.args.key.now c.told-key c.args.session c.args.stamp.number c.args.stamp.serial c.args.stamp.tag t in
    let is = c.seal_wrapper.ensures.length ∙ small_room _ out c.requires.small in
    record {
      length = put_length _ _ out long (omega (arith, c.requires.small, c.told-out)) _ is _ _ c.ok_or.ensures.value;
      out = put_front _ _ out long (omega (arith, c.requires.small, c.told-out)) _ is _ c.seal_wrapper.ensures.out;
    }
