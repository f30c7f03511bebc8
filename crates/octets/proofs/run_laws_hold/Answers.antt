use Rattle.octets.proofs.Laws as proved
use Rattle.octets.proofs.run_laws_hold.Goals as goal

pub returns : goal.returns
returns c = record {
  run_is_part = proved.run_is_part;
  number_of_whole = proved.number_of_whole;
  number_below = proved.number_below;
  over_keeps_length = proved.over_keeps_length;
  over_is_read = proved.over_is_read;
  over_keeps_before = proved.over_keeps_before;
  over_keeps_after = proved.over_keeps_after;
  xor_keeps_length = proved.xor_keeps_length;
  xor_keeps_octets = proved.xor_keeps_octets;
  xor_twice = proved.xor_twice;
  xor_swaps = proved.xor_swaps;
}
