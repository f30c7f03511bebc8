use Rattle.octets.proofs.Laws as proved
use Rattle.octets.proofs.number_laws_hold.Goals as goal

pub returns : goal.returns
returns c = record {
  value_of_octets = proved.value_of_octets;
  octets_of_value = proved.octets_of_value;
  value_below = proved.value_below;
  length_of_octets = proved.length_of_octets;
  octets_are_octets = proved.octets_are_octets;
}
