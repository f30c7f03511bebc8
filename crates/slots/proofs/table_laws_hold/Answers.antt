use Rattle.slots.proofs.Ruled as proved
use Rattle.slots.proofs.table_laws_hold.Goals as goal

pub returns : goal.returns
returns c = record {
  empty = proved.empty_is_the_rule;
  puts = proved.puts_is_the_rule;
  waits = proved.waits_is_the_rule;
  lapsed = proved.lapsed_is_the_rule;
  apart = proved.distinct_is_apart;
}
