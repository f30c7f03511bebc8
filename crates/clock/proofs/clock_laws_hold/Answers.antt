use Rattle.clock.proofs.Clocks as proved
use Rattle.clock.proofs.clock_laws_hold.Goals as goal

pub returns : goal.returns
returns c = record {
  started = proved.new_is_the_rule;
  heard = proved.heard_is_the_rule;
  passed = proved.passed_is_the_rule;
  sent = proved.sent_is_the_rule;
  notified = proved.notified_is_the_rule;
}
