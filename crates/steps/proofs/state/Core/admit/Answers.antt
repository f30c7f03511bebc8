use Rattle.std.proofs.Common.{ap, arith}
use Rattle.steps.proofs.state.Core.admit.Goals as goal

pub overflow_add-slot : goal.overflow_add-slot
overflow_add-slot c = record { fits = omega (arith, ap (λ s. s.own) c.slot-slot.ensures, (c.requires.ready.fit.sessions _ _ c.requires.stands.session).countable) }
