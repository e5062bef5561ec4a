use Rattle.std.proofs.Common.{◌≡◌, ◌-◌, ◌<◌}
use Rattle.register.specs.Slots.{registers_cleared}
use Rattle.register.proofs.ring.clear_registers.Given as goal

abbrev pub invariant-loop-p : goal.invariant-loop-p
invariant-loop-p g l =
    (l.slots ≡ registers_cleared g.K.Kind.zero_content (l.p - l.low) l.low l.initial.slots) × (l.high < l.low → l.p ≡ l.low)
