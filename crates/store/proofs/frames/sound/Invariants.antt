-- The frames so far are below n, and all different.
use Rattle.std.proofs.Common.{ℕ, ◌<◌, get_or}
use Rattle.store.specs.Frames.{Fresh}
use Rattle.store.proofs.frames.sound.Given as goal

abbrev pub invariant-loop-i : goal.invariant-loop-i
invariant-loop-i l = ((k : ℕ) → k < l.i → get_or l.frames k 0 < l.n) × ((k : ℕ) → k < l.i → Fresh l.frames k)
