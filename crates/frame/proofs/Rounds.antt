-- What turning and renaming need of remainders.
use Rattle.std.proofs.Common.{◌≡◌, ℕ, ◌+◌, ◌-◌, ◌*◌, ◌%◌, ◌<◌, ◌≤◌, ◌∙◌, mod-eq_of_lt, arith}
use native.Mathlib.Nat.{mod-eq-sub-mod}
use Rattle.std.proofs.lemmas.Grind.{common_steps}
use Rattle.frame.specs.Markers.{turned_once, Renames, Turns}

-- in the second round
pub over : (n x : ℕ) → n ≤ x → x < n + n → x % n ≡ x - n
over n x le lt = mod-eq-sub-mod le ∙ mod-eq_of_lt (omega arith)

pub ruleset rounds = (common_steps, mod-eq_of_lt, over)

pub renames : (sof sor rotation : ℕ) → 8 * sor ≤ sof → rotation ≤ 8 * sor → Renames sof sor rotation
renames sof sor rotation room le = grind (arith, rounds)

pub turns : (sor rotation : ℕ) → rotation ≤ 8 * sor - 1 → Turns sor rotation (turned_once sor rotation)
turns sor rotation le = grind (arith, rounds)
