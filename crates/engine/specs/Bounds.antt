-- What no instruction does: bounds that hold of every engine.
use Rattle.std.specs.Prelude.{◌≡◌, ℕ, ◌+◌, ◌≤◌, Err, Result, ◌≢◌}
use Rattle.context.specs.declared.refusals.Refusal.{Refusal}
use Rattle.context.specs.declared.refusals.Refusal.TheVariants.{Depth}
use Rattle.engine.specs.declared.instructions.Answer.{Answer}
use Rattle.engine.specs.declared.instructions.Instruction.{Instruction}
use Rattle.engine.specs.declared.instructions.Instruction.TheVariants.{Restore, Alloc}

-- a restore is never refused for its depth: the frame that was covered lies below base
abbrev pub NeverTooDeep : Instruction → Result Answer Refusal → Type 0
NeverTooDeep i r = i ≡ Restore → r ≢ Err Depth

-- an alloc writes at most 98 words, granted or not: 96 registers, and two collections
abbrev pub FewWritten : Instruction → ℕ → ℕ → Type 0
FewWritten i before after = (sof sol sor : ℕ) → i ≡ Alloc sof sol sor → after ≤ before + 98
