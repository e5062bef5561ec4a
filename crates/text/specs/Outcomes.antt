-- What is printed of a line's outcome, and what that tells. Assumes nothing.
use Rattle.std.specs.Prelude.{◌≡◌, ℕ, ◌≤◌, List, [], ◌∷◌, length, Ok, Err, is_ok, Result, ◌≢◌}
use Rattle.context.specs.declared.refusals.Refusal.{Refusal}
use Rattle.engine.specs.declared.instructions.Answer.{Answer}
use Rattle.text.specs.declared.session.RunFault.{RunFault}
use Rattle.text.specs.Numbers.{Words}
use Rattle.text.specs.Printed.{values_of, refusal_values, printed_answer, printed_refusal, printed_end}

-- an `Outcome`, since antt has no name for an alias
abbrev pub LineOutcome : Type 0
LineOutcome = Result Answer RunFault

-- a refusal, at a line
abbrev pub fault_at : Refusal → ℕ → RunFault
fault_at d n = record { refusal = d; line = n }

-- the line that is printed of an outcome
abbrev pub printed : LineOutcome → List ℕ
printed (Ok a) = printed_answer a
printed (Err f) = printed_refusal f.refusal

-- the values of an outcome: those of the answer, or the refusal's number, and for a shut word also the word
abbrev pub told_of : LineOutcome → List ℕ
told_of (Ok a) = values_of a
told_of (Err f) = refusal_values f.refusal

-- a printed line tells whether the instruction was granted, and the values
abbrev pub Tells : Type 0
Tells = (o p : LineOutcome) → Words (told_of o) → Words (told_of p) → printed o ≡ printed p → (is_ok o ≡ is_ok p) × (told_of o ≡ told_of p)

-- the last line tells both counts, and is the line of no outcome
abbrev pub Ends : Type 0
Ends = ((g r h s : ℕ) → Words (g ∷ r ∷ h ∷ s ∷ []) → printed_end g r ≡ printed_end h s → (g ≡ h) × (r ≡ s))
    × ((o : LineOutcome) (g r : ℕ) → printed o ≢ printed_end g r)

-- no printed line is longer than 112 bytes
abbrev pub Short : Type 0
Short = ((o : LineOutcome) → Words (told_of o) → length (printed o) ≤ 112) × ((g r : ℕ) → Words (g ∷ r ∷ []) → length (printed_end g r) ≤ 112)
