-- Whole sessions: the outcome of each line, and what the session leaves.
use Rattle.std.specs.Prelude.{◌≡◌, ℕ, ◌+◌, true, false, ⊤, ◌⊎◌, List, [], ◌∷◌, ◌++◌, length, Ok, Err, is_ok, is_err, count_by, Result}
use Rattle.std.specs.List.{flat_map}
use Rattle.register.specs.declared.Slot.{Slot}
use Rattle.store.specs.Meaning.{Meaning}
use Rattle.context.specs.declared.refusals.Refusal.{Refusal}
use Rattle.context.specs.declared.refusals.Refusal.TheVariants as R
use Rattle.engine.specs.declared.instructions.Answer.{Answer}
use Rattle.engine.specs.declared.instructions.Instruction.{Instruction}
use Rattle.engine.specs.declared.machine.Machine.{Machine}
use Rattle.engine.specs.Hosts.{Host, hosted}
use Rattle.text.specs.Lines.{lines_of}
use Rattle.engine.specs.Making.{can_make, new_machine}
use Rattle.engine.specs.Steps.{step_answer, step_after}
use Rattle.text.specs.declared.session.SessionError.{SessionError}
use Rattle.text.specs.declared.session.SessionError.TheVariants.{Memory, Refused}
use Rattle.text.specs.Spelling.{spelling, Operands64, Unreadable}
use Rattle.text.specs.Outcomes.{LineOutcome, fault_at, printed}
use Rattle.text.specs.Printed.{printed_end}

-- a result, with the number of its line where it is a refusal
abbrev pub numbered : Result Answer Refusal → ℕ → LineOutcome
numbered (Ok a) n = Ok a
numbered (Err d) n = Err (fault_at d n)

module _ {C : Type 0} where
  -- a line that spells an instruction runs it; any other is refused and leaves everything
  abbrev pub LineRuns : C → (C → ℕ) → (ℕ → C) → (C → C → C) → Host C → List ℕ → ℕ → LineOutcome → Host C → Type 0
  LineRuns nought image content sum h line n r after =
      ((i : Instruction) × Operands64 i × (line ≡ spelling i) × (r ≡ numbered (step_answer nought image content h i) n) × (after ≡ step_after nought image content sum h i))
      ⊎ (Unreadable line × (r ≡ Err (fault_at R.Unreadable n)) × (after ≡ h))

  -- the lines from number n on have these outcomes, one after another
  abbrev pub Runs : C → (C → ℕ) → (ℕ → C) → (C → C → C) → Host C → List (List ℕ) → ℕ → List LineOutcome → Host C → Type 0
  Runs nought image content sum h [] n [] after = after ≡ h
  Runs nought image content sum h [] n (o ∷ os) after = ⊥
  Runs nought image content sum h (l ∷ ls) n [] after = ⊥
  Runs nought image content sum h (l ∷ ls) n (o ∷ os) after =
      (k : Host C) × LineRuns nought image content sum h l n o k × Runs nought image content sum k ls (n + 1) os after

-- how many were granted, and how many refused
abbrev pub granted_in : List LineOutcome → ℕ
granted_in os = count_by is_ok os

abbrev pub refused_in : List LineOutcome → ℕ
refused_in os = count_by is_err os

-- the lines that are printed
abbrev pub printed_lines : List LineOutcome → List ℕ
printed_lines os = flat_map printed os

-- and the end line with both counts
abbrev pub printed_all : List LineOutcome → List ℕ
printed_all os = printed_lines os ++ printed_end (granted_in os) (refused_in os)

module _ {C : Type 0} where
  -- the outcomes of the lines of an input, on a new engine over this file and this store, and what they leave of both
  abbrev pub SessionRuns : C → (C → ℕ) → (ℕ → C) → (C → C → C) → List (Slot C) → Meaning → List ℕ → List LineOutcome → List (Slot C) → Meaning → Type 0
  SessionRuns nought image content sum file m input os file' m' =
      (machine : Machine) × Runs nought image content sum (hosted (new_machine (length file) (length m.words)) file m) (lines_of input) 1 os (hosted machine file' m')

  -- what is printed of them
  abbrev pub SessionPrints : C → (C → ℕ) → (ℕ → C) → (C → C → C) → List (Slot C) → Meaning → List ℕ → List ℕ → List (Slot C) → Meaning → Type 0
  SessionPrints nought image content sum file m input bytes file' m' =
      (os : List LineOutcome) × (bytes ≡ printed_all os) × SessionRuns nought image content sum file m input os file' m'

  -- the register count and the store's length are lawful
  abbrev pub IsLawfulHost : List (Slot C) → Meaning → Type 0
  IsLawfulHost file m = can_make (length file) (length m.words) ≡ true

  -- why a session was not run: no memory for its answers, or a host that is not lawful
  abbrev pub NotRun : List (Slot C) → Meaning → SessionError → Type 0
  NotRun file m Memory = ⊤
  NotRun file m (Refused r) = (r ≡ R.Host) × (can_make (length file) (length m.words) ≡ false)

  -- a host that was refused has its file and its store as they were
  abbrev pub LeftAlone : SessionError → List (Slot C) → Meaning → List (Slot C) → Meaning → Type 0
  LeftAlone Memory file m file' m' = ⊤
  LeftAlone (Refused r) file m file' m' = (file' ≡ file) × (m' ≡ m)
