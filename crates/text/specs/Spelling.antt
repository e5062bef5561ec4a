-- The line of each instruction, without its end byte. Assumes nothing.
use Rattle.std.specs.Prelude.{◌≡◌, ℕ, ◌≤◌, List, [], ◌∷◌, length, Some, None, Option, ◌≢◌}
use Rattle.engine.specs.declared.instructions.Instruction.{Instruction}
use Rattle.engine.specs.declared.instructions.Instruction.TheVariants as I
use Rattle.arrayvec.specs.ArrayVec.{ArrayVec}
use Rattle.text.specs.Numbers.{spaced, Words}

abbrev pub letter_of : Instruction → ℕ
letter_of (I.Begin k s n) = 98
letter_of (I.Resume k) = 101
letter_of (I.Retire k) = 120
letter_of (I.Alloc sof sol sor) = 97
letter_of I.Call = 99
letter_of I.Return = 114
letter_of I.Cover = 118
letter_of (I.Write r w n) = 119
letter_of (I.Copy r s) = 121
letter_of (I.Add r s q) = 100
letter_of (I.Read r) = 103
letter_of I.Rotate = 111
letter_of I.ResetRotation = 122
letter_of I.Previous = 112
letter_of (I.SetPrevious w) = 113
letter_of I.Restore = 117
letter_of I.Flush = 102
letter_of I.EarlySpill = 115
letter_of I.EarlyFill = 104
letter_of (I.Load d) = 108
letter_of I.Park = 107
letter_of (I.SetMode m) = 110
letter_of I.State = 105
letter_of I.Counts = 106

abbrev pub operands_of : Instruction → List ℕ
operands_of (I.Begin k s n) = k ∷ s ∷ n ∷ []
operands_of (I.Resume k) = k ∷ []
operands_of (I.Retire k) = k ∷ []
operands_of (I.Alloc sof sol sor) = sof ∷ sol ∷ sor ∷ []
operands_of I.Call = []
operands_of I.Return = []
operands_of I.Cover = []
operands_of (I.Write r w n) = r ∷ w ∷ n ∷ []
operands_of (I.Copy r s) = r ∷ s ∷ []
operands_of (I.Add r s q) = r ∷ s ∷ q ∷ []
operands_of (I.Read r) = r ∷ []
operands_of I.Rotate = []
operands_of I.ResetRotation = []
operands_of I.Previous = []
operands_of (I.SetPrevious w) = w ∷ []
operands_of I.Restore = []
operands_of I.Flush = []
operands_of I.EarlySpill = []
operands_of I.EarlyFill = []
operands_of (I.Load d) = d ∷ []
operands_of I.Park = []
operands_of (I.SetMode m) = m ∷ []
operands_of I.State = []
operands_of I.Counts = []

-- the letter, then for each operand a space and its decimal digits
abbrev pub spelling : Instruction → List ℕ
spelling i = letter_of i ∷ spaced (operands_of i)

-- the operands are below 2 ^ 64
abbrev pub Operands64 : Instruction → Type 0
Operands64 i = Words (operands_of i)

-- no instruction is spelled so
abbrev pub Unreadable : List ℕ → Type 0
Unreadable line = (i : Instruction) → Operands64 i → line ≢ spelling i

-- the answer has this letter and these operands, or no instruction has them
abbrev pub InstructionOf : ℕ → List ℕ → Option Instruction → Type 0
InstructionOf l ns (Some i) = (letter_of i ≡ l) × (operands_of i ≡ ns)
InstructionOf l ns None = (i : Instruction) → letter_of i ≡ l → operands_of i ≢ ns

-- the operands that the text is written of, or no three operands at most are written so
abbrev pub OperandsOf : List ℕ → Option (ArrayVec ℕ) → Type 0
OperandsOf text (Some v) = (text ≡ spaced v.items) × Words v.items
OperandsOf text None = (ns : List ℕ) → length ns ≤ 3 → Words ns → text ≢ spaced ns

-- two instructions are never spelled alike
abbrev pub Apart : Type 0
Apart = (i j : Instruction) → Operands64 i → Operands64 j → spelling i ≡ spelling j → i ≡ j
