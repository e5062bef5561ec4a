-- What is printed. Assumes nothing.
use Rattle.std.specs.Prelude.{◌≡◌, ℕ, ◌+◌, ◌≤◌, true, if◌then◌else◌, List, [], ◌∷◌, ◌++◌, length, is_ok, vec_items, vec_capacity, Result, Vec}
use Rattle.std.specs.declared.alloc.AllocError.{AllocError}
use Rattle.context.specs.declared.refusals.Refusal.{Refusal}
use Rattle.context.specs.declared.refusals.Refusal.TheVariants as R
use Rattle.engine.specs.declared.instructions.Answer.{Answer}
use Rattle.engine.specs.declared.instructions.Answer.TheVariants as A
use Rattle.context.specs.Refusals.{refusal_number}
use Rattle.text.specs.Numbers.{spaced}

-- a call that adds bytes to v, leaving w: they stand at the end, no room is lost, and it fails only for want of room
pub record Appends {X Z : Type 0} (v w : Vec ℕ Z) (bytes : List ℕ) (r : Result X AllocError) : Type 0 where
  pub items : is_ok r ≡ true → vec_items w ≡ vec_items v ++ bytes
  pub room : length (vec_items v) + length bytes ≤ vec_capacity v → is_ok r ≡ true
  pub capacity : vec_capacity v ≤ vec_capacity w

-- the values of an answer; a NaT bit is 0 or 1
abbrev pub values_of : Answer → List ℕ
values_of A.Done = []
values_of (A.Marker word) = word ∷ []
values_of (A.Register image nat) = image ∷ (if nat then 1 else 0) ∷ []
values_of (A.Flushed bsp rnat) = bsp ∷ rnat ∷ []
values_of (A.State state k base marker bsp) = state ∷ k ∷ base ∷ marker ∷ bsp ∷ []
values_of (A.Counts w r) = w ∷ r ∷ []

-- the word that a refusal tells beside its number
abbrev pub word_of : Refusal → List ℕ
word_of R.Unreadable = []
word_of R.Operand = []
word_of R.State = []
word_of R.Register = []
word_of R.Marker = []
word_of R.Rotation = []
word_of R.Top = []
word_of R.Depth = []
word_of R.TooMany = []
word_of R.Entry = []
word_of R.Region = []
word_of R.Overlap = []
word_of R.Doors = []
word_of R.Mode = []
word_of R.Nothing = []
word_of (R.Shut fault) = fault.fault.word ∷ []
word_of R.Host = []

-- a refusal's number, and for a shut word also the word
abbrev pub refusal_values : Refusal → List ℕ
refusal_values r = refusal_number r ∷ word_of r

-- the line of an answer: `ok` and the values
abbrev pub printed_answer : Answer → List ℕ
printed_answer a = 111 ∷ 107 ∷ (spaced (values_of a) ++ (10 ∷ []))

-- the line of a refusal: `no` and the values
abbrev pub printed_refusal : Refusal → List ℕ
printed_refusal r = 110 ∷ 111 ∷ (spaced (refusal_values r) ++ (10 ∷ []))

-- the last line: `end`, how many lines were granted, and how many refused
abbrev pub printed_end : ℕ → ℕ → List ℕ
printed_end granted refused = 101 ∷ 110 ∷ 100 ∷ (spaced (granted ∷ refused ∷ []) ++ (10 ∷ []))
