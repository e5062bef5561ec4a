-- Instructions on the frame: what becomes of the record, the file and the answer.
use Rattle.std.specs.Prelude.{ℕ, ◌+◌, ◌-◌, Bool, cond, ◌||◌, List, Some, None, Ok, Err, Option, Result}
use Rattle.frame.specs.Markers.{sof_of, sol_of, sor_of, rotation_of, lawful_word, word_of_parts, turned_once, place_of}
use Rattle.register.specs.Slots.{register_at, register_put}
use Rattle.register.specs.declared.Slot.{Slot}
use Rattle.context.specs.declared.record.ContextRecord.{ContextRecord}
use Rattle.context.specs.declared.refusals.Refusal.{Refusal}
use Rattle.context.specs.declared.refusals.Refusal.TheVariants.{Register, Marker}
use Rattle.context.specs.Records.{top_of, with_frame, with_previous, with_saved}

-- call: the locals go below base, the marker is the previous one, and the rest of the frame is the frame
abbrev pub called : ContextRecord → ContextRecord
called r = with_previous (with_frame r (r.base + sol_of r.marker) (sof_of r.marker - sol_of r.marker)) r.marker

-- cover: the whole frame goes below base, and its marker is saved
abbrev pub covered : ContextRecord → ContextRecord
covered r = with_saved (with_frame r (top_of r) 0) r.marker

-- the marker's word with another rotation
abbrev pub rerotated : ℕ → ℕ → ℕ
rerotated w rotation = word_of_parts (sof_of w) (sol_of w) (sor_of w) rotation

abbrev pub rotated_frame : ContextRecord → ContextRecord
rotated_frame r = with_frame r r.base (rerotated r.marker (turned_once (sor_of r.marker) (rotation_of r.marker)))

abbrev pub reset_frame : ContextRecord → ContextRecord
reset_frame r = with_frame r r.base (rerotated r.marker 0)

-- an unlawful word is refused
abbrev pub previous_set : ContextRecord → ℕ → ContextRecord
previous_set r w = cond (lawful_word w) (with_previous r w) r

abbrev pub previous_answer : ℕ → Result (Unit {0}) Refusal
previous_answer w = cond (lawful_word w) (Ok tt) (Err Marker)

-- the position of a register of the frame
abbrev pub placed : Option ℕ → ℕ → Result ℕ Refusal
placed (Some offset) base = Ok (base + offset)
placed None base = Err Register

abbrev pub position_of : ContextRecord → ℕ → Result ℕ Refusal
position_of r register = placed (place_of (sof_of r.marker) (sor_of r.marker) (rotation_of r.marker) register) r.base

-- what follows where a question is granted its number
abbrev pub on_granted : {T : Type 0} → Result ℕ Refusal → (ℕ → Result T Refusal) → Result T Refusal
on_granted (Ok p) f = f p
on_granted (Err e) f = Err e

abbrev pub if_granted : {T : Type 0} → Result ℕ Refusal → (ℕ → T) → T → T
if_granted (Ok p) f other = f p
if_granted (Err e) f other = other

module _ {C : Type 0} where
  -- write: the content of a word, and a NaT bit
  abbrev pub write_file : (ℕ → C) → ContextRecord → List (Slot C) → ℕ → ℕ → Bool → List (Slot C)
  write_file content r slots register word nat =
      if_granted (position_of r register) (λ p. register_put slots p (record { content = content word; nat = nat })) slots

  -- copy
  abbrev pub copy_file : C → ContextRecord → List (Slot C) → ℕ → ℕ → List (Slot C)
  copy_file nought r slots target source =
      if_granted (position_of r target) (λ p. if_granted (position_of r source) (λ q. register_put slots p (register_at nought slots q)) slots) slots

  -- the sum of two registers; the NaT bit is set if either was
  abbrev pub summed : (C → C → C) → Slot C → Slot C → Slot C
  summed sum a b = record { content = sum a.content b.content; nat = a.nat || b.nat }

  -- add
  abbrev pub add_file : C → (C → C → C) → ContextRecord → List (Slot C) → ℕ → ℕ → ℕ → List (Slot C)
  add_file nought sum r slots target left right =
      if_granted (position_of r target) (λ p. if_granted (position_of r left) (λ q. if_granted (position_of r right)
      (λ s. register_put slots p (summed sum (register_at nought slots q) (register_at nought slots s))) slots) slots) slots

  -- read
  abbrev pub read_answer : C → ContextRecord → List (Slot C) → ℕ → Result (Slot C) Refusal
  read_answer nought r slots register = on_granted (position_of r register) (λ p. Ok (register_at nought slots p))

-- the registers are in the frame, asked in the order in which they are named
abbrev pub one_register : ContextRecord → ℕ → Result (Unit {0}) Refusal
one_register r a = on_granted (position_of r a) (λ _. Ok tt)

abbrev pub two_registers : ContextRecord → ℕ → ℕ → Result (Unit {0}) Refusal
two_registers r a b = on_granted (position_of r a) (λ _. one_register r b)

abbrev pub three_registers : ContextRecord → ℕ → ℕ → ℕ → Result (Unit {0}) Refusal
three_registers r a b c = on_granted (position_of r a) (λ _. two_registers r b c)
