-- Frame markers as numbers: the fields of a word, what is lawful, and where a frame's registers stand.
use Rattle.std.specs.Prelude.{◌≡◌, ℕ, ◌+◌, ◌-◌, ◌*◌, ◌/◌, ◌%◌, ◌^◌, ◌<◌, Bool, if◌then◌else◌, ◌&&◌, ◌||◌, Some, None, Option, ◌==◌, nat_le, nat_lt}

-- the size of the frame: bits 0 to 6
abbrev pub sof_of : ℕ → ℕ
sof_of w = w % 128

-- the size of the locals: bits 7 to 13
abbrev pub sol_of : ℕ → ℕ
sol_of w = w / 2 ^ 7 % 128

-- the size of the rotating part, in eights: bits 14 to 17
abbrev pub sor_of : ℕ → ℕ
sor_of w = w / 2 ^ 14 % 16

-- the rotation: bits 18 to 24
abbrev pub rotation_of : ℕ → ℕ
rotation_of w = w / 2 ^ 18 % 128

-- whether these are the fields of a marker
abbrev pub lawful : ℕ → ℕ → ℕ → ℕ → Bool
lawful sof sol sor rotation = nat_le sof 96 && (nat_le sol sof && (nat_le (8 * sor) sof && (nat_lt rotation (8 * sor) || (sor == 0 && rotation == 0))))

-- whether this is the word of a marker: lawful fields, and zeros above them
abbrev pub lawful_word : ℕ → Bool
lawful_word w = nat_lt w (2 ^ 25) && lawful (sof_of w) (sol_of w) (sor_of w) (rotation_of w)

-- the word with these fields
abbrev pub word_of_parts : ℕ → ℕ → ℕ → ℕ → ℕ
word_of_parts sof sol sor rotation = sof + 2 ^ 7 * sol + 2 ^ 14 * sor + 2 ^ 18 * rotation

-- the rotation lowered by one: from 0 to 8·sor − 1, and 0 stays where sor is 0
abbrev pub turned_once : ℕ → ℕ → ℕ
turned_once sor rotation = if rotation == 0 then 8 * sor - 1 else rotation - 1

-- how far above base the frame's register i (register 32 + i) stands
abbrev pub offset_of : ℕ → ℕ → ℕ → ℕ
offset_of sor rotation i = if nat_lt i (8 * sor) then (i + rotation) % (8 * sor) else i

-- which of the frame's registers stands so far above base
abbrev pub index_of : ℕ → ℕ → ℕ → ℕ
index_of sor rotation d = if nat_lt d (8 * sor) then (d + (8 * sor - rotation)) % (8 * sor) else d

-- whether register r lies in the frame
abbrev pub in_frame : ℕ → ℕ → Bool
in_frame sof r = nat_le 32 r && nat_lt (r - 32) sof

-- how far above base register r stands, if it lies in the frame
abbrev pub place_of : ℕ → ℕ → ℕ → ℕ → Option ℕ
place_of sof sor rotation r = if in_frame sof r then Some (offset_of sor rotation (r - 32)) else None

-- renaming is a bijection of the frame's registers onto 0 .. sof − 1: `index_of` undoes it, both ways round
abbrev pub Renames : ℕ → ℕ → ℕ → Type 0
Renames sof sor rotation =
    ((i : ℕ) → i < sof → (offset_of sor rotation i < sof) × (index_of sor rotation (offset_of sor rotation i) ≡ i)) ×
    ((d : ℕ) → d < sof → (index_of sor rotation d < sof) × (offset_of sor rotation (index_of sor rotation d) ≡ d))

-- from one rotation to the next, what register i of the rotating part showed is shown by the one after it, the last one's by the first
abbrev pub Turns : ℕ → ℕ → ℕ → Type 0
Turns sor before after = (i : ℕ) → i < 8 * sor → offset_of sor after ((i + 1) % (8 * sor)) ≡ offset_of sor before i
