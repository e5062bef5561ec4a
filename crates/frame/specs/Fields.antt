-- A frame marker by its fields.
use Rattle.std.specs.Prelude.{◌≡◌, ℕ, true, false, Ok, Err, Option, Result}
use Rattle.frame.specs.declared.FrameMarker.{FrameMarker}
use Rattle.frame.specs.declared.unlawful.UnlawfulMarker.{UnlawfulMarker}
use Rattle.frame.specs.Markers.{word_of_parts, lawful, lawful_word, sof_of, sol_of, sor_of, rotation_of, place_of, Renames}

-- the word of a marker
abbrev pub word_of : FrameMarker → ℕ
word_of m = word_of_parts m.sof m.sol m.sor m.rotation

-- the fields of a marker are these
abbrev pub Parts : FrameMarker → ℕ → ℕ → ℕ → ℕ → Type 0
Parts m sof sol sor rotation = (m.sof ≡ sof) × (m.sol ≡ sol) × (m.sor ≡ sor) × (m.rotation ≡ rotation)

-- the fields of a marker are those of this word
abbrev pub PartsOfWord : FrameMarker → ℕ → Type 0
PartsOfWord m w = Parts m (sof_of w) (sol_of w) (sor_of w) (rotation_of w)

-- the marker is as before, but with this rotation
abbrev pub Rerotated : FrameMarker → ℕ → FrameMarker → Type 0
Rerotated before rotation after = Parts after before.sof before.sol before.sor rotation

-- a marker exactly where the fields are lawful, and then with these fields
abbrev pub MadeOfParts : Result FrameMarker UnlawfulMarker → ℕ → ℕ → ℕ → ℕ → Type 0
MadeOfParts (Ok m) sof sol sor rotation = Parts m sof sol sor rotation × (lawful sof sol sor rotation ≡ true)
MadeOfParts (Err e) sof sol sor rotation = lawful sof sol sor rotation ≡ false

-- a marker exactly where the word is lawful, and then with its fields, so that its word is this one
abbrev pub MadeOfWord : ℕ → Result FrameMarker UnlawfulMarker → Type 0
MadeOfWord w (Ok m) = (word_of m ≡ w) × PartsOfWord m w × (lawful_word w ≡ true)
MadeOfWord w (Err e) = lawful_word w ≡ false

-- the word is the marker's: it is lawful, and has the marker's fields
pub record WordGiven (m : FrameMarker) (w : ℕ) : Type 0 where
  pub word : w ≡ word_of m
  pub lawful : lawful_word w ≡ true
  pub parts : PartsOfWord m w

-- how far above base register r stands under a marker, if it lies in the frame
abbrev pub place_under : FrameMarker → ℕ → Option ℕ
place_under m r = place_of m.sof m.sor m.rotation r

-- under a marker, renaming is a bijection of the frame's registers onto 0 .. sof − 1
abbrev pub RenamesUnder : FrameMarker → Type 0
RenamesUnder m = Renames m.sof m.sor m.rotation
