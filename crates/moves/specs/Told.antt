-- What a move or its asking tells of the words that it needs.
use Rattle.std.specs.Prelude.{◌≡◌, ℕ, ◌<◌, ◌≤◌, true, false, ◌⊎◌, Ok, Err}
use Rattle.address.specs.Addresses.{collection_of, positions_below}
use Rattle.store.specs.Meaning.{Meaning}
use Rattle.store.specs.Rules.{is_open, refusal_of}
use Rattle.moves.specs.declared.state.Cursor.{Cursor}
use Rattle.moves.specs.declared.state.MoveFault.{MoveFault}
use Rattle.moves.specs.declared.state.Movement.{Movement}
use Rattle.moves.specs.Steps.{MoveResult}
use Rattle.moves.specs.Fills.{word_of, is_near}
use Rattle.moves.specs.Lowers.{lower_reads}

-- spills of the words from `from` to `end` − 1 need word w, with p the next position to be stored
abbrev pub SpillNeeds : ℕ → ℕ → ℕ → ℕ → ℕ → Type 0
SpillNeeds start from end w p = (from ≤ w) × (w < end) × (p ≡ positions_below start w)

-- fills of the positions from low to high − 1 need word w for position p: its own word, or its collection if that is in another group
abbrev pub FillNeeds : Cursor → ℕ → ℕ → ℕ → ℕ → Type 0
FillNeeds c low high w p =
    (low ≤ p) × (p < high) × ((w ≡ word_of c p) ⊎ ((is_near c p ≡ false) × (w ≡ collection_of (word_of c p))))

-- a lowering to the word `to` needs word w, where it reads a collection
abbrev pub LowerNeeds : Cursor → ℕ → ℕ → ℕ → Type 0
LowerNeeds c to w p = (lower_reads c to ≡ true) × (w ≡ collection_of to) × (p ≡ positions_below c.start to)

-- a fault is of a needed word that is shut or missing, with the store's cause and the move's place
pub record ToldShut (m : Meaning) (move : Movement) (owner : ℕ) (Needs : ℕ → ℕ → Type 0) (f : MoveFault) : Type 0 where
  pub needed : Needs f.fault.word f.place.position
  pub shut : is_open m f.fault.word ≡ false
  pub cause : f.fault ≡ refusal_of m f.fault.word
  pub movement : f.place.movement ≡ move
  pub context : f.place.context ≡ owner

-- granted exactly where every needed word is open
abbrev pub Told : Meaning → Movement → ℕ → (ℕ → ℕ → Type 0) → MoveResult → Type 0
Told m move owner Needs (Ok _) = (w p : ℕ) → Needs w p → is_open m w ≡ true
Told m move owner Needs (Err f) = ToldShut m move owner Needs f

-- every needed word below the fault's is open
abbrev pub Lowest : Meaning → (ℕ → ℕ → Type 0) → MoveResult → Type 0
Lowest m Needs (Ok _) = Unit {0}
Lowest m Needs (Err f) = (w p : ℕ) → Needs w p → w < f.fault.word → is_open m w ≡ true
