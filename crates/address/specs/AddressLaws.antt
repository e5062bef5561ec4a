-- The laws of addresses: what everything above uses in place of the formula. A region begins at a multiple of 64 words.
use Rattle.std.specs.Prelude.{◌≡◌, ℕ, ◌+◌, ◌-◌, ◌%◌, ◌<◌, ◌≤◌, true, false, cond, Some, None, Option, ◌≢◌}
use Rattle.address.specs.Addresses.{address_of, group_of, is_collection, collection_of, positions_below, capacity_of}

-- a whole number of groups
abbrev pub Aligned : ℕ → Type 0
Aligned n = n % 64 ≡ 0

-- the first word after a word that is not a collection
abbrev pub next_register : ℕ → ℕ
next_register word = cond (is_collection (word + 1)) (word + 2) (word + 1)

-- how many registers stand in the given number of words below a position's address
abbrev pub registers_among : ℕ → ℕ → ℕ → ℕ
registers_among start position words = position - positions_below start (address_of start position - words)

-- a later position has a higher address
abbrev pub Increasing : ℕ → Type 0
Increasing start = (p q : ℕ) → p < q → address_of start p < address_of start q

-- no position has a collection's address
abbrev pub Apart : ℕ → Type 0
Apart start = (p : ℕ) → is_collection (address_of start p) ≡ false

-- the next position's address is one up, or two where a collection stands between
abbrev pub Neighbours : ℕ → Type 0
Neighbours start = (p : ℕ) → address_of start (p + 1) ≡ next_register (address_of start p)

-- counting the positions below an address gives its position
abbrev pub Counted : ℕ → Type 0
Counted start = (p : ℕ) → positions_below start (address_of start p) ≡ p

-- the position counted at a word has that word, or the next one at a collection
abbrev pub Found : ℕ → Type 0
Found start = (w : ℕ) → start ≤ w → address_of start (positions_below start w) ≡ cond (is_collection w) (w + 1) w

-- a higher word has at least as many positions below
abbrev pub Monotone : ℕ → Type 0
Monotone start = (v w : ℕ) → v ≤ w → positions_below start v ≤ positions_below start w

-- a register's word counts one, a collection none
abbrev pub Steps : ℕ → Type 0
Steps start = (w : ℕ) → start ≤ w → positions_below start (w + 1) ≡ positions_below start w + cond (is_collection w) 0 1

-- the position at a word: the only one with that address; none where no position has it
abbrev pub PositionAt : ℕ → ℕ → Option ℕ → Type 0
PositionAt start word (Some p) = (address_of start p ≡ word) × ((q : ℕ) → address_of start q ≡ word → q ≡ p)
PositionAt start word None = (q : ℕ) → address_of start q ≢ word

-- a word from the start on is a collection exactly where no position has it
abbrev pub CollectionOrNot : ℕ → Option ℕ → Type 0
CollectionOrNot word (Some p) = is_collection word ≡ false
CollectionOrNot word None = is_collection word ≡ true

-- a region holds exactly the positions below its capacity, and the next one would stand at its end
abbrev pub Region : ℕ → ℕ → Type 0
Region start size =
    (address_of start (capacity_of size) ≡ start + size)
    × ((p : ℕ) → p < capacity_of size → address_of start p < start + size)
    × ((p : ℕ) → address_of start p < start + size → p < capacity_of size)

-- the registers among those words are the last ones below the position, and no others
abbrev pub Among : ℕ → ℕ → ℕ → Type 0
Among start position words =
    ((q : ℕ) → position - registers_among start position words ≤ q → q < position
    → (address_of start position - words ≤ address_of start q) × (address_of start q < address_of start position))
    × ((q : ℕ) → address_of start position - words ≤ address_of start q → address_of start q < address_of start position
    → (position - registers_among start position words ≤ q) × (q < position))

-- a word's collection is the last word of its group, which is a page of 64 words
abbrev pub LastOfGroup : ℕ → Type 0
LastOfGroup word =
    (group_of (collection_of word) ≡ group_of word) × (is_collection (collection_of word) ≡ true)
    × ((v : ℕ) → group_of v ≡ group_of word → v ≤ collection_of word)

-- a position's bit in its collection is one of bits 0 to 62
abbrev pub BitPlaces : ℕ → Type 0
BitPlaces start = (p : ℕ) → (address_of start p % 64 ≡ p % 63) × (address_of start p % 64 < 63)
