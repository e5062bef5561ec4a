-- Words of the backing store: which word holds a stack position, and which words are NaT collections. Assumes nothing.
use Rattle.std.specs.Prelude.{ℕ, ◌+◌, ◌-◌, ◌*◌, ◌/◌, ◌%◌, Bool, ◌==◌}

-- the word of a stack position, in a region that begins at word start: each 63 positions are followed by a collection
abbrev pub address_of : ℕ → ℕ → ℕ
address_of start position = start + position + position / 63

-- the group of a word
abbrev pub group_of : ℕ → ℕ
group_of word = word / 64

-- the last word of a group is its NaT collection
abbrev pub is_collection : ℕ → Bool
is_collection word = word % 64 == 63

-- the collection of a word's group
abbrev pub collection_of : ℕ → ℕ
collection_of word = word / 64 * 64 + 63

-- how many of the words from start up to a word, that word left out, hold positions
abbrev pub positions_below : ℕ → ℕ → ℕ
positions_below start word = (word - start) - (word - start) / 64

-- how many positions a region of size words holds
abbrev pub capacity_of : ℕ → ℕ
capacity_of size = 63 * size / 64
