-- Flat and paged memory as stores; frames.
use Rattle.std.specs.Prelude.{◌≡◌, ℕ, ◌+◌, ◌*◌, ◌/◌, ◌%◌, ◌<◌, ◌≤◌, Bool, true, false, List, [], map, length, replicate, ◌≢◌, slice_index}
use Rattle.std.specs.List.{range_with_len}
use Rattle.store.specs.Meaning.{Meaning}

-- one memory of the host, whose doors do not move
abbrev pub flat_of : List ℕ → Meaning
flat_of memory = record { words = memory; flags = replicate (length memory / 64) true; moving = false }

-- where word w lies in the memory: in the frame of its page
abbrev pub place_of : List ℕ → ℕ → ℕ
place_of frames w = slice_index frames (w / 64) * 64 + w % 64

-- the words in page order
abbrev pub page_words : List ℕ → List ℕ → List ℕ
page_words memory frames = map (λ w. slice_index memory (place_of frames w)) (range_with_len 0 (64 * length frames))

-- memory seen through frames, behind doors that move
abbrev pub paged_of : List ℕ → List ℕ → List Bool → Meaning
paged_of memory frames doors = record { words = page_words memory frames; flags = doors; moving = true }

-- what frames that are refused make
abbrev pub no_words : Meaning
no_words = record { words = []; flags = []; moving = true }

-- each frame is below n
abbrev pub Below : List ℕ → ℕ → Type 0
Below frames n = (i : ℕ) → i < length frames → slice_index frames i < n

-- no page before page i has its frame
abbrev pub Fresh : List ℕ → ℕ → Type 0
Fresh frames i = (k : ℕ) → k < i → slice_index frames k ≢ slice_index frames i

-- no two pages have one frame
abbrev pub Different : List ℕ → Type 0
Different frames = (i : ℕ) → i < length frames → Fresh frames i

-- frames that a memory of so many words can be paged by
abbrev pub Fit : ℕ → List ℕ → Type 0
Fit n frames =
    (64 ≤ n) × (n ≤ 65536) × (n % 64 ≡ 0) × (length frames ≡ n / 64) × Below frames (n / 64) × Different frames
