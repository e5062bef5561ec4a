-- A paged store by its fields.
use Rattle.std.specs.Prelude.{◌≡◌, ℕ, ◌+◌, ◌*◌, ◌%◌, ◌<◌, true, Bool, if◌then◌else◌, List, length, replicate, Ok, Err, vec_items, vec_len, Result, slice_index, slice_index_or, slice_set}
use Rattle.store.specs.Meaning.{Meaning}
use Rattle.store.specs.Frames.{paged_of, page_words, place_of}
use Rattle.store.specs.Pages.{frames_of, doors_of}
use Rattle.store.specs.Rules.{is_open, refusal_of}
use Rattle.store.specs.declared.StoreFault.{StoreFault}
use Rattle.store.specs.declared.paged.Page.{Page}
use Rattle.store.specs.declared.paged.PagedStore.{PagedStore}

-- the frame of each page
abbrev pub store_frames : PagedStore → List ℕ
store_frames s = frames_of (vec_items s.pages)

-- the door of each page
abbrev pub store_doors : PagedStore → List Bool
store_doors s = doors_of (vec_items s.pages)

-- its words in page order
abbrev pub words_of : PagedStore → List ℕ
words_of s = page_words s.memory.now (store_frames s)

-- what it means
abbrev pub meaning_of : PagedStore → Meaning
meaning_of s = paged_of s.memory.now (store_frames s) (store_doors s)

-- the place of word w, if it is open
abbrev pub found_of : PagedStore → ℕ → Result ℕ StoreFault
found_of s w = if is_open (meaning_of s) w then Ok (place_of (store_frames s) w) else Err (refusal_of (meaning_of s) w)

-- word w is there, and lies at place p of the memory
pub record Lies (s : PagedStore) (w p : ℕ) : Type 0 where
  pub there : w < 64 * vec_len s.pages
  pub place : p ≡ place_of (store_frames s) w
  pub within : p < length s.memory.now
  pub holds : slice_index_or s.memory.now p 0 ≡ slice_index (words_of s) w

-- word w is there, and this is its page
pub record IsPageOf (s : PagedStore) (w : ℕ) (page : Page) : Type 0 where
  pub there : w < length (words_of s)
  pub opens : is_open (meaning_of s) w ≡ page.open
  pub low : page.frame < 1024
  pub lies : Lies s w (page.frame * 64 + w % 64)

-- made of this memory and these frames, with every door open
pub record Laid (memory frames : List ℕ) (s : PagedStore) : Type 0 where
  pub memory_is : s.memory.now ≡ memory
  pub frames_are : store_frames s ≡ frames
  pub means : meaning_of s ≡ paged_of memory frames (replicate (length frames) true)

-- the memory after a write of v to word w: one word of it, and none where the write is refused
abbrev pub landed : PagedStore → ℕ → ℕ → List ℕ
landed s w v = if is_open (meaning_of s) w then slice_set s.memory.now (place_of (store_frames s) w) v else s.memory.now

-- the same words in page order, and the same doors, whatever the frames
abbrev pub Alike : PagedStore → PagedStore → Type 0
Alike s t = (words_of s ≡ words_of t) × (store_doors s ≡ store_doors t)

-- alike, and of one meaning
abbrev pub Same : PagedStore → PagedStore → Type 0
Same s t = Alike s t × (meaning_of s ≡ meaning_of t)
