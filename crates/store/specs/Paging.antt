-- How long the words of a paged store are.
use Rattle.std.specs.Prelude.{◌≡◌, ℕ, ◌*◌, ◌/◌, ◌^◌, ◌<◌, ◌≤◌, Bool, List, length, vec_items, vec_len, Vec, slice_index}
use Rattle.std.proofs.Common.{arith}
use Rattle.std.specs.declared.alloc.Global.{Global}
use Rattle.std.proofs.lemmas.List.FromFn.{length-map-range_with_len}
use Rattle.store.specs.Frames.{place_of, page_words}
use Rattle.store.specs.Pages.{frames_of, doors_of, length-frames_of, length-doors_of}
use Rattle.store.specs.declared.paged.Page.{Page}

-- there are 64 words for each frame
pub length-page_words : (memory frames : List ℕ) → length (page_words memory frames) ≡ 64 * length frames
length-page_words memory frames = length-map-range_with_len (λ w. slice_index memory (place_of frames w)) 0 (64 * length frames)

-- and one page
pub pages_of_words : (memory frames : List ℕ) → length (page_words memory frames) / 64 ≡ length frames
pages_of_words memory frames = omega (arith, length-page_words memory frames)

-- at most 1,024 frames have fewer words than 2 ^ 64
pub words_bounded : (memory : List ℕ) (frames : Vec ℕ Global) → vec_len frames ≤ 1024 → length (page_words memory (vec_items frames)) < 2 ^ 64
words_bounded memory frames few = omega (arith, length-page_words memory (vec_items frames), frames.ok.0)

-- one door for each frame is one for each page
pub words_flagged : (memory : List ℕ) (frames : Vec ℕ Global) (doors : Vec Bool Global) → vec_len doors ≡ vec_len frames
    → length (vec_items doors) ≡ length (page_words memory (vec_items frames)) / 64
words_flagged memory frames doors e =
    omega (arith, pages_of_words memory (vec_items frames), frames.ok.0, doors.ok.0)

-- the same of a store's pages: at most 1,024 have fewer words than 2 ^ 64
pub pages_bounded : (memory : List ℕ) (pages : Vec Page Global) → vec_len pages ≤ 1024
    → length (page_words memory (frames_of (vec_items pages))) < 2 ^ 64
pages_bounded memory pages few =
    omega (arith, length-page_words memory (frames_of (vec_items pages)), length-frames_of (vec_items pages), pages.ok.0)

-- and there is one door for each
pub pages_flagged : (memory : List ℕ) (pages : List Page)
    → length (doors_of pages) ≡ length (page_words memory (frames_of pages)) / 64
pages_flagged memory pages =
    omega (arith, pages_of_words memory (frames_of pages), length-frames_of pages, length-doors_of pages)
