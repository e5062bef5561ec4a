-- The pages of a paged store, as two lists.
use Rattle.std.specs.Prelude.{◌≡◌, ℕ, Bool, true, List, map, length, replicate}
use Rattle.std.proofs.lemmas.List.{length-map}
use Rattle.store.specs.declared.paged.Page.{Page}

-- the frames of pages
abbrev pub frames_of : List Page → List ℕ
frames_of pages = map (λ p. p.frame) pages

-- the doors of pages
abbrev pub doors_of : List Page → List Bool
doors_of pages = map (λ p. p.open) pages

-- a page for each frame, with every door open
pub record Opened (frames : List ℕ) (pages : List Page) : Type 0 where
  pub frames_are : frames_of pages ≡ frames
  pub doors_are : doors_of pages ≡ replicate (length frames) true

pub length-frames_of : (pages : List Page) → length (frames_of pages) ≡ length pages
length-frames_of pages = length-map pages (λ p. p.frame)

pub length-doors_of : (pages : List Page) → length (doors_of pages) ≡ length pages
length-doors_of pages = length-map pages (λ p. p.open)
