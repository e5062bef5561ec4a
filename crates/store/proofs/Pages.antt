-- The pages of a paged store: made, found, and turned.
use Rattle.std.proofs.Common.{◌≡◌, ℕ, ◌+◌, ◌*◌, ◌/◌, ◌%◌, ◌<◌, ◌≤◌, Bool, true, false, ◌&&◌, nat_lt, Bor, Option, Some, None, List, map, length, get_or, set, vec_items, vec_len, subst, sym, ap, refl, ◌∙◌, arith}
use Rattle.std.specs.Prelude.{MatchOption}
use Rattle.std.specs.Slice.{IsItemAt}
use Rattle.std.proofs.Math.Seq.{map-set_same}
use Rattle.std.proofs.lemmas.List.{get_or-map, map-id, map-set}
use Rattle.std.proofs.lemmas.Simd.{map-map, splat_is_map}
use Rattle.std.proofs.lemmas.Bool.Decides.{nat_tests}
use Rattle.store.specs.Pages.{Opened, frames_of, doors_of, length-frames_of}
use Rattle.store.specs.Paged.{words_of, IsPageOf}
use Rattle.store.specs.declared.paged.Page.{Page}
use Rattle.store.specs.declared.paged.PagedStore.{PagedStore}
use Rattle.store.specs.Paging.{length-page_words}
use Rattle.store.proofs.Places.{get_or-page_words, place_within}

-- the pages that are made of frames
pub made_of : (frames : List ℕ) (pages : List Page) → pages ≡ map (λ f. record { frame = f; «open» = true }) frames → Opened frames pages
made_of frames pages e =
    let P : List Page → Type 0 = λ p. Opened frames p in
    subst P (sym e) (record {
      frames_are = map-map (λ p. p.frame) (λ f. record { frame = f; «open» = true }) frames ∙ map-id frames;
      doors_are = map-map (λ p. p.open) (λ f. record { frame = f; «open» = true }) frames ∙ sym (splat_is_map frames (length frames) true refl);
    })

-- a door that moves leaves the frames
pub frames_kept : (pages : List Page) (i : ℕ) (page : Page) (b : Bool) → page ≡ get_or pages i page
    → frames_of (set pages i (record { frame = page.frame; «open» = b })) ≡ frames_of pages
frames_kept pages i page b read = map-set_same (λ p. p.frame) pages i (record { frame = page.frame; «open» = b }) page (ap (λ p. p.frame) read)

-- and moves the one door
pub door_moved : (pages : List Page) (i : ℕ) (page : Page) (b : Bool)
    → doors_of (set pages i (record { frame = page.frame; «open» = b })) ≡ set (doors_of pages) i b
door_moved pages i page b = map-set (λ p. p.open) pages i (record { frame = page.frame; «open» = b })

-- what is found at a page's number is that page, of each of its words
pub page_found : (s : PagedStore) (w : ℕ) (o : Option (Bor Page)) → IsItemAt (vec_items s.pages) (w / 64) o
    → MatchOption o (length (words_of s) ≤ w) (λ b. IsPageOf s w b.now)
page_found s w None e =
    let pages = vec_items s.pages in
    let past : length pages ≤ w / 64 = grind arith in
    omega (arith, past, length-page_words s.memory.now (frames_of pages), length-frames_of pages)
page_found s w (Some b) e =
    let page = b.now in
    let pages = vec_items s.pages in
    let frames = frames_of pages in
    let within : w / 64 < length pages = search e in
    let read : get_or pages (w / 64) page ≡ page = search e in
    let there : w < 64 * length frames = omega (arith, length-frames_of pages) in
    let frame : get_or frames (w / 64) 0 ≡ page.frame = get_or-map (λ p. p.frame) pages (w / 64) page 0 within ∙ ap (λ p. p.frame) read in
    let door : get_or (doors_of pages) (w / 64) false ≡ page.open = get_or-map (λ p. p.open) pages (w / 64) page false within ∙ ap (λ p. p.open) read in
    let low : page.frame < vec_len s.pages = subst (λ (f : ℕ). f < vec_len s.pages) frame (s.within (w / 64) (omega (arith, length-frames_of pages))) in
    let inside = place_within frames (vec_len s.pages) w s.within there in
    let long = length-page_words s.memory.now frames in
    let known : nat_lt w (length (words_of s)) ≡ true = grind (arith, nat_tests) in
    record {
      there = omega (arith, long);
      opens = ap (λ b. b && get_or (doors_of pages) (w / 64) false) known ∙ door;
      low = omega (arith, s.few);
      lies = record {
        there = omega (arith, s.pages.ok.0);
        place = omega (arith, frame);
        within = omega (arith, frame, inside, s.room);
        holds =
            ap (λ f. get_or s.memory.now (f * 64 + w % 64) 0) (sym frame)
            ∙ sym (get_or-page_words s.memory.now frames w there);
      };
    }
