-- Where the words of a paged store lie: each within the memory, no two at one place.
use Rattle.std.proofs.Common.{◌≡◌, ℕ, ◌*◌, ◌/◌, ◌%◌, ◌<◌, ◌≢◌, List, length, get_or, set, sym, ap, ◌∙◌, inl, inr, arith, length-set, get_or-set_other, get_or-set_same}
use Rattle.std.proofs.lemmas.List.FromFn.{get_or-map-range_with_len}
use Rattle.std.proofs.lemmas.List.{ext_get_or}
use Rattle.std.proofs.lemmas.Bool.{cases_eq, cases_order}
use Rattle.store.specs.Frames.{place_of, page_words, Below, Different}
use Rattle.store.specs.Paging.{length-page_words}

-- word w is read where it lies
pub get_or-page_words : (memory frames : List ℕ) (w : ℕ) → w < 64 * length frames
    → get_or (page_words memory frames) w 0 ≡ get_or memory (place_of frames w) 0
get_or-page_words memory frames w h =
    get_or-map-range_with_len (λ x. get_or memory (place_of frames x) 0) 0 (64 * length frames) w w 0 h (omega arith)

-- a word lies within the memory
pub place_within : (frames : List ℕ) (n w : ℕ) → Below frames n → w < 64 * length frames → place_of frames w < 64 * n
place_within frames n w below h =
    let page : w / 64 < length frames = omega arith in
    let frame = below (w / 64) page in
    omega arith

-- two words lie at two places
pub place_apart : (frames : List ℕ) → Different frames
    → (w x : ℕ) → w < 64 * length frames → x < 64 * length frames → x ≢ w → place_of frames x ≢ place_of frames w
place_apart frames apart w x hw hx ne same =
    let wp : w / 64 < length frames = omega arith in
    let xp : x / 64 < length frames = omega arith in
    let frame : get_or frames (w / 64) 0 ≡ get_or frames (x / 64) 0 = omega (arith, same) in
    let rest : w % 64 ≡ x % 64 = omega (arith, same) in
    let page : w / 64 ≡ x / 64 =
    elim (cases_order (w / 64) (x / 64)) [
      | inl e ↦ e
      | inr o ↦
          elim o [
            | inl lt ↦ absurd (apart (x / 64) xp (w / 64) lt frame)
            | inr gt ↦ absurd (apart (w / 64) wp (x / 64) gt (sym frame))
          ]
    ]
    in
    ne (omega arith)

-- a write where word w lies changes word w and no other
pub page_words_set : (memory frames : List ℕ) (w v : ℕ)
    → Different frames → w < 64 * length frames → place_of frames w < length memory
    → page_words (set memory (place_of frames w) v) frames ≡ set (page_words memory frames) w v
page_words_set memory frames w v apart h room =
    let put = set memory (place_of frames w) v in
    let now-long = length-page_words put frames in
    let was-long = length-page_words memory frames in
    ext_get_or 0 (page_words put frames) (set (page_words memory frames) w v)
    (now-long ∙ sym (length-set (page_words memory frames) w v ∙ was-long))
    (λ i lt.
    let il : i < 64 * length frames = omega (arith, now-long) in
    let wl : w < length (page_words memory frames) = omega (arith, was-long) in
    get_or-page_words put frames i il
    ∙ elim (cases_eq i w) [
      | inl e ↦
          ap (λ k. get_or put (place_of frames k) 0) e
          ∙ get_or-set_same memory (place_of frames w) v 0 room
          ∙ sym (get_or-set_same (page_words memory frames) w v 0 wl)
          ∙ ap (λ k. get_or (set (page_words memory frames) w v) k 0) (sym e)
      | inr ne ↦
          get_or-set_other memory (place_of frames w) (place_of frames i) v 0 (place_apart frames apart w i h il ne)
          ∙ sym (get_or-page_words memory frames i il)
          ∙ sym (get_or-set_other (page_words memory frames) w i v 0 ne)
    ])
