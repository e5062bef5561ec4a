use Rattle.std.proofs.Common.{◌*◌, ◌<◌, length, set, vec_items, ap, ◌∙◌, arith}
use Rattle.store.specs.Frames.{page_words, place_of}
use Rattle.store.specs.Pages.{length-frames_of}
use Rattle.store.specs.Paged.{store_frames}
use Rattle.store.proofs.Places.{page_words_set}
use Rattle.store.proofs.paged.PagedStore.put.Goals as goal

pub returns-clause-words : goal.returns-clause-words
returns-clause-words c =
    let s = c.args.self.now in
    let w = c.args.w in
    let there : w < 64 * length (store_frames s) = omega (arith, c.requires.there, length-frames_of (vec_items s.pages), s.pages.ok.0) in
    let within : place_of (store_frames s) w < length s.memory.now = omega (arith, c.requires.within, c.requires.place) in
    ap (λ p. page_words (set s.memory.now p c.args.v) (store_frames s)) c.requires.place
    ∙ page_words_set s.memory.now (store_frames s) w c.args.v s.apart there within
