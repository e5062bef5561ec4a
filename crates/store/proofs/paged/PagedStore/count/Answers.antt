use Rattle.std.proofs.Common.{vec_items, arith}
use Rattle.store.specs.Pages.{length-frames_of}
use Rattle.store.specs.Paged.{store_frames}
use Rattle.store.specs.Paging.{length-page_words}
use Rattle.store.proofs.paged.PagedStore.count.Goals as goal

pub returns-clause-words : goal.returns-clause-words
returns-clause-words c =
    let s = c.args.self.now in
    omega (arith, length-page_words s.memory.now (store_frames s), length-frames_of (vec_items s.pages), c.len.ensures, s.pages.ok.0)
