use Rattle.std.proofs.Common.{ℕ, List, vec_items, vec_len, subst, sym}
use Rattle.store.specs.Frames.{Below, Different}
use Rattle.store.proofs.Pages.{frames_kept, door_moved}
use Rattle.store.proofs.paged.PagedStore.turn.Goals as goal

pub invariant_of-self-clause-within : goal.invariant_of-self-clause-within
invariant_of-self-clause-within c =
    let s = c.args.self.now in
    let P : List ℕ → Type 0 = λ frames. Below frames (vec_len s.pages) in
    subst P (sym (frames_kept (vec_items s.pages) c.args.page c.index_mut.result.now c.args.open c.index_mut.ensures.value)) s.within

pub invariant_of-self-clause-apart : goal.invariant_of-self-clause-apart
invariant_of-self-clause-apart c =
    let s = c.args.self.now in
    subst Different (sym (frames_kept (vec_items s.pages) c.args.page c.index_mut.result.now c.args.open c.index_mut.ensures.value)) s.apart

pub returns-clause-frames : goal.returns-clause-frames
returns-clause-frames c = frames_kept (vec_items c.args.self.now.pages) c.args.page c.index_mut.result.now c.args.open c.index_mut.ensures.value

pub returns-clause-doors : goal.returns-clause-doors
returns-clause-doors c = door_moved (vec_items c.args.self.now.pages) c.args.page c.index_mut.result.now c.args.open
