use Rattle.std.proofs.Common.{◌/◌, List, vec_items, subst}
use Rattle.std.specs.Slice.{IsItemAt}
use Rattle.store.specs.declared.paged.Page.{Page}
use Rattle.store.proofs.Pages.{page_found}
use Rattle.store.proofs.paged.PagedStore.page.Goals as goal

pub returns : goal.returns
returns c =
    let s = c.args.self.now in
    let P : List Page → Type 0 = λ pages. IsItemAt pages (c.args.w / 64) c.get.result in
    let found : P (vec_items s.pages) = subst P c.deref.ensures.value c.get.ensures.lookup in
    page_found s c.args.w c.get.result found
