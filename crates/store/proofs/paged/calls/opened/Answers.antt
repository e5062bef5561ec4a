use Rattle.std.proofs.Common.{true, vec_items, rules}
use Rattle.std.proofs.lemmas.Result.{IfOk-weaker}
use Rattle.std.proofs.lemmas.Iterator.{YieldsList-from_slice, YieldsList-from_map, items_from_collect}
use Rattle.std.proofs.lemmas.Iterator.Consumers.{YieldsList-from_copied}
use Rattle.store.proofs.Pages.{made_of}
use Rattle.store.proofs.paged.calls.opened.Goals as goal

pub returns : goal.returns
returns c =
    let frames = c.args.frames.now in
    let pages =
    YieldsList-from_map _ (λ f. record { frame = f; «open» = true }) (YieldsList-from_copied (YieldsList-from_slice frames cc))
    c.map.ensures.closure (λ x r q k. search rules)
    in
    IfOk-weaker c.collect.result _ _ (λ made e. made_of frames (vec_items made) e) (items_from_collect _ c.collect.ensures.ran pages)
