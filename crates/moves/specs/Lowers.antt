-- Lowering BSPSTORE.
use Rattle.std.specs.Prelude.{ℕ, ◌%◌, Bool, true, cond, not, ◌&&◌, Ok, ◌==◌}
use Rattle.address.specs.Addresses.{group_of, collection_of, positions_below}
use Rattle.address.specs.NatBits.{nats_below}
use Rattle.store.specs.Meaning.{Meaning}
use Rattle.store.specs.Rules.{is_open}
use Rattle.moves.specs.declared.state.Cursor.{Cursor}
use Rattle.moves.specs.declared.state.Movement.TheVariants.{Lowering}
use Rattle.moves.specs.Steps.{MoveResult, read_more, ask_of}
use Rattle.moves.specs.Fills.{far_bits}

-- a collection is read: into another group, and not to its first word
abbrev pub lower_reads : Cursor → ℕ → Bool
lower_reads c w = not (group_of w == group_of c.bspstore) && not (w % 64 == 0)

abbrev pub lower_open : Cursor → Meaning → ℕ → Bool
lower_open c m w = cond (lower_reads c w) (is_open m (collection_of w)) true

abbrev pub lower_answer : Meaning → ℕ → Cursor → ℕ → MoveResult
lower_answer m context c w =
    cond (lower_reads c w) (ask_of m (collection_of w) Lowering context (positions_below c.start w)) (Ok tt)

-- RNAT keeps its bits below w, or those bits come from the collection
abbrev pub lowered_to : ℕ → ℕ → Cursor → Cursor
lowered_to w bits c = record { context = c.context; start = c.start; bspstore = w; rnat = nats_below bits (w % 64); counts = c.counts }

-- where the moves stand after a lowering to w
abbrev pub lowered : Meaning → Cursor → ℕ → Cursor
lowered m c w =
    cond (lower_reads c w) (lowered_to w (far_bits m w) (read_more 1 c)) (lowered_to w c.rnat c)
