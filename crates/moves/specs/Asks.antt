-- Asking about every word that a run of moves needs, lowest first.
use Rattle.std.specs.Prelude.{ℕ, zero, suc, ◌+◌, cond, Ok}
use Rattle.address.specs.Addresses.{positions_below}
use Rattle.store.specs.Meaning.{Meaning}
use Rattle.store.specs.Rules.{is_open}
use Rattle.moves.specs.declared.state.Cursor.{Cursor}
use Rattle.moves.specs.declared.state.Movement.TheVariants.{Spill}
use Rattle.moves.specs.Steps.{MoveResult, ask_of}
use Rattle.moves.specs.Fills.{fill_open, fill_answer}

-- n words from w on, that spills are to write
abbrev pub spills_asked : Meaning → ℕ → ℕ → ℕ → ℕ → MoveResult
spills_asked m context start zero w = Ok tt
spills_asked m context start (suc n) w =
    cond (is_open m w) (spills_asked m context start n (w + 1)) (ask_of m w Spill context (positions_below start w))

-- the words of n fills from position p on
abbrev pub fills_asked : Meaning → ℕ → Cursor → ℕ → ℕ → MoveResult
fills_asked m context c zero p = Ok tt
fills_asked m context c (suc n) p = cond (fill_open c m p) (fills_asked m context c n (p + 1)) (fill_answer m context c p)
