-- What the moves share: counts, and the fault of a move.
use Rattle.std.specs.Prelude.{ℕ, ◌+◌, ◌-◌, ◌^◌, min, cond, Ok, Err, Result}
use Rattle.store.specs.Meaning.{Meaning}
use Rattle.store.specs.Rules.{is_open, refusal_of}
use Rattle.store.specs.declared.StoreFault.{StoreFault}
use Rattle.moves.specs.declared.state.Cursor.{Cursor}
use Rattle.moves.specs.declared.state.Counts.{Counts}
use Rattle.moves.specs.declared.state.Movement.{Movement}
use Rattle.moves.specs.declared.state.MoveFault.{MoveFault}
use Rattle.moves.specs.declared.state.Place.{Place}

-- what a move answers
abbrev pub MoveResult : Type 0
MoveResult = Result (Unit {0}) MoveFault

-- a result of the store, with the move that met its fault
abbrev pub placed : {T : Type 0} → Result T StoreFault → Place → Result T MoveFault
placed (Ok v) place = Ok v
placed (Err e) place = Err (record { fault = e; place = place })

-- k more, stopping at 2 ^ 64 − 1
abbrev pub counted_up : ℕ → ℕ → ℕ
counted_up n k = min (n + k) (2 ^ 64 - 1)

-- one word written
abbrev pub wrote_one : Counts → Counts
wrote_one c = record { written = counted_up c.written 1; read = c.read }

-- k words read
abbrev pub read_more : ℕ → Cursor → Cursor
read_more k c =
    record { context = c.context; start = c.start; bspstore = c.bspstore; rnat = c.rnat; counts = record { written = c.counts.written; read = counted_up c.counts.read k } }

-- where a move of the cursor's context stands
abbrev pub place_of : Cursor → Movement → ℕ → Place
place_of c movement position = record { movement = movement; context = c.context; position = position }

-- the store's fault at word w, met by a move of a context at a position
abbrev pub fault_at : Meaning → ℕ → Movement → ℕ → ℕ → MoveFault
fault_at m w movement context position =
    record { fault = refusal_of m w; place = record { movement = movement; context = context; position = position } }

-- what asking about word w answers a move at a place
abbrev pub asked_at : Meaning → ℕ → Place → MoveResult
asked_at m w place = cond (is_open m w) (Ok tt) (Err (record { fault = refusal_of m w; place = place }))

abbrev pub ask_of : Meaning → ℕ → Movement → ℕ → ℕ → MoveResult
ask_of m w movement context position = asked_at m w (record { movement = movement; context = context; position = position })
