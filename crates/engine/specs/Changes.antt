-- An instruction that changes the record of the context that is driven, and moves nothing.
use Rattle.std.specs.Prelude.{◌≡◌}
use Rattle.std.specs.Fn.{FnOnceReturnsAtMut}
use denote.Param.Members.{Once}
use denote.Ref.{MutBor}
use Rattle.context.specs.declared.sound.Context.{Context}
use Rattle.engine.specs.declared.machine.Machine.{Machine}
use Rattle.engine.specs.declared.machine.State.{State}
use Rattle.engine.specs.Tables.{record_at}
use Rattle.engine.specs.Hosts.{in_state, put_back}
use Rattle.engine.specs.Invariants.{Fits}

-- the context that the machine drives
pub record Drives (m : Machine) (c : Context) : Type 0 where
  pub stack : c.stack ≡ record_at m m.current
  pub number : c.number ≡ m.current
  pub counts : c.counts ≡ m.counts

module _ {F R : Type 0} (g : Once F (MutBor Context × Unit {0}) (R × (MutBor Context × Unit {0}))) (f : F) where
  -- whatever the call leaves of it fits the state
  abbrev pub FitsAfter : Machine → State → Type 0
  FitsAfter m state = (before after : Context) (r : R) → Drives m before → FnOnceReturnsAtMut g f before r after → Fits (in_state m state) after.stack

  -- the call was made at the context that m drives, and n has what it left, in the state
  pub record Changes (m : Machine) (state : State) (r : R) (n : Machine) : Type 0 where
    pub before : Context
    pub after : Context
    pub drives : Drives m before
    pub ran : FnOnceReturnsAtMut g f before r after
    pub machine : n ≡ in_state (put_back m after.stack after.counts) state
