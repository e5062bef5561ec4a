-- What an engine says of its entries, and which records may be put into them.
use Rattle.std.proofs.Common.{◌≡◌, ℕ, ◌≤◌, true, false, Ok, Err, Result, sym, refl, ap, subst, arith}
use Rattle.std.proofs.lemmas.Bool.{both_ways}
use Rattle.context.specs.declared.record.ContextRecord.{ContextRecord}
use Rattle.context.specs.declared.record.Status.{Status}
use Rattle.context.specs.declared.record.Status.TheVariants.{Empty, Current, Parked}
use Rattle.context.specs.Sound.{Sound, Closed, Stored}
use Rattle.engine.specs.declared.machine.Machine.{Machine}
use Rattle.engine.specs.declared.machine.State.{State}
use Rattle.engine.specs.declared.machine.State.TheVariants.{Idle, Running, Covered, Flushed}
use Rattle.engine.specs.declared.sound.Engine.{Engine}
use Rattle.engine.specs.Tables.{record_at, empty_record}
use Rattle.engine.specs.Rules.{is_parked_entry}
use Rattle.context.specs.declared.refusals.Refusal.{Refusal}
use Rattle.engine.specs.Hosts.{in_state}
use Rattle.engine.specs.Running.{after_flush, enters}
use Rattle.engine.specs.Invariants.{is_idle, is_closed, is_flushed, is_current_entry, Fits}

pub sound_at : (e : Engine) (k : ℕ) → Sound e.machine.slots (record_at e.machine k)
sound_at e k =
    record {
      aligned = e.aligned k;
      sized = e.sized k;
      begins = e.begins k;
      dirty = e.dirty k;
      clean = e.clean k;
      room = e.room k;
      bits = e.bits k;
    }

pub recount : {n k : ℕ} (r : ContextRecord) → n ≡ k → Sound n r → Sound k r
recount r e h = subst (λ x. Sound x r) e h

-- the record of the context that is driven
abbrev pub driven_in : Engine → ContextRecord
driven_in e = record_at e.machine e.machine.current

-- what an instruction that moves registers begins with: its record is sound in a file of so many slots, which holds any frame
pub begins_sound : (e : Engine) (n : ℕ) (r : ContextRecord) → n ≡ e.machine.slots → r ≡ driven_in e → (96 ≤ n) × Sound n r
begins_sound e n r long same = (
  subst (λ k. 96 ≤ k) (sym long) e.enough,
  subst (λ k. Sound k r) (sym long) (subst (λ x. Sound e.machine.slots x) (sym same) (sound_at e e.machine.current)),
)

pub closed_in : (e : Engine) → is_closed e.machine.state ≡ true → Closed (driven_in e)
closed_in e t = record { empty = e.covered t; below = e.below t }

pub parked_at : (e : Engine) (k : ℕ) → is_parked_entry (record_at e.machine k).status ≡ true → Closed (record_at e.machine k) × Stored (record_at e.machine k)
parked_at e k t = (record { empty = e.emptied k t; below = e.lying k t }, e.rested k t)

-- one that is driven is not parked
not_parked : (s : Status) → is_current_entry s ≡ true → is_parked_entry s ≡ false
not_parked Empty h = refl
not_parked Current h = refl
not_parked Parked h = sym h

-- by the state that the machine is in
pub fits_in : (m : Machine) (r : ContextRecord) → Sound m.slots r → is_current_entry r.status ≡ true → (is_closed m.state ≡ true → Closed r) → (is_flushed m.state ≡ true → Stored r)
    → Fits m r
fits_in m r sound current closed stored =
    record {
      sound = sound;
      closed = closed;
      stored = stored;
      awake = λ _. current;
      parked = λ t. absurd (both_ways (is_parked_entry r.status) (not_parked r.status current) t);
    }

pub fits_running : (m : Machine) (r : ContextRecord) → m.state ≡ Running → Sound m.slots r → is_current_entry r.status ≡ true → Fits m r
fits_running m r e sound current =
    fits_in m r sound current
    (λ t. absurd (both_ways (is_closed m.state) (ap is_closed e) t))
    (λ t. absurd (both_ways (is_flushed m.state) (ap is_flushed e) t))

pub fits_idle : (m : Machine) (r : ContextRecord) → m.state ≡ Idle → Sound m.slots r → (is_parked_entry r.status ≡ true → Closed r × Stored r) → Fits m r
fits_idle m r e sound parked =
    record {
      sound = sound;
      closed = λ t. absurd (both_ways (is_closed m.state) (ap is_closed e) t);
      stored = λ t. absurd (both_ways (is_flushed m.state) (ap is_flushed e) t);
      awake = λ f. absurd (both_ways (is_idle m.state) f (ap is_idle e));
      parked = parked;
    }

-- a record that follows one that is driven, in running
pub fits_next : (m : Machine) (r t u : ContextRecord) → m.state ≡ Running → is_current_entry r.status ≡ true → t.status ≡ r.status → Sound m.slots t → u ≡ t → Fits m u
fits_next m r t u e current status sound same =
    subst (λ x. Fits m x) (sym same) (fits_running m t e sound (subst (λ x. is_current_entry x ≡ true) (sym status) current))

-- by the answer of an instruction that leads to a state
pub fits_entered : {T : Type 0} (m : Machine) (r : ContextRecord) (state : State) (answer : Result T Refusal) → ((v : T) → answer ≡ Ok v → Fits (in_state m state) r)
    → ((e : Refusal) → answer ≡ Err e → Fits m r) → Fits (enters answer state m) r
fits_entered m r state (Ok v) granted refused = granted v refl
fits_entered m r state (Err e) granted refused = refused e refl

-- ---- states

pub closed_awake : (s : State) → is_closed s ≡ true → is_idle s ≡ false
closed_awake Idle h = sym h
closed_awake Running h = refl
closed_awake Covered h = refl
closed_awake Flushed h = refl

pub flush_closes : (s : State) → is_closed (after_flush s) ≡ true → is_closed s ≡ true
flush_closes Idle h = h
flush_closes Running h = h
flush_closes Covered h = refl
flush_closes Flushed h = refl

pub empty_sound : (n : ℕ) → Sound n empty_record
empty_sound n = record { aligned = refl; sized = refl; begins = omega arith; dirty = omega arith; clean = omega arith; room = omega arith; bits = omega arith }
