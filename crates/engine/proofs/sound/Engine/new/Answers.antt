use Rattle.std.proofs.Common.{◌≡◌, ◌+◌, ◌%◌, ◌^◌, ◌<◌, ◌≤◌, true, refl, arith, rules}
use Rattle.std.proofs.lemmas.Bool.{true≢false, false≢true}
use Rattle.address.specs.Addresses.{capacity_of}
use Rattle.frame.specs.Markers.{sof_of, lawful_word}
use Rattle.context.specs.Records.{bsp_of, stored_of, top_of}
use Rattle.engine.specs.Rules.{is_parked_entry}
use Rattle.engine.proofs.Entries.{empties}
use Rattle.engine.proofs.sound.Engine.new.Goals as goal

pub invariant_of-result : goal.invariant_of-result
invariant_of-result c = record {
  eight = refl;
  within = omega arith;
  regions = empties (λ r. r.start + r.size ≤ 65536) (omega arith);
  marked = empties (λ r. lawful_word r.marker ≡ true) (refl);
  previously = empties (λ r. lawful_word r.previous ≡ true) (refl);
  saving = empties (λ r. lawful_word r.saved ≡ true) (refl);
  held = empties (λ r. r.base + sof_of r.marker ≤ capacity_of r.size) (omega arith);
  grouped = search rules;
  enough = search rules;
  most = search rules;
  aligned = empties (λ r. r.start % 64 ≡ 0) (refl);
  sized = empties (λ r. r.size % 64 ≡ 0) (refl);
  begins = empties (λ r. r.start ≤ r.bspstore) (omega arith);
  dirty = empties (λ r. r.bspstore ≤ bsp_of r) (omega arith);
  clean = empties (λ r. r.lo ≤ stored_of r) (omega arith);
  room = empties (λ r. top_of r ≤ r.lo + c.args.slots) (omega arith);
  bits = empties (λ r. r.rnat < 2 ^ (r.bspstore % 64)) (omega arith);
  awake = (λ t. absurd (true≢false t));
  covered = (λ t. absurd (false≢true t));
  below = (λ t. absurd (false≢true t));
  flushed = (λ t. absurd (false≢true t));
  emptied = empties (λ r. is_parked_entry r.status ≡ true → r.marker ≡ 0) (λ t. refl);
  lying = empties (λ r. is_parked_entry r.status ≡ true → sof_of r.saved ≤ r.base) (λ t. omega arith);
  rested = empties (λ r. is_parked_entry r.status ≡ true → r.bspstore ≡ bsp_of r) (λ t. refl);
}
