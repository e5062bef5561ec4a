use Rattle.std.proofs.Common.{◌≡◌, ◌+◌, ◌%◌, ◌^◌, ◌<◌, ◌≤◌, true, length, arith, length-set}
use Rattle.address.specs.Addresses.{capacity_of}
use Rattle.frame.specs.Markers.{sof_of, lawful_word}
use Rattle.context.specs.Records.{bsp_of, stored_of, top_of}
use Rattle.engine.specs.Tables.{empty_record}
use Rattle.engine.specs.Rules.{is_parked_entry}
use Rattle.engine.specs.Invariants.{is_current_entry, Fits}
use Rattle.engine.proofs.Entries.{put_in, put_one}
use Rattle.engine.proofs.sound.Engine.replace.Goals as goal

pub invariant_of-self : goal.invariant_of-self
invariant_of-self c =
    let engine = c.args.self.now in
    let xs = engine.machine.table.entries in
    let at = c.args.k in
    let n = engine.machine.slots in
    let new = c.args.context in
    let r = new.stack in
    let fits : Fits engine.machine r = c.requires.fits in
    let h : at < length xs = omega (arith, c.requires.entry, engine.eight) in record {
      eight = simp length-set engine.eight;
      within = engine.within;
      regions = put_in (λ r. r.start + r.size ≤ 65536) xs at r empty_record h new.region engine.regions;
      marked = put_in (λ r. lawful_word r.marker ≡ true) xs at r empty_record h new.marked engine.marked;
      previously = put_in (λ r. lawful_word r.previous ≡ true) xs at r empty_record h new.previously engine.previously;
      saving = put_in (λ r. lawful_word r.saved ≡ true) xs at r empty_record h new.saving engine.saving;
      held = put_in (λ r. r.base + sof_of r.marker ≤ capacity_of r.size) xs at r empty_record h new.held engine.held;
      grouped = engine.grouped;
      enough = engine.enough;
      most = engine.most;
      aligned = put_in (λ r. r.start % 64 ≡ 0) xs at r empty_record h fits.sound.aligned engine.aligned;
      sized = put_in (λ r. r.size % 64 ≡ 0) xs at r empty_record h fits.sound.sized engine.sized;
      begins = put_in (λ r. r.start ≤ r.bspstore) xs at r empty_record h fits.sound.begins engine.begins;
      dirty = put_in (λ r. r.bspstore ≤ bsp_of r) xs at r empty_record h fits.sound.dirty engine.dirty;
      clean = put_in (λ r. r.lo ≤ stored_of r) xs at r empty_record h fits.sound.clean engine.clean;
      room = put_in (λ r. top_of r ≤ r.lo + n) xs at r empty_record h fits.sound.room engine.room;
      bits = put_in (λ r. r.rnat < 2 ^ (r.bspstore % 64)) xs at r empty_record h fits.sound.bits engine.bits;
      awake = (λ t. put_one (λ r. is_current_entry r.status ≡ true) xs at r empty_record engine.machine.current h (fits.awake t) (engine.awake t));
      covered = (λ t. put_one (λ r. r.marker ≡ 0) xs at r empty_record engine.machine.current h (fits.closed t).empty (engine.covered t));
      below = (λ t. put_one (λ r. sof_of r.saved ≤ r.base) xs at r empty_record engine.machine.current h (fits.closed t).below (engine.below t));
      flushed = (λ t. put_one (λ r. r.bspstore ≡ bsp_of r) xs at r empty_record engine.machine.current h (fits.stored t) (engine.flushed t));
      emptied = put_in (λ r. is_parked_entry r.status ≡ true → r.marker ≡ 0) xs at r empty_record h (λ t. (fits.parked t).0.empty) engine.emptied;
      lying = put_in (λ r. is_parked_entry r.status ≡ true → sof_of r.saved ≤ r.base) xs at r empty_record h (λ t. (fits.parked t).0.below) engine.lying;
      rested = put_in (λ r. is_parked_entry r.status ≡ true → r.bspstore ≡ bsp_of r) xs at r empty_record h (λ t. (fits.parked t).1) engine.rested;
    }
