-- A record stays sound where a context begins, its frame changes, and it parks and resumes.
use Rattle.std.proofs.Common.{◌≡◌, ℕ, ◌+◌, ◌%◌, ◌^◌, ◌<◌, ◌≤◌, Bool, true, ◌&&◌, eqb, ltb, leb, sym, refl, ap, ◌∙◌, subst, arith}
use Rattle.std.proofs.lemmas.Bool.{and_parts, leb-true, eqb-true, cond_both}
use Rattle.address.specs.Addresses.{address_of, positions_below}
use Rattle.address.proofs.Addresses.{address_monotone, positions_address}
use Rattle.frame.specs.Markers.{sof_of, sol_of, sor_of, rotation_of, lawful_word, turned_once}
use Rattle.context.specs.declared.record.ContextRecord.{ContextRecord}
use Rattle.context.specs.Records.{bsp_of, stored_of, top_of}
use Rattle.context.specs.Regions.{well_formed, begun}
use Rattle.context.specs.Frames.{called, covered, rerotated, rotated_frame, reset_frame, previous_set}
use Rattle.context.specs.Returns.{parked, resumed}
use Rattle.context.specs.Sound.{Sound, Closed, Stored}

second : (a b c : Bool) → (a && (b && c)) ≡ true → b ≡ true
second a b c h = (and_parts b c (and_parts a (b && c) h).1).0

third : (a b c d : Bool) → (a && (b && (c && d))) ≡ true → c ≡ true
third a b c d h = second b c d (and_parts a (b && (c && d)) h).1

-- a frame has at most 96 registers, and its locals are among them
pub frame_bound : (w : ℕ) → lawful_word w ≡ true → sof_of w ≤ 96
frame_bound w h = leb-true (sof_of w) 96 (second (ltb w (2 ^ 25)) _ _ h)

pub locals_bound : (w : ℕ) → lawful_word w ≡ true → sol_of w ≤ sof_of w
locals_bound w h = leb-true (sol_of w) (sof_of w) (third (ltb w (2 ^ 25)) (leb (sof_of w) 96) _ _ h)

-- another frame of the same top, at a base that is no lower
refit : (n : ℕ) (r s : ContextRecord) → Sound n r → s.start ≡ r.start → s.size ≡ r.size → s.lo ≡ r.lo → s.bspstore ≡ r.bspstore → s.rnat ≡ r.rnat
    → r.base ≤ s.base → top_of s ≡ top_of r → Sound n s
refit n r s h start size lo bspstore rnat up top =
    let far : bsp_of r ≤ address_of r.start s.base = address_monotone r.start r.base s.base up in
    record {
      aligned = rw start h.aligned;
      sized = rw size h.sized;
      begins = rw (start, bspstore) h.begins;
      dirty = rw (start, bspstore) (omega (arith, h.dirty, far));
      clean = rw (start, bspstore, lo) h.clean;
      room = rw (lo, top) h.room;
      bits = rw (bspstore, rnat) h.bits;
    }

pub begun_sound : (n start size words : ℕ) → well_formed start size words ≡ true → Sound n (begun start size)
begun_sound n start size words h =
    let a : start % 64 ≡ 0 = eqb-true (start % 64) 0 (and_parts _ _ h).0 in
    let b : size % 64 ≡ 0 = eqb-true (size % 64) 0 (second (eqb (start % 64) 0) _ _ h) in
    record {
      aligned = a;
      sized = b;
      begins = omega arith;
      dirty = omega arith;
      clean = omega arith;
      room = omega arith;
      bits = let e : start % 64 ≡ 0 = a in subst (λ k. 0 < 2 ^ k) (sym e) (omega arith);
    }

pub called_sound : (n : ℕ) (r : ContextRecord) → lawful_word r.marker ≡ true → Sound n r → Sound n (called r)
called_sound n r law h =
    let l : sol_of r.marker ≤ sof_of r.marker = locals_bound r.marker law in
    refit n r (called r) h refl refl refl refl refl (omega arith) (omega (arith, l))

pub covered_sound : (n : ℕ) (r : ContextRecord) → Sound n r → Sound n (covered r)
covered_sound n r h = refit n r (covered r) h refl refl refl refl refl (omega arith) (omega arith)

pub covered_closed : (r : ContextRecord) → Closed (covered r)
covered_closed r = record { empty = refl; below = omega arith }

same_size : (w rotation : ℕ) → sof_of (rerotated w rotation) ≡ sof_of w
same_size w rotation = omega arith

pub rotated_sound : (n : ℕ) (r : ContextRecord) → Sound n r → Sound n (rotated_frame r)
rotated_sound n r h =
    let e = same_size r.marker (turned_once (sor_of r.marker) (rotation_of r.marker)) in
    refit n r (rotated_frame r) h refl refl refl refl refl (omega arith) (ap (λ x. r.base + x) e)

pub reset_sound : (n : ℕ) (r : ContextRecord) → Sound n r → Sound n (reset_frame r)
reset_sound n r h = refit n r (reset_frame r) h refl refl refl refl refl (omega arith) (ap (λ x. r.base + x) (same_size r.marker 0))

pub previous_sound : (n w : ℕ) (r : ContextRecord) → Sound n r → Sound n (previous_set r w)
previous_sound n w r h = cond_both (lawful_word w) _ r (Sound n) (λ _. refit n r _ h refl refl refl refl refl (omega arith) refl) (λ _. h)

pub previous_status : (w : ℕ) (r : ContextRecord) → (previous_set r w).status ≡ r.status
previous_status w r = cond_both (lawful_word w) _ r (λ s. s.status ≡ r.status) (λ _. refl) (λ _. refl)

-- where all below base is stored, the file may hold nothing below base
pub parked_sound : (n : ℕ) (r : ContextRecord) → 96 ≤ n → lawful_word r.marker ≡ true → Stored r → Sound n r → Sound n (parked r)
parked_sound n r wide law all h =
    let here : stored_of r ≡ r.base = ap (positions_below r.start) all ∙ positions_address r.start r.base in
    record {
      aligned = h.aligned;
      sized = h.sized;
      begins = h.begins;
      dirty = h.dirty;
      clean = omega (arith, here);
      room = omega (arith, frame_bound r.marker law);
      bits = h.bits;
    }

pub resumed_sound : (n : ℕ) (r : ContextRecord) → 96 ≤ n → lawful_word r.marker ≡ true → Stored r → Sound n r → Sound n (resumed r)
resumed_sound n r wide law all h =
    let here : positions_below r.start (bsp_of r) ≡ r.base = positions_address r.start r.base in
    record {
      aligned = h.aligned;
      sized = h.sized;
      begins = omega arith;
      dirty = omega arith;
      clean = omega (arith, here);
      room = omega (arith, frame_bound r.marker law);
      bits = subst (λ b. r.rnat < 2 ^ (b % 64)) all h.bits;
    }
