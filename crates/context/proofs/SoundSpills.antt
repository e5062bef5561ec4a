-- A record stays sound where the context spills: alloc, flush, the early spill; and at an early fill.
use Rattle.std.proofs.Common.{◌≡◌, ℕ, zero, suc, ◌+◌, ◌-◌, ◌%◌, ◌^◌, ◌<◌, ◌≤◌, max, Bool, true, false, cond, ◌||◌, eqb, ltb, leb, List, length, Ok, Err, Result, sym, refl, ◌∙◌, subst, arith, length-set}
use Rattle.std.proofs.lemmas.Bool.{and_parts, leb-true, ltb-true, ltb-false, cond_both}
use Rattle.address.specs.Addresses.{address_of, positions_below, capacity_of}
use Rattle.address.proofs.Addresses.{positions_monotone}
use Rattle.frame.specs.Markers.{sof_of, sor_of, rotation_of, lawful, word_of_parts}
use Rattle.register.specs.Slots.{registers_cleared}
use Rattle.register.specs.declared.Slot.{Slot}
use Rattle.store.specs.Meaning.{Meaning}
use Rattle.moves.specs.Steps.{MoveResult}
use Rattle.moves.specs.Fills.{FillEnd, fill_run, fill_open}
use Rattle.moves.specs.declared.state.Cursor.{Cursor}
use Rattle.context.specs.declared.record.ContextRecord.{ContextRecord}
use Rattle.context.specs.declared.refusals.Refusal.{Refusal}
use Rattle.context.specs.declared.refusals.Refusal.TheVariants.{Marker, Rotation, Top}
use Rattle.context.specs.Records.{bsp_of, stored_of, top_of, with_frame, with_lo, with_moves}
use Rattle.context.specs.Frames.{if_granted}
use Rattle.context.specs.Scenes.{Scene, cursor_in, moved, if_moved, spilled}
use Rattle.context.specs.Spilling.{spill_end_of, alloc_marker, run_to, floor_of, top_with, grow_run, grown, alloc_after, flush_run, flush_answer}
use Rattle.context.specs.Spilling.{early_spill_run, early_spill_after, is_dirty, has_room, early_fill_run, early_fill_after}
use Rattle.context.specs.Sound.{Sound, Closed, Stored}
use Rattle.context.proofs.SpillRuns.{Ran, spills_run}

-- where spills for a floor end
pub end_below : (r : ContextRecord) (floor p : ℕ) → floor ≤ p → r.bspstore ≤ address_of r.start p → spill_end_of r floor ≤ address_of r.start p
end_below r floor p h low =
    cond_both (ltb (stored_of r) floor) (address_of r.start (floor - 1) + 1) r.bspstore (λ e. e ≤ address_of r.start p)
    (λ t. omega (arith, ltb-true (stored_of r) floor t))
    (λ f. low)

stored_end : (start floor : ℕ) → 0 < floor → positions_below start (address_of start (floor - 1) + 1) ≡ floor
stored_end start floor h = omega arith

pub end_stores : (r : ContextRecord) (floor : ℕ) → floor ≤ positions_below r.start (spill_end_of r floor)
end_stores r floor =
    cond_both (ltb (stored_of r) floor) (address_of r.start (floor - 1) + 1) r.bspstore (λ e. floor ≤ positions_below r.start e)
    (λ t. omega (arith, ltb-true (stored_of r) floor t, stored_end r.start floor))
    (λ f. omega (arith, ltb-false (stored_of r) floor f))

-- at least as far as BSPSTORE
pub end_least : (r : ContextRecord) (floor : ℕ) → r.start ≤ r.bspstore → r.bspstore ≤ spill_end_of r floor
end_least r floor h =
    cond_both (ltb (stored_of r) floor) (address_of r.start (floor - 1) + 1) r.bspstore (λ e. r.bspstore ≤ e)
    (λ t. let lt : stored_of r < floor = ltb-true (stored_of r) floor t in omega arith)
    (λ f. omega arith)

-- moves that raise BSPSTORE, at most to BSP
pub raised_sound : (n : ℕ) (r : ContextRecord) (c : Cursor) → Sound n r → r.bspstore ≤ c.bspstore → c.bspstore ≤ bsp_of r → c.rnat < 2 ^ (c.bspstore % 64)
    → Sound n (with_moves r c)
raised_sound n r c h low high bits =
    record {
      aligned = h.aligned;
      sized = h.sized;
      begins = omega (arith, h.begins);
      dirty = high;
      clean = omega (arith, h.clean, positions_monotone r.start r.bspstore c.bspstore low);
      room = h.room;
      bits = bits;
    }

module _ {C : Type 0} (nought : C) (image : C → ℕ) (s : Scene C) where
  ran : (end : ℕ) → s.stack.rnat < 2 ^ (s.stack.bspstore % 64) → Ran (end - s.stack.bspstore) (cursor_in s) (run_to nought image s end)
  ran end h = spills_run nought image s.file s.number (end - s.stack.bspstore) (cursor_in s) s.meaning h

  -- spills to a word, at most BSP
  pub spilled_sound : (n end : ℕ) → Sound n s.stack → end ≤ bsp_of s.stack → Sound n (spilled s (run_to nought image s end)).stack
  spilled_sound n end h le =
      let r = ran end h.bits in
      raised_sound n s.stack (run_to nought image s end).cursor h r.least (omega (arith, r.most, h.dirty)) r.bits

  pub spilled_whole : (n end : ℕ) → Sound n s.stack → s.stack.bspstore ≤ end → (run_to nought image s end).answer ≡ Ok tt
      → (run_to nought image s end).cursor.bspstore ≡ end
  spilled_whole n end h le ok = omega (arith, (ran end h.bits).whole ok)

  pub flushed_sound : (n : ℕ) → Sound n s.stack → Sound n (spilled s (flush_run nought image s)).stack
  flushed_sound n h = spilled_sound n (bsp_of s.stack) h (omega arith)

  -- a flush that went through has stored all below base
  pub flushed_stored : (n : ℕ) → Sound n s.stack → (flush_run nought image s).answer ≡ Ok tt → Stored (spilled s (flush_run nought image s)).stack
  flushed_stored n h ok = spilled_whole n (bsp_of s.stack) h h.dirty ok

  pub early_spill_sound : (n : ℕ) → Sound n s.stack → Sound n (early_spill_after nought image s).stack
  early_spill_sound n h =
      cond_both (is_dirty s) (spilled s (early_spill_run nought image s)) s (λ x. Sound n x.stack)
      (λ t. spilled_sound n (s.stack.bspstore + 1) h (omega (arith, ltb-true s.stack.bspstore (bsp_of s.stack) t)))
      (λ f. h)

-- ---- cases of an answer

pub moved_both : {T : Type 0} (P : T → Type 0) (a : MoveResult) (x y : T) → (a ≡ Ok tt → P x) → P y → P (if_moved a x y)
moved_both P (Ok v) x y h k = h refl
moved_both P (Err e) x y h k = k

pub granted_both : {T : Type 0} (P : T → Type 0) (a : Result ℕ Refusal) (f : ℕ → T) (other : T) → ((w : ℕ) → a ≡ Ok w → P (f w)) → P other → P (if_granted a f other)
granted_both P (Ok w) f other h k = h w refl
granted_both P (Err e) f other h k = k

moved_went : {T : Type 0} (a : MoveResult) (answer : Result T Refusal) (x : T) → moved a answer ≡ Ok x → a ≡ Ok tt
moved_went (Ok v) answer x e = refl
moved_went (Err f) answer x e = let z : ◌≡◌ {A = ℕ} 0 1 = cc in absurd (omega (arith, z))

pub flush_granted : {C : Type 0} (nought : C) (image : C → ℕ) (s : Scene C) (x : ℕ × ℕ) → flush_answer nought image s ≡ Ok x → (flush_run nought image s).answer ≡ Ok tt
flush_granted nought image s x e = moved_went (flush_run nought image s).answer _ x e

-- ---- alloc

cleared_length : {C : Type 0} (nought : C) (k p : ℕ) (slots : List (Slot C)) → length (registers_cleared nought k p slots) ≡ length slots
cleared_length nought zero p slots = refl
cleared_length nought (suc k) p slots = length-set (registers_cleared nought k p slots) _ _ ∙ cleared_length nought k p slots

only_word : (a b c : Bool) (word w : ℕ) → (a ≡ true → sof_of word ≤ 96)
    → ◌≡◌ {A = Result ℕ Refusal} (cond a (cond b (cond c (Ok word) (Err Top)) (Err Rotation)) (Err Marker)) (Ok w) → sof_of w ≤ 96
only_word true true true word w h e = let same : word ≡ w = cc in subst (λ x. sof_of x ≤ 96) same (h refl)
only_word true true false word w h e = let z : ◌≡◌ {A = ℕ} 0 1 = cc in absurd (omega (arith, z))
only_word true false c word w h e = let z : ◌≡◌ {A = ℕ} 0 1 = cc in absurd (omega (arith, z))
only_word false b c word w h e = let z : ◌≡◌ {A = ℕ} 0 1 = cc in absurd (omega (arith, z))

pub alloc_bound : (r : ContextRecord) (sof sol sor w : ℕ) → alloc_marker r sof sol sor ≡ Ok w → sof_of w ≤ 96
alloc_bound r sof sol sor w =
    only_word (lawful sof sol sor 0) (eqb sor (sor_of r.marker) || eqb (rotation_of r.marker) 0) (leb (r.base + sof) (capacity_of r.size))
    (word_of_parts sof sol sor (rotation_of r.marker)) w
    (λ t. let small : sof ≤ 96 = leb-true sof 96 (and_parts (leb sof 96) _ t).0 in omega arith)

-- a frame at the same base, where all below its floor is stored
framed_sound : (n : ℕ) (r : ContextRecord) (w : ℕ) → Sound n r → (r.base + sof_of w) - n ≤ stored_of r
    → Sound n (with_lo (with_frame r r.base w) (max r.lo ((r.base + sof_of w) - n)))
framed_sound n r w h low =
    record {
      aligned = h.aligned;
      sized = h.sized;
      begins = h.begins;
      dirty = h.dirty;
      clean = omega (arith, h.clean, low);
      room = omega arith;
      bits = h.bits;
    }

module _ {C : Type 0} (nought : C) (image : C → ℕ) (s : Scene C) where
  pub grown_sound : (w : ℕ) → sof_of w ≤ 96 → 96 ≤ length s.file → Sound (length s.file) s.stack
      → Sound (length s.file) (grown nought s (grow_run nought image s w) w).stack
  grown_sound w small wide h =
      let n = length s.file in
      let floor = floor_of s (top_with s w) in
      let end = spill_end_of s.stack floor in
      let run = grow_run nought image s w in
      let same = cleared_length nought (top_with s w - top_of s.stack) (top_of s.stack) s.file in
      let le : floor ≤ s.stack.base = omega arith in
      let top : end ≤ bsp_of s.stack = end_below s.stack floor s.stack.base le h.dirty in
      let after = spilled_sound nought image s n end h top in
      moved_both (λ (x : Scene C). Sound n x.stack) run.answer _ (spilled s run)
      (λ ok. let e : run.cursor.bspstore ≡ end = spilled_whole nought image s n end h (end_least s.stack floor h.begins) ok in
      let low : floor ≤ positions_below s.stack.start run.cursor.bspstore = rw e (end_stores s.stack floor) in
      subst (λ k. Sound n (with_lo (with_frame (with_moves s.stack run.cursor) s.stack.base w) (max s.stack.lo (top_with s w - k)))) (sym same)
      (framed_sound n (with_moves s.stack run.cursor) w after low))
      after

  pub alloc_sound : (sof sol sor : ℕ) → 96 ≤ length s.file → Sound (length s.file) s.stack
      → Sound (length s.file) (alloc_after nought image s sof sol sor).stack
  alloc_sound sof sol sor wide h =
      granted_both (λ (x : Scene C). Sound (length s.file) x.stack) (alloc_marker s.stack sof sol sor) _ s
      (λ w e. grown_sound w (alloc_bound s.stack sof sol sor w e) wide h) h

  pub alloc_status : (sof sol sor : ℕ) → (alloc_after nought image s sof sol sor).stack.status ≡ s.stack.status
  alloc_status sof sol sor =
      granted_both (λ (x : Scene C). x.stack.status ≡ s.stack.status) (alloc_marker s.stack sof sol sor) _ s
      (λ w e. moved_both (λ (x : Scene C). x.stack.status ≡ s.stack.status) (grow_run nought image s w).answer _ _ (λ _. refl) refl) refl

  pub early_spill_status : (early_spill_after nought image s).stack.status ≡ s.stack.status
  early_spill_status = cond_both (is_dirty s) (spilled s (early_spill_run nought image s)) s (λ x. x.stack.status ≡ s.stack.status) (λ _. refl) (λ _. refl)

  pub early_spill_closed : Closed s.stack → Closed (early_spill_after nought image s).stack
  early_spill_closed h =
      cond_both (is_dirty s) (spilled s (early_spill_run nought image s)) s (λ x. Closed x.stack) (λ _. record { empty = h.empty; below = h.below }) (λ _. h)

-- ---- how many words

-- a frame of 96 registers more than the file has room for: two collections may stand among them
end_near : (start bspstore floor : ℕ) → start % 64 ≡ 0 → start ≤ bspstore → 0 < floor → floor ≤ positions_below start bspstore + 96
    → address_of start (floor - 1) + 1 ≤ bspstore + 98
end_near start bspstore floor a low pos h = omega arith

pub end_bound : (n : ℕ) (r : ContextRecord) (top : ℕ) → Sound n r → top ≤ top_of r + 96 → spill_end_of r (top - n) ≤ r.bspstore + 98
end_bound n r top h le =
    cond_both (ltb (stored_of r) (top - n)) (address_of r.start ((top - n) - 1) + 1) r.bspstore (λ e. e ≤ r.bspstore + 98)
    (λ t. let lt : stored_of r < top - n = ltb-true (stored_of r) (top - n) t in
    let near : top - n ≤ stored_of r + 96 = omega (arith, h.room, h.clean) in
    end_near r.start r.bspstore (top - n) h.aligned h.begins (omega (arith, lt)) near)
    (λ f. omega arith)

module _ {C : Type 0} (nought : C) (image : C → ℕ) (s : Scene C) where
  pub spilled_words : (n end : ℕ) → Sound n s.stack → end ≤ s.stack.bspstore + 98 → (run_to nought image s end).cursor.counts.written ≤ s.counts.written + 98
  spilled_words n end h le = omega (arith, (ran nought image s end h.bits).wrote)

  -- an alloc writes at most 98 words: 96 registers, and two collections
  pub alloc_words : (sof sol sor : ℕ) → Sound (length s.file) s.stack → (alloc_after nought image s sof sol sor).counts.written ≤ s.counts.written + 98
  alloc_words sof sol sor h =
      granted_both (λ (x : Scene C). x.counts.written ≤ s.counts.written + 98) (alloc_marker s.stack sof sol sor) _ s
      (λ w e. let words = spilled_words (length s.file) (spill_end_of s.stack (floor_of s (top_with s w))) h
      (end_bound (length s.file) s.stack (top_with s w) h (omega (arith, alloc_bound s.stack sof sol sor w e))) in
      moved_both (λ (x : Scene C). x.counts.written ≤ s.counts.written + 98) (grow_run nought image s w).answer _ _ (λ _. words) words)
      (omega arith)

-- ---- the early fill

-- fills leave BSPSTORE and RNAT
pub record Still (c d : Cursor) : Type 0 where
  pub start : d.start ≡ c.start
  pub bspstore : d.bspstore ≡ c.bspstore
  pub rnat : d.rnat ≡ c.rnat

by_still : {C : Type 0} (b : Bool) (x y : FillEnd C) (c : Cursor) → Still c x.cursor → Still c y.cursor → Still c (cond b x y).cursor
by_still true x y c h k = h
by_still false x y c h k = k

module _ {C : Type 0} (content : ℕ → C) (m : Meaning) (context : ℕ) where
  pub fills_still : (n p : ℕ) (c : Cursor) (slots : List (Slot C)) → Still c (fill_run content m context n p c slots).cursor
  fills_still zero p c slots = record { start = refl; bspstore = refl; rnat = refl }
  fills_still (suc n) p c slots =
      let rest = fills_still n (p + 1) _ _ in
      by_still (fill_open c m p) _ _ c (record { start = rest.start; bspstore = rest.bspstore; rnat = rest.rnat }) (record { start = refl; bspstore = refl; rnat = refl })

-- one position more in the file, where there is room for it
lower_sound : (n : ℕ) (r : ContextRecord) (c : Cursor) → Sound n r → c.bspstore ≡ r.bspstore → c.rnat ≡ r.rnat → 0 < r.lo → top_of r - r.lo < n
    → Sound n (with_lo (with_moves r c) (r.lo - 1))
lower_sound n r c h e f low space =
    record {
      aligned = h.aligned;
      sized = h.sized;
      begins = rw e h.begins;
      dirty = rw e h.dirty;
      clean = rw e (omega (arith, h.clean));
      room = omega arith;
      bits = rw (e, f) h.bits;
    }

module _ {C : Type 0} (content : ℕ → C) (s : Scene C) where
  pub early_fill_sound : Sound (length s.file) s.stack → Sound (length s.file) (early_fill_after content s).stack
  early_fill_sound h =
      let n = length s.file in
      let lo = s.stack.lo in
      let still = fills_still content s.meaning s.number (lo - (lo - 1)) (lo - 1) (cursor_in s) s.file in
      cond_both (has_room s) _ s (λ x. Sound n x.stack)
      (λ t. let both = and_parts (ltb 0 lo) (ltb (top_of s.stack - lo) n) t in
      moved_both (λ (x : Scene C). Sound n x.stack) (early_fill_run content s).answer _ _
      (λ ok. lower_sound n s.stack (early_fill_run content s).cursor h still.bspstore still.rnat (ltb-true 0 lo both.0) (ltb-true (top_of s.stack - lo) n both.1))
      h)
      (λ f. h)

  pub early_fill_status : (early_fill_after content s).stack.status ≡ s.stack.status
  early_fill_status =
      cond_both (has_room s) _ s (λ x. x.stack.status ≡ s.stack.status)
      (λ t. moved_both (λ (x : Scene C). x.stack.status ≡ s.stack.status) (early_fill_run content s).answer _ _ (λ _. refl) refl)
      (λ f. refl)

  pub early_fill_closed : Closed s.stack → Closed (early_fill_after content s).stack
  early_fill_closed h =
      cond_both (has_room s) _ s (λ x. Closed x.stack)
      (λ t. moved_both (λ (x : Scene C). Closed x.stack) (early_fill_run content s).answer _ _ (λ _. record { empty = h.empty; below = h.below }) h)
      (λ f. h)
