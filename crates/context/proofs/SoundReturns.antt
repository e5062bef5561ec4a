-- A record stays sound where the context goes back to a frame below: return, restore, load.
use Rattle.std.proofs.Common.{◌≡◌, ℕ, ◌+◌, ◌-◌, ◌%◌, ◌<◌, ◌≤◌, min, max, Bool, true, false, cond, ltb, leb, length, Ok, Err, Result, sym, refl, ap, ◌∙◌, subst, mod-lt, arith}
use Rattle.std.proofs.lemmas.Nat.{pow_pos}
use Rattle.std.proofs.lemmas.Bool.{leb-true, le-leb, ltb-true, ltb-false, cond_both}
use Rattle.address.specs.Addresses.{address_of, positions_below, capacity_of}
use Rattle.address.proofs.Addresses.{address_monotone, positions_address, positions_from}
use Rattle.frame.specs.Markers.{sof_of, sol_of, lawful_word}
use Rattle.store.specs.Meaning.{Meaning}
use Rattle.moves.specs.Steps.{MoveResult}
use Rattle.moves.specs.Lowers.{lowered, lower_reads}
use Rattle.moves.specs.declared.state.Cursor.{Cursor}
use Rattle.moves.specs.declared.state.MoveFault.{MoveFault}
use Rattle.context.specs.declared.record.ContextRecord.{ContextRecord}
use Rattle.context.specs.declared.refusals.Refusal.{Refusal}
use Rattle.context.specs.declared.refusals.Refusal.TheVariants.{Top, Depth}
use Rattle.context.specs.Records.{bsp_of, stored_of, with_frame, with_lo, with_moves}
use Rattle.context.specs.Scenes.{Scene, cursor_in, moved, if_moved, both, spilled, settled, with_file}
use Rattle.context.specs.Spilling.{spill_end_of, run_to, floor_of, fills_to}
use Rattle.context.specs.Returns.{room_asked, room_answer, room_after, refill_asked, refill_moved, refill_cursor, refill_answer, refill_after}
use Rattle.context.specs.Returns.{frame_answer, frame_after, reframed, back_after, back_to, back_to_answer, return_base, restore_base}
use Rattle.context.specs.Sound.{Sound, Closed}
use Rattle.context.proofs.SpillRuns.{Bits}
use Rattle.context.proofs.SoundFrames.{frame_bound}
use Rattle.context.proofs.SoundSpills.{end_below, end_least, end_stores, spilled_sound, spilled_whole, moved_both, granted_both}

-- ---- the cases of the moves: what they answer, with the record that they leave

-- a lowering leaves BSPSTORE at its word, and no bits of RNAT from there on
lowered_at : (reads : Bool) (x y : Cursor) (w : ℕ) → x.bspstore ≡ w → y.bspstore ≡ w → (cond reads x y).bspstore ≡ w
lowered_at true x y w h k = h
lowered_at false x y w h k = k

lowered_bits : (m : Meaning) (c : Cursor) (w : ℕ) → Bits (lowered m c w)
lowered_bits m c w = cond_both (lower_reads c w) _ _ Bits (λ _. mod-lt _ (pow_pos (w % 64))) (λ _. mod-lt _ (pow_pos (w % 64)))

both_cases : {C : Type 0} (P : MoveResult → ContextRecord → Type 0) (a b : MoveResult) (x y z : Scene C)
    → P (Ok tt) x.stack → ((f : MoveFault) → P (Err f) y.stack) → ((f : MoveFault) → P (Err f) z.stack)
    → P (both a b) (if_moved a (if_moved b x y) z).stack
both_cases P (Ok v) (Ok u) x y z through part none = through
both_cases P (Ok v) (Err f) x y z through part none = part f
both_cases P (Err f) b x y z through part none = none f

some_cases : {C : Type 0} (P : MoveResult → ContextRecord → Type 0) (a b : MoveResult) (x z : Scene C)
    → (b ≡ Ok tt → P (Ok tt) x.stack) → ((f : MoveFault) → P (Err f) x.stack) → ((f : MoveFault) → P (Err f) z.stack)
    → P (both a b) (if_moved a x z).stack
some_cases P (Ok v) (Ok u) x z through part none = through refl
some_cases P (Ok v) (Err f) x z through part none = part f
some_cases P (Err f) b x z through part none = none f

module _ {C : Type 0} (content : ℕ → C) (s : Scene C) (low high word : ℕ) where
  pub refill_cases : (P : MoveResult → ContextRecord → Type 0)
      → ((c : Cursor) → c.bspstore ≡ word → Bits c → P (Ok tt) (with_moves s.stack c)) → ((f : MoveFault) → P (Err f) s.stack)
      → P (refill_answer content s low high word) (refill_after content s low high word).stack
  unfolding refill_answer refill_after
  refill_cases P through stopped =
      let c = refill_cursor content s low high word in
      let file = (fills_to content s low high).file in
      both_cases P (refill_asked s.meaning (cursor_in s) low high word) (refill_moved content s low high word) (with_file (settled s c) file) (with_file s file) s
      (through c (lowered_at (lower_reads (fills_to content s low high).cursor word) _ _ word refl refl) (lowered_bits s.meaning (fills_to content s low high).cursor word))
      stopped stopped

module _ {C : Type 0} (nought : C) (image : C → ℕ) (s : Scene C) (floor : ℕ) where
  pub room_cases : (P : MoveResult → ContextRecord → Type 0)
      → ((run_to nought image s (spill_end_of s.stack floor)).answer ≡ Ok tt → P (Ok tt) (spilled s (run_to nought image s (spill_end_of s.stack floor))).stack)
      → ((f : MoveFault) → P (Err f) (spilled s (run_to nought image s (spill_end_of s.stack floor))).stack) → ((f : MoveFault) → P (Err f) s.stack)
      → P (room_answer nought image s floor) (room_after nought image s floor).stack
  unfolding room_answer room_after
  room_cases P through part none =
      let run = run_to nought image s (spill_end_of s.stack floor) in
      some_cases P (room_asked s floor) run.answer (spilled s run) s through part none

choice : {C : Type 0} (P : MoveResult → ContextRecord → Type 0) (t u : Bool) (a b c : MoveResult) (x y z : Scene C)
    → (t ≡ true → P a x.stack) → (t ≡ false → u ≡ true → P b y.stack) → (t ≡ false → u ≡ false → P c z.stack)
    → P (cond t a (cond u b c)) (cond t x (cond u y z)).stack
choice P true u a b c x y z h k l = h refl
choice P false true a b c x y z h k l = k refl refl
choice P false false a b c x y z h k l = l refl refl

module _ {C : Type 0} (nought : C) (image : C → ℕ) (content : ℕ → C) (s : Scene C) (base top : ℕ) where
  pub frame_cases : (P : MoveResult → ContextRecord → Type 0)
      → (stored_of s.stack < floor_of s top → P (room_answer nought image s (floor_of s top)) (room_after nought image s (floor_of s top)).stack)
      → (floor_of s top ≤ stored_of s.stack → base < stored_of s.stack
      → P (refill_answer content s base (min s.stack.lo top) (address_of s.stack.start base)) (refill_after content s base (min s.stack.lo top) (address_of s.stack.start base)).stack)
      → (floor_of s top ≤ stored_of s.stack → stored_of s.stack ≤ base → P (Ok tt) s.stack)
      → P (frame_answer nought image content s base top) (frame_after nought image content s base top).stack
  unfolding frame_answer frame_after
  frame_cases P rooms fills none =
      let st = stored_of s.stack in
      let fl = floor_of s top in
      choice P (ltb st fl) (ltb base st) _ _ (Ok tt) _ _ s
      (λ t. rooms (ltb-true st fl t))
      (λ f t. fills (ltb-false st fl f) (ltb-true base st t))
      (λ f g. none (ltb-false st fl f) (ltb-false base st g))

-- ---- going back

-- the frame of w at b, no higher than base, once the moves are done
backed_sound : (n : ℕ) (r : ContextRecord) (c : Cursor) (b w : ℕ) → Sound n r → r.start ≤ c.bspstore → c.bspstore ≤ address_of r.start b
    → max (min r.lo b) ((b + sof_of w) - n) ≤ positions_below r.start c.bspstore → Bits c
    → Sound n (with_lo (with_frame (with_moves r c) b w) (max (min r.lo b) ((b + sof_of w) - n)))
backed_sound n r c b w h low high clean bits =
    record { aligned = h.aligned; sized = h.sized; begins = low; dirty = high; clean = clean; room = omega arith; bits = bits }

module _ {C : Type 0} (nought : C) (image : C → ℕ) (content : ℕ → C) (s : Scene C) where
  -- what is left of the record: the new frame where the moves went through
  abbrev Backed : ℕ → ℕ → MoveResult → ContextRecord → Type 0
  Backed b w a t =
      Sound (length s.file) (if_moved a (with_lo (with_frame t b w) (max (min s.stack.lo b) (floor_of s (b + sof_of w)))) t)

  framed-back : (b w : ℕ) → b ≤ s.stack.base → sof_of w ≤ 96 → 96 ≤ length s.file → Sound (length s.file) s.stack
      → Backed b w (frame_answer nought image content s b (b + sof_of w)) (frame_after nought image content s b (b + sof_of w)).stack
  framed-back b w down small wide h =
      let n = length s.file in
      let top = b + sof_of w in
      let floor = floor_of s top in
      let fl : floor ≤ b = omega arith in
      let start = s.stack.start in
      let end = spill_end_of s.stack floor in
      let run = run_to nought image s end in
      frame_cases nought image content s b top (Backed b w)
      (λ lt.
      let far : address_of start b ≤ bsp_of s.stack = address_monotone start b s.stack.base down in
      let low : s.stack.bspstore ≤ address_of start b = positions_from start s.stack.bspstore b (omega arith) in
      let high : end ≤ address_of start b = end_below s.stack floor b fl low in
      let after = spilled_sound nought image s n end h (omega arith) in
      room_cases nought image s floor (Backed b w)
      (λ ok.
      let e : run.cursor.bspstore ≡ end = spilled_whole nought image s n end h (end_least s.stack floor h.begins) ok in
      backed_sound n s.stack run.cursor b w h after.begins (omega (arith, e, high))
      (omega (arith, h.clean, lt, subst (λ x. floor ≤ positions_below start x) (sym e) (end_stores s.stack floor))) after.bits)
      (λ f. after)
      (λ f. h))
      (λ le lt. refill_cases content s b (min s.stack.lo top) (address_of start b) (Backed b w)
      (λ c e bits. backed_sound n s.stack c b w h (omega (arith, e)) (omega (arith, e))
      (subst (λ x. max (min s.stack.lo b) floor ≤ positions_below start x) (sym e) (omega (arith, positions_address start b))) bits)
      (λ f. h))
      (λ le ge. backed_sound n s.stack (cursor_in s) b w h h.begins (positions_from start s.stack.bspstore b ge) (omega (arith, h.clean)) h.bits)

  same_stack : (a : MoveResult) (x : Scene C) (b w : ℕ) → Backed b w a x.stack → Sound (length s.file) (if_moved a (reframed nought s x b w) x).stack
  same_stack (Ok v) x b w h = h
  same_stack (Err f) x b w h = h

  pub back_sound : (b w : ℕ) → b ≤ s.stack.base → sof_of w ≤ 96 → 96 ≤ length s.file → Sound (length s.file) s.stack
      → Sound (length s.file) (back_after nought image content s b w).stack
  back_sound b w down small wide h =
      same_stack (frame_answer nought image content s b (b + sof_of w)) (frame_after nought image content s b (b + sof_of w)) b w (framed-back b w down small wide h)

  frame-status : (b top : ℕ) → (frame_after nought image content s b top).stack.status ≡ s.stack.status
  frame-status b top =
      frame_cases nought image content s b top (λ a t. t.status ≡ s.stack.status)
      (λ lt. room_cases nought image s (floor_of s top) (λ a t. t.status ≡ s.stack.status) (λ _. refl) (λ _. refl) (λ _. refl))
      (λ le lt. refill_cases content s b (min s.stack.lo top) (address_of s.stack.start b) (λ a t. t.status ≡ s.stack.status) (λ c e bits. refl) (λ _. refl))
      (λ le ge. refl)

  pub back_status : (base : Result ℕ Refusal) (w : ℕ) → (back_to nought image content s base w).stack.status ≡ s.stack.status
  back_status base w =
      granted_both (λ (x : Scene C). x.stack.status ≡ s.stack.status) base _ s
      (λ b e. moved_both (λ (x : Scene C). x.stack.status ≡ s.stack.status) (frame_answer nought image content s b (b + sof_of w)) _ _
      (λ _. frame-status b (b + sof_of w)) (frame-status b (b + sof_of w)))
      refl

-- ---- return and restore

granted_base : (t u : Bool) (x b : ℕ) → ◌≡◌ {A = Result ℕ Refusal} (cond t (cond u (Ok x) (Err Depth)) (Err Top)) (Ok b) → x ≡ b
granted_base true true x b e = cc
granted_base true false x b e = let z : ◌≡◌ {A = ℕ} 0 1 = cc in absurd (omega (arith, z))
granted_base false u x b e = let z : ◌≡◌ {A = ℕ} 0 1 = cc in absurd (omega (arith, z))

pub return_down : (r : ContextRecord) (b : ℕ) → return_base r ≡ Ok b → b ≤ r.base
return_down r b e =
    let x : r.base - sol_of r.previous ≡ b = granted_base (leb (r.base + (sof_of r.previous - sol_of r.previous)) (capacity_of r.size)) (leb (sol_of r.previous) r.base) _ b e in
    omega (arith, x)

granted_only : (t : Bool) (x b : ℕ) → ◌≡◌ {A = Result ℕ Refusal} (cond t (Ok x) (Err Depth)) (Ok b) → (t ≡ true) × (x ≡ b)
granted_only true x b e = (refl, cc)
granted_only false x b e = let z : ◌≡◌ {A = ℕ} 0 1 = cc in absurd (omega (arith, z))

-- the frame that was covered ends at base
pub restore_down : (r : ContextRecord) (b : ℕ) → restore_base r ≡ Ok b → b + sof_of r.saved ≡ r.base
restore_down r b e =
    let x = granted_only (leb (sof_of r.saved) r.base) (r.base - sof_of r.saved) b e in
    omega (arith, x.1, leb-true (sof_of r.saved) r.base x.0)

-- a context whose frame is covered can always go back to it
pub restore_granted : (r : ContextRecord) → Closed r → restore_base r ≡ Ok (r.base - sof_of r.saved)
restore_granted r h = let e = le-leb (sof_of r.saved) r.base h.below in rw e refl

stopped_by : {C : Type 0} (a : MoveResult) (x y : Scene C) (r : ContextRecord) (e : Refusal) → ((f : MoveFault) → a ≡ Err f → y.stack ≡ r)
    → ◌≡◌ {A = Result (Unit {0}) Refusal} (moved a (Ok tt)) (Err e) → (if_moved a x y).stack ≡ r
stopped_by (Ok v) x y r e h k = let z : ◌≡◌ {A = ℕ} 0 1 = cc in absurd (omega (arith, z))
stopped_by (Err f) x y r e h k = h f refl

module _ {C : Type 0} (nought : C) (image : C → ℕ) (content : ℕ → C) (s : Scene C) where
  pub return_sound : lawful_word s.stack.previous ≡ true → 96 ≤ length s.file → Sound (length s.file) s.stack
      → Sound (length s.file) (back_to nought image content s (return_base s.stack) s.stack.previous).stack
  return_sound law wide h =
      granted_both (λ (x : Scene C). Sound (length s.file) x.stack) (return_base s.stack) _ s
      (λ b e. back_sound nought image content s b s.stack.previous (return_down s.stack b e) (frame_bound s.stack.previous law) wide h) h

  pub restore_sound : lawful_word s.stack.saved ≡ true → 96 ≤ length s.file → Sound (length s.file) s.stack
      → Sound (length s.file) (back_to nought image content s (restore_base s.stack) s.stack.saved).stack
  restore_sound law wide h =
      granted_both (λ (x : Scene C). Sound (length s.file) x.stack) (restore_base s.stack) _ s
      (λ b e. back_sound nought image content s b s.stack.saved (omega (arith, restore_down s.stack b e)) (frame_bound s.stack.saved law) wide h) h

  -- a restore never spills, so one that meets a shut word leaves the record
  frame-stopped : (b : ℕ) → b + sof_of s.stack.saved ≡ s.stack.base → Closed s.stack → Sound (length s.file) s.stack
      → (f : MoveFault) → frame_answer nought image content s b (b + sof_of s.stack.saved) ≡ Err f
      → (frame_after nought image content s b (b + sof_of s.stack.saved)).stack ≡ s.stack
  frame-stopped b e closed h =
      let top = b + sof_of s.stack.saved in
      let n = length s.file in
      let zero-sof : sof_of s.stack.marker ≡ 0 = ap sof_of closed.empty in
      frame_cases nought image content s b top (λ a t. (f : MoveFault) → a ≡ Err f → t ≡ s.stack)
      (λ lt. let z : ⊥ = omega (arith, h.room, h.clean, zero-sof) in absurd z)
      (λ le lt. refill_cases content s b (min s.stack.lo top) (address_of s.stack.start b) (λ a t. (f : MoveFault) → a ≡ Err f → t ≡ s.stack)
      (λ c at bits f k. let z : ◌≡◌ {A = ℕ} 0 1 = cc in absurd (omega (arith, z)))
      (λ g f k. refl))
      (λ le ge f k. refl)

  pub restore_stopped : Closed s.stack → Sound (length s.file) s.stack → (e : Refusal)
      → back_to_answer nought image content s (restore_base s.stack) s.stack.saved ≡ Err e
      → (back_to nought image content s (restore_base s.stack) s.stack.saved).stack ≡ s.stack
  restore_stopped closed h e k =
      let b = s.stack.base - sof_of s.stack.saved in
      let w = s.stack.saved in
      let g = restore_granted s.stack closed in
      let k' : ◌≡◌ {A = Result (Unit {0}) Refusal} (moved (frame_answer nought image content s b (b + sof_of w)) (Ok tt)) (Err e) = ap (λ x. back_to_answer nought image content s x w) (sym g) ∙ k in
      ap (λ x. (back_to nought image content s x w).stack) g
      ∙ stopped_by (frame_answer nought image content s b (b + sof_of w)) _ (frame_after nought image content s b (b + sof_of w)) s.stack e
      (frame-stopped b (omega (arith, closed.below)) closed h) k'
