-- Which moves bring a frame into the file.
use Rattle.std.proofs.lemmas.Bool.{cond_both}
use Rattle.std.proofs.Common.{◌≡◌, ℕ, ◌<◌, ◌≤◌, min, cond, ltb, Ok, Err, refl, le-ltb, lt-ltb}
use Rattle.address.specs.Addresses.{address_of}
use Rattle.moves.specs.Steps.{MoveResult}
use Rattle.context.specs.Records.{stored_of}
use Rattle.context.specs.Scenes.{Scene, cursor_in, if_moved, spilled, settled, with_file}
use Rattle.context.specs.Spilling.{floor_of, run_to, spill_end_of, fills_to}
use Rattle.context.specs.Returns.{room_asked, refill_asked, refill_moved, refill_cursor}
use Rattle.context.specs.Returns.{room_answer, room_after, refill_answer, refill_after, frame_answer, frame_after}

module _ {C : Type 0} (nought : C) (image : C → ℕ) (content : ℕ → C) (s : Scene C) (base top : ℕ) where
  pub room_answer_lem : stored_of s.stack < floor_of s top → frame_answer nought image content s base top ≡ room_answer nought image s (floor_of s top)
  unfolding frame_answer
  room_answer_lem h = let e = lt-ltb (stored_of s.stack) (floor_of s top) h in rw e refl

  pub room_after_lem : stored_of s.stack < floor_of s top → frame_after nought image content s base top ≡ room_after nought image s (floor_of s top)
  unfolding frame_after
  room_after_lem h = let e = lt-ltb (stored_of s.stack) (floor_of s top) h in rw e refl

  pub refill_frame_answer : floor_of s top ≤ stored_of s.stack → base < stored_of s.stack
      → frame_answer nought image content s base top ≡ refill_answer content s base (min s.stack.lo top) (address_of s.stack.start base)
  unfolding frame_answer
  refill_frame_answer h k =
      let e = le-ltb (stored_of s.stack) (floor_of s top) h in
      let f = lt-ltb base (stored_of s.stack) k in
      rw (e, f) refl

  pub refill_frame_after : floor_of s top ≤ stored_of s.stack → base < stored_of s.stack
      → frame_after nought image content s base top ≡ refill_after content s base (min s.stack.lo top) (address_of s.stack.start base)
  unfolding frame_after
  refill_frame_after h k =
      let e = le-ltb (stored_of s.stack) (floor_of s top) h in
      let f = lt-ltb base (stored_of s.stack) k in
      rw (e, f) refl

by_move : {C : Type 0} (r : MoveResult) (x y : Scene C) (n : ℕ) → x.stack.size ≡ n → y.stack.size ≡ n → (if_moved r x y).stack.size ≡ n
by_move (Ok v) x y n h k = h
by_move (Err e) x y n h k = k

-- moves leave the region
module _ {C : Type 0} (nought : C) (image : C → ℕ) (content : ℕ → C) (s : Scene C) where
  room-size : (floor : ℕ) → (room_after nought image s floor).stack.size ≡ s.stack.size
  unfolding room_after
  room-size floor = by_move (room_asked s floor) (spilled s (run_to nought image s (spill_end_of s.stack floor))) s s.stack.size refl refl

  refill-size : (low high word : ℕ) → (refill_after content s low high word).stack.size ≡ s.stack.size
  unfolding refill_after
  refill-size low high word =
      let file = (fills_to content s low high).file in
      let through = with_file (settled s (refill_cursor content s low high word)) file in
      by_move (refill_asked s.meaning (cursor_in s) low high word) (if_moved (refill_moved content s low high word) through (with_file s file)) s s.stack.size
      (by_move (refill_moved content s low high word) through (with_file s file) s.stack.size refl refl)
      refl

  pub frame_size : (base top : ℕ) → (frame_after nought image content s base top).stack.size ≡ s.stack.size
  unfolding frame_after
  frame_size base top =
      let refills = refill_after content s base (min s.stack.lo top) (address_of s.stack.start base) in
      cond_both (ltb (stored_of s.stack) (floor_of s top)) (room_after nought image s (floor_of s top)) (cond (ltb base (stored_of s.stack)) refills s)
      (λ x. x.stack.size ≡ s.stack.size)
      (λ _. room-size (floor_of s top))
      (λ _. cond_both (ltb base (stored_of s.stack)) refills s (λ x. x.stack.size ≡ s.stack.size) (λ _. refill-size base (min s.stack.lo top) (address_of s.stack.start base)) (λ _. refl))
