-- Registers that are spilled, cleared and filled again come back.
use Rattle.std.proofs.Common.{◌≡◌, ℕ, ◌+◌, ◌-◌, ◌*◌, ◌/◌, ◌%◌, ◌<◌, ◌≤◌, min, true, false, cond, ◌&&◌, ltb, List, length, get_or, Ok, Err, sym, refl, ap, ◌∙◌, subst, inl, inr, arith}
use Rattle.std.proofs.lemmas.Bool.{eqb-true, eqb-false, le-ltb, both_ways, cases_Bool, cond-true, cond-false}
use Rattle.address.specs.Addresses.{address_of, group_of, collection_of, positions_below}
use Rattle.address.specs.NatBits.{nat_bit, pack}
use Rattle.address.proofs.Addresses.{address_bit_below, address_register, positions_address, positions_before, positions_from, positions_monotone, collection_is}
use Rattle.address.proofs.NatBits.{pack_nat}
use Rattle.register.specs.Slots.{register_at, registers_cleared}
use Rattle.register.specs.declared.Slot.{Slot}
use Rattle.register.proofs.Rings.{clear_shows}
use Rattle.store.specs.Meaning.{Meaning}
use Rattle.store.specs.Rules.{is_open}
use Rattle.moves.specs.declared.state.Cursor.{Cursor}
use Rattle.moves.specs.declared.state.MoveFault.{MoveFault}
use Rattle.moves.specs.declared.state.Movement.{Movement}
use Rattle.moves.specs.declared.state.Movement.TheVariants.{Spill, Fill}
use Rattle.moves.specs.Steps.{MoveResult}
use Rattle.moves.specs.Spills.{spill_run, SpillEnd}
use Rattle.moves.specs.Fills.{word_of, is_near, far_bits, nat_source, filled, FillEnd}
use Rattle.moves.specs.Told.{Told, SpillNeeds, FillNeeds}
use Rattle.moves.specs.Stored.{image_at, nat_at, group_nats, Spilled, spills_to}
use Rattle.moves.specs.Refilled.{Refilled, fills_to, FillShows}
use Rattle.moves.specs.RoundTrips.{run_low, run_high, refill_run, refill_after, round_trip, Ready, ComesBack}
use Rattle.moves.proofs.Stores.{spill_shows}
use Rattle.moves.proofs.Refills.{fill_shows}

-- with every needed word open, a move is granted
granted_all : (m : Meaning) (move : Movement) (context : ℕ) (Needs : ℕ → ℕ → Type 0) (r : MoveResult) → Told m move context Needs r
    → ((w p : ℕ) → Needs w p → is_open m w ≡ true) → r ≡ Ok tt
granted_all m move context Needs (Ok _) told all = refl
granted_all m move context Needs (Err f) told all =
    absurd (both_ways (is_open m f.fault.word) told.shut (all f.fault.word f.place.position told.needed))

same_slot : {C : Type 0} (s t : Slot C) → s.content ≡ t.content → s.nat ≡ t.nat → s ≡ t
same_slot s t e f i = record { content = e i; nat = f i }

module _ {C : Type 0} (nought : C) (image : C → ℕ) (content : ℕ → C) (restored : (x : C) → content (image x) ≡ x) (slots : List (Slot C)) where
  module _ (end : ℕ) (c d : Cursor) (m n : Meaning) (s : Spilled (image_at nought image slots c) (nat_at nought slots c) c m d n) (reached : d.bspstore ≡ end)
      (ready : Ready (length slots) end c m) where
    -- the doors are as before
    same-open : (w : ℕ) → is_open n w ≡ is_open m w
    same-open w =
        ap (λ k. ltb w k && cond n.moving (get_or n.flags (w / 64) false) true) s.long
        ∙ ap (λ t. ltb w (length m.words) && cond t (get_or n.flags (w / 64) false) true) s.moving
        ∙ ap (λ l. ltb w (length m.words) && cond m.moving (get_or l (w / 64) false) true) s.flags

    abbrev Low : ℕ
    Low = positions_below c.start c.bspstore

    abbrev High : ℕ
    High = positions_below c.start end

    module _ (p : ℕ) (low : Low ≤ p) (high : p < High) where
      word-from : c.bspstore ≤ address_of c.start p
      word-from = positions_from c.start c.bspstore p low

      word-before : address_of c.start p < end
      word-before = positions_before c.start end p high

      same_word : word_of d p ≡ address_of c.start p
      same_word = ap (λ x. address_of x p) s.start

      -- a word of another group: its collection is stored too
      far-before : is_near d p ≡ false → collection_of (word_of d p) < end
      far-before far =
          let apart : (group_of (word_of d p) ≡ group_of d.bspstore → ⊥) = eqb-false (group_of (word_of d p)) (group_of d.bspstore) far in
          omega (arith, word-before, same_word, reached)

      content-back : content (get_or n.words (word_of d p) 0) ≡ (register_at nought slots p).content
      content-back =
          let w = address_of c.start p in
          ap (λ x. content (get_or n.words x 0)) same_word
          ∙ ap content (s.registers w word-from (omega (arith, word-before, reached)) (address_register c.start p ready.aligned))
          ∙ ap (λ q. content (image (register_at nought slots q).content)) (positions_address c.start p)
          ∙ restored (register_at nought slots p).content

      nat-own : nat_at nought slots c (address_of c.start p) ≡ (register_at nought slots p).nat
      nat-own =
          let w = address_of c.start p in
          cond-false (ltb w c.bspstore) _ _ (le-ltb w c.bspstore word-from) ∙ ap (λ q. (register_at nought slots q).nat) (positions_address c.start p)

      nat-near : is_near d p ≡ true → nat_bit d.rnat (word_of d p % 64) ≡ (register_at nought slots p).nat
      nat-near near =
          let nat = nat_at nought slots c in
          let i = word_of d p % 64 in
          let group : group_of (word_of d p) ≡ group_of d.bspstore = eqb-true (group_of (word_of d p)) (group_of d.bspstore) near in
          let under : i < d.bspstore % 64 = omega (arith, word-before, same_word, reached) in
          let here : group_of d.bspstore * 64 + i ≡ address_of c.start p = omega (arith, same_word) in
          ap (λ x. nat_bit x i) s.nats ∙ pack_nat (group_nats nat d.bspstore) (d.bspstore % 64) i under ∙ ap nat here ∙ nat-own

      nat-far : is_near d p ≡ false → nat_bit (far_bits n (word_of d p)) (word_of d p % 64) ≡ (register_at nought slots p).nat
      nat-far far =
          let nat = nat_at nought slots c in
          let i = word_of d p % 64 in
          let q = collection_of (word_of d p) in
          let above : c.bspstore ≤ q = omega (arith, word-from, same_word) in
          let before : q < d.bspstore = omega (arith, far-before far, reached) in
          let bits : get_or n.words q 0 ≡ pack (group_nats nat q) 63 = s.collections q above before (collection_is (word_of d p)) in
          let under : i < 63 = omega (arith, address_bit_below c.start p ready.aligned, same_word) in
          let here : group_of q * 64 + i ≡ address_of c.start p = omega (arith, same_word) in
          ap (λ x. nat_bit x i) bits ∙ pack_nat (group_nats nat q) 63 i under ∙ ap nat here ∙ nat-own

      nat-back : nat_bit (nat_source d n p) (word_of d p % 64) ≡ (register_at nought slots p).nat
      nat-back =
          elim (cases_Bool (is_near d p)) [
            | inl near ↦ ap (λ x. nat_bit x (word_of d p % 64)) (cond-true (is_near d p) d.rnat (far_bits n (word_of d p)) near) ∙ nat-near near
            | inr far ↦ ap (λ x. nat_bit x (word_of d p % 64)) (cond-false (is_near d p) d.rnat (far_bits n (word_of d p)) far) ∙ nat-far far
          ]

      register-back : filled content d n p ≡ register_at nought slots p
      register-back = same_slot (filled content d n p) (register_at nought slots p) content-back nat-back

    needs-open : (w p : ℕ) → FillNeeds d Low High w p → is_open n w ≡ true
    needs-open w p need =
        let from = word-from p need.0 need.1 in
        let before = word-before p need.0 need.1 in
        let same = same_word p need.0 need.1 in
        elim need.2 [
          | inl e ↦ same-open w ∙ ready.opened w (omega (arith, e, same, from)) (omega (arith, e, same, before))
          | inr x ↦
              let e : w ≡ collection_of (word_of d p) = x.1 in
              let under = far-before p need.0 need.1 x.0 in
              same-open w ∙ ready.opened w (omega (arith, e, same, from)) (omega (arith, e, under))
        ]

    comes_back : (context : ℕ) (run : FillEnd C) → run ≡ refill_run nought content n context (High - Low) Low d slots
        → ComesBack nought end c m slots run.answer run.cursor n run.file
    comes_back context run is =
        let ring = registers_cleared nought (High - Low) Low slots in
        let clear = clear_shows nought slots (High - Low) Low in
        let same : length ring ≡ length slots = clear.0 in
        let shows : FillShows nought content context Low High d n ring run.answer run.cursor run.file =
        fill_shows nought content n context Low High d run.cursor ring run.file run.answer (ap (λ x. x.answer) is) (ap (λ x. x.file) is) (ap (λ x. x.cursor) is)
        in
        let granted : run.answer ≡ Ok tt = granted_all n Fill context (FillNeeds d Low High) run.answer shows.told needs-open in
        let up : Low ≤ High = positions_monotone c.start c.bspstore end ready.ahead in
        let fits : High - Low ≤ length slots = ready.fits in
        let filled : Refilled nought content d n Low High ring run.file =
        subst (λ r. Refilled nought content d n Low (fills_to r High) ring run.file) granted (shows.refilled up)
        in
        record {
          granted = granted;
          bspstore = shows.cursor.bspstore ∙ reached;
          long = filled.long ∙ same;
          registers = λ p low high. filled.registers (omega (arith, same, fits)) p low high ∙ register-back p low high;
          below = λ q low room. filled.below q low (omega (arith, same, room)) ∙ clear.2 q low (omega (arith, up, room));
          above = λ q high room. filled.above q high (omega (arith, same, room)) ∙ clear.3 q (omega (arith, up, high)) room;
          words_below = s.below;
          words_above = λ w le. s.above w (omega (arith, le, reached));
          size = s.long;
          flags = s.flags;
          moving = s.moving;
        }

  pub round_trip_lem : (context end : ℕ) (c : Cursor) (m : Meaning) → Ready (length slots) end c m
      → ComesBack nought end c m slots (round_trip nought image content context end c m slots).answer (round_trip nought image content context end c m slots).cursor
      (spill_run nought image slots context (end - c.bspstore) c m).meaning (round_trip nought image content context end c m slots).file
  round_trip_lem context end c m ready =
      let e = spill_run nought image slots context (end - c.bspstore) c m in
      let shows = spill_shows nought image slots context end c e.cursor m e.meaning e.answer refl refl refl in
      let granted : e.answer ≡ Ok tt =
      granted_all m Spill context (SpillNeeds c.start c.bspstore end) e.answer shows.told (λ w p need. ready.opened w need.0 need.1)
      in
      let reached : e.cursor.bspstore ≡ end = shows.stops ready.ahead ∙ ap (λ r. spills_to r end) granted in
      let first : min c.bspstore end ≡ c.bspstore = omega (arith, ready.ahead) in
      let is =
      ap (refill_after nought content context (run_high c end - run_low c end) (run_low c end) slots e.cursor e.meaning) granted
      ∙ ap (λ x. refill_run nought content e.meaning context (run_high c end - positions_below c.start x) (positions_below c.start x) e.cursor slots) first
      in
      comes_back end c e.cursor m e.meaning (shows.stored ready.nats) reached ready context (round_trip nought image content context end c m slots) is

  -- what a round trip ensures
  pub record Trip (context end : ℕ) (c : Cursor) (m : Meaning) (r : MoveResult) (d : Cursor) (n : Meaning) (ring : List (Slot C)) : Type 0 where
    pub answer : r ≡ (round_trip nought image content context end c m slots).answer
    pub file : ring ≡ (round_trip nought image content context end c m slots).file
    pub cursor : d ≡ (round_trip nought image content context end c m slots).cursor
    pub words : n ≡ (spill_run nought image slots context (end - c.bspstore) c m).meaning
    pub back : Ready (length slots) end c m → ComesBack nought end c m slots r d n ring

  trip : (context end : ℕ) (c : Cursor) (m : Meaning) (run : FillEnd C) (n : Meaning)
      → run ≡ round_trip nought image content context end c m slots → n ≡ (spill_run nought image slots context (end - c.bspstore) c m).meaning
      → Trip context end c m run.answer run.cursor n run.file
  trip context end c m run n er en =
      let all = round_trip nought image content context end c m slots in
      record {
        answer = ap (λ x. x.answer) er;
        file = ap (λ x. x.file) er;
        cursor = ap (λ x. x.cursor) er;
        words = en;
        back = λ ready.
            subst (λ x. ComesBack nought end c m slots x.answer x.cursor n x.file) (sym er)
            (subst (λ x. ComesBack nought end c m slots all.answer all.cursor x all.file) (sym en) (round_trip_lem context end c m ready));
      }

  -- x is the end, d and n what the spills leave, s their answer
  module _ (context end x : ℕ) (c d : Cursor) (m n : Meaning) (s : MoveResult) (same : x ≡ end)
      (es : s ≡ (spill_run nought image slots context (x - c.bspstore) c m).answer)
      (en : n ≡ (spill_run nought image slots context (x - c.bspstore) c m).meaning)
      (ed : d ≡ (spill_run nought image slots context (x - c.bspstore) c m).cursor) where
    abbrev Spill-end : ℕ → SpillEnd
    Spill-end y = spill_run nought image slots context (y - c.bspstore) c m

    answer_at : s ≡ (Spill-end end).answer
    answer_at = es ∙ ap (λ y. (Spill-end y).answer) same

    words-at : n ≡ (Spill-end end).meaning
    words-at = en ∙ ap (λ y. (Spill-end y).meaning) same

    cursor-at : d ≡ (Spill-end end).cursor
    cursor-at = ed ∙ ap (λ y. (Spill-end y).cursor) same

    -- as the spills end
    ended : refill_after nought content context (run_high c end - run_low c end) (run_low c end) slots d n s ≡ round_trip nought image content context end c m slots
    ended =
        ap (λ y. refill_after nought content context (run_high c end - run_low c end) (run_low c end) slots y n s) cursor-at
        ∙ ap (λ y. refill_after nought content context (run_high c end - run_low c end) (run_low c end) slots (Spill-end end).cursor y s) words-at
        ∙ ap (refill_after nought content context (run_high c end - run_low c end) (run_low c end) slots (Spill-end end).cursor (Spill-end end).meaning) answer_at

    pub refused_trip : (f : MoveFault) (r : MoveResult) → s ≡ Err f → r ≡ Err f → Trip context end c m r d n slots
    refused_trip f r e er =
        trip context end c m (record { cursor = d; file = slots; answer = r }) n
        (ap (λ y. record { cursor = d; file = slots; answer = y }) er ∙ ap (refill_after nought content context (run_high c end - run_low c end) (run_low c end) slots d n) (sym e) ∙ ended) words-at

    pub granted_trip : (owner low high : ℕ) (r : MoveResult) (e : Cursor) (file : List (Slot C)) → owner ≡ context → s ≡ Ok tt → low ≡ run_low c end → high ≡ run_high c end
        → r ≡ (refill_run nought content n owner (high - low) low d slots).answer
        → file ≡ (refill_run nought content n owner (high - low) low d slots).file
        → e ≡ (refill_run nought content n owner (high - low) low d slots).cursor
        → Trip context end c m r e n file
    granted_trip owner low high r e file ew ok el eh er ef ec =
        let at : refill_run nought content n owner (high - low) low d slots ≡ round_trip nought image content context end c m slots =
        ap (λ y. refill_run nought content n y (high - low) low d slots) ew
        ∙ ap (λ y. refill_run nought content n context (y - low) low d slots) eh
        ∙ ap (λ y. refill_run nought content n context (run_high c end - y) y d slots) el
        ∙ ap (refill_after nought content context (run_high c end - run_low c end) (run_low c end) slots d n) (sym ok) ∙ ended
        in
        trip context end c m (record { cursor = e; file = file; answer = r }) n
        ((λ i. record { cursor = ec i; file = ef i; answer = er i }) ∙ at) words-at
