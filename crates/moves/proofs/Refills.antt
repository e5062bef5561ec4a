-- What a run of fills leaves, by induction on its positions.
use Rattle.std.proofs.Common.{◌≡◌, ℕ, zero, suc, ◌+◌, ◌-◌, ◌<◌, ◌≤◌, cond, List, length, sym, refl, ap, ◌∙◌, subst, inl, inr, arith}
use Rattle.std.proofs.lemmas.Bool.{cases_eq, cond_both}
use Rattle.register.specs.Slots.{register_at, register_put}
use Rattle.register.specs.declared.Slot.{Slot}
use Rattle.register.proofs.Rings.{put_shows}
use Rattle.store.specs.Meaning.{Meaning}
use Rattle.moves.specs.declared.state.Cursor.{Cursor}
use Rattle.moves.specs.Steps.{MoveResult, read_more}
use Rattle.moves.specs.Fills.{fill_open, fill_reads, fill_answer, filled, fill_run, FillEnd}
use Rattle.moves.specs.Asks.{fills_asked}
use Rattle.moves.specs.Refilled.{Refilled, OnlyReads, fills_to, FillShows}
use Rattle.moves.proofs.Asked.{Fills, fills_told}

module _ {C : Type 0} (nought : C) (content : ℕ → C) (m : Meaning) (context : ℕ) where
  none : (c : Cursor) (p : ℕ) (slots : List (Slot C)) → Refilled nought content c m p p slots slots
  none c p slots = record {
    long = refl;
    registers = λ room q low high. let z : ⊥ = omega arith in absurd z;
    below = λ q low room. refl;
    above = λ q high room. refl;
  }

  -- a fill, then the rest
  one_more : (c : Cursor) (p e : ℕ) (slots after : List (Slot C)) → p < e
      → Refilled nought content c m (p + 1) e (register_put slots p (filled content c m p)) after
      → Refilled nought content c m p e slots after
  one_more c p e slots after lt r =
      let s = filled content c m p in
      let ring = register_put slots p s in
      let put = put_shows nought slots p s in
      let same : length ring ≡ length slots = put.0 in
      record {
        long = r.long ∙ same;
        registers = λ room q low high.
            elim (cases_eq q p) [
              | inl x ↦ ap (register_at nought after) x ∙ r.below p (omega arith) (omega arith) ∙ put.1 (omega arith) ∙ ap (filled content c m) (sym x)
              | inr ne ↦ r.registers (omega arith) q (omega arith) high
            ];
        below = λ q low room. r.below q (omega arith) (omega arith) ∙ put.2 q (λ x. omega arith) (omega arith, omega arith);
        above = λ q high room. r.above q high (omega arith) ∙ put.2 q (λ x. omega arith) (omega arith, omega arith);
      }

  -- counts do not matter to what is filled
  unread : (k : ℕ) (c : Cursor) (low high : ℕ) (slots after : List (Slot C))
      → Refilled nought content (read_more k c) m low high slots after → Refilled nought content c m low high slots after
  unread k c low high slots after r = record { long = r.long; registers = r.registers; below = r.below; above = r.above }

  abbrev Run : ℕ → ℕ → Cursor → List (Slot C) → FillEnd C
  Run n p c slots = fill_run content m context n p c slots

  pub fills_stop_at : (n p : ℕ) (c : Cursor) (slots : List (Slot C)) → p ≤ fills_to (Run n p c slots).answer (p + n)
  fills_stop_at zero p c slots = omega arith
  fills_stop_at (suc n) p c slots =
      let rest = Run n (p + 1) (read_more (fill_reads c p) c) (register_put slots p (filled content c m p)) in
      cond_both (fill_open c m p) rest (record { cursor = c; file = slots; answer = fill_answer m context c p })
      (λ e. p ≤ fills_to e.answer (p + suc n))
      (λ o.
      let up = fills_stop_at n (p + 1) (read_more (fill_reads c p) c) (register_put slots p (filled content c m p)) in
      let one : p + 1 + n ≡ p + suc n = omega arith in
      let same : fills_to rest.answer (p + 1 + n) ≡ fills_to rest.answer (p + suc n) = ap (fills_to rest.answer) one in
      omega (arith, up, same))
      (λ o. rw o (omega arith))

  pub refilled : (n p : ℕ) (c : Cursor) (slots : List (Slot C))
      → Refilled nought content c m p (fills_to (Run n p c slots).answer (p + n)) slots (Run n p c slots).file
  refilled zero p c slots =
      let e : p ≡ p + 0 = omega arith in
      subst (λ x. Refilled nought content c m p x slots slots) e (none c p slots)
  refilled (suc n) p c slots =
      let d = read_more (fill_reads c p) c in
      let ring = register_put slots p (filled content c m p) in
      let rest = Run n (p + 1) d ring in
      let one : p + 1 + n ≡ p + suc n = omega arith in
      cond_both (fill_open c m p) rest (record { cursor = c; file = slots; answer = fill_answer m context c p })
      (λ e. Refilled nought content c m p (fills_to e.answer (p + suc n)) slots e.file)
      (λ o.
      let up : p + 1 ≤ fills_to rest.answer (p + 1 + n) = fills_stop_at n (p + 1) d ring in
      subst (λ x. Refilled nought content c m p (fills_to rest.answer x) slots rest.file) one
      (one_more c p (fills_to rest.answer (p + 1 + n)) slots rest.file (omega (arith, up)) (unread (fill_reads c p) c (p + 1) _ ring rest.file (refilled n (p + 1) d ring))))
      (λ o. rw o (none c p slots))

  pub only_reads : (n p : ℕ) (c : Cursor) (slots : List (Slot C)) → OnlyReads c (Run n p c slots).cursor
  only_reads zero p c slots = record { context = refl; start = refl; bspstore = refl; rnat = refl; writes = refl }
  only_reads (suc n) p c slots =
      let d = read_more (fill_reads c p) c in
      let ring = register_put slots p (filled content c m p) in
      cond_both (fill_open c m p) (Run n (p + 1) d ring) (record { cursor = c; file = slots; answer = fill_answer m context c p })
      (λ e. OnlyReads c e.cursor)
      (λ o. let r = only_reads n (p + 1) d ring in record { context = r.context; start = r.start; bspstore = r.bspstore; rnat = r.rnat; writes = r.writes })
      (λ o. record { context = refl; start = refl; bspstore = refl; rnat = refl; writes = refl })

  -- counts do not matter to asking
  asked-read : (k : ℕ) (c : Cursor) (n p : ℕ) → fills_asked m context (read_more k c) n p ≡ fills_asked m context c n p
  asked-read k c zero p = refl
  asked-read k c (suc n) p = ap (λ r. cond (fill_open c m p) r (fill_answer m context c p)) (asked-read k c n (p + 1))

  -- fills answer as asking does
  pub fills_asked_lem : (n p : ℕ) (c : Cursor) (slots : List (Slot C)) → (Run n p c slots).answer ≡ fills_asked m context c n p
  fills_asked_lem zero p c slots = refl
  fills_asked_lem (suc n) p c slots =
      let d = read_more (fill_reads c p) c in
      let ring = register_put slots p (filled content c m p) in
      cond_both (fill_open c m p) (Run n (p + 1) d ring) (record { cursor = c; file = slots; answer = fill_answer m context c p })
      (λ e. e.answer ≡ fills_asked m context c (suc n) p)
      (λ o. fills_asked_lem n (p + 1) d ring ∙ asked-read (fill_reads c p) c n (p + 1) ∙ rw o refl)
      (λ o. rw o refl)

  -- the whole of it, of a run that has ended
  pub fill_shows : (low high : ℕ) (c d : Cursor) (slots after : List (Slot C)) (r : MoveResult)
      → r ≡ (Run (high - low) low c slots).answer → after ≡ (Run (high - low) low c slots).file → d ≡ (Run (high - low) low c slots).cursor
      → FillShows nought content context low high c m slots r d after
  fill_shows low high c d slots after r er ea ed =
      let n = high - low in
      let asked = fills_told m context c n low high refl in
      let same : r ≡ fills_asked m context c n low = er ∙ fills_asked_lem n low c slots in
      let told = subst (Fills m context c low high) (sym same) asked in
      record {
        refilled = λ le.
            let e : low + n ≡ high = omega arith in
            subst (λ x. Refilled nought content c m low (fills_to x high) slots after) (sym er)
            (subst (λ x. Refilled nought content c m low (fills_to (Run n low c slots).answer high) slots x) (sym ea)
            (subst (λ x. Refilled nought content c m low (fills_to (Run n low c slots).answer x) slots (Run n low c slots).file) e (refilled n low c slots)));
        cursor = subst (OnlyReads c) (sym ed) (only_reads n low c slots);
        told = told.0;
        lowest = told.1;
      }
