-- One move more of a run, and a run that meets a shut word.
use Rattle.std.proofs.Common.{◌≡◌, ℕ, suc, ◌+◌, ◌-◌, ◌<◌, Bool, true, false, cond, List, Ok, Err, Result, refl, ap, ◌∙◌, arith}
use Rattle.register.specs.Slots.{register_put}
use Rattle.register.specs.declared.Slot.{Slot}
use Rattle.store.specs.Meaning.{Meaning}
use Rattle.store.specs.Rules.{is_open, written}
use Rattle.moves.specs.declared.state.Cursor.{Cursor}
use Rattle.moves.specs.Steps.{read_more, ask_of}
use Rattle.moves.specs.declared.state.Movement.TheVariants.{Spill}
use Rattle.moves.specs.Asks.{spills_asked, fills_asked}
use Rattle.address.specs.Addresses.{positions_below}
use Rattle.moves.specs.Spills.{spill_answer, spill_value, spill_past, spill_run}
use Rattle.moves.specs.Fills.{fill_open, fill_answer, fill_reads, filled, fill_run}

-- a move that was granted found its words open
pub granted_open : {E : Type 0} (b : Bool) (e : E) → ◌≡◌ {A = Result (Unit {0}) E} (Ok tt) (cond b (Ok tt) (Err e)) → b ≡ true
granted_open true e p = refl
granted_open false e p = let z : ◌≡◌ {A = ℕ} 0 1 = cc in absurd (omega (arith, z))

-- a move that was refused found one shut
pub refused_shut : {E : Type 0} (b : Bool) (e f : E) → ◌≡◌ {A = Result (Unit {0}) E} (Err f) (cond b (Ok tt) (Err e)) → b ≡ false
refused_shut true e f p = let z : ◌≡◌ {A = ℕ} 0 1 = cc in absurd (omega (arith, z))
refused_shut false e f p = refl

-- and a refused write changed nothing
pub unwritten : (m : Meaning) (w v : ℕ) → is_open m w ≡ false → written m w v ≡ m
unwritten m w v o = rw o refl

module _ {C : Type 0} (nought : C) (image : C → ℕ) (slots : List (Slot C)) (context : ℕ) where
  pub spill_more : (end word : ℕ) (c c' : Cursor) (m m' : Meaning) → word < end → is_open m c.bspstore ≡ true
      → c' ≡ cond (is_open m c.bspstore) (spill_past nought slots c) c → m' ≡ written m c.bspstore (spill_value nought image slots c)
      → spill_run nought image slots context (end - (word + 1)) c' m' ≡ spill_run nought image slots context (end - word) c m
  spill_more end word c c' m m' lt o ec em =
      let e : end - word ≡ suc (end - (word + 1)) = omega arith in
      let ec' : c' ≡ spill_past nought slots c = ec ∙ ap (λ b. cond b (spill_past nought slots c) c) o in
      rw (e, ec', em, o) refl

  pub spill_stop : (end word : ℕ) (c : Cursor) (m : Meaning) → word < end → is_open m c.bspstore ≡ false
      → spill_run nought image slots context (end - word) c m ≡ record { cursor = c; meaning = m; answer = spill_answer m context c }
  spill_stop end word c m lt o =
      let e : end - word ≡ suc (end - (word + 1)) = omega arith in
      rw (e, o) refl

-- a fill is of the same context
pub fill_context : (b : Bool) (k : ℕ) (c d : Cursor) → d ≡ cond b (read_more k c) c → d.context ≡ c.context
fill_context true k c d e = ap (λ x. x.context) e
fill_context false k c d e = ap (λ x. x.context) e

module _ {C : Type 0} (content : ℕ → C) (m : Meaning) (context : ℕ) where
  pub fill_more : (high p : ℕ) (c c' : Cursor) (slots slots' : List (Slot C)) → p < high → fill_open c m p ≡ true
      → c' ≡ cond (fill_open c m p) (read_more (fill_reads c p) c) c → slots' ≡ cond (fill_open c m p) (register_put slots p (filled content c m p)) slots
      → fill_run content m context (high - (p + 1)) (p + 1) c' slots' ≡ fill_run content m context (high - p) p c slots
  fill_more high p c c' slots slots' lt o ec es =
      let e : high - p ≡ suc (high - (p + 1)) = omega arith in
      let ec' : c' ≡ read_more (fill_reads c p) c = ec ∙ ap (λ b. cond b (read_more (fill_reads c p) c) c) o in
      let es' : slots' ≡ register_put slots p (filled content c m p) = es ∙ ap (λ b. cond b (register_put slots p (filled content c m p)) slots) o in
      rw (e, ec', es', o) refl

  pub fill_stop : (high p : ℕ) (c : Cursor) (slots : List (Slot C)) → p < high → fill_open c m p ≡ false
      → fill_run content m context (high - p) p c slots ≡ record { cursor = c; file = slots; answer = fill_answer m context c p }
  fill_stop high p c slots lt o =
      let e : high - p ≡ suc (high - (p + 1)) = omega arith in
      rw (e, o) refl

module _ (m : Meaning) (context : ℕ) where
  pub ask_more : (start end word : ℕ) → word < end → is_open m word ≡ true
      → spills_asked m context start (end - (word + 1)) (word + 1) ≡ spills_asked m context start (end - word) word
  ask_more start end word lt o =
      let e : end - word ≡ suc (end - (word + 1)) = omega arith in
      rw (e, o) refl

  pub ask_stop : (start end word : ℕ) → word < end → is_open m word ≡ false
      → spills_asked m context start (end - word) word ≡ ask_of m word Spill context (positions_below start word)
  ask_stop start end word lt o =
      let e : end - word ≡ suc (end - (word + 1)) = omega arith in
      rw (e, o) refl

  pub asks_more : (c : Cursor) (high p : ℕ) → p < high → fill_open c m p ≡ true
      → fills_asked m context c (high - (p + 1)) (p + 1) ≡ fills_asked m context c (high - p) p
  asks_more c high p lt o =
      let e : high - p ≡ suc (high - (p + 1)) = omega arith in
      rw (e, o) refl

  pub asks_stop : (c : Cursor) (high p : ℕ) → p < high → fill_open c m p ≡ false
      → fills_asked m context c (high - p) p ≡ fill_answer m context c p
  asks_stop c high p lt o =
      let e : high - p ≡ suc (high - (p + 1)) = omega arith in
      rw (e, o) refl
