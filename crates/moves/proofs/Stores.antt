-- What a run of spills leaves, by induction on its steps.
use Rattle.std.proofs.Common.{◌≡◌, ℕ, zero, suc, ◌+◌, ◌-◌, ◌*◌, ◌/◌, ◌%◌, ◌^◌, ◌<◌, ◌≤◌, Bool, true, false, cond, ◌&&◌, ltb, List, length, get_or, set, sym, refl, ap, ◌∙◌, subst, inl, inr, arith, length-set, get_or-set_other, get_or-set_same}
use Rattle.std.proofs.lemmas.Bool.{eqb-true, eqb-false, ltb-true, lt-ltb, le-ltb, and_parts, cases_eq, cond-true, cond-false, cond_both}
use Rattle.address.specs.Addresses.{group_of, is_collection, positions_below}
use Rattle.address.specs.NatBits.{nat_bit, with_nat, pack, nat_collection}
use Rattle.address.proofs.NatBits.{pack_more, pack_whole, pack_same}
use Rattle.register.specs.Slots.{register_at}
use Rattle.register.specs.declared.Slot.{Slot}
use Rattle.store.specs.Meaning.{Meaning}
use Rattle.store.specs.Rules.{is_open, written}
use Rattle.moves.specs.declared.state.Cursor.{Cursor}
use Rattle.moves.specs.Steps.{MoveResult, wrote_one, counted_up}
use Rattle.moves.specs.Spills.{past_collection, past_register, spill_answer, spill_value, spill_past, spill_run}
use Rattle.moves.specs.Asks.{spills_asked}
use Rattle.moves.specs.Stored.{register_of, image_at, nat_at, group_nats, Spilled, spills_to, SpillShows}
use Rattle.moves.proofs.Asked.{Spills, spills_told}

-- ---- one write

pub written_long : (m : Meaning) (w v : ℕ) → length (written m w v).words ≡ length m.words
written_long m w v =
    cond_both (is_open m w) (set m.words w v) m.words (λ l. length l ≡ length m.words) (λ _. length-set m.words w v) (λ _. refl)

pub written_open : (m : Meaning) (w v x : ℕ) → is_open (written m w v) x ≡ is_open m x
written_open m w v x = ap (λ n. ltb x n && cond m.moving (get_or m.flags (x / 64) false) true) (written_long m w v)

written_here : (m : Meaning) (w v : ℕ) → is_open m w ≡ true → get_or (written m w v).words w 0 ≡ v
written_here m w v o =
    ap (λ t. get_or (cond t (set m.words w v) m.words) w 0) o ∙ get_or-set_same m.words w v 0 (ltb-true w (length m.words) (and_parts _ _ o).0)

written_there : (m : Meaning) (w v x : ℕ) → (x ≡ w → ⊥) → get_or (written m w v).words x 0 ≡ get_or m.words x 0
written_there m w v x ne =
    cond_both (is_open m w) (set m.words w v) m.words (λ l. get_or l x 0 ≡ get_or m.words x 0) (λ _. get_or-set_other m.words w x v 0 ne) (λ _. refl)

-- ---- one step

record Past (nat : ℕ → Bool) (c d : Cursor) : Type 0 where
  start : d.start ≡ c.start
  next : d.bspstore ≡ c.bspstore + 1
  nats : d.rnat ≡ pack (group_nats nat d.bspstore) (d.bspstore % 64)
  counts : d.counts ≡ wrote_one c.counts

past : (nat : ℕ → Bool) (c : Cursor) (t b : Bool) → is_collection c.bspstore ≡ t
    → c.rnat ≡ pack (group_nats nat c.bspstore) (c.bspstore % 64) → nat c.bspstore ≡ b
    → Past nat c (cond t (past_collection c) (past_register b c))
past nat c true b e h k =
    let z : (c.bspstore + 1) % 64 ≡ 0 = omega (arith, eqb-true (c.bspstore % 64) 63 e) in
    record { start = refl; next = refl; nats = sym (ap (pack (group_nats nat (c.bspstore + 1))) z); counts = refl }
past nat c false b e h k =
    let i = c.bspstore % 64 in
    let f = group_nats nat c.bspstore in
    let n : (i ≡ 63 → ⊥) = eqb-false i 63 e in
    let same : (c.bspstore + 1) % 64 ≡ i + 1 = omega arith in
    let group : group_of (c.bspstore + 1) ≡ group_of c.bspstore = omega arith in
    let here : group_of c.bspstore * 64 + i ≡ c.bspstore = omega arith in
    let bit : f i ≡ b = ap nat here ∙ k in
    record {
      start = refl;
      next = refl;
      nats =
          ap (λ x. with_nat x i b) h ∙ ap (with_nat (pack f i) i) (sym bit) ∙ pack_more f i
          ∙ ap (λ g. pack (λ j. nat (g * 64 + j)) (i + 1)) (sym group) ∙ ap (pack (group_nats nat (c.bspstore + 1))) (sym same);
      counts = refl;
    }

-- nothing moved
stay : (image : ℕ → ℕ) (nat : ℕ → Bool) (c : Cursor) (m : Meaning) → c.rnat ≡ pack (group_nats nat c.bspstore) (c.bspstore % 64) → Spilled image nat c m c m
stay image nat c m h = record {
  rises = omega arith;
  nats = h;
  registers = λ w low high t. let z : ⊥ = omega arith in absurd z;
  collections = λ w low high t. let z : ⊥ = omega arith in absurd z;
  below = λ w lt. refl;
  above = λ w le. refl;
  long = refl;
  flags = refl;
  moving = refl;
  start = refl;
  reads = refl;
  writes = λ small. omega arith;
}

-- a step, then the rest
before : (image : ℕ → ℕ) (nat : ℕ → Bool) (c d e : Cursor) (m n : Meaning) (v : ℕ) → Past nat c d → is_open m c.bspstore ≡ true
    → (is_collection c.bspstore ≡ false → v ≡ image c.bspstore) → (is_collection c.bspstore ≡ true → v ≡ nat_collection (group_nats nat c.bspstore))
    → Spilled image nat d (written m c.bspstore v) e n → Spilled image nat c m e n
before image nat c d e m n v p o vi vn s =
    let b = c.bspstore in
    let next : d.bspstore ≡ b + 1 = p.next in
    let rise : d.bspstore ≤ e.bspstore = s.rises in
    let here : get_or n.words b 0 ≡ v = s.below b (omega arith) ∙ written_here m b v o in
    record {
      rises = omega arith;
      nats = s.nats;
      registers = λ w low high t.
          elim (cases_eq w b) [
            | inl x ↦ ap (λ y. get_or n.words y 0) x ∙ here ∙ vi (ap is_collection (sym x) ∙ t) ∙ ap image (sym x)
            | inr ne ↦ s.registers w (omega arith) high t
          ];
      collections = λ w low high t.
          elim (cases_eq w b) [
            | inl x ↦ ap (λ y. get_or n.words y 0) x ∙ here ∙ vn (ap is_collection (sym x) ∙ t) ∙ ap (λ y. nat_collection (group_nats nat y)) (sym x)
            | inr ne ↦ s.collections w (omega arith) high t
          ];
      below = λ w lt. s.below w (omega arith) ∙ written_there m b v w (λ x. omega arith);
      above = λ w le. s.above w le ∙ written_there m b v w (λ x. omega arith);
      long = s.long ∙ written_long m b v;
      flags = s.flags;
      moving = s.moving;
      start = s.start ∙ p.start;
      reads = s.reads ∙ ap (λ x. x.read) p.counts;
      writes = λ small.
          let one : d.counts.written ≡ counted_up c.counts.written 1 = ap (λ x. x.written) p.counts in
          let rest : e.counts.written ≡ counted_up d.counts.written (e.bspstore - d.bspstore) = s.writes (omega arith) in
          omega arith;
    }

-- ---- the run

module _ {C : Type 0} (nought : C) (image : C → ℕ) (slots : List (Slot C)) (context : ℕ) where
  spilled : (img : ℕ → ℕ) (nat : ℕ → Bool) (n : ℕ) (c : Cursor) (m : Meaning)
      → ((w : ℕ) → c.bspstore ≤ w → img w ≡ image_at nought image slots c w)
      → ((w : ℕ) → c.bspstore ≤ w → nat w ≡ (register_of nought slots c w).nat)
      → c.rnat ≡ pack (group_nats nat c.bspstore) (c.bspstore % 64)
      → Spilled img nat c m (spill_run nought image slots context n c m).cursor (spill_run nought image slots context n c m).meaning
  spilled img nat zero c m hi hn h = stay img nat c m h
  spilled img nat (suc n) c m hi hn h =
      let b = c.bspstore in
      let d = spill_past nought slots c in
      let v = spill_value nought image slots c in
      let p : Past nat c d = past nat c (is_collection b) (register_of nought slots c b).nat refl h (hn b (omega arith)) in
      let back : (w : ℕ) → d.bspstore ≤ w → b ≤ w = λ w le. omega (arith, p.next) in
      let rest = spilled img nat n d (written m b v)
      (λ w le. hi w (back w le) ∙ ap (λ s. image (register_at nought slots (positions_below s w)).content) (sym p.start))
      (λ w le. hn w (back w le) ∙ ap (λ s. (register_at nought slots (positions_below s w)).nat) (sym p.start))
      p.nats
      in
      cond_both (is_open m b) (spill_run nought image slots context n d (written m b v)) (record { cursor = c; meaning = m; answer = spill_answer m context c })
      (λ e. Spilled img nat c m e.cursor e.meaning)
      (λ o. before img nat c d _ m _ v p o
      (λ t. cond-false (is_collection b) _ _ t ∙ sym (hi b (omega arith)))
      (λ t. cond-true (is_collection b) _ _ t ∙ h ∙ ap (pack (group_nats nat b)) (eqb-true (b % 64) 63 t)) rest)
      (λ o. stay img nat c m h)

  -- RNAT at first
  first-nats : (c : Cursor) → c.rnat < 2 ^ (c.bspstore % 64)
      → c.rnat ≡ pack (group_nats (nat_at nought slots c) c.bspstore) (c.bspstore % 64)
  first-nats c small =
      let b = c.bspstore in
      sym (pack_whole c.rnat (b % 64) small)
      ∙ pack_same (nat_bit c.rnat) (group_nats (nat_at nought slots c) b) (b % 64)
      (λ i l.
      let w = group_of b * 64 + i in
      let place : w % 64 ≡ i = omega arith in
      let under : w < b = omega arith in
      sym (cond-true (ltb w b) _ _ (lt-ltb w b under) ∙ ap (nat_bit c.rnat) place))

  pub stored : (n : ℕ) (c : Cursor) (m : Meaning) → c.rnat < 2 ^ (c.bspstore % 64)
      → Spilled (image_at nought image slots c) (nat_at nought slots c) c m (spill_run nought image slots context n c m).cursor (spill_run nought image slots context n c m).meaning
  stored n c m small =
      spilled (image_at nought image slots c) (nat_at nought slots c) n c m (λ w le. refl)
      (λ w le. cond-false (ltb w c.bspstore) _ _ (le-ltb w c.bspstore le)) (first-nats c small)

  past_next : (c : Cursor) → (spill_past nought slots c).bspstore ≡ c.bspstore + 1
  past_next c =
      cond_both (is_collection c.bspstore) (past_collection c) (past_register (register_of nought slots c c.bspstore).nat c) (λ d. d.bspstore ≡ c.bspstore + 1) (λ _. refl) (λ _. refl)

  past-start : (c : Cursor) → (spill_past nought slots c).start ≡ c.start
  past-start c =
      cond_both (is_collection c.bspstore) (past_collection c) (past_register (register_of nought slots c c.bspstore).nat c) (λ d. d.start ≡ c.start) (λ _. refl) (λ _. refl)

  past_context : (c : Cursor) → (spill_past nought slots c).context ≡ c.context
  past_context c =
      cond_both (is_collection c.bspstore) (past_collection c) (past_register (register_of nought slots c c.bspstore).nat c) (λ d. d.context ≡ c.context) (λ _. refl) (λ _. refl)

  -- a step is of the same context
  pub step_context : (b : Bool) (c d : Cursor) → d ≡ cond b (spill_past nought slots c) c → d.context ≡ c.context
  step_context true c d e = ap (λ x. x.context) e ∙ past_context c
  step_context false c d e = ap (λ x. x.context) e

  run_context : (n : ℕ) (c : Cursor) (m : Meaning) → (spill_run nought image slots context n c m).cursor.context ≡ c.context
  run_context zero c m = refl
  run_context (suc n) c m =
      let b = c.bspstore in
      let d = spill_past nought slots c in
      let v = spill_value nought image slots c in
      cond_both (is_open m b) (spill_run nought image slots context n d (written m b v)) (record { cursor = c; meaning = m; answer = spill_answer m context c })
      (λ e. e.cursor.context ≡ c.context) (λ o. run_context n d (written m b v) ∙ past_context c) (λ o. refl)

  -- where the run stops
  pub stops : (n : ℕ) (c : Cursor) (m : Meaning)
      → (spill_run nought image slots context n c m).cursor.bspstore ≡ spills_to (spill_run nought image slots context n c m).answer (c.bspstore + n)
  stops zero c m = omega arith
  stops (suc n) c m =
      let b = c.bspstore in
      let d = spill_past nought slots c in
      let v = spill_value nought image slots c in
      cond_both (is_open m b) (spill_run nought image slots context n d (written m b v)) (record { cursor = c; meaning = m; answer = spill_answer m context c })
      (λ e. e.cursor.bspstore ≡ spills_to e.answer (b + suc n))
      (λ o. stops n d (written m b v) ∙ ap (spills_to (spill_run nought image slots context n d (written m b v)).answer) (omega (arith, past_next c)))
      (λ o. rw o refl)

  -- writes do not matter to asking
  asked-written : (m : Meaning) (x v start n w : ℕ) → spills_asked (written m x v) context start n w ≡ spills_asked m context start n w
  asked-written m x v start zero w = refl
  asked-written m x v start (suc n) w = rw (asked-written m x v start n (w + 1), written_long m x v) refl

  -- spills answer as asking does
  pub spills_asked_lem : (n : ℕ) (c : Cursor) (m : Meaning)
      → (spill_run nought image slots context n c m).answer ≡ spills_asked m context c.start n c.bspstore
  spills_asked_lem zero c m = refl
  spills_asked_lem (suc n) c m =
      let b = c.bspstore in
      let d = spill_past nought slots c in
      let v = spill_value nought image slots c in
      cond_both (is_open m b) (spill_run nought image slots context n d (written m b v)) (record { cursor = c; meaning = m; answer = spill_answer m context c })
      (λ e. e.answer ≡ spills_asked m context c.start (suc n) b)
      (λ o.
      spills_asked_lem n d (written m b v) ∙ asked-written m b v d.start n d.bspstore
      ∙ ap (λ s. spills_asked m context s n d.bspstore) (past-start c) ∙ ap (spills_asked m context c.start n) (past_next c) ∙ rw o refl)
      (λ o. rw o refl)

  -- the whole of it, of a run that has ended
  pub spill_shows : (end : ℕ) (c d : Cursor) (m after : Meaning) (r : MoveResult)
      → r ≡ (spill_run nought image slots context (end - c.bspstore) c m).answer
      → after ≡ (spill_run nought image slots context (end - c.bspstore) c m).meaning
      → d ≡ (spill_run nought image slots context (end - c.bspstore) c m).cursor
      → SpillShows nought image slots context end c m r d after
  spill_shows end c d m after r er ea ed =
      let b = c.bspstore in
      let n = end - b in
      let run = spill_run nought image slots context n c m in
      let same : r ≡ spills_asked m context c.start n b = er ∙ spills_asked_lem n c m in
      let told = subst (Spills m context c.start b end) (sym same) (spills_told m context c.start n b end refl) in
      record {
        stored = λ small.
            subst (λ x. Spilled (image_at nought image slots c) (nat_at nought slots c) c m x after) (sym ed)
            (subst (λ x. Spilled (image_at nought image slots c) (nat_at nought slots c) c m run.cursor x) (sym ea) (stored n c m small));
        owner = ap (λ x. x.context) ed ∙ run_context n c m;
        stops = λ le.
            let e : b + n ≡ end = omega arith in
            ap (λ x. x.bspstore) ed ∙ stops n c m ∙ ap (spills_to run.answer) e ∙ ap (λ x. spills_to x end) (sym er);
        told = told.0;
        lowest = told.1;
      }
