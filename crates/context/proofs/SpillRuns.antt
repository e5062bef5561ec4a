-- How far spills go, and what they keep.
use Rattle.std.proofs.Common.{◌≡◌, ℕ, zero, suc, ◌+◌, ◌%◌, ◌^◌, ◌<◌, ◌≤◌, Bool, true, false, cond, List, Ok, Err, sym, refl, ◌∙◌, subst, pow-suc, arith}
use Rattle.std.proofs.lemmas.Bool.{eqb-true, eqb-false}
use Rattle.address.specs.Addresses.{is_collection}
use Rattle.address.specs.NatBits.{with_nat}
use Rattle.address.proofs.NatBits.{with_nat_low}
use Rattle.register.specs.Slots.{register_at}
use Rattle.register.specs.declared.Slot.{Slot}
use Rattle.store.specs.Meaning.{Meaning}
use Rattle.store.specs.Rules.{is_open, written}
use Rattle.moves.specs.Steps.{fault_at}
use Rattle.moves.specs.Spills.{SpillEnd, spill_run, spill_past, spill_value, stored_by, past_collection, past_register}
use Rattle.moves.specs.declared.state.Cursor.{Cursor}
use Rattle.moves.specs.declared.state.MoveFault.{MoveFault}
use Rattle.moves.specs.declared.state.Movement.TheVariants.{Spill}

-- RNAT has bits below BSPSTORE's place alone
abbrev pub Bits : Cursor → Type 0
Bits c = c.rnat < 2 ^ (c.bspstore % 64)

-- n steps from c: BSPSTORE rises by at most n, and by n where all went through
pub record Ran (n : ℕ) (c : Cursor) (run : SpillEnd) : Type 0 where
  pub start : run.cursor.start ≡ c.start
  pub least : c.bspstore ≤ run.cursor.bspstore
  pub most : run.cursor.bspstore ≤ c.bspstore + n
  pub whole : run.answer ≡ Ok tt → run.cursor.bspstore ≡ c.bspstore + n
  pub bits : Bits run.cursor
  pub wrote : run.cursor.counts.written ≤ c.counts.written + n

-- one step
record Past (c d : Cursor) : Type 0 where
  start : d.start ≡ c.start
  next : d.bspstore ≡ c.bspstore + 1
  bits : Bits d
  wrote : d.counts.written ≤ c.counts.written + 1

fresh_bit : (n i : ℕ) (nat : Bool) → n < 2 ^ i → n + cond nat (2 ^ i) 0 < 2 ^ suc i
fresh_bit n i true h = omega (arith, pow-suc 2 i)
fresh_bit n i false h = omega (arith, pow-suc 2 i)

register_bits : (b n : ℕ) (nat : Bool) → is_collection b ≡ false → n < 2 ^ (b % 64) → with_nat n (b % 64) nat < 2 ^ ((b + 1) % 64)
register_bits b n nat e h =
    let other : (b % 64 ≡ 63 → ⊥) = eqb-false (b % 64) 63 e in
    let up : (b + 1) % 64 ≡ suc (b % 64) = omega arith in
    subst (λ x. x < 2 ^ ((b + 1) % 64)) (sym (with_nat_low n (b % 64) nat h))
    (subst (λ k. n + cond nat (2 ^ (b % 64)) 0 < 2 ^ k) (sym up) (fresh_bit n (b % 64) nat h))

collection_bits : (b : ℕ) → is_collection b ≡ true → 0 < 2 ^ ((b + 1) % 64)
collection_bits b e =
    let up : (b + 1) % 64 ≡ 0 = omega (arith, eqb-true (b % 64) 63 e) in
    subst (λ k. 0 < 2 ^ k) (sym up) (omega arith)

one_past : (k : Bool) (nat : Bool) (c : Cursor) → is_collection c.bspstore ≡ k → Bits c → Past c (cond k (past_collection c) (past_register nat c))
one_past true nat c e h = record { start = refl; next = refl; bits = collection_bits c.bspstore e; wrote = omega arith }
one_past false nat c e h = record { start = refl; next = refl; bits = register_bits c.bspstore c.rnat nat e h; wrote = omega arith }

more : (o : Bool) (e : MoveFault) (n : ℕ) (c d : Cursor) (m : Meaning) (rest : SpillEnd) → Bits c → Past c d → Ran n d rest
    → Ran (suc n) c (cond o rest (record { cursor = c; meaning = m; answer = cond o (Ok tt) (Err e) }))
more true e n c d m rest h p r =
    record {
      start = r.start ∙ p.start;
      least = omega (arith, r.least, p.next);
      most = omega (arith, r.most, p.next);
      whole = λ ok. omega (arith, r.whole ok, p.next);
      bits = r.bits;
      wrote = omega (arith, r.wrote, p.wrote);
    }
more false e n c d m rest h p r =
    record {
      start = refl;
      least = omega arith;
      most = omega arith;
      whole = λ ok. let z : ◌≡◌ {A = ℕ} 0 1 = cc in absurd (omega (arith, z));
      bits = h;
      wrote = omega arith;
    }

module _ {C : Type 0} (nought : C) (image : C → ℕ) (slots : List (Slot C)) (context : ℕ) where
  pub spills_run : (n : ℕ) (c : Cursor) (m : Meaning) → Bits c → Ran n c (spill_run nought image slots context n c m)
  spills_run zero c m h = record { start = refl; least = omega arith; most = omega arith; whole = λ _. omega arith; bits = h; wrote = omega arith }
  spills_run (suc n) c m h =
      let p = one_past (is_collection c.bspstore) (register_at nought slots (stored_by c)).nat c refl h in
      more (is_open m c.bspstore) (fault_at m c.bspstore Spill context (stored_by c)) n c (spill_past nought slots c) m
      (spill_run nought image slots context n (spill_past nought slots c) (written m c.bspstore (spill_value nought image slots c)))
      h p (spills_run n (spill_past nought slots c) (written m c.bspstore (spill_value nought image slots c)) p.bits)
