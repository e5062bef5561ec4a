-- Fills and a lowering that were all granted.
use Rattle.std.proofs.Common.{◌≡◌, ℕ, Bool, true, false, cond, List, Ok, Err, Result, refl, ap, ◌∙◌, arith}
use Rattle.register.specs.declared.Slot.{Slot}
use Rattle.moves.specs.Steps.{MoveResult}
use Rattle.moves.specs.Lowers.{lower_reads, lower_answer, lower_open, lowered}
use Rattle.moves.specs.declared.state.Cursor.{Cursor}
use Rattle.moves.specs.declared.state.Counts.{Counts}
use Rattle.context.specs.declared.record.ContextRecord.{ContextRecord}
use Rattle.context.specs.Records.{with_moves}
use Rattle.context.specs.Scenes.{Scene, cursor_in}
use Rattle.context.specs.Spilling.{fills_to}
use Rattle.context.specs.Returns.{refill_asked, refill_answer, refill_after}

-- a lowering that was granted found its word open
open_by : {E : Type 0} (reads open? : Bool) (e : E) → ◌≡◌ {A = Result (Unit {0}) E} (cond reads (cond open? (Ok tt) (Err e)) (Ok tt)) (Ok tt)
    → cond reads open? true ≡ true
open_by true true e h = refl
open_by true false e h = let z : ◌≡◌ {A = ℕ} 0 1 = cc in absurd (omega (arith, z))
open_by false open? e h = refl

module _ {C : Type 0} (content : ℕ → C) (s : Scene C) (low high word : ℕ) where
  pub refill_answer_lem : (lower : MoveResult) (c : Cursor) → refill_asked s.meaning (cursor_in s) low high word ≡ Ok tt → (fills_to content s low high).answer ≡ Ok tt
      → c ≡ (fills_to content s low high).cursor → lower_answer s.meaning s.number c word ≡ Ok tt
      → Ok tt ≡ refill_answer content s low high word
  unfolding refill_answer
  refill_answer_lem lower c asked fills at went =
      rw (asked, fills, ← at, went) refl

  pub refill_after_lem : (c d : Cursor) (stack : ContextRecord) (counts : Counts) (number : ℕ) (file : List (Slot C))
      → refill_asked s.meaning (cursor_in s) low high word ≡ Ok tt → (fills_to content s low high).answer ≡ Ok tt
      → c ≡ (fills_to content s low high).cursor → lower_answer s.meaning s.number c word ≡ Ok tt
      → d ≡ cond (lower_open c s.meaning word) (lowered s.meaning c word) c
      → stack ≡ with_moves s.stack d → counts ≡ d.counts → number ≡ s.number → file ≡ (fills_to content s low high).file
      → ◌≡◌ {A = Scene C} (record { number = number; stack = stack; counts = counts; file = file; meaning = s.meaning }) (refill_after content s low high word)
  unfolding refill_after
  refill_after_lem c d stack counts number file asked fills at went ed es ec en ef =
      let o : lower_open c s.meaning word ≡ true = open_by (lower_reads c word) _ _ went in
      let ed' : d ≡ lowered s.meaning c word = ed ∙ ap (λ b. cond b (lowered s.meaning c word) c) o in
      rw (es, ec, en, ef, ed', asked, fills, ← at, went) refl
