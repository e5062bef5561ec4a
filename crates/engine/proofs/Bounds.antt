-- Bounds that follow from an engine's invariants.
use Rattle.std.proofs.Common.{◌≡◌, ℕ, ◌+◌, ◌≤◌, Bool, true, false, cond, eqb, List, length, Ok, Err, Result, sym, refl, ap, ◌∙◌, subst, arith}
use Rattle.std.proofs.lemmas.Bool.{and_parts, eqb-true}
use Rattle.register.specs.declared.Slot.{Slot}
use Rattle.store.specs.Meaning.{Meaning}
use Rattle.moves.specs.Steps.{MoveResult}
use Rattle.context.specs.declared.refusals.Refusal.{Refusal}
use Rattle.context.specs.declared.refusals.Refusal.TheVariants.{Depth, State as WrongState, Host as WrongHost}
use Rattle.context.specs.Scenes.{moved}
use Rattle.context.specs.Spilling.{alloc_after}
use Rattle.context.specs.Returns.{restore_base, back_to_answer}
use Rattle.context.proofs.SoundReturns.{restore_granted}
use Rattle.context.proofs.SoundSpills.{alloc_words}
use Rattle.engine.specs.declared.instructions.Answer.{Answer}
use Rattle.engine.specs.declared.instructions.Answer.TheVariants.{Done}
use Rattle.engine.specs.declared.instructions.Instruction.{Instruction}
use Rattle.engine.specs.declared.instructions.Instruction.TheVariants.{Restore, Alloc}
use Rattle.engine.specs.declared.machine.State.{State}
use Rattle.engine.specs.declared.machine.State.TheVariants.{Idle, Running, Covered, Flushed}
use Rattle.engine.specs.declared.sound.Engine.{Engine}
use Rattle.engine.specs.Hosts.{Host, hosted, scene_of, lifted}
use Rattle.engine.specs.Rules.{in_range}
use Rattle.engine.specs.Running.{answered}
use Rattle.engine.specs.Steps.{in_covered_or_flushed, in_running, same_host, step_answer, step_after}
use Rattle.engine.specs.Bounds.{NeverTooDeep, FewWritten}
use Rattle.engine.specs.Invariants.{is_closed}
use Rattle.engine.proofs.Invariants.{driven_in, sound_at, closed_in, recount}

no_depth : (t : Bool) (s : State) (x : Result Answer Refusal) → (is_closed s ≡ true → x ≡ Err Depth → ⊥)
    → ◌≡◌ {A = Result Answer Refusal} (cond t (in_covered_or_flushed s x (Err WrongState)) (Err WrongHost)) (Err Depth) → ⊥
no_depth true Idle x h e = let z : ◌≡◌ {A = ℕ} 0 1 = cc in omega (arith, z)
no_depth true Running x h e = let z : ◌≡◌ {A = ℕ} 0 1 = cc in omega (arith, z)
no_depth true Covered x h e = h refl e
no_depth true Flushed x h e = h refl e
no_depth false s x h e = let z : ◌≡◌ {A = ℕ} 0 1 = cc in omega (arith, z)

moves_only : (a : MoveResult) → ◌≡◌ {A = Result Answer Refusal} (answered (λ _. Done) (moved {T = Unit {0}} a (Ok tt))) (Err Depth) → ⊥
moves_only (Ok v) e = let z : ◌≡◌ {A = ℕ} 0 1 = cc in omega (arith, z)
moves_only (Err f) e = let z : ◌≡◌ {A = ℕ} 0 1 = cc in omega (arith, z)

by_run : {C : Type 0} (t u : Bool) (s : State) (x h : Host C) (n : ℕ) → (t ≡ true → x.machine.counts.written ≤ n) → h.machine.counts.written ≤ n
    → (cond t (cond u (in_running s x h) h) h).machine.counts.written ≤ n
by_run true true Idle x h n f k = k
by_run true true Running x h n f k = f refl
by_run true true Covered x h n f k = k
by_run true true Flushed x h n f k = k
by_run true false s x h n f k = k
by_run false u s x h n f k = k

module _ {C : Type 0} (nought : C) (image : C → ℕ) (content : ℕ → C) (sum : C → C → C) (e : Engine) (file : List (Slot C)) (meaning : Meaning) where
  -- a context whose frame is covered can always go back to it, but for a shut word
  pub never_depth : step_answer nought image content (hosted e.machine file meaning) Restore ≡ Err Depth → ⊥
  never_depth =
      let h = hosted e.machine file meaning in
      let r = driven_in e in
      no_depth (same_host h) e.machine.state (answered (λ _. Done) (back_to_answer nought image content (scene_of h) (restore_base r) r.saved))
      (λ closed x. moves_only _ (ap (λ b. answered (λ _. Done) (back_to_answer nought image content (scene_of h) b r.saved)) (sym (restore_granted r (closed_in e closed))) ∙ x))

  -- 96 registers, and two collections
  pub alloc_bounded : (sof sol sor : ℕ) → (step_after nought image content sum (hosted e.machine file meaning) (Alloc sof sol sor)).machine.counts.written ≤ e.machine.counts.written + 98
  alloc_bounded sof sol sor =
      let h = hosted e.machine file meaning in
      by_run (same_host h) (in_range (Alloc sof sol sor)) e.machine.state (lifted h (alloc_after nought image (scene_of h) sof sol sor)) h (e.machine.counts.written + 98)
      (λ t. let len : length file ≡ e.machine.slots = eqb-true (length file) e.machine.slots (and_parts (eqb (length file) e.machine.slots) _ t).0 in
      alloc_words nought image (scene_of h) sof sol sor (recount (driven_in e) (sym len) (sound_at e e.machine.current)))
      (omega arith)

  -- of what a step answers and leaves
  pub step_deep : (i : Instruction) (r : Result Answer Refusal) → r ≡ step_answer nought image content (hosted e.machine file meaning) i → NeverTooDeep i r
  step_deep i r same i-is r-is = never_depth (ap (step_answer nought image content (hosted e.machine file meaning)) (sym i-is) ∙ sym same ∙ r-is)

  pub step_words : (i : Instruction) (h : Host C) → h ≡ step_after nought image content sum (hosted e.machine file meaning) i
      → FewWritten i e.machine.counts.written h.machine.counts.written
  step_words i h same sof sol sor i-is =
      subst (λ n. n ≤ e.machine.counts.written + 98)
      (sym (ap (λ x. x.machine.counts.written) (same ∙ ap (step_after nought image content sum (hosted e.machine file meaning)) i-is)))
      (alloc_bounded sof sol sor)
