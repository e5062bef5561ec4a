-- A line spells one instruction at most. Assumes nothing.
use Rattle.std.proofs.Common.{◌≡◌, ℕ, cond, eqb, List, ◌∷◌, get_or, drop, Some, None, Option, sym, refl, ap, ◌∙◌, subst}
use Rattle.engine.specs.declared.instructions.Instruction.{Instruction}
use Rattle.engine.specs.declared.instructions.Instruction.TheVariants as I
use Rattle.text.specs.Numbers.{spaced, Words}
use Rattle.text.specs.Spelling.{letter_of, operands_of, spelling, Operands64, Unreadable, InstructionOf, Apart}
use Rattle.text.proofs.Decimals.{spaced_same}

-- the instruction with a letter and operands that it has
abbrev made : ℕ → List ℕ → Instruction
made l ns =
    cond (eqb l 98) (I.Begin (get_or ns 0 0) (get_or ns 1 0) (get_or ns 2 0)) (
    cond (eqb l 101) (I.Resume (get_or ns 0 0)) (
    cond (eqb l 120) (I.Retire (get_or ns 0 0)) (
    cond (eqb l 97) (I.Alloc (get_or ns 0 0) (get_or ns 1 0) (get_or ns 2 0)) (
    cond (eqb l 99) I.Call (
    cond (eqb l 114) I.Return (
    cond (eqb l 118) I.Cover (
    cond (eqb l 119) (I.Write (get_or ns 0 0) (get_or ns 1 0) (get_or ns 2 0)) (
    cond (eqb l 121) (I.Copy (get_or ns 0 0) (get_or ns 1 0)) (
    cond (eqb l 100) (I.Add (get_or ns 0 0) (get_or ns 1 0) (get_or ns 2 0)) (
    cond (eqb l 103) (I.Read (get_or ns 0 0)) (
    cond (eqb l 111) I.Rotate (
    cond (eqb l 122) I.ResetRotation (
    cond (eqb l 112) I.Previous (
    cond (eqb l 113) (I.SetPrevious (get_or ns 0 0)) (
    cond (eqb l 117) I.Restore (
    cond (eqb l 102) I.Flush (
    cond (eqb l 115) I.EarlySpill (
    cond (eqb l 104) I.EarlyFill (
    cond (eqb l 108) (I.Load (get_or ns 0 0)) (
    cond (eqb l 107) I.Park (
    cond (eqb l 110) (I.SetMode (get_or ns 0 0)) (
    cond (eqb l 105) I.State (
    I.Counts)))))))))))))))))))))))

remade : (i : Instruction) → made (letter_of i) (operands_of i) ≡ i
remade (I.Begin k s n) = refl
remade (I.Resume k) = refl
remade (I.Retire k) = refl
remade (I.Alloc sof sol sor) = refl
remade I.Call = refl
remade I.Return = refl
remade I.Cover = refl
remade (I.Write r w n) = refl
remade (I.Copy r s) = refl
remade (I.Add r s q) = refl
remade (I.Read r) = refl
remade I.Rotate = refl
remade I.ResetRotation = refl
remade I.Previous = refl
remade (I.SetPrevious w) = refl
remade I.Restore = refl
remade I.Flush = refl
remade I.EarlySpill = refl
remade I.EarlyFill = refl
remade (I.Load d) = refl
remade I.Park = refl
remade (I.SetMode m) = refl
remade I.State = refl
remade I.Counts = refl

pub apart : Apart
apart i j p q e =
    let letters : letter_of i ≡ letter_of j = ap (λ s. get_or s 0 0) e in
    let operands : operands_of i ≡ operands_of j = spaced_same (operands_of i) (operands_of j) p q (ap (drop 1) e) in
    sym (remade i) ∙ ap (λ l. made l (operands_of i)) letters ∙ ap (made (letter_of j)) operands ∙ remade j

-- a line whose operands were read
pub read_as : (line d ns : List ℕ) (l : ℕ) (r : Option Instruction) → line ≡ l ∷ d → d ≡ spaced ns → Words ns → InstructionOf l ns r
    → elim r as (λ x. Type 0) [ Some i ↦ (line ≡ spelling i) × Operands64 i | None ↦ Unreadable line ]
read_as line d ns l (Some i) e f all h = (e ∙ ap (λ x. l ∷ x) f ∙ ap (λ x. x ∷ spaced ns) (sym h.0) ∙ ap (λ x. letter_of i ∷ spaced x) (sym h.1), subst Words (sym h.1) all)
read_as line d ns l None e f all h =
    λ i p k. h i (ap (λ s. get_or s 0 0) (sym k ∙ e)) (spaced_same (operands_of i) ns p all (ap (drop 1) (sym k ∙ e) ∙ f))
