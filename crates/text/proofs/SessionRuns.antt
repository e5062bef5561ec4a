-- One line more of a session, and the end line after all of them. Assumes nothing.
use Rattle.std.proofs.Common.{◌≡◌, ℕ, ◌+◌, cond, Ok, Err, OnOk, is_ok, is_err, vec_items, Result, Vec, List, [], ◌∷◌, ◌++◌, length, sym, refl, ap, ◌∙◌, subst, append_assoc, append-nil, arith}
use Rattle.engine.specs.Hosts.{Host}
use Rattle.text.specs.Lines.{lines_of}
use Rattle.text.specs.Outcomes.{LineOutcome}
use Rattle.text.specs.Printed.{Appends, printed_end}
use Rattle.text.specs.Sessions.{LineRuns, Runs, printed_lines, granted_in, refused_in, printed_all}
use Rattle.std.proofs.lemmas.List.Sums.{sum_by-cons}
use Rattle.std.specs.declared.alloc.AllocError.{AllocError}

module _ {C : Type 0} (nought : C) (image : C → ℕ) (content : ℕ → C) (sum : C → C → C) where
  -- ls are the lines that remain, the first of them l
  pub runs_more : (h0 h k : Host C) (all ls rest : List (List ℕ)) (l : List ℕ) (n : ℕ) (before outs : List LineOutcome) (o : LineOutcome)
      → ls ≡ l ∷ rest
      → ((os : List LineOutcome) (x : Host C) → Runs nought image content sum h ls (n + 1) os x → Runs nought image content sum h0 all 1 (before ++ os) x)
      → LineRuns nought image content sum h l (n + 1) o k → outs ≡ before ++ (o ∷ [])
      → (os : List LineOutcome) (x : Host C) → Runs nought image content sum k rest (n + 1 + 1) os x → Runs nought image content sum h0 all 1 (outs ++ os) x
  runs_more h0 h k all ls rest l n before outs o e inv line eouts os x run =
      let whole = inv (o ∷ os) x (subst (λ y. Runs nought image content sum h y (n + 1) (o ∷ os) x) (sym e) (k, line, run)) in
      subst (λ y. Runs nought image content sum h0 all 1 y x) (sym (ap (λ y. y ++ os) eouts ∙ append_assoc before (o ∷ []) os)) whole

  no_bytes : (s : List ℕ) → length s ≡ 0 → lines_of s ≡ []
  no_bytes [] h = refl
  no_bytes (b ∷ bs) h = let z : ⊥ = omega (arith, h) in absurd z

  pub runs_all : (h0 h : Host C) (all : List (List ℕ)) (rest : List ℕ) (n : ℕ) (outs : List LineOutcome) → length rest ≡ 0
      → ((os : List LineOutcome) (x : Host C) → Runs nought image content sum h (lines_of rest) (n + 1) os x → Runs nought image content sum h0 all 1 (outs ++ os) x)
      → Runs nought image content sum h0 all 1 outs h
  runs_all h0 h all rest n outs e inv =
      subst (λ y. Runs nought image content sum h0 all 1 y h) (append-nil outs)
      (inv [] h (subst (λ y. Runs nought image content sum h y (n + 1) [] h) (sym (no_bytes rest e)) refl))

-- each outcome is granted or refused
pub all_counted : (os : List LineOutcome) → granted_in os + refused_in os ≡ length os
all_counted [] = refl
all_counted (Ok a ∷ os) = omega (arith, all_counted os, sum_by-cons (λ o. cond (is_ok o) 1 0) (Ok a) os, sum_by-cons (λ o. cond (is_err o) 1 0) (Ok a) os)
all_counted (Err f ∷ os) = omega (arith, all_counted os, sum_by-cons (λ o. cond (is_ok o) 1 0) (Err f) os, sum_by-cons (λ o. cond (is_err o) 1 0) (Err f) os)

-- the end line after all the others
pub printed_whole : {Z : Type 0} (start : List ℕ) (os : List LineOutcome) (v w : Vec ℕ Z) (g r : ℕ) (result : Result (Unit {0}) AllocError)
    → vec_items v ≡ start ++ printed_lines os → g ≡ granted_in os → r ≡ refused_in os → Appends v w (printed_end g r) result → OnOk result (vec_items w ≡ start ++ printed_all os)
printed_whole start os v w g r (Ok u) lines granted refused h =
    h.items refl ∙ ap (λ x. x ++ printed_end g r) lines ∙ append_assoc start (printed_lines os) (printed_end g r)
    ∙ ap (λ x. start ++ (printed_lines os ++ printed_end x r)) granted ∙ ap (λ x. start ++ (printed_lines os ++ printed_end (granted_in os) x)) refused
printed_whole start os v w g r (Err e) lines granted refused h = tt
