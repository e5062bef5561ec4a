-- Facts about lines. Assumes nothing.
use Rattle.std.proofs.Common.{◌≡◌, ℕ, ◌+◌, ◌-◌, ◌<◌, ◌≤◌, Bool, true, false, Some, None, cond, eqb, ◌==◌, ◌⊎◌, List, [], ◌∷◌, ◌++◌, length, take, drop, sym, refl, ap, ◌∙◌, subst, inl, inr, arith}
use Rattle.std.proofs.ByRecursion.{All-from_get_or}
use Rattle.std.proofs.lemmas.List.{drop_more, get_or-take, length-take-le, take-append-drop, take_rest}
use Rattle.std.proofs.lemmas.List.Quantifiers.{position-Some}
use Rattle.std.proofs.lemmas.List.Sums.{fails_before_first, sum_by-cons}
use Rattle.std.proofs.lemmas.Bool.{eqb-true, eqb-false, ne_eqb}
use Rattle.std.proofs.lemmas.Bool.Decides.{nat_tests}
use Rattle.std.specs.List.{AllByRecursion, position, position_or_len}
use Rattle.text.specs.Lines.{before, lines_of, ended, closed, end_bytes, OneLine, FirstLine, Rejoined}

lines_split : (l t : List ℕ) → OneLine l → lines_of (l ++ (10 ∷ t)) ≡ l ∷ lines_of t
lines_split [] t h = refl
lines_split (b ∷ l) t h =
    let rest = lines_of (l ++ (10 ∷ t)) in
    ap (λ v. cond v ([] ∷ rest) (before b rest)) (ne_eqb b 10 h.0) ∙ ap (before b) (lines_split l t h.1)

lines_last : (l : List ℕ) → OneLine l → 0 < length l → lines_of l ≡ l ∷ []
lines_last [] h some = absurd (omega arith)
lines_last (b ∷ []) h some = ap (λ v. cond v ([] ∷ []) ((b ∷ []) ∷ [])) (ne_eqb b 10 h.0)
lines_last (b ∷ c ∷ l) h some =
    let rest = lines_of (c ∷ l) in
    ap (λ v. cond v ([] ∷ rest) (before b rest)) (ne_eqb b 10 h.0) ∙ ap (before b) (lines_last (c ∷ l) h.1 (omega arith))

-- the first line is the first of the lines
pub lines_first : (s l t : List ℕ) → FirstLine s l t → 0 < length s → lines_of s ≡ l ∷ lines_of t
lines_first s l t h some = go h.1
  where
    go : (s ≡ l ++ (10 ∷ t)) ⊎ ((s ≡ l) × (t ≡ [])) → lines_of s ≡ l ∷ lines_of t
    go (inl e) = ap lines_of e ∙ lines_split l t h.0
    go (inr e) = ap lines_of e.0 ∙ lines_last l h.0 (subst (λ (x : List ℕ). 0 < length x) e.0 some) ∙ ap (λ x. l ∷ lines_of x) (sym e.1)

-- the line before the first end byte, and what follows it as code cuts it off
pub first_ended : (s : List ℕ) (n : ℕ) → position (λ b. b == 10) s ≡ Some n → FirstLine s (take n s) (take (length s - (n + 1)) (drop (n + 1) s))
first_ended s n found =
    let p = position-Some (λ b. b == 10) s n 0 found in
    let within = length-take-le n s (omega arith) in
    let cut : take n s ++ drop n s ≡ take n s ++ (10 ∷ take (length s - (n + 1)) (drop (n + 1) s)) =
    ap (λ x. take n s ++ x) (drop_more s n 0 p.0 ∙ ap (λ b. b ∷ drop (n + 1) s) (eqb-true _ _ p.1) ∙ ap (λ x. 10 ∷ x) (sym (take_rest s (n + 1)))) in (
      All-from_get_or (λ b. b ≡ 10 → ⊥) (take n s) 0 (λ i h e. eqb-false _ _ (p.2 i (omega arith)) (sym (get_or-take n s i 0 (omega arith)) ∙ e)),
      inl (sym (take-append-drop n s) ∙ cut),
    )

-- the last line, where it lacks its end byte
pub first_only : (s : List ℕ) → position (λ b. b == 10) s ≡ None → FirstLine s s []
first_only s none =
    let past : length s ≤ position_or_len (λ b. b == 10) s = grind (arith, nat_tests) in
    (All-from_get_or (λ b. b ≡ 10 → ⊥) s 0 (λ i h. eqb-false _ _ (fails_before_first (λ b. b == 10) s i 0 (omega arith))), inr (refl, refl))

pub lines_only : (s : List ℕ) → position (λ b. b == 10) s ≡ None → 0 < length s → lines_of s ≡ s ∷ lines_of []
lines_only s none some = lines_first s s [] (first_only s none) some

-- what a byte does to the lines that follow
lines_some : (b : ℕ) (bs : List ℕ) → 0 < length (lines_of (b ∷ bs))
lines_some b bs = go (eqb b 10) (lines_of bs)
  where
    go : (v : Bool) (ls : List (List ℕ)) → 0 < length (cond v ([] ∷ ls) (before b ls))
    go true ls = omega arith
    go false [] = omega arith
    go false (l ∷ ls) = omega arith

ended_before : (b : ℕ) (ls : List (List ℕ)) → 0 < length ls → ended (before b ls) ≡ b ∷ ended ls
ended_before b [] some = absurd (omega arith)
ended_before b (l ∷ ls) some = refl

closes : (s : List ℕ) → ended (lines_of s) ≡ closed s
closes [] = refl
closes (b ∷ []) = go (eqb b 10) refl
  where
    go : (v : Bool) → eqb b 10 ≡ v → ended (cond v ([] ∷ []) ((b ∷ []) ∷ [])) ≡ cond v (b ∷ []) (b ∷ 10 ∷ [])
    go true e = ap (λ x. x ∷ []) (sym (eqb-true b 10 e))
    go false e = refl
closes (b ∷ c ∷ bs) = go (eqb b 10) refl (closes (c ∷ bs))
  where
    go : (v : Bool) → eqb b 10 ≡ v → ended (lines_of (c ∷ bs)) ≡ closed (c ∷ bs) → ended (cond v ([] ∷ lines_of (c ∷ bs)) (before b (lines_of (c ∷ bs)))) ≡ b ∷ closed (c ∷ bs)
    go true e h = ap (λ x. 10 ∷ x) h ∙ ap (λ x. x ∷ closed (c ∷ bs)) (sym (eqb-true b 10 e))
    go false e h = ended_before b (lines_of (c ∷ bs)) (lines_some c bs) ∙ ap (λ x. b ∷ x) h

one_lines : (s : List ℕ) → AllByRecursion OneLine (lines_of s)
one_lines [] = tt
one_lines (b ∷ bs) = go (eqb b 10) refl (lines_of bs) (one_lines bs)
  where
    go : (v : Bool) → eqb b 10 ≡ v → (ls : List (List ℕ)) → AllByRecursion OneLine ls → AllByRecursion OneLine (cond v ([] ∷ ls) (before b ls))
    go true e ls h = (tt, h)
    go false e [] h = ((eqb-false b 10 e, tt), tt)
    go false e (l ∷ ls) h = ((eqb-false b 10 e, h.0), h.1)

pub rejoins : (s : List ℕ) → Rejoined s
rejoins s = (closes s, one_lines s)

-- an input has one line more than end bytes, at most
pub lines_few : (s : List ℕ) → length (lines_of s) ≤ end_bytes s + 1
lines_few [] = omega arith
lines_few (b ∷ bs) = rw sum_by-cons (go (eqb b 10) (lines_of bs) (end_bytes bs) (lines_few bs))
  where
    go : (v : Bool) (ls : List (List ℕ)) (n : ℕ) → length ls ≤ n + 1 → length (cond v ([] ∷ ls) (before b ls)) ≤ cond v 1 0 + n + 1
    go true ls n h = omega arith
    go false [] n h = omega arith
    go false (l ∷ ls) n h = omega arith
