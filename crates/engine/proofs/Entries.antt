-- A fact about each entry of a table stays when an entry that has it is put in.
use Rattle.std.proofs.Common.{◌≡◌, ℕ, zero, suc, ◌<◌, Bool, true, false, ◌&&◌, List, [], ◌∷◌, length, get_or, set, sym, subst, inl, inr, arith, get_or-set_other, get_or-set_same}
use Rattle.std.proofs.lemmas.Bool.{cases_eq}
use Rattle.context.specs.declared.record.ContextRecord.{ContextRecord}
use Rattle.engine.specs.Tables.{empty_record}

pub put_in : {X : Type 0} (P : X → Type 0) (xs : List X) (i : ℕ) (x d : X) → i < length xs → P x → ((k : ℕ) → P (get_or xs k d))
    → (k : ℕ) → P (get_or (set xs i x) k d)
put_in P xs i x d h new old k =
    elim (cases_eq k i) [
      | inl e ↦ subst (λ j. P (get_or (set xs i x) j d)) (sym e) (subst P (sym (get_or-set_same xs i x d h)) new)
      | inr ne ↦ subst P (sym (get_or-set_other xs i k x d ne)) (old k)
    ]

-- the same of one entry
pub put_one : {X : Type 0} (P : X → Type 0) (xs : List X) (i : ℕ) (x d : X) (k : ℕ) → i < length xs → P x → P (get_or xs k d) → P (get_or (set xs i x) k d)
put_one P xs i x d k h new old =
    elim (cases_eq k i) [
      | inl e ↦ subst (λ j. P (get_or (set xs i x) j d)) (sym e) (subst P (sym (get_or-set_same xs i x d h)) new)
      | inr ne ↦ subst P (sym (get_or-set_other xs i k x d ne)) old
    ]

one_more : {X : Type 0} (P : X → Type 0) (x d : X) (xs : List X) → P x → ((k : ℕ) → P (get_or xs k d)) → (k : ℕ) → P (get_or (x ∷ xs) k d)
one_more P x d xs h rest zero = h
one_more P x d xs h rest (suc k) = rest k

-- a fact about the empty record holds of each entry of a new table
pub empties : (P : ContextRecord → Type 0) → P empty_record → (k : ℕ)
    → P (get_or (empty_record ∷ empty_record ∷ empty_record ∷ empty_record ∷ empty_record ∷ empty_record ∷ empty_record ∷ empty_record ∷ []) k empty_record)
empties P h =
    one_more P empty_record empty_record (empty_record ∷ empty_record ∷ empty_record ∷ empty_record ∷ empty_record ∷ empty_record ∷ empty_record ∷ []) h
    (one_more P empty_record empty_record (empty_record ∷ empty_record ∷ empty_record ∷ empty_record ∷ empty_record ∷ empty_record ∷ []) h
    (one_more P empty_record empty_record (empty_record ∷ empty_record ∷ empty_record ∷ empty_record ∷ empty_record ∷ []) h
    (one_more P empty_record empty_record (empty_record ∷ empty_record ∷ empty_record ∷ empty_record ∷ []) h
    (one_more P empty_record empty_record (empty_record ∷ empty_record ∷ empty_record ∷ []) h
    (one_more P empty_record empty_record (empty_record ∷ empty_record ∷ []) h
    (one_more P empty_record empty_record (empty_record ∷ []) h
    (one_more P empty_record empty_record [] h (λ k. h))))))))

-- what a test before the rest decides
pub and_true : (b rest all : Bool) → b ≡ true → (b && rest) ≡ all → rest ≡ all
and_true true rest all h k = k
and_true false rest all h k = let z : ◌≡◌ {A = ℕ} 0 1 = cc in absurd (omega (arith, z))

pub and_false : (b rest all : Bool) → b ≡ false → (b && rest) ≡ all → all ≡ false
and_false true rest all h k = let z : ◌≡◌ {A = ℕ} 0 1 = cc in absurd (omega (arith, z))
and_false false rest all h k = sym k
