-- Bytes added one after another. Assumes nothing.
use Rattle.std.proofs.Common.{◌≡◌, ℕ, ◌+◌, ◌<◌, true, false, List, [], ◌∷◌, ◌++◌, length, get_or, take, drop, decimal, is_ok, vec_items, Result, Vec, sym, ap, ◌∙◌, subst, append_assoc, arith, length-append}
use Rattle.std.proofs.lemmas.List.{take-append-drop, drop_more}
use Rattle.std.proofs.lemmas.Bool.{both_ways}
use Rattle.std.specs.declared.alloc.AllocError.{AllocError}
use Rattle.text.specs.Numbers.{spaced}
use Rattle.text.specs.Printed.{Appends}
use Rattle.std.proofs.lemmas.List.Concat.{flat_map-append}

module _ {X Z : Type 0} {v w : Vec ℕ Z} {xs : List ℕ} {r : Result X AllocError} where
  pub appends_as : {ys : List ℕ} → xs ≡ ys → Appends v w xs r → Appends v w ys r
  appends_as e h = subst (λ (zs : List ℕ). Appends v w zs r) e h

  -- a second call
  pub appends_then : {Y : Type 0} {x : Vec ℕ Z} {ys : List ℕ} {q : Result Y AllocError} → Appends v w xs r → is_ok r ≡ true → Appends w x ys q → Appends v x (xs ++ ys) q
  appends_then {x = x} {ys = ys} {q = q} h ok k =
      let e : vec_items w ≡ vec_items v ++ xs = h.items ok in
      let long : length (vec_items w) ≡ length (vec_items v) + length xs = ap length e ∙ length-append (vec_items v) xs in
      record {
        items = λ good. k.items good ∙ ap (λ z. z ++ ys) e ∙ append_assoc (vec_items v) xs ys;
        room = λ fits. k.room (omega (arith, length-append xs ys, long, h.capacity));
        capacity = omega (arith, h.capacity, k.capacity);
      }

  -- no second call: the first one failed
  pub appends_failed : {Y : Type 0} {q : Result Y AllocError} → (ys : List ℕ) → Appends v w xs r → is_ok r ≡ false → is_ok q ≡ false → Appends v w (xs ++ ys) q
  appends_failed {q = q} ys h bad none =
      record {
        items = λ good. absurd (both_ways (is_ok q) none good);
        room = λ fits. absurd (both_ways (is_ok r) bad (h.room (omega (arith, length-append xs ys))));
        capacity = h.capacity;
      }

-- the values of a line after the i-th: what fails to be written
pub spaced_rest : (word ns : List ℕ) (i : ℕ) → i < length ns
    → ((word ++ spaced (take i ns)) ++ spaced (get_or ns i 0 ∷ [])) ++ (spaced (drop (i + 1) ns) ++ (10 ∷ [])) ≡ word ++ (spaced ns ++ (10 ∷ []))
spaced_rest word ns i lt =
    let now = spaced (take i ns) in
    let more = spaced (get_or ns i 0 ∷ []) in
    let rest = spaced (drop (i + 1) ns) in
    let all : spaced ns ≡ now ++ (more ++ rest) =
    ap spaced (sym (take-append-drop i ns) ∙ ap (λ x. take i ns ++ x) (drop_more ns i 0 lt))
    ∙ flat_map-append (λ n. 32 ∷ decimal n) (take i ns) (get_or ns i 0 ∷ drop (i + 1) ns)
    ∙ ap (λ x. now ++ x) (flat_map-append (λ n. 32 ∷ decimal n) (get_or ns i 0 ∷ []) (drop (i + 1) ns)) in
    regroup word now more rest (10 ∷ []) ∙ ap (λ x. word ++ (x ++ (10 ∷ []))) (sym all)
  where
    regroup : (a b c d e : List ℕ) → ((a ++ b) ++ c) ++ (d ++ e) ≡ a ++ ((b ++ (c ++ d)) ++ e)
    regroup a b c d e = simp append_assoc
