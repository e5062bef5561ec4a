-- Operands, one after another. Assumes nothing.
use Rattle.std.proofs.Common.{◌≡◌, ℕ, ◌^◌, ◌<◌, true, false, List, [], ◌∷◌, ◌++◌, length, get_or, drop, Some, None, decimal, Option, sym, ap, ◌∙◌, subst, append_assoc, arith, Bor}
use Rattle.std.proofs.ByRecursion.{All-push}
use Rattle.std.proofs.lemmas.List.{append-nil}
use Rattle.std.proofs.lemmas.List.Concat.{flat_map-append}
use Rattle.std.proofs.lemmas.Bool.{both_ways}
use Rattle.text.specs.Numbers.{worth, after_digits, begins_with_digit, readable, spaced, NumberOf, OperandOf, Takes, Words}
use Rattle.text.proofs.Decimals.{after_stops, numeral_first, numeral_only, operand_only, spaced_stops}

-- an operand is a space and what `number` reads
operand_some : (s d t : List ℕ) (n : ℕ) → s ≡ 32 ∷ d → readable d ≡ true → n ≡ worth d → t ≡ after_digits d → Takes s n t
operand_some s d t n e h v a = (
  e ∙ ap (λ x. 32 ∷ x) (numeral_first d h) ∙ ap (λ x. 32 ∷ (decimal x ++ after_digits d)) (sym v) ∙ ap (λ x. 32 ∷ (decimal n ++ x)) (sym a),
  ap begins_with_digit a ∙ after_stops d,
)

operand_none : (s d : List ℕ) → s ≡ 32 ∷ d → readable d ≡ false → (n : ℕ) (t : List ℕ) → n < 2 ^ 64 → Takes s n t → ⊥
operand_none s d e h n t small k =
    let same : d ≡ decimal n ++ t = ap (drop 1) (sym e ∙ k.0) in
    both_ways (readable d) h (ap readable same ∙ (numeral_only n t small k.1).0)

pub no_operand : (s : List ℕ) → (0 < length s → get_or s 0 0 ≡ 32 → ⊥) → OperandOf s None
no_operand s h n t small k = h (omega (arith, ap length k.0)) (ap (λ x. get_or x 0 0) k.0)

pub operand_is : (s d : List ℕ) (r : Option (ℕ × Bor (List ℕ))) → s ≡ 32 ∷ d → NumberOf d r → OperandOf s r
operand_is s d None e h = operand_none s d e h
operand_is s d (Some p) e h = operand_some s d p.1.now p.0 e h.0 h.1 h.2

-- ns are the operands that the text begins with, rest follows them, and no other operands are written so
pub record ReadSoFar (text rest ns : List ℕ) : Type 0 where
  pub written : text ≡ spaced ns ++ rest
  pub words : Words ns
  pub only : (ms : List ℕ) → Words ms → text ≡ spaced ms → (more : List ℕ) × (ms ≡ ns ++ more) × (rest ≡ spaced more)

words_after : (ns more : List ℕ) → Words (ns ++ more) → Words more
words_after [] more h = h
words_after (n ∷ ns) more h = words_after ns more h.1

module _ {text rest ns : List ℕ} where
  -- one operand more
  pub read_more : {after : List ℕ} {n : ℕ} → ReadSoFar text rest ns → n < 2 ^ 64 → Takes rest n after → ReadSoFar text after (ns ++ (n ∷ []))
  read_more {after = after} {n = n} h small takes =
      record {
        written = h.written ∙ ap (λ x. spaced ns ++ x) takes.0 ∙ sym (append_assoc (spaced ns) (32 ∷ decimal n) after)
            ∙ ap (λ x. x ++ after) (ap (λ x. spaced ns ++ x) (sym (append-nil (32 ∷ decimal n))) ∙ sym (flat_map-append (λ m. 32 ∷ decimal m) ns (n ∷ [])));
        words = All-push (λ m. m < 2 ^ 64) ns n h.words small;
        only = λ ms all e. let k = h.only ms all e in go ms k.0 all k.1 k.2;
      }
    where
      go : (ms more : List ℕ) → Words ms → ms ≡ ns ++ more → rest ≡ spaced more → (later : List ℕ) × (ms ≡ (ns ++ (n ∷ [])) ++ later) × (after ≡ spaced later)
      go ms [] all e f = let z : ◌≡◌ {A = ℕ} 0 1 = cc (takes.0, f) in absurd (omega arith)
      go ms (m ∷ later) all e f =
          let words : Words (m ∷ later) = words_after ns (m ∷ later) (subst Words e all) in
          let same = operand_only rest n m after (spaced later) small words.0 takes (f, spaced_stops later) in
          (later, e ∙ ap (λ x. ns ++ (x ∷ later)) (sym same.0) ∙ sym (append_assoc ns (n ∷ []) later), same.1)

  -- more operands than were read are not written, where none can be read any more
  pub read_stop : ReadSoFar text rest ns → 0 < length rest → ((n : ℕ) (t : List ℕ) → n < 2 ^ 64 → Takes rest n t → ⊥) → (ms : List ℕ) → Words ms → text ≡ spaced ms → ⊥
  read_stop h some none ms all e = let k = h.only ms all e in go k.0 (subst Words k.1 all) k.2
    where
      go : (more : List ℕ) → Words (ns ++ more) → rest ≡ spaced more → ⊥
      go [] all f = omega (arith, ap length f)
      go (m ∷ later) all f = none m (spaced later) (words_after ns (m ∷ later) all).0 (f, spaced_stops later)
