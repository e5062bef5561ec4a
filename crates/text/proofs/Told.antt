-- What a printed line tells. Assumes nothing.
use Rattle.std.proofs.Common.{◌≡◌, ℕ, ◌+◌, ◌*◌, ◌≤◌, List, [], ◌∷◌, ◌++◌, length, get_or, drop, Ok, Err, decimal, refl, ap, arith, length-append}
use Rattle.std.proofs.lemmas.Fmt.{length-decimal-le}
use Rattle.std.proofs.lemmas.List.{append_cancel_right}
use Rattle.context.specs.declared.refusals.Refusal.{Refusal}
use Rattle.context.specs.declared.refusals.Refusal.TheVariants as R
use Rattle.engine.specs.declared.instructions.Answer.{Answer}
use Rattle.engine.specs.declared.instructions.Answer.TheVariants as A
use Rattle.text.specs.Numbers.{spaced, Words}
use Rattle.text.specs.Outcomes.{LineOutcome, printed, told_of, Tells, Ends, Short}
use Rattle.text.specs.Printed.{values_of, refusal_values, word_of, printed_end}
use Rattle.text.proofs.Decimals.{spaced_same}

-- the values between a word and the end byte
same_values : (ms ns : List ℕ) → Words ms → Words ns → spaced ms ++ (10 ∷ []) ≡ spaced ns ++ (10 ∷ []) → ms ≡ ns
same_values ms ns p q e = spaced_same ms ns p q (append_cancel_right (spaced ms) (spaced ns) (10 ∷ []) e)

pub tells : Tells
tells (Ok a) (Ok b) p q e = (refl, same_values (values_of a) (values_of b) p q (ap (drop 2) e))
tells (Ok a) (Err f) p q e = let z : ◌≡◌ {A = ℕ} 111 110 = ap (λ s. get_or s 0 0) e in absurd (omega arith)
tells (Err f) (Ok a) p q e = let z : ◌≡◌ {A = ℕ} 110 111 = ap (λ s. get_or s 0 0) e in absurd (omega arith)
tells (Err f) (Err g) p q e = (refl, same_values (refusal_values f.refusal) (refusal_values g.refusal) p q (ap (drop 2) e))

pub ends : Ends
ends = (
  λ g r h s p e.
      let same : g ∷ r ∷ [] ≡ h ∷ s ∷ [] = same_values (g ∷ r ∷ []) (h ∷ s ∷ []) (p.0, (p.1.0, tt)) (p.1.1.0, (p.1.1.1.0, tt)) (ap (drop 3) e) in
      (ap (λ ns. get_or ns 0 0) same, ap (λ ns. get_or ns 1 0) same),
  λ o g r e. other o g r e,
)
  where
    other : (o : LineOutcome) (g r : ℕ) → printed o ≡ printed_end g r → ⊥
    other (Ok a) g r e = let z : ◌≡◌ {A = ℕ} 111 101 = ap (λ s. get_or s 0 0) e in omega arith
    other (Err f) g r e = let z : ◌≡◌ {A = ℕ} 110 101 = ap (λ s. get_or s 0 0) e in omega arith

-- a number has 20 digits at most
spaced_short : (ns : List ℕ) → Words ns → length (spaced ns) ≤ 21 * length ns
spaced_short [] h = omega arith
spaced_short (n ∷ ns) h =
    let digits : length (decimal n) ≤ 20 = length-decimal-le 20 n (omega arith) (omega (arith, h.0)) h.0 in
    omega (arith, length-append (decimal n) (spaced ns), spaced_short ns h.1)

few_values : (a : Answer) → length (values_of a) ≤ 5
few_values A.Done = omega arith
few_values (A.Marker word) = omega arith
few_values (A.Register image nat) = omega arith
few_values (A.Flushed bsp rnat) = omega arith
few_values (A.State state k base marker bsp) = omega arith
few_values (A.Counts w r) = omega arith

few_words : (r : Refusal) → length (word_of r) ≤ 1
few_words R.Unreadable = omega arith
few_words R.Operand = omega arith
few_words R.State = omega arith
few_words R.Register = omega arith
few_words R.Marker = omega arith
few_words R.Rotation = omega arith
few_words R.Top = omega arith
few_words R.Depth = omega arith
few_words R.TooMany = omega arith
few_words R.Entry = omega arith
few_words R.Region = omega arith
few_words R.Overlap = omega arith
few_words R.Doors = omega arith
few_words R.Mode = omega arith
few_words R.Nothing = omega arith
few_words (R.Shut fault) = omega arith
few_words R.Host = omega arith

line_short : (ns : List ℕ) → Words ns → length (spaced ns ++ (10 ∷ [])) ≤ 21 * length ns + 1
line_short ns h = omega (arith, length-append (spaced ns) (10 ∷ []), spaced_short ns h)

pub short : Short
short = (λ o h. go o h, λ g r h. omega (arith, line_short (g ∷ r ∷ []) h))
  where
    go : (o : LineOutcome) → Words (told_of o) → length (printed o) ≤ 112
    go (Ok a) h = omega (arith, few_values a, line_short (values_of a) h)
    go (Err f) h = omega (arith, few_words f.refusal, line_short (refusal_values f.refusal) h)
