-- Numbers as a line writes them. Assumes nothing.
use Rattle.std.specs.Prelude.{◌≡◌, ℕ, ◌^◌, ◌<◌, Bool, true, false, not, ◌&&◌, List, [], ◌∷◌, ◌++◌, drop, Some, None, decimal, Option, ◌==◌, nat_lt}
use Rattle.std.specs.Borrow.{Bor}
use Rattle.std.specs.Char.{is_ascii_digit}
use Rattle.std.specs.List.{AllByRecursion, flat_map, prefix_len, take_while}
use Rattle.std.specs.Str.Parse.{digits_value}

-- for each number a space and its decimal digits
abbrev pub spaced : List ℕ → List ℕ
spaced ns = flat_map (λ n. 32 ∷ decimal n) ns

-- each is below 2 ^ 64
abbrev pub Words : List ℕ → Type 0
Words ns = AllByRecursion (λ n. n < 2 ^ 64) ns

abbrev pub begins_with_digit : List ℕ → Bool
begins_with_digit [] = false
begins_with_digit (b ∷ bs) = is_ascii_digit b

-- the digits that a text begins with
abbrev pub first_digits : List ℕ → List ℕ
first_digits s = take_while is_ascii_digit s

-- what they come to
abbrev pub worth : List ℕ → ℕ
worth s = digits_value 10 (first_digits s)

-- what follows them
abbrev pub after_digits : List ℕ → List ℕ
after_digits s = drop (prefix_len is_ascii_digit s) s

-- a digit comes first, and no 0 before another digit
abbrev pub begins_well : List ℕ → Bool
begins_well [] = false
begins_well (b ∷ bs) = is_ascii_digit b && not (b == 48 && begins_with_digit bs)

-- a number below 2 ^ 64 without leading zeros comes first
abbrev pub readable : List ℕ → Bool
readable s = begins_well s && nat_lt (worth s) (2 ^ 64)

-- the answer is the number that s begins with and what follows it, or none
abbrev pub NumberOf : List ℕ → Option (ℕ × Bor (List ℕ)) → Type 0
NumberOf s (Some p) = (readable s ≡ true) × (p.0 ≡ worth s) × (p.1.now ≡ after_digits s)
NumberOf s None = readable s ≡ false

-- s is a space, the digits of n, and t, which begins with no digit
abbrev pub Takes : List ℕ → ℕ → List ℕ → Type 0
Takes s n t = (s ≡ 32 ∷ (decimal n ++ t)) × (begins_with_digit t ≡ false)

-- the answer is the operand that s begins with and what follows it, or s begins with none
abbrev pub OperandOf : List ℕ → Option (ℕ × Bor (List ℕ)) → Type 0
OperandOf s (Some p) = Takes s p.0 p.1.now
OperandOf s None = (n : ℕ) (t : List ℕ) → n < 2 ^ 64 → Takes s n t → ⊥
