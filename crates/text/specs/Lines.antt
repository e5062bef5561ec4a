-- The lines of an input: byte 10 ends a line, and the last may lack it. Assumes nothing.
use Rattle.std.specs.Prelude.{◌≡◌, ℕ, if◌then◌else◌, ◌⊎◌, List, [], ◌∷◌, ◌++◌, count_by, ◌==◌, ◌≢◌}
use Rattle.std.specs.List.{AllByRecursion}

-- a byte before the first line of those that follow
abbrev pub before : ℕ → List (List ℕ) → List (List ℕ)
before b [] = (b ∷ []) ∷ []
before b (l ∷ ls) = (b ∷ l) ∷ ls

-- the lines, without their end bytes
abbrev pub lines_of : List ℕ → List (List ℕ)
lines_of [] = []
lines_of (b ∷ bs) = if b == 10 then [] ∷ lines_of bs else before b (lines_of bs)

-- the lines, each with its end byte
abbrev pub ended : List (List ℕ) → List ℕ
ended [] = []
ended (l ∷ ls) = l ++ (10 ∷ ended ls)

-- an input with the end byte that its last line may lack
abbrev pub closed : List ℕ → List ℕ
closed [] = []
closed (b ∷ []) = if b == 10 then b ∷ [] else b ∷ 10 ∷ []
closed (b ∷ c ∷ bs) = b ∷ closed (c ∷ bs)

-- how many end bytes there are
abbrev pub end_bytes : List ℕ → ℕ
end_bytes s = count_by (λ b. b == 10) s

-- no end byte
abbrev pub OneLine : List ℕ → Type 0
OneLine l = AllByRecursion (λ b. b ≢ 10) l

-- l is the first line of s, and t what follows its end byte
abbrev pub FirstLine : List ℕ → List ℕ → List ℕ → Type 0
FirstLine s l t = OneLine l × ((s ≡ l ++ (10 ∷ t)) ⊎ ((s ≡ l) × (t ≡ [])))

-- the lines of s, joined by end bytes, are s again
abbrev pub Rejoined : List ℕ → Type 0
Rejoined s = (ended (lines_of s) ≡ closed s) × AllByRecursion OneLine (lines_of s)
