-- Facts about what a text's digits come to. Assumes nothing.
use Rattle.std.proofs.Common.{◌≡◌, ℕ, ◌+◌, ◌-◌, ◌*◌, ◌^◌, ◌<◌, ◌≤◌, Bool, true, false, cond, not, ◌&&◌, eqb, ltb, List, [], ◌∷◌, ◌++◌, length, get_or, take, drop, decimal, one-add, sym, refl, ap, ◌∙◌, subst, ⊎_elim, arith}
use Rattle.std.proofs.lemmas.Fmt.{decimal_digit, decimal_nonempty, decimal-digits_value, digits_decimal, first_decimal, digits_value-decimal}
use Rattle.std.proofs.lemmas.List.{nil_from_length, take-append-drop, take_all}
use Rattle.std.proofs.lemmas.Str.Parse.{IsNumeralModel, numerals_by_value, tells_all_ascii_digits}
use Rattle.std.proofs.lemmas.List.Sums.{take_while-cons}
use Rattle.std.proofs.lemmas.Bool.{and_parts, and_from, and_left, and_right, cases_eq, cases_lt, eq-eqb, ne_eqb, lt-ltb, ltb-true, not_from_false}
use Rattle.std.proofs.lemmas.Bool.Decides.{nat_tests}
use Rattle.std.specs.Char.{is_ascii_digit, digit_value}
use Rattle.std.specs.List.{prefix_len}
use Rattle.std.specs.Str.{all_ascii_digits}
use Rattle.std.specs.Str.Parse.{digits_value, digits_value_after}
use Rattle.text.specs.Numbers.{worth, first_digits, after_digits, begins_with_digit, begins_well, readable, spaced, Takes, Words}

own : IsNumeralModel (λ ds. all_ascii_digits ds ≡ true) (digits_value 10)
own = numerals_by_value _ tells_all_ascii_digits

-- one byte more before a text
after_cons : (b : ℕ) (bs : List ℕ) → after_digits (b ∷ bs) ≡ cond (is_ascii_digit b) (after_digits bs) (b ∷ bs)
after_cons b bs = elim (is_ascii_digit b) as (λ v. drop (cond v (1 + prefix_len is_ascii_digit bs) 0) (b ∷ bs) ≡ cond v (after_digits bs) (b ∷ bs)) [ true ↦ rw one-add refl | false ↦ refl ]

-- digits, and then no digit
digits_alone : (t : List ℕ) → begins_with_digit t ≡ false → (first_digits t ≡ []) × (after_digits t ≡ t)
digits_alone [] stop = (refl, refl)
digits_alone (c ∷ cs) stop = (take_while-cons is_ascii_digit c cs ∙ ap (λ v. cond v (c ∷ first_digits cs) []) stop, after_cons c cs ∙ ap (λ v. cond v (after_digits cs) (c ∷ cs)) stop)

digits_split : (ds t : List ℕ) → all_ascii_digits ds ≡ true → begins_with_digit t ≡ false → (first_digits (ds ++ t) ≡ ds) × (after_digits (ds ++ t) ≡ t)
digits_split [] t h stop = digits_alone t stop
digits_split (c ∷ cs) t h stop =
    let e = and_parts (is_ascii_digit c) (all_ascii_digits cs) h in
    let k = digits_split cs t e.1 stop in (
      take_while-cons is_ascii_digit c (cs ++ t) ∙ ap (λ v. cond v (c ∷ first_digits (cs ++ t)) []) e.0 ∙ ap (λ x. c ∷ x) k.0,
      after_cons c (cs ++ t) ∙ ap (λ v. cond v (after_digits (cs ++ t)) (c ∷ (cs ++ t))) e.0 ∙ k.1,
    )

-- ---- one digit after another

pub begins : (s : List ℕ) → 0 < length s → 48 ≤ get_or s 0 0 → get_or s 0 0 < 58 → begins_with_digit s ≡ true
begins [] h lo hi = let z : ⊥ = omega arith in absurd z
begins (b ∷ bs) h lo hi = grind (arith, nat_tests)

pub begins_not : (s : List ℕ) → (0 < length s → 48 ≤ get_or s 0 0 → get_or s 0 0 < 58 → ⊥) → begins_with_digit s ≡ false
begins_not [] no_digit = refl
begins_not (b ∷ bs) no_digit = grind (arith, nat_tests)

-- what the digits that a text begins with come to, after digits that come to n
abbrev pub worth_after : ℕ → List ℕ → ℕ
worth_after n s = digits_value_after 10 n (first_digits s)

digit_is : (b : ℕ) → is_ascii_digit b ≡ true → digit_value b ≡ b - 48
digit_is b h = grind (arith, nat_tests)

-- one digit on: what is left is as code cuts it off
pub worth_step : (n : ℕ) (s : List ℕ) → begins_with_digit s ≡ true → worth_after n s ≡ worth_after (n * 10 + (get_or s 0 0 - 48)) (take (length s - 1) (drop 1 s))
worth_step n [] h = cc
worth_step n (b ∷ bs) h =
    ap (digits_value_after 10 n) (take_while-cons is_ascii_digit b bs ∙ ap (λ v. cond v (b ∷ first_digits bs) []) h)
    ∙ ap (λ d. digits_value_after 10 (n * 10 + d) (first_digits bs)) (digit_is b h)
    ∙ ap (worth_after (n * 10 + (b - 48))) (sym (take_all (length (b ∷ bs) - 1) bs (omega arith)))

pub after_step : (s : List ℕ) → begins_with_digit s ≡ true → after_digits s ≡ after_digits (take (length s - 1) (drop 1 s))
after_step [] h = cc
after_step (b ∷ bs) h = after_cons b bs ∙ ap (λ t. cond t (after_digits bs) (b ∷ bs)) h ∙ ap after_digits (sym (take_all (length (b ∷ bs) - 1) bs (omega arith)))

pub worth_stop : (n : ℕ) (s : List ℕ) → begins_with_digit s ≡ false → worth_after n s ≡ n
worth_stop n s h = ap (digits_value_after 10 n) (digits_alone s h).0

pub after_stop : (s : List ℕ) → begins_with_digit s ≡ false → after_digits s ≡ s
after_stop s h = (digits_alone s h).1

value_grows : (n : ℕ) (ds : List ℕ) → n ≤ digits_value_after 10 n ds
value_grows n [] = omega arith
value_grows n (d ∷ ds) = omega (arith, value_grows (n * 10 + digit_value d) ds)

pub worth_grows : (n : ℕ) (s : List ℕ) → n ≤ worth_after n s
worth_grows n s = value_grows n (first_digits s)

first_digits_all : (s : List ℕ) → all_ascii_digits (first_digits s) ≡ true
first_digits_all [] = refl
first_digits_all (b ∷ bs) = rw take_while-cons (go (is_ascii_digit b) refl (first_digits_all bs))
  where
    go : (v : Bool) → is_ascii_digit b ≡ v → all_ascii_digits (first_digits bs) ≡ true → all_ascii_digits (cond v (b ∷ first_digits bs) []) ≡ true
    go true e h = and_from (is_ascii_digit b) (all_ascii_digits (first_digits bs)) e h
    go false e h = refl

pub after_stops : (s : List ℕ) → begins_with_digit (after_digits s) ≡ false
after_stops [] = refl
after_stops (b ∷ bs) = rw after_cons (go (is_ascii_digit b) refl (after_stops bs))
  where
    go : (v : Bool) → is_ascii_digit b ≡ v → begins_with_digit (after_digits bs) ≡ false → begins_with_digit (cond v (after_digits bs) (b ∷ bs)) ≡ false
    go true e h = h
    go false e h = e

-- a text that begins well begins with digits, and with no leading zero
first_digits_well : (s : List ℕ) → begins_well s ≡ true → (0 < length (first_digits s)) × (get_or (first_digits s) 0 0 ≡ 48 → length (first_digits s) ≡ 1)
first_digits_well [] h = let z : ◌≡◌ {A = ℕ} 0 1 = cc in absurd (omega arith)
first_digits_well (b ∷ bs) h =
    let e = and_parts (is_ascii_digit b) (not (eqb b 48 && begins_with_digit bs)) h in
    let f : first_digits (b ∷ bs) ≡ b ∷ first_digits bs = take_while-cons is_ascii_digit b bs ∙ ap (λ v. cond v (b ∷ first_digits bs) []) e.0 in
    let alone : b ≡ 48 → begins_with_digit bs ≡ false = λ q. alone-from (eqb b 48) (begins_with_digit bs) (eq-eqb b 48 q) e.1 in
    subst (λ (xs : List ℕ). (0 < length xs) × (get_or xs 0 0 ≡ 48 → length xs ≡ 1)) (sym f)
    (omega arith, λ q. ap (λ xs. length (b ∷ xs)) (digits_alone bs (alone q)).0)
  where
    alone-from : (x y : Bool) → x ≡ true → not (x && y) ≡ true → y ≡ false
    alone-from x y p q = grind arith

-- a readable text begins with what `{n}` writes of the number
pub numeral_first : (s : List ℕ) → readable s ≡ true → s ≡ decimal (worth s) ++ after_digits s
numeral_first s h =
    let e = and_parts (begins_well s) (ltb (worth s) (2 ^ 64)) h in
    let w = first_digits_well s e.0 in
    let d : decimal (worth s) ≡ first_digits s = decimal-digits_value own (first_digits s) (first_digits_all s) w.0 w.1 (ltb-true _ _ e.1) in
    sym (take-append-drop (prefix_len is_ascii_digit s) s) ∙ ap (λ ds. ds ++ after_digits s) (sym d)

zero_alone : (n : ℕ) → n < 2 ^ 64 → get_or (decimal n) 0 0 ≡ 48 → length (decimal n) ≡ 1
zero_alone n small h = ⊎_elim (λ pos. absurd (omega (arith, first_decimal n pos small))) (λ nil. ap length (decimal_digit n (omega arith))) (cases_lt 0 n)

well_append : (ds t : List ℕ) → all_ascii_digits ds ≡ true → 0 < length ds → (get_or ds 0 0 ≡ 48 → length ds ≡ 1) → begins_with_digit t ≡ false → begins_well (ds ++ t) ≡ true
well_append [] t h some alone stop = absurd (omega arith)
well_append (c ∷ cs) t h some alone stop =
    let e = and_parts (is_ascii_digit c) (all_ascii_digits cs) h in
    let zero : c ≡ 48 → begins_with_digit (cs ++ t) ≡ false = λ q. ap (λ xs. begins_with_digit (xs ++ t)) (nil_from_length cs (omega (arith, alone q))) ∙ stop in
    and_from _ _ e.0 (⊎_elim
    (λ q. not_from_false _ (and_right (eqb c 48) (begins_with_digit (cs ++ t)) (zero q)))
    (λ q. not_from_false _ (and_left (eqb c 48) (begins_with_digit (cs ++ t)) (ne_eqb c 48 q)))
    (cases_eq c 48))

-- what `{n}` writes, and then no digit, is readable, and read as n
pub numeral_only : (n : ℕ) (t : List ℕ) → n < 2 ^ 64 → begins_with_digit t ≡ false
    → (readable (decimal n ++ t) ≡ true) × (worth (decimal n ++ t) ≡ n) × (after_digits (decimal n ++ t) ≡ t)
numeral_only n t small stop =
    let ds = digits_decimal own n small in
    let split = digits_split (decimal n) t ds stop in
    let v : worth (decimal n ++ t) ≡ n = ap (digits_value 10) split.0 ∙ digits_value-decimal own n small in
    (and_from _ _ (well_append (decimal n) t ds (decimal_nonempty n small) (zero_alone n small) stop) (lt-ltb _ _ (omega (arith, v))), v, split.1)

-- a text begins with one operand at most
pub operand_only : (s : List ℕ) (m n : ℕ) (t u : List ℕ) → m < 2 ^ 64 → n < 2 ^ 64 → Takes s m t → Takes s n u → (m ≡ n) × (t ≡ u)
operand_only s m n t u p q h k =
    let e : decimal m ++ t ≡ decimal n ++ u = ap (drop 1) (sym h.0 ∙ k.0) in
    let a = numeral_only m t p h.1 in
    let b = numeral_only n u q k.1 in
    (sym a.1 ∙ ap worth e ∙ b.1, sym a.2 ∙ ap after_digits e ∙ b.2)

pub spaced_stops : (ns : List ℕ) → begins_with_digit (spaced ns) ≡ false
spaced_stops [] = refl
spaced_stops (n ∷ ns) = refl

-- spaced numbers are read in one way
pub spaced_same : (ms ns : List ℕ) → Words ms → Words ns → spaced ms ≡ spaced ns → ms ≡ ns
spaced_same [] [] p q e = refl
spaced_same [] (n ∷ ns) p q e = let z : ◌≡◌ {A = ℕ} 0 1 = cc in absurd (omega arith)
spaced_same (m ∷ ms) [] p q e = let z : ◌≡◌ {A = ℕ} 0 1 = cc in absurd (omega arith)
spaced_same (m ∷ ms) (n ∷ ns) p q e =
    let both = operand_only (spaced (m ∷ ms)) m n (spaced ms) (spaced ns) p.0 q.0 (refl, spaced_stops ms) (e, spaced_stops ns) in
    let more : ms ≡ ns = spaced_same ms ns p.1 q.1 both.1 in
    cc (both.0, more)
