-- Laws of addresses: positions, words and NaT collections. Assumes nothing.
use Rattle.std.proofs.Common.{◌≡◌, ℕ, ◌+◌, ◌-◌, ◌*◌, ◌/◌, ◌%◌, ◌<◌, ◌≤◌, true, false, ap, ◌∙◌, mul-div_cancel, arith}
use Rattle.std.proofs.lemmas.Bool.{eqb-true, eqb-false, eq-eqb, ne_eqb}
use Rattle.address.specs.Addresses.{address_of, group_of, is_collection, collection_of, positions_below, capacity_of}

-- ---- addresses

pub address_increasing : (start p q : ℕ) → p < q → address_of start p < address_of start q
address_increasing start p q h = omega arith

pub address_monotone : (start p q : ℕ) → p ≤ q → address_of start p ≤ address_of start q
address_monotone start p q h = omega arith

pub address_injective : (start p q : ℕ) → address_of start p ≡ address_of start q → p ≡ q
address_injective start p q e = omega arith

pub address_at_least : (start p : ℕ) → start + p ≤ address_of start p
address_at_least start p = omega arith

pub address_zero : (start : ℕ) → address_of start 0 ≡ start
address_zero start = omega arith

-- a register's bit in its collection
pub address_bit_below : (start p : ℕ) → start % 64 ≡ 0 → address_of start p % 64 < 63
address_bit_below start p a = omega arith

pub address_bit : (start p : ℕ) → start % 64 ≡ 0 → address_of start p % 64 ≡ p % 63
address_bit start p a = omega arith

pub address_group : (start p : ℕ) → start % 64 ≡ 0 → group_of (address_of start p) ≡ group_of start + p / 63
address_group start p a = omega arith

pub address_register : (start p : ℕ) → start % 64 ≡ 0 → is_collection (address_of start p) ≡ false
address_register start p a = ne_eqb (address_of start p % 64) 63 (λ e. omega arith)

-- ---- neighbours

pub address_next : (start p : ℕ) → start % 64 ≡ 0 → is_collection (address_of start p + 1) ≡ false → address_of start (p + 1) ≡ address_of start p + 1
address_next start p a e = let n : ((address_of start p + 1) % 64 ≡ 63 → ⊥) = eqb-false ((address_of start p + 1) % 64) 63 e in omega arith

pub address_next_over : (start p : ℕ) → start % 64 ≡ 0 → is_collection (address_of start p + 1) ≡ true → address_of start (p + 1) ≡ address_of start p + 2
address_next_over start p a e = omega (arith, eqb-true ((address_of start p + 1) % 64) 63 e)

-- ---- positions

pub positions_address : (start p : ℕ) → positions_below start (address_of start p) ≡ p
positions_address start p = omega arith

pub address_positions : (start w : ℕ) → start % 64 ≡ 0 → start ≤ w → is_collection w ≡ false → address_of start (positions_below start w) ≡ w
address_positions start w a h e = let n : (w % 64 ≡ 63 → ⊥) = eqb-false (w % 64) 63 e in omega arith

pub address_positions_collection : (start w : ℕ) → start % 64 ≡ 0 → start ≤ w → is_collection w ≡ true → address_of start (positions_below start w) ≡ w + 1
address_positions_collection start w a h e = omega (arith, eqb-true (w % 64) 63 e)

pub positions_start : (start w : ℕ) → w ≤ start → positions_below start w ≡ 0
positions_start start w h = omega arith

pub positions_monotone : (start v w : ℕ) → v ≤ w → positions_below start v ≤ positions_below start w
positions_monotone start v w h = omega arith

pub positions_next : (start w : ℕ) → start % 64 ≡ 0 → start ≤ w → is_collection w ≡ false → positions_below start (w + 1) ≡ positions_below start w + 1
positions_next start w a h e = let n : (w % 64 ≡ 63 → ⊥) = eqb-false (w % 64) 63 e in omega arith

pub positions_next_collection : (start w : ℕ) → start % 64 ≡ 0 → start ≤ w → is_collection w ≡ true → positions_below start (w + 1) ≡ positions_below start w
positions_next_collection start w a h e = omega (arith, eqb-true (w % 64) 63 e)

-- by groups: each has 63 positions
pub positions_group : (start w : ℕ) → start % 64 ≡ 0 → start ≤ w → positions_below start w ≡ (group_of w - group_of start) * 63 + w % 64
positions_group start w a h = omega arith

-- exactly the first positions_below start w positions have their words below w
pub positions_before : (start w p : ℕ) → p < positions_below start w → address_of start p < w
positions_before start w p h = omega arith

pub positions_from : (start w p : ℕ) → positions_below start w ≤ p → w ≤ address_of start p
positions_from start w p h = omega arith

-- ---- regions

pub capacity_whole : (size : ℕ) → size % 64 ≡ 0 → capacity_of size ≡ 63 * (size / 64)
capacity_whole size b =
    let e : 63 * size ≡ 63 * (size / 64) * 64 = omega arith in
    ap (λ n. n / 64) e ∙ mul-div_cancel (63 * (size / 64)) (omega arith)

-- the first position that a region does not hold would stand just past it
pub capacity_address : (start size : ℕ) → size % 64 ≡ 0 → address_of start (capacity_of size) ≡ start + size
capacity_address start size b = omega (arith, capacity_whole size b)

pub capacity_positions : (start size : ℕ) → size % 64 ≡ 0 → positions_below start (start + size) ≡ capacity_of size
capacity_positions start size b = omega (arith, capacity_whole size b)

pub capacity_holds : (start size p : ℕ) → size % 64 ≡ 0 → p < capacity_of size → address_of start p < start + size
capacity_holds start size p b h = omega (arith, capacity_whole size b)

pub capacity_full : (start size p : ℕ) → size % 64 ≡ 0 → address_of start p < start + size → p < capacity_of size
capacity_full start size p b h = omega (arith, capacity_whole size b)

-- ---- the registers of the words from v up to the address of p

pub among_within : (start p v q : ℕ) → positions_below start v ≤ q → q < p → (v ≤ address_of start q) × (address_of start q < address_of start p)
among_within start p v q l h = (omega arith, omega arith)

pub among_all : (start p v q : ℕ) → v ≤ address_of start q → address_of start q < address_of start p → (positions_below start v ≤ q) × (q < p)
among_all start p v q l h = (omega arith, omega arith)

-- ---- groups

pub group_collection : (w : ℕ) → group_of (collection_of w) ≡ group_of w
group_collection w = omega arith

pub collection_is : (w : ℕ) → is_collection (collection_of w) ≡ true
collection_is w = eq-eqb (collection_of w % 64) 63 (omega arith)

pub collection_last : (w v : ℕ) → group_of v ≡ group_of w → v ≤ collection_of w
collection_last w v e = omega arith

pub collection_own : (w : ℕ) → is_collection w ≡ true → collection_of w ≡ w
collection_own w e = omega (arith, eqb-true (w % 64) 63 e)

pub collection_same : (v w : ℕ) → group_of v ≡ group_of w → collection_of v ≡ collection_of w
collection_same v w e = omega arith
