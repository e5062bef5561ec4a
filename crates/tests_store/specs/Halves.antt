-- Words kept as two halves of 32 bits.
use Rattle.std.specs.Prelude.{◌≡◌, ℕ, ◌+◌, ◌*◌, ◌/◌, ◌^◌, ◌<◌, true, List, map, length, replicate, vec_items, Vec}
use Rattle.std.proofs.Common.{arith}
use Rattle.std.proofs.lemmas.List.{length-map, length-replicate}
use Rattle.std.specs.declared.alloc.Global.{Global}
use Rattle.store.specs.Meaning.{Meaning}
use Rattle.store.specs.Frames.{flat_of}
use Rattle.tests_store.specs.declared.halves.Halves.{Halves}

-- the word of two halves
abbrev pub word_of : Halves → ℕ
word_of h = h.high * 4294967296 + h.low

-- the store of such words; its doors do not move
abbrev pub halved_of : List Halves → Meaning
halved_of hs = flat_of (map word_of hs)

-- a Vec has fewer items than 2 ^ 64
pub halves_bounded : (hs : Vec Halves Global) → length (map word_of (vec_items hs)) < 2 ^ 64
halves_bounded hs = omega (arith, length-map (vec_items hs) word_of, hs.ok.0, hs.ok.1, hs.small)

-- one flag for each page
pub halves_flagged : (hs : List Halves)
    → length (replicate (length (map word_of hs) / 64) true) ≡ length (map word_of hs) / 64
halves_flagged hs = length-replicate (length (map word_of hs) / 64) true
