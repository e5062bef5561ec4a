-- What a backing store means: its words, one open flag for each page of 64 words, and whether its doors move.
use Rattle.std.specs.Prelude.{ℕ, Bool, List}

pub record Meaning : Type 0 where
  pub words : List ℕ
  pub flags : List Bool
  pub moving : Bool
