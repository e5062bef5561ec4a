-- What a write to one place makes of the words.
use Rattle.std.proofs.lemmas.Grind.{common_steps}
use Rattle.std.proofs.lemmas.List.{map-set, length-map}

pub ruleset one_word = (common_steps, map-set, length-map)
