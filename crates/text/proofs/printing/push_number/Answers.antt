use Rattle.std.proofs.Common.{sym, arith}
use Rattle.std.proofs.lemmas.Fmt.{decimal_digit}
use Rattle.text.proofs.Appended.{appends_as}
use Rattle.text.proofs.printing.push_number.Goals as goal

pub returns-then-n-lt10 : goal.returns-then-n-lt10
returns-then-n-lt10 c = appends_as (sym (decimal_digit c.args.n (omega arith))) c.push_byte.ensures
