use Rattle.std.proofs.Common.{rules}
use Rattle.text.proofs.Told.{ends, short, tells}
use Rattle.text.proofs.session.print_line.Goals as goal

pub returns-in_err-out : goal.returns-in_err-out
returns-in_err-out c = record { line = search rules; tells = tells; ends = ends; short = short }

pub returns-in_err-push_outcome : goal.returns-in_err-push_outcome
returns-in_err-push_outcome c = record { line = search rules; tells = tells; ends = ends; short = short }

pub returns : goal.returns
returns c = record { line = search rules; tells = tells; ends = ends; short = short }
