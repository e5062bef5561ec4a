use Rattle.text.proofs.Ends.{rejoins}
use Rattle.text.proofs.lines.first_line.Goals as goal

pub returns-in-Some-clause-rejoined : goal.returns-in-Some-clause-rejoined
returns-in-Some-clause-rejoined c = rejoins c.args.input.now

pub returns-in-None-clause-rejoined : goal.returns-in-None-clause-rejoined
returns-in-None-clause-rejoined c = rejoins c.args.input.now
