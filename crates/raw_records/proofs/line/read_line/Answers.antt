use Rattle.raw_records.proofs.LineLemmas.{line_read, line_in_range, line_why, line_refused}
use Rattle.raw_records.proofs.line.read_line.Goals as goal

pub returns-clause-read : goal.returns-clause-read
returns-clause-read c = line_read c.args.text.now c.meaning.result c.meaning.ensures

pub returns-clause-range : goal.returns-clause-range
returns-clause-range c = line_in_range c.args.text.now c.meaning.result c.meaning.ensures

pub returns-clause-why : goal.returns-clause-why
returns-clause-why c = line_why c.args.text.now c.meaning.result c.meaning.ensures

pub returns-clause-refused : goal.returns-clause-refused
returns-clause-refused c = line_refused c.args.text.now c.meaning.result c.meaning.ensures
