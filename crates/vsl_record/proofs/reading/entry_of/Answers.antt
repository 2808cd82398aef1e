use Rattle.vsl_record.proofs.BlockLemmas.{placed_in}
use Rattle.vsl_record.proofs.reading.entry_of.Goals as goal

pub returns-clause-record : goal.returns-clause-record
returns-clause-record c = rw (c.tag.ensures, c.mark.ensures, c.payload.ensures.bytes, c.id_size.ensures) (placed_in _ _ _ c.args.rec.now.payload c.args.rec.now.tag c.args.rec.now.mark c.requires.left c.requires.fewer c.requires.there)
