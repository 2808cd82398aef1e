use Rattle.vsl_file.proofs.ReaderStateLemmas.{kept_at_hand}
use Rattle.vsl_file.proofs.reader.FileReader.next.Goals as goal

pub returns-clause-at_hand : goal.returns-clause-at_hand
returns-clause-at_hand g c = λ taken units p hand.
    kept_at_hand c.step-step.result c.args.self.now _ _ taken units _ c.is_err-self-inside.ensures.value (rw (← c.self-2.view_is) at (c.step-step.ensures.at_hand taken units p hand))
