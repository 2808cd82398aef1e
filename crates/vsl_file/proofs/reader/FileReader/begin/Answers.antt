use Rattle.std.proofs.Common.{refl}
use Rattle.vsl_file.specs.File.{most_bytes}
use Rattle.vsl_file.proofs.ReaderStateLemmas.{began}
use Rattle.vsl_file.proofs.reader.FileReader.begin.Goals as goal

pub returns-in-Ok-Found-clause-began : goal.returns-in-Ok-Found-clause-began
unfolding most_bytes
returns-in-Ok-Found-clause-began g c = rw (← c.self.view_is) (λ taken units p.
    began c.in-Ok-Found.version _ _ _ taken units _ _ p (rw (← c.self.view_is) at c.requires) refl refl refl refl (rw c.in-Ok-Found.field-0-is at c.in-Ok-Found.ensures.took))
