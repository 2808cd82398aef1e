-- The file at the place of the name has its bytes.
use Rattle.std.proofs.Common.{ap, sym, ◌∙◌, Some}
use Rattle.vio.proofs.FileLemmas.{held_in-place}
use Rattle.vio.proofs.file.find_bytes.Goals as goal

pub returns : goal.returns
returns c = held_in-place c.args.files.now c.in_ok-place.place c.args.name.now c.index-files-place.result c.in_ok-place.ensures ∙ ap Some (sym c.as_slice.ensures.value)
