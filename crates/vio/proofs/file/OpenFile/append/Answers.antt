-- Of all files only the one of the name changes.
use Rattle.vio.proofs.FileLemmas.{holds_more, holds_same}
use Rattle.vio.proofs.WholeLemmas.{OnErr-always}
use Rattle.vio.proofs.file.OpenFile.append.Goals as goal

pub returns-in_err-append_to_both-in-Some-clause-held : goal.returns-in_err-append_to_both-in-Some-clause-held
returns-in_err-append_to_both-in-Some-clause-held c =
    let place = rw c.deref.ensures.value at c.in-Some.ensures in
    OnErr-always c.from_residual.result (holds_same c.args.files.now c.in-Some.place c.args.self.now.name.items c.index-files-place.result _ place (place.named _) c.in_err-append_to_both-in-Some.ensures.err.1)

pub returns-in_ok-append_to_both-in-Some-clause-file : goal.returns-in_ok-append_to_both-in-Some-clause-file
returns-in_ok-append_to_both-in-Some-clause-file c =
    let place = rw c.deref.ensures.value at c.in-Some.ensures in
    holds_more c.args.files.now c.in-Some.place c.args.self.now.name.items c.args.piece.now c.index-files-place.result _ place (place.named _) c.in_ok-append_to_both-in-Some.ensures.second
