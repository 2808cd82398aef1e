-- A file of another name is passed.
use Rattle.std.proofs.Common.{arith, ap, sym, ◌∙◌, ◌≡◌, ◌<◌, false, length, get_or, take, bytes_eq}
use Rattle.std.proofs.lemmas.List.{take_more}
use Rattle.vio.proofs.FileLemmas.{held_in-push}
use Rattle.vio.proofs.file.find_place.Goals as goal

pub loop-place-preserved : goal.loop-place-preserved
loop-place-preserved c =
    let file = c.index-files-place.result in
    let last : get_or c.args.files.now c.loop-place.place file ≡ file = sym c.index-files-place.is in
    let within : c.loop-place.place < length c.args.files.now = omega (arith, c.loop-place-test.true) in
    let other : bytes_eq file.name.items c.args.name.now ≡ false = ap (λ name. bytes_eq name c.args.name.now) (sym c.as_slice.ensures.value) ∙ sym c.eq.ensures ∙ c.if-eq.false in
    rw (take_more c.args.files.now c.loop-place.place file within, last) (held_in-push (take c.loop-place.place c.args.files.now) file c.args.name.now c.loop-place.invariant other)
