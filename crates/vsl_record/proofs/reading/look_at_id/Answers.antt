use Rattle.std.proofs.Common.{◌≡◌, ◌∙◌, ◌+◌, ◌*◌, ℕ, List, false, ltb, Some, refl, ap, sym, arith}
use Rattle.std.proofs.lemmas.Bool.{le-ltb}
use Rattle.vsl_words.specs.Versions.{id_in, vxid_end_of}
use Rattle.vsl_words.specs.Words.{words_in}
use Rattle.vsl_words.proofs.WordLemmas.{words_in-small}
use Rattle.vsl_record.specs.declared.fault.WordFault.TheVariants.{Mixed}
use Rattle.vsl_record.proofs.MixedLemmas.{mixed_first, mixed_same}
use Rattle.vsl_record.specs.inside.UnitReading.{differing}
use Rattle.vsl_record.proofs.reading.look_at_id.Goals as goal

pub returns-then-here-id-clause-refused : goal.returns-then-here-id-clause-refused
returns-then-here-id-clause-refused c = λ next.
    let words : List ℕ = words_in c.args.bytes.now in
    let is : id_in c.args.version words ≡ c.id_in-here.result = c.id_in-here.ensures in
    let place : differing c.args.version c.args.id (id_in c.args.version words) ≡ c.differing.result = ap (differing c.args.version c.args.id) is ∙ sym c.differing.ensures in
    mixed_first c.args.version c.args.id (c.args.at + 1) words _ (words_in-small c.args.bytes.now c.are_bytes.ensures) c.requires.enough (λ e. c.if-here-id.true (sym is ∙ e))
    ∙ ap (λ (k : ℕ). Some (Mixed (c.args.at + 1 + k))) place

pub returns-then-id-vxid_end-clause-refused : goal.returns-then-id-vxid_end-clause-refused
returns-then-id-vxid_end-clause-refused c = λ next.
    let words : List ℕ = words_in c.args.bytes.now in
    let same : id_in c.args.version words ≡ c.args.id = c.id_in-here.ensures ∙ c.if-here-id.false in
    let large : ltb c.args.id (vxid_end_of c.args.version * 3) ≡ false = le-ltb _ _ (omega (arith, c.if-id-vxid_end.true, c.vxid_end.ensures)) in
    mixed_same c.args.version c.args.id (c.args.at + 1) words _ (words_in-small c.args.bytes.now c.are_bytes.ensures) c.requires.enough same
    ∙ rw (large, c.id_size.ensures) refl
