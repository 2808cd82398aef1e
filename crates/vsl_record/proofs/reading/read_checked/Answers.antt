use Rattle.std.proofs.Common.{◌≡◌, ◌∙◌, ap, sym, List, ℕ, ◌++◌, drop, arith}
use Rattle.std.proofs.lemmas.Result.{err_from_is_err_and}
use Rattle.vsl_words.specs.Versions.{id_in}
use Rattle.vsl_words.specs.Words.{words_in}
use Rattle.vsl_words.proofs.WordLemmas.{words_in-drop}
use Rattle.vsl_record.proofs.UnitReadingLemmas.{bad_read, unit_read}
use Rattle.vsl_record.proofs.FitsLemmas.{fits_unit, kept_whole}
use Rattle.vsl_record.proofs.reading.read_checked.Goals as goal

pub returns-in_err-entries-clause-refused : goal.returns-in_err-entries-clause-refused
returns-in_err-entries-clause-refused c =
    let p = err_from_is_err_and c.from_residual.result c.from_residual.ensures.1 in
    let words : List ℕ = words_in c.args.bytes.now in
    let id : c.id_in-id.result ≡ id_in c.args.version (drop 2 words) = sym (rw c.split_at.ensures.back at c.id_in-id.ensures) ∙ ap (id_in c.args.version) (words_in-drop 2 c.args.bytes.now) in
    rw (p.1, p.2) (λ other. bad_read c.args.version words (_) c.requires.headed (rw id at (c.in_err-entries.ensures.refused other)))

pub from_parts-requires-clause-unit : goal.from_parts-requires-clause-unit
from_parts-requires-clause-unit c =
    let words : List ℕ = words_in c.args.bytes.now in
    rw (c.vxid_end.ensures, c.of_id.ensures, c.in_ok-extend_from_slice.ensures.items, c.clear.ensures.items) (fits_unit c.args.version _ (unit_read c.args.version words c.id_in-id.result _ c.requires.headed c.in_ok-entries.ensures.read).0)

pub from_parts-requires-clause-body : goal.from_parts-requires-clause-body
from_parts-requires-clause-body c =
    kept_whole c.args.version c.id_in-id.result _ c.of_id.result c.args.bytes.now _ _ c.vxid_end.ensures (c.in_ok-extend_from_slice.ensures.items ∙ ap (λ (x : List ℕ). x ++ c.args.bytes.now) c.clear.ensures.items)
    (λ i. omega (arith, c.type_inv.bytes i)) c.requires.whole c.requires.headed c.in_ok-entries.ensures.read c.in_ok-entries.ensures.entries
