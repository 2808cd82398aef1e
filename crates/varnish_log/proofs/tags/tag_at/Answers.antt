use Rattle.std.proofs.Common.{ℕ, get_or, ap, arith}
use Rattle.varnish_log.proofs.TagLemmas.{answered, none_behind, own_numbers}
use Rattle.varnish_log.proofs.tags.tag_at.Goals as goal

pub returns : goal.returns
returns c =
    answered c.args.form c.args.number _ c.from_number.result (ap (λ (n : ℕ). get_or own_numbers n 0) c.place_of-place.ensures) c.from_number.ensures.number c.from_number.ensures.accepted c.from_number.ensures.refused

pub returns-then-place-ge97 : goal.returns-then-place-ge97
returns-then-place-ge97 c = none_behind c.args.form c.args.number (omega (arith, c.place_of-place.ensures))
