-- Counts of what came, and of what was left out or cut (this project's choice).
use Rattle.std.specs.Prelude.{ℕ, ◌+◌, ◌-◌, ◌^◌, min}
use Rattle.varnish_log.specs.declared.loss.Counts.{Counts}
use Rattle.varnish_log.specs.declared.loss.Loss.{Loss}
use Rattle.varnish_log.specs.declared.loss.Loss.TheVariants.{UnknownTag, LongPayload, OtherVxid, OtherGrouping, OtherForm}

-- a count with one more; at 2^64 - 1 it stands still
abbrev pub one_more : ℕ → ℕ
one_more n = min (n + 1) (2 ^ 64 - 1)

-- nothing was counted
abbrev pub none_counted : Counts
none_counted = record {
  parts = 0;
  unknown_tags = 0;
  long_payloads = 0;
  other_vxids = 0;
  other_groupings = 0;
  other_forms = 0;
}

-- how often this was left out or cut
abbrev pub count_of : Loss → Counts → ℕ
count_of UnknownTag counts = counts.unknown_tags
count_of LongPayload counts = counts.long_payloads
count_of OtherVxid counts = counts.other_vxids
count_of OtherGrouping counts = counts.other_groupings
count_of OtherForm counts = counts.other_forms

-- with a part more
abbrev pub with_part : Counts → Counts
with_part counts = record counts { parts = one_more counts.parts }

-- with this left out or cut once more
abbrev pub with_loss : Loss → Counts → Counts
with_loss UnknownTag counts = record counts { unknown_tags = one_more counts.unknown_tags }
with_loss LongPayload counts = record counts { long_payloads = one_more counts.long_payloads }
with_loss OtherVxid counts = record counts { other_vxids = one_more counts.other_vxids }
with_loss OtherGrouping counts = record counts { other_groupings = one_more counts.other_groupings }
with_loss OtherForm counts = record counts { other_forms = one_more counts.other_forms }
