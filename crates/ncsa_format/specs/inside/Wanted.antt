-- What of a payload is wanted.
use Rattle.vsl_decimal.specs.Prefix.{value_after}
use Rattle.ncsa_format.specs.Value.{Part, whole, handling_of, part_with}
use Rattle.ncsa_format.specs.declared.wanted.Wanted.{Wanted}
use Rattle.ncsa_format.specs.declared.wanted.Wanted.TheVariants as wanted

-- as the definitions of values have it
abbrev pub part_of : Wanted → Part
part_of wanted.Whole = whole
part_of (wanted.After prefix) = value_after prefix.now
part_of wanted.Handling = handling_of
part_of (wanted.Part prefix field) = part_with prefix.now field
