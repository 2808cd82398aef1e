use Rattle.vsl_decimal.proofs.PrefixFunctions.{IsValueAfter-of, value_after-is, no_prefix}
use Rattle.vsl_decimal.proofs.laws.values_follow_prefixes.Goals as goal

pub returns : goal.returns
returns c = record { follows = IsValueAfter-of; every = value_after-is; none = no_prefix }
