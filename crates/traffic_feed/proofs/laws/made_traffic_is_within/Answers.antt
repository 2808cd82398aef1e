use Rattle.std.proofs.Common.{refl}
use Rattle.traffic_feed.proofs.FittingLemmas.{made_fits}
use Rattle.traffic_feed.proofs.MadeBounds.{made_is}
use Rattle.traffic_feed.proofs.laws.made_traffic_is_within.Goals as goal

pub returns-clause-fits : goal.returns-clause-fits
returns-clause-fits c = made_fits

pub returns-clause-few_records : goal.returns-clause-few_records
returns-clause-few_records c = λ count seed reclen seg most. (made_is count seed reclen seg _ _ most refl refl).few_records

pub returns-clause-few_words : goal.returns-clause-few_words
returns-clause-few_words c = λ count seed reclen seg most. (made_is count seed reclen seg _ _ most refl refl).few_words

pub returns-clause-few_cuts : goal.returns-clause-few_cuts
returns-clause-few_cuts c = λ count seed reclen seg most. (made_is count seed reclen seg _ _ most refl refl).few_cuts
