use Rattle.vsl_dispatch.proofs.StandsLemmas.{ended_finished, ended_stays, finished_same, handed_same, offered_same, stands_handed, stands_offered, stands_text}
use Rattle.vsl_dispatch.proofs.laws.each_receives_its_groups.Goals as goal

pub returns : goal.returns
returns g c = record {
  given = λ group holds old new groups taken handed stands. stands_handed _ _ _ group holds old new groups taken (handed_same _ _ _ group holds old new handed) handed stands;
  offered = λ u took old new groups taken offered stands. stands_offered _ _ _ u took old new groups taken (offered_same _ _ _ u took old new offered) offered stands;
  taken = λ text ended old new groups taken took stands. stands_text _ _ _ text ended old new groups taken took stands;
  finished = λ old new groups taken finished stands. ended_finished _ _ _ old new groups taken (finished_same _ _ _ old new finished) finished stands;
  after = λ group holds old new groups taken did stands. ended_stays _ _ _ group holds old new groups taken did stands;
}
