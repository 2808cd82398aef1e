use Rattle.tool_consumers.proofs.consumers.ToolConsumerConsumer.group.Goals as goal

pub returns-in-Log-clause-takes : goal.returns-in-Log-clause-takes
returns-in-Log-clause-takes c = rw c.in-Log.is c.group.ensures.takes

pub returns-in-Log-clause-last : goal.returns-in-Log-clause-last
returns-in-Log-clause-last c = rw c.in-Log.is c.group.ensures.last

pub returns-in-Log-clause-more : goal.returns-in-Log-clause-more
returns-in-Log-clause-more c = rw c.in-Log.is c.group.ensures.more

pub returns-in-Ncsa-clause-takes : goal.returns-in-Ncsa-clause-takes
returns-in-Ncsa-clause-takes c = rw c.in-Ncsa.is c.group-in-Ncsa.ensures.takes

pub returns-in-Ncsa-clause-last : goal.returns-in-Ncsa-clause-last
returns-in-Ncsa-clause-last c = rw c.in-Ncsa.is c.group-in-Ncsa.ensures.last

pub returns-in-Ncsa-clause-more : goal.returns-in-Ncsa-clause-more
returns-in-Ncsa-clause-more c = rw c.in-Ncsa.is c.group-in-Ncsa.ensures.more

pub returns-in-Top-clause-takes : goal.returns-in-Top-clause-takes
returns-in-Top-clause-takes c = rw c.in-Top.is c.group-in-Top.ensures.takes

pub returns-in-Top-clause-last : goal.returns-in-Top-clause-last
returns-in-Top-clause-last c = rw c.in-Top.is c.group-in-Top.ensures.last

pub returns-in-Top-clause-more : goal.returns-in-Top-clause-more
returns-in-Top-clause-more c = rw c.in-Top.is c.group-in-Top.ensures.more
