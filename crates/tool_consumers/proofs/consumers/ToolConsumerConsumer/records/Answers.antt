use Rattle.tool_consumers.proofs.consumers.ToolConsumerConsumer.records.Goals as goal

pub returns-in-Log-clause-takes : goal.returns-in-Log-clause-takes
returns-in-Log-clause-takes c = rw c.in-Log.is c.records.ensures.takes

pub returns-in-Ncsa-clause-takes : goal.returns-in-Ncsa-clause-takes
returns-in-Ncsa-clause-takes c = rw c.in-Ncsa.is c.records-in-Ncsa.ensures.takes

pub returns-in-Top-clause-takes : goal.returns-in-Top-clause-takes
returns-in-Top-clause-takes c = rw c.in-Top.is c.records-in-Top.ensures.takes
