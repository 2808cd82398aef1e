use Rattle.tool_consumers.proofs.consumers.ToolConsumerConsumer.end.Goals as goal

pub returns-in-Log-clause-ends : goal.returns-in-Log-clause-ends
returns-in-Log-clause-ends c = rw c.in-Log.is c.end.ensures.ends

pub returns-in-Ncsa-clause-ends : goal.returns-in-Ncsa-clause-ends
returns-in-Ncsa-clause-ends c = rw c.in-Ncsa.is c.end-in-Ncsa.ensures.ends

pub returns-in-Top-clause-ends : goal.returns-in-Top-clause-ends
returns-in-Top-clause-ends c = rw c.in-Top.is c.end-in-Top.ensures.ends
