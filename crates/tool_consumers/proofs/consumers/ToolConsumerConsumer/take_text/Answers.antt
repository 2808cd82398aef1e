use Rattle.tool_consumers.proofs.consumers.ToolConsumerConsumer.take_text.Goals as goal

pub returns-in-Log-clause-text : goal.returns-in-Log-clause-text
returns-in-Log-clause-text c = rw c.in-Log.is c.take_text.ensures.text

pub returns-in-Log-clause-taken : goal.returns-in-Log-clause-taken
returns-in-Log-clause-taken c = rw c.in-Log.is c.take_text.ensures.taken

pub returns-in-Ncsa-clause-text : goal.returns-in-Ncsa-clause-text
returns-in-Ncsa-clause-text c = rw c.in-Ncsa.is c.take_text-in-Ncsa.ensures.text

pub returns-in-Ncsa-clause-taken : goal.returns-in-Ncsa-clause-taken
returns-in-Ncsa-clause-taken c = rw c.in-Ncsa.is c.take_text-in-Ncsa.ensures.taken

pub returns-in-Top-clause-text : goal.returns-in-Top-clause-text
returns-in-Top-clause-text c = rw c.in-Top.is c.take_text-in-Top.ensures.text

pub returns-in-Top-clause-taken : goal.returns-in-Top-clause-taken
returns-in-Top-clause-taken c = rw c.in-Top.is c.take_text-in-Top.ensures.taken
