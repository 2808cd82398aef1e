use Rattle.varnish_tools.proofs.message.message_of.Goals as goal

pub returns-in-NotALog : goal.returns-in-NotALog
returns-in-NotALog c = rw c.in-NotALog.is c.tell_number.ensures

pub returns-in-TooLarge : goal.returns-in-TooLarge
returns-in-TooLarge c = rw c.in-TooLarge.is c.tell_number-in-TooLarge.ensures
