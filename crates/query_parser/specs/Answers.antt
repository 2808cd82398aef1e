-- How the first fault of a text is answered (this project's choice).
use Rattle.std.specs.Prelude.{◌≡◌, Option, Some}
use Rattle.query_grammar.specs.Scanner as fault
use Rattle.query_grammar.specs.Scanner.{Fault}
use Rattle.query_parser.specs.declared.fault.QueryFault.{QueryFault}
use Rattle.query_parser.specs.declared.fault.QueryFault.TheVariants.{Syntax, UnknownTag, Number, Pattern, Deep, NoMemory}

-- an answer is the fault that there is; want of memory says nothing. A good pattern with large tables is answered so
-- too: how much is too much isn't a property of the text
abbrev pub IsAnswer : QueryFault → Option Fault → Type 0
IsAnswer (Syntax at) found = found ≡ Some (fault.Syntax at)
IsAnswer (UnknownTag at) found = found ≡ Some (fault.UnknownTag at)
IsAnswer (Number at) found = found ≡ Some (fault.Number at)
IsAnswer (Pattern at) found = found ≡ Some (fault.Pattern at)
IsAnswer (Deep at) found = found ≡ Some (fault.Deep at)
IsAnswer NoMemory found = Unit {0}
