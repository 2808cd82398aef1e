-- What a call answers where a definition says what the words state (this project's choice).
use Rattle.std.specs.Prelude.{◌≡◌, Result, Ok, Err}
use Rattle.word_forms.specs.declared.fault.WordFault.{WordFault}
use Rattle.word_forms.specs.declared.fault.WordFault.TheVariants as words
use Rattle.tool_words.specs.declared.fault.UsageFault.{UsageFault}
use Rattle.tool_words.specs.declared.fault.UsageFault.TheVariants.{UnknownOption, NoValue}
use Rattle.tool_words.specs.declared.fault.WordsFault.{WordsFault}
use Rattle.tool_words.specs.declared.fault.WordsFault.TheVariants.{Usage, NoMemory}

-- a call answers what the definition gives, value or fault; want of memory says nothing
abbrev pub Gives : {A : Type 0} → Result A WordsFault → Result A UsageFault → Type 0
Gives (Ok value) defined = defined ≡ Ok value
Gives (Err (Usage fault)) defined = defined ≡ Err fault
Gives (Err NoMemory) defined = Unit {0}

-- what is wrong with a word, whatever it means
abbrev pub usage_of : WordFault → UsageFault
usage_of (words.UnknownOption at) = UnknownOption at
usage_of (words.NoValue at) = NoValue at
usage_of (words.BadOperand at) = UnknownOption at

-- a call's fault is this one; want of memory says nothing
abbrev pub IsFault : WordsFault → UsageFault → Type 0
IsFault (Usage fault) defined = defined ≡ fault
IsFault NoMemory defined = Unit {0}
