-- The fault of a line that has a bad word or a bad text.
use Rattle.bl_tokens.specs.declared.faults.TextFault.{TextFault}
use Rattle.bl_tokens.specs.declared.faults.TextFault.TheVariants as texts
use Rattle.line_words.specs.declared.fault.WordFault.{WordFault}
use Rattle.line_words.specs.declared.fault.WordFault.TheVariants as words
use Rattle.line_forms.specs.declared.fault.LineFault.{LineFault}
use Rattle.line_forms.specs.declared.fault.LineFault.TheVariants.{BadWord, BadText, NoMemory}

abbrev pub word_fault : WordFault → LineFault
word_fault (words.Bad place) = BadWord place
word_fault words.NoMemory = NoMemory

-- out of memory is no fault of the text
abbrev pub text_fault : TextFault → LineFault
text_fault texts.NoMemory = NoMemory
text_fault (texts.Unexpected at) = BadText (texts.Unexpected at)
text_fault (texts.UnknownName at) = BadText (texts.UnknownName at)
text_fault (texts.BadDate at) = BadText (texts.BadDate at)
text_fault (texts.Sort at) = BadText (texts.Sort at)
text_fault (texts.TooLarge at) = BadText (texts.TooLarge at)
