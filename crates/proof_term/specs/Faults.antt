-- Why a proof could not be read, after the fault of one of its fields.
use Rattle.bl_syntax.specs.declared.codec_fault.CodecFault.{CodecFault}
use Rattle.bl_syntax.specs.declared.codec_fault.CodecFault.TheVariants as codec
use Rattle.proof_term.specs.declared.fault.ProofFault.{ProofFault}
use Rattle.proof_term.specs.declared.fault.ProofFault.TheVariants.{Short, BadTerm, NoMemory}

-- a field that is not there whole is Short, any other fault is that of a term
abbrev pub of_field : CodecFault → ProofFault
of_field codec.Short = Short
of_field (codec.BadTag at) = BadTerm (codec.BadTag at)
of_field (codec.NotCanonical at) = BadTerm (codec.NotCanonical at)
of_field (codec.TooLarge at) = BadTerm (codec.TooLarge at)
of_field codec.NoMemory = NoMemory
