-- Classes of bytes of a text. They are this project's own.
use Rattle.std.specs.Prelude.{ℕ, Bool, ◌||◌, ◌==◌}
use Rattle.bl_syntax.specs.Names.{is_upper_case, is_digit, is_name_byte, is_text_byte}
use Rattle.bl_tokens.specs.declared.classes.Class.{Class}
use Rattle.bl_tokens.specs.declared.classes.Class.TheVariants.{Space, Digit, Name, Word, Text}

-- what may follow the first byte of a variable: a letter, a digit or `_`
abbrev pub is_word_byte : ℕ → Bool
is_word_byte byte = is_name_byte byte || is_upper_case byte

abbrev pub is_space : ℕ → Bool
is_space byte = byte == 32

-- whether the byte is of the class
abbrev pub is_in : Class → ℕ → Bool
is_in Space byte = is_space byte
is_in Digit byte = is_digit byte
is_in Name byte = is_name_byte byte
is_in Word byte = is_word_byte byte
is_in Text byte = is_text_byte byte
