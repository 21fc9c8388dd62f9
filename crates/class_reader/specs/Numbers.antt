-- Unsigned numbers of a class file, their highest byte first (4).
use Rattle.std.specs.Prelude.{ℕ}
use Rattle.byteorder.specs.Endian.{big_number}
use Rattle.class_file.specs.declared.error.ClassError.{ClassError}
use Rattle.class_file.specs.declared.error.ClassError.TheVariants.{Truncated}
use Rattle.reading.specs.Readers.{Reader, ◌>>=◌, done, byte, bytes}
use Rattle.reading.specs.Grammars as grammar
use Rattle.reading.specs.Grammars.{Grammar}

-- Each reader takes the length of the whole file, which a file that ends too early names.
abbrev pub u1 : ℕ → Reader ClassError ℕ
u1 end = byte (Truncated end)

unfoldable pub number : ℕ → ℕ → Reader ClassError ℕ
number count end = bytes count (Truncated end) >>= λ digits. done (big_number count digits)

abbrev pub u2 : ℕ → Reader ClassError ℕ
u2 = number 2

abbrev pub u4 : ℕ → Reader ClassError ℕ
u4 = number 4

abbrev pub u8 : ℕ → Reader ClassError ℕ
u8 = number 8

-- the texts of a number of so many bytes
abbrev pub number_text : ℕ → Grammar ℕ
number_text count = grammar.Joined (grammar.bytes count) (λ digits. grammar.done (big_number count digits))

abbrev pub u2_text : Grammar ℕ
u2_text = number_text 2

abbrev pub u4_text : Grammar ℕ
u4_text = number_text 4

abbrev pub u8_text : Grammar ℕ
u8_text = number_text 8
