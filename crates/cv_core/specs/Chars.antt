-- The char of a program: its range, and the char that a number becomes. All who speak of chars take these of the program.
use Rattle.std.specs.Prelude.{ℕ, ◌-◌, ◌%◌, ℤ, pos, negsuc}
use Rattle.cv_core.specs.declared.program.Program.{Program}

-- z modulo 256, a byte
abbrev pub low_byte : ℤ → ℕ
low_byte (pos n) = n % 256
low_byte (negsuc n) = 255 - n % 256

abbrev pub least_char : Program → ℤ
least_char P = pos 0

abbrev pub greatest_char : Program → ℤ
greatest_char P = pos 255

-- the char to which a number, or the byte of a buffer, is wrapped
abbrev pub char_of : Program → ℤ → ℤ
char_of P z = pos (low_byte z)
