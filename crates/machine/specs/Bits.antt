-- Bits in the manual's numbering: bit 0 is the leftmost. Addresses and register words have 32 bits, a key byte and the command of a CCW have 8.
use Rattle.std.specs.Prelude.{ℕ, ◌+◌, ◌-◌, ◌*◌, ◌/◌, ◌%◌, ◌^◌}

-- bits first to last of a number with so many bits, as a number
abbrev pub field : ℕ → ℕ → ℕ → ℕ → ℕ
field width first last x = x / 2 ^ (width - 1 - last) % 2 ^ (last - first + 1)

-- of a word, and of a key byte
abbrev pub bits : ℕ → ℕ → ℕ → ℕ
bits first last word = field 32 first last word

abbrev pub key_bits : ℕ → ℕ → ℕ → ℕ
key_bits first last k = field 8 first last k

-- a word in which a value stands in the bits that end with bit last, and all other bits are zero. The value fits these bits
abbrev pub placed : ℕ → ℕ → ℕ
placed last value = value * 2 ^ (31 - last)

-- the word with all bits zero but for bits first to last, which stay
abbrev pub only_bits : ℕ → ℕ → ℕ → ℕ
only_bits first last word = placed last (bits first last word)

-- the word with bits first to last replaced by a value that fits them; the other bits stay
abbrev pub replace_bits : ℕ → ℕ → ℕ → ℕ → ℕ
replace_bits first last value word = word - only_bits first last word + placed last value
