-- The lines that a run writes, as bytes (02, W1).
use Rattle.std.specs.Prelude.{ℕ, zero, suc, ◌+◌, ◌/◌, ◌%◌, cond, List, [], ◌∷◌, ◌++◌, length, drop, ltb}
unfoldable pub use Rattle.house_record.specs.Little.{pasted}

-- a list of bytes with a text in front, and all else kept
unfoldable pub over : List ℕ → List ℕ → List ℕ
over text d = text ++ drop (length text) d

-- the last k decimal digits of a number, fewer where it has fewer: no leading zero
unfoldable pub decimal_in : (k n : ℕ) → List ℕ
decimal_in zero n = []
decimal_in (suc k) n = cond (ltb n 10) ((48 + n) ∷ []) (decimal_in k (n / 10) ++ ((48 + n % 10) ∷ []))

-- the decimal digits of a number, which has at most one more than it counts
abbrev pub decimal_of : ℕ → List ℕ
decimal_of n = decimal_in (suc n) n

-- a blank, and a line end
abbrev pub blank : List ℕ
blank = 32 ∷ []

abbrev pub line_end : List ℕ
line_end = 10 ∷ []

-- one line per request: ordinal among requests, number, place
unfoldable pub line_text : (ordinal number place : ℕ) → List ℕ
line_text ordinal number place = decimal_of ordinal ++ blank ++ decimal_of number ++ blank ++ decimal_of place ++ line_end

-- the line "bad record", a blank and its ordinal among all records
unfoldable pub bad_text : (ordinal : ℕ) → List ℕ
bad_text ordinal = (98 ∷ 97 ∷ 100 ∷ 32 ∷ 114 ∷ 101 ∷ 99 ∷ 111 ∷ 114 ∷ 100 ∷ []) ++ blank ++ decimal_of ordinal ++ line_end
