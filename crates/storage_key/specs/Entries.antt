-- The permissions of an access key in one word, by the manual's summary, and what they say of a storage key.
use Rattle.std.specs.Prelude.{ℕ, zero, suc, ◌+◌, ◌*◌, ◌/◌, ◌%◌, ◌^◌, Bool, cond, eqb}
use Rattle.machine.specs.declared.AccessKind.{AccessKind}
use Rattle.machine.specs.Protection.{summarized}

-- n bits as a number, from right to left
unfoldable pub word_of : (ℕ → Bool) → ℕ → ℕ
word_of bit zero = 0
word_of bit (suc n) = word_of (λ i. bit (suc i)) n * 2 + cond (bit 0) 1 0

-- the permissions of an access key: a bit for each value of the five leading key bits
unfoldable pub permissions : AccessKind → ℕ → ℕ
permissions kind access_key = word_of (λ leading. summarized kind access_key (leading * 8)) 32

-- the bit for a storage key is one
abbrev pub permits : ℕ → ℕ → Bool
permits word k = eqb (word / 2 ^ (k / 8) % 2) 1
