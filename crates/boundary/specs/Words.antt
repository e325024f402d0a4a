-- Settings in a number, and a processor's record as two numbers of four bytes, the least first: its state, in which stand the PSW key, the
-- controls, the condition code and a zero, and its prefix. proofs/Words says what record these are.
use Rattle.std.specs.Prelude.{ℕ, ◌+◌, ◌*◌, ◌/◌, ◌%◌, Bool, cond, ◌&&◌, List, get_or, leb, ltb, Result, Ok, Err}
use Rattle.machine.specs.declared.Processor.{Processor}
use Rattle.machine.specs.declared.Settings.{Settings}
use Rattle.machine.specs.declared.Refusal.{Refusal}
use Rattle.machine.specs.declared.Reason.TheVariants.{Configuration}
use Rattle.boundary.specs.Boundary.{bit, settings_of, reserved_zero}

-- the settings in a number; with another bit on, what line 64 says
abbrev pub settings_in : ℕ → Result Settings Refusal
settings_in w = cond (ltb w 4) (Ok (settings_of w)) (Err (record { reason = Configuration; place = 0 }))

-- the number in the four bytes from `at` on
abbrev pub word_at : List ℕ → ℕ → ℕ
word_at bytes at = get_or bytes at 0 + get_or bytes (at + 1) 0 * 256 + get_or bytes (at + 2) 0 * 65536 + get_or bytes (at + 3) 0 * 16777216

-- reserved bits zero, the PSW key and the condition code as line 65 asks
abbrev pub state_valid : ℕ → Bool
state_valid state = reserved_zero (state / 256 % 256) (state / 16777216) && leb (state % 256) 15 && leb (state / 65536 % 256) 3

-- the record with this state and this prefix; of a state that is not valid, PSW key and condition code are remainders
abbrev pub record_of : ℕ → ℕ → Processor
record_of state prefix =
    record {
      psw_key = state % 16;
      problem = bit 1 (state / 256 % 256);
      low_protection = bit 2 (state / 256 % 256);
      key_control = bit 4 (state / 256 % 256);
      prefix = prefix;
      code = state / 65536 % 4;
    }
