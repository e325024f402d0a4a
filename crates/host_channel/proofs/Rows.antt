-- Rows of calls, computed: the result, the keys, the room and the bytes of the progress that each leaves, for a whole request, for each of its
-- two steps, and for calls that are refused for their settings, lengths or progress; and which numbers are a status. Assumes nothing.
use Prim.Native.Nat.{ℕ, zero, suc, ◌+◌, ◌/◌, ◌%◌}
use mathlib.Core.Path.{◌≡◌, refl}
use mathlib.Core.Bool.{true, false}
use mathlib.Core.List.{List, [], ◌∷◌, ◌++◌, map}
use lib.ListN.{replicate, set}
use Rattle.machine.specs.declared.channel.ChannelRequest.{ChannelRequest}
use Rattle.machine.specs.Lists.{written, any_below}
use Rattle.machine.specs.Key.{after_fetch, after_store}
use Rattle.machine.specs.Protection.{permitted}
use Rattle.machine.specs.Channel.{big_endian, ccw_at, operation_of, range_forbidden, range_recorded, bytes_moved, first_refusal, before_fetching}
use Rattle.machine.specs.Channel.{before_transfer, with_ccw_fetched, carried_out, obeyed, next_ccw, channel_step, steps, channel_run}
use Rattle.house_record.specs.Little.{little, little_bytes}
use Rattle.host_channel.specs.ChannelCalls.{ChannelCall, status_valid, progress_left, call_unless, channel_called, channel_step_called}

-- read four bytes to hex 7FE, chain command; write three from hex 7FF
abbrev storage : List ℕ
storage =
    (2 ∷ 0 ∷ 7 ∷ 0xFE ∷ 0x40 ∷ 0 ∷ 0 ∷ 4 ∷ 1 ∷ 0 ∷ 7 ∷ 0xFF ∷ 0 ∷ 0 ∷ 0 ∷ 3 ∷ []) ++ replicate 4080 0

abbrev device : List ℕ
device = 11 ∷ 12 ∷ 13 ∷ 14 ∷ []

abbrev request : (key grant : ℕ) → ChannelRequest
request key grant = record { key = key; first = 0; grant = grant }

-- what is seen of a call
pub record Seen : Type 0 where
  pub number : ℕ
  pub rest : ℕ
  pub keys : List ℕ
  pub room : List ℕ
  pub progress : List ℕ

abbrev seen : (number rest : ℕ) → (keys room progress : List ℕ) → Seen
seen number rest keys room progress = record { number = number; rest = rest; keys = keys; room = room; progress = progress }

abbrev of : ChannelCall → Seen
of c =
    record {
      number = c.result / 281474976710656;
      rest = c.result % 281474976710656;
      keys = c.keys;
      room = c.room;
      progress = c.progress;
    }

-- 32 bytes of zeros, and of nines; two keys of zeros; room of four sevens
abbrev zeros : List ℕ
zeros = replicate 32 0

abbrev nines : List ℕ
nines = replicate 32 9

abbrev K : List ℕ
K = 0 ∷ 0 ∷ []

abbrev S : List ℕ
S = 7 ∷ 7 ∷ 7 ∷ 7 ∷ []

-- a progress: address, chaining and status, count, taken and given, each under 256
abbrev progress : (address chaining status count taken given : ℕ) → List ℕ
progress address chaining status count taken given =
    (address ∷ 0 ∷ 0 ∷ 0 ∷ chaining ∷ status ∷ 0 ∷ 0 ∷ count ∷ 0 ∷ 0 ∷ 0 ∷ 0 ∷ 0 ∷ 0 ∷ 0 ∷ [])
    ++ (taken ∷ replicate 7 0) ++ (given ∷ replicate 7 0)

abbrev whole : (settings : ℕ) → (keys : List ℕ) → (key grant : ℕ) → List ℕ → Seen
whole settings keys key grant bytes = of (channel_called settings storage keys (request key grant) device S bytes)

abbrev step : (settings : ℕ) → (keys : List ℕ) → (key grant : ℕ) → List ℕ → Seen
step settings keys key grant bytes = of (channel_step_called settings storage keys (request key grant) device S bytes)

abbrev rows : List (Seen × Seen)
rows =
    (whole 0 K 0 2 nines, seen 0 0 (6 ∷ 6 ∷ []) (12 ∷ 13 ∷ 14 ∷ 7 ∷ []) (progress 16 3 2 2 4 3))
    ∷ (whole 2 K 0 1 zeros, seen 74 0 (6 ∷ 6 ∷ []) S (progress 8 1 74 1 4 0))
    ∷ (whole 0 K 16 2 nines, seen 65 0 K S (progress 0 0 65 0 0 0))
    ∷ (whole 0 (0 ∷ []) 0 2 nines, seen 64 0 (0 ∷ []) S (progress 0 0 64 0 0 0))
    ∷ (whole 4 K 0 2 nines, seen 64 0 K S nines)
    ∷ (whole 0 K 0 2 (replicate 31 0), seen 65 0 K S (replicate 31 0))
    ∷ (whole 0 (0 ∷ []) 0 2 (replicate 33 0), seen 64 0 (0 ∷ []) S (replicate 33 0))
    -- step by step: the first; the second, which finds the storage as it was before the first; one of a request that has answered
    ∷ (step 0 K 0 2 zeros, seen 255 0 (6 ∷ 6 ∷ []) S (progress 8 1 1 1 4 0))
    ∷ (step 0 K 0 2 (progress 8 1 1 1 4 0), seen 0 0 (4 ∷ 4 ∷ []) (0 ∷ 0 ∷ 0 ∷ 7 ∷ []) (progress 16 3 2 2 4 3))
    ∷ (step 0 K 0 2 (progress 8 1 1 2 4 0), seen 74 0 K S (progress 8 1 74 2 4 0))
    ∷ (step 0 K 99 0 (progress 8 1 72 1 4 0), seen 72 0 K S (progress 8 1 72 1 4 0))
    ∷ (step 0 K 0 2 (progress 8 1 67 1 4 0), seen 65 0 K S (progress 8 1 67 1 4 0))
    ∷ (step 0 K 0 2 (progress 8 4 1 1 4 0), seen 65 0 K S (progress 8 4 1 1 4 0))
    -- a byte that must be zero and is not: the first and the last of each of the two places
    ∷ (step 0 K 0 2 (set zeros 6 1), seen 65 0 K S (set zeros 6 1))
    ∷ (step 0 K 0 2 (set zeros 7 1), seen 65 0 K S (set zeros 7 1))
    ∷ (step 0 K 0 2 (set zeros 12 1), seen 65 0 K S (set zeros 12 1))
    ∷ (step 0 K 0 2 (set zeros 15 1), seen 65 0 K S (set zeros 15 1))
    ∷ []

pub rows_met : map (λ r. r.0) rows ≡ map (λ r. r.1) rows
unfolding written any_below after_fetch after_store permitted big_endian ccw_at operation_of range_forbidden range_recorded bytes_moved first_refusal
    before_fetching before_transfer with_ccw_fetched carried_out obeyed next_ccw channel_step steps channel_run little little_bytes progress_left call_unless
    channel_called channel_step_called
rows_met = refl

-- of the 256 numbers of a byte these are a status: 0 to 2, 64 to 66, 71 to 74
abbrev from : ℕ → ℕ → List ℕ
from zero a = []
from (suc n) a = a ∷ from n (a + 1)

pub statuses : map status_valid (from 256 0)
    ≡ replicate 3 true ++ replicate 61 false ++ replicate 3 true ++ replicate 4 false ++ replicate 4 true ++ replicate 181 false
statuses = refl
