-- Ranges of bytes that the channel's code may ask for.
use Rattle.std.specs.Prelude.{ℕ, ◌+◌, ◌-◌, ◌<◌, ◌≤◌}
use Rattle.machine.specs.declared.Settings.{Settings}
use Rattle.machine.specs.Numbers.{storage_maximum, unit_of}

-- a range that has a byte, and ends inside the greatest storage; and the key of its last unit is there, and with it that of each unit
pub record Keyed (s : Settings) (key_length start count : ℕ) : Type 0 where
  pub positive : 0 < count
  pub short : start + count ≤ storage_maximum
  pub keyed : unit_of s (start + (count - 1)) < key_length
