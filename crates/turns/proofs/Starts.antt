-- What the facts about turns start from: settings, processors, keys and a few requests. The storage is any.
-- Assumes nothing.
use Prim.Native.Nat.{ℕ}
use mathlib.Core.Bool.{true, false}
use mathlib.Core.List.{List, [], ◌∷◌}
use lib.ListN.{replicate}
use Rattle.machine.specs.declared.Settings.{Settings}
use Rattle.machine.specs.declared.Processor.{Processor}
use Rattle.machine.specs.declared.Request.{Request}
use Rattle.machine.specs.declared.Request.TheVariants.{Access}
use Rattle.machine.specs.declared.AccessKind.TheVariants.{Store}
use Rattle.machine.specs.declared.channel.Ccw.{Ccw}
use Rattle.machine.specs.Turns.{State, Turn}
use Rattle.turns.specs.ThreeLists.{ChannelTurn}

-- 2K units, extensions present; prefixes 0 and 4096, PSW key 0, supervisor, bit 3 off; zero keys
abbrev pub settings : Settings
settings = record { four_k = false; extensions = true }

abbrev pub processor : ℕ → Processor
processor prefix = record { psw_key = 0; problem = false; low_protection = false; key_control = false; prefix = prefix; code = 0 }

abbrev pub memory : List ℕ → State
memory storage = record { storage = storage; keys = replicate 32 0; processors = processor 0 ∷ processor 4096 ∷ [] }

-- processor n stores one byte at a real address; a request without a buffer
abbrev pub store : ℕ → ℕ → ℕ → Turn
store n real b = record { processor_number = n; request = Access Store real 1; buffer = b ∷ [] }

abbrev pub asked : ℕ → Request → Turn
asked n r = record { processor_number = n; request = r; buffer = [] }

-- a CCW that reads one byte from the device into absolute 12288, and a request with it: key 0, the CCW at 8192, one CCW granted
abbrev pub reading : Ccw
reading = record { command = 2; address = 12288; flags = 0; count = 1 }

abbrev pub read_one : ℕ → ChannelTurn
read_one b = record { request = record { key = 0; first = 8192; grant = 1 }; from_device = b ∷ []; room = [] }
