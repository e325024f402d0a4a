-- Rows of channel requests, computed: what each finds, and everything that it gives and leaves. They show each line of a request and of a CCW on
-- both sides of its bounds, the order of the lines, chains, transfers in channel, data over several units, and a program that is overwritten by
-- what it reads. Beside them the 256 commands and the 256 flags, all at once. Assumes nothing.
use Prim.Native.Nat.{ℕ, zero, suc, ◌+◌, ◌-◌}
use mathlib.Core.Path.{◌≡◌, refl}
use mathlib.Core.Bool.{true, false}
use mathlib.Core.List.{List, [], ◌∷◌, ◌++◌, map}
use mathlib.Core.Option.{Option, some}
use lib.ListN.{length, replicate, take, drop}
use Rattle.machine.specs.declared.Settings.{Settings}
use Rattle.machine.specs.declared.AccessKind.TheVariants.{Fetch, Store}
use Rattle.machine.specs.declared.channel.ChannelRequest.{ChannelRequest}
use Rattle.machine.specs.declared.channel.ChannelOperation.{ChannelOperation}
use Rattle.machine.specs.declared.channel.ChannelOperation.TheVariants.{TransferInChannel, Data, Invalid}
use Rattle.machine.specs.declared.channel.Chaining.{Chaining}
use Rattle.machine.specs.declared.channel.Chaining.TheVariants.{First, Command, Transfer, Ended}
use Rattle.machine.specs.declared.channel.ChannelRecord.{ChannelRecord}
use Rattle.machine.specs.Lists.{written, any_below}
use Rattle.machine.specs.Key.{after_fetch, after_store}
use Rattle.machine.specs.Answers.{Values}
use Rattle.machine.specs.Protection.{permitted}
use Rattle.machine.specs.Channel.{big_endian, ccw_at, operation_of, range_forbidden, range_recorded, bytes_moved, first_refusal, before_fetching}
use Rattle.machine.specs.Channel.{transfer_allowed, program_check, advanced, before_transfer, with_ccw_fetched, carried_out, obeyed, next_ccw}
use Rattle.machine.specs.Channel.{channel_step, steps, channel_run}

-- 4,096 bytes of storage: these first bytes, and zeros; key array, channel key, first CCW, grant; bytes from the device, room of so many sevens
pub record Case : Type 0 where
  pub settings : Settings
  pub bytes : List ℕ
  pub keys : List ℕ
  pub key : ℕ
  pub first : ℕ
  pub grant : ℕ
  pub from_device : List ℕ
  pub room_length : ℕ

-- the whole answer, and count; address of the CCW to come, chaining, bytes taken and given; the keys, the room, and four bytes of storage at hex 7FE
pub record Seen : Type 0 where
  pub answer : Option Values
  pub count : ℕ
  pub state : ChannelRecord
  pub keys : List ℕ
  pub room : List ℕ
  pub bytes : List ℕ

abbrev storage_of : List ℕ → List ℕ
storage_of bytes = bytes ++ replicate (4096 - length bytes) 0

abbrev run : Case → Seen
run c =
    let q : ChannelRequest = record { key = c.key; first = c.first; grant = c.grant } in
    let o = channel_run c.settings (storage_of c.bytes) c.keys q c.from_device (replicate c.room_length 7) in
    record {
      answer = o.answer;
      count = o.count;
      state = o.state;
      keys = o.keys;
      room = o.room;
      bytes = take 4 (drop 2046 o.storage);
    }

-- a CCW, with something in the byte that is ignored
abbrev ccw : (command : ℕ) → (a b c : ℕ) → (flags : ℕ) → (high low : ℕ) → List ℕ
ccw command a b c flags high low = command ∷ a ∷ b ∷ c ∷ flags ∷ 0xAA ∷ high ∷ low ∷ []

abbrev in_2k : (bytes keys : List ℕ) → (key first grant : ℕ) → (from_device : List ℕ) → (room_length : ℕ) → Case
in_2k bytes keys key first grant from_device room_length =
    record {
      settings = record { four_k = false; extensions = false };
      bytes = bytes;
      keys = keys;
      key = key;
      first = first;
      grant = grant;
      from_device = from_device;
      room_length = room_length;
    }

abbrev in_4k : (bytes keys : List ℕ) → (key first grant : ℕ) → (from_device : List ℕ) → (room_length : ℕ) → Case
in_4k bytes keys key first grant from_device room_length =
    record {
      settings = record { four_k = true; extensions = false };
      bytes = bytes;
      keys = keys;
      key = key;
      first = first;
      grant = grant;
      from_device = from_device;
      room_length = room_length;
    }

abbrev seen : (number count address : ℕ) → Chaining → (taken given : ℕ) → (keys room bytes : List ℕ) → Seen
seen number count address chaining taken given keys room bytes =
    record {
      answer = some (record { number = number; place = 0; word = 0; rule = 0 });
      count = count;
      state = record { ccw = address; chaining = chaining; taken = taken; given = given };
      keys = keys;
      room = room;
      bytes = bytes;
    }

-- two keys of zeros, and four zeros
abbrev K : List ℕ
K = 0 ∷ 0 ∷ []

abbrev Z : List ℕ
Z = 0 ∷ 0 ∷ 0 ∷ 0 ∷ []

-- what the keys hold after the fetch of a CCW in unit 0
abbrev F : List ℕ
F = 4 ∷ 0 ∷ []

abbrev device : List ℕ
device = 1 ∷ 2 ∷ 3 ∷ 4 ∷ []

-- read four bytes to hex 7FE, over the end of unit 0, and then write three from hex 7FF
abbrev read_write : List ℕ
read_write = ccw 2 0 7 0xFE 0x40 0 4 ++ ccw 1 0 7 0xFF 0 0 3

-- the same, by a transfer in channel from hex 8 to hex 20; and one to another transfer
abbrev by_transfer : List ℕ
by_transfer = ccw 2 0 7 0xFE 0x40 0 4 ++ ccw 0xF8 0 0 0x20 0xFF 0 0 ++ ccw 3 0 0 0 0 0 0 ++ ccw 3 0 0 0 0 0 0 ++ ccw 1 0 7 0xFF 0 0 3

abbrev two_transfers : List ℕ
two_transfers = ccw 1 0 8 0 0x40 0 1 ++ ccw 8 0 0 0x10 0 0 0 ++ ccw 8 0 0 0 0 0 0

-- write a byte, and again
abbrev loop : List ℕ
loop = ccw 1 0 8 0 0x40 0 1 ++ ccw 8 0 0 0 0 0 0

-- read two bytes to hex 800, and two more
abbrev read_twice : List ℕ
read_twice = ccw 2 0 8 0 0x40 0 2 ++ ccw 2 0 8 0 0 0 2

-- write a byte, and go to address 4
abbrev to_odd_address : List ℕ
to_odd_address = ccw 1 0 8 0 0x40 0 1 ++ ccw 8 0 0 4 0 0 0

-- write a byte, and go to hex 10000
abbrev to_outside : List ℕ
to_outside = ccw 1 0 8 0 0x40 0 1 ++ ccw 8 1 0 0 0x80 0 5

-- write a byte, and go to hex 800
abbrev to_unit1 : List ℕ
to_unit1 = ccw 1 0 0 0 0x40 0 1 ++ ccw 8 0 8 0 0 0 0

-- read the last CCW of storage from the device, and go there
abbrev to_last : List ℕ
to_last = ccw 2 0 0x0F 0xF8 0x40 0 8 ++ ccw 8 0 0x0F 0xF8 0x20 1 0

-- read the next CCW from the device
abbrev reads : List ℕ
reads = ccw 2 0 0 8 0x40 0 8

-- a CCW alone, under a key, with a grant of two
abbrev single : List ℕ → List ℕ → ℕ → List ℕ → ℕ → Case
single bytes keys key from_device room_length = in_2k bytes keys key 0 2 from_device room_length

abbrev rows : List (Case × Seen)
rows =
    -- a program that ends; the grant is used up; the key of the unit keeps access control, and bit 7 is zero where a key is written
    (in_2k read_write K 0 0 2 device 4, seen 0 2 16 Ended 4 3 (6 ∷ 6 ∷ []) (2 ∷ 3 ∷ 4 ∷ 7 ∷ []) device)
    ∷ (in_2k read_write K 0 0 256 device 3, seen 0 2 16 Ended 4 3 (6 ∷ 6 ∷ []) (2 ∷ 3 ∷ 4 ∷ []) device)
    ∷ (in_2k read_write K 0 0 1 device 4, seen 74 1 8 Command 4 0 (6 ∷ 6 ∷ []) (7 ∷ 7 ∷ 7 ∷ 7 ∷ []) device)
    ∷ (
      in_2k read_write (0x31 ∷ 0x39 ∷ []) 3 0 2 device 4,
      seen 0 2 16 Ended 4 3 (0x36 ∷ 0x3E ∷ []) (2 ∷ 3 ∷ 4 ∷ 7 ∷ []) device,
    )
    ∷ (in_4k read_write (0 ∷ []) 0 0 2 device 4, seen 0 2 16 Ended 4 3 (6 ∷ []) (2 ∷ 3 ∷ 4 ∷ 7 ∷ []) device)
    -- transfers in channel: carried out, first, and straight after another; a loop that the grant ends
    ∷ (in_2k by_transfer K 0 0 3 device 4, seen 0 3 0x28 Ended 4 3 (6 ∷ 6 ∷ []) (2 ∷ 3 ∷ 4 ∷ 7 ∷ []) device)
    ∷ (in_2k by_transfer K 0 0 2 device 4, seen 74 2 0x20 Transfer 4 0 (6 ∷ 6 ∷ []) (7 ∷ 7 ∷ 7 ∷ 7 ∷ []) device)
    ∷ (in_2k by_transfer K 0 8 2 device 4, seen 71 1 8 First 0 0 F (7 ∷ 7 ∷ 7 ∷ 7 ∷ []) Z)
    ∷ (in_2k two_transfers K 0 0 4 [] 1, seen 71 3 0x10 Transfer 0 1 (4 ∷ 4 ∷ []) (0 ∷ []) Z)
    ∷ (in_2k loop K 0 0 5 [] 4, seen 74 5 8 Command 0 3 (4 ∷ 4 ∷ []) (0 ∷ 0 ∷ 0 ∷ 7 ∷ []) Z)
    -- two reads take the bytes one after the other; bytes and room that earlier CCWs used are gone
    ∷ (in_2k read_twice K 0 0 2 device 0, seen 0 2 16 Ended 4 0 (4 ∷ 6 ∷ []) [] (0 ∷ 0 ∷ 3 ∷ 4 ∷ []))
    ∷ (in_2k read_twice K 0 0 2 (1 ∷ 2 ∷ 3 ∷ []) 0, seen 73 2 8 Command 2 0 (4 ∷ 6 ∷ []) [] (0 ∷ 0 ∷ 1 ∷ 2 ∷ []))
    ∷ (in_2k loop K 0 0 9 [] 2, seen 73 5 0 Transfer 0 2 (4 ∷ 4 ∷ []) (0 ∷ 0 ∷ []) Z)
    -- a CCW is fetched when its turn comes: the one that was read is obeyed
    ∷ (in_2k reads K 0 0 3 (ccw 1 0 0 8 0 0 2) 2, seen 0 2 16 Ended 8 2 (6 ∷ 0 ∷ []) (1 ∷ 0 ∷ []) Z)
    -- 64, 65, 66 and their order
    ∷ (in_2k read_write (0 ∷ 0 ∷ 0 ∷ []) 16 0 0 device 0, seen 64 0 0 First 0 0 (0 ∷ 0 ∷ 0 ∷ []) [] Z)
    ∷ (in_2k read_write K 16 0 0 device 0, seen 65 0 0 First 0 0 K [] Z)
    ∷ (in_2k read_write K 15 4 0 device 0, seen 66 0 4 First 0 0 K [] Z)
    ∷ (in_2k read_write K 15 4 257 device 0, seen 66 0 4 First 0 0 K [] Z)
    -- 71 for the address: no multiple of 8, outside, and the last CCW of storage; 74 comes before it, also where a transfer in channel named it
    ∷ (in_2k to_odd_address K 0 0 2 [] 1, seen 74 2 4 Transfer 0 1 (4 ∷ 4 ∷ []) (0 ∷ []) Z)
    ∷ (in_2k to_odd_address K 0 0 3 [] 1, seen 71 2 4 Transfer 0 1 (4 ∷ 4 ∷ []) (0 ∷ []) Z)
    ∷ (in_2k read_write K 15 4 256 device 0, seen 71 0 4 First 0 0 K [] Z)
    ∷ (in_2k read_write K 15 4096 1 device 0, seen 71 0 4096 First 0 0 K [] Z)
    ∷ (in_2k read_write K 15 0xFFFFFFF8 1 device 0, seen 71 0 0xFFFFFFF8 First 0 0 K [] Z)
    ∷ (in_2k [] K 0 4088 1 [] 0, seen 71 1 4088 First 0 0 (0 ∷ 4 ∷ []) [] Z)
    -- the address that a transfer in channel names is tested as that of the next CCW; a chain that goes on behind the last CCW of storage
    ∷ (in_2k to_outside K 0 0 2 [] 1, seen 74 2 0x10000 Transfer 0 1 (4 ∷ 4 ∷ []) (0 ∷ []) Z)
    ∷ (in_2k to_outside K 0 0 3 [] 1, seen 71 2 0x10000 Transfer 0 1 (4 ∷ 4 ∷ []) (0 ∷ []) Z)
    ∷ (in_2k to_unit1 (0x51 ∷ 0x39 ∷ []) 5 0 2 [] 1, seen 74 2 0x800 Transfer 0 1 (0x54 ∷ 0x39 ∷ []) (1 ∷ []) Z)
    ∷ (in_2k to_unit1 (0x51 ∷ 0x39 ∷ []) 5 0 3 [] 1, seen 72 2 0x800 Transfer 0 1 (0x54 ∷ 0x39 ∷ []) (1 ∷ []) Z)
    ∷ (in_2k loop K 0 0 256 [] 128, seen 74 256 0 Transfer 0 128 (4 ∷ 4 ∷ []) (replicate 128 0) Z)
    ∷ (in_2k to_last K 0 0 4 (ccw 1 0 8 0 0x40 0 1) 1, seen 71 3 4096 Command 8 1 (4 ∷ 6 ∷ []) (0 ∷ []) Z)
    -- 72 for the reading: the CCW's unit is fetch-protected under another key; without fetch protection it is read. It comes after 71 for the address
    -- and before what the CCW is
    ∷ (in_2k read_write (0x39 ∷ 0 ∷ []) 5 4 1 device 4, seen 71 0 4 First 0 0 (0x39 ∷ 0 ∷ []) (7 ∷ 7 ∷ 7 ∷ 7 ∷ []) Z)
    ∷ (single (ccw 3 0 7 0xFE 0 0 4) (0x39 ∷ 0 ∷ []) 5 device 4, seen 72 0 0 First 0 0 (0x39 ∷ 0 ∷ []) (7 ∷ 7 ∷ 7 ∷ 7 ∷ []) Z)
    ∷ (single read_write (0x39 ∷ 0 ∷ []) 5 device 4, seen 72 0 0 First 0 0 (0x39 ∷ 0 ∷ []) (7 ∷ 7 ∷ 7 ∷ 7 ∷ []) Z)
    ∷ (single read_write (0x31 ∷ 0 ∷ []) 5 device 4, seen 72 1 0 First 0 0 (0x34 ∷ 0 ∷ []) (7 ∷ 7 ∷ 7 ∷ 7 ∷ []) Z)
    -- 72 for the transfer: the second unit alone forbids, or the first; a write is a fetch
    ∷ (single read_write (0x51 ∷ 0x31 ∷ []) 5 device 4, seen 72 1 0 First 0 0 (0x54 ∷ 0x31 ∷ []) (7 ∷ 7 ∷ 7 ∷ 7 ∷ []) Z)
    ∷ (single (ccw 5 0 7 0xFE 0 0 4) (0x51 ∷ 0x31 ∷ []) 5 [] 4, seen 0 1 8 Ended 0 4 (0x54 ∷ 0x34 ∷ []) Z Z)
    ∷ (single (ccw 5 0 7 0xFE 0 0 4) (0x51 ∷ 0x3B ∷ []) 5 [] 4, seen 72 1 0 First 0 0 (0x54 ∷ 0x3B ∷ []) (7 ∷ 7 ∷ 7 ∷ 7 ∷ []) Z)
    ∷ (single (ccw 6 0 7 0xFF 0 0 2) (0x51 ∷ 0x31 ∷ []) 5 device 0, seen 72 1 0 First 0 0 (0x54 ∷ 0x31 ∷ []) [] Z)
    ∷ (single (ccw 6 0 7 0xFE 0 0 4) (0x31 ∷ 0x51 ∷ []) 5 device 0, seen 72 1 0 First 0 0 (0x34 ∷ 0x51 ∷ []) [] Z)
    -- 71: a bad command, bad flags, a zero count; bad flags come before 73
    ∷ (single (ccw 3 0 7 0xFE 0 0 4) K 0 device 4, seen 71 1 0 First 0 0 F (7 ∷ 7 ∷ 7 ∷ 7 ∷ []) Z)
    ∷ (single (ccw 2 0 7 0xFE 0x80 0 9) K 0 device 4, seen 71 1 0 First 0 0 F (7 ∷ 7 ∷ 7 ∷ 7 ∷ []) Z)
    ∷ (single (ccw 2 0 7 0xFE 0xC0 0 4) K 0 device 4, seen 71 1 0 First 0 0 F (7 ∷ 7 ∷ 7 ∷ 7 ∷ []) Z)
    ∷ (single (ccw 2 0 7 0xFE 0x40 0 0) K 0 device 4, seen 71 1 0 First 0 0 F (7 ∷ 7 ∷ 7 ∷ 7 ∷ []) Z)
    -- 71: the data range; it may end with storage, and does not wrap; it comes before 73
    ∷ (single (ccw 6 0 0x0F 0xFC 0 0 4) K 0 device 0, seen 0 1 8 Ended 4 0 (4 ∷ 6 ∷ []) [] Z)
    ∷ (single (ccw 6 0 0x0F 0xFC 0 0 5) K 0 device 0, seen 71 1 0 First 0 0 F [] Z)
    ∷ (single (ccw 1 0xFF 0xFF 0xFF 0 0 2) K 0 [] 2, seen 71 1 0 First 0 0 F (7 ∷ 7 ∷ []) Z)
    ∷ (single (ccw 1 0 0x0F 0xFE 0 0 2) K 0 [] 2, seen 0 1 8 Ended 0 2 (4 ∷ 4 ∷ []) (0 ∷ 0 ∷ []) Z)
    ∷ (single (ccw 1 0 0x0F 0xFF 0 0 2) K 0 [] 2, seen 71 1 0 First 0 0 F (7 ∷ 7 ∷ []) Z)
    ∷ (single (ccw 1 0 0 0 0 0x10 1) K 0 [] 1, seen 71 1 0 First 0 0 F (7 ∷ []) Z)
    ∷ (single (ccw 1 1 0 0 0 0 1) K 0 [] 1, seen 71 1 0 First 0 0 F (7 ∷ []) Z)
    -- 73: bytes or room short; it comes before 72
    ∷ (single (ccw 2 0 8 0 0 0 5) (0 ∷ 0x30 ∷ []) 5 device 0, seen 73 1 0 First 0 0 (4 ∷ 0x30 ∷ []) [] Z)
    ∷ (single (ccw 2 0 8 0 0 0 4) (0 ∷ 0x30 ∷ []) 5 device 0, seen 72 1 0 First 0 0 (4 ∷ 0x30 ∷ []) [] Z)
    ∷ (single (ccw 1 0 8 0 0 1 0) (0 ∷ 0x38 ∷ []) 5 device 255, seen 73 1 0 First 0 0 (4 ∷ 0x38 ∷ []) (replicate 255 7) Z)
    ∷ []

pub rows_met : map (λ r. run r.0) rows ≡ map (λ r. r.1) rows
unfolding written any_below after_fetch after_store permitted big_endian ccw_at operation_of range_forbidden range_recorded bytes_moved first_refusal
    before_fetching before_transfer with_ccw_fetched carried_out obeyed next_ccw channel_step steps channel_run
rows_met = refl

-- what a CCW with each command asks for, its flags and count being good: of 16 commands in a row low bits 01 write, 10 read, and 1000 transfers
pub data Asked : Type 0 where
  write : Asked
  read : Asked
  transfer : Asked
  bad : Asked

abbrev asked : ChannelOperation → Asked
asked (TransferInChannel address) = transfer
asked (Data Fetch address count chains) = write
asked (Data Store address count chains) = read
asked Invalid = bad

abbrev sixteen : List Asked
sixteen =
    bad ∷ write ∷ read ∷ bad ∷ bad ∷ write ∷ read ∷ bad ∷ transfer ∷ write ∷ read ∷ bad ∷ bad ∷ write ∷ read ∷ bad ∷ []

abbrev repeated : ℕ → List Asked
repeated zero = []
repeated (suc n) = sixteen ++ repeated n

abbrev from : ℕ → ℕ → List ℕ
from zero a = []
from (suc n) a = a ∷ from n (a + 1)

pub commands : map (λ c. asked (operation_of (record { command = c; address = 0; flags = 0; count = 1 }))) (from 256 0) ≡ repeated 16
unfolding operation_of
commands = refl

-- what a CCW with each of the 256 flags asks for: hex 40 is carried, others are bad; a transfer in channel ignores them
pub flags_of_write : map (λ f. operation_of (record { command = 1; address = 0x123456; flags = f; count = 0xFEDC })) (from 256 0)
    ≡ Data Fetch 0x123456 0xFEDC false ∷ replicate 63 Invalid ++ Data Fetch 0x123456 0xFEDC true ∷ replicate 191 Invalid
unfolding operation_of
flags_of_write = refl

pub flags_of_read : map (λ f. operation_of (record { command = 2; address = 0x123456; flags = f; count = 0xFEDC })) (from 256 0)
    ≡ Data Store 0x123456 0xFEDC false ∷ replicate 63 Invalid ++ Data Store 0x123456 0xFEDC true ∷ replicate 191 Invalid
unfolding operation_of
flags_of_read = refl

pub flags_of_transfer : map (λ f. operation_of (record { command = 8; address = 0x123456; flags = f; count = f })) (from 256 0)
    ≡ replicate 256 (TransferInChannel 0x123456)
unfolding operation_of
flags_of_transfer = refl

-- a count of zero is bad, with each flag and each way
pub zero_counts : map (λ f. operation_of (record { command = 1; address = 0; flags = f; count = 0 })) (0 ∷ 0x40 ∷ [])
    ++ map (λ f. operation_of (record { command = 2; address = 0; flags = f; count = 0 })) (0 ∷ 0x40 ∷ []) ≡ replicate 4 Invalid
unfolding operation_of
zero_counts = refl

-- the CCW behind the last of 16,777,216 bytes is not that at 0
pub no_wrap : ((advanced true 0 1 (record { ccw = 0xFFFFF8; chaining = Command; taken = 0; given = 0 })).ccw ≡ 0x1000000)
    × ((advanced true 1 0 (record { ccw = 0xFFFFF8; chaining = Command; taken = 0; given = 0 })).ccw ≡ 0x1000000)
no_wrap = (refl, refl)

-- where a transfer in channel may stand: only behind a CCW that chains; data may stand anywhere
pub placed : (map transfer_allowed (First ∷ Command ∷ Transfer ∷ Ended ∷ []) ≡ false ∷ true ∷ false ∷ false ∷ [])
    × (map (program_check (Data Fetch 0 1 false)) (First ∷ Command ∷ Transfer ∷ Ended ∷ []) ≡ replicate 4 false)
placed = (refl, refl)
