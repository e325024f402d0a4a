-- One CCW, line by line: which refusal stands where a line holds and those above it do not, and what is done where none holds. Each law takes
-- what the tests and calls gave as its hypotheses; a refusal leaves all but the progress.
-- Assumes nothing.
use Prim.Native.Nat.{ℕ, ◌+◌, ◌%◌, ◌<◌, ◌≤◌}
use mathlib.Core.Path.{◌≡◌, refl, sym, ap, ◌∙◌}
use mathlib.Core.Bool.{Bool, true, false, not, ◌||◌}
use mathlib.Core.List.{List}
use mathlib.Core.Option.{none}
use native.Mathlib.Omega.{arith}
use lib.Dec.{eqb, ltb}
use lib.ListN.{length, get_or, set}
use borrow.Author.Tests.{le-ltb, lt-ltb, le-leb, lt-leb, ne_eqb, eqb-true, not-false}
use Rattle.machine.specs.declared.Settings.{Settings}
use Rattle.machine.specs.declared.AccessKind.{AccessKind}
use Rattle.machine.specs.declared.AccessKind.TheVariants.{Fetch, Store}
use Rattle.machine.specs.declared.channel.Ccw.{Ccw}
use Rattle.machine.specs.declared.channel.ChannelRequest.{ChannelRequest}
use Rattle.machine.specs.declared.channel.ChannelReason.{ChannelReason}
use Rattle.machine.specs.declared.channel.ChannelReason.TheVariants.{GrantUsed, Program, Protection, Device}
use Rattle.machine.specs.Channel.{Refused, Answered, ccw_at, operation_of, outside, range_forbidden, range_recorded, bytes_moved, Channel, channel}
use Rattle.machine.specs.Channel.{standing_as, first_refusal, address_lines, before_fetching, device_short, transfer_allowed, before_transfer}
use Rattle.machine.specs.Channel.{with_ccw_fetched, after_data, carried_out, obeyed, next_ccw}
use Rattle.machine.specs.declared.channel.ChannelOperation.{ChannelOperation}
use Rattle.machine.specs.declared.channel.ChannelOperation.TheVariants.{TransferInChannel, Data, Invalid}
use Rattle.machine.specs.declared.channel.ChannelProgress.{ChannelProgress}
use Rattle.machine.specs.Numbers.{unit_of}
use Rattle.machine.specs.Protection.{permitted, recorded}
use Rattle.machine.proofs.Verdicts.{neither}
use Rattle.channel.specs.Requests.{Passed, counted, device_left, after_transfer}
use Rattle.channel.proofs.Ranges.{ccw_forbidden, ccw_recorded}

module _ (s : Settings) (q : ChannelRequest) (from_device storage keys room : List ℕ) (g : ChannelProgress) where
  -- what is there, the same with another progress, and the progress of a refusal
  abbrev found : ChannelProgress → Channel
  found r = channel storage keys room r

  abbrev Refusal : ChannelReason → ChannelProgress → Type 0
  Refusal reason r = r ≡ standing_as g (Answered (Refused reason))

  -- the CCW to come
  abbrev ccw : ℕ
  ccw = g.state.ccw

  module _ (passed : Passed s (length storage) (length keys) q) where
    address_lines_lem : before_fetching s q (found g) ≡ first_refusal (address_lines (length storage) q g)
    unfolding before_fetching first_refusal
    address_lines_lem =
        let granted : eqb q.grant 0 ≡ false = ne_eqb q.grant 0 (λ e. omega (arith, passed.granted)) in
        rw (passed.lengths, le-ltb 15 q.key passed.key, granted, le-ltb 256 q.grant passed.limited) refl

    pub used_up : {r : ChannelProgress} → Refusal GrantUsed r → q.grant ≤ g.fetched → found r ≡ next_ccw s q from_device (found g)
    unfolding next_ccw first_refusal
    used_up refusal h = rw (refusal, address_lines_lem, le-leb q.grant g.fetched h) refl

    module _ (granted : g.fetched < q.grant) where
      pub misplaced : {r : ChannelProgress} → Refusal Program r → not (eqb (ccw % 8) 0) || outside (length storage) ccw 8 ≡ true
          → found r ≡ next_ccw s q from_device (found g)
      unfolding next_ccw first_refusal
      misplaced refusal h = rw (refusal, address_lines_lem, lt-leb q.grant g.fetched granted, h) refl

      module _ (placed : not (eqb (ccw % 8) 0) || outside (length storage) ccw 8 ≡ false) {unit : ℕ} (unit_is : unit ≡ unit_of s ccw) where
        no_line : before_fetching s q (found g) ≡ none
        unfolding first_refusal
        no_line = rw (address_lines_lem, lt-leb q.grant g.fetched granted, placed) refl

        multiple : ccw % 8 ≡ 0
        multiple = eqb-true _ _ (not-false _ (neither _ _ placed).0)

        pub forbidden : {r : ChannelProgress} {answer : Bool} → Refusal Protection r → answer ≡ permitted Fetch q.key (get_or keys unit 0) → answer ≡ false
            → found r ≡ next_ccw s q from_device (found g)
        unfolding next_ccw
        forbidden refusal said denied =
            let held : range_forbidden s Fetch q.key keys ccw 8 ≡ true =
            sym (ccw_forbidden s keys ccw unit multiple unit_is Fetch q.key) ∙ ap not (sym said ∙ denied) in
            rw (refusal, no_line, held) refl

        pub fetched : {answer : Bool} {key : ℕ} {word : Ccw} {operation : ChannelOperation} {g' : ChannelProgress}
            → answer ≡ permitted Fetch q.key (get_or keys unit 0) → answer ≡ true → key ≡ recorded Fetch (get_or keys unit 0)
            → word ≡ ccw_at storage ccw → operation ≡ operation_of word → g' ≡ counted g
            → {storage' keys' room' : List ℕ} {r : ChannelProgress}
            → channel storage' keys' room' r ≡ obeyed s q from_device operation (channel storage (set keys unit key) room g')
            → channel storage' keys' room' r ≡ next_ccw s q from_device (found g)
        unfolding next_ccw with_ccw_fetched
        fetched {key = key} {word = word} {operation = operation} {g' = g'} said allowed key_is word_is operation_is counted_is obeyed_is =
            let free : range_forbidden s Fetch q.key keys ccw 8 ≡ false =
            sym (ccw_forbidden s keys ccw unit multiple unit_is Fetch q.key) ∙ ap not (sym said ∙ allowed) in
            let marked : set keys unit key ≡ range_recorded s Fetch keys ccw 8 =
            ap (set keys unit) key_is ∙ ccw_recorded s keys ccw unit multiple unit_is Fetch in
            obeyed_is ∙ rw (no_line, free, operation_is, word_is, counted_is, marked) refl

  -- a transfer in channel, and a CCW that is bad
  pub control_transferred : {r : ChannelProgress} {operation : ChannelOperation} (address : ℕ) → operation ≡ TransferInChannel address
      → r ≡ after_transfer address g → found r ≡ obeyed s q from_device operation (found g)
  unfolding obeyed before_transfer first_refusal after_transfer carried_out
  control_transferred {r} address is after = rw (is, after) (go (transfer_allowed g.state.chaining) refl)
    where
      go : (b : Bool) → transfer_allowed g.state.chaining ≡ b
          → found (after_transfer address g) ≡ obeyed s q from_device (TransferInChannel address) (found g)
      go true e = rw e refl
      go false e = rw e refl

  pub bad : {r : ChannelProgress} {operation : ChannelOperation} → operation ≡ Invalid → Refusal Program r
      → found r ≡ obeyed s q from_device operation (found g)
  unfolding obeyed before_transfer first_refusal
  bad is refusal = rw (is, refusal) refl

  -- data
  module _ (kind : AccessKind) (address count : ℕ) (chains : Bool) where
    abbrev asked : ChannelOperation
    asked = Data kind address count chains

    pub data_outside_lem : {r : ChannelProgress} → Refusal Program r → length storage < address + count → found r ≡ obeyed s q from_device asked (found g)
    unfolding obeyed before_transfer first_refusal
    data_outside_lem refusal h = rw (refusal, lt-ltb (length storage) (address + count) h) refl

    module _ (inside : address + count ≤ length storage) {left : ℕ} (left_is : left ≡ device_left kind (length from_device) (length room) g.state) where
      short_if : device_short asked (length from_device) (length room) g.state ≡ ltb left count
      short_if = rw left_is (go kind)
        where
          go : (k : AccessKind) → device_short (Data k address count chains) (length from_device) (length room) g.state
              ≡ ltb (device_left k (length from_device) (length room) g.state) count
          go Fetch = refl
          go Store = refl

      pub device_short_lem : {r : ChannelProgress} → Refusal Device r → left < count → found r ≡ obeyed s q from_device asked (found g)
      unfolding obeyed before_transfer first_refusal
      device_short_lem refusal h = rw (refusal, le-ltb (length storage) (address + count) inside, short_if, lt-ltb left count h) refl

      module _ (enough : count ≤ left) {answer : Bool} (said : answer ≡ range_forbidden s kind q.key keys address count) where
        pub data_forbidden_lem : {r : ChannelProgress} → Refusal Protection r → answer ≡ true → found r ≡ obeyed s q from_device asked (found g)
        unfolding obeyed before_transfer first_refusal
        data_forbidden_lem refusal denied =
            rw (refusal, le-ltb (length storage) (address + count) inside, short_if, le-ltb left count enough, sym said ∙ denied) refl

        module _ (allowed : answer ≡ false) where
          carried : carried_out asked s from_device (found g) ≡ obeyed s q from_device asked (found g)
          unfolding obeyed before_transfer first_refusal
          carried = rw (le-ltb (length storage) (address + count) inside, short_if, le-ltb left count enough, sym said ∙ allowed) refl

          pub given : kind ≡ Fetch → {keys' room' : List ℕ} {r : ChannelProgress}
              → (keys' ≡ range_recorded s Fetch keys address count)
              × (room' ≡ bytes_moved room g.state.given storage address count)
              × (r ≡ after_data chains 0 count g)
              → channel storage keys' room' r ≡ obeyed s q from_device asked (found g)
          unfolding carried_out
          given is (keyed, moved, after) = rw (keyed, moved, after) (rw is refl) ∙ carried

          pub taken : kind ≡ Store → {keys' storage' : List ℕ} {r : ChannelProgress}
              → (keys' ≡ range_recorded s Store keys address count)
              × (storage' ≡ bytes_moved storage address from_device g.state.taken count)
              × (r ≡ after_data chains count 0 g)
              → channel storage' keys' room r ≡ obeyed s q from_device asked (found g)
          unfolding carried_out
          taken is (keyed, moved, after) = rw (keyed, moved, after) (rw is refl) ∙ carried
