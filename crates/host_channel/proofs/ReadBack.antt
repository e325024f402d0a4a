-- A progress that a call leaves is a progress, and the next call reads it as it was left: so each call of one step does the next step of the
-- request. Each field is found where it was written, since the fields lie apart. Assumes nothing.
use Prim.Native.Nat.{ℕ, ◌+◌, ◌*◌, ◌^◌, ◌<◌, ◌≤◌}
use mathlib.Core.Path.{◌≡◌, refl, sym, ap, ◌∙◌}
use mathlib.Core.Bool.{true, false}
use mathlib.Core.Logic.{◌⊎◌, inl, inr}
use mathlib.Core.List.{List, []}
use native.Mathlib.Nat.{add_assoc}
use native.Mathlib.Omega.{arith}
use lib.ListN.{length, get_or}
use lib.Dec.{eqb}
use borrow.Author.Tests.{le-leb}
use Rattle.machine.specs.declared.channel.ChannelRequest.{ChannelRequest}
use Rattle.machine.specs.declared.channel.Chaining.{Chaining}
use Rattle.machine.specs.declared.channel.Chaining.TheVariants.{First, Command, Transfer, Ended}
use Rattle.machine.specs.declared.channel.ChannelReason.TheVariants.{Configuration, ChannelKey, Grant, GrantUsed, Program, Protection, Device}
use Rattle.machine.specs.Channel.{Completed, Refused, Standing, UnderWay, Answered, answer_in}
use Rattle.machine.specs.declared.channel.ChannelProgress.{ChannelProgress}
use Rattle.machine.proofs.Written.{length-written, written_there, written_elsewhere}
use Rattle.house_record.specs.Little.{little, little_bytes}
use Rattle.house_record.proofs.LittleBytes.{little_same, little-append, little-written, length-little_bytes}
use Rattle.host_channel.specs.ChannelCalls.{chaining_number, chaining_of, status_of, status_valid, standing_of, progress_valid, progress_in, put, progress_left}

module _ (n at v : ℕ) (b : List ℕ) where
  put_length : length (put n at v b) ≡ length b
  put_length = length-written b (λ i. at + i) (λ i. get_or (little_bytes n v) i 0) n

  -- m bytes of the field that was written, from its byte k on
  part_written : (m k : ℕ) → k + m ≤ n → at + n ≤ length b → little m (put n at v b) (at + k) ≡ little m (little_bytes n v) k
  part_written m k within fits =
      little_same m (put n at v b) (little_bytes n v) (at + k) k (λ i h.
      rw (add_assoc at k i)
      (written_there b (λ j. at + j) (λ j. get_or (little_bytes n v) j 0) n (k + i) (omega arith) (omega arith)
      (λ j l e. ap (λ x. get_or (little_bytes n v) x 0) (omega (arith, e)))))

  -- and bytes that lie apart from it
  apart_kept : (m place : ℕ) → (place + m ≤ at) ⊎ (at + n ≤ place) → little m (put n at v b) place ≡ little m b place
  apart_kept m place h = little_same m (put n at v b) b place place (λ i l. written_elsewhere b _ _ n (place + i) (λ j k e. other h i l j k e))
    where
      other : (place + m ≤ at) ⊎ (at + n ≤ place) → (i : ℕ) → i < m → (j : ℕ) → j < n → at + j ≡ place + i → ⊥
      other (inl before) i l j k e = omega (arith, e)
      other (inr behind) i l j k e = omega (arith, e)

-- a number that fits its bytes
whole_field : (n v : ℕ) → v < 256 ^ n → little n (little_bytes n v) 0 ≡ v
whole_field n v h = sym (little-append n (little_bytes n v) [] 0 (omega (arith, length-little_bytes n v))) ∙ little-written n v [] h

chaining_back : (c : Chaining) → chaining_of (chaining_number c) ≡ c
chaining_back First = refl
chaining_back Command = refl
chaining_back Transfer = refl
chaining_back Ended = refl

chaining_small : (c : Chaining) → chaining_number c ≤ 3
chaining_small First = omega arith
chaining_small Command = omega arith
chaining_small Transfer = omega arith
chaining_small Ended = omega arith

-- the status of a standing: it is read back, it is one of the numbers, it is not 0, and it fits a byte
record Status (standing : Standing) (status : ℕ) : Type 0 where
  back : standing_of status ≡ standing
  valid : status_valid status ≡ true
  begun : eqb status 0 ≡ false
  small : status < 256

status_of_lem : (standing : Standing) → Status standing (status_of (answer_in standing))
status_of_lem UnderWay = record { back = refl; valid = refl; begun = refl; small = omega arith }
status_of_lem (Answered Completed) = record { back = refl; valid = refl; begun = refl; small = omega arith }
status_of_lem (Answered (Refused Configuration)) = record { back = refl; valid = refl; begun = refl; small = omega arith }
status_of_lem (Answered (Refused ChannelKey)) = record { back = refl; valid = refl; begun = refl; small = omega arith }
status_of_lem (Answered (Refused Grant)) = record { back = refl; valid = refl; begun = refl; small = omega arith }
status_of_lem (Answered (Refused GrantUsed)) = record { back = refl; valid = refl; begun = refl; small = omega arith }
status_of_lem (Answered (Refused Program)) = record { back = refl; valid = refl; begun = refl; small = omega arith }
status_of_lem (Answered (Refused Protection)) = record { back = refl; valid = refl; begun = refl; small = omega arith }
status_of_lem (Answered (Refused Device)) = record { back = refl; valid = refl; begun = refl; small = omega arith }

-- the bytes that a call leaves where the request stands at g
module _ (q : ChannelRequest) (g : ChannelProgress) (bytes : List ℕ) (sized : length bytes ≡ 32) (ccw : g.state.ccw < 256 ^ 4)
    (fetched : g.fetched < 256 ^ 4) (taken : g.state.taken < 256 ^ 8) (given : g.state.given < 256 ^ 8) where
  abbrev status : ℕ
  status = status_of (answer_in g.standing)

  abbrev middle : ℕ
  middle = chaining_number g.state.chaining + status * 256

  abbrev left : List ℕ
  left = progress_left g.state g.fetched status bytes

  -- the bytes after each field is written
  abbrev b1 : List ℕ
  b1 = put 4 0 g.state.ccw bytes

  abbrev b2 : List ℕ
  b2 = put 4 4 middle b1

  abbrev b3 : List ℕ
  b3 = put 4 8 g.fetched b2

  abbrev b4 : List ℕ
  b4 = put 4 12 0 b3

  abbrev b5 : List ℕ
  b5 = put 8 16 g.state.taken b4

  length_1 : length b1 ≡ 32
  length_1 = put_length 4 0 g.state.ccw bytes ∙ sized

  length_2 : length b2 ≡ 32
  length_2 = put_length 4 4 middle b1 ∙ length_1

  length_3 : length b3 ≡ 32
  length_3 = put_length 4 8 g.fetched b2 ∙ length_2

  length_4 : length b4 ≡ 32
  length_4 = put_length 4 12 0 b3 ∙ length_3

  length_5 : length b5 ≡ 32
  length_5 = put_length 8 16 g.state.taken b4 ∙ length_4

  length_left : length left ≡ 32
  unfolding progress_left
  length_left = put_length 8 24 g.state.given b5 ∙ length_5

  -- bytes in front of the last fields stay as the fields behind them are written
  behind_1 : (m place : ℕ) → place + m ≤ 4 → little m left place ≡ little m b1 place
  unfolding progress_left
  behind_1 m place h =
      apart_kept 8 24 _ b5 m place (inl (omega arith)) ∙ apart_kept 8 16 _ b4 m place (inl (omega arith)) ∙ apart_kept 4 12 _ b3 m place (inl (omega arith))
      ∙ apart_kept 4 8 _ b2 m place (inl (omega arith)) ∙ apart_kept 4 4 _ b1 m place (inl (omega arith))

  behind_2 : (m place : ℕ) → place + m ≤ 8 → little m left place ≡ little m b2 place
  unfolding progress_left
  behind_2 m place h =
      apart_kept 8 24 _ b5 m place (inl (omega arith)) ∙ apart_kept 8 16 _ b4 m place (inl (omega arith)) ∙ apart_kept 4 12 _ b3 m place (inl (omega arith))
      ∙ apart_kept 4 8 _ b2 m place (inl (omega arith))

  address_read : little 4 left 0 ≡ g.state.ccw
  address_read = behind_1 4 0 (omega arith) ∙ part_written 4 0 _ bytes 4 0 (omega arith) (omega arith) ∙ whole_field 4 _ ccw

  chaining_read : little 1 left 4 ≡ chaining_number g.state.chaining
  unfolding little little_bytes
  chaining_read =
      behind_2 1 4 (omega arith) ∙ part_written 4 4 middle b1 1 0 (omega arith) (omega (arith, length_1))
      ∙ omega (arith, chaining_small g.state.chaining, (status_of_lem g.standing).small)

  status_read : little 1 left 5 ≡ status
  unfolding little little_bytes
  status_read =
      behind_2 1 5 (omega arith) ∙ part_written 4 4 middle b1 1 1 (omega arith) (omega (arith, length_1))
      ∙ omega (arith, chaining_small g.state.chaining, (status_of_lem g.standing).small)

  zeros_read : little 2 left 6 ≡ 0
  unfolding little little_bytes
  zeros_read =
      behind_2 2 6 (omega arith) ∙ part_written 4 4 middle b1 2 2 (omega arith) (omega (arith, length_1))
      ∙ omega (arith, chaining_small g.state.chaining, (status_of_lem g.standing).small)

  count_read : little 4 left 8 ≡ g.fetched
  unfolding progress_left
  count_read =
      apart_kept 8 24 _ b5 4 8 (inl (omega arith)) ∙ apart_kept 8 16 _ b4 4 8 (inl (omega arith)) ∙ apart_kept 4 12 _ b3 4 8 (inl (omega arith))
      ∙ part_written 4 8 _ b2 4 0 (omega arith) (omega (arith, length_2)) ∙ whole_field 4 _ fetched

  more_zeros_read : little 4 left 12 ≡ 0
  unfolding progress_left
  more_zeros_read =
      apart_kept 8 24 _ b5 4 12 (inl (omega arith)) ∙ apart_kept 8 16 _ b4 4 12 (inl (omega arith))
      ∙ part_written 4 12 0 b3 4 0 (omega arith) (omega (arith, length_3)) ∙ whole_field 4 0 (omega arith)

  taken_read : little 8 left 16 ≡ g.state.taken
  unfolding progress_left
  taken_read =
      apart_kept 8 24 _ b5 8 16 (inl (omega arith)) ∙ part_written 8 16 _ b4 8 0 (omega arith) (omega (arith, length_4)) ∙ whole_field 8 _ taken

  given_read : little 8 left 24 ≡ g.state.given
  unfolding progress_left
  given_read = part_written 8 24 _ b5 8 0 (omega arith) (omega (arith, length_5)) ∙ whole_field 8 _ given

  -- they are a progress, and it is g
  pub left_is_progress : progress_valid left ≡ true
  left_is_progress =
      let small = le-leb _ 3 (chaining_small g.state.chaining) in
      rw (length_left, chaining_read, status_read, zeros_read, more_zeros_read, small, (status_of_lem g.standing).valid)

  pub left_is_read : progress_in q left ≡ g
  left_is_read =
      rw (
        address_read,
        chaining_read,
        status_read,
        count_read,
        taken_read,
        given_read,
        (status_of_lem g.standing).begun,
        chaining_back g.state.chaining,
        (status_of_lem g.standing).back,
      )
