-- What a call leaves in the player's bytes is what the next call reads there: each field is read where it was put, and what is put after it lies
-- elsewhere. Assumes nothing.
use Prim.Native.Nat.{ℕ, ◌+◌, ◌^◌, ◌≤◌, ◌<◌}
use native.Mathlib.Omega.{arith}
use mathlib.Core.Path.{◌≡◌, refl, sym, ap, ◌∙◌}
use mathlib.Core.Logic.{inl, inr}
use mathlib.Core.List.{List, [], ◌∷◌}
use lib.ListN.{length, get_or}
use Rattle.machine.specs.declared.Processor.{Processor}
use Rattle.machine.specs.Step.{with_code, with_prefix}
use Rattle.boundary.specs.Boundary.{record_at}
use Rattle.house_record.specs.Little.{little}
use Rattle.player.specs.declared.Player.{Player}
use Rattle.player.specs.declared.Played.{Played}
use Rattle.player.specs.Run.{start_processor}
use Rattle.player.proofs.Kept.{SameControls, ControlsKept, RecordFits, NumbersFit}
use Rattle.host_player.specs.Playing.{player_in, put, put_record, player_left}
use Rattle.host_player.proofs.Fields.{length_put, put_there, little_else, record_else, length-put_record, record_put_lem, record_beside}

-- what is left of a player whose two processors are these
module _ (r : Played) (b : List ℕ) (sized : length b ≡ 48) (q0 q1 : Processor) (pair : r.player.processors ≡ q0 ∷ q1 ∷ []) where
  abbrev b1 : List ℕ
  b1 = put_record 0 q0 b

  abbrev b2 : List ℕ
  b2 = put_record 8 q1 b1

  abbrev b3 : List ℕ
  b3 = put 8 16 r.player.requests b2

  abbrev b4 : List ℕ
  b4 = put 8 24 r.player.records b3

  abbrev b5 : List ℕ
  b5 = put 8 32 r.read b4

  abbrev b6 : List ℕ
  b6 = put 8 40 r.written b5

  is_left : player_left r b ≡ b6
  unfolding player_left
  is_left = rw pair refl

  long1 : length b1 ≡ 48
  long1 = length-put_record 0 q0 b (omega arith) ∙ sized

  long2 : length b2 ≡ 48
  long2 = length-put_record 8 q1 b1 (omega (arith, long1)) ∙ long1

  room3 : 16 + 8 ≤ length b2
  room3 = omega (arith, long2)

  long3 : length b3 ≡ 48
  long3 = length_put 8 16 r.player.requests b2 room3 ∙ long2

  room4 : 24 + 8 ≤ length b3
  room4 = omega (arith, long3)

  long4 : length b4 ≡ 48
  long4 = length_put 8 24 r.player.records b3 room4 ∙ long3

  room5 : 32 + 8 ≤ length b4
  room5 = omega (arith, long4)

  long5 : length b5 ≡ 48
  long5 = length_put 8 32 r.read b4 room5 ∙ long4

  room6 : 40 + 8 ≤ length b5
  room6 = omega (arith, long5)

  left_length : length (player_left r b) ≡ 48
  left_length = ap length is_left ∙ length_put 8 40 r.written b5 room6 ∙ long5

  left_written : r.written < 256 ^ 8 → little 8 (player_left r b) 40 ≡ r.written
  left_written h = ap (λ (l : List ℕ). little 8 l 40) is_left ∙ put_there 8 40 r.written b5 room6 h

  left_read : r.read < 256 ^ 8 → little 8 (player_left r b) 32 ≡ r.read
  left_read h =
      ap (λ (l : List ℕ). little 8 l 32) is_left
      ∙ little_else 8 40 r.written b5 room6 8 32 (inl (omega arith))
      ∙ put_there 8 32 r.read b4 room5 h

  left_records : r.player.records < 256 ^ 8 → little 8 b6 24 ≡ r.player.records
  left_records h =
      little_else 8 40 r.written b5 room6 8 24 (inl (omega arith))
      ∙ little_else 8 32 r.read b4 room5 8 24 (inl (omega arith))
      ∙ put_there 8 24 r.player.records b3 room4 h

  left_requests : r.player.requests < 256 ^ 8 → little 8 b6 16 ≡ r.player.requests
  left_requests h =
      little_else 8 40 r.written b5 room6 8 16 (inl (omega arith))
      ∙ little_else 8 32 r.read b4 room5 8 16 (inl (omega arith))
      ∙ little_else 8 24 r.player.records b3 room4 8 16 (inl (omega arith))
      ∙ put_there 8 16 r.player.requests b2 room3 h

  -- the numbers behind the records are put elsewhere
  numbers_beside : (a : ℕ) → a + 8 ≤ 16 → record_at b6 a ≡ record_at b2 a
  numbers_beside a h =
      record_else 8 40 r.written b5 room6 a (inl (omega arith))
      ∙ record_else 8 32 r.read b4 room5 a (inl (omega arith))
      ∙ record_else 8 24 r.player.records b3 room4 a (inl (omega arith))
      ∙ record_else 8 16 r.player.requests b2 room3 a (inl (omega arith))

  left_first : RecordFits q0 → SameControls q0 (record_at b 0) → record_at b6 0 ≡ q0
  left_first f same =
      numbers_beside 0 (omega arith)
      ∙ record_beside 8 q1 b1 (omega (arith, long1)) 0 (inl (omega arith))
      ∙ record_put_lem 0 q0 b (omega arith) f.0 f.1
      ∙ sym same

  left_second : RecordFits q1 → SameControls q1 (record_at b 8) → record_at b6 8 ≡ q1
  left_second f same =
      numbers_beside 8 (omega arith)
      ∙ record_put_lem 8 q1 b1 (omega (arith, long1)) f.0 f.1
      ∙ ap (λ (p : Processor). with_prefix (with_code p q1.code) q1.prefix) (record_beside 0 q0 b (omega arith) 8 (inr (omega arith)))
      ∙ sym same

  pair_is_read : RecordFits q0 → RecordFits q1 → SameControls q0 (record_at b 0) → SameControls q1 (record_at b 8)
      → r.player.requests < 256 ^ 8 → r.player.records < 256 ^ 8 → player_in (player_left r b) ≡ r.player
  pair_is_read f0 f1 s0 s1 n m =
      ap player_in is_left
      ∙ rw (left_first f0 s0, left_second f1 s1, left_requests n, left_records m) (built r.player pair)
    where
      built : (p : Player) → p.processors ≡ q0 ∷ q1 ∷ [] → record { processors = q0 ∷ q1 ∷ []; requests = p.requests; records = p.records } ≡ p
      built p e = ap (λ (ps : List Processor). record { processors = ps; requests = p.requests; records = p.records }) (sym e)

-- two records are a pair
pub pair_of : (ps : List Processor) (d : Processor) → length ps ≡ 2 → ps ≡ get_or ps 0 d ∷ get_or ps 1 d ∷ []
pair_of [] d e = absurd (omega arith)
pair_of (p ∷ []) d e = absurd (omega arith)
pair_of (p ∷ q ∷ []) d e = refl
pair_of (p ∷ q ∷ x ∷ ps) d e = absurd (omega arith)

-- all numbers of a player fit their fields
abbrev pub PlayerFits : Player → Type 0
PlayerFits p = NumbersFit p.processors p.requests p.records

-- what is left, where only condition codes and prefixes differ from the player that was read
module _ (r : Played) (b : List ℕ) (sized : length b ≡ 48) (kept : ControlsKept r.player.processors (player_in b).processors) where
  abbrev first : Processor
  first = get_or r.player.processors 0 start_processor

  abbrev second : Processor
  second = get_or r.player.processors 1 start_processor

  pair : r.player.processors ≡ first ∷ second ∷ []
  pair = pair_of r.player.processors start_processor kept.0

  pub left_is_read : PlayerFits r.player → player_in (player_left r b) ≡ r.player
  left_is_read fits =
      pair_is_read r b sized first second pair (fits.each 0) (fits.each 1) (kept.1 0 start_processor) (kept.1 1 start_processor) fits.requests
      fits.records

  pub left_has_48 : length (player_left r b) ≡ 48
  left_has_48 = left_length r b sized first second pair

  pub read_is_read : r.read < 18446744073709551616 → little 8 (player_left r b) 32 ≡ r.read
  read_is_read h = left_read r b sized first second pair h

  pub written_is_read : r.written < 18446744073709551616 → little 8 (player_left r b) 40 ≡ r.written
  written_is_read h = left_written r b sized first second pair h
