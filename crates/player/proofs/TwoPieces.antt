-- A recording in two pieces, computed: a remark cut in two, and a byte that is no record. The first call reads nothing and asks for more; the second is
-- given the three bytes again with two more, reads the remark, and writes that the second record is bad. Assumes nothing.
use Prim.Native.Nat.{ℕ}
use mathlib.Core.Path.{◌≡◌, refl}
use mathlib.Core.Bool.{true, false}
use mathlib.Core.List.{List, [], ◌∷◌}
use Rattle.house_record.specs.Little.{little}
use Rattle.house_record.specs.Records.{found}
use Rattle.trace.specs.Trace.{remark_in, kind_read, record_read, read_of}
use Rattle.player.specs.declared.Status.TheVariants.{Ended}
use Rattle.player.specs.Text.{decimal_in, bad_text}
use Rattle.player.specs.Run.{progress, start_settings}
use Rattle.player.specs.Play.{left, start_player, progress_of, state_of, judged, bad_played, read_played, record_played, played}
use Rattle.player.specs.Parts.{Call, fed}

abbrev pub two_pieces : List Call
two_pieces =
    record { piece = 2 ∷ 0 ∷ 255 ∷ []; last = false; room = 64 } ∷ record { piece = 0 ∷ 9 ∷ []; last = true; room = 64 } ∷ []

-- the line "bad record 2"
abbrev pub bad_record2 : List ℕ
bad_record2 = 98 ∷ 97 ∷ 100 ∷ 32 ∷ 114 ∷ 101 ∷ 99 ∷ 111 ∷ 114 ∷ 100 ∷ 32 ∷ 50 ∷ 10 ∷ []

pub two_pieces_lem : (storage keys : List ℕ) → fed start_settings (progress_of start_player storage keys) [] two_pieces
    ≡ left bad_record2 (progress (state_of start_player.processors storage keys) 0 2) 4 Ended
unfolding little found remark_in kind_read record_read read_of decimal_in bad_text judged bad_played read_played record_played played fed
two_pieces_lem storage keys = refl
