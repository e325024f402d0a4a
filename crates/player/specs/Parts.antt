-- A recording that comes in pieces: the calls of `play` on them, and the claim that they play the run of the whole recording, whatever the pieces are.
use Rattle.std.specs.Prelude.{ℕ, ◌+◌, ◌-◌, ◌<◌, ◌≡◌, Bool, true, false, cond, List, [], ◌∷◌, ◌++◌, length, drop}
use Rattle.machine.specs.declared.Settings.{Settings}
use Rattle.machine.specs.Turns.{State}
use Rattle.player.specs.declared.Status.{Status}
use Rattle.player.specs.declared.Status.TheVariants.{Passed, More, Ended, Room, Limit}
use Rattle.player.specs.Run.{Progress, run_from, text_of}
use Rattle.player.specs.Play.{Left, left, judged, ordinals_used, then, played}

-- what the run writes that goes on from p with these bytes, and the state that it leaves
abbrev pub text_from : Settings → Progress → List ℕ → List ℕ
text_from s p bytes = text_of (run_from (length bytes) s p bytes)

abbrev pub state_from : Settings → Progress → List ℕ → State
state_from s p bytes = (run_from (length bytes) s p bytes).state

abbrev pub is_ended : Status → Bool
is_ended Ended = true
is_ended Passed = false
is_ended More = false
is_ended Room = false
is_ended Limit = false

-- the same after a call: where it has ended the run, nothing more is written and the state stays
abbrev pub text_after : Status → Settings → Progress → List ℕ → List ℕ
text_after status s p bytes = cond (is_ended status) [] (text_from s p bytes)

abbrev pub state_after : Status → Settings → Progress → List ℕ → State
state_after status s p bytes = cond (is_ended status) p.state (state_from s p bytes)

-- a call on these bytes leaves the front of the run, t being the bytes that follow them
pub record FrontOfRun (s : Settings) (p : Progress) (bytes t : List ℕ) (o : Left) : Type 0 where
  pub text : text_from s p (bytes ++ t) ≡ o.text ++ text_after o.status s o.progress (drop o.read bytes ++ t)
  pub state : state_from s p (bytes ++ t) ≡ state_after o.status s o.progress (drop o.read bytes ++ t)

-- the claim for one call of `play`, with any room: for all bytes that may follow, and none where `last` says that none do
abbrev pub PlayIsRun : Type 0
PlayIsRun =
    (n : ℕ) (s : Settings) (last : Bool) (room : ℕ) (p : Progress) (bytes t : List ℕ) → (last ≡ true → t ≡ [])
    → FrontOfRun s p bytes t (played n s last room p bytes)

-- why `play` stops. It never answers that another record may follow. It asks for more bytes only where the record in front of those that are not
-- read cannot be judged, and something may come behind them; for room only where less than 64 bytes are left
abbrev pub Stopped : Status → (last : Bool) (unread : List ℕ) (room : ℕ) → Progress → Type 0
Stopped Passed last unread room p = ⊥
Stopped More last unread room p = (last ≡ false) × (judged unread ≡ false)
Stopped Ended last unread room p = Unit {0}
Stopped Room last unread room p = room < 64
Stopped Limit last unread room p = ordinals_used p ≡ true

abbrev pub WhyStopped : Type 0
WhyStopped =
    (s : Settings) (last : Bool) (room : ℕ) (p : Progress) (bytes : List ℕ)
    → let o = played (length bytes + 1) s last room p bytes in
    Stopped o.status last (drop o.read bytes) (room - length o.text) o.progress

-- a call of a list of calls: the piece of the recording that is put behind the bytes not yet read, `last`, and the room
pub record Call : Type 0 where
  pub piece : List ℕ
  pub last : Bool
  pub room : ℕ

-- the pieces of the calls joined
unfoldable pub joined : List Call → List ℕ
joined [] = []
joined (c ∷ cs) = c.piece ++ joined cs

-- `last` is said only where nothing comes behind
abbrev pub LastIsLast : List Call → Type 0
LastIsLast [] = Unit {0}
LastIsLast (c ∷ cs) = (c.last ≡ true → joined cs ≡ []) × LastIsLast cs

-- what the calls leave, one after the other, until one ends the run
unfoldable pub fed : Settings → Progress → (unread : List ℕ) → List Call → Left
fed s p unread [] = left [] p 0 More
fed s p unread (c ∷ cs) =
    let bytes = unread ++ c.piece in
    let o = played (length bytes + 1) s c.last c.room p bytes in
    cond (is_ended o.status) o (then o (fed s o.progress (drop o.read bytes) cs))

-- the claim for all calls together
abbrev pub AnyPieces : Type 0
AnyPieces =
    (s : Settings) (p : Progress) (unread : List ℕ) (calls : List Call) → LastIsLast calls
    → FrontOfRun s p (unread ++ joined calls) [] (fed s p unread calls)
