-- A call by the tests that lead there: it is refused, or it is what the routine of the channel leaves, with the bytes of the progress written.
-- Assumes nothing.
use Prim.Native.Nat.{ℕ, ◌≤◌, ◌<◌}
use mathlib.Core.Path.{◌≡◌, refl, sym, ap, ◌∙◌}
use mathlib.Core.Bool.{Bool, true, false, cond}
use mathlib.Core.List.{List}
use mathlib.Core.Option.{some}
use lib.ListN.{length}
use lib.Dec.{eqb}
use borrow.Author.Tests.{lt-ltb, le-ltb, eq-eqb, eqb-true}
use Rattle.machine.specs.declared.Settings.{Settings}
use Rattle.machine.specs.declared.channel.ChannelRequest.{ChannelRequest}
use Rattle.machine.specs.declared.channel.ChannelReason.TheVariants.{Configuration}
use Rattle.machine.specs.Channel.{Refused, channel_values, Channel, channel, channel_step, answer_in, outcome_in, ChannelOutcome, channel_outcome}
use Rattle.machine.specs.Channel.{channel_run}
use Rattle.machine.specs.declared.channel.ChannelProgress.{ChannelProgress}
use Rattle.machine.specs.declared.channel.ChannelReply.{ChannelReply}
use Rattle.machine.proofs.Verdicts.{both}
use Rattle.boundary.specs.Boundary.{settings_of, packed}
use Rattle.std.proofs.Common.{Some, None, rules}
use Rattle.host_channel.specs.Reading.{progress_read}
use Rattle.host_channel.specs.ChannelCalls.{status_of, progress_valid, progress_in, progress_left, result_of, ChannelCall, channel_call, call_left}
use Rattle.host_channel.specs.ChannelCalls.{unfit_answer, call_unless, channel_called, channel_step_called}

-- a choice by a test
some_found : {A : Type 0} (b : Bool) (x s : A) → Some s ≡ cond b (Some x) None → (b ≡ true) × (s ≡ x)
some_found true x s e = (refl, cc)
some_found false x s e = search rules

some_missing : {A : Type 0} (b : Bool) (x : A) → None ≡ cond b (Some x) None → b ≡ false
some_missing true x e = search rules
some_missing false x e = refl

-- the progress in bytes, and where there is none
pub progress_found : (q : ChannelRequest) (bytes : List ℕ) {g : ChannelProgress} → Some g ≡ progress_read q bytes
    → (progress_valid bytes ≡ true) × (g ≡ progress_in q bytes)
progress_found q bytes e = some_found (progress_valid bytes) _ _ e

pub progress_wrong : (q : ChannelRequest) (bytes : List ℕ) → None ≡ progress_read q bytes → progress_valid bytes ≡ false
progress_wrong q bytes e = some_missing (progress_valid bytes) _ e

-- a progress has 32 bytes
pub valid_length : (bytes : List ℕ) → progress_valid bytes ≡ true → length bytes ≡ 32
valid_length bytes e =
    let (a, e1) = both (eqb (length bytes) 32) _ (both _ _ (both _ _ (both _ _ e).0).0).0 in
    eqb-true (length bytes) 32 a

module _ (settings : ℕ) (fit : Bool) (storage keys room progress : List ℕ) (called : ChannelCall) (result : ℕ) where
  pub settings_refused : 4 ≤ settings → result ≡ packed (channel_values (Refused Configuration))
      → channel_call result storage keys room progress ≡ call_unless settings fit storage keys room progress called
  unfolding call_unless
  settings_refused h e = rw (e, le-ltb settings 4 h)

  pub progress_refused : (s : Settings) → settings < 4 → fit ≡ false → s ≡ settings_of settings
      → result ≡ packed (channel_values (unfit_answer s (length storage) (length keys)))
      → channel_call result storage keys room progress ≡ call_unless settings fit storage keys room progress called
  unfolding call_unless
  progress_refused s h f set e = rw (e, set, lt-ltb settings 4 h, f)

  passed : settings < 4 → fit ≡ true → call_unless settings fit storage keys room progress called ≡ called
  unfolding call_unless
  passed h f = rw (lt-ltb settings 4 h, f)

module _ (settings : ℕ) (storage keys : List ℕ) (q : ChannelRequest) (from_device room progress : List ℕ) (few : settings < 4)
    (s : Settings) (set : s ≡ settings_of settings) (storage' keys' room' progress' : List ℕ) (result : ℕ) where
  -- the whole request
  pub request_called : (r : ChannelReply) → length progress ≡ 32
      → channel_outcome r storage' keys' room' ≡ channel_run s storage keys q from_device room
      → progress' ≡ progress_left r.state r.count (status_of (some (channel_values r.answer))) progress
      → result ≡ packed (channel_values r.answer)
      → channel_call result storage' keys' room' progress' ≡ channel_called settings storage keys q from_device room progress
  unfolding channel_called
  request_called r sized e g h =
      rw (h, g)
      (ap (λ (o : ChannelOutcome). call_left o progress) (rw set at e)
      ∙ sym (passed settings _ storage keys room progress _ 0 few (eq-eqb (length progress) 32 sized)))

  -- one step
  pub step_called : (before after : ChannelProgress) → Some before ≡ progress_read q progress
      → channel storage' keys' room' after ≡ channel_step s q from_device (channel storage keys room before)
      → progress' ≡ progress_left after.state after.fetched (status_of (answer_in after.standing)) progress
      → result ≡ result_of (answer_in after.standing)
      → channel_call result storage' keys' room' progress' ≡ channel_step_called settings storage keys q from_device room progress
  unfolding channel_step_called
  step_called before after read e g h =
      let (valid, is) = progress_found q progress read in
      rw (h, g)
      (ap (λ (c : Channel). call_left (outcome_in c) progress) (rw (set, is) at e)
      ∙ sym (passed settings _ storage keys room progress _ 0 few valid))
