-- Settings in a number fit where no other bit is on; else they are refused by line 64. By the two cases. Assumes nothing.
use Prim.Native.Nat.{ℕ, ◌<◌}
use mathlib.Core.Path.{◌≡◌, refl}
use mathlib.Core.Bool.{Bool, true, false, cond}
use lib.Dec.{ltb}
use borrow.Author.Tests.{ltb-true}
use Rattle.std.specs.Prelude.{Ok, Err}
use Rattle.machine.specs.declared.Settings.{Settings}
use Rattle.machine.specs.declared.Refusal.{Refusal}
use Rattle.machine.specs.declared.Reason.TheVariants.{Configuration}
use Rattle.boundary.specs.Boundary.{settings_of}
use Rattle.boundary.specs.Words.{settings_in}

-- what line 64 says of settings with another bit on
abbrev pub unfit : Refusal
unfit = record { reason = Configuration; place = 0 }

pub settings_fit : (settings : ℕ) (s : Settings) → settings_in settings ≡ Ok s → (settings < 4) × (s ≡ settings_of settings)
settings_fit settings s found = go (ltb settings 4) refl found
  where
    go : (fits : Bool) → ltb settings 4 ≡ fits → cond fits (Ok (settings_of settings)) (Err unfit) ≡ Ok s → (settings < 4) × (s ≡ settings_of settings)
    go true e found = (ltb-true settings 4 e, cc)
    go false e found = absurd cc

pub settings_unfit : (settings : ℕ) (refusal : Refusal) → settings_in settings ≡ Err refusal → (ltb settings 4 ≡ false) × (refusal ≡ unfit)
settings_unfit settings refusal found = go (ltb settings 4) refl found
  where
    go : (fits : Bool) → ltb settings 4 ≡ fits → cond fits (Ok (settings_of settings)) (Err unfit) ≡ Err refusal
        → (ltb settings 4 ≡ false) × (refusal ≡ unfit)
    go true e found = absurd cc
    go false e found = (e, cc)
