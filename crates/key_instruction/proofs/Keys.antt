-- The keys as the code reads and writes them are the rules': one key as two that are the same, each written by what was read before.
-- Assumes nothing.
use Prim.Native.Nat.{ℕ, ◌+◌}
use mathlib.Core.Path.{◌≡◌, refl}
use mathlib.Core.Bool.{Bool, true, false, cond}
use mathlib.Core.List.{List}
use native.Mathlib.Nat.{add-zero}
use lib.ListN.{get_or, set}
use lib.Seq.{set-set}
use Rattle.machine.specs.declared.KeyOperation.TheVariants.{Set, Reset}
use Rattle.machine.specs.Key.{key_in_word, after_reset, joined}
use Rattle.machine.specs.Lists.{written}
use Rattle.machine.specs.KeyInstructions.{key_read, keys_left}
use Rattle.machine.proofs.KeyBytes.{joined_with_itself}

module _ (keys : List ℕ) (u : ℕ) where
  pub joined_is_read : (two : Bool) → joined (get_or keys u 0) (get_or keys (u + cond two 1 0) 0) ≡ key_read keys u two
  joined_is_read true = refl
  joined_is_read false = rw add-zero (joined_with_itself (get_or keys u 0))

  pub keys_set : (two : Bool) (r1 : ℕ)
      → set (set keys u (key_in_word r1)) (u + cond two 1 0) (key_in_word r1) ≡ keys_left keys u two (Set r1)
  unfolding keys_left written
  keys_set true r1 = simp add-zero
  keys_set false r1 = rw add-zero (set-set keys u (key_in_word r1) (key_in_word r1))

  pub keys_reset : (two : Bool)
      → set (set keys u (after_reset (get_or keys u 0))) (u + cond two 1 0) (after_reset (get_or keys (u + cond two 1 0) 0))
      ≡ keys_left keys u two Reset
  unfolding keys_left written
  keys_reset true = simp add-zero
  keys_reset false = simp add-zero (set-set keys u (after_reset (get_or keys u 0)) (after_reset (get_or keys u 0)))
