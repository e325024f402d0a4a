-- The bytes of a unit: byte i of it is that at unit number times key unit + i, and these are exactly the addresses of the unit; inside storage it
-- has a whole key unit of them. So storages of one length that agree at each address of a unit hold the same bytes in it. The proofs go by the
-- laws of a part of a list.
-- Assumes nothing.
use Prim.Native.Nat.{ℕ, ◌+◌, ◌-◌, ◌*◌, ◌/◌, ◌%◌, ◌<◌, ◌≤◌, min}
use mathlib.Core.Path.{◌≡◌, sym, ap, ◌∙◌}
use mathlib.Core.Bool.{Bool, true, false, cond}
use mathlib.Core.Logic.{◌≢◌}
use mathlib.Core.List.{List}
use native.Mathlib.Omega.{arith}
use lib.ListN.{length, get_or, drop, length-take, length-drop}
use lib.Seq.{get_or-take, get_or-drop, ext_get_or}
use Rattle.machine.specs.declared.Settings.{Settings}
use Rattle.machine.specs.Numbers.{unit_size, unit_of, unit_bytes}

module _ (s : Settings) where
  -- the addresses of a unit are those from its number times the key unit on, a key unit of them
  pub unit_address : (u i : ℕ) → i < unit_size s → unit_of s (u * unit_size s + i) ≡ u
  unit_address u i = go s.four_k
    where
      go : (b : Bool) → i < cond b 4096 2048 → (u * cond b 4096 2048 + i) / cond b 4096 2048 ≡ u
      go true h = omega arith
      go false h = omega arith

  pub place_in_unit : (a : ℕ) → (a % unit_size s < unit_size s) × (unit_of s a * unit_size s + a % unit_size s ≡ a)
  place_in_unit a = go s.four_k
    where
      go : (b : Bool) → (a % cond b 4096 2048 < cond b 4096 2048) × (a / cond b 4096 2048 * cond b 4096 2048 + a % cond b 4096 2048 ≡ a)
      go true = (omega arith, omega arith)
      go false = (omega arith, omega arith)

  module _ (storage : List ℕ) where
    -- byte i of unit u
    pub unit_byte : (u i : ℕ) → i < unit_size s → get_or (unit_bytes s storage u) i 0 ≡ get_or storage (u * unit_size s + i) 0
    unfolding unit_bytes
    unit_byte u i h = get_or-take (unit_size s) (drop (u * unit_size s) storage) i 0 h ∙ get_or-drop (u * unit_size s) storage i 0

    -- the byte at an address, by its unit
    pub byte_of_unit : (a : ℕ) → get_or (unit_bytes s storage (unit_of s a)) (a % unit_size s) 0 ≡ get_or storage a 0
    byte_of_unit a =
        let (small, whole) = place_in_unit a in
        unit_byte (unit_of s a) (a % unit_size s) small ∙ ap (λ b. get_or storage b 0) whole

    -- a unit that storage holds whole has a key unit of bytes, one that it ends in fewer
    bytes_there : (u : ℕ) → length (unit_bytes s storage u) ≡ min (unit_size s) (length storage - u * unit_size s)
    unfolding unit_bytes
    bytes_there u = length-take (unit_size s) (drop (u * unit_size s) storage) ∙ ap (min (unit_size s)) (length-drop (u * unit_size s) storage)

    pub unit_length : (u : ℕ) → u * unit_size s + unit_size s ≤ length storage → length (unit_bytes s storage u) ≡ unit_size s
    unit_length u h = bytes_there u ∙ omega arith

  -- storages of one length that agree at each address of a unit
  pub same_unit_bytes : (xs ys : List ℕ) (u : ℕ) → length xs ≡ length ys → ((a : ℕ) → unit_of s a ≡ u → get_or xs a 0 ≡ get_or ys a 0)
      → unit_bytes s xs u ≡ unit_bytes s ys u
  same_unit_bytes xs ys u same e = ext_get_or 0 (unit_bytes s xs u) (unit_bytes s ys u) lengths bytes
    where
      lengths : length (unit_bytes s xs u) ≡ length (unit_bytes s ys u)
      lengths = bytes_there xs u ∙ ap (λ n. min (unit_size s) (n - u * unit_size s)) same ∙ sym (bytes_there ys u)

      bytes : (i : ℕ) → i < length (unit_bytes s xs u) → get_or (unit_bytes s xs u) i 0 ≡ get_or (unit_bytes s ys u) i 0
      bytes i h =
          let small : i < unit_size s = omega (arith, bytes_there xs u) in
          unit_byte xs u i small ∙ e (u * unit_size s + i) (unit_address u i small) ∙ sym (unit_byte ys u i small)

  -- and storages that differ at an address differ in its unit
  pub other_unit_bytes : (xs ys : List ℕ) (a : ℕ) → get_or xs a 0 ≢ get_or ys a 0 → unit_bytes s xs (unit_of s a) ≢ unit_bytes s ys (unit_of s a)
  other_unit_bytes xs ys a differ e = differ (sym (byte_of_unit xs a) ∙ ap (λ l. get_or l (a % unit_size s) 0) e ∙ byte_of_unit ys a)
