-- `move_bytes` holds its bytes, and then writes them one after the other. The invariants: the bytes passed are held, or written, and no more.
-- Assumes nothing.
use Prim.Native.Nat.{◌+◌}
use mathlib.Core.Path.{◌≡◌}
use lib.ListN.{get_or}
use Rattle.machine.specs.Lists.{written}
use Rattle.channel.proofs.moving.move_bytes.Given as goal

abbrev pub invariant-loop-i : goal.invariant-loop-i
invariant-loop-i l =
    l.held ≡ written l.initial.held (λ k. k) (λ k. get_or l.source (l.from + k) 0) l.i

abbrev pub invariant-loop-j : goal.invariant-loop-j
invariant-loop-j l =
    l.target ≡ written l.initial.target (λ k. l.at + k) (λ k. get_or l.held k 0) l.j
