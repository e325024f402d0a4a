-- How a record is written over the bytes of another: the condition code, and the prefix where it has changed.
use Rattle.std.specs.Prelude.{ℕ, ◌+◌, cond, List, get_or, set, eqb}
use Rattle.machine.specs.declared.Processor.{Processor}
use Rattle.machine.specs.Lists.{written}
use Rattle.boundary.specs.Boundary.{prefix_bytes}

abbrev pub prefix_put : List ℕ → ℕ → ℕ → ℕ → List ℕ
prefix_put bytes at before after = cond (eqb before after) bytes (written bytes (λ i. at + (4 + i)) (λ i. get_or (prefix_bytes after) i 0) 4)

abbrev pub record_put : List ℕ → ℕ → Processor → Processor → List ℕ
record_put bytes at p q = prefix_put (set bytes (at + 2) q.code) at p.prefix q.prefix
