-- The rule by which requests are judged is the manual's summary of protection action: each line gives, in each column, what the rule gives.
-- Assumes nothing.
use Prim.Native.Nat.{ℕ, zero, suc}
use mathlib.Core.Path.{◌≡◌, refl}
use mathlib.Core.Bool.{Bool, true, false, cond, ◌||◌}
use native.Mathlib.Omega.{arith}
use lib.Dec.{eqb}
use borrow.Author.Tests.{ne_eqb}
use Rattle.machine.specs.declared.AccessKind.{AccessKind}
use Rattle.machine.specs.declared.AccessKind.TheVariants.{Fetch, Store}
use Rattle.machine.specs.Key.{fetch_protection}
use Rattle.machine.specs.Protection.{Match, Mismatch, matches, permitted, summary, summarized}

store_column : (match : Bool) (bit : ℕ) → match ≡ (summary bit (cond match Match Mismatch)).store
unfolding summary
store_column true zero = refl
store_column false zero = refl
store_column true (suc n) = refl
store_column false (suc n) = refl

fetch_column : (match : Bool) (bit : ℕ) → match || eqb bit 0 ≡ (summary bit (cond match Match Mismatch)).fetch
unfolding summary
fetch_column true zero = refl
fetch_column false zero = refl
fetch_column true (suc n) = refl
fetch_column false (suc n) = ne_eqb (suc n) 0 (λ e. omega arith)

pub permitted_as_summarized : (kind : AccessKind) (access_key k : ℕ) → permitted kind access_key k ≡ summarized kind access_key k
unfolding permitted
permitted_as_summarized Store access_key k = store_column (matches access_key k) (fetch_protection k)
permitted_as_summarized Fetch access_key k = fetch_column (matches access_key k) (fetch_protection k)
