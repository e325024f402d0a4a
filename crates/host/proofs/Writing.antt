-- Where only condition code and prefix differ, writing these over the bytes of a record is enough: the other bytes are there already.
-- Bytes that are written one after the other are a part that is put in. Assumes nothing.
use Prim.Native.Nat.{ℕ, zero, suc, ◌+◌, ◌<◌, ◌≤◌}
use mathlib.Core.Path.{◌≡◌, refl, sym, ap, ◌∙◌}
use mathlib.Core.List.{List, [], ◌∷◌}
use native.Mathlib.Decide.{ℕ_discrete}
use native.Mathlib.Omega.{arith}
use lib.ListN.{length, get_or, set}
use lib.Seq.{paste, get_or-append-add, get_or-set_other, set-get_or, set_comm}
use native.Mathlib.Numerals.{add-one}
use Rattle.std.proofs.lemmas.List.Edits.{paste_none, paste_more}
use borrow.Author.Tests.{eq-eqb, ne_eqb}
use Rattle.machine.specs.declared.Processor.{Processor}
use Rattle.machine.specs.Lists.{written}
use Rattle.machine.specs.Step.{with_code, with_prefix}
use Rattle.machine.proofs.Written.{written_back}
use Rattle.boundary.specs.Boundary.{record_at, prefix_bytes, record_bytes}
use Rattle.boundary.proofs.Records.{Holds, joined}
use Rattle.host.specs.Writing.{prefix_put, record_put}

pub written_is_paste : (xs : List ℕ) (at : ℕ) (bytes : List ℕ) (place : ℕ → ℕ) (n : ℕ) → ((i : ℕ) → place i ≡ at + i)
    → at + n ≤ length xs → n ≤ length bytes → written xs place (λ i. get_or bytes i 0) n ≡ paste xs at bytes n
unfolding written
written_is_paste xs at bytes place zero e h k = paste_none xs at bytes
written_is_paste xs at bytes place (suc n) e h k =
    rw (written_is_paste xs at bytes place n e (omega arith) (omega arith), e n, ← add-one n)
    (paste_more xs at bytes n 0 (omega arith) (omega arith))

-- Over the bytes of p, condition code and prefix are all that has to be written of q, which is p but for these.
module _ (bytes : List ℕ) (at : ℕ) (p q : Processor) (holds : Holds bytes at p) (kept : q ≡ with_prefix (with_code p q.code) q.prefix) where
  prefix_held : (i : ℕ) → i < 4 → get_or (set bytes (at + 2) q.code) (at + (4 + i)) 0 ≡ get_or (prefix_bytes p.prefix) i 0
  prefix_held i h =
      get_or-set_other bytes (at + 2) (at + (4 + i)) q.code 0 (λ e. omega arith)
      ∙ holds (4 + i) (omega arith)
      ∙ get_or-append-add (p.psw_key ∷ joined p.problem p.low_protection p.key_control ∷ p.code ∷ 0 ∷ []) (prefix_bytes p.prefix) i 0

  prefix_put_lem : prefix_put (set bytes (at + 2) q.code) at p.prefix q.prefix
      ≡ written (set bytes (at + 2) q.code) (λ i. at + (4 + i)) (λ i. get_or (prefix_bytes q.prefix) i 0) 4
  prefix_put_lem = go (ℕ_discrete p.prefix q.prefix)
    where
      go : Dec (p.prefix ≡ q.prefix) → prefix_put (set bytes (at + 2) q.code) at p.prefix q.prefix
          ≡ written (set bytes (at + 2) q.code) (λ i. at + (4 + i)) (λ i. get_or (prefix_bytes q.prefix) i 0) 4
      go (yes e) = rw (eq-eqb _ _ e) (sym (written_back _ _ _ 4 (λ i h. prefix_held i h ∙ ap (λ x. get_or (prefix_bytes x) i 0) e)))
      go (no d) = rw (ne_eqb _ _ d)

  code_and_prefix_written : written (set bytes (at + 2) q.code) (λ i. at + (4 + i)) (λ i. get_or (prefix_bytes q.prefix) i 0) 4
      ≡ written bytes (λ i. at + i) (λ i. get_or (record_bytes q) i 0) 8
  unfolding written
  code_and_prefix_written =
      rw (
        back 0 (omega arith) (ap (λ r. r.psw_key) kept),
        back 1 (omega arith) (ap (λ r. joined r.problem r.low_protection r.key_control) kept),
        set_comm bytes (at + 2) (at + 3) q.code 0 (λ e. omega arith),
        back 3 (omega arith) refl,
      )
    where
      back : (i : ℕ) → i < 8 → get_or (record_bytes q) i 0 ≡ get_or (record_bytes p) i 0 → set bytes (at + i) (get_or (record_bytes q) i 0) ≡ bytes
      back i h same = rw (same ∙ sym (holds i h)) (set-get_or bytes (at + i) 0)

  pub record_put_lem : record_put bytes at p q ≡ written bytes (λ i. at + i) (λ i. get_or (record_bytes q) i 0) 8
  record_put_lem = rw prefix_put_lem code_and_prefix_written

-- a record over itself: nothing changes
pub same_put : (bytes : List ℕ) (at : ℕ) (p : Processor) → p ≡ record_at bytes at → record_put bytes at p p ≡ bytes
same_put bytes at p read = rw (eq-eqb p.prefix _ refl, read) (set-get_or bytes (at + 2) 0)
