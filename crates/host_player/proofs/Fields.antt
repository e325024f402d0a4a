-- Numbers put into a list of bytes: each is read again from its place, and what does not overlap it is as before. The bytes before a number that
-- was put are those of the front, the bytes behind it those of the rest. Assumes nothing.
use Prim.Native.Nat.{ℕ, ◌+◌, ◌-◌, ◌^◌, ◌≤◌, ◌<◌}
use native.Mathlib.Omega.{arith}
use mathlib.Core.Path.{◌≡◌, refl, sym, ap, ◌∙◌}
use mathlib.Core.Logic.{◌⊎◌, inl, inr}
use mathlib.Core.List.{List, ◌++◌, append_assoc}
use lib.ListN.{length, get_or, take, drop, length-append, length-drop, get_or-append}
use lib.Seq.{length-take-le, get_or-append-add, get_or-take, get_or-drop}
use Rattle.machine.specs.declared.Processor.{Processor}
use Rattle.machine.specs.Step.{with_code, with_prefix}
use Rattle.boundary.specs.Boundary.{record_at}
use Rattle.boundary.proofs.Records.{same_record}
use Rattle.house_record.specs.Little.{little, little_bytes}
use Rattle.house_record.proofs.LittleBytes.{little_same, length-little_bytes, little-written_at}
use Rattle.house_record.proofs.Fieldwise.{one}
use Rattle.player.specs.Text.{pasted}
use Rattle.host_player.specs.Playing.{put, put_record}
use Rattle.host_player.proofs.Numbers.{prefix_is}

-- m bytes from a on and n bytes from `at` on have no byte in common
abbrev pub Apart : (m a n at : ℕ) → Type 0
Apart m a n at = (a + m ≤ at) ⊎ (at + n ≤ a)

-- a number v in n bytes from `at` on
module _ (n at v : ℕ) (b : List ℕ) (room : at + n ≤ length b) where
  abbrev front : List ℕ
  front = take at b ++ little_bytes n v

  abbrev rest : List ℕ
  rest = drop (at + n) b

  is_put : put n at v b ≡ front ++ rest
  unfolding pasted
  is_put = rw (length-little_bytes n v) refl

  before : length (take at b) ≡ at
  before = length-take-le at b (omega arith)

  long : length front ≡ at + n
  long = length-append (take at b) (little_bytes n v) ∙ rw (before, length-little_bytes n v) refl

  pub length_put : length (put n at v b) ≡ length b
  length_put = ap length is_put ∙ length-append front rest ∙ rw (long, length-drop (at + n) b) (omega arith)

  pub put_else : (i : ℕ) → Apart 1 i n at → get_or (put n at v b) i 0 ≡ get_or b i 0
  put_else i (inl h) =
      ap (λ (l : List ℕ). get_or l i 0) is_put
      ∙ get_or-append front rest 0 i (omega (arith, long))
      ∙ get_or-append (take at b) (little_bytes n v) 0 i (omega (arith, before))
      ∙ get_or-take at b i 0 (omega arith)
  put_else i (inr h) =
      let k : ℕ = i - (at + n) in
      let e : i ≡ length front + k = omega (arith, long) in
      let f : at + n + k ≡ i = omega arith in
      ap (λ (l : List ℕ). get_or l i 0) is_put
      ∙ ap (λ (j : ℕ). get_or (front ++ rest) j 0) e
      ∙ get_or-append-add front rest k 0
      ∙ get_or-drop (at + n) b k 0
      ∙ ap (λ (j : ℕ). get_or b j 0) f

  pub put_there : v < 256 ^ n → little n (put n at v b) at ≡ v
  put_there h =
      ap (λ (l : List ℕ). little n l at) (is_put ∙ append_assoc (take at b) (little_bytes n v) rest)
      ∙ ap (λ (k : ℕ). little n (take at b ++ (little_bytes n v ++ rest)) k) (sym before)
      ∙ little-written_at n v (take at b) rest h

  within : (m a i : ℕ) → i < m → Apart m a n at → Apart 1 (a + i) n at
  within m a i h (inl l) = inl (omega arith)
  within m a i h (inr l) = inr (omega arith)

  pub little_else : (m a : ℕ) → Apart m a n at → little m (put n at v b) a ≡ little m b a
  little_else m a h = little_same m (put n at v b) b a a (λ i l. put_else (a + i) (within m a i l h))

  pub record_else : (a : ℕ) → Apart 8 a n at → record_at (put n at v b) a ≡ record_at b a
  record_else a h = same_record (put n at v b) b a a (λ i l. put_else (a + i) (within 8 a i l h))

-- a record from its bytes: PSW key, controls and the zero as in other bytes, condition code and prefix as given
record_from : (xs ys : List ℕ) (at code prefix : ℕ) → get_or xs at 0 ≡ get_or ys at 0 → get_or xs (at + 1) 0 ≡ get_or ys (at + 1) 0
    → get_or xs (at + 3) 0 ≡ get_or ys (at + 3) 0 → get_or xs (at + 2) 0 ≡ code → (record_at xs at).prefix ≡ prefix
    → record_at xs at ≡ with_prefix (with_code (record_at ys at) code) prefix
record_from xs ys at code prefix e0 e1 e3 e2 e4 = rw (e4, e2, e0, e1, e3) refl

-- condition code and prefix put into the bytes of a record
module _ (at : ℕ) (q : Processor) (b : List ℕ) (room : at + 8 ≤ length b) where
  abbrev coded : List ℕ
  coded = put 1 (at + 2) q.code b

  coded_room : at + 4 + 4 ≤ length coded
  coded_room = omega (arith, length_put 1 (at + 2) q.code b (omega arith))

  pub length-put_record : length (put_record at q b) ≡ length b
  length-put_record = length_put 4 (at + 4) q.prefix coded coded_room ∙ length_put 1 (at + 2) q.code b (omega arith)

  kept : (i : ℕ) → Apart 1 i 1 (at + 2) → Apart 1 i 4 (at + 4) → get_or (put_record at q b) i 0 ≡ get_or b i 0
  kept i h k = put_else 4 (at + 4) q.prefix coded coded_room i k ∙ put_else 1 (at + 2) q.code b (omega arith) i h

  pub record_put_lem : q.code < 256 → q.prefix < 4294967296
      → record_at (put_record at q b) at ≡ with_prefix (with_code (record_at b at) q.code) q.prefix
  record_put_lem c p =
      record_from (put_record at q b) b at q.code q.prefix
      (kept at (inl (omega arith)) (inl (omega arith)))
      (kept (at + 1) (inl (omega arith)) (inl (omega arith)))
      (kept (at + 3) (inr (omega arith)) (inl (omega arith)))
      (put_else 4 (at + 4) q.prefix coded coded_room (at + 2) (inl (omega arith))
      ∙ sym (one coded (at + 2)) ∙ put_there 1 (at + 2) q.code b (omega arith) (omega arith))
      (sym (prefix_is (put_record at q b) at) ∙ put_there 4 (at + 4) q.prefix coded coded_room (omega arith))

  -- another record
  pub record_beside : (a : ℕ) → Apart 8 a 8 at → record_at (put_record at q b) a ≡ record_at b a
  record_beside a h = same_record (put_record at q b) b a a (λ i l. kept (a + i) (code_apart i l h) (prefix_apart i l h))
    where
      code_apart : (i : ℕ) → i < 8 → Apart 8 a 8 at → Apart 1 (a + i) 1 (at + 2)
      code_apart i h (inl l) = inl (omega arith)
      code_apart i h (inr l) = inr (omega arith)

      prefix_apart : (i : ℕ) → i < 8 → Apart 8 a 8 at → Apart 1 (a + i) 4 (at + 4)
      prefix_apart i h (inl l) = inl (omega arith)
      prefix_apart i h (inr l) = inr (omega arith)
