-- When a request names units at all: an access exactly when its number is 0 or 4, a key instruction exactly when it is 0, a prefix instruction
-- never. The units are named where the lines before protection let the request pass; then only line 4 is left, and no other line has its number.
-- Assumes nothing.
use Rattle.std.specs.Prelude.{Err}
use Prim.Native.Nat.{ℕ, ◌<◌}
use mathlib.Core.Path.{◌≡◌, refl, ap, ◌∙◌}
use mathlib.Core.Bool.{Bool, true, false, not}
use mathlib.Core.Logic.{◌≢◌, ◌⊎◌, inl, inr, ⊎_elim, ◌↔◌}
use mathlib.Core.Option.{Option, none, some}
use mathlib.Core.List.{List}
use native.Mathlib.Omega.{arith}
use lib.ListN.{length}
use Rattle.machine.specs.declared.Settings.{Settings}
use Rattle.machine.specs.declared.Processor.{Processor}
use Rattle.machine.specs.declared.AccessKind.{AccessKind}
use Rattle.machine.specs.declared.Request.{Request}
use Rattle.machine.specs.declared.Request.TheVariants.{Access, Key, Prefix}
use Rattle.machine.specs.declared.Reason.{Reason}
use Rattle.machine.specs.declared.Reason.TheVariants.{Configuration, Record, Protection}
use Rattle.machine.specs.Answers.{Verdict, Clear, Stop, number, number_of, answer_of, line, first_of, first_line}
use Rattle.machine.specs.Numbers.{lengths_valid}
use Rattle.machine.specs.KeyInstructions.{key_count, two_keys}
use Rattle.machine.specs.Table.{addressing, protection, before_protection, verdict}
use Rattle.machine.specs.Step.{step}
use Rattle.machine.specs.Pair.{without_record, served, pair_step}
use Rattle.turns.specs.Units.{unit_count, unit_at, names}
use Rattle.machine.specs.Turns.{State, Turn, given}
use Rattle.turns.specs.Units.{named, named_by}
use Rattle.machine.proofs.Verdicts.{not_both, bytes_stopped, Never, never_line, never_first, never_bytes, same_refusal}
use Rattle.turns.proofs.Named.{named_at_lem, named_by_lem}
use Rattle.machine.proofs.BeforeProtection.{access_cleared}
use Rattle.machine.proofs.Requests.{by_verdict, completed_number, completed_cleared, completed_by_table, no_protection}
use Rattle.turns.proofs.Parts.{record_found}

-- the numbers with which a request names units
abbrev pub NamingNumber : Request → ℕ → Type 0
NamingNumber (Access kind address count) x = (x ≡ 0) ⊎ (x ≡ 4)
NamingNumber (Key i) x = x ≡ 0
NamingNumber (Prefix i) x = ⊥

never_4_bytes : (storage_length : ℕ) (r : Request) → Never 4 (addressing storage_length r)
unfolding addressing
never_4_bytes storage_length (Access kind address count) = never_bytes 4 _ _ count (omega arith)
never_4_bytes storage_length (Key i) = never_line 4 _ _ (omega arith)
never_4_bytes storage_length (Prefix i) = never_line 4 _ _ (omega arith)

-- no line before protection has the number 4
never_4 : (s : Settings) (storage_length key_length : ℕ) (p : Processor) (r : Request) (buffer_length : ℕ)
    → Never 4 (before_protection s storage_length key_length p r buffer_length)
unfolding before_protection first_line
never_4 s storage_length key_length p r buffer_length =
    pass _ _ _ (omega arith) (pass _ _ _ (omega arith) (pass _ _ _ (omega arith) (pass _ _ _ (omega arith) (pass _ _ _ (omega arith)
    (pass _ _ _ (omega arith) (pass _ _ _ (omega arith) (never_first 4 _ _ (never_4_bytes storage_length r) (λ _. tt))))))))
  where
    pass : (q : Reason) (b : Bool) (w : Verdict) → number q ≢ 4 → Never 4 w → Never 4 (first_of (line q b) w)
    pass q b w h k = never_first 4 _ w (never_line 4 q b h) (λ _. k)

module _ (s : Settings) (storage keys : List ℕ) (p : Processor) (buffer : List ℕ) where
  abbrev before : Request → Verdict
  before r = before_protection s (length storage) (length keys) p r (length buffer)

  abbrev answered : Request → ℕ
  answered r = (step s storage keys p r buffer).answer.number

  -- a request names a unit
  abbrev pub Names : Request → Type 0
  Names r = (u : ℕ) × (names (before r) s p r u ≡ true)

  -- only where the lines before protection let it pass
  named_cleared : (r : Request) → Names r → before r ≡ Clear
  unfolding names
  named_cleared r (u, n) = go (before r) refl n
    where
      go : (v : Verdict) → before r ≡ v → names v s p r u ≡ true → before r ≡ Clear
      go Clear e n = e
      go (Err refusal) e n = absurd (not_both n refl)

  -- and then the first unit in its range is named
  cleared_names : (r : Request) → before r ≡ Clear → 0 < unit_count s r → Names r
  cleared_names r e h = (unit_at s p r 0, rw e (named_at_lem s p r 0 h))

  -- an access that ends with 4 has passed the lines before protection
  protection_cleared : (r : Request) → answered r ≡ 4 → before r ≡ Clear
  unfolding verdict first_of
  protection_cleared r =
      by_verdict s storage keys p r buffer (λ o. o.answer.number ≡ 4 → before r ≡ Clear)
      (λ reason place e h. go (before r) refl reason place e h)
      (λ e h. absurd (omega (arith, completed_number s storage keys p r buffer r)))
    where
      go : (v : Verdict) → before r ≡ v → (reason : Reason) (place : ℕ) → first_of (before r) (protection s keys p r) ≡ Stop reason place
          → number reason ≡ 4 → before r ≡ Clear
      go Clear c reason place e h = c
      go (Err refusal) c reason place e h =
          let same : refusal.reason ≡ reason = told (rw c at e) in
          absurd (rw c at (never_4 s (length storage) (length keys) p r (length buffer)) (rw same h))
        where
          told : Stop refusal.reason refusal.place ≡ Stop reason place → refusal.reason ≡ reason
          told f = (same_refusal f).0

  -- one that has passed them completes or ends with 4
  access_answers : (kind : AccessKind) (address count : ℕ) → before (Access kind address count) ≡ Clear
      → NamingNumber (Access kind address count) (answered (Access kind address count))
  unfolding verdict first_of protection
  access_answers kind address count clear =
      by_verdict s storage keys p (Access kind address count) buffer (λ o. NamingNumber (Access kind address count) o.answer.number)
      (λ reason place e. inr (ap number (bytes_stopped Protection _ count reason place (rw clear at e)).0))
      (λ e. inl (completed_number s storage keys p (Access kind address count) buffer (Access kind address count)))

  pub names_exactly_when : (r : Request) → Names r ↔ NamingNumber r (answered r)
  names_exactly_when (Access kind address count) = (to, ⊎_elim completed protected)
    where
      to : Names (Access kind address count) → NamingNumber (Access kind address count) (answered (Access kind address count))
      to n = access_answers kind address count (named_cleared (Access kind address count) n)

      named : before (Access kind address count) ≡ Clear → Names (Access kind address count)
      named e =
          cleared_names (Access kind address count) e
          (access_cleared s (length storage) (length keys) p kind address count (length buffer) e).positive

      completed : answered (Access kind address count) ≡ 0 → Names (Access kind address count)
      completed h = named (completed_cleared s storage keys p (Access kind address count) buffer h)

      protected : answered (Access kind address count) ≡ 4 → Names (Access kind address count)
      protected h = named (protection_cleared (Access kind address count) h)
  names_exactly_when (Key i) = (to, from)
    where
      to : Names (Key i) → answered (Key i) ≡ 0
      to n =
          (completed_by_table s storage keys p (Key i) buffer).1
          (no_protection s (length storage) keys p (Key i) (length buffer) tt ∙ named_cleared (Key i) n)

      one : (two : Bool) → 0 < key_count two
      one true = omega arith
      one false = omega arith

      from : answered (Key i) ≡ 0 → Names (Key i)
      from h = cleared_names (Key i) (completed_cleared s storage keys p (Key i) buffer h) (one (two_keys s i))
  names_exactly_when (Prefix i) = (to, λ h. absurd h)
    where
      to : Names (Prefix i) → ⊥
      to (u, n) =
          let (j, h, q) = named_by_lem s p (Prefix i) u (rw (named_cleared (Prefix i) (u, n)) at n) in
          omega arith

-- a number that isn't 0 or 1: line 64 or 65
without_number : (s : Settings) (storage_length key_length : ℕ)
    → let x = number_of (answer_of (without_record s storage_length key_length) 0 0) in (x ≡ 64) ⊎ (x ≡ 65)
unfolding line first_of
without_number s storage_length key_length = go (lengths_valid s storage_length key_length)
  where
    go : (b : Bool) → let x = number_of (answer_of (first_of (line Configuration (not b)) (Stop Record 0)) 0 0) in (x ≡ 64) ⊎ (x ≡ 65)
    go true = inr refl
    go false = inl refl

no_naming : (r : Request) (x : ℕ) → (x ≡ 64) ⊎ (x ≡ 65) → NamingNumber r x → ⊥
no_naming (Access kind address count) x h n =
    ⊎_elim (λ q. ⊎_elim (λ e. omega arith) (λ e. omega arith) h) (λ q. ⊎_elim (λ e. omega arith) (λ e. omega arith) h) n
no_naming (Key i) x h n = ⊎_elim (λ e. omega arith) (λ e. omega arith) h
no_naming (Prefix i) x h n = n

-- the same of a turn, whatever the number that it carries
pub turn_names_exactly_when : (s : Settings) (m : State) (t : Turn)
    → ((u : ℕ) × (named s u m t ≡ true)) ↔ NamingNumber t.request (given s m t).answer.number
unfolding pair_step served
turn_names_exactly_when s m t = go (record_found m t)
  where
    go : (f : Option Processor) → ((u : ℕ) × (named_by f s u m t ≡ true))
        ↔ NamingNumber t.request (served f s m.storage m.keys m.processors t.processor_number t.request t.buffer).answer.number
    go none =
        ((λ n. absurd (not_both n.1 refl)), λ n. absurd (no_naming t.request _ (without_number s (length m.storage) (length m.keys)) n))
    go (some p) = names_exactly_when s m.storage m.keys p t.buffer t.request

-- What a turn names depends on the settings, the lengths of storage and key array, its own record and the turn itself: so it names in any run
-- what it names where its list runs alone
pub names_by_own_record : (s : Settings) (m o : State) (t : Turn) → record_found m t ≡ record_found o t
    → length m.storage ≡ length o.storage → length m.keys ≡ length o.keys → (u : ℕ) → named s u m t ≡ named s u o t
names_by_own_record s m o t found storages keys u = rw found (go (record_found o t))
  where
    go : (f : Option Processor) → named_by f s u m t ≡ named_by f s u o t
    go none = refl
    go (some p) = rw (storages, keys)
