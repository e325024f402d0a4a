-- Fetches. What a completed one keeps of a key is access control, fetch protection and change: so a second fetch leaves the key as the first
-- did, and no byte is forbidden or permitted by a fetch. Assumes nothing.
use Prim.Native.Nat.{ℕ, ◌<◌}
use mathlib.Core.Path.{◌≡◌, refl, sym, ap, ◌∙◌}
use mathlib.Core.Bool.{true}
use mathlib.Core.List.{List}
use lib.ListN.{length, get_or}
use Rattle.machine.specs.declared.Settings.{Settings}
use Rattle.machine.specs.declared.Processor.{Processor}
use Rattle.machine.specs.declared.Request.{Request}
use Rattle.machine.specs.declared.Request.TheVariants.{Access, Key, Prefix}
use Rattle.machine.specs.declared.AccessKind.{AccessKind}
use Rattle.machine.specs.declared.AccessKind.TheVariants.{Fetch, Store}
use Rattle.machine.specs.Answers.{Clear}
use Rattle.machine.specs.Numbers.{add24}
use Rattle.machine.specs.Key.{access_control, fetch_protection, after_fetch}
use Rattle.machine.specs.Protection.{permitted, forbidden}
use Rattle.machine.specs.Table.{protection, verdict}
use Rattle.machine.specs.Step.{step}
use Rattle.turns.specs.Units.{unit_at, unit_count, names}
use Rattle.turns.specs.Units.{is_fetch}
use Rattle.machine.proofs.Verdicts.{not_both, bytes_same}
use Rattle.machine.proofs.KeyBytes.{key_recorded_lem}
use Rattle.turns.proofs.Named.{named_by_lem}
use Rattle.machine.proofs.Requests.{completed_by_table}
use Rattle.machine.proofs.Accesses.{access_leaves_key, fetch_leaves_storage}

pub fetched_twice : (k : ℕ) → after_fetch (after_fetch k) ≡ after_fetch k
unfolding after_fetch
fetched_twice k = let kept = key_recorded_lem Fetch k in rw (kept.access_control_lem, kept.fetch_protection_lem, kept.change_bit_lem)

module _ (k l : ℕ) (same : after_fetch k ≡ after_fetch l) where
  pub same_control : access_control k ≡ access_control l
  same_control = sym (key_recorded_lem Fetch k).access_control_lem ∙ ap access_control same ∙ (key_recorded_lem Fetch l).access_control_lem

  pub same_fetch_protection : fetch_protection k ≡ fetch_protection l
  same_fetch_protection = sym (key_recorded_lem Fetch k).fetch_protection_lem ∙ ap fetch_protection same ∙ (key_recorded_lem Fetch l).fetch_protection_lem

  same_forbidden : (kind : AccessKind) (p : Processor) (real : ℕ) → forbidden kind p real k ≡ forbidden kind p real l
  unfolding permitted
  same_forbidden Fetch p real = rw (same_control, same_fetch_protection)
  same_forbidden Store p real = rw same_control

-- line 4 is the same by keys that a fetch would leave the same
pub same_protection : (s : Settings) (p : Processor) (keys others : List ℕ) (r : Request)
    → ((i : ℕ) → i < unit_count s r → after_fetch (get_or keys (unit_at s p r i) 0) ≡ after_fetch (get_or others (unit_at s p r i) 0))
    → protection s keys p r ≡ protection s others p r
unfolding protection
same_protection s p keys others (Access kind address count) same =
    bytes_same _ _ _ count (λ i h. same_forbidden _ _ (same i h) kind p (add24 address i))
same_protection s p keys others (Key i) same = refl
same_protection s p keys others (Prefix i) same = refl

-- what a fetch leaves: storage as it was, and of each key that it names, if it completes, what a completed fetch makes of it
module _ (s : Settings) (storage keys : List ℕ) (p : Processor) (r : Request) (buffer : List ℕ) (fetch : is_fetch r ≡ true) where
  pub fetch_keeps_storage : (step s storage keys p r buffer).storage ≡ storage
  fetch_keeps_storage = go r fetch
    where
      go : (r : Request) → is_fetch r ≡ true → (step s storage keys p r buffer).storage ≡ storage
      go (Access Fetch address count) f = fetch_leaves_storage s storage keys p address count buffer
      go (Access Store address count) f = absurd (not_both f refl)
      go (Key i) f = absurd (not_both f refl)
      go (Prefix i) f = absurd (not_both f refl)

  pub fetch_leaves_keys : verdict s (length storage) keys p r (length buffer) ≡ Clear → (u : ℕ) → names Clear s p r u ≡ true
      → get_or (step s storage keys p r buffer).keys u 0 ≡ after_fetch (get_or keys u 0)
  fetch_leaves_keys clear u n = go r fetch clear n
    where
      go : (r : Request) → is_fetch r ≡ true → verdict s (length storage) keys p r (length buffer) ≡ Clear → names Clear s p r u ≡ true
          → get_or (step s storage keys p r buffer).keys u 0 ≡ after_fetch (get_or keys u 0)
      go (Access Fetch address count) f c n =
          let (i, h, q) = named_by_lem s p (Access Fetch address count) u n in
          let done = (completed_by_table s storage keys p (Access Fetch address count) buffer).1 c in
          rw q at (access_leaves_key s storage keys p address count buffer Fetch done i h)
      go (Access Store address count) f c n = absurd (not_both f refl)
      go (Key i) f c n = absurd (not_both f refl)
      go (Prefix i) f c n = absurd (not_both f refl)
