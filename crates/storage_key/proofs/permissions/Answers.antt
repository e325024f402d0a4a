-- `permissions` are those of the manual's summary: of an access key over 15 by a law, of the others in the table, whose test is computed here of
-- the table in the source. Assumes nothing.
use Prim.Native.Nat.{ℕ}
use mathlib.Core.Path.{◌≡◌, refl}
use mathlib.Core.Bool.{true}
use mathlib.Core.List.{List, [], ◌∷◌}
use native.Mathlib.Omega.{arith}
use Rattle.machine.specs.declared.AccessKind.TheVariants.{Fetch, Store}
use Rattle.machine.specs.Protection.{summary}
use Rattle.storage_key.specs.Entries.{word_of, permissions}
use Rattle.storage_key.proofs.Entries.{follows, word_follows}
use Rattle.storage_key.proofs.permissions.Goals as goal

-- the words of the table in the source: the goals below have its rows, so they refuse a source with another word
abbrev table : List (List ℕ)
table =
    (0xFFFFFFFF ∷ 0x5555555D ∷ 0x55555575 ∷ 0x555555D5 ∷ 0x55555755 ∷ 0x55555D55 ∷ 0x55557555 ∷ 0x5555D555
    ∷ 0x55575555 ∷ 0x555D5555 ∷ 0x55755555 ∷ 0x55D55555 ∷ 0x57555555 ∷ 0x5D555555 ∷ 0x75555555 ∷ 0xD5555555 ∷ [])
    ∷ (0xFFFFFFFF ∷ 0x0000000C ∷ 0x00000030 ∷ 0x000000C0 ∷ 0x00000300 ∷ 0x00000C00 ∷ 0x00003000 ∷ 0x0000C000
    ∷ 0x00030000 ∷ 0x000C0000 ∷ 0x00300000 ∷ 0x00C00000 ∷ 0x03000000 ∷ 0x0C000000 ∷ 0x30000000 ∷ 0xC0000000 ∷ [])
    ∷ []

-- the test of all entries, computed
table_follows : follows table ≡ true
unfolding summary permissions word_of
table_follows = refl

pub returns-in-Fetch-kind : goal.returns-in-Fetch-kind
returns-in-Fetch-kind c =
    rw (c.in-Fetch-kind.is, c.word_of.ensures)
    (word_follows table table_follows Fetch c.args.access_key (omega (arith, c.if-access_key-ge16.false)))

pub returns-in-Store-kind : goal.returns-in-Store-kind
returns-in-Store-kind c =
    rw (c.in-Store-kind.is, c.word_of-in-Store-kind.ensures)
    (word_follows table table_follows Store c.args.access_key (omega (arith, c.if-access_key-ge16.false)))
