-- `put_prefix` writes the four bytes where the prefix has changed. Assumes nothing.
use Rattle.std.proofs.Common.{◌+◌, arith, sym, ◌∙◌}
use Rattle.std.proofs.lemmas.Slice.{put_mid-paste}
use borrow.Author.Tests.{ne_eqb}
use Rattle.boundary.specs.Boundary.{prefix_bytes}
use Rattle.host.proofs.Writing.{written_is_paste}
use Rattle.host.proofs.record.Own.put_prefix.Goals as goal

pub returns-then-self-prefix : goal.returns-then-self-prefix
returns-then-self-prefix c =
    let at = c.args.self.at in
    let bytes = prefix_bytes c.args.prefix in
    rw (ne_eqb _ _ c.if-self-prefix.true)
    (put_mid-paste (at + 4) _ c.args.records.now _ bytes 4 (c.copy_from_slice.ensures.after ∙ c.to_le_bytes.ensures) (omega arith) (omega arith)
    ∙ sym (written_is_paste c.args.records.now (at + 4) bytes (λ i. at + (4 + i)) 4 (λ i. omega arith) (omega arith) (omega arith)))
