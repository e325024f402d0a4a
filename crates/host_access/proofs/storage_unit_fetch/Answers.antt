-- `storage_unit_fetch` is the call of the short way in: by what `enter` gives. Assumes nothing.
use Rattle.std.proofs.Common.{Err, sym}
use borrow.Author.Tests.{lt-ltb}
use Rattle.machine.specs.declared.AccessKind.TheVariants.{Fetch}
use Rattle.host_access.specs.ShortWay.{accessed}
use Rattle.host_access.proofs.Accesses.{nothing_changes, served_access}
use Rattle.host_access.proofs.storage_unit_fetch.Goals as goal

pub returns-in-Ok : goal.returns-in-Ok
unfolding accessed
returns-in-Ok c =
    let a = c.args in
    let entered = c.in-Ok.ensures in
    let stepped = rw entered.2 at c.fetch.ensures in
    let met = served_access _ a.storage.now a.keys.now a.«record» Fetch a.address a.bytes.now c.fetch.result c.pack.ensures stepped in
    record {
      condition_1 = met.0;
      condition_2 = rw (lt-ltb _ _ entered.0, ← entered.1) met.1;
    }

pub returns-in-Err : goal.returns-in-Err
returns-in-Err c = record {
  condition_1 = nothing_changes (Err c.in-Err.refusal) c.pack-in-Err.ensures;
  condition_2 = rw c.pack-in-Err.ensures.0 (sym (c.in-Err.ensures Fetch c.args.address c.args.bytes.now));
}
