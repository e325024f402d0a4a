-- A store is lent its data bytes, which lie within the record. Assumes nothing.
use native.Mathlib.Omega.{arith}
use Rattle.player.proofs.Requests.{store_sizes, data_length}
use Rattle.player.proofs.perform.Front.lend.Goals as goal

pub slice_bounds-data-count : goal.slice_bounds-data-count
slice_bounds-data-count c =
    let store = c.in-Access-Store-default-default in
    (store_sizes _ _ _ _ store.address store.count store.kind c.args.self.now.read (cc) (cc)).0

pub slice_bounds-data-start : goal.slice_bounds-data-start
slice_bounds-data-start c =
    let store = c.in-Access-Store-default-default in
    (store_sizes _ _ _ _ store.address store.count store.kind c.args.self.now.read (cc) (cc)).0

pub slice_bounds-data-end : goal.slice_bounds-data-end
slice_bounds-data-end c =
    let store = c.in-Access-Store-default-default in
    (store_sizes _ _ _ _ store.address store.count store.kind c.args.self.now.read (cc) (cc)).1

pub slice_bounds-copy_from_slice-end : goal.slice_bounds-copy_from_slice-end
slice_bounds-copy_from_slice-end c =
    let store = c.in-Access-Store-default-default in
    omega (arith, data_length _ _ _ _ store.address store.count store.kind c.args.self.now.read (cc) (cc))
