-- `instruction_words` passes each instruction on with the record in the two words, and writes back the record that RRB and RRBE leave; any other
-- operation is past the last. Assumes nothing.
use Prim.Native.Nat.{◌≤◌}
use native.Mathlib.Omega.{arith}
use Rattle.host.proofs.Calls.{kept_instruction, served_instruction, past_last_call}
use borrow.Author.Rules.{rules}
use Rattle.host.proofs.serve.instruction_words.Goals as goal

pub returns-in-2 : goal.returns-in-2
returns-in-2 c =
    let stepped = rw c.«record».ensures at c.isk.ensures in
    rw c.in-2.is
    (kept_instruction c.args.records.now _ _ _ _ _ c.isk.result tt c.requires.is_own stepped
    c.fits-records c.pack.ensures)

pub returns-in-3 : goal.returns-in-3
returns-in-3 c =
    let stepped = rw c.record-in-3.ensures at c.ssk.ensures in
    rw c.in-3.is
    (kept_instruction c.args.records.now _ _ _ _ _ c.ssk.result tt c.requires.is_own stepped
    c.fits-records c.pack-in-3.ensures)

pub returns-in-4 : goal.returns-in-4
returns-in-4 c =
    let stepped = rw c.record-in-4.ensures at c.rrb.ensures in
    rw c.in-4.is
    (served_instruction c.args.records.now _ _ _ _ _ c.rrb.result.answer tt c.requires.is_own stepped
    (search rules) c.write_back.ensures.packed c.write_back.ensures.records)

pub returns-in-5 : goal.returns-in-5
returns-in-5 c =
    let stepped = rw c.record-in-5.ensures at c.iske.ensures in
    rw c.in-5.is
    (kept_instruction c.args.records.now _ _ _ _ _ c.iske.result tt c.requires.is_own stepped
    c.fits-records c.pack-in-5.ensures)

pub returns-in-6 : goal.returns-in-6
returns-in-6 c =
    let stepped = rw c.record-in-6.ensures at c.sske.ensures in
    rw c.in-6.is
    (kept_instruction c.args.records.now _ _ _ _ _ c.sske.result tt c.requires.is_own stepped
    c.fits-records c.pack-in-6.ensures)

pub returns-in-7 : goal.returns-in-7
returns-in-7 c =
    let stepped = rw c.record-in-7.ensures at c.rrbe.ensures in
    rw c.in-7.is
    (served_instruction c.args.records.now _ _ _ _ _ c.rrbe.result.answer tt c.requires.is_own stepped
    (search rules) c.write_back-in-7.ensures.packed c.write_back-in-7.ensures.records)

pub returns-in-8 : goal.returns-in-8
returns-in-8 c =
    rw c.in-8.is c.prefix_words.ensures

pub returns-in-9 : goal.returns-in-9
returns-in-9 c =
    rw c.in-9.is c.prefix_words-in-9.ensures

pub returns-in_default : goal.returns-in_default
returns-in_default c =
    λ buffer.
    let from-10 : 10 ≤ c.args.operation = omega arith in
    past_last_call c.args.records.now _ _ _ _ c.args.operation _ _ buffer from-10 c.requires.is_own
    c.fits-records (rw (c.of.ensures, c.record-in_default.ensures) at c.unknown_operation.ensures)
