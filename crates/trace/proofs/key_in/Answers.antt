-- The instruction is told by its number. Assumes nothing.
use mathlib.Core.Path.{refl}
use Rattle.trace.proofs.Bodies.{key_told}
use Rattle.trace.proofs.key_in.Goals as goal

pub returns-in-0 : goal.returns-in-0
returns-in-0 c = key_told _ _ _ c.word-r1.ensures c.word-r2.ensures _ 0 _ refl c.byte.ensures.0 c.in-0.is c.if-body-ne10.false

pub returns-in-1 : goal.returns-in-1
returns-in-1 c = key_told _ _ _ c.word-r1.ensures c.word-r2.ensures _ 1 _ refl c.byte.ensures.0 c.in-1.is c.if-body-ne10.false

pub returns-in-2 : goal.returns-in-2
returns-in-2 c = key_told _ _ _ c.word-r1.ensures c.word-r2.ensures _ 2 _ refl c.byte.ensures.0 c.in-2.is c.if-body-ne10.false

pub returns-in-3 : goal.returns-in-3
returns-in-3 c = key_told _ _ _ c.word-r1.ensures c.word-r2.ensures _ 3 _ refl c.byte.ensures.0 c.in-3.is c.if-body-ne10.false

pub returns-in-4 : goal.returns-in-4
returns-in-4 c = key_told _ _ _ c.word-r1.ensures c.word-r2.ensures _ 4 _ refl c.byte.ensures.0 c.in-4.is c.if-body-ne10.false

pub returns-in-5 : goal.returns-in-5
returns-in-5 c = key_told _ _ _ c.word-r1.ensures c.word-r2.ensures _ 5 _ refl c.byte.ensures.0 c.in-5.is c.if-body-ne10.false
