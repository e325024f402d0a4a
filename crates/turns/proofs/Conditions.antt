-- Condition 3: the law about any order of three lists, and that against the lists one after another. Assumes nothing.
use Rattle.turns.specs.Conditions.{Condition3}
use Rattle.turns.proofs.ThreeLists.{any_order, one_after_another_lem}

pub condition_3 : Condition3
condition_3 = (any_order, one_after_another_lem)
