-- Condition 3 under its own name; conditions 1 and 2 are in crate machine. It is a claim about the rules alone; condition 2 ties a routine to it.
use Rattle.turns.specs.ThreeLists.{AnyOrder, OneAfterAnother}

-- 3: three lists of requests whose named units are apart give the same result in any order of turns: that of the lists run whole one after
-- another, the channel's last
abbrev pub Condition3 : Type 0
Condition3 = AnyOrder × OneAfterAnother
