-- `channel_step`: a request that has answered stays, one that its own lines refuse is refused, and else the step is the CCW to come.
-- Assumes nothing.
use Rattle.std.proofs.Common.{◌∙◌, sym}
use Rattle.channel.proofs.Replies.{lines_pass, step_stays, step_refused, step_on, conditions_met, answered_by, under_way_by}
use Rattle.channel.proofs.channel_step.Goals as goal

pub next_ccw-requires : goal.next_ccw-requires
next_ccw-requires c = lines_pass _ _ _ _ (rw c.of.ensures at c.request_lines.ensures) c.in-Ok.is

pub returns-then-is_some : goal.returns-then-is_some
returns-then-is_some c =
    let stands = answered_by _ (sym c.is_some.ensures ∙ c.if-is_some.true) in
    let (met, done) = conditions_met _ _ _ _ (step_stays _ _ _ _ _ _ _ stands.1) in
    record { condition_1 = met; condition_2 = done }

pub returns-in-Err : goal.returns-in-Err
returns-in-Err c =
    let stands = under_way_by _ (sym c.is_some.ensures ∙ c.if-is_some.false) in
    let (met, done) = conditions_met _ _ _ _ (step_refused _ _ _ _ _ _ _ stands (rw c.of.ensures at c.request_lines.ensures) c.in-Err.is c.answered.ensures) in
    record { condition_1 = met; condition_2 = done }

pub returns-in-Ok : goal.returns-in-Ok
returns-in-Ok c =
    let stands = under_way_by _ (sym c.is_some.ensures ∙ c.if-is_some.false) in
    let (met, done) = conditions_met _ _ _ _ (step_on _ _ _ _ _ _ _ stands c.next_ccw.ensures) in
    record { condition_1 = met; condition_2 = done }
