-- Condition 3.
-- The law of parties: actions on a state with parts, parties that take turns, works that come to an end, steps that are sequences of actions
pub mod Actions
pub mod Parties
pub mod Wholes
pub mod Sequences
-- A processor's request obeys the laws of actions
pub mod Named
pub mod Fetches
pub mod Parts
pub mod Dependence
pub mod Steps
-- An access to bytes under the channel's key obeys them
pub mod Reaches
-- A turn is a sequence of such actions
pub mod ChannelSteps
pub mod NamedModes
pub mod Endings
-- The claim
pub mod ThreeLists
pub mod TwoLists
pub mod Starts
pub mod TurnFacts
pub mod ChannelFacts
-- The turns of one request of the channel are its run
pub mod ChannelRuns
-- When a request of a processor names units at all; what a step of the channel names, by what it answers
pub mod Naming
pub mod ChannelNaming
-- A clean block is an untouched block: the law of a single turn, the claim, facts, its exception
pub mod ChangeBits
pub mod CleanUnits
pub mod CleanFacts
pub mod Exceptions
-- The condition
pub mod Conditions
