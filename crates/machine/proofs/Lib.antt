-- The laws of the rules.
-- Runs of writes, verdicts, and the table of small facts
pub mod Written
pub mod Verdicts
pub mod Tests
pub mod SmallFacts
-- A single request of a processor
pub mod Prefixing
pub mod Units
pub mod UnitBytes
pub mod KeyBytes
pub mod AbsoluteAddress
pub mod BeforeProtection
pub mod Requests
pub mod OwnRecord
pub mod AnswerPlace
pub mod Accesses
pub mod KeyInstructions
-- The rules held to the sentences of the documents: the table, key and prefix instructions, and rows computed
pub mod TableLines
pub mod Sentences
pub mod Summary
pub mod Refusals
pub mod Instructions
pub mod PrefixInstructions
pub mod AnswerRule
pub mod PrintedTable
pub mod Rows
-- A request over the pair of records
pub mod Pairs
pub mod Order
-- The channel
pub mod ChannelSteps
pub mod ChannelRuns
pub mod ChannelSentences
pub mod ChannelRows
-- Conditions 1 and 2
pub mod Conditions
