-- Claims about turns of all parties: condition 3, any order of turns ends alike where the lists name units apart; and that a clean block is an
-- untouched block.
-- The units that a request of a processor names, and those that a step of the channel names
pub mod Units
pub mod ChannelUnits
-- Parties that take turns; the three lists and the claim; the claim over the processors' two lists, which follows
pub mod Parties
pub mod ThreeLists
pub mod TwoLists
-- A clean block is an untouched block (02, W7)
pub mod CleanUnits
-- The condition under its own name
pub mod Conditions
