pub mod BuiltCommands
pub mod CommandLines
pub mod GivenSo
pub mod GivenWords
pub mod GivenPlaces
pub mod PlaceCommas
mod SeveralWords
mod Blank
pub mod Changes
mod Copied
mod NewFiles
mod Dumped
mod Restored
mod Served
mod ServedClients
mod CrowdedSaid
mod ServingOrders
mod OnlyRead
mod Switched
mod Taken
mod ToldPlaces
mod Earlier
mod ExplainedEarlier
mod RefusedRuns
mod EventLines
pub mod Lasting
pub mod Machine
pub mod ScriptEnds
pub mod UsageTold
mod FaultMessages
mod GivenJournals
mod Makings
