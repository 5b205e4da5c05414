-- What the proofs go through, lowest first.
pub mod Names
pub mod Sound
pub mod Steps
pub mod Stored
pub mod Chained
pub mod Induct
pub mod Posting
pub mod Opened
pub mod Booked
pub mod Filed
pub mod Delivery
pub mod FirstRow
pub mod Issued
pub mod Room
pub mod Clean
pub mod CleanRuns
pub mod Exchanged
