-- The theorems: what Demands, Sessions, Chains, Ring and Numbers state.
pub mod Demand1
pub mod Demand2
pub mod Demand3
pub mod InCode
pub mod LetIn
pub mod WrongMac
pub mod AsPlain
pub mod Torn
pub mod Whole
pub mod Forms
pub mod Slots
pub mod Worn
pub mod Renumbered
pub mod Addressed
