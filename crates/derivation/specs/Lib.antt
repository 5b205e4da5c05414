pub mod Derivation
