pub mod TermLengths
pub mod ProofLengths
pub mod EventLengths
