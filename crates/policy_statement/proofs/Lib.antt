pub mod DigestLemmas
pub mod RegistryLemmas
pub mod RingLemmas
pub mod WithdrawalLemmas
