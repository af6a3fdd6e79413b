pub mod StepLemmas
pub mod NodesLemmas
pub mod LengthLemmas
pub mod AcceptLemmas
pub mod SignerLemmas
