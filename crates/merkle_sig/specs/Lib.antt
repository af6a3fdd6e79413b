pub mod HashTree
pub mod Signature
pub mod Nodes
pub mod Signer
pub mod Laws
