pub mod Laws
pub mod SecretLines
pub mod SecretsFile
