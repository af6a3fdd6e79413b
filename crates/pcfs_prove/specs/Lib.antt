pub mod VerifyLine
