pub mod Fields
pub mod Fronts
pub mod IssuingRecord
pub mod OperationReading
pub mod OperationSpelling
pub mod Parts
pub mod RecordReading
pub mod RecordSpelling
